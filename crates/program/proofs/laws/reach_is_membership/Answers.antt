use Rattle.std.proofs.Common.{refl, subst}
use Rattle.semantics.specs.Program.{Within}
use Rattle.program.specs.Rows.{row_count, at_row}
use Rattle.program.proofs.Reaching.{within_reached, reached_within}
use Rattle.program.proofs.laws.reach_is_membership.Goals as goal

pub returns : goal.returns
returns c xs i q v l = (
  λ w. within_reached xs (row_count xs) v.order w i l refl,
  λ k r e. subst (λ p. Within p (at_row xs i)) e (reached_within xs (row_count xs) v.order k l r),
)
