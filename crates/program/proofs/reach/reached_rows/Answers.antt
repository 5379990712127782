use Rattle.std.proofs.Common.{◌≡◌, ℕ, ◌-◌, true, false, set, replicate, sym, ap, ◌∙◌, subst, subst₂, arith}
use Rattle.program.specs.Reach.{marked}
use Rattle.program.specs.Rows.{row_count}
use Rattle.program.proofs.Marking.{Passed, none_passed, pass_marked, all_passed}
use Rattle.program.proofs.Validated.{valid_of}
use Rattle.program.proofs.reach.reached_rows.Goals as goal

pub loop-row-init : goal.loop-row-init
loop-row-init c =
    let xs = c.args.program.numbers.now in
    let last : row_count xs - 1 ≡ c.last_row-last.result = omega arith in
    subst₂ (λ (n m : ℕ). Passed xs n (set (replicate 256 false) m true)) (sym c.row_count-row.ensures.count) last (none_passed xs (valid_of c.args.program))

pub loop-row-preserved-then-table-row : goal.loop-row-preserved-then-table-row
loop-row-preserved-then-table-row c =
    let xs = c.args.program.numbers.now in
    subst (Passed xs (c.loop-row.row - 1)) (sym (c.mark.ensures ∙ ap (marked c.loop-row.table) c.named.ensures))
    (pass_marked xs (valid_of c.args.program) c.loop-row.row c.loop-row.table c.loop-row-test.true c.loop-row.invariant c.row_at.result (omega arith) c.if-table-row.true c.row_at.ensures.row c.row_at.ensures.earlier)

pub returns : goal.returns
returns c =
    let xs = c.args.program.numbers.now in
    let z : c.loop-row.row ≡ 0 = omega arith in
    all_passed xs (valid_of c.args.program) c.loop-row.table (subst (λ (n : ℕ). Passed xs n c.loop-row.table) z c.loop-row.invariant)
