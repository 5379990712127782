use Rattle.std.proofs.Common.{sym, le_of_eq}
use Rattle.interpreter.proofs.Entering.{not_small}
use Rattle.interpreter.proofs.entries.run_at_price.Goals as goal

pub unwrap-requires : goal.unwrap-requires
unwrap-requires c = not_small _ _ _ _ _ _ (le_of_eq (sym c.in_ok-admitted.admitted.priced)) c.run_saved.ensures
