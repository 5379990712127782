use Rattle.std.proofs.Common.{Ok, Err}
use Rattle.interpreter.proofs.Entering.{answer_says, says_numbers}
use Rattle.interpreter.proofs.entries.run_it.Goals as goal

pub returns-in-Ok : goal.returns-in-Ok
returns-in-Ok c =
    let says = answer_says _ _ _ _ (Ok c.in-Ok.ran) _ _ _ c.in-Ok.ensures c.into.ensures in
    record { says = says; numbers = says_numbers _ _ _ _ _ _ _ _ says }

pub returns-in-Err : goal.returns-in-Err
returns-in-Err c =
    let says = answer_says _ _ _ _ (Err c.in-Err.error) _ _ _ c.in-Err.ensures c.into-in-Err.ensures in
    record { says = says; numbers = says_numbers _ _ _ _ _ _ _ _ says }
