use Rattle.std.proofs.Common.{true}
use Rattle.purse.specs.Words.{ByWords}
use Rattle.purse.proofs.reader.Text.take_line.Given as goal

-- the words so far fit
abbrev pub invariant-loop-word : goal.invariant-loop-word
invariant-loop-word l = ByWords l.initial.self l.self true
