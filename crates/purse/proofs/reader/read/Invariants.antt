use Rattle.std.proofs.Common.{true}
use Rattle.purse.specs.Words.{ByWords}
use Rattle.purse.proofs.reader.read.Given as goal

-- the words of the lines so far fit
abbrev pub invariant-loop-line : goal.invariant-loop-line
invariant-loop-line l = ByWords l.initial.text l.text true
