use Rattle.std.proofs.Common.{sym, ap, ◌∙◌}
use Rattle.std.specs.Result.{is_ok}
use Rattle.purse.proofs.Words.{by_no_words, by_more_words, of_ok}
use Rattle.purse.proofs.reader.read.Goals as goal

pub loop-line-init : goal.loop-line-init
loop-line-init c = by_no_words _

pub loop-line-preserved : goal.loop-line-preserved
loop-line-preserved c = by_more_words c.loop-line.invariant (of_ok _ (sym c.map_err.ensures.variant ∙ ap is_ok c.in_ok-map_err.was) c.take_line.ensures.fits)
