use Rattle.std.proofs.Common.{Err, sym, ap, ◌∙◌}
use Rattle.std.proofs.lemmas.Result.{err_from_is_err_and}
use Rattle.purse.proofs.Words.{by_no_words, by_one_more}
use Rattle.purse.proofs.reader.Text.take_line.Goals as goal

pub loop-word-init : goal.loop-word-init
loop-word-init c = by_no_words _

pub loop-word-preserved : goal.loop-word-preserved
loop-word-preserved c = by_one_more c.loop-word.invariant c.in_ok-take_word.ensures.fits

pub returns-in_err-take_word-clause-misfits : goal.returns-in_err-take_word-clause-misfits
returns-in_err-take_word-clause-misfits c e =
    let p = err_from_is_err_and c.from_residual.result c.from_residual.ensures.1 in
    let same = c.in_err-take_word.was ∙ (ap Err (sym p.2) ∙ (sym p.1 ∙ e)) in
    by_one_more c.loop-word.invariant (c.take_word.ensures.misfits same)
