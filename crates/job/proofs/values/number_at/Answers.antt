use mathlib.Core.Path.{sym, ap, ◌∙◌, refl}
use mathlib.Core.List.{[]}
use Rattle.job.specs.Numbers.{number_in}
use Rattle.job.specs.Words.{split}
use Rattle.job.proofs.Digits.{none}
use Rattle.job.proofs.Picked.{picked, past}
use Rattle.job.proofs.values.number_at.Goals as goal

pub returns-in_err-word : goal.returns-in_err-word
returns-in_err-word c =
    c.from_residual.ensures
    ∙ sym (ap number_in (sym (past (split c.args.line.now) c.args.n c.word_at.ensures c.in_err-word.was)) ∙ none [] refl)

pub returns : goal.returns
returns c =
    c.number_of.ensures
    ∙ ap number_in (picked (split c.args.line.now) c.args.n c.in_ok-word.word c.word_at.ensures c.in_ok-word.was)
