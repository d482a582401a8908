use mathlib.Core.Path.{refl, ◌∙◌, subst}
use Rattle.rules.specs.Operations.{asked, asked_numbers}
use Rattle.wire.specs.Saying.{Says}
use Rattle.commands.specs.Reading.{page_at, size_at}
use Rattle.commands.specs.Telling.{ask_told}
use Rattle.commands.proofs.ask.Goals as goal

pub returns : goal.returns
unfolding ask_told page_at size_at
returns c =
    let l = c.args.l in
    let e = c.ask.ensures.value ∙ (λ i. asked l (record { 0 = c.word.ensures i }) (record { w = c.word-w.ensures i; h = c.word-h.ensures i })) in
    record { says = subst (λ o. Says (asked_numbers o) c.asked-answer.result) e c.asked-answer.ensures; layout = refl }
