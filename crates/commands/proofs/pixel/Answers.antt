use mathlib.Core.Path.{refl, ◌∙◌, subst}
use Rattle.art.specs.Stores.{lent}
use Rattle.lookup.specs.Looking.{looked, looked_numbers}
use Rattle.wire.specs.Saying.{Says}
use Rattle.commands.specs.Reading.{page_at}
use Rattle.commands.specs.Telling.{pixel_told}
use Rattle.commands.proofs.pixel.Goals as goal

pub returns : goal.returns
unfolding pixel_told page_at
returns c =
    let a = c.args in
    let e = c.pixel.ensures.value
    ∙ (λ i. looked a.l (lent a.stores) (record { 0 = c.word.ensures i }) (c.word-x.ensures i) (c.word-y.ensures i)) in
    record { says = subst (λ o. Says (looked_numbers o) c.looked-answer.result) e c.looked-answer.ensures; layout = refl }
