use mathlib.Core.Path.{ap, ◌∙◌, subst}
use Rattle.art.specs.Stores.{lent}
use Rattle.rules.specs.Operations.{offered, offered_numbers}
use Rattle.wire.specs.Fields.{store_of}
use Rattle.wire.specs.Saying.{Says}
use Rattle.commands.specs.Reading.{key_at, image_at}
use Rattle.commands.specs.Telling.{offer_told}
use Rattle.commands.proofs.offer.Goals as goal

pub returns : goal.returns
unfolding offer_told key_at image_at
returns c =
    let a = c.args in
    let key = c.word.ensures in
    let store = c.store_of-store.ensures ∙ ap store_of c.word-2.ensures in
    let e = c.offer-o.ensures.value
    ∙ (λ i. offered a.l (lent a.stores) (record { 0 = key i }) (record { store = store i; offset = c.word-offset.ensures i; w = c.word-w.ensures i; h = c.word-h.ensures i })) in
    record { says = subst (λ o. Says (offered_numbers o.answer) c.offered.result) e c.offered.ensures; layout = ap (λ o. o.layout) e }
