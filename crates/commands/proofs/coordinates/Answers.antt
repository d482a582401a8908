use mathlib.Core.Path.{refl, ◌∙◌, subst}
use Rattle.coords.specs.Coordinates.{located, located_numbers}
use Rattle.wire.specs.Saying.{Says}
use Rattle.commands.specs.Reading.{key_at, request_of}
use Rattle.commands.specs.Telling.{locate_told}
use Rattle.commands.proofs.coordinates.Goals as goal

pub returns : goal.returns
unfolding locate_told key_at
returns c =
    let l = c.args.l in
    let request = c.request_of.ensures ∙ (λ i. request_of (c.word-request.ensures i) (c.word-bits.ensures i)) in
    let e = c.coordinates.ensures.value ∙ (λ i. located l (record { 0 = c.word.ensures i }) (request i)) in
    record { says = subst (λ o. Says (located_numbers o) c.located-answer.result) e c.located-answer.ensures; layout = refl }
