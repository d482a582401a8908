use mathlib.Core.Path.{refl, ◌∙◌, subst}
use Rattle.records.specs.Operations.{page_sized, sized_numbers}
use Rattle.wire.specs.Saying.{Says}
use Rattle.commands.specs.Reading.{page_at}
use Rattle.commands.specs.Telling.{size_told}
use Rattle.commands.proofs.page_size.Goals as goal

pub returns : goal.returns
unfolding size_told page_at
returns c =
    let e = c.page_size.ensures.value ∙ (λ i. page_sized c.args.l (record { 0 = c.word.ensures i })) in
    record { says = subst (λ o. Says (sized_numbers o) c.sized-answer.result) e c.sized-answer.ensures; layout = refl }
