use mathlib.Core.Path.{ap, ◌∙◌, subst}
use Rattle.records.specs.Operations.{opened, opened_numbers}
use Rattle.wire.specs.Saying.{Says}
use Rattle.commands.specs.Telling.{open_told}
use Rattle.commands.proofs.open.Goals as goal

pub returns : goal.returns
unfolding open_told
returns c =
    let e = c.open-o.ensures.value ∙ ap opened c.config_at.ensures in
    record { says = subst (λ o. Says (opened_numbers o.answer) c.opened.result) e c.opened.ensures; layout = ap (λ o. o.layout) e }
