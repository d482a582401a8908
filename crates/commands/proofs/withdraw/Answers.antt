use mathlib.Core.Path.{ap, subst}
use Rattle.rules.specs.Operations.{withdrawn_numbers}
use Rattle.wire.specs.Saying.{Says}
use Rattle.commands.specs.Telling.{withdraw_told}
use Rattle.commands.proofs.withdraw.Goals as goal

pub returns : goal.returns
unfolding withdraw_told
returns c =
    let e = c.withdraw-gone.ensures.value in
    record { says = subst (λ o. Says (withdrawn_numbers o.answer) c.withdrawn.result) e c.withdrawn.ensures; layout = ap (λ o. o.layout) e }
