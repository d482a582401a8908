use mathlib.Core.Path.{refl}
use Rattle.wire.specs.Fields.{is_on}
use Rattle.wire.proofs.fields.is_on.Goals as goal

-- `is_on` is the definition. Assumes nothing.
pub returns : goal.returns
unfolding is_on
returns c = refl
