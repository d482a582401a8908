use mathlib.Core.Path.{refl}
use Rattle.wire.specs.Fields.{is_field}
use Rattle.wire.proofs.fields.is_field.Goals as goal

-- `is_field` is the definition. Assumes nothing.
pub returns : goal.returns
unfolding is_field
returns c = refl
