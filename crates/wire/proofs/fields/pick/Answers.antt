use borrow.Author.Tests.{eq-eqb, ne_eqb}
use Rattle.wire.specs.Fields.{picked}
use Rattle.wire.proofs.fields.pick.Goals as goal

-- `pick` gives the one or the other. Assumes nothing.
pub returns-then-field-is : goal.returns-then-field-is
unfolding picked
returns-then-field-is g c = rw (eq-eqb _ _ c.if-field-is.true)

pub returns-else-field-is : goal.returns-else-field-is
unfolding picked
returns-else-field-is g c = rw (ne_eqb _ _ c.if-field-is.false)
