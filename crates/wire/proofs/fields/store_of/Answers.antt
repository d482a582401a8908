use borrow.Author.Tests.{eq-eqb, ne_eqb}
use Rattle.wire.specs.Fields.{store_of}
use Rattle.wire.proofs.fields.store_of.Goals as goal

-- `store_of` gives the one or the other. Assumes nothing.
pub returns-then-n-eq0 : goal.returns-then-n-eq0
unfolding store_of
returns-then-n-eq0 c = rw (eq-eqb _ _ c.if-n-eq0.true)

pub returns-else-n-eq0 : goal.returns-else-n-eq0
unfolding store_of
returns-else-n-eq0 c = rw (ne_eqb _ _ c.if-n-eq0.false)
