use native.Mathlib.Omega.{arith}
use mathlib.Core.Path.{ap}
use borrow.Author.Tests.{ne_eqb}
use Rattle.coords.specs.declared.locate.Request.TheVariants.{Inset}
use Rattle.commands.specs.Reading.{request_of}
use Rattle.commands.proofs.request_of.Goals as goal

-- `request_of` gives one of the three. Assumes nothing.
pub returns-in-0 : goal.returns-in-0
unfolding request_of
returns-in-0 c = rw c.in-0.is

pub returns-in-1 : goal.returns-in-1
unfolding request_of
returns-in-1 c = rw c.in-1.is

pub returns-in_default : goal.returns-in_default
unfolding request_of
returns-in_default c = rw (ne_eqb c.args.request 0 (omega arith), ne_eqb c.args.request 1 (omega arith)) (ap Inset c.number_of_bits.ensures)
