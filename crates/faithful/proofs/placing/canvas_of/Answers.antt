use mathlib.Core.Path.{refl}
use Rattle.records.proofs.Checks.{bounded}
use Rattle.rules.specs.Placing.{canvas}
use Rattle.faithful.proofs.placing.canvas_of.Goals as goal

pub overflow_sub-result : goal.overflow_sub-result
overflow_sub-result c = (bounded _ c.args.c.tested).tall

pub returns : goal.returns
unfolding canvas
returns c = refl
