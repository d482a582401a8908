use mathlib.Core.Path.{refl}
use native.Mathlib.Omega.{arith}
use Rattle.records.proofs.Checks.{bounded}
use Rattle.rules.specs.Placing.{cell_size, margin}
use Rattle.faithful.proofs.placing.cell_size.Goals as goal

pub overflow_mul-m : goal.overflow_mul-m
overflow_mul-m c = let b = bounded _ c.args.c.tested in omega (arith, b.extrusion)

pub overflow_add-m : goal.overflow_add-m
overflow_add-m c = let b = bounded _ c.args.c.tested in omega (arith, b.extrusion, b.padding)

pub overflow_add-result : goal.overflow_add-result
overflow_add-result c = let b = bounded _ c.args.c.tested in omega (arith, b.extrusion, b.padding, c.requires.few_w)

pub overflow_add-result-2 : goal.overflow_add-result-2
overflow_add-result-2 c = let b = bounded _ c.args.c.tested in omega (arith, b.extrusion, b.padding, c.requires.few_h)

pub returns : goal.returns
unfolding cell_size margin
returns c = (refl, record { wide = omega (arith, c.requires.some_w); tall = omega (arith, c.requires.some_h) })
