use Rattle.geometry.specs.declared.spot.Turn.TheVariants.{Turned}
use Rattle.geometry.proofs.Fitting.{lying-pixels}
use Rattle.skyline.proofs.Search.{try_turned, try_upright}
use Rattle.skyline.proofs.skyline.Segments.try_at.Goals as goal

pub can_put-requires-then-rotation-clause-i_lt_n : goal.can_put-requires-then-rotation-clause-i_lt_n
can_put-requires-then-rotation-clause-i_lt_n c = (c.requires.i_lt_n.0, rw c.lying_size-turned.ensures (lying-pixels Turned _ c.requires.i_lt_n.1).tall)

pub returns-then-rotation : goal.returns-then-rotation
returns-then-rotation c f lv =
    try_turned f _ _ _ _ _ _ _ _ _ c.if-rotation.true (c.can_put.ensures f lv) c.choose-a.ensures
    (rw c.lying_size-turned.ensures at (c.can_put-then-rotation.ensures f lv))
    c.choose.ensures

pub returns-else-rotation : goal.returns-else-rotation
returns-else-rotation c f lv = try_upright f _ _ _ _ _ _ _ c.if-rotation.false (c.can_put.ensures f lv) c.choose-a.ensures
