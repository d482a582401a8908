use mathlib.Core.Path.{◌∙◌, sym}
use Rattle.geometry.specs.Placing.{lying}
use Rattle.skyline.proofs.Search.{any_upright, any_turned, any_neither}
use Rattle.skyline.proofs.skyline.Segments.fits_some.Goals as goal

pub returns-then-fits_at : goal.returns-then-fits_at
unfolding lying
returns-then-fits_at c f lv = any_upright _ _ (sym c.if-fits_at.true ∙ c.fits_at.ensures f lv)

pub returns-then-rotation : goal.returns-then-rotation
unfolding lying
returns-then-rotation c f lv =
    rw c.lying_size.ensures at (c.fits_at-then-rotation.ensures f lv)
    ∙ any_turned _ _ c.if-rotation.true (sym c.if-fits_at.false ∙ c.fits_at.ensures f lv)

pub returns-else-rotation : goal.returns-else-rotation
unfolding lying
returns-else-rotation c f lv = c.if-rotation.false ∙ any_neither _ _ c.if-rotation.false (sym c.if-fits_at.false ∙ c.fits_at.ensures f lv)
