use mathlib.Core.Path.{◌∙◌}
use Rattle.skyline.proofs.Search.{outside, inside_under}
use Rattle.skyline.proofs.skyline.Segments.fits_at.Goals as goal

pub returns-in-None : goal.returns-in-None
returns-in-None c f lv = outside f _ _ _ c.in-None.ensures

pub returns-in-Some : goal.returns-in-Some
returns-in-Some c f lv = c.stays_under.ensures f lv ∙ inside_under f _ _ _ _ _ c.in-Some.ensures
