-- What the functions of this crate ask and tell each other.
-- Assumes nothing.
use Rattle.std.specs.Prelude.{◌+◌, ◌<◌, [], ◌∷◌, Float}
use Rattle.geometry.specs.declared.rect.Rect.{Rect}
use Rattle.geometry.specs.declared.rect.Size.{Size}
use Rattle.records.specs.Refusals.{first_refusal}
use Rattle.records.specs.declared.refusal.Refusal.TheVariants.{BadInset, PastPage}
use Rattle.coords.specs.Coordinates.{Located, corners, bad_inset, past_edge, out_of_page, wanted, locate_answer}
use Rattle.coords.specs.declared.locate.Request.{Request}
use Rattle.coords.specs.declared.locate.Position.TheVariants.{Texels}

-- an f32 holds every whole number below 2 ^ 24
pub record Countable (f : Rect) (s : Size) : Type 0 where
  pub right : f.x + f.w < 16777216
  pub bottom : f.y + f.h < 16777216
  pub width : s.w < 16777216
  pub height : s.h < 16777216

-- the row past 2, 15 and 17, and the four numbers
abbrev pub texel_answer : Rect → Size → Float → Located
texel_answer f s i = locate_answer (Texels (corners f s i)) (first_refusal ((past_edge f s, PastPage) ∷ []))

-- the row past 2 and 15, and what is wanted
abbrev pub requested : Request → Rect → Size → Located
requested q f s = locate_answer (wanted q f s) (first_refusal ((bad_inset q, BadInset) ∷ (out_of_page q f s, PastPage) ∷ []))
