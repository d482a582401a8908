-- What composing makes of a pixel, or of none.
-- Assumes nothing.
use Rattle.std.specs.Prelude.{ℕ, Bool, cond, Option as Maybe, Some, None, leb}
use Rattle.std.proofs.Math.Option.{Option, none, some}
use Rattle.art.specs.declared.memory_rgba8_texture.Pixel.{Pixel}
use Rattle.paint.specs.declared.background.Colour.{Colour}

-- no background, or a colour
abbrev pub Background : Type 0
Background = Maybe Colour

unfoldable pub clear_pixel : Pixel
clear_pixel = record { r = 0; g = 0; b = 0; a = 0 }

-- alpha becomes 255 if the discard switch is on
unfoldable pub solid : Bool → Pixel → Pixel
solid discard k = cond discard (record { r = k.r; g = k.g; b = k.b; a = 255 }) k

-- with no background: pixel or 0,0,0,0. With background colour c: no pixel gives c; with a threshold t set, alpha at most t gives c, and
-- above t alpha becomes 255 if the discard switch is on; without a threshold the switch does nothing
abbrev pub over : Maybe ℕ → Colour → Pixel → Pixel
over None c k = k
over (Some t) c k = cond (leb k.a t) c.pixel (solid c.discard k)

unfoldable pub composed : Background → Option Pixel → Pixel
composed None none = clear_pixel
composed None (some k) = k
composed (Some c) none = c.pixel
composed (Some c) (some k) = over c.threshold c k
