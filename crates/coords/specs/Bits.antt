-- What the bits of an f32 stand for, and when the four numbers are exact.
-- Assumes nothing.
use Rattle.std.specs.Prelude.{ℕ, zero, suc, ◌+◌, ◌*◌, ◌/◌, ◌%◌, ◌^◌, ◌<◌, ◌≡◌, Bool, true, false, Float}
use Rattle.std.specs.Float.{binary32}
use Rattle.std.specs.Float.Ieee.{to_bits, eq}
use Rattle.geometry.specs.declared.rect.Rect.{Rect}
use Rattle.geometry.specs.declared.rect.Size.{Size}
use Rattle.coords.specs.Coordinates.{nought}
use Rattle.coords.specs.declared.locate.Corners.{Corners}
use Rattle.coords.specs.declared.locate.Request.{Request}
use Rattle.coords.specs.declared.locate.Request.TheVariants.{Pixels as AskPixels, Edges, Inset}

-- The whole number that the bits of an f32 stand for, in units of 2 ^ -149, its sign aside. Below the sign stand 8 digits of exponent and 23 more: where the
-- exponent is 0 those 23 alone, else those 23 below a leading one, moved up by one place less than the exponent says.
unfoldable pub decoded_fields : ℕ → ℕ → ℕ
decoded_fields zero t = t
decoded_fields (suc x) t = (8388608 + t) * 2 ^ x

unfoldable pub decoded : ℕ → ℕ
decoded b = decoded_fields (b % 2147483648 / 8388608) (b % 8388608)

-- the number is exact: its sign is clear, and its decoded bits times the side give the pixel column or row, in the same units
pub record Exact (v : Float) (at side : ℕ) : Type 0 where
  pub sign : to_bits binary32 v < 2147483648
  pub times : decoded (to_bits binary32 v) * side ≡ at * 2 ^ 149

-- i is 0, of either sign
abbrev pub inset_nought : Request → Bool
inset_nought AskPixels = false
inset_nought Edges = true
inset_nought (Inset i) = eq i nought

abbrev pub PowerOfTwo : ℕ → Type 0
PowerOfTwo side = (k : ℕ) × (side ≡ 2 ^ k)

-- each of the four numbers whose side is a power of two is exact
pub record AllExact (f : Rect) (s : Size) (c : Corners) : Type 0 where
  pub left : PowerOfTwo s.w → Exact c.left f.x s.w
  pub top : PowerOfTwo s.h → Exact c.top f.y s.h
  pub right : PowerOfTwo s.w → Exact c.right (f.x + f.w) s.w
  pub bottom : PowerOfTwo s.h → Exact c.bottom (f.y + f.h) s.h
