-- A whole number below 2 ^ 24 as an f32: what the cast asks. Assumes nothing.
use Prim.Native.Nat.{ℕ, ◌<◌}
use native.Mathlib.Nat.{le_of_lt}
use lib.Dec.{T, le→leb}
use lib.IntN.{pos}
use lib.Ieee.{binary32, in_float}

pub in_float_lem : (n : ℕ) → n < 16777216 → T (in_float binary32 (pos n))
unfolding in_float
in_float_lem n h = le→leb n 16777216 (le_of_lt h)
