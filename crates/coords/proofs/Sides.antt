-- The four numbers of a frame on its page, together: exact where the sides are powers of two, no NaN, and an inset of 0 is the edge. Assumes nothing.
use Prim.Native.Nat.{ℕ, ◌+◌, ◌*◌, ◌^◌, ◌≤◌, ◌<◌}
use native.Mathlib.Omega.{arith}
use native.Mathlib.Nat.{le_of_lt}
use mathlib.Core.Path.{◌≡◌, refl, sym, ◌∙◌, subst}
use mathlib.Core.Bool.{Bool, true, false, ◌||◌, beq}
use lib.Dec.{T, leb, eqb}
use lib.Pow.{pow_mono}
use lib.Ieee.{Float, nan, inf, fin, up, down, below, level, lt, eq, le, is_nan}
use lib.Ieee.Fits.{down_pos}
use lib.Ieee.Scale.{finite}
use borrow.Author.Tests.{leb-true, leb-false, eq-eqb, lt-ltb}
use Rattle.geometry.specs.declared.rect.Rect.{Rect}
use Rattle.geometry.specs.declared.rect.Size.{Size}
use Rattle.geometry.proofs.Words.{both}
use Rattle.coords.specs.Coordinates.{nought, low_edge, high_edge, corners, between}
use Rattle.coords.specs.Bits.{Exact, PowerOfTwo, AllExact}
use Rattle.coords.specs.Parts.{Countable}
use Rattle.coords.specs.declared.locate.Corners.{Corners}
use Rattle.coords.proofs.Quotients.{zero-size, low-is, high_is}
use Rattle.coords.proofs.Exactness.{low_exact, high_exact}
use Rattle.coords.proofs.NotNan.{low-number, high_number}

-- ## exact

small_power : (n k : ℕ) → n < 16777216 → n ≡ 2 ^ k → k ≤ 24
small_power n k h e = go (leb k 24) refl
  where
    go : (b : Bool) → leb k 24 ≡ b → k ≤ 24
    go true t = leb-true k 24 t
    go false t = let more : 2 ^ 24 ≤ 2 ^ k = pow_mono (le_of_lt (leb-false k 24 t)) in absurd (omega arith)

module _ (x side : ℕ) (hx : x < 16777216) (hs : side < 16777216) (i : Float) (zero-i : T (eq i nought)) where
  low_side : PowerOfTwo side → Exact (low_edge x i side) x side
  low_side p = subst (λ (n : ℕ). Exact (low_edge x i n) x n) (sym p.1) (low_exact x p.0 hx (small_power side p.0 hs p.1) i zero-i)

  high_side : PowerOfTwo side → Exact (high_edge x i side) x side
  high_side p = subst (λ (n : ℕ). Exact (high_edge x i n) x n) (sym p.1) (high_exact x p.0 hx (small_power side p.0 hs p.1) i zero-i)

pub corners_exact : (f : Rect) (s : Size) → Countable f s → (i : Float) → T (eq i nought) → AllExact f s (corners f s i)
unfolding corners
corners_exact f s n i t = record {
  left = low_side f.x s.w (omega (arith, n.right)) n.width i t;
  top = low_side f.y s.h (omega (arith, n.bottom)) n.height i t;
  right = high_side (f.x + f.w) s.w n.right n.width i t;
  bottom = high_side (f.y + f.h) s.h n.bottom n.height i t;
}

-- ## no NaN

pub record AreNumbers (c : Corners) : Type 0 where
  pub left : is_nan c.left ≡ false
  pub top : is_nan c.top ≡ false
  pub right : is_nan c.right ≡ false
  pub bottom : is_nan c.bottom ≡ false

module _ (f : Rect) (s : Size) (n : Countable f s) (wide : 0 < s.w) (tall : 0 < s.h) where
  pub corners-numbers : (i : Float) → finite i ≡ true → AreNumbers (corners f s i)
  unfolding corners
  corners-numbers i t = record {
    left = low-number f.x s.w (omega (arith, n.right)) (omega (arith, n.width)) wide i t;
    top = low-number f.y s.h (omega (arith, n.bottom)) (omega (arith, n.height)) tall i t;
    right = high_number (f.x + f.w) s.w (omega (arith, n.right)) (omega (arith, n.width)) wide i t;
    bottom = high_number (f.y + f.h) s.h (omega (arith, n.bottom)) (omega (arith, n.height)) tall i t;
  }

  -- ## an inset of 0, of either sign

  pub zero-corners : (i : Float) → T (eq i nought) → corners f s i ≡ corners f s nought
  unfolding corners eq
  zero-corners i t =
      let left = both_low f.x s.w (omega (arith, n.right)) (omega (arith, n.width)) wide in
      let top = both_low f.y s.h (omega (arith, n.bottom)) (omega (arith, n.height)) tall in
      let right = both_high (f.x + f.w) s.w (omega (arith, n.right)) (omega (arith, n.width)) wide in
      let bottom = both_high (f.y + f.h) s.h (omega (arith, n.bottom)) (omega (arith, n.height)) tall in
      λ j. record { left = left j; top = top j; right = right j; bottom = bottom j }
    where
      both_low : (x w : ℕ) → x ≤ 16777216 → w ≤ 16777216 → 0 < w → low_edge x i w ≡ low_edge x nought w
      both_low x w hx hw wp = low-is x w hx hw wp i t ∙ sym (low-is x w hx hw wp nought tt)

      both_high : (x w : ℕ) → x ≤ 16777216 → w ≤ 16777216 → 0 < w → high_edge x i w ≡ high_edge x nought w
      both_high x w hx hw wp = high_is x w hx hw wp i t ∙ sym (high_is x w hx hw wp nought tt)

or_right : (a b : Bool) → b ≡ true → (a || b) ≡ true
or_right true b e = refl
or_right false b e = e

or_left : (a b : Bool) → a ≡ true → (a || b) ≡ true
or_left true b e = refl
or_left false b e = let z : false ≡ true = e in cc

-- where ±a is 0: 0 is at most it, and it is at most half of 2u
module _ (s : Bool) (a u : ℕ) (z : a ≡ 0) (some-u : 0 < u) where
  from_zero : (below false (0 * 1 * u) s (a * 1) || level false (0 * 1 * u) s (a * 1)) ≡ true
  from_zero =
      or_right (below false (0 * 1 * u) s (a * 1)) (level false (0 * 1 * u) s (a * 1))
      (both (eq-eqb (0 * 1 * u) (a * 1) (omega arith)) (or_right (beq false s) (eqb (0 * 1 * u) 0) (eq-eqb (0 * 1 * u) 0 (omega arith))))

  to_half : (below s (a * 2) false (1 * 1 * u) || level s (a * 2) false (1 * 1 * u)) ≡ true
  to_half = or_left (below s (a * 2) false (1 * 1 * u)) (level s (a * 2) false (1 * 1 * u)) (go s)
    where
      go : (b : Bool) → below b (a * 2) false (1 * 1 * u) ≡ true
      go true = lt-ltb 0 (a * 2 + 1 * 1 * u) (omega arith)
      go false = lt-ltb (a * 2) (1 * 1 * u) (omega arith)

pub zero-between : (i : Float) → T (eq i nought) → between i ≡ true
unfolding between le lt eq
zero-between nan t = absurd t
zero-between (inf s) t = absurd t
zero-between (fin s m d) t =
    let z = zero-size s m d t in
    both (from_zero s (m * up d) (down d) z (down_pos d)) (to_half s (m * up d) (down d) z (down_pos d))
