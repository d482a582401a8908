-- Over a side that is a power of two nothing is rounded, and the bits say so. Assumes nothing.
use mathlib.Core.Path.{◌≡◌, sym, ap, ◌∙◌, subst}
use mathlib.Core.Bool.{Bool, true, false, cond}
use Prim.Native.Nat.{ℕ, zero, suc, ◌+◌, ◌-◌, ◌*◌, ◌/◌, ◌%◌, ◌^◌, ◌≤◌, ◌<◌}
use native.Mathlib.Nat.{le_of_lt, lt_of_lt_of_le, mul-one, mul_assoc, mul_right_comm, eq_of_mul-eq-mul_right}
use native.Mathlib.Omega.{arith}
use lib.Dec.{T, eqb, leb}
use lib.Pow.{pow-add, pow_pos, pow_mono, shl_lt}
use lib.Ieee.{Float, nan, inf, fin, binary32, down, up, round, add, sub, odd, of_fields, of_bits, to_bits, fits, eq}
use lib.Ieee.Bits.{of_bits-to_bits}
use lib.Ieee.Fits.{down_pos, div-fits}
use lib.Ieee.Exact.{HasValue, round_exact, odd_sign}
use borrow.Author.Tests.{leb-false}
use Rattle.coords.specs.Coordinates.{nought, num, low_edge, high_edge}
use Rattle.coords.specs.Bits.{decoded_fields, decoded, Exact}
use Rattle.coords.proofs.Quotients.{low-is, high_is}

-- ## a power of two

back_to : (k : ℕ) → k ≤ 24 → 149 - k + k ≡ 149
back_to k h = omega arith

room : (k : ℕ) → 24 + (149 - k) ≤ 149 + 128
room k = omega arith

exact : (x k : ℕ) → x < 16777216 → k ≤ 24 → HasValue (round binary32 false x (2 ^ k)) false x (2 ^ k)
exact x k hx hk =
    round_exact binary32 false x (2 ^ k) x (149 - k) (pow_pos k) hx (lt_of_lt_of_le (shl_lt 24 (149 - k) hx) (pow_mono (room k)))
    (ap (λ (z : ℕ). x * 2 ^ z) (sym (back_to k hk))
    ∙ ap (λ (z : ℕ). x * z) (pow-add 2 (149 - k) k)
    ∙ sym (mul_assoc x (2 ^ (149 - k)) (2 ^ k)))

-- ## the bits of a number that is a / c

-- a number has one size and one sign
same_size : (y : Float) (s t : Bool) (a c b d : ℕ) → HasValue y s a c → HasValue y t b d → a * d ≡ b * c
same_size nan s t a c b d h k = absurd h
same_size (inf r) s t a c b d h k = absurd h
same_size (fin r m e) s t a c b d h k =
    eq_of_mul-eq-mul_right (down e) (down_pos e) (a * d) (b * c)
    (mul_right_comm a d (down e)
    ∙ ap (λ (z : ℕ). z * d) (sym h.1)
    ∙ mul_right_comm (m * up e) c d
    ∙ ap (λ (z : ℕ). z * c) k.1
    ∙ mul_right_comm b (down e) c)

same_sign : (y : Float) (s t : Bool) (a c b d : ℕ) → HasValue y s a c → HasValue y t b d → s ≡ t
same_sign nan s t a c b d h k = absurd h
same_sign (inf r) s t a c b d h k = absurd h
same_sign (fin r m e) s t a c b d h k = sym h.0 ∙ k.0

-- by the fields: sign, exponent, digits
fields_value : (s t : Bool) (x g a c : ℕ) → HasValue (of_fields binary32 s x g) t a c → (s ≡ t) × (decoded_fields x g * c ≡ a * 2 ^ 149)
unfolding decoded_fields of_fields
fields_value s t zero g a c h = (
  same_sign (odd 24 s g 0 149) s t (g * 1) (2 ^ 149) a c (odd_sign 24 s g 0 149) h,
  ap (λ (z : ℕ). z * c) (sym (mul-one g)) ∙ same_size (odd 24 s g 0 149) s t (g * 1) (2 ^ 149) a c (odd_sign 24 s g 0 149) h,
)
fields_value s t (suc x) g a c h = go (eqb (suc x) 255) (eqb g 0) h
  where
    go : (p q : Bool) → HasValue (cond p (cond q (inf s) nan) (odd 24 s (8388608 + g) x 149)) t a c → (s ≡ t) × ((8388608 + g) * 2 ^ x * c ≡ a * 2 ^ 149)
    go true true k = absurd k
    go true false k = absurd k
    go false q k = (
      same_sign (odd 24 s (8388608 + g) x 149) s t ((8388608 + g) * 2 ^ x) (2 ^ 149) a c (odd_sign 24 s (8388608 + g) x 149) k,
      same_size (odd 24 s (8388608 + g) x 149) s t ((8388608 + g) * 2 ^ x) (2 ^ 149) a c (odd_sign 24 s (8388608 + g) x 149) k,
    )

bits_value : (y : Float) (a c : ℕ) → T (fits binary32 y) → HasValue y false a c → Exact y a c
unfolding decoded of_bits
bits_value y a c ok h =
    let b = to_bits binary32 y in
    let v = fields_value (leb 2147483648 b) false (b % 2147483648 / 8388608) (b % 8388608) a c (subst (λ (z : Float). HasValue z false a c) (sym (of_bits-to_bits binary32 y ok)) h) in
    record { sign = leb-false 2147483648 b v.0; times = v.1 }

-- ## the four numbers at a side of 2 ^ k and an inset that is 0

module _ (x k : ℕ) (hx : x < 16777216) (hk : k ≤ 24) (i : Float) (zero-i : T (eq i nought)) where
  pub low_exact : Exact (low_edge x i (2 ^ k)) x (2 ^ k)
  low_exact =
      bits_value (low_edge x i (2 ^ k)) x (2 ^ k) (div-fits binary32 (add binary32 (num x) i) (num (2 ^ k)))
      (subst (λ (z : Float). HasValue z false x (2 ^ k)) (sym (low-is x (2 ^ k) (le_of_lt hx) (pow_mono hk) (pow_pos k) i zero-i)) (exact x k hx hk))

  pub high_exact : Exact (high_edge x i (2 ^ k)) x (2 ^ k)
  high_exact =
      bits_value (high_edge x i (2 ^ k)) x (2 ^ k) (div-fits binary32 (sub binary32 (num x) i) (num (2 ^ k)))
      (subst (λ (z : Float). HasValue z false x (2 ^ k)) (sym (high_is x (2 ^ k) (le_of_lt hx) (pow_mono hk) (pow_pos k) i zero-i)) (exact x k hx hk))
