-- Sums and differences of finite numbers, over a side that is not 0, are no NaN. Assumes nothing.
use Prim.Native.Nat.{ℕ, zero, suc, ◌+◌, ◌-◌, ◌*◌, ◌^◌, ◌≤◌, ◌<◌}
use native.Mathlib.Nat.{lt_irrefl, mul-pos, zero-mul}
use native.Mathlib.Omega.{arith}
use mathlib.Core.Path.{◌≡◌, refl, sym, ap, ◌∙◌, subst}
use mathlib.Core.Bool.{Bool, true, false, cond, ◌&&◌, beq}
use lib.Dec.{eqb, eqb→eq, not_T, ltb}
use lib.Ieee.{Float, nan, inf, fin, Format, binary32, prec, emax, low as least, unlike, up, down, round, units, odd, sum, neg, add, sub, div, lt, eq, le, is_nan}
use lib.Ieee.Bits.{cond_no}
use lib.Ieee.Fits.{down_pos, round_is}
use lib.Ieee.Exact.{HasValue}
use lib.Ieee.Scale.{finite}
use Rattle.coords.specs.Coordinates.{num, low_edge, high_edge, between}
use Rattle.coords.proofs.Quotients.{num_value}

-- ## what rounding gives

cond-number : (b : Bool) (x y : Float) → is_nan x ≡ false → is_nan y ≡ false → is_nan (cond b x y) ≡ false
cond-number true x y p q = p
cond-number false x y p q = q

odd_number : (d : ℕ) (s : Bool) (q k l : ℕ) → is_nan (odd d s q k l) ≡ false
unfolding is_nan odd
odd_number d s zero k l = refl
odd_number d s (suc q) k l = refl

inf-number : (s : Bool) → is_nan (inf s) ≡ false
unfolding is_nan
inf-number s = refl

units_number : (f : Format) (s : Bool) (q k : ℕ) → is_nan (units f s q k) ≡ false
unfolding units
units_number f s q k =
    cond-number (ltb (q * 2 ^ k) (2 ^ (least f + suc (emax f)))) (odd (suc (prec f)) s q k (least f)) (inf s)
    (odd_number (suc (prec f)) s q k (least f)) (inf-number s)

round_number : (f : Format) (s : Bool) (n d : ℕ) → is_nan (round f s n d) ≡ false
round_number f s n d = ap is_nan (round_is f s n d) ∙ units_number f s _ _

-- ## operations on finite numbers

pub add-number : (f : Format) (x y : Float) → finite x ≡ true → finite y ≡ true → is_nan (add f x y) ≡ false
unfolding add sum
add-number f nan y p q = let z : true ≡ false = sym p in cc
add-number f (inf s) y p q = let z : true ≡ false = sym p in cc
add-number f (fin s m e) nan p q = let z : true ≡ false = sym q in cc
add-number f (fin s m e) (inf t) p q = let z : true ≡ false = sym q in cc
add-number f (fin s m e) (fin t n d) p q =
    let a = m * up e * down d in
    let b = n * up d * down e in
    let c = down e * down d in
    cond-number (beq s t) (round f s (a + b) c) (cond (ltb a b) (round f t (b - a) c) (round f (s && ltb b a) (a - b) c))
    (round_number f s (a + b) c)
    (cond-number (ltb a b) (round f t (b - a) c) (round f (s && ltb b a) (a - b) c) (round_number f t (b - a) c) (round_number f (s && ltb b a) (a - b) c))

neg-finite : (x : Float) → finite x ≡ true → finite (neg x) ≡ true
unfolding neg
neg-finite nan p = p
neg-finite (inf s) p = p
neg-finite (fin s m e) p = p

sub_number : (f : Format) (x y : Float) → finite x ≡ true → finite y ≡ true → is_nan (sub f x y) ≡ false
unfolding sub
sub_number f x y p q = add-number f x (neg y) p (neg-finite y q)

div-number : (f : Format) (u v : Float) (w : ℕ) → is_nan u ≡ false → HasValue v false w 1 → 0 < w → is_nan (div f u v) ≡ false
unfolding div is_nan
div-number f u nan w p h g = absurd h
div-number f u (inf t) w p h g = absurd h
div-number f nan (fin t n d) w p h g = let z : true ≡ false = p in cc
div-number f (inf s) (fin t n d) w p h g = refl
div-number f (fin s m e) (fin t n d) w p h g =
    ap is_nan
    (cond_no (eqb n 0) (cond (eqb m 0) nan (inf (unlike s t))) (round f (unlike s t) (m * up e * down d) (n * up d * down e))
    (not_T (eqb n 0) (λ y. none (eqb→eq n 0 y))))
    ∙ round_number f (unlike s t) (m * up e * down d) (n * up d * down e)
  where
    big : 0 < n * up d
    big = let z : 0 < w * down d = mul-pos g (down_pos d) in omega (arith, h.1)

    none : n ≡ 0 → ⊥
    none z = lt_irrefl 0 (subst (λ (y : ℕ). 0 < y) (ap (λ (y : ℕ). y * up d) z ∙ zero-mul (up d)) big)

-- ## the four numbers

value_finite : (x : Float) (s : Bool) (a c : ℕ) → HasValue x s a c → finite x ≡ true
value_finite nan s a c h = absurd h
value_finite (inf t) s a c h = absurd h
value_finite (fin t m e) s a c h = refl

pub between-finite : (i : Float) → between i ≡ true → finite i ≡ true
unfolding between le lt eq
between-finite nan e = e
between-finite (inf true) e = e
between-finite (inf false) e = e
between-finite (fin s m d) e = refl

module _ (x w : ℕ) (hx : x ≤ 16777216) (hw : w ≤ 16777216) (wp : 0 < w) (i : Float) (ok : finite i ≡ true) where
  whole : finite (num x) ≡ true
  whole = value_finite (num x) false x 1 (num_value x hx)

  pub low-number : is_nan (low_edge x i w) ≡ false
  low-number = div-number binary32 (add binary32 (num x) i) (num w) w (add-number binary32 (num x) i whole ok) (num_value w hw) wp

  pub high_number : is_nan (high_edge x i w) ≡ false
  high_number = div-number binary32 (sub binary32 (num x) i) (num w) w (sub_number binary32 (num x) i whole ok) (num_value w hw) wp
