-- Sums, differences and quotients of whole numbers as floats: where what is added or taken away is 0, the quotient is the fraction rounded once.
-- Assumes nothing.
use mathlib.Core.Path.{◌≡◌, sym, ap, ◌∙◌, subst}
use mathlib.Core.Bool.{Bool, true, false, not, ◌||◌, beq, cond, true≢false}
use Prim.Native.Nat.{ℕ, ◌+◌, ◌-◌, ◌*◌, ◌≤◌, ◌<◌}
use native.Mathlib.Nat.{lt_irrefl, mul-pos, zero-mul, mul_comm, mul_assoc, zero-lt-suc}
use native.Mathlib.Omega.{arith}
use lib.Dec.{T, eqb, eqb→eq, not_T, ltb, ltb→lt}
use lib.IntN.{ℤ}
use lib.Ieee.{Float, nan, inf, fin, Format, binary32, up, down, round, add, sub, neg, sum, div, of_int, eq}
use lib.Ieee.Bits.{cond_no}
use lib.Ieee.Fits.{down_pos, and_l, and_i, eq→eqb}
use lib.Ieee.Exact.{HasValue}
use lib.Ieee.Back.{round_whole}
use lib.Ieee.Scale.{round_same}
use Rattle.coords.specs.Coordinates.{nought, num, low_edge, high_edge}

-- ## a zero, of either sign

no_nan : T (eq nan nought) → ⊥
unfolding eq
no_nan t = t

no_inf : (s : Bool) → T (eq (inf s) nought) → ⊥
unfolding eq
no_inf s t = t

pub zero-size : (s : Bool) (m : ℕ) (d : ℤ) → T (eq (fin s m d) nought) → m * up d ≡ 0
unfolding eq
zero-size s m d t =
    let h = eqb→eq (m * up d * 1) (0 * 1 * down d) (and_l (eqb (m * up d * 1) (0 * 1 * down d)) (beq s false || eqb (m * up d * 1) 0) t) in
    omega arith

neg-zero : (i : Float) → T (eq i nought) → T (eq (neg i) nought)
unfolding eq neg
neg-zero nan t = absurd t
neg-zero (inf s) t = absurd t
neg-zero (fin true m d) t =
    and_i (eqb (m * up d * 1) (0 * 1 * down d)) true (and_l (eqb (m * up d * 1) (0 * 1 * down d)) (false || eqb (m * up d * 1) 0) t) tt
neg-zero (fin false m d) t =
    let p = and_l (eqb (m * up d * 1) (0 * 1 * down d)) true t in
    and_i (eqb (m * up d * 1) (0 * 1 * down d)) (eqb (m * up d * 1) 0) p
    (eq→eqb (eqb→eq (m * up d * 1) (0 * 1 * down d) p ∙ zero-mul (down d)))

-- ## a zero added or taken away

no_less : (a b : ℕ) → b ≡ 0 → T (not (ltb a b))
no_less a b z = not_T (ltb a b) (λ t. let h : a < b = ltb→lt a b t in omega arith)

-- over the product of the denominators
with_zero : (m u de dd z n : ℕ) → m * u * 1 ≡ n * de → z ≡ 0 → (m * u * dd + z * de) * 1 ≡ n * (de * dd)
with_zero m u de dd z n h k =
    let a : m * u ≡ n * de = omega (arith, h) in
    let b : z * de ≡ 0 = ap (λ (y : ℕ). y * de) k ∙ zero-mul de in
    let c : m * u * dd ≡ n * (de * dd) = ap (λ (y : ℕ). y * dd) a ∙ mul_assoc n de dd in
    omega (arith, b, c)

less_zero : (m u de dd z n : ℕ) → m * u * 1 ≡ n * de → z ≡ 0 → (m * u * dd - z * de) * 1 ≡ n * (de * dd)
less_zero m u de dd z n h k =
    let a : m * u ≡ n * de = omega (arith, h) in
    let b : z * de ≡ 0 = ap (λ (y : ℕ). y * de) k ∙ zero-mul de in
    let c : m * u * dd ≡ n * (de * dd) = ap (λ (y : ℕ). y * dd) a ∙ mul_assoc n de dd in
    omega (arith, b, c)

add-zero_of : (f : Format) (u i : Float) (n : ℕ) → HasValue u false n 1 → T (eq i nought) → add f u i ≡ round f false n 1
unfolding add sum
add-zero_of f nan i n v t = absurd v
add-zero_of f (inf s) i n v t = absurd v
add-zero_of f (fin true m e) i n v t = absurd (true≢false v.0)
add-zero_of f (fin false m e) nan n v t = absurd (no_nan t)
add-zero_of f (fin false m e) (inf s) n v t = absurd (no_inf s t)
add-zero_of f (fin false m e) (fin false z d) n v t =
    round_same f false (m * up e * down d + z * up d * down e) (down e * down d) n 1 (mul-pos (down_pos e) (down_pos d)) (zero-lt-suc 0)
    (with_zero m (up e) (down e) (down d) (z * up d) n v.1 (zero-size false z d t))
add-zero_of f (fin false m e) (fin true z d) n v t =
    let a = m * up e * down d in
    let b = z * up d * down e in
    cond_no (ltb a b) (round f true (b - a) (down e * down d)) (round f false (a - b) (down e * down d))
    (no_less a b (ap (λ (y : ℕ). y * down e) (zero-size true z d t) ∙ zero-mul (down e)))
    ∙ round_same f false (a - b) (down e * down d) n 1 (mul-pos (down_pos e) (down_pos d)) (zero-lt-suc 0)
    (less_zero m (up e) (down e) (down d) (z * up d) n v.1 (zero-size true z d t))

sub-zero_of : (f : Format) (u i : Float) (n : ℕ) → HasValue u false n 1 → T (eq i nought) → sub f u i ≡ round f false n 1
unfolding sub
sub-zero_of f u i n v t = add-zero_of f u (neg i) n v (neg-zero i t)

-- ## one whole number over another

cross : (m u x dd n v w de : ℕ) → m * u * 1 ≡ x * de → n * v * 1 ≡ w * dd → m * u * dd * w ≡ x * (n * v * de)
cross m u x dd n v w de p q =
    let p' : m * u ≡ x * de = omega (arith, p) in
    let q' : n * v ≡ w * dd = omega (arith, q) in
    ap (λ (z : ℕ). z * dd * w) p' ∙ (simp (mul_assoc, mul_comm)) ∙ ap (λ (z : ℕ). x * (z * de)) (sym q')

div-whole : (f : Format) (u v : Float) (x w : ℕ) → HasValue u false x 1 → HasValue v false w 1 → 0 < w → div f u v ≡ round f false x w
unfolding div
div-whole f nan v x w h k p = absurd h
div-whole f (inf s) v x w h k p = absurd h
div-whole f (fin true m e) v x w h k p = absurd (true≢false h.0)
div-whole f (fin false m e) nan x w h k p = absurd k
div-whole f (fin false m e) (inf s) x w h k p = absurd k
div-whole f (fin false m e) (fin true n d) x w h k p = absurd (true≢false k.0)
div-whole f (fin false m e) (fin false n d) x w h k p =
    cond_no (eqb n 0) (cond (eqb m 0) nan (inf false)) (round f false (m * up e * down d) (n * up d * down e))
    (not_T (eqb n 0) (λ t. none (eqb→eq n 0 t)))
    ∙ round_same f false (m * up e * down d) (n * up d * down e) x w (mul-pos big (down_pos e)) p
    (cross m (up e) x (down d) n (up d) w (down e) h.1 k.1)
  where
    big : 0 < n * up d
    big = let z : 0 < w * down d = mul-pos p (down_pos d) in omega (arith, k.1)

    none : n ≡ 0 → ⊥
    none z = lt_irrefl 0 (subst (λ (y : ℕ). 0 < y) (ap (λ (y : ℕ). y * up d) z ∙ zero-mul (up d)) big)

-- ## the four numbers, where the inset is 0

pub num_value : (n : ℕ) → n ≤ 16777216 → HasValue (num n) false n 1
unfolding of_int
num_value n h = round_whole binary32 false n h

module _ (x w : ℕ) (hx : x ≤ 16777216) (hw : w ≤ 16777216) (wp : 0 < w) (i : Float) (zero-i : T (eq i nought)) where
  pub low-is : low_edge x i w ≡ round binary32 false x w
  low-is =
      ap (λ (z : Float). div binary32 z (num w)) (add-zero_of binary32 (num x) i x (num_value x hx) zero-i)
      ∙ div-whole binary32 (round binary32 false x 1) (num w) x w (round_whole binary32 false x hx) (num_value w hw) wp

  pub high_is : high_edge x i w ≡ round binary32 false x w
  high_is =
      ap (λ (z : Float). div binary32 z (num w)) (sub-zero_of binary32 (num x) i x (num_value x hx) zero-i)
      ∙ div-whole binary32 (round binary32 false x 1) (num w) x w (round_whole binary32 false x hx) (num_value w hw) wp
