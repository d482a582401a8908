-- Laws of the words. Assumes nothing.
use Prim.Native.Nat.{ℕ, zero, suc, ◌+◌, ◌-◌, ◌≤◌, ◌<◌, max}
use mathlib.Core.Path.{◌≡◌, refl, sym, ap, ◌∙◌}
use mathlib.Core.Bool.{Bool, true, false, cond, ◌&&◌, ◌||◌}
use mathlib.Core.List.{List, [], ◌∷◌, ◌++◌}
use native.Mathlib.Omega.{arith}
use mathlib.Core.Option.{none, some}
use Rattle.std.proofs.lemmas.Bool.{both_ways, and_parts, and_from, or_parts, and_left as std-and_left, and_right as std-and_right}
use Rattle.geometry.specs.Words.{from, only, earliest, greatest}

-- ## tests

pub not_both : {b : Bool} → b ≡ true → b ≡ false → ⊥
not_both p q = both_ways _ q p

pub and_left : (a b : Bool) → (a && b) ≡ true → a ≡ true
and_left a b e = (and_parts a b e).0

pub and_right : (a b : Bool) → (a && b) ≡ true → b ≡ true
and_right a b e = (and_parts a b e).1

pub both : {a b : Bool} → a ≡ true → b ≡ true → (a && b) ≡ true
both p q = and_from _ _ p q

pub and_no_left : (a b : Bool) → a ≡ false → (a && b) ≡ false
and_no_left = std-and_left

pub and_no_right : (a b : Bool) → b ≡ false → (a && b) ≡ false
and_no_right = std-and_right

pub or_no_left : (a b : Bool) → (a || b) ≡ false → a ≡ false
or_no_left a b e = (or_parts a b e).0

pub or_no_right : (a b : Bool) → (a || b) ≡ false → b ≡ false
or_no_right a b e = (or_parts a b e).1

-- ## numbers in order

pub from-none : (i n : ℕ) → n ≡ 0 → from i n ≡ []
unfolding from
from-none i n e = ap (from i) e

pub from_more : (i n k : ℕ) → n ≡ suc k → from i n ≡ i ∷ from (suc i) k
unfolding from
from_more i n k e = ap (from i) e

-- ## only, earliest, greatest, over numbers in order

module _ (t : ℕ → Bool) where
  -- none of the first m passes
  pub only_skip : (m i n k : ℕ) → n ≡ m + k → ((c : ℕ) → i ≤ c → c < i + m → t c ≡ false) → only t (from i n) ≡ only t (from (i + m) k)
  unfolding only
  only_skip zero i n k e h =
      let p : n ≡ k = omega arith in
      let q : i ≡ i + 0 = omega arith in
      ap (λ (j : ℕ). only t (from i j)) p ∙ ap (λ (j : ℕ). only t (from j k)) q
  only_skip (suc m) i n k e h =
      let p : n ≡ suc (m + k) = omega arith in
      let q : suc i + m ≡ i + suc m = omega arith in
      ap (only t) (from_more i n (m + k) p)
      ∙ simp (h i (omega arith) (omega arith)) (only_skip m (suc i) (m + k) k refl (λ c a b. h c (omega arith) (omega arith)) ∙ ap (λ (j : ℕ). only t (from j k)) q)

  -- the first passes, and the next m do not
  pub only_run : (m i n k : ℕ) → n ≡ suc m + k → t i ≡ true → ((c : ℕ) → i < c → c < i + suc m → t c ≡ false)
      → only t (from i n) ≡ i ∷ only t (from (i + suc m) k)
  unfolding only
  only_run m i n k e y h =
      let p : n ≡ suc (m + k) = omega arith in
      let q : suc i + m ≡ i + suc m = omega arith in
      ap (only t) (from_more i n (m + k) p)
      ∙ simp y (ap (λ (l : List ℕ). i ∷ l) (only_skip m (suc i) (m + k) k refl (λ c a b. h c (omega arith) (omega arith)) ∙ ap (λ (j : ℕ). only t (from j k)) q))

  pub earliest-at : (m i n : ℕ) → m < n → ((c : ℕ) → i ≤ c → c < i + m → t c ≡ false) → t (i + m) ≡ true → earliest t (from i n) ≡ some (i + m)
  unfolding earliest
  earliest-at zero i n l h y =
      let p : n ≡ suc (n - 1) = omega arith in
      let q : i + 0 ≡ i = omega arith in
      let yi : t i ≡ true = sym (ap t q) ∙ y in
      ap (earliest t) (from_more i n (n - 1) p) ∙ simp yi (ap some (sym q))
  earliest-at (suc m) i n l h y =
      let p : n ≡ suc (n - 1) = omega arith in
      let q : suc i + m ≡ i + suc m = omega arith in
      ap (earliest t) (from_more i n (n - 1) p)
      ∙ simp (h i (omega arith) (omega arith)) (earliest-at m (suc i) (n - 1) (omega arith) (λ c a b. h c (omega arith) (omega arith)) (ap t q ∙ y) ∙ ap some q)

  pub earliest-none : (i n : ℕ) → ((c : ℕ) → i ≤ c → c < i + n → t c ≡ false) → earliest t (from i n) ≡ none
  unfolding earliest from
  earliest-none i zero h = refl
  earliest-none i (suc n) h = simp (h i (omega arith) (omega arith)) (earliest-none (suc i) n (λ c a b. h c (omega arith) (omega arith)))

module _ {A : Type 0} where
  pub only_append : (t : A → Bool) (l m : List A) → only t (l ++ m) ≡ only t l ++ only t m
  unfolding only
  only_append t [] m = refl
  only_append t (x ∷ l) m = go (t x) (only_append t l m)
    where
      go : (b : Bool) → only t (l ++ m) ≡ only t l ++ only t m
          → cond b (x ∷ only t (l ++ m)) (only t (l ++ m)) ≡ cond b (x ∷ only t l) (only t l) ++ only t m
      go true ih = ap (λ (r : List A). x ∷ r) ih
      go false ih = ih

  pub greatest_append : (f : A → ℕ) (l m : List A) → greatest f (l ++ m) ≡ max (greatest f l) (greatest f m)
  unfolding greatest
  greatest_append f [] m = omega arith
  greatest_append f (x ∷ l) m = let ih = greatest_append f l m in omega arith
