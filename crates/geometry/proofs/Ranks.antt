-- The choice by an order: the best is one of what it is given, and nothing given stands before it. Assumes nothing.
use Rattle.std.specs.Prelude.{Option, Some, None}
use Prim.Native.Nat.{ℕ, ◌≤◌, ◌<◌}
use native.Mathlib.Omega.{arith}
use mathlib.Core.Path.{◌≡◌, refl, sym, ◌∙◌, ap}
use mathlib.Core.Bool.{Bool, true, false, cond, ◌&&◌, ◌||◌}
use mathlib.Core.List.Memᴰ
use mathlib.Core.List.{List, [], ◌∷◌, ◌++◌, Memᴰ}
use mathlib.Core.Logic.{◌⊎◌, inl, inr}
use lib.Dec.{ltb, eqb}
use borrow.Author.Tests.{ltb-true, eqb-true, lt-ltb, le-ltb, eq-eqb, ne_eqb}
use Rattle.geometry.specs.Words.{before}
use Rattle.geometry.specs.Placing.{better, best_of}
use Rattle.geometry.specs.Fits.{Picks}
use Rattle.geometry.proofs.Words.{not_both}
use Rattle.geometry.specs.declared.spot.Spot.{Spot}

-- ## lists of numbers, one before the other

pub before_differ : (a b : ℕ) (p q : List ℕ) → (a ≡ b → ⊥) → before (a ∷ p) (b ∷ q) ≡ ltb a b
unfolding before
before_differ a b p q h = go (ltb a b)
  where
    go : (t : Bool) → (t || (eqb a b && before p q)) ≡ t
    go true = refl
    go false = rw (ne_eqb a b h)

pub before_same : (a b : ℕ) (p q : List ℕ) → a ≡ b → before (a ∷ p) (b ∷ q) ≡ before p q
unfolding before
before_same a b p q h = let l : b ≤ a = omega arith in rw (le-ltb a b l, eq-eqb a b h)

pub before_last : (a b : ℕ) → before (a ∷ []) (b ∷ []) ≡ ltb a b
unfolding before
before_last a b = go (ltb a b) (eqb a b)
  where
    go : (t u : Bool) → (t || (u && false)) ≡ t
    go true u = refl
    go false true = refl
    go false false = refl

before_never : (l : List ℕ) → before l l ≡ false
unfolding before
before_never [] = refl
before_never (a ∷ l) = before_same a a l l refl ∙ before_never l

-- a list before another: the first differs, or the rest does
leads : (a b : ℕ) (p q : List ℕ) → before (a ∷ p) (b ∷ q) ≡ true → (a < b) ⊎ ((a ≡ b) × (before p q ≡ true))
unfolding before
leads a b p q h = go (ltb a b) refl (eqb a b) refl h
  where
    go : (t : Bool) → ltb a b ≡ t → (u : Bool) → eqb a b ≡ u → (t || (u && before p q)) ≡ true → (a < b) ⊎ ((a ≡ b) × (before p q ≡ true))
    go true et u eu k = inl (ltb-true a b et)
    go false et true eu k = inr (eqb-true a b eu, k)
    go false et false eu k = absurd cc

led : (a b : ℕ) (p q : List ℕ) → (a < b) ⊎ ((a ≡ b) × (before p q ≡ true)) → before (a ∷ p) (b ∷ q) ≡ true
unfolding before
led a b p q (inl l) = rw (lt-ltb a b l)
led a b p q (inr (e, h)) = before_same a b p q e ∙ h

before_trans : (p q r : List ℕ) → before p q ≡ true → before q r ≡ true → before p r ≡ true
unfolding before
before_trans [] q r h k = absurd cc
before_trans (a ∷ p) [] r h k = absurd cc
before_trans (a ∷ p) (b ∷ q) [] h k = absurd cc
before_trans (a ∷ p) (b ∷ q) (d ∷ r) h k = go (leads a b p q h) (leads b d q r k) (λ x y. before_trans p q r x y)
  where
    go : (a < b) ⊎ ((a ≡ b) × (before p q ≡ true)) → (b < d) ⊎ ((b ≡ d) × (before q r ≡ true))
        → (before p q ≡ true → before q r ≡ true → before p r ≡ true) → before (a ∷ p) (d ∷ r) ≡ true
    go (inl x) (inl y) ih = led a d p r (inl (omega arith))
    go (inl x) (inr (y, z)) ih = led a d p r (inl (omega arith))
    go (inr (x, z)) (inl y) ih = led a d p r (inl (omega arith))
    go (inr (x, z)) (inr (y, w)) ih = led a d p r (inr (x ∙ y, ih z w))

module _ (order : Spot → List ℕ) where
  abbrev NotBefore : Spot → Spot → Type 0
  NotBefore j k = before (order j) (order k) ≡ true → ⊥

  pub best_append : (o : Option Spot) (l m : List Spot) → best_of order o (l ++ m) ≡ best_of order (best_of order o l) m
  unfolding best_of
  best_append o [] m = refl
  best_append o (k ∷ l) m = best_append (better order o k) l m

  -- ## the best is one of its list, and there is one where the list has one

  picks : (o : Option Spot) (j : Spot) (js : List Spot) {k : Spot} → better order o j ≡ Some k → (o ≡ Some k) ⊎ Memᴰ k (j ∷ js)
  unfolding better
  picks None j js {k} e = let q : k ≡ j = cc in inr (Memᴰ.head q)
  picks (Some i) j js {k} e = go (before (order j) (order i)) e
    where
      go : (b : Bool) → Some (cond b j i) ≡ Some k → (Some i ≡ Some k) ⊎ Memᴰ k (j ∷ js)
      go true q = let z : k ≡ j = cc in inr (Memᴰ.head z)
      go false q = inl q

  best_mem : (o : Option Spot) (l : List Spot) {k : Spot} → best_of order o l ≡ Some k → (o ≡ Some k) ⊎ Memᴰ k l
  unfolding best_of
  best_mem o [] e = inl e
  best_mem o (j ∷ js) {k} e = go (best_mem (better order o j) js e)
    where
      go : (better order o j ≡ Some k) ⊎ Memᴰ k js → (o ≡ Some k) ⊎ Memᴰ k (j ∷ js)
      go (inl q) = picks o j js q
      go (inr m) = inr (Memᴰ.tail m)

  pub best_some : (i : Spot) (l : List Spot) → (j : Spot) × (best_of order (Some i) l ≡ Some j)
  unfolding best_of better
  best_some i [] = (i, refl)
  best_some i (k ∷ ks) = best_some (cond (before (order k) (order i)) k i) ks

  best_gives : (l : List Spot) (k : Spot) → Memᴰ k l → (j : Spot) × (best_of order None l ≡ Some j)
  unfolding best_of better
  best_gives [] k m = absurd (Memᴰ.not-nil m)
  best_gives (j ∷ js) k m = best_some j js

  pub best_picks : Picks (best_of order None)
  best_picks = record {
    given = λ l k e. go l k (best_mem None l e);
    gives = best_gives;
  }
    where
      go : (l : List Spot) (k : Spot) → (None ≡ Some k) ⊎ Memᴰ k l → Memᴰ k l
      go l k (inl q) = absurd cc
      go l k (inr m) = m

  -- ## nothing stands before the best

  -- what does not stand before the best so far does not stand before the better of it and the next
  first_step : (i j k m : Spot) → better order (Some i) k ≡ Some m → NotBefore j i → NotBefore j m
  unfolding better
  first_step i j k m e h = go (before (order k) (order i)) refl e
    where
      go : (b : Bool) → before (order k) (order i) ≡ b → Some (cond b k i) ≡ Some m → NotBefore j m
      go true eb q = let z : k ≡ m = cc in λ w. h (before_trans (order j) (order k) (order i) (ap (λ (x : Spot). before (order j) (order x)) z ∙ w) eb)
      go false eb q = let z : i ≡ m = cc in λ w. h (ap (λ (x : Spot). before (order j) (order x)) z ∙ w)

  first_new : (o : Option Spot) (k m : Spot) → better order o k ≡ Some m → NotBefore k m
  unfolding better
  first_new None k m e =
      let z : k ≡ m = cc in
      λ w. not_both (ap (λ (x : Spot). before (order k) (order x)) z ∙ w) (before_never (order k))
  first_new (Some i) k m e = go (before (order k) (order i)) refl e
    where
      go : (b : Bool) → before (order k) (order i) ≡ b → Some (cond b k i) ≡ Some m → NotBefore k m
      go true eb q = let z : k ≡ m = cc in λ w. not_both (ap (λ (x : Spot). before (order k) (order x)) z ∙ w) (before_never (order k))
      go false eb q = let z : i ≡ m = cc in λ w. not_both (ap (λ (x : Spot). before (order k) (order x)) z ∙ w) eb

  first_on : (i : Spot) (l : List Spot) (j m : Spot) → best_of order (Some i) l ≡ Some m → NotBefore j i → NotBefore j m
  unfolding best_of better
  first_on i [] j m e h = let z : i ≡ m = cc in λ w. h (ap (λ (x : Spot). before (order j) (order x)) z ∙ w)
  first_on i (k ∷ ks) j m e h =
      let n = cond (before (order k) (order i)) k i in
      first_on n ks j m e (first_step i j k n refl h)

  better-some : (o : Option Spot) (k : Spot) → better order o k ≡ None → ⊥
  unfolding better
  better-some None k z = cc
  better-some (Some i) k z = cc

  pub best_first : (o : Option Spot) (l : List Spot) (m : Spot) → best_of order o l ≡ Some m → (j : Spot) → Memᴰ j l → before (order j) (order m) ≡ true → ⊥
  unfolding best_of
  best_first o [] m e j h = absurd (Memᴰ.not-nil h)
  best_first o (k ∷ ks) m e j (Memᴰ.tail h) = best_first (better order o k) ks m e j h
  best_first o (k ∷ ks) m e j (Memᴰ.head h) = go (better order o k) refl e
    where
      go : (q : Option Spot) → better order o k ≡ q → best_of order q ks ≡ Some m → NotBefore j m
      go None eq f = absurd (better-some o k eq)
      go (Some i) eq f = λ w. first_on i ks k m f (first_new o k i eq) (ap (λ (x : Spot). before (order x) (order m)) (sym h) ∙ w)
