-- Searching the numbers below a bound: the one law for columns and for rows, and for the pixels of each. Assumes nothing.
use Prim.Native.Nat.{ℕ, zero, suc, ◌+◌, ◌-◌, ◌≤◌, ◌<◌}
use native.Mathlib.Omega.{arith}
use native.Mathlib.Decide.{dec_lt, ℕ_discrete}
use mathlib.Core.Path.{◌≡◌, refl, sym, ap, ◌∙◌, subst}
use mathlib.Core.Bool.{Bool, true, false, not}
use mathlib.Core.Logic.{◌⊎◌, inl, inr}
use mathlib.Core.Option.{some}
use borrow.Author.Count.{below_more}
use lib.ListN.{length, get_or}
use Rattle.std.specs.Bool.{MatchBool}
use Rattle.std.specs.List.{AllWithin, HoldsAt, range_with_len}
use Rattle.std.proofs.lemmas.List.FromFn.{length-range_with_len, get_or-range_with_len}
use Rattle.geometry.specs.Words.{from, any, only, earliest, or_else}
use Rattle.geometry.proofs.Words.{not_both, earliest-at, earliest-none}
use Rattle.geometry.proofs.Members.{any_in, any-true, from_in, from_mem, only_in, only_mem, greatest-le, greatest_least}
use Rattle.art.specs.Trimming.{first_seen, past_seen}

-- ## the numbers below n

module _ (t : ℕ → Bool) where
  -- k is below n, and passes
  pub seen : (n k : ℕ) → k < n → t k ≡ true → any t (from 0 n) ≡ true
  seen n k h e = any_in t (from 0 n) (from_in 0 n k (omega arith) (omega arith)) e

  pub some_seen : (n : ℕ) → any t (from 0 n) ≡ true → (k : ℕ) × (k < n) × (t k ≡ true)
  some_seen n e =
      let r = any-true t (from 0 n) e in
      let m = from_mem 0 n r.1 in
      (r.0, omega (arith, m.1), r.2)

  pub not_seen : (n : ℕ) → any t (from 0 n) ≡ false → (k : ℕ) → k < n → t k ≡ false
  not_seen n e k h = go (t k) refl
    where
      go : (b : Bool) → t k ≡ b → b ≡ false
      go true q = absurd (not_both (seen n k h q) e)
      go false q = refl

  pub none_seen : (n : ℕ) → ((k : ℕ) → k < n → t k ≡ false) → any t (from 0 n) ≡ false
  none_seen n h = go (any t (from 0 n)) refl
    where
      go : (b : Bool) → any t (from 0 n) ≡ b → b ≡ false
      go true q = let r = some_seen n q in absurd (not_both r.2 (h r.0 r.1))
      go false q = refl

  -- what a chain's `all` over the range answers, of a test that fails
  pub none_in_range : (n : ℕ) (r : Bool)
      → MatchBool r (AllWithin (λ k. t k ≡ false) (range_with_len 0 n) 0 (length (range_with_len 0 n)))
      ((k : ℕ) × (k < length (range_with_len 0 n)) × HoldsAt (λ k. t k ≡ true) (range_with_len 0 n) k)
      → r ≡ not (any t (from 0 n))
  none_in_range n true h =
      ap not (sym (none_seen n (λ k b. sym (at k b) ∙ h k 0 (omega arith) (omega (arith, length-range_with_len 0 n)))))
    where
      at : (k : ℕ) → k < n → t (get_or (range_with_len 0 n) k 0) ≡ t k
      at k b = let z : 0 + k ≡ k = omega arith in ap t (get_or-range_with_len 0 n k 0 b ∙ z)
  none_in_range n false h =
      let b : h.0 < n = omega (arith, h.1, length-range_with_len 0 n) in
      let z : 0 + h.0 ≡ h.0 = omega arith in
      ap not (sym (seen n h.0 b (ap t (sym z ∙ sym (get_or-range_with_len 0 n h.0 0 b)) ∙ h.2 0)))

pub above_more : (P : ℕ → Type 0) (k : ℕ) → 0 < k → ((j : ℕ) → k ≤ j → P j) → P (k - 1) → (j : ℕ) → k - 1 ≤ j → P j
above_more P k h above here j l = go (ℕ_discrete (k - 1) j)
  where
    go : Dec (k - 1 ≡ j) → P j
    go (yes e) = subst P e here
    go (no ne) = above j (omega arith)

-- ## the first and the last of them

-- k is the first number below n that passes
pub record First (t : ℕ → Bool) (n k : ℕ) : Type 0 where
  pub below : k < n
  pub passes : t k ≡ true
  pub before : (j : ℕ) → j < k → t j ≡ false

-- k is the last
pub record Last (t : ℕ → Bool) (n k : ℕ) : Type 0 where
  pub below : k < n
  pub passes : t k ≡ true
  pub after : (j : ℕ) → k < j → j < n → t j ≡ false

module _ (t : ℕ → Bool) where
  pub first-is : (n k : ℕ) → First t n k → first_seen t n ≡ k
  unfolding first_seen
  first-is n k f =
      let z : 0 + k ≡ k = omega arith in
      let e : earliest t (from 0 n) ≡ some (0 + k) = earliest-at t k 0 n f.below (λ j a b. f.before j (omega arith)) (ap t z ∙ f.passes) in
      ap (λ o. or_else o n) e ∙ z

  pub first-none : (n : ℕ) → ((j : ℕ) → j < n → t j ≡ false) → first_seen t n ≡ n
  unfolding first_seen
  first-none n h = ap (λ o. or_else o n) (earliest-none t 0 n (λ j a b. h j (omega arith)))

  pub past_le : (n : ℕ) → past_seen t n ≤ n
  unfolding past_seen
  past_le n =
      greatest_least (λ j. j + 1) (only t (from 0 n)) n
      (λ j m. let g = from_mem 0 n (only_mem t (from 0 n) m).0 in omega (arith, g.1))

  pub last-is : (n k : ℕ) → Last t n k → past_seen t n ≡ k + 1
  unfolding past_seen
  last-is n k l =
      let up = greatest-le (λ j. j + 1) (only t (from 0 n)) (only_in t (from 0 n) (from_in 0 n k (omega arith) (omega (arith, l.below))) l.passes) in
      let down = greatest_least (λ j. j + 1) (only t (from 0 n)) (k + 1) (λ j m.
      let g = only_mem t (from 0 n) m in
      let b = from_mem 0 n g.0 in
      let q : (k < j → ⊥) = λ h. not_both g.1 (l.after j h (omega (arith, b.1))) in
      omega arith) in
      omega arith

  pub past_none : (n : ℕ) → ((j : ℕ) → j < n → t j ≡ false) → past_seen t n ≡ 0
  unfolding past_seen
  past_none n h =
      let down = greatest_least (λ j. j + 1) (only t (from 0 n)) 0 (λ j m.
      let g = only_mem t (from 0 n) m in
      let b = from_mem 0 n g.0 in
      absurd (not_both g.1 (h j (omega (arith, b.1))))) in
      omega arith

-- the first that passes, and one past the last
pub record Ends (t : ℕ → Bool) (n : ℕ) : Type 0 where
  pub first : First t n (first_seen t n)
  pub last : Last t n (past_seen t n - 1)
  pub ordered : first_seen t n < past_seen t n

below_suc : (P : ℕ → Type 0) (n : ℕ) → ((j : ℕ) → j < n → P j) → P n → (j : ℕ) → j < suc n → P j
below_suc P n h here j l = below_more P n h here j (omega arith)

module _ (t : ℕ → Bool) where
  abbrev Found : ℕ → Type 0
  Found n = ((j : ℕ) → j < n → t j ≡ false) ⊎ ((k : ℕ) × (m : ℕ) × First t n k × Last t n m)

  find : (n : ℕ) → Found n
  find zero = inl (λ j h. absurd (omega arith))
  find (suc n) = go (find n) (t n) refl
    where
      end : t n ≡ true → Last t (suc n) n
      end e = record { below = omega arith; passes = e; after = λ j g h. absurd (omega arith) }

      go : Found n → (b : Bool) → t n ≡ b → Found (suc n)
      go (inl h) true e = inr (n, n, record { below = omega arith; passes = e; before = h }, end e)
      go (inl h) false e = inl (below_suc (λ j. t j ≡ false) n h e)
      go (inr (k, m, f, l)) b e = inr (k, (last_of b e).0, record { below = omega (arith, f.below); passes = f.passes; before = f.before }, (last_of b e).1)
        where
          last_of : (b : Bool) → t n ≡ b → (m : ℕ) × Last t (suc n) m
          last_of true e = (n, end e)
          last_of false e = (
            m,
            record {
              below = omega (arith, l.below);
              passes = l.passes;
              after = λ j g h. below_suc (λ j. m < j → t j ≡ false) n (λ j h g. l.after j g h) (λ g. e) j h g;
            },
          )

  pub ends : (n k : ℕ) → k < n → t k ≡ true → Ends t n
  ends n k h e = go (find n)
    where
      go : Found n → Ends t n
      go (inl clear) = absurd (not_both e (clear k h))
      go (inr (k, m, f, l)) =
          let p = first-is t n k f in
          let q = last-is t n m l in
          let e : m ≡ past_seen t n - 1 = omega arith in
          let g : (m < k → ⊥) = λ h. not_both l.passes (f.before m h) in
          record { first = subst (First t n) (sym p) f; last = subst (Last t n) e l; ordered = omega arith }

  -- below n the first passes; and it is never past n
  pub first_below : (n : ℕ) → first_seen t n < n → First t n (first_seen t n)
  first_below n h = go (find n)
    where
      go : Found n → First t n (first_seen t n)
      go (inl clear) = let q = first-none t n clear in absurd (omega arith)
      go (inr (k, m, f, l)) = subst (First t n) (sym (first-is t n k f)) f

  pub first-few : (n : ℕ) → first_seen t n ≤ n
  first-few n = go (find n)
    where
      go : Found n → first_seen t n ≤ n
      go (inl clear) = let q = first-none t n clear in omega arith
      go (inr (k, m, f, l)) = let q = first-is t n k f in omega (arith, f.below)

  pub first-le : (n k : ℕ) → k < n → t k ≡ true → first_seen t n ≤ k
  first-le n k h e =
      let f = (ends n k h e).first in
      let q : (k < first_seen t n → ⊥) = λ g. not_both e (f.before k g) in
      omega arith

  pub past_gt : (n k : ℕ) → k < n → t k ≡ true → k < past_seen t n
  past_gt n k h e =
      let r = ends n k h e in
      let q : (past_seen t n - 1 < k → ⊥) = λ g. not_both e (r.last.after k g h) in
      omega (arith, r.ordered)

-- tests that agree below n pass first at the same number
pub first-same : (t u : ℕ → Bool) (n : ℕ) → ((k : ℕ) → k < n → t k ≡ u k) → first_seen t n ≡ first_seen u n
first-same t u n h = go (dec_lt (first_seen t n) n)
  where
    go : Dec (first_seen t n < n) → first_seen t n ≡ first_seen u n
    go (yes b) =
        let f = first_below t n b in
        sym (first-is u n (first_seen t n) (record { below = b; passes = sym (h (first_seen t n) b) ∙ f.passes; before = λ j g. sym (h j (omega arith)) ∙ f.before j g }))
    go (no b) =
        let e : first_seen t n ≡ n = let q = first-few t n in omega arith in
        e ∙ sym (first-none u n (λ j g. sym (h j g) ∙ none_under j g (t j) refl))
      where
        none_under : (j : ℕ) → j < n → (c : Bool) → t j ≡ c → t j ≡ false
        none_under j g true e = let q = first-le t n j g e in absurd (omega arith)
        none_under j g false e = e

-- ## pixels by columns and by rows

bools_same : (a b : Bool) → (a ≡ true → b ≡ true) → (b ≡ true → a ≡ true) → a ≡ b
bools_same true b f g = sym (f refl)
bools_same false true f g = g refl
bools_same false false f g = refl

-- a column is seen where a row is
seen_across : (v : ℕ → ℕ → Bool) (m n : ℕ) → any (λ x. any (λ y. v x y) (from 0 n)) (from 0 m) ≡ true → any (λ y. any (λ x. v x y) (from 0 m)) (from 0 n) ≡ true
seen_across v m n e =
    let x = some_seen (λ x. any (λ y. v x y) (from 0 n)) m e in
    let y = some_seen (λ y. v x.0 y) n x.2 in
    seen (λ y. any (λ x. v x y) (from 0 m)) n y.0 y.1 (seen (λ x. v x y.0) m x.0 x.1 y.2)

pub by_columns : (v : ℕ → ℕ → Bool) (m n : ℕ) → any (λ x. any (λ y. v x y) (from 0 n)) (from 0 m) ≡ any (λ y. any (λ x. v x y) (from 0 m)) (from 0 n)
by_columns v m n = bools_same _ _ (seen_across v m n) (seen_across (λ x y. v y x) n m)
