-- A key's place among some records: the first that has it, or how many they are. Assumes nothing.
use Prim.Native.Nat.{ℕ, zero, suc, ◌+◌, ◌≤◌, ◌<◌}
use native.Mathlib.Omega.{arith}
use mathlib.Core.Path.{◌≡◌, refl, sym, ap, ◌∙◌}
use mathlib.Core.Bool.{Bool, true, false}
use mathlib.Core.List.{List, [], ◌∷◌}
use mathlib.Core.Option.{Option, none, some}
use mathlib.Core.Logic.{◌⊎◌, inl, inr}
use borrow.Author.Count.{below_more}
use lib.ListN.{length, get_or}
use Rattle.std.specs.Prelude.{Option as Found, Some, None}
use Rattle.std.specs.Option.{MatchOption, unwrap_or}
use Rattle.std.specs.List.{AllWithin, HoldsAt}
use Rattle.geometry.specs.Words.{any, earliest, or_else}
use Rattle.geometry.proofs.Words.{not_both, earliest-at, earliest-none}
use Rattle.geometry.proofs.Members.{any_in}
use Rattle.records.specs.Settings.{blank_record}
use Rattle.std.proofs.lemmas.Bool.{false_from_ne_true, true_from_ne_false}
use Rattle.std.proofs.Math.Option.{none-ne-some}
use Rattle.records.specs.Layouts.{standing, has_key, record_of, record_named, key_place}
use Rattle.records.specs.declared.layout.Layout.{Layout}
use Rattle.records.specs.declared.frame.Key.{Key}
use Rattle.records.specs.declared.frame.Record.{Record}
use Rattle.records.proofs.Rows.{at_in}

-- none before index n has the key
abbrev pub Misses : Key → List Record → ℕ → Type 0
Misses k rs n = (i : ℕ) → i < n → has_key k (get_or rs i blank_record) ≡ false

pub misses_more : (k : Key) (rs : List Record) (i : ℕ) → Misses k rs i → has_key k (get_or rs i blank_record) ≡ false → Misses k rs (i + 1)
misses_more k rs i m e = below_more (λ (j : ℕ). has_key k (get_or rs j blank_record) ≡ false) i m e

module _ (k : Key) (rs : List Record) where
  pub place_at : (i : ℕ) → i < length rs → Misses k rs i → has_key k (get_or rs i blank_record) ≡ true → key_place k rs ≡ i
  unfolding key_place
  place_at i h m e =
      ap (λ (o : Option ℕ). or_else o (length rs))
      (earliest-at (λ (j : ℕ). has_key k (get_or rs j blank_record)) i 0 (length rs) h (λ j a b. m j (omega arith)) (ap (λ (j : ℕ). has_key k (get_or rs j blank_record)) (zero_plus i) ∙ e))
      ∙ zero_plus i
    where
      zero_plus : (n : ℕ) → 0 + n ≡ n
      zero_plus n = omega arith

  pub place_none : Misses k rs (length rs) → key_place k rs ≡ length rs
  unfolding key_place
  place_none m =
      ap (λ (o : Option ℕ). or_else o (length rs))
      (earliest-none (λ (j : ℕ). has_key k (get_or rs j blank_record)) 0 (length rs) (λ j a b. m j (omega arith)))

-- what a search for the key finds, or the length
pub place_is : (k : Key) (rs : List Record) (o : Found ℕ)
    → MatchOption o (AllWithin (λ r. has_key k r ≡ false) rs 0 (length rs))
    (λ i. (i < length rs) × HoldsAt (λ r. has_key k r ≡ true) rs i × AllWithin (λ r. has_key k r ≡ false) rs 0 i)
    → unwrap_or o (length rs) ≡ key_place k rs
place_is k rs None h = sym (place_none k rs (λ i b. h i blank_record (omega arith) b))
place_is k rs (Some i) h = sym (place_at k rs i h.0 (λ j b. h.2 j blank_record (omega arith) b) (h.1 blank_record))

-- the first that has the key
record Hit (k : Key) (rs : List Record) : Type 0 where
  index : ℕ
  below : index < length rs
  misses : Misses k rs index
  has : has_key k (get_or rs index blank_record) ≡ true

look : (k : Key) (rs : List Record) → Hit k rs ⊎ Misses k rs (length rs)
look k [] = inr (λ i h. absurd (omega arith))
look k (r ∷ rs) = go (has_key k r) refl (look k rs)
  where
    further : has_key k r ≡ false → (n : ℕ) → Misses k rs n → Misses k (r ∷ rs) (suc n)
    further e n m zero h = e
    further e n m (suc i) h = m i (omega arith)

    go : (b : Bool) → has_key k r ≡ b → Hit k rs ⊎ Misses k rs (length rs) → Hit k (r ∷ rs) ⊎ Misses k (r ∷ rs) (suc (length rs))
    go true e rest = inl (record { index = 0; below = omega arith; misses = λ i h. absurd (omega arith); has = e })
    go false e (inl f) = inl (record { index = suc f.index; below = omega (arith, f.below); misses = further e f.index f.misses; has = f.has })
    go false e (inr m) = inr (further e (length rs) m)

earliest_index : (k : Key) (rs : List Record) (i : ℕ) → i < length rs → Misses k rs i → has_key k (get_or rs i blank_record) ≡ true
    → earliest (has_key k) rs ≡ some (get_or rs i blank_record)
unfolding earliest
earliest_index k [] i h m e = absurd (omega arith)
earliest_index k (r ∷ rs) zero h m e = rw e
earliest_index k (r ∷ rs) (suc i) h m e = rw (m 0 (omega arith)) (earliest_index k rs i (omega arith) (λ j g. m (suc j) (omega arith)) e)

miss_all : (k : Key) (rs : List Record) → Misses k rs (length rs) → (any (has_key k) rs ≡ false) × (earliest (has_key k) rs ≡ none)
unfolding any earliest
miss_all k [] m = (refl, refl)
miss_all k (r ∷ rs) m =
    let rest = miss_all k rs (λ j g. m (suc j) (omega arith)) in
    let e : has_key k r ≡ false = m 0 (omega arith) in
    (rw e rest.0, rw e rest.1)

-- what a search for the key's record finds, if v reads the record of what it found
pub first_named : {A : Type 0} (v : A → Record) (k : Key) (rs : List Record) (o : Found A)
    → MatchOption o (AllWithin (λ r. has_key k r ≡ false) rs 0 (length rs))
    (λ x. (has_key k (v x) ≡ true) × (i : ℕ) × (i < length rs) × HoldsAt (λ r. r ≡ v x) rs i × AllWithin (λ r. has_key k r ≡ false) rs 0 i)
    → MatchOption o (earliest (has_key k) rs ≡ none) (λ x. earliest (has_key k) rs ≡ some (v x))
first_named v k rs None h = (miss_all k rs (λ i b. h i blank_record (omega arith) b)).1
first_named v k rs (Some x) h =
    earliest_index k rs h.1 h.2 (λ j b. h.4 j blank_record (omega arith) b) (ap (has_key k) (h.3 blank_record) ∙ h.0) ∙ ap some (h.3 blank_record)

module _ (k : Key) (rs : List Record) where
  -- what a key names, by its place: the earliest record that has it
  pub record Named : Type 0 where
    pub has : has_key k (get_or rs (key_place k rs) blank_record) ≡ true
    pub first : Misses k rs (key_place k rs)
    pub stands : any (has_key k) rs ≡ true
    pub is : earliest (has_key k) rs ≡ some (get_or rs (key_place k rs) blank_record)

  -- what a key that stands nowhere has
  pub record Unnamed : Type 0 where
    pub place : key_place k rs ≡ length rs
    pub stands : any (has_key k) rs ≡ false
    pub is : earliest (has_key k) rs ≡ none

module _ (k : Key) (rs : List Record) where
  named-at : (i : ℕ) → key_place k rs ≡ i → i < length rs → Misses k rs i → has_key k (get_or rs i blank_record) ≡ true → Named k rs
  named-at i p h m e = record {
    has = ap (λ (j : ℕ). has_key k (get_or rs j blank_record)) p ∙ e;
    first = λ j g. m j (omega arith);
    stands = any_in (has_key k) rs (at_in rs blank_record i h) e;
    is = earliest_index k rs i h m e ∙ ap (λ (j : ℕ). some (get_or rs j blank_record)) (sym p);
  }

  unnamed_of : Misses k rs (length rs) → Unnamed k rs
  unnamed_of m = record { place = place_none k rs m; stands = (miss_all k rs m).0; is = (miss_all k rs m).1 }

  pub place-few : key_place k rs ≤ length rs
  place-few = go (look k rs)
    where
      go : Hit k rs ⊎ Misses k rs (length rs) → key_place k rs ≤ length rs
      go (inl f) = let p = place_at k rs f.index f.below f.misses f.has in omega (arith, f.below)
      go (inr m) = let p = place_none k rs m in omega arith

  -- below the length
  pub named : key_place k rs < length rs → Named k rs
  named h = go (look k rs)
    where
      go : Hit k rs ⊎ Misses k rs (length rs) → Named k rs
      go (inl f) = named-at f.index (place_at k rs f.index f.below f.misses f.has) f.below f.misses f.has
      go (inr m) = let p = place_none k rs m in absurd (omega arith)

  -- exactly when some record has the key
  pub stands-below : any (has_key k) rs ≡ true → key_place k rs < length rs
  stands-below e = go (look k rs)
    where
      go : Hit k rs ⊎ Misses k rs (length rs) → key_place k rs < length rs
      go (inl f) = let p = place_at k rs f.index f.below f.misses f.has in omega (arith, f.below)
      go (inr m) = absurd (not_both e (miss_all k rs m).0)

  -- at the length
  pub unnamed : length rs ≤ key_place k rs → Unnamed k rs
  unnamed h = go (look k rs)
    where
      go : Hit k rs ⊎ Misses k rs (length rs) → Unnamed k rs
      go (inl f) = let p = place_at k rs f.index f.below f.misses f.has in absurd (omega (arith, f.below))
      go (inr m) = unnamed_of m

  -- where no record has the key
  pub nowhere : any (has_key k) rs ≡ false → Unnamed k rs
  nowhere e = go (look k rs)
    where
      go : Hit k rs ⊎ Misses k rs (length rs) → Unnamed k rs
      go (inl f) = absurd (not_both (any_in (has_key k) rs (at_in rs blank_record f.index f.below) f.has) e)
      go (inr m) = unnamed_of m

-- ## what a layout's key names, from the record itself

module _ (l : Layout) (k : Key) where
  pub keyed : {r : Record} → record_of l k ≡ some r → (any (has_key k) (standing l) ≡ true) × (record_named l k ≡ r)
  unfolding record_of record_named
  keyed {r} e = (
    true_from_ne_false _ (λ f. none-ne-some r (sym (nowhere k (standing l) f).is ∙ e)),
    ap (λ (o : Option Record). or_else o blank_record) e,
  )

  pub unkeyed : record_of l k ≡ none → any (has_key k) (standing l) ≡ false
  unfolding record_of
  unkeyed e = false_from_ne_true _ (λ t. none-ne-some _ (sym e ∙ (named k (standing l) (stands-below k (standing l) t)).is))
