-- Rows of tests: all of them hold, or the first that holds is answered; and a test over a list. Assumes nothing.
use Prim.Native.Nat.{ℕ, zero, suc, ◌<◌}
use native.Mathlib.Omega.{arith}
use mathlib.Core.Bool.{not, Bool, true, false, cond, ◌&&◌}
use mathlib.Core.Logic.{◌↔◌, ◌⊎◌, inl, inr}
use mathlib.Core.Path.{◌≡◌, refl, sym, ap, ap₂, ◌∙◌}
use mathlib.Core.List.{List, [], ◌∷◌, ◌++◌, Memᴰ}
use mathlib.Core.Option.{none, some}
use lib.Dec.{eqb}
use lib.ListN.{length, get_or}
use borrow.Author.Tests.{eq-eqb, not-true}
use Rattle.std.specs.Bool.{MatchBool}
use Rattle.std.specs.List.{AllWithin, HoldsAt}
use Rattle.geometry.proofs.Words.{not_both, and_left, and_right, and_no_left, and_no_right, both}
use Rattle.geometry.specs.Words.{all_of, all}
use Rattle.records.specs.Refusals.{number_of, Row, first_refusal}
use Rattle.records.specs.declared.refusal.Refusal.{Refusal}

-- ## all of a row

-- each of these holds
abbrev pub Alls : List Bool → Type 0
Alls [] = Unit {0}
Alls (b ∷ bs) = (b ≡ true) × Alls bs

pub all_of_lem : (bs : List Bool) → all_of bs ≡ true → Alls bs
unfolding all_of
all_of_lem [] e = tt
all_of_lem (b ∷ bs) e = (and_left b (all_of bs) e, all_of_lem bs (and_right b (all_of bs) e))

pub of_all : (bs : List Bool) → Alls bs → all_of bs ≡ true
unfolding all_of
of_all [] h = refl
of_all (b ∷ bs) h = both h.0 (of_all bs h.1)

-- two rows agree, test by test
abbrev pub Agree : List Bool → List Bool → Type 0
Agree [] [] = Unit {0}
Agree [] (c ∷ cs) = ⊥
Agree (b ∷ bs) [] = ⊥
Agree (b ∷ bs) (c ∷ cs) = (b ≡ c) × Agree bs cs

agree : (bs cs : List Bool) → Agree bs cs → all_of bs ≡ all_of cs
unfolding all_of
agree [] [] h = refl
agree [] (c ∷ cs) h = absurd h
agree (b ∷ bs) [] h = absurd h
agree (b ∷ bs) (c ∷ cs) h = ap₂ ◌&&◌ h.0 (agree bs cs h.1)

-- a row as the code joins it
abbrev pub and_all : Bool → List Bool → Bool
and_all b [] = b
and_all b (c ∷ cs) = and_all (b && c) cs

and_assoc : (a b c : Bool) → ((a && b) && c) ≡ (a && (b && c))
and_assoc true b c = refl
and_assoc false b c = refl

pub and_true : (a : Bool) → a ≡ (a && true)
and_true true = refl
and_true false = refl

joins : (b : Bool) (cs : List Bool) → and_all b cs ≡ (b && all_of cs)
unfolding all_of
joins b [] = and_true b
joins b (c ∷ cs) = joins (b && c) cs ∙ and_assoc b c (all_of cs)

-- is all of a row with which it agrees
pub joined : (b : Bool) (bs cs : List Bool) → Agree (b ∷ bs) cs → and_all b bs ≡ all_of cs
unfolding all_of
joined b bs cs h = joins b bs ∙ agree (b ∷ bs) cs h

-- a row as a derived `==` joins it
abbrev pub and_each : Bool → List Bool → Bool
and_each b [] = b
and_each b (c ∷ cs) = b && and_each c cs

each_joins : (b : Bool) (cs : List Bool) → and_each b cs ≡ all_of (b ∷ cs)
unfolding all_of
each_joins b [] = and_true b
each_joins b (c ∷ cs) = ap (λ (d : Bool). b && d) (each_joins c cs)

-- is all of a row with which it agrees
pub each_joined : (b : Bool) (bs cs : List Bool) → Agree (b ∷ bs) cs → and_each b bs ≡ all_of cs
each_joined b bs cs h = each_joins b bs ∙ agree (b ∷ bs) cs h

-- ## the first of a row

module _ (b : Bool) (r : Refusal) (cs : Row) where
  pub hit : b ≡ true → first_refusal ((b, r) ∷ cs) ≡ some r
  unfolding first_refusal
  hit e = rw e

  pub skipped : b ≡ false → first_refusal ((b, r) ∷ cs) ≡ first_refusal cs
  unfolding first_refusal
  skipped e = rw e

  pub passed : first_refusal ((b, r) ∷ cs) ≡ none → (b ≡ false) × (first_refusal cs ≡ none)
  unfolding first_refusal
  passed e = go b e
    where
      go : (t : Bool) → cond t (some r) (first_refusal cs) ≡ none → (t ≡ false) × (first_refusal cs ≡ none)
      go true q = absurd cc
      go false q = (refl, q)

pub none_left : first_refusal [] ≡ none
unfolding first_refusal
none_left = refl

-- r is answered: its test holds, and none before it
abbrev pub First : Row → Refusal → Type 0
First [] r = ⊥
First (c ∷ cs) r = ((c.0 ≡ true) × (c.1 ≡ r)) ⊎ ((c.0 ≡ false) × First cs r)

pub first-is : (cs : Row) {r : Refusal} → First cs r → first_refusal cs ≡ some r
unfolding first_refusal
first-is [] h = absurd h
first-is (c ∷ cs) (inl h) = rw h.0 (ap some h.1)
first-is (c ∷ cs) (inr h) = rw h.0 (first-is cs h.1)

pub is-first : (cs : Row) {r : Refusal} → first_refusal cs ≡ some r → First cs r
unfolding first_refusal
is-first [] e = absurd cc
is-first (c ∷ cs) {r} e = go c.0 refl e (λ q. is-first cs q)
  where
    go : (t : Bool) → c.0 ≡ t → cond t (some c.1) (first_refusal cs) ≡ some r → (first_refusal cs ≡ some r → First cs r) → First (c ∷ cs) r
    go true p q rest = inl (p, (cc))
    go false p q rest = inr (p, rest q)

-- none of a row's tests holds
abbrev pub Nones : Row → Type 0
Nones [] = Unit {0}
Nones (c ∷ cs) = (c.0 ≡ false) × Nones cs

-- no check of a row answers r
abbrev pub lacks : Refusal → Row → Bool
lacks r [] = true
lacks r (c ∷ cs) = not (eqb (number_of c.1) (number_of r)) && lacks r cs

other : (q r : Refusal) → not (eqb (number_of q) (number_of r)) ≡ true → q ≡ r → ⊥
other q r e p = not_both (eq-eqb (number_of q) (number_of r) (ap number_of p)) (not-true _ e)

lacks_not : (cs : Row) (r : Refusal) → lacks r cs ≡ true → First cs r → ⊥
lacks_not [] r p h = h
lacks_not (c ∷ cs) r p (inl h) = other c.1 r (and_left (not (eqb (number_of c.1) (number_of r))) (lacks r cs) p) h.1
lacks_not (c ∷ cs) r p (inr h) = lacks_not cs r (and_right (not (eqb (number_of c.1) (number_of r))) (lacks r cs) p) h.1

first-at : (before : Row) (b : Bool) (r : Refusal) (after : Row) → lacks r before ≡ true → lacks r after ≡ true
    → First (before ++ (b, r) ∷ after) r → Nones before × (b ≡ true)
first-at [] b r after p q (inl h) = (tt, h.0)
first-at [] b r after p q (inr h) = absurd (lacks_not after r q h.1)
first-at (c ∷ cs) b r after p q (inl h) = absurd (other c.1 r (and_left (not (eqb (number_of c.1) (number_of r))) (lacks r cs) p) h.1)
first-at (c ∷ cs) b r after p q (inr h) =
    let rest = first-at cs b r after (and_right (not (eqb (number_of c.1) (number_of r))) (lacks r cs) p) q h.1 in
    ((h.0, rest.0), rest.1)

at_first : (before : Row) (b : Bool) (r : Refusal) (after : Row) → Nones before → b ≡ true → First (before ++ (b, r) ∷ after) r
at_first [] b r after n e = inl (e, refl)
at_first (c ∷ cs) b r after n e = inr (n.0, at_first cs b r after n.1 e)

-- a row's number is given exactly when its condition holds and none before it does
pub exactly : (before : Row) (b : Bool) (r : Refusal) (after : Row) → lacks r before ≡ true → lacks r after ≡ true
    → first_refusal (before ++ (b, r) ∷ after) ≡ some r ↔ Nones before × (b ≡ true)
exactly before b r after p q =
    (λ e. first-at before b r after p q (is-first _ e), λ h. first-is _ (at_first before b r after h.0 h.1))

-- ## a test over a list

module _ {A : Type 0} (t : A → Bool) where
  pub all_in : (l : List A) → all t l ≡ true → {x : A} → Memᴰ x l → t x ≡ true
  unfolding all
  all_in [] e x4 = elim x4 [ ]
  all_in (y ∷ ys) e (Memᴰ.head q) = ap t q ∙ and_left (t y) (all t ys) e
  all_in (y ∷ ys) e (Memᴰ.tail m) = all_in ys (and_right (t y) (all t ys) e) m

  pub in_all : (l : List A) → ((x : A) → Memᴰ x l → t x ≡ true) → all t l ≡ true
  unfolding all
  in_all [] h = refl
  in_all (y ∷ ys) h = both (h y (Memᴰ.head refl)) (in_all ys (λ x m. h x (Memᴰ.tail m)))

  pub all_append : (l m : List A) → all t l ≡ true → all t m ≡ true → all t (l ++ m) ≡ true
  unfolding all
  all_append [] m p q = q
  all_append (y ∷ ys) m p q = both (and_left (t y) (all t ys) p) (all_append ys m (and_right (t y) (all t ys) p) q)

  each_passes : (l : List A) → AllWithin (λ x. t x ≡ true) l 0 (length l) → all t l ≡ true
  unfolding all
  each_passes [] h = refl
  each_passes (y ∷ ys) h = both (h 0 y (omega arith) (omega arith)) (each_passes ys (λ k d a b. h (suc k) d (omega arith) (omega arith)))

  one_fails : (l : List A) (k : ℕ) → k < length l → HoldsAt (λ x. t x ≡ false) l k → all t l ≡ false
  unfolding all
  one_fails [] k b e = absurd (omega arith)
  one_fails (y ∷ ys) zero b e = and_no_left (t y) (all t ys) (e y)
  one_fails (y ∷ ys) (suc k) b e = and_no_right (t y) (all t ys) (one_fails ys k (omega arith) (λ d. e d))

  -- what a chain's `all` answers
  pub all_is : (r : Bool) (l : List A)
      → MatchBool r (AllWithin (λ x. t x ≡ true) l 0 (length l)) ((k : ℕ) × (k < length l) × HoldsAt (λ x. t x ≡ false) l k)
      → r ≡ all t l
  all_is true l h = sym (each_passes l h)
  all_is false l h = sym (one_fails l h.0 h.1 h.2)

-- what stands at an index is a member
pub at_in : {A : Type 0} (l : List A) (d : A) (i : ℕ) → i < length l → Memᴰ (get_or l i d) l
at_in [] d i h = absurd (omega arith)
at_in (x ∷ l) d zero h = Memᴰ.head refl
at_in (x ∷ l) d (suc i) h = Memᴰ.tail (at_in l d i (omega arith))
