-- Words that the rules are written in: numbers in order, tests over a list, the greatest, the earliest.
-- Assumes nothing.
use Rattle.std.specs.Prelude.{ℕ, zero, suc, max, ⊤, Result, Ok, Err, Bool, true, false, cond, ◌&&◌, ◌||◌, List, [], ◌∷◌, ◌++◌, leb, ltb, eqb}
use Rattle.std.proofs.Math.Option.{Option, none, some}

-- n numbers, one after the other, the first of them i
unfoldable pub from : ℕ → ℕ → List ℕ
from i zero = []
from i (suc n) = i ∷ from (suc i) n

-- from a to b, both counted in
abbrev pub within : ℕ → ℕ → ℕ → Bool
within a b n = leb a n && leb n b

-- all of these hold
unfoldable pub all_of : List Bool → Bool
all_of [] = true
all_of (b ∷ bs) = b && all_of bs

module _ {A : Type 0} where
  unfoldable pub all : (A → Bool) → List A → Bool
  all t [] = true
  all t (x ∷ xs) = t x && all t xs

  unfoldable pub any : (A → Bool) → List A → Bool
  any t [] = false
  any t (x ∷ xs) = t x || any t xs

  -- those that pass the test, in order
  unfoldable pub only : (A → Bool) → List A → List A
  only t [] = []
  only t (x ∷ xs) = cond (t x) (x ∷ only t xs) (only t xs)

  -- the earliest that passes the test
  unfoldable pub earliest : (A → Bool) → List A → Option A
  earliest t [] = none
  earliest t (x ∷ xs) = cond (t x) (some x) (earliest t xs)

  -- what is there, or else d
  abbrev pub or_else : Option A → A → A
  or_else none d = d
  or_else (some x) d = x

  -- the greatest number that f gives, 0 of none
  unfoldable pub greatest : (A → ℕ) → List A → ℕ
  greatest f [] = 0
  greatest f (x ∷ xs) = max (f x) (greatest f xs)

module _ {A B : Type 0} where
  -- the lists that f gives, one after the other
  unfoldable pub flat : (A → List B) → List A → List B
  flat f [] = []
  flat f (x ∷ xs) = f x ++ flat f xs

-- the first of two lists of numbers stands before the second: the leftmost that differ decide
unfoldable pub before : List ℕ → List ℕ → Bool
before [] bs = false
before (a ∷ as') [] = false
before (a ∷ as') (b ∷ bs) = ltb a b || (eqb a b && before as' bs)

-- what a call that works in place has come to: the new state, or what it was refused for
abbrev pub reached : {S E : Type 0} → Result ⊤ E → S → Result S E
reached (Ok done) s = Ok s
reached (Err e) s = Err e
