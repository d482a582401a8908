-- The words of a line, by what std's `split` and `filter` give. Assumes nothing.
use Prim.Native.Nat.{ℕ, suc, ◌+◌}
use borrow.Author.Tests.{ne_eqb, ltb-false}
use native.Mathlib.Omega.{arith}
use mathlib.Core.Bool.{Bool, true, false, cond}
use mathlib.Core.Path.{◌≡◌, refl, sym, ap, ap₂, ◌∙◌}
use mathlib.Core.List.{List, [], ◌∷◌}
use Rattle.std.proofs.Common.{not, nat_eq, length}
use lib.Dec.{ltb}
use lib.ListN.{take}
use lib.Seq.{take_all}
use Rattle.std.specs.Prelude.{Option, Some, None, unwrap_or}
use Rattle.std.specs.List.{slice_split, onto_first, filter, position_or_len}
use Rattle.geometry.specs.Words.{only}
use Rattle.job.specs.Bytes.{up_to, onto, pieces, filled, is_blank}
use Rattle.job.specs.Words.{split}

-- ## `pieces` are the parts that `split` gives

onto_is : (b : ℕ) (ps : List (List ℕ)) → onto_first b ps ≡ onto b ps
unfolding onto
onto_is b [] = refl
onto_is b (p ∷ ps) = refl

pub pieces_is : (t : ℕ → Bool) (bs : List ℕ) → slice_split t bs ≡ pieces t bs
unfolding pieces
pieces_is t [] = refl
pieces_is t (b ∷ bs) = ap₂ (cond (t b)) (ap (λ (ps : List (List ℕ)). [] ∷ ps) (pieces_is t bs)) (ap (onto_first b) (pieces_is t bs) ∙ onto_is b (pieces t bs))

-- ## `only` is what `filter` gives

pub only_is : (t : List ℕ → Bool) (ws : List (List ℕ)) → filter t ws ≡ only t ws
unfolding only
only_is t [] = refl
only_is t (w ∷ ws) = rw (only_is t ws)

pub split_is : (line : List ℕ) → filter filled (slice_split is_blank line) ≡ split line
unfolding split
split_is line = ap (filter filled) (pieces_is is_blank line) ∙ only_is filled (pieces is_blank line)

filled_is : (w : List ℕ) → not (nat_eq (length w) 0) ≡ filled w
unfolding filled
filled_is [] = refl
filled_is (b ∷ bs) = ap not (ne_eqb (length (b ∷ bs)) 0 (λ e. omega arith))

-- a word is filled where it is not empty
pub told_filled : (w : List ℕ) (b : Bool) → b ≡ not (nat_eq (length w) 0) → b ≡ filled w
told_filled w b e = e ∙ filled_is w

-- ## what stands before the first byte that passes the test

before_is : (t : ℕ → Bool) (bs : List ℕ) → take (position_or_len t bs) bs ≡ up_to t bs
unfolding up_to
before_is t [] = refl
before_is t (b ∷ bs) = go (t b) (before_is t bs)
  where
    go : (m : Bool) → take (position_or_len t bs) bs ≡ up_to t bs → take (cond (not m) (1 + position_or_len t bs) 0) (b ∷ bs) ≡ cond m [] (b ∷ up_to t bs)
    go true e = refl
    go false e = let one : 1 + position_or_len t bs ≡ suc (position_or_len t bs) = omega arith in ap (λ (k : ℕ). take k (b ∷ bs)) one ∙ ap (λ (l : List ℕ). b ∷ l) e

pub before_place : (t : ℕ → Bool) (bs : List ℕ) {o : Option ℕ} → o ≡ cond (ltb (position_or_len t bs) (length bs)) (Some (position_or_len t bs)) None
    → take (unwrap_or o (length bs)) bs ≡ up_to t bs
before_place t bs e = ap (λ (o : Option ℕ). take (unwrap_or o (length bs)) bs) e ∙ go (ltb (position_or_len t bs) (length bs)) refl ∙ before_is t bs
  where
    go : (m : Bool) → ltb (position_or_len t bs) (length bs) ≡ m → take (unwrap_or (cond m (Some (position_or_len t bs)) None) (length bs)) bs ≡ take (position_or_len t bs) bs
    go true q = refl
    go false q = let past = ltb-false (position_or_len t bs) (length bs) q in take_all (length bs) bs (omega arith) ∙ sym (take_all (position_or_len t bs) bs past)
