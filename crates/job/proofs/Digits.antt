-- A number digit by digit. Assumes nothing.
use Prim.Native.Nat.{ℕ, ◌+◌, ◌*◌, ◌-◌, ◌≤◌, ◌<◌}
use native.Mathlib.Omega.{arith}
use mathlib.Core.Bool.{Bool, true, false, cond, ◌&&◌}
use mathlib.Core.Path.{◌≡◌, refl, sym, ap, ◌∙◌}
use mathlib.Core.List.{List, [], ◌∷◌}
use lib.Dec.{leb}
use lib.ListN.{length}
use borrow.Author.Tests.{le-leb, lt-leb, leb-true, leb-false}
use Rattle.geometry.specs.Words.{all_of, all}
use Rattle.geometry.proofs.Words.{and_left, and_right}
use Rattle.records.proofs.Rows.{and_true}
use Rattle.job.specs.Bytes.{filled}
use Rattle.job.specs.Numbers.{is_digit, value_from, number_in}
use Rattle.job.specs.Steps.{with_digit}
use Rattle.std.specs.Prelude.{Option, Some, None}

-- the digits that follow those of n
unfoldable pub digits_from : ℕ → List ℕ → Option ℕ
digits_from n bs = cond (all is_digit bs && leb (value_from n bs) 4294967295) (Some (value_from n bs)) None

-- ## tests

pub picks : (t : Bool) (m n : ℕ) → cond t (Some n) None ≡ Some m → (t ≡ true) × (m ≡ n)
picks true m n e = (refl, (cc))
picks false m n e = let z : ◌≡◌ {A = ℕ} 0 1 = cc in absurd (omega arith)

leaves : (t : Bool) (n : ℕ) → cond t (Some n) None ≡ None → t ≡ false
leaves true n e = let z : ◌≡◌ {A = ℕ} 0 1 = cc in absurd (omega arith)
leaves false n e = refl

-- ## one digit more

grows : (n : ℕ) (bs : List ℕ) → n ≤ value_from n bs
unfolding value_from
grows n [] = omega arith
grows n (b ∷ bs) = let h = grows (10 * n + (b - 48)) bs in omega arith

-- a digit decides nothing more
with_it : (d m l : Bool) (n : ℕ) → d ≡ true → cond ((d && m) && l) (Some n) None ≡ cond (m && l) (Some n) None
with_it d m l n e = rw e

without : (d m l : Bool) (n : ℕ) → d ≡ false → cond ((d && m) && l) (Some n) None ≡ None
without d m l n e = rw e

past : (d l : Bool) (n : ℕ) → l ≡ false → cond (d && l) (Some n) None ≡ None
past true l n e = rw e
past false l n e = refl

pub goes : (n b m : ℕ) (bs : List ℕ) → with_digit n b ≡ Some m → (digits_from n (b ∷ bs) ≡ digits_from m bs) × (m ≤ 4294967295)
unfolding digits_from with_digit all value_from
goes n b m bs e =
    let p = picks (is_digit b && leb (10 * n + (b - 48)) 4294967295) m (10 * n + (b - 48)) e in
    let d : is_digit b ≡ true = and_left (is_digit b) (leb (10 * n + (b - 48)) 4294967295) p.0 in
    let l : 10 * n + (b - 48) ≤ 4294967295 = leb-true (10 * n + (b - 48)) 4294967295 (and_right (is_digit b) (leb (10 * n + (b - 48)) 4294967295) p.0) in (
      with_it (is_digit b) (all is_digit bs) (leb (value_from (10 * n + (b - 48)) bs) 4294967295) (value_from (10 * n + (b - 48)) bs) d
          ∙ ap (λ (k : ℕ). digits_from k bs) (sym p.1),
      omega arith,
    )

pub stops : (n b : ℕ) (bs : List ℕ) → with_digit n b ≡ None → digits_from n (b ∷ bs) ≡ None
unfolding digits_from with_digit all value_from
stops n b bs e = go (is_digit b) refl
  where
    here : leb (10 * n + (b - 48)) 4294967295 ≡ false → digits_from n (b ∷ bs) ≡ None
    here q =
        let h = grows (10 * n + (b - 48)) bs in
        let k = leb-false (10 * n + (b - 48)) 4294967295 q in
        past (all is_digit (b ∷ bs)) (leb (value_from (10 * n + (b - 48)) bs) 4294967295) (value_from (10 * n + (b - 48)) bs)
        (lt-leb (value_from (10 * n + (b - 48)) bs) 4294967295 (omega arith))

    go : (d : Bool) → is_digit b ≡ d → digits_from n (b ∷ bs) ≡ None
    go true p =
        here
        (leaves (leb (10 * n + (b - 48)) 4294967295) (10 * n + (b - 48))
        (ap (λ (d : Bool). cond (d && leb (10 * n + (b - 48)) 4294967295) (Some (10 * n + (b - 48))) None) (sym p) ∙ e))
    go false p = without (is_digit b) (all is_digit bs) (leb (value_from (10 * n + (b - 48)) bs) 4294967295) (value_from (10 * n + (b - 48)) bs) p

pub ends : (n : ℕ) → n ≤ 4294967295 → digits_from n [] ≡ Some n
unfolding digits_from all value_from
ends n h = rw (le-leb n 4294967295 h)

-- ## the whole word

pub whole : (w : List ℕ) → 0 < length w → number_in w ≡ digits_from 0 w
unfolding number_in digits_from all_of filled
whole [] h = absurd (omega arith)
whole (b ∷ bs) h =
    ap (λ (l : Bool). cond (all is_digit (b ∷ bs) && l) (Some (value_from 0 (b ∷ bs))) None) (sym (and_true (leb (value_from 0 (b ∷ bs)) 4294967295)))

pub none : (w : List ℕ) → length w ≡ 0 → number_in w ≡ None
unfolding number_in all_of filled
none [] h = refl
none (b ∷ bs) h = absurd (omega arith)
