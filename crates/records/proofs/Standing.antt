-- The standing records, one after the other, in a layout of 256 places. Assumes nothing.
use Prim.Native.Nat.{ℕ, zero, suc, ◌+◌, ◌≤◌, ◌<◌}
use native.Mathlib.Omega.{arith}
use native.Mathlib.Numerals.{add-one}
use mathlib.Core.Path.{◌≡◌, refl, sym, ap, ◌∙◌, subst}
use mathlib.Core.Bool.{Bool}
use mathlib.Core.List.{List, [], ◌∷◌, ◌++◌}
use lib.ListN.{length, get_or, take, drop}
use lib.Seq.{take-suc, drop-cons, length-take-le, take_all, get_or-take}
use Rattle.geometry.specs.Words.{all}
use Rattle.records.specs.Settings.{blank_record}
use Rattle.records.specs.Records.{is_blank}
use Rattle.records.specs.Layouts.{standing, unused}
use Rattle.records.specs.declared.frame.Record.{Record}
use Rattle.records.specs.declared.layout.Layout.{Layout}
use Rattle.records.proofs.Checks.{Good, Formed}

-- ## what is left of a list, from index i on

module _ {A : Type 0} (t : A → Bool) (l : List A) (d : A) where
  pub rest_next : (i : ℕ) → i < length l → drop i l ≡ get_or l i d ∷ drop (i + 1) l
  rest_next i h = drop-cons l i d h ∙ ap (λ (j : ℕ). get_or l i d ∷ drop j l) (sym (add-one i))

-- ## some of a list, and one more

pub take_next : {A : Type 0} (l : List A) (d : A) (i : ℕ) → i < length l → take (i + 1) l ≡ take i l ++ get_or l i d ∷ []
take_next l d i h = ap (λ (j : ℕ). take j l) (add-one i) ∙ take-suc l i d h

-- ## the standing records

module _ (l : Layout) (long : length l.records ≡ 256) (few : l.count ≤ 256) where
  pub standing-long : length (standing l) ≡ l.count
  unfolding standing
  standing-long = length-take-le l.count l.records (omega arith)

  pub standing-at : (d : Record) (i : ℕ) → i < l.count → get_or (standing l) i d ≡ get_or l.records i d
  unfolding standing
  standing-at d i h = get_or-take l.count l.records i d h

  pub standing-whole : (i : ℕ) → l.count ≤ i → take i (standing l) ≡ standing l
  standing-whole i h = let n = standing-long in take_all i (standing l) (omega arith)

pub unused-from : (l : Layout) → all is_blank (drop l.count l.records) ≡ all is_blank (unused l)
unfolding unused
unused-from l = refl

pub standing-good : (l : Layout) → length l.records ≡ 256 → (f : Formed l) → (d : Record) (i : ℕ) → i < l.count → Good l.config (get_or l.records i d)
standing-good l long f d i h =
    let n = standing-long l long f.few in
    subst (Good l.config) (standing-at l long f.few blank_record i h ∙ same l.records i (omega (arith, f.few))) (f.at i (omega arith))
  where
    same : (rs : List Record) (i : ℕ) → i < length rs → get_or rs i blank_record ≡ get_or rs i d
    same [] i g = absurd (omega arith)
    same (r ∷ rs) zero g = refl
    same (r ∷ rs) (suc i) g = same rs i (omega arith)
