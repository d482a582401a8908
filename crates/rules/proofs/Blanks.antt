-- Blank places: all of a list are blank exactly if the list is blank records. Assumes nothing.
use Prim.Native.Nat.{ℕ, zero, suc}
use mathlib.Core.Path.{◌≡◌, refl}
use mathlib.Core.Bool.{true}
use mathlib.Core.List.{List, [], ◌∷◌}
use lib.ListN.{length, replicate}
use Rattle.geometry.specs.Words.{all}
use Rattle.geometry.proofs.Words.{and_left, and_right, both}
use Rattle.records.specs.Settings.{blank_record}
use Rattle.records.specs.Records.{is_blank}
use Rattle.records.specs.declared.frame.Record.{Record}
use Rattle.records.proofs.Checks.{blank_is, is_blank_lem}

pub blanks_are : (rs : List Record) → all is_blank rs ≡ true → rs ≡ replicate (length rs) blank_record
unfolding all
blanks_are [] e = refl
blanks_are (r ∷ rs) e =
    let a = blank_is r (and_left (is_blank r) (all is_blank rs) e) in
    let b = blanks_are rs (and_right (is_blank r) (all is_blank rs) e) in
    λ i. a i ∷ b i

pub are_blank : (n : ℕ) → all is_blank (replicate n blank_record) ≡ true
unfolding all
are_blank zero = refl
are_blank (suc n) = both is_blank_lem (are_blank n)
