-- A layout is its configuration and its standing records: one record more, one less. Assumes nothing.
use Prim.Native.Nat.{ℕ, suc, ◌+◌, ◌-◌, ◌≤◌, ◌<◌}
use native.Mathlib.Omega.{arith}
use mathlib.Core.Path.{◌≡◌, refl, sym, ◌∙◌, ap}
use mathlib.Core.Bool.{true}
use mathlib.Core.List.{List, [], ◌∷◌, ◌++◌}
use lib.ListN.{length, take, drop, get_or, set, replicate, length-append, length-replicate, length-drop, take-append-drop}
use lib.Seq.{length-take-le, take-append_seam, drop-append_seam, set-append_seam, get_or_at, append_snoc}
use Rattle.records.specs.Settings.{blank_record, empty_layout}
use Rattle.records.specs.Layouts.{standing, unused, well_formed}
use Rattle.records.specs.declared.texture_packer_config.Config.{Config}
use Rattle.records.specs.declared.frame.Record.{Record}
use Rattle.records.specs.declared.layout.Layout.{Layout}
use Rattle.rules.specs.Operations.{with_record, without_latest}
use Rattle.rules.specs.Story.{filled}
use Rattle.records.proofs.Checks.{formed}
use Rattle.rules.proofs.Blanks.{blanks_are}

pub length_snoc : (rs : List Record) (r : Record) → length (rs ++ r ∷ []) ≡ suc (length rs)
length_snoc rs r = simp length-append (omega arith)

pub standing-filled : (c : Config) (rs : List Record) → standing (filled c rs) ≡ rs
unfolding standing filled
standing-filled c rs = take-append_seam rs _

pub unused-filled : (c : Config) (rs : List Record) → unused (filled c rs) ≡ replicate (256 - length rs) blank_record
unfolding unused filled
unused-filled c rs = drop-append_seam rs _

pub places-filled : (c : Config) (rs : List Record) → length rs ≤ 256 → length (filled c rs).records ≡ 256
unfolding filled
places-filled c rs h = length-append rs _ ∙ ap (λ (n : ℕ). length rs + n) (length-replicate (256 - length rs) blank_record) ∙ omega arith

pub empty-filled : (c : Config) → empty_layout c ≡ filled c []
unfolding empty_layout filled
empty-filled c = refl

-- a well-formed layout of 256 places is its configuration and its standing records
pub is-filled : (l : Layout) → well_formed l ≡ true → length l.records ≡ 256 → l ≡ filled l.config (standing l)
unfolding filled standing unused
is-filled l ok long =
    let n : length (take l.count l.records) ≡ l.count = let f = (formed l ok).few in length-take-le l.count l.records (omega arith) in
    let m : length (drop l.count l.records) ≡ 256 - length (take l.count l.records) = length-drop l.count l.records ∙ omega arith in
    let b : drop l.count l.records ≡ replicate (256 - length (take l.count l.records)) blank_record =
    blanks_are (drop l.count l.records) (formed l ok).unused-so ∙ ap (λ (k : ℕ). replicate k blank_record) m in
    let all : l.records ≡ take l.count l.records ++ replicate (256 - length (take l.count l.records)) blank_record =
    sym (take-append-drop l.count l.records) ∙ ap (λ (z : List Record). take l.count l.records ++ z) b in
    λ i. record { config = l.config; count = sym n i; records = all i }

room : (n : ℕ) → n < 256 → replicate (256 - n) blank_record ≡ blank_record ∷ replicate (256 - suc n) blank_record
room n h = let e : 256 - n ≡ suc (256 - suc n) = omega arith in ap (λ (m : ℕ). replicate m blank_record) e

module _ (c : Config) (rs : List Record) (r : Record) (h : length rs < 256) where
  pub with_filled : with_record (filled c rs) r ≡ filled c (rs ++ r ∷ [])
  unfolding with_record filled
  with_filled =
      let n = length_snoc rs r in
      let k : length rs + 1 ≡ length (rs ++ r ∷ []) = omega arith in
      let m : set (rs ++ replicate (256 - length rs) blank_record) (length rs) r ≡ (rs ++ r ∷ []) ++ replicate (256 - length (rs ++ r ∷ [])) blank_record =
      rw (room (length rs) h, set-append_seam, n) (sym (append_snoc rs r _)) in
      λ i. record { config = c; count = k i; records = m i }

  pub without_filled : without_latest (filled c (rs ++ r ∷ [])) ≡ filled c rs
  unfolding without_latest filled
  without_filled =
      let n = length_snoc rs r in
      let k : length (rs ++ r ∷ []) - 1 ≡ length rs = omega arith in
      let m : set ((rs ++ r ∷ []) ++ replicate (256 - length (rs ++ r ∷ [])) blank_record) (length (rs ++ r ∷ []) - 1) blank_record
      ≡ rs ++ replicate (256 - length rs) blank_record =
      rw (k, n, append_snoc, set-append_seam, room (length rs) h) refl in
      λ i. record { config = c; count = k i; records = m i }

  -- the latest record
  pub latest_filled : get_or (filled c (rs ++ r ∷ [])).records ((filled c (rs ++ r ∷ [])).count - 1) blank_record ≡ r
  unfolding filled
  latest_filled =
      let n = length_snoc rs r in
      let k : length rs ≡ length (rs ++ r ∷ []) - 1 = omega arith in
      ap (λ (l : List Record). get_or l (length (rs ++ r ∷ []) - 1) blank_record) (append_snoc rs r (replicate (256 - length (rs ++ r ∷ [])) blank_record))
      ∙ get_or_at rs r _ blank_record (length (rs ++ r ∷ []) - 1) k

-- records with one at least: the latest, and the others
pub record Latest (rs : List Record) : Type 0 where
  pub others : List Record
  pub latest : Record
  pub is : rs ≡ others ++ latest ∷ []

pub latest_of : (r : Record) (rs : List Record) → Latest (r ∷ rs)
latest_of r [] = record { others = []; latest = r; is = refl }
latest_of r (q ∷ qs) = let t = latest_of q qs in record { others = r ∷ t.others; latest = t.latest; is = ap (λ (m : List Record). r ∷ m) t.is }
