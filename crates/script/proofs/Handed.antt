-- A row that is handed back has at most 2048 pixels. Assumes nothing.
use Prim.Native.Nat.{ℕ, ◌≤◌, min}
use native.Mathlib.Omega.{arith}
use mathlib.Core.Bool.{not}
use mathlib.Core.List.{List}
use mathlib.Core.Option.{Option, none, some}
use mathlib.Core.Path.{◌≡◌, refl, ap, ◌∙◌}
use lib.ListN.{length, drop, length-take}
use denote.Ref.{Bor}
use borrow.Author.Tests.{not-false}
use Rattle.geometry.specs.Words.{any}
use Rattle.art.specs.Stores.{Stores, of_store}
use Rattle.art.specs.declared.memory_rgba8_texture.Stores.{Stores as LentStores}
use Rattle.records.specs.Layouts.{standing, well_formed, has_key, record_named}
use Rattle.records.specs.declared.frame.Key.{Key}
use Rattle.records.specs.declared.layout.Layout.{Layout}
use Rattle.records.specs.declared.refusal.Refusal.{Refusal}
use Rattle.records.specs.declared.refusal.Refusal.TheVariants.{NotWellFormed, NoSuchKey}
use Rattle.records.proofs.Rows.{passed}
use Rattle.coords.proofs.Answers.{named-good}
use Rattle.lookup.specs.Reading.{read_refusal, row_part, empty_part, part_answer, part_read, IsPart}

module _ (l : Layout) (s : Stores) (k : Key) (y : ℕ) where
  short_by : (o : Option Refusal) → read_refusal l s k y ≡ o → (part_answer (row_part (record_named l k) y) o).size ≤ 8192
  unfolding read_refusal row_part empty_part
  short_by (some r) e = omega arith
  short_by none e =
      let p = passed (not (well_formed l)) NotWellFormed _ e in
      let q = passed (not (any (has_key k) (standing l))) NoSuchKey _ p.1 in
      let w = (named-good l k (not-false _ p.0) (not-false _ q.0)).whole_w_few in
      omega arith

  pub part-short : (part_read l s k y).size ≤ 8192
  unfolding part_read
  part-short = short_by (read_refusal l s k y) refl

  pub row-short : (stores : LentStores) (r : Bor (List ℕ)) → IsPart stores (part_read l s k y) r → length r.now ≤ 8192
  row-short stores r p =
      let n = (part_read l s k y).size in
      let rest : List ℕ = drop (part_read l s k y).start (of_store (part_read l s k y).store stores.symbols stores.wording).now in
      let e : length r.now ≡ min n (length rest) = ap length p.bytes ∙ length-take n rest in
      let m = part-short in
      omega arith
