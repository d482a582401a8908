-- Row of an image: a part of the store that it lies in.
-- Assumes nothing.
use Rattle.std.specs.Prelude.{ℕ, ◌+◌, ◌*◌, ◌≡◌, ⊤, not, Result, Ok, Err, List, [], ◌∷◌, take, drop, leb}
use Rattle.std.proofs.Math.Option.{Option, none, some}
use Rattle.std.specs.Borrow.{Bor}
use Rattle.geometry.specs.Words.{any}
use Rattle.art.specs.Stores.{Stores, of_store, bytes_of, runs_past, place_of}
use Rattle.art.specs.declared.memory_rgba8_texture.Store.{Store}
use Rattle.art.specs.declared.memory_rgba8_texture.Stores.{Stores as LentStores}
use Rattle.art.specs.declared.memory_rgba8_texture.Store.TheVariants.{Symbols}
use Rattle.records.specs.Refusals.{number_of, Row, first_refusal}
use Rattle.records.specs.Records.{image_of}
use Rattle.records.specs.Layouts.{standing, well_formed, has_key, record_named}
use Rattle.records.specs.declared.frame.Key.{Key}
use Rattle.records.specs.declared.frame.Record.{Record}
use Rattle.records.specs.declared.layout.Layout.{Layout}
use Rattle.records.specs.declared.refusal.Refusal.{Refusal}
use Rattle.records.specs.declared.refusal.Refusal.TheVariants.{NotWellFormed, NoSuchKey, BadRows, PastStore}

-- ## row of an image: 2 15 13 5

abbrev pub read_row : Layout → Stores → Key → ℕ → Row
read_row l s k y =
    (not (well_formed l), NotWellFormed)
    ∷ (not (any (has_key k) (standing l)), NoSuchKey)
    ∷ (leb (record_named l k).source.h y, BadRows)
    ∷ (runs_past s (image_of (record_named l k)), PastStore)
    ∷ []

unfoldable pub read_refusal : Layout → Stores → Key → ℕ → Option Refusal
read_refusal l s k y = first_refusal (read_row l s k y)

-- the sister operation: it is handed back, or why not
abbrev pub read_answer : Option Refusal → Result ⊤ Refusal
read_answer none = Ok tt
read_answer (some r) = Err r

unfoldable pub read : Layout → Stores → Key → ℕ → Result ⊤ Refusal
read l s k y = read_answer (read_refusal l s k y)

abbrev pub read_numbers : Result ⊤ Refusal → List ℕ
read_numbers (Ok done) = 0 ∷ []
read_numbers (Err r) = number_of r ∷ []

-- a part of a store: which, from where, how many bytes
pub record Part : Type 0 where
  pub store : Store
  pub start : ℕ
  pub size : ℕ

-- 4 x width bytes, the whole row untrimmed
unfoldable pub row_part : Record → ℕ → Part
row_part r y = record { store = r.store; start = place_of (image_of r) 0 y; size = 4 * r.source.w }

-- a refused row is an empty part of the symbol store
unfoldable pub empty_part : Part
empty_part = record { store = Symbols; start = 0; size = 0 }

abbrev pub part_answer : Part → Option Refusal → Part
part_answer k none = k
part_answer k (some r) = empty_part

unfoldable pub part_read : Layout → Stores → Key → ℕ → Part
part_read l s k y = part_answer (row_part (record_named l k) y) (read_refusal l s k y)

unfoldable pub part_bytes : Stores → Part → List ℕ
part_bytes s k = take k.size (drop k.start (bytes_of s k.store))

-- a reference to that part of the lent stores: it points into the store's own memory, at the start, and has the part's bytes
pub record IsPart (lent : LentStores) (k : Part) (r : Bor (List ℕ)) : Type 0 where
  pub block : r.ref_ptr.0 ≡ (of_store k.store lent.symbols lent.wording).ref_ptr.0
  pub place : r.ref_ptr.1 ≡ k.start + (of_store k.store lent.symbols lent.wording).ref_ptr.1
  pub bytes : r.now ≡ take k.size (drop k.start (of_store k.store lent.symbols lent.wording).now)
