-- The record that a key names, the part of a store that a row is, and that it lies in the store. Assumes nothing.
use Prim.Native.Nat.{ℕ, ◌+◌, ◌-◌, ◌*◌, ◌≤◌, ◌<◌}
use native.Mathlib.Nat.{mul-le-mul}
use native.Mathlib.Omega.{arith}
use mathlib.Core.Path.{◌≡◌, refl, sym, ap, ◌∙◌, subst}
use mathlib.Core.Bool.{true, false}
use mathlib.Core.List.{List}
use mathlib.Core.Option.{Option, none, some}
use lib.ListN.{length, take, drop}
use denote.Ref.{Bor}
use Rattle.geometry.specs.Words.{any}
use Rattle.art.specs.Stores.{Stores, lent, of_store, bytes_of, runs_past, place_of}
use Rattle.art.specs.declared.memory_rgba8_texture.Store.{Store}
use Rattle.art.specs.declared.memory_rgba8_texture.Stores.{Stores as LentStores}
use Rattle.art.specs.declared.memory_rgba8_texture.Store.TheVariants.{Symbols, Wording}
use Rattle.art.proofs.Places.{row_in, in_store}
use Rattle.records.specs.Records.{image_of}
use Rattle.records.specs.Layouts.{standing, well_formed, has_key, record_of, record_named}
use Rattle.records.specs.declared.frame.Key.{Key}
use Rattle.records.specs.declared.frame.Record.{Record}
use Rattle.records.specs.declared.layout.Layout.{Layout}
use Rattle.records.specs.declared.refusal.Refusal.{Refusal}
use Rattle.records.proofs.Checks.{Good, formed}
use Rattle.records.proofs.Keys.{keyed, named, stands-below}
use Rattle.lookup.specs.Reading.{read_refusal, Part, row_part, empty_part, part_answer, part_read, IsPart}

-- ## the record that a key names is one that stands

pub named-good : (l : Layout) → well_formed l ≡ true → (k : Key) → any (has_key k) (standing l) ≡ true → Good l.config (record_named l k)
unfolding record_of
named-good l e k stands =
    let below = stands-below k (standing l) stands in
    subst (Good l.config) (sym (keyed l k (named k (standing l) below).is).1) ((formed l e).at _ below)

-- ## the part

-- where the row starts and ends, as the code counts them
abbrev pub row_start : Record → ℕ → ℕ
row_start r y = r.offset + 4 * (y * r.source.w)

-- it counts in 64 bits, and lies in the store
pub row-few : (r : Record) (y : ℕ) → y ≤ 2048 → r.source.w ≤ 2048 → y * r.source.w ≤ 4194304
row-few r y p q = mul-le-mul p q

pub row_inside : (stores : LentStores) (r : Record) (y : ℕ) → y < r.source.h → runs_past (lent stores) (image_of r) ≡ false
    → row_start r y + 4 * r.source.w ≤ length (of_store r.store stores.symbols stores.wording).now
unfolding image_of bytes_of
row_inside stores r y h e =
    let b = in_store (lent stores) (image_of r) e in
    let i = row_in r.source.w r.source.h y h in
    let same : length (of_store r.store stores.symbols.now stores.wording.now) ≡ length (of_store r.store stores.symbols stores.wording).now = ap length (swap r.store) in
    omega arith
  where
    swap : (k : Store) → of_store k stores.symbols.now stores.wording.now ≡ (of_store k stores.symbols stores.wording).now
    swap Symbols = refl
    swap Wording = refl

-- ## what is handed back

-- the part from the row's start to its end
row_is : (r : Record) (y : ℕ)
    → record { store = r.store; start = row_start r y; size = row_start r y + 4 * r.source.w - row_start r y } ≡ row_part r y
unfolding row_part place_of image_of
row_is r y =
    let p : row_start r y ≡ r.offset + 4 * (y * r.source.w + 0) = omega arith in
    let q : row_start r y + 4 * r.source.w - row_start r y ≡ 4 * r.source.w = omega arith in
    λ i. record { store = r.store; start = p i; size = q i }

-- a part of the row's store, from the row's start to its end
pub row_part_is : (stores : LentStores) (r : Record) (y : ℕ) (store : Bor (List ℕ)) → store ≡ of_store r.store stores.symbols stores.wording
    → IsPart stores (record { store = r.store; start = row_start r y; size = row_start r y + 4 * r.source.w - row_start r y })
    (record { ref_ptr = (store.ref_ptr.0, row_start r y + store.ref_ptr.1); now = take (row_start r y + 4 * r.source.w - row_start r y) (drop (row_start r y) store.now) })
row_part_is stores r y store e = record {
  block = ap (λ (b : Bor (List ℕ)). b.ref_ptr.0) e;
  place = ap (λ (b : Bor (List ℕ)). row_start r y + b.ref_ptr.1) e;
  bytes = ap (λ (b : Bor (List ℕ)). take (row_start r y + 4 * r.source.w - row_start r y) (drop (row_start r y) b.now)) e;
}

module _ (l : Layout) (s : Stores) (k : Key) (y : ℕ) (stores : LentStores) (handed : Bor (List ℕ)) where
  pub empty-handed : {q : Refusal} → read_refusal l s k y ≡ some q → IsPart stores (record { store = Symbols; start = 0; size = 0 }) handed
      → IsPart stores (part_read l s k y) handed
  unfolding part_read empty_part
  empty-handed e p = subst (λ (o : Option Refusal). IsPart stores (part_answer (row_part (record_named l k) y) o) handed) (sym e) p

  pub row-handed : read_refusal l s k y ≡ none → (r : Record) → record_named l k ≡ r
      → IsPart stores (record { store = r.store; start = row_start r y; size = row_start r y + 4 * r.source.w - row_start r y }) handed
      → IsPart stores (part_read l s k y) handed
  unfolding part_read
  row-handed e r q p =
      let is : row_part r y ≡ part_answer (row_part (record_named l k) y) (read_refusal l s k y) =
      ap (λ (z : Record). row_part z y) (sym q) ∙ sym (ap (part_answer (row_part (record_named l k) y)) e)
      in
      subst (λ (part : Part). IsPart stores part handed) (row_is r y ∙ is) p
