-- What document 01 says of pixel and of the row of an image, each under the sentence that it carries. The crates above cite these.
-- Assumes nothing.
use Prim.Native.Nat.{ℕ, ◌+◌, ◌-◌, ◌*◌, ◌≤◌, ◌<◌}
use native.Mathlib.Omega.{arith}
use native.Mathlib.Decide.{dec_lt}
use mathlib.Core.Path.{◌≡◌, refl, sym, ap, ◌∙◌}
use mathlib.Core.Bool.{Bool, true, false, not}
use mathlib.Core.List.{List, [], ◌∷◌, Memᴰ}
use mathlib.Core.Logic.{◌↔◌, ◌⊎◌, inl, inr}
use mathlib.Core.Option.{Option, none, some}
use lib.ListN.{length, get_or}
use lib.Dec.{leb}
use Rattle.std.specs.Prelude.{⊤, Option as Maybe, Some, None, Result, Ok, Err}
use denote.Ref.{Bor}
use borrow.Author.Tests.{eq-eqb, eqb-true}
use Rattle.geometry.specs.Words.{any}
use Rattle.geometry.specs.Fits.{Apart}
use Rattle.geometry.specs.Rects.{on_outline}
use Rattle.geometry.specs.declared.spot.Turn.TheVariants.{Upright, Turned}
use Rattle.geometry.proofs.Words.{both}
use Rattle.art.specs.Stores.{Stores, lent, runs_past, pixel_from, pixel_in}
use Rattle.art.specs.declared.memory_rgba8_texture.Pixel.{Pixel}
use Rattle.art.specs.declared.memory_rgba8_texture.Stores.{Stores as LentStores}
use Rattle.records.specs.Refusals.{number_of, first_refusal, row_numbers}
use Rattle.records.specs.Settings.{blank_record}
use Rattle.records.specs.Records.{image_of}
use Rattle.records.specs.Layouts.{standing, well_formed, has_key, record_named}
use Rattle.records.specs.Operations.{no_such_page}
use Rattle.records.specs.declared.texture_packer_config.Config.{Config}
use Rattle.records.specs.declared.frame.Key.{Key}
use Rattle.records.specs.declared.frame.Page.{Page}
use Rattle.records.specs.declared.frame.Record.{Record}
use Rattle.records.specs.declared.layout.Layout.{Layout}
use Rattle.records.specs.declared.refusal.Refusal.{Refusal}
use Rattle.records.specs.declared.refusal.Refusal.TheVariants.{NotWellFormed, NoSuchPage, NoSuchKey, BadRows, PastStore}
use Rattle.records.proofs.Checks.{formed}
use Rattle.art.proofs.Theorems.{one}
use Rattle.rules.specs.Faithful.{faithful}
use Rattle.rules.proofs.Rows.{Passed, answer_in}
use Rattle.rules.proofs.Theorems.{cells_apart}
use Rattle.lookup.specs.Zones.{zone, reaches, owner, local, red, frame_pixel, pixel_of, pixel_among, pixel_at}
use Rattle.lookup.specs.Looking.{page_past, look_row, look_refusal, look_answer, looked, looked_numbers}
use Rattle.lookup.specs.Reading.{read_row, read_refusal, read, read_numbers, Part, row_part, empty_part, part_answer, part_read, part_bytes, IsPart}
use Rattle.lookup.proofs.Zones.{frame_outlined, local-before, local-after, upright_own, turned_own}
use Rattle.lookup.proofs.Apart.{zone_apart, cells_two}
use Rattle.lookup.proofs.Owners.{FirstAt, NonePasses, first-is, none_is, look, only-first, reached_on, reached_in}
use Rattle.lookup.proofs.Bytes.{part_reads, empty-bytes, row-long, row-pixel}
use Rattle.lookup.proofs.Answers.{look_row_lem, look_at, refused-looked, found-looked, none-looked, looked-found, read-row, read_at, refused-read, readable, looked_tells, read_tells}

-- ## "pixel: 2 11 5"; "row of an image: 2 15 13 5"

pub look_order : (l : Layout) (s : Stores) (p : Page) → (look_refusal l s p ≡ first_refusal (look_row l s p)) × (row_numbers (look_row l s p) ≡ 2 ∷ 11 ∷ 5 ∷ [])
look_order l s p = (look_row_lem l s p, refl)

pub read-order : (l : Layout) (s : Stores) (k : Key) (y : ℕ)
    → (read_refusal l s k y ≡ first_refusal (read_row l s k y)) × (row_numbers (read_row l s k y) ≡ 2 ∷ 15 ∷ 13 ∷ 5 ∷ [])
read-order l s k y = (read-row l s k y, refl)

-- ## "Each row's checks run left to right; the first that holds is answered. Each is given exactly when its condition holds."

-- `Passed n` says that none of the first n checks of the row holds.
module _ (l : Layout) (s : Stores) (p : Page) (x y : ℕ) where
  pub look_2 : looked l s p x y ≡ Err NotWellFormed ↔ (Passed 0 (look_row l s p) × (not (well_formed l) ≡ true))
  look_2 = look_at l s p x y 0 (omega arith) (refl, refl)

  pub look_11 : looked l s p x y ≡ Err NoSuchPage ↔ (Passed 1 (look_row l s p) × (no_such_page l p ≡ true))
  look_11 = look_at l s p x y 1 (omega arith) (refl, refl)

  pub look_5 : looked l s p x y ≡ Err PastStore ↔ (Passed 2 (look_row l s p) × (page_past s p (standing l) ≡ true))
  look_5 = look_at l s p x y 2 (omega arith) (refl, refl)

  -- no other number is answered
  pub look_only : (r : Refusal) → looked l s p x y ≡ Err r → Memᴰ (number_of r) (2 ∷ 11 ∷ 5 ∷ [])
  look_only r e = answer_in (look_row l s p) r (sym (look_row_lem l s p) ∙ refused-looked l s p x y r e)

module _ (l : Layout) (s : Stores) (k : Key) (y : ℕ) where
  pub read_2 : read l s k y ≡ Err NotWellFormed ↔ (Passed 0 (read_row l s k y) × (not (well_formed l) ≡ true))
  read_2 = read_at l s k y 0 (omega arith) (refl, refl)

  pub read_15 : read l s k y ≡ Err NoSuchKey ↔ (Passed 1 (read_row l s k y) × (not (any (has_key k) (standing l)) ≡ true))
  read_15 = read_at l s k y 1 (omega arith) (refl, refl)

  pub read_13 : read l s k y ≡ Err BadRows ↔ (Passed 2 (read_row l s k y) × (leb (record_named l k).source.h y ≡ true))
  read_13 = read_at l s k y 2 (omega arith) (refl, refl)

  pub read_5 : read l s k y ≡ Err PastStore ↔ (Passed 3 (read_row l s k y) × (runs_past s (image_of (record_named l k)) ≡ true))
  read_5 = read_at l s k y 3 (omega arith) (refl, refl)

  pub read_only : (r : Refusal) → read l s k y ≡ Err r → Memᴰ (number_of r) (2 ∷ 15 ∷ 13 ∷ 5 ∷ [])
  read_only r e = answer_in (read_row l s k y) r (sym (read-row l s k y) ∙ refused-read l s k y r e)

-- ## "A pixel belongs to the earliest accepted frame whose zone holds it. [..] No zone: no pixel."

-- the standing record in place i
abbrev standing_at : Layout → ℕ → Record
standing_at l i = get_or (standing l) i blank_record

module _ (l : Layout) (p : Page) (x y : ℕ) where
  -- the earliest in place i: on that page, its zone holds the pixel, and neither is so of any before it
  abbrev pub Owns : ℕ → Type 0
  Owns i = FirstAt (reaches l.config p x y) blank_record (standing l) i

  abbrev pub NoZone : Type 0
  NoZone = NonePasses (reaches l.config p x y) blank_record (standing l)

  owned : (s : Stores) (i : ℕ) → Owns i → pixel_at l s p x y ≡ some (frame_pixel l.config s (standing_at l i) x y)
  unfolding pixel_at pixel_among owner pixel_of
  owned s i o = ap (pixel_of l.config s x y) (first-is (reaches l.config p x y) blank_record (standing l) i o)

  unowned : (s : Stores) → NoZone → pixel_at l s p x y ≡ none
  unfolding pixel_at pixel_among owner pixel_of
  unowned s o = ap (pixel_of l.config s x y) (none_is (reaches l.config p x y) blank_record (standing l) o)

  -- what it shows is what that frame gives it
  pub shows : (s : Stores) (k : Pixel) → looked l s p x y ≡ Ok (Some k)
      ↔ ((look_refusal l s p ≡ none) × ((i : ℕ) × Owns i × (k ≡ frame_pixel l.config s (standing_at l i) x y)))
  shows s k = (to, back)
    where
      to : looked l s p x y ≡ Ok (Some k) → (look_refusal l s p ≡ none) × ((i : ℕ) × Owns i × (k ≡ frame_pixel l.config s (standing_at l i) x y))
      to e = let f = found-looked l s p x y k e in (f.0, go f.1 (look (reaches l.config p x y) blank_record (standing l)))
        where
          go : pixel_at l s p x y ≡ some k → ((i : ℕ) × Owns i) ⊎ NoZone → (i : ℕ) × Owns i × (k ≡ frame_pixel l.config s (standing_at l i) x y)
          go q (inl o) = let z : some k ≡ some (frame_pixel l.config s (standing_at l o.0) x y) = sym q ∙ owned s o.0 o.1 in (o.0, o.1, same z)
            where
              same : {a b : Pixel} → some a ≡ some b → a ≡ b
              same w = cc
          go q (inr o) = absurd (never (sym q ∙ unowned s o))
            where
              never : some k ≡ none → ⊥
              never w = cc

      back : (look_refusal l s p ≡ none) × ((i : ℕ) × Owns i × (k ≡ frame_pixel l.config s (standing_at l i) x y)) → looked l s p x y ≡ Ok (Some k)
      back h =
          sym (looked-found l s p x y h.0)
          ∙ ap (λ (o : Option Pixel). look_answer o none) (owned s h.1.0 h.1.1)
          ∙ ap (λ (q : Pixel). Ok (Some q)) (sym h.1.2)

  pub no_pixel : (s : Stores) → looked l s p x y ≡ Ok None ↔ ((look_refusal l s p ≡ none) × NoZone)
  no_pixel s = (to, λ h. sym (looked-found l s p x y h.0) ∙ ap (λ (o : Option Pixel). look_answer o none) (unowned s h.1))
    where
      to : looked l s p x y ≡ Ok None → (look_refusal l s p ≡ none) × NoZone
      to e = let f = none-looked l s p x y e in (f.0, go f.1 (look (reaches l.config p x y) blank_record (standing l)))
        where
          go : pixel_at l s p x y ≡ none → ((i : ℕ) × Owns i) ⊎ NoZone → NoZone
          go q (inl o) = absurd (never (sym q ∙ owned s o.0 o.1))
            where
              never : {a : Pixel} → none ≡ some a → ⊥
              never w = cc
          go q (inr o) = o

-- ## "If e is at most b+p, zones on one page of a faithful layout share no pixel."

module _ (l : Layout) (well : well_formed l ≡ true) (true-to : faithful l ≡ true) (few : l.config.extrusion ≤ l.config.border + l.config.padding) where
  in_order : (i j : ℕ) → i < j → j < length (standing l) → (standing_at l i).page.0 ≡ (standing_at l j).page.0
      → Apart (zone l.config (standing_at l i)) (zone l.config (standing_at l j))
  in_order i j h g e =
      let r = (formed l well).at i (omega arith) in
      let q = (formed l well).at j g in
      let p = (standing_at l j).page.0 in
      let cells = cells_two l.config (standing l) blank_record p (cells_apart l well true-to p) i j h g (eq-eqb (standing_at l i).page.0 p e) (eq-eqb p p refl) in
      zone_apart l.config (standing_at l i) (standing_at l j) few r.left r.top q.left q.top cells

  pub zones_apart : (i j : ℕ) → i < length (standing l) → j < length (standing l) → (i ≡ j → ⊥) → (standing_at l i).page.0 ≡ (standing_at l j).page.0
      → Apart (zone l.config (standing_at l i)) (zone l.config (standing_at l j))
  zones_apart i j h g ne e = go (dec_lt i j)
    where
      go : Dec (i < j) → Apart (zone l.config (standing_at l i)) (zone l.config (standing_at l j))
      go (yes lt) = in_order i j lt g e
      go (no ge) = λ x y a b. in_order j i (omega arith) h (sym e) x y b a

  -- so there every frame shows the whole of its zone: the order of acceptance decides nothing
  pub owns_zone : (p : Page) (x y i : ℕ) → i < length (standing l) → reaches l.config p x y (standing_at l i) ≡ true → Owns l p x y i
  owns_zone p x y i h e = only-first (reaches l.config p x y) blank_record (standing l) i h e (λ j g ne. go j g ne (reaches l.config p x y (standing_at l j)) refl)
    where
      page-is : (j : ℕ) → reaches l.config p x y (standing_at l j) ≡ true → (standing_at l j).page.0 ≡ p.0
      page-is j q = eqb-true _ _ (reached_on l.config p x y (standing_at l j) q)

      go : (j : ℕ) → j < length (standing l) → (j ≡ i → ⊥) → (b : Bool) → reaches l.config p x y (standing_at l j) ≡ b → b ≡ false
      go j g ne true q =
          absurd (zones_apart j i g h ne (page-is j q ∙ sym (page-is i e)) x y (reached_in l.config p x y _ q) (reached_in l.config p x y _ e))
      go j g ne false q = refl

-- ## "With outlines on, a zone pixel whose x equals the frame's left or right column, or y its top or bottom row, is (255,0,0,255), also
-- outside the frame."

pub outlined : (c : Config) (s : Stores) (r : Record) (x y : ℕ) → c.outlines ≡ true → on_outline r.frame x y ≡ true
    → frame_pixel c s r x y ≡ record { r = 255; g = 0; b = 0; a = 255 }
unfolding red
outlined c s r x y o e = frame_outlined c s r x y (on_outline r.frame x y) refl (both o e)

-- ## "Otherwise: local x, y are the distances from the frame corner, not below 0, capped to the frame. Upright reads the trim box at (x, y);
-- turned reads it at (y, box height-x-1)."

-- the frame's own pixels
module _ (c : Config) (s : Stores) (r : Record) (plain : c.outlines ≡ false) (i j : ℕ) (column : i < r.frame.w) (row : j < r.frame.h) where
  pub own_upright : r.turn ≡ Upright → frame_pixel c s r (r.frame.x + i) (r.frame.y + j) ≡ pixel_in s (image_of r) (r.source.x + i) (r.source.y + j)
  own_upright = upright_own c s r plain i j column row

  -- a turned frame is as wide as its box is high
  pub own_turned : r.turn ≡ Turned
      → frame_pixel c s r (r.frame.x + i) (r.frame.y + j) ≡ pixel_in s (image_of r) (r.source.x + j) (r.source.y + (r.frame.w - i - 1))
  own_turned = turned_own c s r plain i j column row

-- before the frame its first column or row, past it its last
pub before_frame : (x corner side : ℕ) → x ≤ corner → local x corner side ≡ 0
before_frame = local-before

pub past_frame : (x corner side : ℕ) → 1 ≤ side → corner + side ≤ x + 1 → local x corner side ≡ side - 1
past_frame = local-after

-- ## "The row of an image is handed back as a part of the store it lies in, 4 x width bytes, the whole row untrimmed. A refused row is an
-- empty part of the symbol store"

-- a reference to a part reads that part's bytes
pub row-bytes : (stores : LentStores) (k : Part) (r : Bor (List ℕ)) → IsPart stores k r → r.now ≡ part_bytes (lent stores) k
row-bytes = part_reads

module _ (l : Layout) (s : Stores) (k : Key) (y : ℕ) where
  pub row-handed : read_refusal l s k y ≡ none → part_read l s k y ≡ row_part (record_named l k) y
  unfolding part_read
  row-handed e = ap (part_answer (row_part (record_named l k) y)) e

  pub row-width : read_refusal l s k y ≡ none → length (part_bytes s (part_read l s k y)) ≡ 4 * (record_named l k).source.w
  row-width e =
      let h = readable l s k y e in
      ap (λ (q : Part). length (part_bytes s q)) (row-handed e) ∙ row-long s (record_named l k) y h.below h.inside

  -- its pixel x is that of the image in column x and that row
  pub row-pixels : read_refusal l s k y ≡ none → (x : ℕ) → x < (record_named l k).source.w
      → pixel_from (part_bytes s (part_read l s k y)) (4 * x) ≡ pixel_in s (image_of (record_named l k)) x y
  row-pixels e x h = ap (λ (q : Part). pixel_from (part_bytes s q) (4 * x)) (row-handed e) ∙ row-pixel s (record_named l k) y x h

  pub row-refused : (r : Refusal) → read_refusal l s k y ≡ some r → (part_read l s k y ≡ empty_part) × (part_bytes s (part_read l s k y) ≡ [])
  unfolding part_read
  row-refused r e = let p = ap (part_answer (row_part (record_named l k) y)) e in (p, ap (part_bytes s) p ∙ empty-bytes s)

-- ## "a definition gives this paper's number and values for each of its cases"

pub looked_one : (a b : Result (Maybe Pixel) Refusal) → looked_numbers a ≡ looked_numbers b → a ≡ b
looked_one = looked_tells

pub read_one : (a b : Result ⊤ Refusal) → read_numbers a ≡ read_numbers b → a ≡ b
read_one = read_tells

-- ## "any two results allowed for one input are shown equal"

pub one_pixel : (l : Layout) (s : Stores) (p : Page) (x y : ℕ) {r q : Result (Maybe Pixel) Refusal} → r ≡ looked l s p x y → q ≡ looked l s p x y → r ≡ q
one_pixel l s p x y = one (looked l s p x y)

pub one_refusal : (l : Layout) (s : Stores) (k : Key) (y : ℕ) {r q : Result ⊤ Refusal} → r ≡ read l s k y → q ≡ read l s k y → r ≡ q
one_refusal l s k y = one (read l s k y)

-- a reference is where it points and what it reads
pub one_row : (stores : LentStores) (k : Part) {r q : Bor (List ℕ)} → IsPart stores k r → IsPart stores k q
    → (r.ref_ptr.0 ≡ q.ref_ptr.0) × (r.ref_ptr.1 ≡ q.ref_ptr.1) × (r.now ≡ q.now)
one_row stores k p w = (p.block ∙ sym w.block, p.place ∙ sym w.place, p.bytes ∙ sym w.bytes)
