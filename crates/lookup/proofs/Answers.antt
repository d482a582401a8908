-- What pixel and the sister of row of an image answer, from their tests and from the pixel found. Assumes nothing.
use Prim.Native.Nat.{ℕ, ◌≤◌, ◌<◌}
use mathlib.Core.Path.{◌≡◌, refl, sym, ap, ◌∙◌}
use mathlib.Core.Bool.{Bool, true, false, not}
use mathlib.Core.List.{[], ◌∷◌}
use mathlib.Core.Logic.{◌↔◌}
use mathlib.Core.Option.{Option, none, some}
use lib.Dec.{leb}
use Rattle.std.specs.Prelude.{⊤, Option as Maybe, Some, None, Result, Ok, Err}
use borrow.Author.Tests.{le-leb, lt-leb, leb-false, not-false}
use Rattle.geometry.specs.Words.{any}
use Rattle.art.specs.Stores.{Stores, runs_past}
use Rattle.art.specs.declared.memory_rgba8_texture.Pixel.{Pixel}
use Rattle.records.specs.Records.{image_of}
use Rattle.records.specs.Layouts.{standing, well_formed, page_count, has_key, record_named}
use Rattle.records.specs.Operations.{no_such_page}
use Rattle.records.specs.Refusals.{number_of, first_refusal}
use Rattle.records.specs.declared.frame.Key.{Key}
use Rattle.records.specs.declared.frame.Page.{Page}
use Rattle.records.specs.declared.frame.Record.{Record}
use Rattle.records.specs.declared.layout.Layout.{Layout}
use Rattle.records.specs.declared.refusal.Refusal.{Refusal}
use Rattle.records.specs.declared.refusal.Refusal.TheVariants.{NotWellFormed, NoSuchPage, NoSuchKey, BadRows, PastStore}
use Rattle.records.proofs.Rows.{hit, skipped, none_left}
use Rattle.records.proofs.Theorems.{number_tells, number-some}
use Rattle.rules.proofs.Rows.{test_at, refusal_at, Passed, Once, exactly_at, none-holds}
use Rattle.lookup.specs.Zones.{pixel_at}
use Rattle.lookup.specs.Looking.{page_past, look_row, look_refusal, look_answer, looked, looked_numbers}
use Rattle.lookup.specs.Reading.{read_row, read_refusal, read_answer, read, read_numbers}

-- ## pixel

module _ (l : Layout) (s : Stores) (p : Page) where
  pub look_unformed : well_formed l ≡ false → look_refusal l s p ≡ some NotWellFormed
  unfolding look_refusal
  look_unformed e = hit (not (well_formed l)) NotWellFormed _ (ap not e)

  pub look_no_page : well_formed l ≡ true → page_count (standing l) ≤ p.0 → look_refusal l s p ≡ some NoSuchPage
  unfolding look_refusal no_such_page
  look_no_page e h = skipped (not (well_formed l)) NotWellFormed _ (ap not e) ∙ hit _ NoSuchPage _ (le-leb (page_count (standing l)) p.0 h)

  asked_two : well_formed l ≡ true → p.0 < page_count (standing l) → (b : Bool) → b ≡ page_past s p (standing l)
      → look_refusal l s p ≡ first_refusal ((b, PastStore) ∷ [])
  unfolding look_refusal no_such_page
  asked_two e h b q =
      skipped (not (well_formed l)) NotWellFormed _ (ap not e)
      ∙ skipped _ NoSuchPage _ (lt-leb (page_count (standing l)) p.0 h)
      ∙ ap (λ (z : Bool). first_refusal ((z, PastStore) ∷ [])) (sym q)

  pub look_past : well_formed l ≡ true → p.0 < page_count (standing l) → page_past s p (standing l) ≡ true → look_refusal l s p ≡ some PastStore
  look_past e h q = asked_two e h true (sym q) ∙ hit true PastStore [] refl

  pub look_passes : well_formed l ≡ true → p.0 < page_count (standing l) → page_past s p (standing l) ≡ false → look_refusal l s p ≡ none
  look_passes e h q = asked_two e h false (sym q) ∙ skipped false PastStore [] refl ∙ none_left

  pub look_row_lem : look_refusal l s p ≡ first_refusal (look_row l s p)
  unfolding look_refusal
  look_row_lem = refl

  module _ (x y : ℕ) where
    pub looked-refused : {r : Refusal} → look_refusal l s p ≡ some r → Err r ≡ looked l s p x y
    unfolding looked
    looked-refused {r} e = refuses (pixel_at l s p x y) ∙ sym (ap (look_answer (pixel_at l s p x y)) e)
      where
        refuses : (o : Option Pixel) → Err r ≡ look_answer o (some r)
        refuses none = refl
        refuses (some k) = refl

    pub looked-found : look_refusal l s p ≡ none → look_answer (pixel_at l s p x y) none ≡ looked l s p x y
    unfolding looked
    looked-found e = sym (ap (look_answer (pixel_at l s p x y)) e)

    pub refused-looked : (r : Refusal) → looked l s p x y ≡ Err r → look_refusal l s p ≡ some r
    unfolding looked
    refused-looked r e = go (pixel_at l s p x y) (look_refusal l s p) e
      where
        go : (k : Option Pixel) (o : Option Refusal) → look_answer k o ≡ Err r → o ≡ some r
        go none none q = absurd cc
        go (some k) none q = absurd cc
        go none (some n) q = let z : n ≡ r = cc in ap some z
        go (some k) (some n) q = let z : n ≡ r = cc in ap some z

    -- place n of the row
    pub look_at : (n : ℕ) → n < 3 → Once n (look_row l s p)
        → looked l s p x y ≡ Err (refusal_at n (look_row l s p)) ↔ (Passed n (look_row l s p) × (test_at n (look_row l s p) ≡ true))
    look_at n h o =
        let e = exactly_at (look_row l s p) n h o in
        let r = refusal_at n (look_row l s p) in
        (λ q. e.0 (sym look_row_lem ∙ refused-looked r q), λ t. sym (looked-refused (look_row_lem ∙ e.1 t)))

    -- what is shown where no check holds
    pub found-looked : (k : Pixel) → looked l s p x y ≡ Ok (Some k) → (look_refusal l s p ≡ none) × (pixel_at l s p x y ≡ some k)
    unfolding looked
    found-looked k e = go (pixel_at l s p x y) (look_refusal l s p) e
      where
        go : (q : Option Pixel) (o : Option Refusal) → look_answer q o ≡ Ok (Some k) → (o ≡ none) × (q ≡ some k)
        go none none f = absurd cc
        go (some q) none f = let z : q ≡ k = cc in (refl, ap some z)
        go none (some n) f = absurd cc
        go (some q) (some n) f = absurd cc

    pub none-looked : looked l s p x y ≡ Ok None → (look_refusal l s p ≡ none) × (pixel_at l s p x y ≡ none)
    unfolding looked
    none-looked e = go (pixel_at l s p x y) (look_refusal l s p) e
      where
        go : (q : Option Pixel) (o : Option Refusal) → look_answer q o ≡ Ok None → (o ≡ none) × (q ≡ none)
        go none none f = (refl, refl)
        go (some q) none f = absurd cc
        go none (some n) f = absurd cc
        go (some q) (some n) f = absurd cc

-- ## row of an image

module _ (l : Layout) (s : Stores) (k : Key) (y : ℕ) where
  pub read-unformed : well_formed l ≡ false → read_refusal l s k y ≡ some NotWellFormed
  unfolding read_refusal
  read-unformed e = hit (not (well_formed l)) NotWellFormed _ (ap not e)

  pub read_no_key : well_formed l ≡ true → any (has_key k) (standing l) ≡ false → read_refusal l s k y ≡ some NoSuchKey
  unfolding read_refusal
  read_no_key e n = skipped (not (well_formed l)) NotWellFormed _ (ap not e) ∙ hit _ NoSuchKey _ (ap not n)

  -- 2 and 15 are passed, and r is the record named: 13 and 5 are asked of it
  module _ (formed : well_formed l ≡ true) (stands : any (has_key k) (standing l) ≡ true) (r : Record) (is : record_named l k ≡ r) where
    passed_two : read_refusal l s k y ≡ first_refusal ((leb r.source.h y, BadRows) ∷ (runs_past s (image_of r), PastStore) ∷ [])
    unfolding read_refusal
    passed_two =
        skipped (not (well_formed l)) NotWellFormed _ (ap not formed)
        ∙ skipped _ NoSuchKey _ (ap not stands)
        ∙ ap (λ (q : Record). first_refusal ((leb q.source.h y, BadRows) ∷ (runs_past s (image_of q), PastStore) ∷ [])) is

    pub read_no_row : r.source.h ≤ y → read_refusal l s k y ≡ some BadRows
    read_no_row h = passed_two ∙ hit _ BadRows _ (le-leb r.source.h y h)

    pub read_past : y < r.source.h → runs_past s (image_of r) ≡ true → read_refusal l s k y ≡ some PastStore
    read_past h e = passed_two ∙ skipped _ BadRows _ (lt-leb r.source.h y h) ∙ hit _ PastStore [] e

    pub read-passes : y < r.source.h → runs_past s (image_of r) ≡ false → read_refusal l s k y ≡ none
    read-passes h e = passed_two ∙ skipped _ BadRows _ (lt-leb r.source.h y h) ∙ skipped _ PastStore [] e ∙ none_left

  pub read-refused : {r : Refusal} → read_refusal l s k y ≡ some r → Err r ≡ read l s k y
  unfolding read
  read-refused e = sym (ap read_answer e)

  pub read_done : read_refusal l s k y ≡ none → Ok tt ≡ read l s k y
  unfolding read
  read_done e = sym (ap read_answer e)

  -- and back: what the answer says of the row
  pub done-read : read l s k y ≡ Ok tt → read_refusal l s k y ≡ none
  unfolding read
  done-read e = go (read_refusal l s k y) e
    where
      go : (o : Option Refusal) → read_answer o ≡ Ok tt → o ≡ none
      go none q = refl
      go (some n) q = absurd cc

  pub refused-read : (r : Refusal) → read l s k y ≡ Err r → read_refusal l s k y ≡ some r
  unfolding read
  refused-read r e = go (read_refusal l s k y) e
    where
      go : (o : Option Refusal) → read_answer o ≡ Err r → o ≡ some r
      go none q = absurd cc
      go (some n) q = let z : n ≡ r = cc in ap some z

  pub read-row : read_refusal l s k y ≡ first_refusal (read_row l s k y)
  unfolding read_refusal
  read-row = refl

  pub read_at : (n : ℕ) → n < 4 → Once n (read_row l s k y)
      → read l s k y ≡ Err (refusal_at n (read_row l s k y)) ↔ (Passed n (read_row l s k y) × (test_at n (read_row l s k y) ≡ true))
  read_at n h o =
      let e = exactly_at (read_row l s k y) n h o in
      let r = refusal_at n (read_row l s k y) in
      (λ q. e.0 (sym read-row ∙ refused-read r q), λ t. sym (read-refused (read-row ∙ e.1 t)))

  -- no check holds
  pub record Readable : Type 0 where
    pub formed : well_formed l ≡ true
    pub stands : any (has_key k) (standing l) ≡ true
    pub below : y < (record_named l k).source.h
    pub inside : runs_past s (image_of (record_named l k)) ≡ false

  pub readable : read_refusal l s k y ≡ none → Readable
  unfolding read_refusal
  readable e =
      let h = none-holds (read_row l s k y) e in
      record { formed = not-false _ h.0; stands = not-false _ h.1.0; below = leb-false _ _ h.1.1.0; inside = h.1.1.1.0 }

-- ## the numbers and values of an answer tell it

pub looked_tells : (a b : Result (Maybe Pixel) Refusal) → looked_numbers a ≡ looked_numbers b → a ≡ b
looked_tells (Ok None) (Ok None) e = refl
looked_tells (Ok None) (Ok (Some k)) e = absurd cc
looked_tells (Ok None) (Err r) e = let z : 0 ≡ number_of r = cc in absurd (number-some r (sym z))
looked_tells (Ok (Some k)) (Ok None) e = absurd cc
looked_tells (Ok (Some k)) (Ok (Some j)) e =
    let r : k.r ≡ j.r = cc in
    let g : k.g ≡ j.g = cc in
    let b : k.b ≡ j.b = cc in
    let a : k.a ≡ j.a = cc in
    λ i. Ok (Some (record { r = r i; g = g i; b = b i; a = a i }))
looked_tells (Ok (Some k)) (Err r) e = let z : 0 ≡ number_of r = cc in absurd (number-some r (sym z))
looked_tells (Err r) (Ok None) e = let z : number_of r ≡ 0 = cc in absurd (number-some r z)
looked_tells (Err r) (Ok (Some k)) e = let z : number_of r ≡ 0 = cc in absurd (number-some r z)
looked_tells (Err r) (Err q) e = let z : number_of r ≡ number_of q = cc in ap Err (number_tells r q z)

pub read_tells : (a b : Result ⊤ Refusal) → read_numbers a ≡ read_numbers b → a ≡ b
read_tells (Ok a) (Ok b) e = refl
read_tells (Ok done) (Err r) e = let z : 0 ≡ number_of r = cc in absurd (number-some r (sym z))
read_tells (Err r) (Ok done) e = let z : number_of r ≡ 0 = cc in absurd (number-some r z)
read_tells (Err r) (Err q) e = let z : number_of r ≡ number_of q = cc in ap Err (number_tells r q z)
