-- What document 01 says of layouts, of keys and of pages, each theorem under the sentence that it carries. Assumes nothing.
use Prim.Native.Nat.{ℕ, ◌+◌, ◌≤◌, ◌<◌}
use native.Mathlib.Omega.{arith}
use mathlib.Core.Path.{◌≡◌, refl, sym, ap, ◌∙◌}
use mathlib.Core.Bool.{Bool, true, false}
use mathlib.Core.List.{List, [], ◌∷◌, Memᴰ}
use mathlib.Core.Option.{none, some}
use lib.ListN.{get_or}
use lib.Dec.{leb}
use borrow.Author.Tests.{leb-true, leb-false}
use Rattle.geometry.specs.Words.{any, greatest}
use Rattle.geometry.specs.Rects.{right_of, bottom_of}
use Rattle.geometry.specs.declared.rect.Size.{Size}
use Rattle.geometry.proofs.Members.{greatest-le}
use Rattle.records.specs.Settings.{blank_record}
use Rattle.records.specs.Records.{is_blank, record_well_formed}
use Rattle.records.specs.Layouts.{standing, unused, well_formed, has_key, record_of, key_place, on_page, page_count, ends_of, size_of_page}
use Rattle.records.specs.declared.frame.Key.{Key}
use Rattle.records.specs.declared.frame.Page.{Page}
use Rattle.records.specs.declared.frame.Record.{Record}
use Rattle.records.specs.declared.layout.Layout.{Layout}
use Rattle.records.proofs.Rows.{in_all}
use Rattle.records.proofs.Checks.{Bounded, bounds_hold, Good, good-holds, is_blank_lem, forms}
use Rattle.records.proofs.Keys.{named, nowhere, stands-below}
use Rattle.records.proofs.Pages.{side_ends}

-- ## "Well-formed: configuration in bounds; image count within its limit; unused places blank; in each record .."

-- these make a layout well-formed; `formed` of Checks gives them back
pub formed_when : (l : Layout) → Bounded l.config → l.count ≤ l.config.images → ((r : Record) → Memᴰ r (unused l) → r ≡ blank_record)
    → ((r : Record) → Memᴰ r (standing l) → Good l.config r) → well_formed l ≡ true
formed_when l b n u s =
    forms l (bounds_hold l.config b) n (in_all is_blank (unused l) (λ r m. ap is_blank (u r m) ∙ is_blank_lem))
    (in_all (record_well_formed l.config) (standing l) (λ r m. good-holds l.config r (s r m)))

-- ## "A key names the earliest record that has it."

module _ (l : Layout) (k : Key) where
  pub key_names : any (has_key k) (standing l) ≡ true → record_of l k ≡ some (get_or (standing l) (key_place k (standing l)) blank_record)
  unfolding record_of
  key_names e = (named k (standing l) (stands-below k (standing l) e)).is

  pub key-nowhere : any (has_key k) (standing l) ≡ false → record_of l k ≡ none
  unfolding record_of
  key-nowhere e = (nowhere k (standing l) e).is

-- ## "The page count is one more than the greatest page number, or 0."

-- a greatest number that is not 0 is some member's
reached : {A : Type 0} (f : A → ℕ) (l : List A) → 0 < greatest f l → (x : A) × Memᴰ x l × (f x ≡ greatest f l)
unfolding greatest
reached f [] h = absurd (omega arith)
reached {A} f (y ∷ ys) h = go (leb (greatest f ys) (f y)) refl (λ g. reached f ys g)
  where
    Found : Type 0
    Found = (x : A) × Memᴰ x (y ∷ ys) × (f x ≡ greatest f (y ∷ ys))

    go : (b : Bool) → leb (greatest f ys) (f y) ≡ b → (0 < greatest f ys → (x : A) × Memᴰ x ys × (f x ≡ greatest f ys)) → Found
    go true e rec = (y, Memᴰ.head refl, omega (arith, leb-true (greatest f ys) (f y) e))
    go false e rec =
        let lt = leb-false (greatest f ys) (f y) e in
        let r = rec (omega arith) in
        (r.0, Memᴰ.tail r.1, omega (arith, r.2))

pub count-reached : (rs : List Record) → 0 < page_count rs → (r : Record) × Memᴰ r rs × (r.page.0 + 1 ≡ page_count rs)
unfolding page_count
count-reached rs h = reached (λ (r : Record). r.page.0 + 1) rs h

-- ## "Page size: the maxima if forced; else greatest frame right (or bottom) +1+b; 0 without frames."

-- forced: `side_forced` of Pages

module _ (l : Layout) (p : Page) (free : l.config.forced ≡ false) where
  side_is : size_of_page l p ≡ ends_of l.config.border (on_page p.0 (standing l))
  side_is = side_ends l p free

  width_is : (size_of_page l p).w ≡ greatest (λ (r : Record). right_of r.frame + 1 + l.config.border) (on_page p.0 (standing l))
  unfolding ends_of
  width_is = ap (λ (s : Size). s.w) side_is

  height-is : (size_of_page l p).h ≡ greatest (λ (r : Record). bottom_of r.frame + 1 + l.config.border) (on_page p.0 (standing l))
  unfolding ends_of
  height-is = ap (λ (s : Size). s.h) side_is

  -- every frame of the page ends within it
  pub width-holds : (r : Record) → Memᴰ r (on_page p.0 (standing l)) → right_of r.frame + 1 + l.config.border ≤ (size_of_page l p).w
  width-holds r m =
      omega (arith, width_is, greatest-le (λ (q : Record). right_of q.frame + 1 + l.config.border) (on_page p.0 (standing l)) m)

  pub height-holds : (r : Record) → Memᴰ r (on_page p.0 (standing l)) → bottom_of r.frame + 1 + l.config.border ≤ (size_of_page l p).h
  height-holds r m =
      omega (arith, height-is, greatest-le (λ (q : Record). bottom_of q.frame + 1 + l.config.border) (on_page p.0 (standing l)) m)

  -- and one of them ends there
  pub width-reached : 0 < (size_of_page l p).w
      → (r : Record) × Memᴰ r (on_page p.0 (standing l)) × (right_of r.frame + 1 + l.config.border ≡ (size_of_page l p).w)
  width-reached h =
      let r = reached (λ (q : Record). right_of q.frame + 1 + l.config.border) (on_page p.0 (standing l)) (omega (arith, width_is)) in
      (r.0, r.1, r.2 ∙ sym width_is)

  pub height-reached : 0 < (size_of_page l p).h
      → (r : Record) × Memᴰ r (on_page p.0 (standing l)) × (bottom_of r.frame + 1 + l.config.border ≡ (size_of_page l p).h)
  height-reached h =
      let r = reached (λ (q : Record). bottom_of q.frame + 1 + l.config.border) (on_page p.0 (standing l)) (omega (arith, height-is)) in
      (r.0, r.1, r.2 ∙ sym height-is)

  pub empty-size : on_page p.0 (standing l) ≡ [] → size_of_page l p ≡ record { w = 0; h = 0 }
  unfolding ends_of greatest
  empty-size e = side_is ∙ ap (ends_of l.config.border) e
