-- The page count, and where the frames of a page end. Assumes nothing.
use Prim.Native.Nat.{ℕ, ◌+◌, ◌≤◌, ◌<◌, max}
use native.Mathlib.Omega.{arith}
use mathlib.Core.Path.{◌≡◌, refl, sym, ap, ◌∙◌}
use mathlib.Core.Bool.{Bool, true, false, cond}
use mathlib.Core.List.{List, [], ◌∷◌, ◌++◌, Memᴰ}
use lib.Dec.{eqb}
use Rattle.geometry.specs.Words.{only, greatest}
use Rattle.geometry.specs.Rects.{right_of, bottom_of}
use Rattle.geometry.proofs.Words.{only_append, greatest_append}
use Rattle.geometry.proofs.Members.{only_mem, greatest-le, greatest_least}
use Rattle.records.specs.Layouts.{standing, well_formed, on_page, page_count, ends_of, size_of_page}
use Rattle.records.specs.Ends.{end_at, grows}
use Rattle.records.specs.declared.frame.Page.{Page}
use Rattle.records.specs.declared.frame.Record.{Record}
use Rattle.records.specs.declared.layout.Layout.{Layout}
use Rattle.records.proofs.Checks.{Good, framed, Formed, formed}

-- ## the page count

pub count_none : page_count [] ≡ 0
unfolding page_count greatest
count_none = refl

pub count_snoc : (rs : List Record) (r : Record) → page_count (rs ++ r ∷ []) ≡ max (page_count rs) (r.page.0 + 1)
unfolding page_count greatest
count_snoc rs r = let e = greatest_append (λ (s : Record). s.page.0 + 1) rs (r ∷ []) in omega arith

-- the code's step
pub count_more : {n next : ℕ} (rs more : List Record) (r : Record) → more ≡ rs ++ r ∷ [] → n ≡ page_count rs → next ≡ max n (r.page.0 + 1) → next ≡ page_count more
count_more rs more r m e q = q ∙ ap (λ (k : ℕ). max k (r.page.0 + 1)) e ∙ sym (ap page_count m ∙ count_snoc rs r)

pub page-below : (rs : List Record) {r : Record} → Memᴰ r rs → r.page.0 < page_count rs
unfolding page_count
page-below rs {r} m = omega (arith, greatest-le (λ (s : Record). s.page.0 + 1) rs m)

pub count_least : (rs : List Record) (n : ℕ) → ((r : Record) → Memᴰ r rs → r.page.0 < n) → page_count rs ≤ n
unfolding page_count
count_least rs n h = greatest_least (λ (s : Record). s.page.0 + 1) rs n (λ r m. omega (arith, h r m))

pub count-few : (l : Layout) → well_formed l ≡ true → page_count (standing l) ≤ 8
count-few l e =
    let f = formed l e in
    omega (arith, f.config.pages_few, count_least (standing l) l.config.pages (λ r m. (f.each r m).page))

-- ## where frames end

module _ (f : Record → ℕ) (p : ℕ) where
  greatest_snoc : (rs : List Record) (r : Record) → greatest f (on_page p (rs ++ r ∷ [])) ≡ grows (eqb r.page.0 p) (f r) (greatest f (on_page p rs))
  unfolding on_page only greatest
  greatest_snoc rs r =
      ap (greatest f) (only_append (λ (s : Record). eqb s.page.0 p) rs (r ∷ []))
      ∙ greatest_append f (on_page p rs) (on_page p (r ∷ []))
      ∙ last (eqb r.page.0 p)
    where
      last : (b : Bool) → max (greatest f (on_page p rs)) (greatest f (cond b (r ∷ []) [])) ≡ grows b (f r) (greatest f (on_page p rs))
      last true = omega arith
      last false = omega arith

module _ (b p : ℕ) where
  pub ends-none_w : (ends_of b (on_page p [])).w ≡ 0
  unfolding ends_of on_page only greatest
  ends-none_w = refl

  pub ends-none_h : (ends_of b (on_page p [])).h ≡ 0
  unfolding ends_of on_page only greatest
  ends-none_h = refl

  ends_snoc_w : (rs : List Record) (r : Record)
      → (ends_of b (on_page p (rs ++ r ∷ []))).w ≡ grows (eqb r.page.0 p) (end_at r.frame.x r.frame.w b) (ends_of b (on_page p rs)).w
  unfolding ends_of
  ends_snoc_w rs r = greatest_snoc (λ (s : Record). right_of s.frame + 1 + b) p rs r

  ends_snoc_h : (rs : List Record) (r : Record)
      → (ends_of b (on_page p (rs ++ r ∷ []))).h ≡ grows (eqb r.page.0 p) (end_at r.frame.y r.frame.h b) (ends_of b (on_page p rs)).h
  unfolding ends_of
  ends_snoc_h rs r = greatest_snoc (λ (s : Record). bottom_of s.frame + 1 + b) p rs r

  -- the code's step, on either axis
  pub ends_more_w : {w next : ℕ} (rs more : List Record) (r : Record) → more ≡ rs ++ r ∷ [] → w ≡ (ends_of b (on_page p rs)).w
      → next ≡ grows (eqb r.page.0 p) (end_at r.frame.x r.frame.w b) w → next ≡ (ends_of b (on_page p more)).w
  ends_more_w rs more r m e n =
      n
      ∙ ap (grows (eqb r.page.0 p) (end_at r.frame.x r.frame.w b)) e
      ∙ sym (ap (λ (qs : List Record). (ends_of b (on_page p qs)).w) m ∙ ends_snoc_w rs r)

  pub ends_more_h : {h next : ℕ} (rs more : List Record) (r : Record) → more ≡ rs ++ r ∷ [] → h ≡ (ends_of b (on_page p rs)).h
      → next ≡ grows (eqb r.page.0 p) (end_at r.frame.y r.frame.h b) h → next ≡ (ends_of b (on_page p more)).h
  ends_more_h rs more r m e n =
      n
      ∙ ap (grows (eqb r.page.0 p) (end_at r.frame.y r.frame.h b)) e
      ∙ sym (ap (λ (qs : List Record). (ends_of b (on_page p qs)).h) m ∙ ends_snoc_h rs r)

-- one more end, as the code counts it
pub grows-not : (on : Bool) (end most : ℕ) → on ≡ false → most ≡ grows on end most
grows-not on end most e = rw e

pub grows_by : (on : Bool) (a n b most next : ℕ) → on ≡ true → 1 ≤ n → next ≡ max most (a + n + b) → next ≡ grows on (end_at a n b) most
grows_by on a n b most next e h q = rw e (omega arith)

-- ## the sides of a page

module _ (l : Layout) (p : Page) where
  pub side_forced : l.config.forced ≡ true → size_of_page l p ≡ record { w = l.config.maxw; h = l.config.maxh }
  unfolding size_of_page
  side_forced e =
      ap (λ (b : Bool). cond b (record { w = l.config.maxw; h = l.config.maxh }) (ends_of l.config.border (on_page p.0 (standing l)))) e

  pub side_ends : l.config.forced ≡ false → size_of_page l p ≡ ends_of l.config.border (on_page p.0 (standing l))
  unfolding size_of_page
  side_ends e =
      ap (λ (b : Bool). cond b (record { w = l.config.maxw; h = l.config.maxh }) (ends_of l.config.border (on_page p.0 (standing l)))) e

-- with the border after it, a frame ends within 6271 columns and 6271 rows
pub record Ends (b : ℕ) (r : Record) : Type 0 where
  pub w : r.frame.x + r.frame.w + b ≤ 6271
  pub h : r.frame.y + r.frame.h + b ≤ 6271

pub ends-few : (l : Layout) → Formed l → {r : Record} → Good l.config r → Ends l.config.border r
ends-few l f {r} g =
    let s = framed l.config r g in
    record {
      w = omega (arith, g.left-few, s.w_few, f.config.border);
      h = omega (arith, g.top-few, s.h_few, f.config.border);
    }

module _ (l : Layout) (e : well_formed l ≡ true) (p : Page) where
  on_page-good : {r : Record} → Memᴰ r (on_page p.0 (standing l)) → Good l.config r
  unfolding on_page
  on_page-good m = (formed l e).each _ (only_mem (λ (s : Record). eqb s.page.0 p.0) (standing l) m).0

  pub side_w : (size_of_page l p).w ≤ 6271
  unfolding size_of_page ends_of
  side_w = go l.config.forced
    where
      f : Formed l
      f = formed l e

      go : (b : Bool) → (cond b (record { w = l.config.maxw; h = l.config.maxh }) (ends_of l.config.border (on_page p.0 (standing l)))).w ≤ 6271
      go true = omega (arith, f.config.wide-few)
      go false =
          greatest_least (λ (s : Record). right_of s.frame + 1 + l.config.border) (on_page p.0 (standing l)) 6271
          (λ r m. omega (arith, (ends-few l f (on_page-good m)).w, (framed l.config r (on_page-good m)).some_w))

  pub side_h : (size_of_page l p).h ≤ 6271
  unfolding size_of_page ends_of
  side_h = go l.config.forced
    where
      f : Formed l
      f = formed l e

      go : (b : Bool) → (cond b (record { w = l.config.maxw; h = l.config.maxh }) (ends_of l.config.border (on_page p.0 (standing l)))).h ≤ 6271
      go true = omega (arith, f.config.tall-few)
      go false =
          greatest_least (λ (s : Record). bottom_of s.frame + 1 + l.config.border) (on_page p.0 (standing l)) 6271
          (λ r m. omega (arith, (ends-few l f (on_page-good m)).h, (framed l.config r (on_page-good m)).some_h))
