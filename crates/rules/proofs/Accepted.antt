-- Too large: an empty page has no spot. A page that fits the whole size fits the trimmed cell. What no check refuses is placed.
-- Assumes nothing.
use Rattle.std.specs.Prelude.{Option, Some, None}
use Prim.Native.Nat.{ℕ, ◌≤◌, ◌<◌}
use native.Mathlib.Omega.{arith}
use mathlib.Core.Path.{◌≡◌, refl, sym, ◌∙◌, ap}
use mathlib.Core.Bool.{Bool, true, false, cond, not, ◌&&◌}
use mathlib.Core.List.{List, [], ◌∷◌, Memᴰ}
use mathlib.Core.Logic.{◌↔◌, ◌⊎◌, inl, inr}
use mathlib.Core.Option.{Option as Maybe, none, some}
use lib.Dec.{leb, eqb}
use borrow.Author.Tests.{leb-true, le-leb, eqb-true, eq-eqb, not-false}
use Rattle.geometry.specs.Words.{within, from, any, earliest, or_else}
use Rattle.geometry.specs.Placing.{height, lying, orientations, rank, best_of, spot_for, is_found}
use Rattle.geometry.specs.Fits.{HasPixels, SidesFit}
use Rattle.geometry.specs.declared.rect.Rect.{Rect}
use Rattle.geometry.specs.declared.rect.Size.{Size}
use Rattle.geometry.specs.declared.spot.Spot.{Spot}
use Rattle.geometry.specs.declared.spot.Turn.{Turn}
use Rattle.geometry.specs.declared.spot.Turn.TheVariants.{Upright, Turned}
use Rattle.art.specs.Stores.{Stores, runs_past, BoxIn}
use Rattle.art.specs.Trimming.{all_clear}
use Rattle.art.specs.declared.memory_rgba8_texture.Image.{Image}
use Rattle.records.specs.Records.{size_of}
use Rattle.records.specs.Layouts.{standing, has_key, well_formed, page_count}
use Rattle.records.specs.declared.texture_packer_config.Config.{Config}
use Rattle.records.specs.declared.frame.Key.{Key}
use Rattle.records.specs.declared.frame.Record.{Record}
use Rattle.records.specs.declared.layout.Layout.{Layout}
use Rattle.rules.specs.Placing.{canvas, cell_size, spot_on, cells_on, first_page, page_for, record_at, record_for, placed}
use Rattle.rules.specs.Faithful.{faithful}
use Rattle.rules.specs.Operations.{bad_size, art_for, fits_empty, too_large, pages_full, offer_refusal, offer_row}
use Rattle.rules.specs.declared.placing.Art.{Art}
use Rattle.geometry.proofs.Words.{not_both, and_left, and_right, both, earliest-none}
use Rattle.geometry.proofs.Members.{any_in, any-true, from_in, from_mem}
use Rattle.geometry.proofs.Fitting.{NoLarger, upright_allowed, allowed_turned}
use Rattle.geometry.proofs.Theorems.{rank_picks, smaller_picked, empty_takes, placed-sides}
use Rattle.art.proofs.Theorems.{box_in, box_w, box_h}
use Rattle.records.proofs.Rows.{Nones}
use Rattle.rules.proofs.Rows.{offer-row, none-holds}
use Rattle.rules.proofs.Pages.{past_empty, earliest-found, page-fits}

-- ## 8

turned_allowed : (rotation : Bool) → rotation ≡ true → Memᴰ Turned (orientations rotation)
unfolding orientations
turned_allowed true e = Memᴰ.tail (Memᴰ.head refl)
turned_allowed false e = absurd (not_both e refl)

fits-empty : (area s : Size) → fits_empty area s ≡ true → (s.w ≤ area.w) × (s.h ≤ area.h)
unfolding fits_empty
fits-empty area s e =
    (leb-true _ _ (and_left (leb s.w area.w) (leb s.h area.h) e), leb-true _ _ (and_right (leb s.w area.w) (leb s.h area.h) e))

empty-fits : (area s : Size) → s.w ≤ area.w → s.h ≤ area.h → fits_empty area s ≡ true
unfolding fits_empty
empty-fits area s w h = both (le-leb _ _ w) (le-leb _ _ h)

module _ (c : Config) (s : Size) where
  large_sides : too_large c s ≡ false → SidesFit (canvas c) c.rotation (cell_size c s)
  unfolding too_large lying
  large_sides e =
      let m = any-true (λ (t : Turn). fits_empty (canvas c) (lying t (cell_size c s))) (orientations c.rotation) (not-false _ e) in
      go m.0 m.1 (fits-empty (canvas c) (lying m.0 (cell_size c s)) m.2)
    where
      go : (t : Turn) → Memᴰ t (orientations c.rotation)
          → ((lying t (cell_size c s)).w ≤ (canvas c).w) × ((lying t (cell_size c s)).h ≤ (canvas c).h) → SidesFit (canvas c) c.rotation (cell_size c s)
      go Upright m f = inl f
      go Turned m f = inr (allowed_turned c.rotation m, f.0, f.1)

  sides_large : SidesFit (canvas c) c.rotation (cell_size c s) → too_large c s ≡ false
  unfolding too_large lying
  sides_large (inl f) =
      ap not
      (any_in (λ (t : Turn). fits_empty (canvas c) (lying t (cell_size c s))) (orientations c.rotation) (upright_allowed c.rotation)
      (empty-fits (canvas c) (cell_size c s) f.0 f.1))
  sides_large (inr f) =
      ap not
      (any_in (λ (t : Turn). fits_empty (canvas c) (lying t (cell_size c s))) (orientations c.rotation) (turned_allowed c.rotation f.0)
      (empty-fits (canvas c) (lying Turned (cell_size c s)) f.1 f.2))

  -- a cell is never smaller than its image
  pub cell_pixels : HasPixels s → HasPixels (cell_size c s)
  unfolding cell_size
  cell_pixels h = record { wide = let w = h.wide in omega arith; tall = let t = h.tall in omega arith }

  -- an empty page takes what is not too large
  pub empty_spot : HasPixels s → too_large c s ≡ false → (k : Spot) × (spot_on c [] s ≡ Some k)
  unfolding spot_on spot_for
  empty_spot h e = empty_takes (canvas c) c.rotation (cell_size c s) (cell_pixels h) (best_of rank None) rank_picks (large_sides e)

  -- and no page takes what is too large
  pub spot_not_large : (cells : List Rect) (k : Spot) → spot_on c cells s ≡ Some k → too_large c s ≡ false
  unfolding spot_on
  spot_not_large cells k e = sides_large (placed-sides (height cells) (canvas c) c.rotation (cell_size c s) k e)

  pub large_exactly : HasPixels s → too_large c s ≡ true ↔ spot_on c [] s ≡ None
  large_exactly h = (λ e. go (spot_on c [] s) refl e, λ e. back (too_large c s) refl e)
    where
      go : (o : Option Spot) → spot_on c [] s ≡ o → too_large c s ≡ true → o ≡ None
      go None q e = refl
      go (Some k) q e = absurd (not_both e (spot_not_large [] k q))

      back : (b : Bool) → too_large c s ≡ b → spot_on c [] s ≡ None → b ≡ true
      back true q e = refl
      back false q e = let t = empty_spot h q in let z : ◌≡◌ {A = ℕ} 0 1 = cc t.1 in absurd (omega arith)

-- ## "The first that fits takes the trimmed cell."

cell_smaller : (c : Config) (small big : Size) → NoLarger small big → NoLarger (cell_size c small) (cell_size c big)
unfolding cell_size
cell_smaller c small big le = record { w = let w = le.w in omega arith; h = let h = le.h in omega arith }

-- a page that fits a size fits a smaller one
pub smaller_fits : (c : Config) (cells : List Rect) (small big : Size) → NoLarger small big
    → (k : Spot) → spot_on c cells big ≡ Some k → (j : Spot) × (spot_on c cells small ≡ Some j)
unfolding spot_on spot_for
smaller_fits c cells small big le k e =
    smaller_picked (height cells) (canvas c) c.rotation (cell_size c big) (best_of rank None) rank_picks (cell_size c small)
    (cell_smaller c small big le) k e

found_spot : (f : Option Spot) → is_found f ≡ true → (k : Spot) × (f ≡ Some k)
found_spot None e = absurd (not_both e refl)
found_spot (Some k) e = (k, refl)

-- an image whose box is no larger than it and not too large is placed
pub rule_places : (c : Config) (rs : List Record) (a : Art) → NoLarger (size_of a.kept) a.whole → HasPixels (size_of a.kept)
    → too_large c (size_of a.kept) ≡ false → (r : Record) × (placed c rs a ≡ some r)
unfolding placed record_for
rule_places c rs a le h e = let t = go (page-fits c rs a.whole) in (record_at c a here t.0, ap (record_for c a here) t.1)
  where
    here : ℕ
    here = page_for c rs a.whole

    go : ((here < page_count rs) × (is_found (spot_on c (cells_on c rs here) a.whole) ≡ true)) ⊎ (here ≡ page_count rs)
        → (k : Spot) × (spot_on c (cells_on c rs here) (size_of a.kept) ≡ Some k)
    go (inl f) =
        let k = found_spot (spot_on c (cells_on c rs here) a.whole) f.1 in
        smaller_fits c (cells_on c rs here) (size_of a.kept) a.whole le k.0 k.1
    go (inr q) =
        let z = past_empty c rs here (omega arith) in
        let k = empty_spot c (size_of a.kept) h e in
        (k.0, ap (λ (cells : List Rect). spot_on c cells (size_of a.kept)) z ∙ k.1)

-- ## what the checks of an offer leave

pub record SizeIn (w h : ℕ) : Type 0 where
  pub wide : 1 ≤ w
  pub wide-few : w ≤ 2048
  pub tall : 1 ≤ h
  pub tall-few : h ≤ 2048

pub size_in : (w h : ℕ) → bad_size w h ≡ false → SizeIn w h
unfolding bad_size
size_in w h e =
    let q = not-false _ e in
    let a = and_left (within 1 2048 w) (within 1 2048 h) q in
    let b = and_right (within 1 2048 w) (within 1 2048 h) q in
    record {
      wide = leb-true _ _ (and_left (leb 1 w) (leb w 2048) a);
      wide-few = leb-true _ _ (and_right (leb 1 w) (leb w 2048) a);
      tall = leb-true _ _ (and_left (leb 1 h) (leb h 2048) b);
      tall-few = leb-true _ _ (and_right (leb 1 h) (leb h 2048) b);
    }

-- no check of an offer holds
pub record Accepted (l : Layout) (s : Stores) (k : Key) (i : Image) : Type 0 where
  pub well_formed : well_formed l ≡ true
  pub is-faithful : faithful l ≡ true
  pub size : bad_size i.w i.h ≡ false
  pub in_store : runs_past s i ≡ false
  pub key_new : any (has_key k) (standing l) ≡ false
  pub not-clear : (l.config.trim && all_clear s i) ≡ false
  pub not_large : too_large l.config (size_of (art_for l.config s k i).kept) ≡ false
  pub image-room : leb l.config.images l.count ≡ false
  pub page-room : pages_full l.config (standing l) (art_for l.config s k i).whole ≡ false

module _ (l : Layout) (s : Stores) (k : Key) (i : Image) where
  pub accepted : offer_refusal l s k i ≡ none → Accepted l s k i
  accepted e =
      let p : Nones (offer_row l s k i) = none-holds (offer_row l s k i) (sym (offer-row l s k i) ∙ e) in
      record {
        well_formed = not-false _ p.0;
        is-faithful = not-false _ p.1.0;
        size = p.1.1.0;
        in_store = p.1.1.1.0;
        key_new = p.1.1.1.1.0;
        not-clear = p.1.1.1.1.1.0;
        not_large = p.1.1.1.1.1.1.0;
        image-room = p.1.1.1.1.1.1.1.0;
        page-room = p.1.1.1.1.1.1.1.1.0;
      }

  -- the box of an image that passes 4 and 7 is not empty and lies in it
  pub art_box : bad_size i.w i.h ≡ false → (l.config.trim && all_clear s i) ≡ false → BoxIn (art_for l.config s k i).kept i.w i.h
  unfolding art_for
  art_box e f = let z = size_in i.w i.h e in box_in s i l.config.trim z.wide z.tall f

  pub art_pixels : bad_size i.w i.h ≡ false → (l.config.trim && all_clear s i) ≡ false → HasPixels (size_of (art_for l.config s k i).kept)
  unfolding size_of
  art_pixels e f = let b = art_box e f in record { wide = b.some_w; tall = b.some_h }

  pub art_smaller : NoLarger (size_of (art_for l.config s k i).kept) (art_for l.config s k i).whole
  unfolding art_for size_of
  art_smaller = record { w = box_w s i l.config.trim; h = box_h s i l.config.trim }

  pub accepted_placed : offer_refusal l s k i ≡ none → (r : Record) × (placed l.config (standing l) (art_for l.config s k i) ≡ some r)
  accepted_placed e =
      let a = accepted e in
      rule_places l.config (standing l) (art_for l.config s k i) art_smaller (art_pixels a.size a.not-clear) a.not_large

-- ## 10

earliest-all : {A : Type 0} (t : A → Bool) (l : List A) → earliest t l ≡ none → (x : A) → Memᴰ x l → t x ≡ false
unfolding earliest
earliest-all {A = A} t [] e x m = elim m [ ]
earliest-all {A} t (y ∷ ys) e x m = go (t y) refl e m (λ h n. earliest-all t ys h x n)
  where
    go : (b : Bool) → t y ≡ b → cond b (some y) (earliest t ys) ≡ none → Memᴰ x (y ∷ ys)
        → (earliest t ys ≡ none → Memᴰ x ys → t x ≡ false) → t x ≡ false
    go true q h n f = absurd cc
    go false q h (Memᴰ.head z) f = ap t z ∙ q
    go false q h (Memᴰ.tail n) f = f h n

not_found : (f : Option Spot) → is_found f ≡ false → f ≡ None
not_found None e = refl
not_found (Some k) e = absurd (not_both refl e)

-- no old page fits this size
abbrev pub NoPageFits : Config → List Record → Size → Type 0
NoPageFits c rs whole = (p : ℕ) → p < page_count rs → spot_on c (cells_on c rs p) whole ≡ None

pub full_exactly : (c : Config) (rs : List Record) (whole : Size) → pages_full c rs whole ≡ true ↔ (NoPageFits c rs whole × (c.pages ≤ page_count rs))
unfolding pages_full page_for first_page
full_exactly c rs whole = (to, back)
  where
    fits : ℕ → Bool
    fits p = is_found (spot_on c (cells_on c rs p) whole)

    n : ℕ
    n = page_count rs

    last : (o : Maybe ℕ) → earliest fits (from 0 n) ≡ o → or_else o n ≡ n → o ≡ none
    last none e q = refl
    last (some p) e q = let m = from_mem 0 n (earliest-found fits (from 0 n) e).0 in absurd (omega (arith, m.1))

    to : (eqb (or_else (earliest fits (from 0 n)) n) n && leb c.pages n) ≡ true → NoPageFits c rs whole × (c.pages ≤ n)
    to e =
        let q = eqb-true _ _ (and_left (eqb (or_else (earliest fits (from 0 n)) n) n) (leb c.pages n) e) in
        let nowhere = last (earliest fits (from 0 n)) refl q in (
          λ p h. not_found (spot_on c (cells_on c rs p) whole) (earliest-all fits (from 0 n) nowhere p (from_in 0 n p (omega arith) (omega arith))),
          leb-true _ _ (and_right (eqb (or_else (earliest fits (from 0 n)) n) n) (leb c.pages n) e),
        )

    back : NoPageFits c rs whole × (c.pages ≤ n) → (eqb (or_else (earliest fits (from 0 n)) n) n && leb c.pages n) ≡ true
    back h =
        let e = earliest-none fits 0 n (λ p a b. ap is_found (h.0 p (omega arith))) in
        both (eq-eqb _ _ (ap (λ (o : Maybe ℕ). or_else o n) e)) (le-leb _ _ h.1)
