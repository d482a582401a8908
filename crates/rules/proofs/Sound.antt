-- The records of a well-formed and faithful layout: one more that the rule gives, one less, and the pages that they fill.
-- Assumes nothing.
use Prim.Native.Nat.{ℕ, ◌+◌, ◌-◌, ◌≤◌, ◌<◌}
use native.Mathlib.Omega.{arith}
use mathlib.Core.Path.{◌≡◌, refl, sym, ◌∙◌, ap, subst}
use mathlib.Core.Bool.{Bool, true, false, ◌&&◌, beq}
use mathlib.Core.List.{List, [], ◌∷◌, ◌++◌, map, append-nil}
use mathlib.Core.Option.{some}
use lib.ListN.{length}
use lib.Dec.{leb, eqb}
use lib.Seq.{append_snoc}
use borrow.Author.Tests.{leb-false, le-leb, lt-ltb, eqb-false}
use Rattle.geometry.specs.Words.{all, any}
use Rattle.geometry.specs.Placing.{height}
use Rattle.geometry.specs.Fits.{HasPixels}
use Rattle.geometry.specs.declared.rect.Rect.{Rect}
use Rattle.geometry.specs.declared.rect.Size.{Size}
use Rattle.geometry.specs.declared.spot.Spot.{Spot}
use Rattle.art.specs.Stores.{Stores, BoxIn}
use Rattle.art.specs.declared.memory_rgba8_texture.Image.{Image}
use Rattle.records.specs.Settings.{in_bounds}
use Rattle.records.specs.Records.{is_blank, size_of, whole_of, box_of, lies_in, box_inside, record_well_formed}
use Rattle.records.specs.Layouts.{has_key, well_formed, page_count}
use Rattle.records.specs.declared.texture_packer_config.Config.{Config}
use Rattle.records.specs.declared.frame.Key.{Key}
use Rattle.records.specs.declared.frame.Record.{Record}
use Rattle.rules.specs.Placing.{canvas, cell_size, cells_on, page_for, record_at, placed}
use Rattle.rules.specs.Faithful.{keys_differ, art_of, same_spot, placed_so, whole_if_untrimmed, faithful}
use Rattle.rules.specs.Operations.{art_for, pages_full}
use Rattle.rules.specs.Story.{filled, laid_from}
use Rattle.rules.specs.declared.placing.Art.{Art}
use Rattle.geometry.proofs.Words.{and_left, and_right, both}
use Rattle.geometry.proofs.Fitting.{told}
use Rattle.records.proofs.Rows.{of_all, all_in}
use Rattle.records.proofs.Checks.{bounded, good}
use Rattle.rules.proofs.Blanks.{are_blank}
use Rattle.records.proofs.Pages.{count_least}
use Rattle.rules.proofs.Pages.{placed_at, spot_fits, page-le, PagesFilled, none_filled, filled_more}
use Rattle.rules.proofs.Accepted.{cell_pixels, SizeIn}
use Rattle.rules.proofs.Steps.{all_snoc, all_front, keys_more, keys_front, so_more, so_front, art_back, placed_same, same-placed, laid_again, whole-placed}
use Rattle.rules.proofs.Standing.{length_snoc, standing-filled, unused-filled}

pub record Sound (c : Config) (rs : List Record) : Type 0 where
  pub bounds : in_bounds c ≡ true
  pub few : length rs ≤ c.images
  pub each : all (record_well_formed c) rs ≡ true
  pub keys : keys_differ rs ≡ true
  pub so : placed_so c [] rs ≡ true
  pub whole : all (whole_if_untrimmed c) rs ≡ true

-- ## a layout of sound records is well-formed and faithful, and the other way round

module _ (c : Config) (rs : List Record) (h : Sound c rs) where
  pub sound_formed : well_formed (filled c rs) ≡ true
  unfolding well_formed
  sound_formed =
      of_all _
      (bounds, (count, (ap (all is_blank) (unused-filled c rs) ∙ are_blank (256 - length rs), (ap (all (record_well_formed (filled c rs).config)) (standing-filled c rs) ∙ each, tt))))
    where
      bounds : in_bounds (filled c rs).config ≡ true
      bounds = unfold filled in h.bounds

      count : leb (filled c rs).count (filled c rs).config.images ≡ true
      count = unfold filled in le-leb _ _ h.few

      each : all (record_well_formed (filled c rs).config) rs ≡ true
      each = unfold filled in h.each

  pub sound_faithful : faithful (filled c rs) ≡ true
  unfolding faithful
  sound_faithful =
      of_all _
      (ap keys_differ (standing-filled c rs) ∙ h.keys, (ap (placed_so (filled c rs).config []) (standing-filled c rs) ∙ so, (ap (all (whole_if_untrimmed (filled c rs).config)) (standing-filled c rs) ∙ whole, tt)))
    where
      so : placed_so (filled c rs).config [] rs ≡ true
      so = unfold filled in h.so

      whole : all (whole_if_untrimmed (filled c rs).config) rs ≡ true
      whole = unfold filled in h.whole

  -- the rule gives just these records for their images
  pub sound_laid : laid_from c [] (map art_of rs) ≡ some rs
  sound_laid = laid_again c [] rs h.each h.so

pub none_sound : (c : Config) → in_bounds c ≡ true → Sound c []
unfolding all keys_differ placed_so
none_sound c b = record { bounds = b; few = omega arith; each = refl; keys = refl; so = refl; whole = refl }

pub front_sound : (c : Config) (rs : List Record) (r : Record) → Sound c (rs ++ r ∷ []) → Sound c rs
front_sound c rs r h =
    let n = length_snoc rs r in
    let f = h.few in
    record {
      bounds = h.bounds;
      few = omega arith;
      each = all_front (record_well_formed c) rs (r ∷ []) h.each;
      keys = keys_front rs (r ∷ []) h.keys;
      so = so_front c [] rs (r ∷ []) h.so;
      whole = all_front (whole_if_untrimmed c) rs (r ∷ []) h.whole;
    }

-- ## every page is filled by the rule

filled_on : (c : Config) (earlier rs : List Record) → all (record_well_formed c) rs ≡ true → placed_so c earlier rs ≡ true → PagesFilled c earlier
    → PagesFilled c (earlier ++ rs)
unfolding placed_so all
filled_on c earlier [] w e h = subst (PagesFilled c) (sym (append-nil earlier)) h
filled_on c earlier (r ∷ rs) w e h =
    let ok = and_left (record_well_formed c r) (all (record_well_formed c) rs) w in
    let s = same-placed c earlier r ok (and_left (same_spot r (placed c earlier (art_of r))) (placed_so c (earlier ++ r ∷ []) rs) e) in
    subst (PagesFilled c) (append_snoc earlier r rs)
    (filled_on c (earlier ++ r ∷ []) rs (and_right (record_well_formed c r) (all (record_well_formed c) rs) w)
    (and_right (same_spot r (placed c earlier (art_of r))) (placed_so c (earlier ++ r ∷ []) rs) e)
    (filled_more c earlier (art_of r) r s (pixels ok) h))
  where
    pixels : record_well_formed c r ≡ true → HasPixels (cell_size c (size_of (art_of r).kept))
    pixels ok = let g = good c r ok in cell_pixels c (size_of (art_of r).kept) (unfold art_of size_of in record { wide = g.inside.some_w; tall = g.inside.some_h })

pub sound_pages : (c : Config) (rs : List Record) → Sound c rs → PagesFilled c rs
sound_pages c rs h = filled_on c [] rs h.each h.so (none_filled c)

-- ## one record more

-- 10 leaves the page below the limit
page_in : (c : Config) (rs : List Record) (whole : Size) → all (record_well_formed c) rs ≡ true → pages_full c rs whole ≡ false → page_for c rs whole < c.pages
unfolding pages_full
page_in c rs whole w e = go (eqb (page_for c rs whole) (page_count rs)) refl e
  where
    go : (b : Bool) → eqb (page_for c rs whole) (page_count rs) ≡ b → (b && leb c.pages (page_count rs)) ≡ false → page_for c rs whole < c.pages
    go true q h = let a = leb-false c.pages (page_count rs) h in let l = page-le c rs whole in omega arith
    go false q h =
        let d = eqb-false (page_for c rs whole) (page_count rs) q in
        let l = page-le c rs whole in
        let n = count_least rs c.pages (λ r m. (good c r (all_in (record_well_formed c) rs w m)).page) in
        omega arith

beq_self : (b : Bool) → beq b b ≡ true
beq_self true = refl
beq_self false = refl

lies_in_lem : (a n whole : ℕ) → 1 ≤ n → a + n ≤ whole → lies_in a n whole ≡ true
unfolding lies_in
lies_in_lem a n whole p q = both (le-leb _ _ p) (le-leb _ _ q)

box_inside_lem : (k : Rect) (whole : Size) → BoxIn k whole.w whole.h → box_inside k whole ≡ true
unfolding box_inside
box_inside_lem k whole g =
    both (lies_in_lem k.x k.w whole.w g.some_w g.in_w) (lies_in_lem k.y k.h whole.h g.some_h g.in_h)

-- what the rule makes of a good image is well-formed
made_formed : (c : Config) (a : Art) (p : ℕ) (k : Spot) → p < c.pages → SizeIn a.whole.w a.whole.h → k.at.x ≤ 4095 → k.at.y ≤ 4095
    → BoxIn a.kept a.whole.w a.whole.h → record_well_formed c (record_at c a p k) ≡ true
unfolding record_well_formed record_at art_of
made_formed c a p k hp z hx hy g =
    let b = c.border in
    let x1 : b ≤ k.at.x + b = omega arith in
    let x2 : k.at.x + b ≤ b + 4095 = omega arith in
    let y1 : b ≤ k.at.y + b = omega arith in
    let y2 : k.at.y + b ≤ b + 4095 = omega arith in
    of_all _ (
      lt-ltb _ _ hp,
      (
        both (le-leb _ _ z.wide) (le-leb _ _ z.wide-few),
        (
          both (le-leb _ _ z.tall) (le-leb _ _ z.tall-few),
          (both (le-leb _ _ x1) (le-leb _ _ x2), (both (le-leb _ _ y1) (le-leb _ _ y2), (beq_self c.trim, (inside, tt)))),
        ),
      ),
    )
  where
    inside : box_inside (box_of (record_at c a p k)) (whole_of (record_at c a p k)) ≡ true
    inside = ap (λ (q : Art). box_inside q.kept q.whole) (art_back c a p k) ∙ box_inside_lem a.kept a.whole g

-- what an offer that is accepted leaves of its checks, over the records alone
pub record Taken (c : Config) (rs : List Record) (s : Stores) (k : Key) (i : Image) : Type 0 where
  pub size : SizeIn i.w i.h
  pub key_new : any (has_key k) rs ≡ false
  pub box : BoxIn (art_for c s k i).kept i.w i.h
  pub pixels : HasPixels (size_of (art_for c s k i).kept)
  pub room : length rs < c.images
  pub page-room : pages_full c rs (art_for c s k i).whole ≡ false

pub more_sound : (c : Config) (rs : List Record) (s : Stores) (k : Key) (i : Image) (r : Record) → Sound c rs → Taken c rs s k i
    → placed c rs (art_for c s k i) ≡ some r → Sound c (rs ++ r ∷ [])
unfolding art_for record_at canvas
more_sound c rs s k i r h g e =
    let a = art_for c s k i in
    let p = page_for c rs a.whole in
    let u = placed_at c rs a e in
    let bd = bounded c h.bounds in
    let t = told (height (cells_on c rs p)) (canvas c) c.rotation (cell_size c (size_of a.kept)) u.spot (cell_pixels c (size_of a.kept) g.pixels)
    (spot_fits c (cells_on c rs p) (size_of a.kept) u.spot u.found) in
    let sx : u.spot.at.x ≤ 4095 = omega (arith, t.left, bd.wide-few) in
    let sy : u.spot.at.y ≤ 4095 = omega (arith, t.down, t.tall, bd.tall-few) in
    let ok = made_formed c a p u.spot (page_in c rs a.whole h.each g.page-room) g.size sx sy g.box in
    let key : r.key ≡ k = ap (λ (q : Record). q.key) u.is in
    let n = length_snoc rs r in
    let f = g.room in
    record {
      bounds = h.bounds;
      few = omega arith;
      each = all_snoc (record_well_formed c) rs r h.each (ap (record_well_formed c) u.is ∙ ok);
      keys = keys_more rs r h.keys (ap (λ (q : Key). any (has_key q) rs) key ∙ g.key_new);
      so = so_more c [] rs r h.so (placed_same c rs a r e);
      whole = all_snoc (whole_if_untrimmed c) rs r h.whole (whole-placed c rs s k i r e);
    }
