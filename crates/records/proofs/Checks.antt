-- What the checks of a configuration, of a record and of a layout say, part by part: the laws that the crates above cite.
-- Assumes nothing.
use Prim.Native.Nat.{ℕ, ◌+◌, ◌≤◌, ◌<◌}
use native.Mathlib.Omega.{arith}
use mathlib.Core.Path.{◌≡◌, refl, sym, subst}
use mathlib.Core.Bool.{Bool, true, false, ◌&&◌, beq}
use mathlib.Core.List.{List, Memᴰ}
use lib.ListN.{length, get_or}
use lib.Dec.{leb}
use borrow.Author.Tests.{ltb-true, lt-ltb, leb-true, le-leb, eqb-true, not-true}
use Rattle.geometry.specs.Words.{all_of, all, within}
use Rattle.geometry.specs.Placing.{lying, turn_number}
use Rattle.geometry.specs.declared.spot.Turn.{Turn}
use Rattle.geometry.specs.declared.spot.Turn.TheVariants.{Upright, Turned}
use Rattle.geometry.proofs.Words.{and_left, and_right, both}
use Rattle.art.specs.Stores.{BoxIn}
use Rattle.art.specs.declared.memory_rgba8_texture.Store.{Store}
use Rattle.art.specs.declared.memory_rgba8_texture.Store.TheVariants.{Symbols, Wording}
use Rattle.records.specs.Settings.{in_bounds, blank_record}
use Rattle.records.specs.Records.{store_number, all_zero, is_blank, size_of, whole_of, box_of, lies_in, box_inside, record_well_formed}
use Rattle.records.specs.Layouts.{standing, unused, well_formed}
use Rattle.records.specs.declared.texture_packer_config.Config.{Config}
use Rattle.records.specs.declared.frame.Record.{Record}
use Rattle.records.specs.declared.layout.Layout.{Layout}
use Rattle.records.proofs.Rows.{all_of_lem, of_all, all_in, at_in}

low : (a b n : ℕ) → within a b n ≡ true → a ≤ n
low a b n e = leb-true a n (and_left (leb a n) (leb n b) e)

high : (a b n : ℕ) → within a b n ≡ true → n ≤ b
high a b n e = leb-true n b (and_right (leb a n) (leb n b) e)

in_within : (a b n : ℕ) → a ≤ n → n ≤ b → within a b n ≡ true
in_within a b n h g = both (le-leb a n h) (le-leb n b g)

-- ## a configuration

pub record Bounded (c : Config) : Type 0 where
  pub wide : 1 ≤ c.maxw
  pub wide-few : c.maxw ≤ 4096
  pub tall : 1 ≤ c.maxh
  pub tall-few : c.maxh ≤ 4096
  pub padding : c.padding ≤ 64
  pub border : c.border ≤ 64
  pub extrusion : c.extrusion ≤ 16
  pub pages : 1 ≤ c.pages
  pub pages_few : c.pages ≤ 8
  pub images : 1 ≤ c.images
  pub images_few : c.images ≤ 256

pub bounded : (c : Config) → in_bounds c ≡ true → Bounded c
unfolding in_bounds
bounded c e =
    let h = all_of_lem _ e in
    record {
      wide = low 1 4096 c.maxw h.0;
      wide-few = high 1 4096 c.maxw h.0;
      tall = low 1 4096 c.maxh h.1.0;
      tall-few = high 1 4096 c.maxh h.1.0;
      padding = leb-true _ _ h.1.1.0;
      border = leb-true _ _ h.1.1.1.0;
      extrusion = leb-true _ _ h.1.1.1.1.0;
      pages = low 1 8 c.pages h.1.1.1.1.1.0;
      pages_few = high 1 8 c.pages h.1.1.1.1.1.0;
      images = low 1 256 c.images h.1.1.1.1.1.1.0;
      images_few = high 1 256 c.images h.1.1.1.1.1.1.0;
    }

pub bounds_hold : (c : Config) → Bounded c → in_bounds c ≡ true
unfolding in_bounds
bounds_hold c b =
    of_all _ (
      in_within 1 4096 c.maxw b.wide b.wide-few,
      (
        in_within 1 4096 c.maxh b.tall b.tall-few,
        (
          le-leb _ _ b.padding,
          (
            le-leb _ _ b.border,
            (
              le-leb _ _ b.extrusion,
              (in_within 1 8 c.pages b.pages b.pages_few, (in_within 1 256 c.images b.images b.images_few, tt)),
            ),
          ),
        ),
      ),
    )

-- ## a record

pub record Good (c : Config) (r : Record) : Type 0 where
  pub page : r.page.0 < c.pages
  pub whole_w : 1 ≤ r.source.w
  pub whole_w_few : r.source.w ≤ 2048
  pub whole_h : 1 ≤ r.source.h
  pub whole_h_few : r.source.h ≤ 2048
  pub left : c.border ≤ r.frame.x
  pub left-few : r.frame.x ≤ c.border + 4095
  pub top : c.border ≤ r.frame.y
  pub top-few : r.frame.y ≤ c.border + 4095
  pub trimmed : r.trimmed ≡ c.trim
  pub inside : BoxIn (box_of r) r.source.w r.source.h
  pub box_w_few : (box_of r).w ≤ 2048
  pub box_h_few : (box_of r).h ≤ 2048

same_flag : (a b : Bool) → beq a b ≡ true → a ≡ b
same_flag true true e = refl
same_flag true false e = sym e
same_flag false true e = e
same_flag false false e = refl

flag_same : (a b : Bool) → a ≡ b → beq a b ≡ true
flag_same true b e = rw (sym e)
flag_same false b e = rw (sym e)

pub good : (c : Config) (r : Record) → record_well_formed c r ≡ true → Good c r
unfolding record_well_formed box_inside lies_in whole_of
good c r e =
    let h = all_of_lem _ e in
    let k = box_of r in
    let across = and_left (leb 1 k.w && leb (k.x + k.w) r.source.w) (leb 1 k.h && leb (k.y + k.h) r.source.h) h.1.1.1.1.1.1.0 in
    let down = and_right (leb 1 k.w && leb (k.x + k.w) r.source.w) (leb 1 k.h && leb (k.y + k.h) r.source.h) h.1.1.1.1.1.1.0 in
    let right : k.x + k.w ≤ r.source.w = leb-true _ _ (and_right (leb 1 k.w) (leb (k.x + k.w) r.source.w) across) in
    let bottom : k.y + k.h ≤ r.source.h = leb-true _ _ (and_right (leb 1 k.h) (leb (k.y + k.h) r.source.h) down) in
    let whole_w = high 1 2048 r.source.w h.1.0 in
    let whole_h = high 1 2048 r.source.h h.1.1.0 in
    record {
      page = ltb-true _ _ h.0;
      whole_w = low 1 2048 r.source.w h.1.0;
      whole_w_few = whole_w;
      whole_h = low 1 2048 r.source.h h.1.1.0;
      whole_h_few = whole_h;
      left = low c.border (c.border + 4095) r.frame.x h.1.1.1.0;
      left-few = high c.border (c.border + 4095) r.frame.x h.1.1.1.0;
      top = low c.border (c.border + 4095) r.frame.y h.1.1.1.1.0;
      top-few = high c.border (c.border + 4095) r.frame.y h.1.1.1.1.0;
      trimmed = same_flag r.trimmed c.trim h.1.1.1.1.1.0;
      inside =
          record {
            some_w = leb-true _ _ (and_left (leb 1 k.w) (leb (k.x + k.w) r.source.w) across);
            some_h = leb-true _ _ (and_left (leb 1 k.h) (leb (k.y + k.h) r.source.h) down);
            in_w = right;
            in_h = bottom;
          };
      box_w_few = omega arith;
      box_h_few = omega arith;
    }

pub good-holds : (c : Config) (r : Record) → Good c r → record_well_formed c r ≡ true
unfolding record_well_formed box_inside lies_in whole_of
good-holds c r g =
    of_all _ (
      lt-ltb _ _ g.page,
      (
        in_within 1 2048 r.source.w g.whole_w g.whole_w_few,
        (
          in_within 1 2048 r.source.h g.whole_h g.whole_h_few,
          (
            in_within c.border (c.border + 4095) r.frame.x g.left g.left-few,
            (
              in_within c.border (c.border + 4095) r.frame.y g.top g.top-few,
              (
                flag_same r.trimmed c.trim g.trimmed,
                (
                  both (both (le-leb 1 (box_of r).w g.inside.some_w) (le-leb ((box_of r).x + (box_of r).w) r.source.w g.inside.in_w))
                      (both (le-leb 1 (box_of r).h g.inside.some_h) (le-leb ((box_of r).y + (box_of r).h) r.source.h g.inside.in_h)),
                  tt,
                ),
              ),
            ),
          ),
        ),
      ),
    )

-- the frame has the box's size, swapped if turned: not empty, and within 2048
pub record Framed (r : Record) : Type 0 where
  pub some_w : 1 ≤ r.frame.w
  pub some_h : 1 ≤ r.frame.h
  pub w_few : r.frame.w ≤ 2048
  pub h_few : r.frame.h ≤ 2048

pub framed : (c : Config) (r : Record) → Good c r → Framed r
unfolding box_of lying size_of
framed c r g = go r.turn g.inside
  where
    go : (t : Turn)
        → BoxIn (record { x = r.source.x; y = r.source.y; w = (lying t (size_of r.frame)).w; h = (lying t (size_of r.frame)).h }) r.source.w r.source.h
        → Framed r
    go Upright i = record {
      some_w = i.some_w;
      some_h = i.some_h;
      w_few = omega (arith, i.in_w, g.whole_w_few);
      h_few = omega (arith, i.in_h, g.whole_h_few);
    }
    go Turned i = record {
      some_w = i.some_h;
      some_h = i.some_w;
      w_few = omega (arith, i.in_h, g.whole_h_few);
      h_few = omega (arith, i.in_w, g.whole_w_few);
    }

-- ## the blank record

upright_is : (t : Turn) → turn_number t ≡ 0 → t ≡ Upright
upright_is Upright e = refl
upright_is Turned e = absurd (omega arith)

symbols-is : (s : Store) → store_number s ≡ 0 → s ≡ Symbols
symbols-is Symbols e = refl
symbols-is Wording e = absurd (omega arith)

-- only the blank record is blank
pub blank_is : (r : Record) → is_blank r ≡ true → r ≡ blank_record
unfolding is_blank all_zero blank_record
blank_is r e =
    let h = all_of_lem _ e in
    let f = all_of_lem _ h.1.1.0 in
    let s = all_of_lem _ h.1.1.1.1.1.0 in
    let key = eqb-true r.key.0 0 h.0 in
    let page = eqb-true r.page.0 0 h.1.0 in
    let fx = eqb-true r.frame.x 0 f.0 in
    let fy = eqb-true r.frame.y 0 f.1.0 in
    let fw = eqb-true r.frame.w 0 f.1.1.0 in
    let fh = eqb-true r.frame.h 0 f.1.1.1.0 in
    let turn = upright_is r.turn (eqb-true (turn_number r.turn) 0 h.1.1.1.0) in
    let trimmed = not-true r.trimmed h.1.1.1.1.0 in
    let sx = eqb-true r.source.x 0 s.0 in
    let sy = eqb-true r.source.y 0 s.1.0 in
    let sw = eqb-true r.source.w 0 s.1.1.0 in
    let sh = eqb-true r.source.h 0 s.1.1.1.0 in
    let store = symbols-is r.store (eqb-true (store_number r.store) 0 h.1.1.1.1.1.1.0) in
    let offset = eqb-true r.offset 0 h.1.1.1.1.1.1.1.0 in
    λ i. record {
      key = record { 0 = key i };
      page = record { 0 = page i };
      frame = record { x = fx i; y = fy i; w = fw i; h = fh i };
      turn = turn i;
      trimmed = trimmed i;
      source = record { x = sx i; y = sy i; w = sw i; h = sh i };
      store = store i;
      offset = offset i;
    }

pub is_blank_lem : is_blank blank_record ≡ true
unfolding is_blank all_zero blank_record all_of
is_blank_lem = refl

-- ## a layout

pub record Formed (l : Layout) : Type 0 where
  pub in_bounds : in_bounds l.config ≡ true
  pub config : Bounded l.config
  pub count : l.count ≤ l.config.images
  pub few : l.count ≤ 256
  pub unused-so : all is_blank (unused l) ≡ true
  pub blank : (r : Record) → Memᴰ r (unused l) → r ≡ blank_record
  pub standing-so : all (record_well_formed l.config) (standing l) ≡ true
  pub each : (r : Record) → Memᴰ r (standing l) → Good l.config r
  pub at : (i : ℕ) → i < length (standing l) → Good l.config (get_or (standing l) i blank_record)

pub formed : (l : Layout) → well_formed l ≡ true → Formed l
unfolding well_formed
formed l e =
    let h = all_of_lem _ e in
    let b = bounded l.config h.0 in
    let n : l.count ≤ l.config.images = leb-true _ _ h.1.0 in
    let each : (r : Record) → Memᴰ r (standing l) → Good l.config r = λ r m. good l.config r (all_in (record_well_formed l.config) (standing l) h.1.1.1.0 m) in
    record {
      in_bounds = h.0;
      config = b;
      count = n;
      few = omega (arith, b.images_few);
      unused-so = h.1.1.0;
      blank = λ r m. blank_is r (all_in is_blank (unused l) h.1.1.0 m);
      standing-so = h.1.1.1.0;
      each = each;
      at = λ i g. each (get_or (standing l) i blank_record) (at_in (standing l) blank_record i g);
    }

-- each of the standing records, by its index
pub stands-good : (l : Layout) → well_formed l ≡ true → (rs : List Record) → rs ≡ standing l → (i : ℕ) → i < length rs
    → Good l.config (get_or rs i blank_record)
stands-good l e rs q = subst (λ (qs : List Record). (i : ℕ) → i < length qs → Good l.config (get_or qs i blank_record)) (sym q) (formed l e).at

-- the four parts make it well-formed
pub forms : (l : Layout) → in_bounds l.config ≡ true → l.count ≤ l.config.images → all is_blank (unused l) ≡ true
    → all (record_well_formed l.config) (standing l) ≡ true → well_formed l ≡ true
unfolding well_formed
forms l b n u s = of_all _ (b, (le-leb _ _ n, (u, (s, tt))))
