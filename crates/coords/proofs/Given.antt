-- From an answer back to the row: what holds where a number is answered, and where none is. Assumes nothing.
use Rattle.std.specs.Prelude.{Err, Ok}
use Prim.Native.Nat.{◌+◌, ◌≤◌, ◌<◌}
use native.Mathlib.Omega.{arith}
use mathlib.Core.Path.{◌≡◌, refl}
use mathlib.Core.Bool.{true, false, not}
use mathlib.Core.List.{[], Memᴰ}
use mathlib.Core.Option.{Option, none, some}
use lib.Dec.{ltb, eqb}
use borrow.Author.Tests.{not-false, ltb-false, le-ltb, eq-eqb}
use Rattle.geometry.specs.Words.{any}
use Rattle.geometry.specs.declared.rect.Rect.{Rect}
use Rattle.geometry.specs.declared.rect.Size.{Size}
use Rattle.geometry.proofs.Members.{only_in}
use Rattle.geometry.proofs.Words.{or_no_left, or_no_right}
use Rattle.records.specs.Layouts.{standing, well_formed, has_key, on_page, size_of_page, record_named}
use Rattle.records.specs.declared.frame.Key.{Key}
use Rattle.records.specs.declared.frame.Record.{Record}
use Rattle.records.specs.declared.layout.Layout.{Layout}
use Rattle.records.specs.declared.refusal.Refusal.{Refusal}
use Rattle.records.specs.declared.refusal.Refusal.TheVariants.{NotWellFormed, NoSuchKey, BadInset, PastPage}
use Rattle.records.proofs.Rows.{passed}
use Rattle.records.proofs.Checks.{framed}
use Rattle.records.proofs.Layouts.{width-holds, height-holds}
use Rattle.coords.specs.Coordinates.{named_page_size, bad_inset, past_edge, out_of_page, wanted, locate_row, locate_refusal, locate_answer, located}
use Rattle.coords.specs.declared.locate.Corners.{Corners}
use Rattle.coords.specs.declared.locate.Request.{Request}
use Rattle.coords.specs.declared.locate.Position.{Position}
use Rattle.coords.specs.declared.locate.Position.TheVariants.{Pixels, Texels}
use Rattle.coords.specs.declared.locate.Request.TheVariants.{Pixels as AskPixels, Edges, Inset}
use Rattle.coords.proofs.Answers.{named_in, named-good}

-- ## which case

refused_by : {r : Refusal} (q : Request) (f : Rect) (s : Size) (o : Option Refusal) → locate_answer (wanted q f s) o ≡ Err r → o ≡ some r
refused_by q f s (some n) e = cc
refused_by AskPixels f s none e = absurd cc
refused_by Edges f s none e = absurd cc
refused_by (Inset i) f s none e = absurd cc

pixels_by : {f : Rect} (a : Position) (o : Option Refusal) → locate_answer a o ≡ Ok (Pixels f) → (o ≡ none) × (a ≡ Pixels f)
pixels_by a none e = (refl, cc)
pixels_by a (some r) e = absurd cc

texels_by : {c : Corners} (a : Position) (o : Option Refusal) → locate_answer a o ≡ Ok (Texels c) → (o ≡ none) × (a ≡ Texels c)
texels_by a none e = (refl, cc)
texels_by a (some r) e = absurd cc

module _ (l : Layout) (k : Key) (q : Request) where
  pub refusal_of : {r : Refusal} → located l k q ≡ Err r → locate_refusal l k q ≡ some r
  unfolding located
  refusal_of e = refused_by q (record_named l k).frame (named_page_size l k) (locate_refusal l k q) e

  pub pixels_of : {f : Rect} → located l k q ≡ Ok (Pixels f) → (locate_refusal l k q ≡ none) × (wanted q (record_named l k).frame (named_page_size l k) ≡ Pixels f)
  unfolding located
  pixels_of e = pixels_by (wanted q (record_named l k).frame (named_page_size l k)) (locate_refusal l k q) e

  pub texels_of : {c : Corners} → located l k q ≡ Ok (Texels c) → (locate_refusal l k q ≡ none) × (wanted q (record_named l k).frame (named_page_size l k) ≡ Texels c)
  unfolding located
  texels_of e = texels_by (wanted q (record_named l k).frame (named_page_size l k)) (locate_refusal l k q) e

-- ## no check holds

pub record Passed (l : Layout) (k : Key) (q : Request) : Type 0 where
  pub formed : well_formed l ≡ true
  pub stands : any (has_key k) (standing l) ≡ true
  pub inset : bad_inset q ≡ false
  pub page : out_of_page q (record_named l k).frame (named_page_size l k) ≡ false

module _ (l : Layout) (k : Key) (q : Request) where
  pub passed_row : locate_refusal l k q ≡ none → Passed l k q
  unfolding locate_refusal locate_row
  passed_row e =
      let two = passed (not (well_formed l)) NotWellFormed _ e in
      let fifteen = passed (not (any (has_key k) (standing l))) NoSuchKey _ two.1 in
      let seventeen = passed (bad_inset q) BadInset _ fifteen.1 in
      let sixteen = passed (out_of_page q (record_named l k).frame (named_page_size l k)) PastPage [] seventeen.1 in
      record { formed = not-false _ two.0; stands = not-false _ fifteen.0; inset = seventeen.0; page = sixteen.0 }

-- ## a frame that is not past the page

-- so the page's sides are not 0
pub record Sides (s : Size) : Type 0 where
  pub wide : 0 < s.w
  pub tall : 0 < s.h

pub sides : (l : Layout) (k : Key) → well_formed l ≡ true → any (has_key k) (standing l) ≡ true → past_edge (record_named l k).frame (named_page_size l k) ≡ false → Sides (named_page_size l k)
unfolding past_edge
sides l k e t p =
    let f = (record_named l k).frame in
    let s = named_page_size l k in
    let small = framed l.config (record_named l k) (named-good l k e t) in
    let right : f.x + f.w ≤ s.w = ltb-false _ _ (or_no_left (ltb s.w (f.x + f.w)) (ltb s.h (f.y + f.h)) p) in
    let bottom : f.y + f.h ≤ s.h = ltb-false _ _ (or_no_right (ltb s.w (f.x + f.w)) (ltb s.h (f.y + f.h)) p) in
    record { wide = omega (arith, small.some_w); tall = omega (arith, small.some_h) }

-- ## a page that is not forced ends no earlier than its frames

module _ (l : Layout) (k : Key) (e : well_formed l ≡ true) (t : any (has_key k) (standing l) ≡ true) (free : l.config.forced ≡ false) where
  on_page_lem : Memᴰ (record_named l k) (on_page (record_named l k).page.0 (standing l))
  unfolding on_page
  on_page_lem = only_in (λ (r : Record). eqb r.page.0 (record_named l k).page.0) (standing l) (named_in l k t) (eq-eqb (record_named l k).page.0 (record_named l k).page.0 refl)

  free_inside : past_edge (record_named l k).frame (named_page_size l k) ≡ false
  unfolding past_edge named_page_size
  free_inside =
      let p = (record_named l k).page in
      let f = framed l.config (record_named l k) (named-good l k e t) in
      let w = le-ltb (size_of_page l p).w ((record_named l k).frame.x + (record_named l k).frame.w) (omega (arith, f.some_w, width-holds l p free (record_named l k) on_page_lem)) in
      let h = le-ltb (size_of_page l p).h ((record_named l k).frame.y + (record_named l k).frame.h) (omega (arith, f.some_h, height-holds l p free (record_named l k) on_page_lem)) in
      rw (w, h)

  pub free_never : (q : Request) → out_of_page q (record_named l k).frame (named_page_size l k) ≡ false
  free_never AskPixels = refl
  free_never Edges = free_inside
  free_never (Inset i) = free_inside
