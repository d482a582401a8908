-- What coordinates answers, from the tests and the values made. Assumes nothing.
use Rattle.std.specs.Prelude.{Err, Ok}
use Prim.Native.Nat.{◌<◌}
use native.Mathlib.Omega.{arith}
use mathlib.Core.Path.{◌≡◌, refl, sym, ap, ◌∙◌, subst}
use mathlib.Core.Bool.{true, false, not}
use mathlib.Core.List.{[], ◌∷◌, Memᴰ}
use mathlib.Core.Option.{Option, some}
use lib.ListN.{length, get_or}
use lib.Ieee.{Float}
use Rattle.geometry.specs.Words.{any, or_else}
use Rattle.geometry.specs.declared.rect.Rect.{Rect}
use Rattle.geometry.specs.declared.rect.Size.{Size}
use Rattle.records.specs.Refusals.{first_refusal}
use Rattle.records.specs.Settings.{blank_record}
use Rattle.records.specs.Layouts.{standing, well_formed, has_key, record_of, key_place, size_of_page, record_named}
use Rattle.records.specs.declared.frame.Key.{Key}
use Rattle.records.specs.declared.frame.Record.{Record}
use Rattle.records.specs.declared.layout.Layout.{Layout}
use Rattle.records.specs.declared.refusal.Refusal.{Refusal}
use Rattle.records.specs.declared.refusal.Refusal.TheVariants.{NotWellFormed, NoSuchKey, BadInset, PastPage}
use Rattle.records.proofs.Rows.{hit, skipped, none_left, at_in}
use Rattle.records.proofs.Checks.{Good, formed}
use Rattle.records.proofs.Keys.{named as named_by, stands-below, keyed}
use Rattle.records.proofs.Pages.{ends-few, side_w, side_h}
use Rattle.coords.specs.Coordinates.{nought, corners, named_page_size, between, past_edge, wanted, locate_row, locate_refusal, locate_answer, located}
use Rattle.coords.specs.Parts.{Countable, texel_answer, requested}
use Rattle.coords.specs.declared.locate.Request.{Request}
use Rattle.coords.specs.declared.locate.Position.TheVariants.{Pixels, Texels}
use Rattle.coords.specs.declared.locate.Request.TheVariants.{Pixels as AskPixels, Edges, Inset}

-- ## past 17

module _ (f : Rect) (s : Size) (i : Float) where
  pub texels_past : past_edge f s ≡ true → texel_answer f s i ≡ Err PastPage
  texels_past e = ap (locate_answer (Texels (corners f s i))) (hit (past_edge f s) PastPage [] e)

  pub texels_in : past_edge f s ≡ false → texel_answer f s i ≡ Ok (Texels (corners f s i))
  texels_in e = ap (locate_answer (Texels (corners f s i))) (skipped (past_edge f s) PastPage [] e ∙ none_left)

-- ## past 2 and 15

module _ (f : Rect) (s : Size) where
  pub ask-pixels : requested AskPixels f s ≡ Ok (Pixels f)
  unfolding first_refusal
  ask-pixels = refl

  pub ask_edges : requested Edges f s ≡ texel_answer f s nought
  unfolding first_refusal
  ask_edges = refl

  pub ask-inset : (i : Float) → between i ≡ true → requested (Inset i) f s ≡ texel_answer f s i
  ask-inset i e = ap (locate_answer (Texels (corners f s i))) (skipped (not (between i)) BadInset ((past_edge f s, PastPage) ∷ []) (ap not e))

  pub ask-not-between : (i : Float) → between i ≡ false → requested (Inset i) f s ≡ Err BadInset
  ask-not-between i e = ap (locate_answer (Texels (corners f s i))) (hit (not (between i)) BadInset ((past_edge f s, PastPage) ∷ []) (ap not e))

-- ## the whole row

module _ (l : Layout) (k : Key) where
  -- the record at the key's place
  abbrev pub placed : Record
  placed = get_or (standing l) (key_place k (standing l)) blank_record

  names : key_place k (standing l) < length (standing l) → record_named l k ≡ placed
  unfolding record_named record_of
  names h = ap (λ (o : Option Record). or_else o blank_record) (named_by k (standing l) h).is

  -- a key that stands names a standing record
  pub named_in : any (has_key k) (standing l) ≡ true → Memᴰ (record_named l k) (standing l)
  named_in t =
      let h = stands-below k (standing l) t in
      subst (λ (r : Record). Memᴰ r (standing l)) (sym (names h)) (at_in (standing l) blank_record (key_place k (standing l)) h)

  module _ (e : well_formed l ≡ true) (t : any (has_key k) (standing l) ≡ true) where
    pub named-good : Good l.config (record_named l k)
    named-good = (formed l e).each (record_named l k) (named_in t)

    -- its frame and its page are small
    pub countable : Countable (record_named l k).frame (named_page_size l k)
    unfolding named_page_size
    countable =
        let ends = ends-few l (formed l e) named-good in
        record {
          right = omega (arith, ends.w);
          bottom = omega (arith, ends.h);
          width = omega (arith, side_w l e (record_named l k).page);
          height = omega (arith, side_h l e (record_named l k).page);
        }

module _ (l : Layout) (k : Key) (q : Request) where
  pub refuses : {r : Refusal} → locate_refusal l k q ≡ some r → located l k q ≡ Err r
  unfolding located
  refuses e = ap (locate_answer (wanted q (record_named l k).frame (named_page_size l k))) e

  pub unformed : well_formed l ≡ false → located l k q ≡ Err NotWellFormed
  unfolding locate_refusal locate_row
  unformed e = refuses (hit (not (well_formed l)) NotWellFormed _ (ap not e))

  pub keyless : well_formed l ≡ true → any (has_key k) (standing l) ≡ false → located l k q ≡ Err NoSuchKey
  unfolding locate_refusal locate_row
  keyless e t =
      refuses
      (skipped (not (well_formed l)) NotWellFormed _ (ap not e) ∙ hit (not (any (has_key k) (standing l))) NoSuchKey _ (ap not t))

  pub found : well_formed l ≡ true → any (has_key k) (standing l) ≡ true → located l k q ≡ requested q (record_named l k).frame (named_page_size l k)
  unfolding located locate_refusal locate_row
  found e t =
      ap (locate_answer (wanted q (record_named l k).frame (named_page_size l k)))
      (skipped (not (well_formed l)) NotWellFormed _ (ap not e) ∙ skipped (not (any (has_key k) (standing l))) NoSuchKey _ (ap not t))

-- ## the same, as the code reads them: the record that the key names, and its page's size

module _ (l : Layout) (k : Key) (e : well_formed l ≡ true) (r : Record) (n : record_of l k ≡ some r) (s : Size) (z : s ≡ size_of_page l r.page) where
  is_named : record_named l k ≡ r
  is_named = (keyed l k n).1

  page-is : named_page_size l k ≡ s
  unfolding named_page_size
  page-is = ap (λ (q : Record). size_of_page l q.page) is_named ∙ sym z

  pub read_countable : Countable r.frame s
  read_countable =
      subst (λ (t : Size). Countable r.frame t) page-is
      (subst (λ (q : Record). Countable q.frame (named_page_size l k)) is_named (countable l k e (keyed l k n).0))

  pub read_found : (q : Request) → requested q r.frame s ≡ located l k q
  read_found q =
      sym
      (found l k q e (keyed l k n).0 ∙ ap (λ (p : Record). requested q p.frame (named_page_size l k)) is_named ∙ ap (requested q r.frame) page-is)
