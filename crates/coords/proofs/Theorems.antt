-- What document 01 says of coordinates, each theorem under the sentence that it carries. Assumes nothing.
use Rattle.std.specs.Prelude.{Err, Ok}
use mathlib.Core.Path.{◌≡◌, refl, sym, ap, ◌∙◌, subst}
use mathlib.Core.Bool.{Bool, true, false, not}
use mathlib.Core.List.{List, [], ◌∷◌, Memᴰ}
use mathlib.Core.Logic.{◌↔◌, ◌⊎◌, inl, inr}
use lib.Dec.{T}
use lib.Ieee.{Float, eq}
use lib.Ieee.Scale.{finite}
use borrow.Author.Tests.{not-true, not-false}
use Rattle.geometry.specs.Words.{any}
use Rattle.geometry.proofs.Words.{not_both}
use Rattle.records.specs.Refusals.{Row, row_numbers}
use Rattle.records.specs.Layouts.{standing, well_formed, has_key, record_named}
use Rattle.records.specs.declared.frame.Key.{Key}
use Rattle.records.specs.declared.layout.Layout.{Layout}
use Rattle.records.specs.declared.refusal.Refusal.{Refusal}
use Rattle.records.specs.declared.refusal.Refusal.TheVariants.{NotWellFormed, NoSuchKey, BadInset, PastPage}
use Rattle.records.proofs.Rows.{First, is-first, exactly}
use Rattle.coords.specs.Coordinates.{Located, nought, corners, named_page_size, between, bad_inset, past_edge, out_of_page, wanted, locate_row, locate_refusal, located, located_numbers}
use Rattle.coords.specs.Bits.{AllExact, inset_nought}
use Rattle.coords.specs.Parts.{Countable}
use Rattle.coords.specs.declared.locate.Corners.{Corners}
use Rattle.coords.specs.declared.locate.Request.{Request}
use Rattle.coords.specs.declared.locate.Position.TheVariants.{Pixels, Texels}
use Rattle.coords.specs.declared.locate.Request.TheVariants.{Pixels as AskPixels, Edges, Inset}
use Rattle.coords.proofs.Answers.{ask-pixels, ask_edges, ask-inset, texels_in, countable, refuses, found}
use Rattle.coords.proofs.Given.{refusal_of, texels_of, Passed, passed_row, sides, free_never}
use Rattle.coords.proofs.Sides.{corners_exact, AreNumbers, corners-numbers, zero-corners, zero-between}
use Rattle.coords.proofs.NotNan.{between-finite}
use Rattle.coords.proofs.Numbers.{HoldsF32, located_f32, located_tells}

-- ## "coordinates: 2 15 17 16"

pub locate_numbers : (l : Layout) (k : Key) (q : Request) → row_numbers (locate_row l k q) ≡ 2 ∷ 15 ∷ 17 ∷ 16 ∷ []
unfolding locate_row
locate_numbers l k q = refl

-- ## "Each row's checks run left to right; the first that holds is answered. Each is given exactly when its condition holds."

module _ (l : Layout) (k : Key) (q : Request) where
  abbrev Check : Type 0
  Check = Bool × Refusal

  abbrev two : Check
  two = (not (well_formed l), NotWellFormed)

  abbrev fifteen : Check
  fifteen = (not (any (has_key k) (standing l)), NoSuchKey)

  abbrev seventeen : Check
  seventeen = (bad_inset q, BadInset)

  abbrev sixteen : Check
  sixteen = (out_of_page q (record_named l k).frame (named_page_size l k), PastPage)

  -- not well-formed
  pub locate_2 : located l k q ≡ Err NotWellFormed ↔ well_formed l ≡ false
  unfolding locate_refusal locate_row
  locate_2 =
      let x = exactly [] two.0 two.1 (fifteen ∷ seventeen ∷ sixteen ∷ []) refl refl in
      (λ e. not-true _ (x.0 (refusal_of l k q e)).1, λ w. refuses l k q (x.1 (tt, ap not w)))

  -- no such key
  pub locate_15 : located l k q ≡ Err NoSuchKey ↔ (well_formed l ≡ true) × (any (has_key k) (standing l) ≡ false)
  unfolding locate_refusal locate_row
  locate_15 =
      let x = exactly (two ∷ []) fifteen.0 fifteen.1 (seventeen ∷ sixteen ∷ []) refl refl in (
        λ e. let h = x.0 (refusal_of l k q e) in (not-false _ h.0.0, not-true _ h.1),
        λ h. refuses l k q (x.1 ((ap not h.0, tt), ap not h.1)),
      )

  -- inset not between 0 and 0.5
  pub locate_17 : located l k q ≡ Err BadInset ↔ (well_formed l ≡ true) × (any (has_key k) (standing l) ≡ true) × (bad_inset q ≡ true)
  unfolding locate_refusal locate_row
  locate_17 =
      let x = exactly (two ∷ fifteen ∷ []) seventeen.0 seventeen.1 (sixteen ∷ []) refl refl in (
        λ e. let h = x.0 (refusal_of l k q e) in (not-false _ h.0.0, not-false _ h.0.1.0, h.1),
        λ h. refuses l k q (x.1 ((ap not h.0, (ap not h.1, tt)), h.2)),
      )

  -- frame past the page's right or bottom edge
  pub locate_16 : located l k q ≡ Err PastPage
      ↔ (well_formed l ≡ true) × (any (has_key k) (standing l) ≡ true) × (bad_inset q ≡ false) × (out_of_page q (record_named l k).frame (named_page_size l k) ≡ true)
  unfolding locate_refusal locate_row
  locate_16 =
      let x = exactly (two ∷ fifteen ∷ seventeen ∷ []) sixteen.0 sixteen.1 [] refl refl in (
        λ e. let h = x.0 (refusal_of l k q e) in (not-false _ h.0.0, not-false _ h.0.1.0, h.0.1.1.0, h.1),
        λ h. refuses l k q (x.1 ((ap not h.0, (ap not h.1, (h.2, tt))), h.3)),
      )

  -- and no other number
  pub locate_only : (r : Refusal) → located l k q ≡ Err r → Memᴰ r (NotWellFormed ∷ NoSuchKey ∷ BadInset ∷ PastPage ∷ [])
  unfolding locate_refusal locate_row
  locate_only r e = go (two ∷ fifteen ∷ seventeen ∷ sixteen ∷ []) (is-first _ (refusal_of l k q e))
    where
      refusals : Row → List Refusal
      refusals [] = []
      refusals (c ∷ cs) = c.1 ∷ refusals cs

      go : (cs : Row) → First cs r → Memᴰ r (refusals cs)
      go [] h = absurd h
      go (c ∷ cs) (inl h) = Memᴰ.head (sym h.1)
      go (c ∷ cs) (inr h) = Memᴰ.tail (go cs h.1)

-- "16 .. (not asked for pixel answers)": pixels are refused for 2 and 15 only
pub pixels-only : (l : Layout) (k : Key) (r : Refusal) → located l k AskPixels ≡ Err r → (r ≡ NotWellFormed) ⊎ (r ≡ NoSuchKey)
pixels-only l k r e = go (locate_only l k AskPixels r e)
  where
    never : {A : Type 0} → false ≡ true → A
    never z = absurd (not_both z refl)

    go : Memᴰ r (NotWellFormed ∷ NoSuchKey ∷ BadInset ∷ PastPage ∷ []) → (r ≡ NotWellFormed) ⊎ (r ≡ NoSuchKey)
    go (Memᴰ.head p) = inl p
    go (Memᴰ.tail (Memᴰ.head p)) = inr p
    go (Memᴰ.tail (Memᴰ.tail (Memᴰ.head p))) = never ((locate_17 l k AskPixels).0 (e ∙ ap Err p)).2
    go (Memᴰ.tail (Memᴰ.tail (Memᴰ.tail (Memᴰ.head p)))) = never ((locate_16 l k AskPixels).0 (e ∙ ap Err p)).3
    go (Memᴰ.tail (Memᴰ.tail (Memᴰ.tail (Memᴰ.tail p)))) = elim p [ ]

-- edges are never answered 17
pub edges_17 : (l : Layout) (k : Key) → located l k Edges ≡ Err BadInset → ⊥
edges_17 l k e = not_both ((locate_17 l k Edges).0 e).2 refl

-- a page that is not forced holds its frames: 16 is for forced pages only
pub forced_16 : (l : Layout) (k : Key) (q : Request) → located l k q ≡ Err PastPage → l.config.forced ≡ true
forced_16 l k q e = go l.config.forced refl
  where
    at : (well_formed l ≡ true) × (any (has_key k) (standing l) ≡ true) × (bad_inset q ≡ false) × (out_of_page q (record_named l k).frame (named_page_size l k) ≡ true)
    at = (locate_16 l k q).0 e

    go : (b : Bool) → l.config.forced ≡ b → l.config.forced ≡ true
    go true f = f
    go false f = absurd (not_both at.3 (free_never l k at.0 at.1 f q))

-- ## "Pixels answer the frame. The others answer four f32 numbers .. with i = 0 at edges"

module _ (l : Layout) (k : Key) (e : well_formed l ≡ true) (t : any (has_key k) (standing l) ≡ true) where
  pub pixels_are : located l k AskPixels ≡ Ok (Pixels (record_named l k).frame)
  pixels_are = found l k AskPixels e t ∙ ask-pixels (record_named l k).frame (named_page_size l k)

  module _ (inside : past_edge (record_named l k).frame (named_page_size l k) ≡ false) where
    pub edges_are : located l k Edges ≡ Ok (Texels (corners (record_named l k).frame (named_page_size l k) nought))
    edges_are = found l k Edges e t ∙ ask_edges (record_named l k).frame (named_page_size l k) ∙ texels_in (record_named l k).frame (named_page_size l k) nought inside

    pub inset_are : (i : Float) → between i ≡ true → located l k (Inset i) ≡ Ok (Texels (corners (record_named l k).frame (named_page_size l k) i))
    inset_are i b = found l k (Inset i) e t ∙ ask-inset (record_named l k).frame (named_page_size l k) i b ∙ texels_in (record_named l k).frame (named_page_size l k) i inside

-- ## "Where i is 0 and the page side a power of two, the number is exact: its decoded bits times the side give the pixel column or row."

truth : {b : Bool} → b ≡ true → T b
truth e = subst T (sym e) tt

module _ (l : Layout) (k : Key) (q : Request) (c : Corners) (e : located l k q ≡ Ok (Texels c)) where
  clear : Passed l k q
  clear = passed_row l k q (texels_of l k q e).0

  small : Countable (record_named l k).frame (named_page_size l k)
  small = countable l k clear.formed clear.stands

  pub exact_answer : inset_nought q ≡ true → AllExact (record_named l k).frame (named_page_size l k) c
  unfolding eq
  exact_answer z = go q z (texels_of l k q e).1
    where
      go : (r : Request) → inset_nought r ≡ true → wanted r (record_named l k).frame (named_page_size l k) ≡ Texels c → AllExact (record_named l k).frame (named_page_size l k) c
      go AskPixels y w = absurd (not_both y refl)
      go Edges y w =
          let p : corners (record_named l k).frame (named_page_size l k) nought ≡ c = cc in
          subst (AllExact (record_named l k).frame (named_page_size l k)) p (corners_exact (record_named l k).frame (named_page_size l k) small nought tt)
      go (Inset i) y w =
          let p : corners (record_named l k).frame (named_page_size l k) i ≡ c = cc in
          subst (AllExact (record_named l k).frame (named_page_size l k)) p (corners_exact (record_named l k).frame (named_page_size l k) small i (truth y))

-- an inset of 0, of either sign, answers as edges do
pub zero_as_edges : (l : Layout) (k : Key) (i : Float) → eq i nought ≡ true → located l k (Inset i) ≡ located l k Edges
zero_as_edges l k i z = start (well_formed l) refl (any (has_key k) (standing l)) refl
  where
    b : between i ≡ true
    b = zero-between i (truth z)

    onward : well_formed l ≡ true → any (has_key k) (standing l) ≡ true → (p : Bool) → past_edge (record_named l k).frame (named_page_size l k) ≡ p → located l k (Inset i) ≡ located l k Edges
    onward e t true p = (locate_16 l k (Inset i)).1 (e, t, ap not b, p) ∙ sym ((locate_16 l k Edges).1 (e, t, refl, p))
    onward e t false p =
        let s = sides l k e t p in
        inset_are l k e t p i b
        ∙ ap (λ (c : Corners). Ok (Texels c)) (zero-corners (record_named l k).frame (named_page_size l k) (countable l k e t) s.wide s.tall i (truth z))
        ∙ sym (edges_are l k e t p)

    start : (w : Bool) → well_formed l ≡ w → (a : Bool) → any (has_key k) (standing l) ≡ a → located l k (Inset i) ≡ located l k Edges
    start false e a t = (locate_2 l k (Inset i)).1 e ∙ sym ((locate_2 l k Edges).1 e)
    start true e false t = (locate_15 l k (Inset i)).1 (e, t) ∙ sym ((locate_15 l k Edges).1 (e, t))
    start true e true t = onward e t (past_edge (record_named l k).frame (named_page_size l k)) refl

-- the four numbers are numbers, so that each has one bit pattern
pub never_nan : (l : Layout) (k : Key) (q : Request) (c : Corners) → located l k q ≡ Ok (Texels c) → AreNumbers c
never_nan l k q c e = go q refl (texels_of l k q e).1
  where
    at : Passed l k q
    at = passed_row l k q (texels_of l k q e).0

    numbers : (i : Float) → finite i ≡ true → past_edge (record_named l k).frame (named_page_size l k) ≡ false → corners (record_named l k).frame (named_page_size l k) i ≡ c → AreNumbers c
    numbers i f p d =
        let s = sides l k at.formed at.stands p in
        subst AreNumbers d (corners-numbers (record_named l k).frame (named_page_size l k) (countable l k at.formed at.stands) s.wide s.tall i f)

    go : (r : Request) → q ≡ r → wanted r (record_named l k).frame (named_page_size l k) ≡ Texels c → AreNumbers c
    go AskPixels y w = absurd cc
    go Edges y w = numbers nought refl (sym (ap (λ (r : Request). out_of_page r (record_named l k).frame (named_page_size l k)) y) ∙ at.page) (cc)
    go (Inset i) y w =
        numbers i (between-finite i (not-false _ (sym (ap bad_inset y) ∙ at.inset))) (sym (ap (λ (r : Request). out_of_page r (record_named l k).frame (named_page_size l k)) y) ∙ at.page) (cc)

-- ## "Where an answer is an enum, a definition gives this paper's number and values for each of its cases."

-- no two answers whose floats are f32, and every float of the type is, have the same number and values
pub located_one : (a b : Located) → HoldsF32 a → HoldsF32 b → located_numbers a ≡ located_numbers b → a ≡ b
located_one = located_tells

-- so a result is the answer exactly when it has the answer's number and values
pub located_numbered : (l : Layout) (k : Key) (q : Request) (r : Located) → HoldsF32 r → r ≡ located l k q ↔ located_numbers r ≡ located_numbers (located l k q)
located_numbered l k q r h = (ap located_numbers, located_tells r (located l k q) h (located_f32 l k q))

-- ## "any two results allowed for one input are shown equal"

pub one_locate : (l : Layout) (k : Key) (q : Request) {r a : Located} → r ≡ located l k q → a ≡ located l k q → r ≡ a
one_locate l k q e f = e ∙ sym f
