-- The cells of each page and the page count after one record more; the page that the rule takes; the cell of a record that it gives.
-- Assumes nothing.
use Rattle.std.specs.Prelude.{Option, Some, None}
use Prim.Native.Nat.{ℕ, max, ◌+◌, ◌-◌, ◌≤◌, ◌<◌}
use native.Mathlib.Omega.{arith}
use native.Mathlib.Decide.{ℕ_discrete}
use mathlib.Core.Path.{◌≡◌, refl, sym, ◌∙◌, ap, subst}
use mathlib.Core.Bool.{Bool, true, false, cond}
use mathlib.Core.List.{List, [], ◌∷◌, ◌++◌, map, append-nil, Memᴰ}
use mathlib.Core.Logic.{◌⊎◌, inl, inr}
use mathlib.Core.Option.{Option as Maybe, none, some}
use lib.Dec.{eqb}
use borrow.Author.Tests.{eq-eqb, ne_eqb}
use Rattle.geometry.specs.Words.{from, only, earliest, or_else}
use Rattle.geometry.specs.Placing.{height, lying, cell_at, spot_at, is_found}
use Rattle.geometry.specs.Fits.{HasPixels, Fits, Filled, empty, put}
use Rattle.geometry.specs.declared.rect.Rect.{Rect}
use Rattle.geometry.specs.declared.rect.Size.{Size}
use Rattle.geometry.specs.declared.spot.Spot.{Spot}
use Rattle.geometry.specs.declared.spot.Turn.{Turn}
use Rattle.geometry.specs.declared.spot.Turn.TheVariants.{Upright, Turned}
use Rattle.records.specs.Records.{size_of}
use Rattle.records.specs.Layouts.{on_page, page_count}
use Rattle.records.specs.declared.texture_packer_config.Config.{Config}
use Rattle.records.specs.declared.frame.Record.{Record}
use Rattle.rules.specs.Placing.{canvas, margin, cell_size, spot_on, cell_of, cells_on, first_page, page_for, record_at, record_for, placed}
use Rattle.rules.specs.declared.placing.Art.{Art}
use Rattle.geometry.proofs.Words.{only_append}
use Rattle.geometry.proofs.Members.{from_mem}
use Rattle.geometry.proofs.Theorems.{chosen_fits}
use Rattle.records.proofs.Pages.{page-below, count_snoc}

-- ## one record more

map_append : {A B : Type 0} (f : A → B) (l m : List A) → map f (l ++ m) ≡ map f l ++ map f m
map_append f [] m = refl
map_append {A} {B} f (x ∷ l) m = ap (λ (z : List B). f x ∷ z) (map_append f l m)

pub map_snoc : {A B : Type 0} (f : A → B) (l : List A) (x : A) → map f (l ++ x ∷ []) ≡ map f l ++ f x ∷ []
map_snoc f l x = map_append f l (x ∷ [])

module _ (c : Config) (rs : List Record) (r : Record) (p : ℕ) where
  cells_snoc : cells_on c (rs ++ r ∷ []) p ≡ cells_on c rs p ++ map (cell_of c) (on_page p (r ∷ []))
  unfolding cells_on on_page
  cells_snoc =
      ap (map (cell_of c)) (only_append (λ (q : Record). eqb q.page.0 p) rs (r ∷ []))
      ∙ map_append (cell_of c) (on_page p rs) (on_page p (r ∷ []))

  -- its own page has its cell more
  pub cells-here : r.page.0 ≡ p → cells_on c (rs ++ r ∷ []) p ≡ cells_on c rs p ++ cell_of c r ∷ []
  unfolding on_page only
  cells-here e =
      cells_snoc ∙ ap (λ (b : Bool). cells_on c rs p ++ map (cell_of c) (cond b (r ∷ []) [])) (eq-eqb r.page.0 p e)

  -- every other page stays
  pub cells_other : (r.page.0 ≡ p → ⊥) → cells_on c (rs ++ r ∷ []) p ≡ cells_on c rs p
  unfolding on_page only
  cells_other n =
      cells_snoc ∙ ap (λ (b : Bool). cells_on c rs p ++ map (cell_of c) (cond b (r ∷ []) [])) (ne_eqb r.page.0 p n)
      ∙ append-nil (cells_on c rs p)

-- ## pages past the count have no cell

none_on : (rs : List Record) (p : ℕ) → ((r : Record) → Memᴰ r rs → r.page.0 < p) → on_page p rs ≡ []
unfolding on_page only
none_on [] p h = refl
none_on (r ∷ rs) p h =
    let n : (r.page.0 ≡ p → ⊥) = λ q. let g = h r (Memᴰ.head refl) in omega arith in
    rw (ne_eqb r.page.0 p n) (none_on rs p (λ q m. h q (Memᴰ.tail m)))

pub past_empty : (c : Config) (rs : List Record) (p : ℕ) → page_count rs ≤ p → cells_on c rs p ≡ []
unfolding cells_on
past_empty c rs p h = ap (map (cell_of c)) (none_on rs p (λ r m. let g = page-below rs m in omega arith))

-- ## the page that the rule takes

pub earliest-found : {A : Type 0} (t : A → Bool) (l : List A) {x : A} → earliest t l ≡ some x → Memᴰ x l × (t x ≡ true)
unfolding earliest
earliest-found t [] e = absurd cc
earliest-found {A} t (y ∷ ys) {x} e = go (t y) refl e (λ h. earliest-found t ys h)
  where
    go : (b : Bool) → t y ≡ b → cond b (some y) (earliest t ys) ≡ some x → (earliest t ys ≡ some x → Memᴰ x ys × (t x ≡ true))
        → Memᴰ x (y ∷ ys) × (t x ≡ true)
    go true q h f = let z : x ≡ y = cc in (Memᴰ.head z, ap t z ∙ q)
    go false q h f = let r = f h in (Memᴰ.tail r.0, r.1)

-- an old page that fits the whole size, or the page after the last
pub page-fits : (c : Config) (rs : List Record) (whole : Size)
    → ((page_for c rs whole < page_count rs) × (is_found (spot_on c (cells_on c rs (page_for c rs whole)) whole) ≡ true)) ⊎ (page_for c rs whole ≡ page_count rs)
unfolding page_for first_page
page-fits c rs whole = go (earliest fits (from 0 (page_count rs))) refl
  where
    fits : ℕ → Bool
    fits p = is_found (spot_on c (cells_on c rs p) whole)

    go : (o : Maybe ℕ) → earliest fits (from 0 (page_count rs)) ≡ o
        → ((or_else o (page_count rs) < page_count rs) × (fits (or_else o (page_count rs)) ≡ true)) ⊎ (or_else o (page_count rs) ≡ page_count rs)
    go none e = inr refl
    go (some p) e =
        let f = earliest-found fits (from 0 (page_count rs)) e in
        let m = from_mem 0 (page_count rs) f.0 in
        inl (omega (arith, m.1), f.1)

pub page-le : (c : Config) (rs : List Record) (whole : Size) → page_for c rs whole ≤ page_count rs
page-le c rs whole = go (page-fits c rs whole)
  where
    go : ((page_for c rs whole < page_count rs) × (is_found (spot_on c (cells_on c rs (page_for c rs whole)) whole) ≡ true)) ⊎ (page_for c rs whole ≡ page_count rs)
        → page_for c rs whole ≤ page_count rs
    go (inl h) = omega (arith, h.0)
    go (inr e) = omega arith

-- ## a record that the rule gives

pub record PlacedAt (c : Config) (rs : List Record) (a : Art) (r : Record) : Type 0 where
  pub spot : Spot
  pub found : spot_on c (cells_on c rs (page_for c rs a.whole)) (size_of a.kept) ≡ Some spot
  pub is : r ≡ record_at c a (page_for c rs a.whole) spot

pub placed_at : (c : Config) (rs : List Record) (a : Art) {r : Record} → placed c rs a ≡ some r → PlacedAt c rs a r
unfolding placed record_for
placed_at c rs a {r} e = go (spot_on c (cells_on c rs (page_for c rs a.whole)) (size_of a.kept)) refl e
  where
    go : (o : Option Spot) → spot_on c (cells_on c rs (page_for c rs a.whole)) (size_of a.kept) ≡ o
        → record_for c a (page_for c rs a.whole) o ≡ some r → PlacedAt c rs a r
    go None f h = absurd cc
    go (Some k) f h = record { spot = k; found = f; is = is k r h }
      where
        is : (k : Spot) (r : Record) → some (record_at c a (page_for c rs a.whole) k) ≡ some r → r ≡ record_at c a (page_for c rs a.whole) k
        is k r h = cc

pub spot_fits : (c : Config) (cells : List Rect) (size : Size) (k : Spot) → spot_on c cells size ≡ Some k
    → Fits (height cells) (canvas c) c.rotation (cell_size c size) k
unfolding spot_on
spot_fits c cells size k e = chosen_fits (height cells) (canvas c) c.rotation (cell_size c size) k e

-- a cell's size lies as its image's does
lying_w : (c : Config) (s : Size) (t : Turn) → (lying t s).w + margin c ≡ (lying t (cell_size c s)).w
unfolding lying cell_size
lying_w c s Upright = refl
lying_w c s Turned = refl

lying_h : (c : Config) (s : Size) (t : Turn) → (lying t s).h + margin c ≡ (lying t (cell_size c s)).h
unfolding lying cell_size
lying_h c s Upright = refl
lying_h c s Turned = refl

-- its cell is the spot's
pub cell_given : (c : Config) (a : Art) (p : ℕ) (k : Spot) (f : ℕ → ℕ) → Fits f (canvas c) c.rotation (cell_size c (size_of a.kept)) k
    → cell_of c (record_at c a p k) ≡ k.at
unfolding cell_of record_at spot_at cell_at
cell_given c a p k f h =
    let s = size_of a.kept in
    let u : k.turn ≡ h.turn = ap (λ (j : Spot). j.turn) h.is in
    let w : k.at.w ≡ (lying h.turn (cell_size c s)).w = ap (λ (j : Spot). j.at.w) h.is in
    let g : k.at.h ≡ (lying h.turn (cell_size c s)).h = ap (λ (j : Spot). j.at.h) h.is in
    let ew : (lying k.turn s).w + margin c ≡ k.at.w = lying_w c s k.turn ∙ ap (λ (t : Turn). (lying t (cell_size c s)).w) u ∙ sym w in
    let eh : (lying k.turn s).h + margin c ≡ k.at.h = lying_h c s k.turn ∙ ap (λ (t : Turn). (lying t (cell_size c s)).h) u ∙ sym g in
    let ex : k.at.x + c.border - c.border ≡ k.at.x = omega arith in
    let ey : k.at.y + c.border - c.border ≡ k.at.y = omega arith in
    λ i. record { x = ex i; y = ey i; w = ew i; h = eh i }

module _ (c : Config) (rs : List Record) (a : Art) (r : Record) (e : placed c rs a ≡ some r) where
  pub placed-page : r.page.0 ≡ page_for c rs a.whole
  unfolding record_at
  placed-page = ap (λ (q : Record). q.page.0) (placed_at c rs a e).is

  pub placed_cell : cell_of c r ≡ (placed_at c rs a e).spot.at
  placed_cell =
      let u = placed_at c rs a e in
      let p = page_for c rs a.whole in
      ap (cell_of c) u.is ∙ cell_given c a p u.spot (height (cells_on c rs p)) (spot_fits c (cells_on c rs p) (size_of a.kept) u.spot u.found)

  -- the rule puts the image's cell on the page that it takes, and leaves the others
  pub placed-here : cells_on c (rs ++ r ∷ []) (page_for c rs a.whole) ≡ cells_on c rs (page_for c rs a.whole) ++ (placed_at c rs a e).spot.at ∷ []
  placed-here =
      cells-here c rs r (page_for c rs a.whole) placed-page
      ∙ ap (λ (k : Rect). cells_on c rs (page_for c rs a.whole) ++ k ∷ []) placed_cell

  pub placed_other : (p : ℕ) → (p ≡ page_for c rs a.whole → ⊥) → cells_on c (rs ++ r ∷ []) p ≡ cells_on c rs p
  placed_other p n = cells_other c rs r p (λ q. n (sym q ∙ placed-page))

  pub placed-count : page_count (rs ++ r ∷ []) ≡ max (page_count rs) (page_for c rs a.whole + 1)
  placed-count = count_snoc rs r ∙ ap (λ (p : ℕ). max (page_count rs) (p + 1)) placed-page

-- ## every page is filled by the rule

abbrev pub PagesFilled : Config → List Record → Type 0
PagesFilled c rs = (p : ℕ) → Filled (canvas c) c.rotation (cells_on c rs p)

pub none_filled : (c : Config) → PagesFilled c []
unfolding cells_on on_page only
none_filled c p = empty

pub filled_more : (c : Config) (rs : List Record) (a : Art) (r : Record) → placed c rs a ≡ some r → HasPixels (cell_size c (size_of a.kept))
    → PagesFilled c rs → PagesFilled c (rs ++ r ∷ [])
filled_more c rs a r e pixels h p = go (ℕ_discrete p (page_for c rs a.whole))
  where
    u : PlacedAt c rs a r
    u = placed_at c rs a e

    here : ℕ
    here = page_for c rs a.whole

    go : Dec (p ≡ here) → Filled (canvas c) c.rotation (cells_on c (rs ++ r ∷ []) p)
    go (yes q) =
        subst (λ (n : ℕ). Filled (canvas c) c.rotation (cells_on c (rs ++ r ∷ []) n)) (sym q)
        (subst (Filled (canvas c) c.rotation) (sym (placed-here c rs a r e))
        (put (cell_size c (size_of a.kept)) (h here) pixels (spot_fits c (cells_on c rs here) (size_of a.kept) u.spot u.found)))
    go (no n) = subst (Filled (canvas c) c.rotation) (sym (placed_other c rs a r e p n)) (h p)
