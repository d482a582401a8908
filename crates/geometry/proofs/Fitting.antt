-- What fits: the candidates are exactly that; it lies in the area, apart from the page's cells; a smaller cell fits too; an empty
-- area takes a cell exactly if the sides fit. Nothing here depends on the order of the choice. Assumes nothing.
use Prim.Native.Nat.{ℕ, ◌+◌, ◌-◌, ◌≤◌, ◌<◌}
use native.Mathlib.Omega.{arith}
use mathlib.Core.Path.{◌≡◌, refl, sym, ◌∙◌, ap, subst}
use mathlib.Core.Bool.{Bool, true, false}
use mathlib.Core.List.Memᴰ
use mathlib.Core.List.{List, [], map, Memᴰ}
use mathlib.Core.Logic.{inl, inr}
use lib.Dec.{leb}
use borrow.Author.Tests.{leb-true, le-leb}
use Rattle.geometry.specs.Words.{from}
use Rattle.geometry.specs.Placing.{height, is_start, starts_from, top, lying, cell_at, spot_at, inside, orientations, fitting_at, candidates_from, candidates}
use Rattle.geometry.specs.Fits.{HasPixels, Fits, Apart, Within, SidesFit}
use Rattle.geometry.specs.declared.rect.Rect.{Rect}
use Rattle.geometry.specs.declared.rect.Size.{Size}
use Rattle.geometry.specs.declared.spot.Spot.{Spot}
use Rattle.geometry.specs.declared.spot.Turn.{Turn}
use Rattle.geometry.specs.declared.spot.Turn.TheVariants.{Upright, Turned}
use Rattle.geometry.proofs.Words.{and_left, and_right, both}
use Rattle.geometry.proofs.Rects.{in_point}
use Rattle.geometry.proofs.Members.{only_in, only_mem, map_in, map_mem, flat_mem, flat_in, from_in, from_mem}
use Rattle.geometry.proofs.Heights.{under_height, no_height, top_bound, top_least, start-zero}

-- ## candidates are what fits

inside-across : (area : Size) (k : Rect) → inside area k ≡ true → k.x + k.w ≤ area.w
unfolding inside
inside-across area k e = leb-true _ _ (and_left (leb (k.x + k.w) area.w) (leb (k.y + k.h) area.h) e)

inside-down : (area : Size) (k : Rect) → inside area k ≡ true → k.y + k.h ≤ area.h
unfolding inside
inside-down area k e = leb-true _ _ (and_right (leb (k.x + k.w) area.w) (leb (k.y + k.h) area.h) e)

module _ (f : ℕ → ℕ) (area : Size) (rotation : Bool) (cell : Size) where
  pub candidate_fits : (k : Spot) → Memᴰ k (candidates f area rotation cell) → Fits f area rotation cell k
  unfolding candidates_from fitting_at starts_from spot_at cell_at
  candidate_fits k m =
      let a = flat_mem (fitting_at f area rotation cell) (starts_from f area.w 0) m in
      let s = a.0 in
      let g : Turn → Spot = λ t. spot_at f area.w t (lying t cell) s in
      let b = only_mem (λ (j : Spot). inside area j.at) (map g (orientations rotation)) a.2 in
      let d = map_mem g (orientations rotation) b.0 in
      let e = only_mem (is_start f) (from 0 (area.w - 0)) a.1 in
      let r = from_mem 0 (area.w - 0) e.0 in
      let i = ap (λ (j : Spot). inside area j.at) (sym d.2) ∙ b.1 in
      record {
        start = s;
        turn = d.0;
        allowed = d.1;
        left = omega (arith, r.1);
        started = e.1;
        is = d.2;
        across = inside-across area _ i;
        down = inside-down area _ i;
      }

  pub fits_candidate : (k : Spot) → Fits f area rotation cell k → Memᴰ k (candidates f area rotation cell)
  unfolding candidates_from fitting_at starts_from spot_at cell_at inside
  fits_candidate k h =
      let g : Turn → Spot = λ t. spot_at f area.w t (lying t cell) h.start in
      subst (λ (j : Spot). Memᴰ j (candidates f area rotation cell)) (sym h.is)
      (flat_in (fitting_at f area rotation cell) (starts_from f area.w 0)
      (only_in (is_start f) (from 0 (area.w - 0)) (from_in 0 (area.w - 0) h.start (omega arith) (omega (arith, h.left))) h.started)
      (only_in (λ (j : Spot). inside area j.at) (map g (orientations rotation)) (map_in g (orientations rotation) h.allowed)
      (both (le-leb _ _ h.across) (le-leb _ _ h.down))))

-- ## any fit

pub fits-inside : (f : ℕ → ℕ) (area : Size) (rotation : Bool) (cell : Size) (k : Spot) → Fits f area rotation cell k → Within area k.at
unfolding spot_at cell_at
fits-inside f area rotation cell k h = subst (λ (j : Spot). Within area j.at) (sym h.is) (record { across = h.across; down = h.down })

pub fits_apart : (cells : List Rect) (area : Size) (rotation : Bool) (cell : Size) (k : Spot) → Fits (height cells) area rotation cell k
    → (q : Rect) → Memᴰ q cells → Apart q k.at
unfolding spot_at cell_at
fits_apart cells area rotation cell k h q m x y onq onk =
    let a = in_point q x y onq in
    let b = in_point k.at x y onk in
    let sz = lying h.turn cell in
    let ex = ap (λ (j : Spot). j.at.x) h.is in
    let ew = ap (λ (j : Spot). j.at.w) h.is in
    let ey = ap (λ (j : Spot). j.at.y) h.is in
    let u = under_height cells q x m a.left a.right in
    let v = top_bound (height cells) sz.w h.start x (omega (arith, b.left)) (omega (arith, b.right)) in
    omega (arith, u, v, a.bottom, b.top)

-- a size lies no larger than a larger one
pub record NoLarger (small big : Size) : Type 0 where
  pub w : small.w ≤ big.w
  pub h : small.h ≤ big.h

pub lying_smaller : (t : Turn) (small big : Size) → NoLarger small big → NoLarger (lying t small) (lying t big)
unfolding lying
lying_smaller Upright small big l = l
lying_smaller Turned small big l = record { w = l.h; h = l.w }

pub fits_smaller : (f : ℕ → ℕ) (area : Size) (rotation : Bool) (small big : Size) → NoLarger small big
    → (k : Spot) → Fits f area rotation big k → Fits f area rotation small (spot_at f area.w k.turn (lying k.turn small) k.at.x)
unfolding spot_at cell_at
fits_smaller f area rotation small big le k h =
    let t = h.turn in
    let s = h.start in
    let l = lying_smaller t small big le in
    let y = top_least f (top f s (lying t big).w) (lying t small).w s (λ c a b. top_bound f (lying t big).w s c a (omega arith)) in
    record {
      start = s;
      turn = t;
      allowed = h.allowed;
      left = h.left;
      started = h.started;
      is = ap (λ (j : Spot). spot_at f area.w j.turn (lying j.turn small) j.at.x) h.is;
      across = omega (arith, h.across);
      down = omega (arith, h.down);
    }

-- ## an empty area

flat-top : (s n : ℕ) → top (height []) s n ≡ 0
flat-top s n = let l = top_least (height []) 0 n s (λ c a b. omega (arith, no_height c)) in omega arith

pub upright_allowed : (rotation : Bool) → Memᴰ Upright (orientations rotation)
unfolding orientations
upright_allowed true = Memᴰ.head refl
upright_allowed false = Memᴰ.head refl

turned_allowed : (rotation : Bool) → rotation ≡ true → Memᴰ Turned (orientations rotation)
unfolding orientations
turned_allowed true e = Memᴰ.tail (Memᴰ.head refl)
turned_allowed false e = absurd cc

pub allowed_turned : (rotation : Bool) → Memᴰ Turned (orientations rotation) → rotation ≡ true
unfolding orientations
allowed_turned true m = refl
allowed_turned false m = let e = Memᴰ.eq_of_singleton m in absurd cc

-- a cell at column 0 of an empty area
at_zero : (area : Size) (rotation : Bool) (cell : Size) (t : Turn) → Memᴰ t (orientations rotation) → 0 < (lying t cell).w
    → (lying t cell).w ≤ area.w → (lying t cell).h ≤ area.h → Fits (height []) area rotation cell (spot_at (height []) area.w t (lying t cell) 0)
at_zero area rotation cell t m some a b =
    let z = flat-top 0 (lying t cell).w in
    record {
      start = 0;
      turn = t;
      allowed = m;
      left = omega arith;
      started = start-zero (height []) 0 refl;
      is = refl;
      across = omega arith;
      down = omega arith;
    }

pub sides_fit : (area : Size) (rotation : Bool) (cell : Size) → HasPixels cell → SidesFit area rotation cell
    → (k : Spot) × Fits (height []) area rotation cell k
unfolding lying
sides_fit area rotation cell p (inl h) = (_, at_zero area rotation cell Upright (upright_allowed rotation) p.wide h.0 h.1)
sides_fit area rotation cell p (inr h) = (_, at_zero area rotation cell Turned (turned_allowed rotation h.0) p.tall h.1 h.2)

-- what fits anywhere has sides that fit
pub fit_sides : (f : ℕ → ℕ) (area : Size) (rotation : Bool) (cell : Size) (k : Spot) → Fits f area rotation cell k → SidesFit area rotation cell
unfolding lying
fit_sides f area rotation cell k h = go h.turn h.allowed h.across h.down
  where
    go : (t : Turn) → Memᴰ t (orientations rotation) → h.start + (lying t cell).w ≤ area.w → top f h.start (lying t cell).w + (lying t cell).h ≤ area.h
        → SidesFit area rotation cell
    go Upright m a b = inl (omega arith, omega arith)
    go Turned m a b = inr (allowed_turned rotation m, omega arith, omega arith)

-- ## a spot that fits, told by its cell

pub lying-pixels : (t : Turn) (cell : Size) → HasPixels cell → HasPixels (lying t cell)
unfolding lying
lying-pixels Upright cell p = p
lying-pixels Turned cell p = record { wide = p.tall; tall = p.wide }

pub record Told (f : ℕ → ℕ) (area : Size) (k : Spot) : Type 0 where
  pub left : k.at.x < area.w
  pub started : is_start f k.at.x ≡ true
  pub wide : 0 < k.at.w
  pub tall : 0 < k.at.h
  pub across : k.at.x + k.at.w ≤ area.w
  pub down : k.at.y + k.at.h ≤ area.h
  pub at_top : k.at.y ≡ top f k.at.x k.at.w

pub told : (f : ℕ → ℕ) (area : Size) (rotation : Bool) (cell : Size) (k : Spot) → HasPixels cell → Fits f area rotation cell k → Told f area k
unfolding spot_at cell_at
told f area rotation cell k p h =
    let q = lying-pixels h.turn cell p in
    subst (Told f area) (sym h.is)
    (record { left = h.left; started = h.started; wide = q.wide; tall = q.tall; across = h.across; down = h.down; at_top = refl })
