-- What holds of placing on one page, each under the sentence of document 01 that it carries. The crates above cite these.
-- Assumes nothing.
use Rattle.std.specs.Prelude.{Option, Some, None}
use Prim.Native.Nat.{ℕ, ◌+◌, ◌≤◌}
use mathlib.Core.Path.{◌≡◌, refl, sym, ◌∙◌, ap, subst}
use mathlib.Core.Bool.{Bool, true}
use mathlib.Core.List.Memᴰ
use mathlib.Core.List.{List, [], ◌∷◌, ◌++◌, Memᴰ}
use mathlib.Core.Logic.{◌⊎◌, inl, inr}
use Rattle.geometry.specs.Words.{before}
use Rattle.geometry.specs.Placing.{height, top, lying, cell_at, spot_at, candidates, rank, best_of, spot_for, grown}
use Rattle.geometry.specs.Fits.{HasPixels, Fits, Picks, Apart, Within, Filled, empty, put, AllApart, SidesFit}
use Rattle.geometry.specs.declared.rect.Rect.{Rect}
use Rattle.geometry.specs.declared.rect.Size.{Size}
use Rattle.geometry.specs.declared.spot.Spot.{Spot}
use Rattle.geometry.specs.declared.spot.Turn.{Turn}
use Rattle.geometry.specs.declared.spot.Turn.TheVariants.{Upright, Turned}
use Rattle.geometry.proofs.Ranks.{before_same, before_last, best_picks, best_first}
use Rattle.geometry.proofs.Fitting.{candidate_fits, fits_candidate, fits-inside, fits_apart, NoLarger, fits_smaller, sides_fit, fit_sides, upright_allowed}

-- ## "Among fitting starts and allowed orientations: least bottom row; then narrower segment; then lower start; then upright."

pub rank_picks : Picks (best_of rank None)
rank_picks = best_picks rank

module _ (f : ℕ → ℕ) (area : Size) (rotation : Bool) (cell : Size) where
  -- what is chosen fits
  pub chosen_fits : (k : Spot) → spot_for f area rotation cell ≡ Some k → Fits f area rotation cell k
  unfolding spot_for
  chosen_fits k e = candidate_fits f area rotation cell k (rank_picks.given _ k e)

  -- and nothing that fits ranks before it
  pub chosen_first : (k : Spot) → spot_for f area rotation cell ≡ Some k → (j : Spot) → Fits f area rotation cell j → before (rank j) (rank k) ≡ true → ⊥
  unfolding spot_for
  chosen_first k e j h = best_first rank None (candidates f area rotation cell) k e j (fits_candidate f area rotation cell j h)

  -- ## for any choice that picks a fitting candidate

  module _ (pick : List Spot → Option Spot) (p : Picks pick) where
    pub picked_fits : (k : Spot) → pick (candidates f area rotation cell) ≡ Some k → Fits f area rotation cell k
    picked_fits k e = candidate_fits f area rotation cell k (p.given _ k e)

    pub fits-picked : (k : Spot) → Fits f area rotation cell k → (j : Spot) × (pick (candidates f area rotation cell) ≡ Some j)
    fits-picked k h = p.gives _ k (fits_candidate f area rotation cell k h)

    -- "At start s a cell w by h .. fits if it lies in the canvas": it is placed in the area
    pub picked-inside : (k : Spot) → pick (candidates f area rotation cell) ≡ Some k → Within area k.at
    picked-inside k e = fits-inside f area rotation cell k (picked_fits k e)

    -- a smaller cell has a spot wherever a larger one has
    pub smaller_picked : (small : Size) → NoLarger small cell → (k : Spot) → pick (candidates f area rotation cell) ≡ Some k
        → (j : Spot) × (pick (candidates f area rotation small) ≡ Some j)
    smaller_picked small le k e =
        p.gives _ _ (fits_candidate f area rotation small _ (fits_smaller f area rotation small cell le k (picked_fits k e)))

-- ## "8 trimmed cell fits an empty canvas in no allowed orientation", for any choice that picks a fitting candidate

module _ (area : Size) (rotation : Bool) (cell : Size) (some : HasPixels cell) (pick : List Spot → Option Spot) (p : Picks pick) where
  pub empty_takes : SidesFit area rotation cell → (k : Spot) × (pick (candidates (height []) area rotation cell) ≡ Some k)
  empty_takes s = let h = sides_fit area rotation cell some s in fits-picked (height []) area rotation cell pick p h.0 h.1

  pub takes_only : (k : Spot) → pick (candidates (height []) area rotation cell) ≡ Some k → SidesFit area rotation cell
  takes_only k e = fit_sides (height []) area rotation cell k (picked_fits (height []) area rotation cell pick p k e)

-- no page takes a cell that an empty one does not
pub placed-sides : (f : ℕ → ℕ) (area : Size) (rotation : Bool) (cell : Size) (k : Spot) → spot_for f area rotation cell ≡ Some k → SidesFit area rotation cell
placed-sides f area rotation cell k e = fit_sides f area rotation cell k (chosen_fits f area rotation cell k e)

-- ## "all cells in the canvas, no two on one page sharing a pixel", for any choice that picks a fitting candidate

apart_more : (cells : List Rect) (k : Rect) → AllApart cells → ((q : Rect) → Memᴰ q cells → Apart q k) → AllApart (cells ++ k ∷ [])
apart_more [] k a h = (λ q m. absurd (Memᴰ.not-nil m), tt)
apart_more (c ∷ cs) k a h = (λ q m. go q (Memᴰ.append_cases cs m), apart_more cs k a.1 (λ q m. h q (Memᴰ.tail m)))
  where
    go : (q : Rect) → Memᴰ q cs ⊎ Memᴰ q (k ∷ []) → Apart c q
    go q (inl m) = a.0 q m
    go q (inr m) = subst (Apart c) (sym (Memᴰ.eq_of_singleton m)) (h c (Memᴰ.head refl))

module _ (area : Size) (rotation : Bool) where
  pub page-inside : {cells : List Rect} → Filled area rotation cells → (q : Rect) → Memᴰ q cells → Within area q
  page-inside empty q m = absurd (Memᴰ.not-nil m)
  page-inside (put {cells} {k} cell before some fits) q m = go (Memᴰ.append_cases cells m) (λ n. page-inside before q n)
    where
      go : Memᴰ q cells ⊎ Memᴰ q (k.at ∷ []) → (Memᴰ q cells → Within area q) → Within area q
      go (inl n) rec = rec n
      go (inr n) rec = subst (Within area) (sym (Memᴰ.eq_of_singleton n)) (fits-inside (height cells) area rotation cell k fits)

  pub page_apart : {cells : List Rect} → Filled area rotation cells → AllApart cells
  page_apart empty = tt
  page_apart (put {cells} {k} cell before some fits) = apart_more cells k.at (page_apart before) (fits_apart cells area rotation cell k fits)

  -- the rule fills pages so
  pub rule_fills : {cells : List Rect} → Filled area rotation cells → (cell : Size) → HasPixels cell
      → Filled area rotation (grown cells (spot_for (height cells) area rotation cell))
  unfolding grown
  rule_fills {cells} before cell some = go (spot_for (height cells) area rotation cell) refl
    where
      go : (o : Option Spot) → spot_for (height cells) area rotation cell ≡ o → Filled area rotation (grown cells o)
      go None e = before
      go (Some k) e = put cell before some (chosen_fits (height cells) area rotation cell k e)

-- ## "Turned is reported only if the placed width differs from the cell's own."

module _ (f : ℕ → ℕ) (area : Size) (rotation : Bool) (cell : Size) (k : Spot) (chosen : spot_for f area rotation cell ≡ Some k) where
  turn_is : k.turn ≡ (chosen_fits f area rotation cell k chosen).turn
  unfolding spot_at cell_at
  turn_is = ap (λ (j : Spot). j.turn) (chosen_fits f area rotation cell k chosen).is

  width_is : k.at.w ≡ (lying k.turn cell).w
  unfolding spot_at cell_at
  width_is =
      let h = chosen_fits f area rotation cell k chosen in
      ap (λ (j : Spot). j.at.w) h.is ∙ ap (λ (t : Turn). (lying t cell).w) (sym turn_is)

  -- a square is never turned
  pub square_upright : cell.w ≡ cell.h → k.turn ≡ Upright
  unfolding spot_at cell_at lying rank
  square_upright q = go h.turn refl
    where
      h : Fits f area rotation cell k
      h = chosen_fits f area rotation cell k chosen

      same : lying Turned cell ≡ cell
      same = λ i. record { w = sym q i; h = q i }

      go : (t : Turn) → h.turn ≡ t → k.turn ≡ Upright
      go Upright e = turn_is ∙ e
      go Turned e =
          let lies : lying h.turn cell ≡ cell = ap (λ (t : Turn). lying t cell) e ∙ same in
          let is : k ≡ spot_at f area.w Turned cell h.start = h.is ∙ ap (λ (t : Turn). spot_at f area.w t (lying t cell) h.start) e
          ∙ ap (λ (s : Size). spot_at f area.w Turned s h.start) same in
          let up : Fits f area rotation cell (spot_at f area.w Upright cell h.start) = record {
            start = h.start;
            turn = Upright;
            allowed = upright_allowed rotation;
            left = h.left;
            started = h.started;
            is = refl;
            across = subst (λ (s : Size). h.start + s.w ≤ area.w) lies h.across;
            down = subst (λ (s : Size). top f h.start s.w + s.h ≤ area.h) lies h.down;
          } in
          absurd (chosen_first f area rotation cell k chosen _ up
          (ap (λ (j : Spot). before (rank (spot_at f area.w Upright cell h.start)) (rank j)) is
          ∙ before_same _ _ _ _ refl ∙ before_same _ _ _ _ refl ∙ before_same _ _ _ _ refl ∙ before_last 0 1))

  pub turned_differs : k.turn ≡ Turned → k.at.w ≡ cell.w → ⊥
  unfolding lying
  turned_differs t e =
      let w : cell.h ≡ cell.w = sym (width_is ∙ ap (λ (u : Turn). (lying u cell).w) t) ∙ e in
      let u = square_upright (sym w) in
      cc

  pub upright_same : k.turn ≡ Upright → k.at.w ≡ cell.w
  unfolding lying
  upright_same t = width_is ∙ ap (λ (u : Turn). (lying u cell).w) t
