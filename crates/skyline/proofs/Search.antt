-- The search, as the code goes about it: two answers compared, one start tried, one segment after the other. Assumes nothing.
use Rattle.std.specs.Prelude.{Option, Some, None}
use Prim.Native.Nat.{ℕ, ◌+◌, ◌-◌, ◌≤◌, ◌<◌, min}
use mathlib.Core.Path.{◌≡◌, refl, sym, ap, ◌∙◌}
use mathlib.Core.Bool.{Bool, true, false, cond, ◌&&◌, ◌||◌}
use mathlib.Core.List.{List, [], ◌∷◌, map}
use mathlib.Core.Logic.{inl, inr}
use native.Mathlib.Omega.{arith}
use native.Mathlib.Decide.{dec_le}
use lib.Dec.{leb}
use borrow.Author.Tests.{le-leb, lt-leb, le-ltb}
use Rattle.geometry.specs.declared.rect.Size.{Size}
use Rattle.geometry.specs.declared.spot.Spot.{Spot}
use Rattle.geometry.specs.declared.spot.Turn.{Turn}
use Rattle.geometry.specs.declared.spot.Turn.TheVariants.{Upright, Turned}
use Rattle.geometry.specs.Words.{any, only, flat}
use Rattle.geometry.specs.Placing.{is_start, starts_from, segment, top, lying, cell_at, spot_at, inside, orientations, fitting_at, candidates_from, rank, better, best_of, spot_for, is_found}
use Rattle.geometry.specs.Fits.{HasPixels}
use Rattle.geometry.specs.Choice.{choice, lowest}
use Rattle.skyline.specs.Skyline.{fitted, TooSmall, Limits}
use Rattle.geometry.proofs.Words.{and_no_left, and_no_right, or_no_left, or_no_right}
use Rattle.geometry.proofs.Ranks.{best_append, best_some}
use Rattle.geometry.proofs.Choices.{rank-bottom}
use Rattle.geometry.proofs.Heights.{starts_run, starts_end}
use Rattle.geometry.proofs.Fitting.{lying-pixels}

leb-min : (x a b : ℕ) → x ≤ b → leb x (min a b) ≡ leb x a
leb-min x a b l = go (dec_le x a)
  where
    go : Dec (x ≤ a) → leb x (min a b) ≡ leb x a
    go (yes h) = le-leb x (min a b) (omega arith) ∙ sym (le-leb x a h)
    go (no h) = lt-leb x (min a b) (omega arith) ∙ sym (lt-leb x a (omega arith))

-- a cell that ends below what was found is no better: it need not fit further down
pub choice-lowest : (area : Size) (o : Option Spot) (k : Spot) → 0 < k.at.h → k.bottom ≡ k.at.y + k.at.h - 1
    → choice o (fitted (record { w = area.w; h = lowest area.h o }) k) ≡ choice o (fitted area k)
unfolding lowest fitted inside choice better
choice-lowest area None k tall e = refl
choice-lowest area (Some j) k tall e = go (dec_le (k.at.y + k.at.h) (j.bottom + 1))
  where
    across : Bool
    across = leb (k.at.x + k.at.w) area.w

    later : (b : Bool) → (j.bottom < k.bottom) → choice (Some j) (cond b (Some k) None) ≡ Some j
    later true l =
        let d : (k.bottom ≡ j.bottom → ⊥) = λ q. omega arith in
        rw (sym (rank-bottom k j d), le-ltb k.bottom j.bottom (omega arith))
    later false l = refl

    go : Dec (k.at.y + k.at.h ≤ j.bottom + 1)
        → choice (Some j) (cond (across && leb (k.at.y + k.at.h) (min area.h (j.bottom + 1))) (Some k) None)
        ≡ choice (Some j) (cond (across && leb (k.at.y + k.at.h) area.h) (Some k) None)
    go (yes l) = ap (λ (b : Bool). choice (Some j) (cond (across && b) (Some k) None)) (leb-min (k.at.y + k.at.h) area.h (j.bottom + 1) l)
    go (no h) =
        let low = lt-leb (k.at.y + k.at.h) (min area.h (j.bottom + 1)) (omega arith) in
        ap (λ (b : Bool). choice (Some j) (cond b (Some k) None)) (and_no_right across _ low)
        ∙ sym (later (across && leb (k.at.y + k.at.h) area.h) (omega arith))

-- what was found stays found
stays_found : (o : Option Spot) (l : List Spot) → is_found o ≡ true → is_found (best_of rank o l) ≡ true
stays_found None l e = let z : ◌≡◌ {A = ℕ} 0 1 = cc in absurd (omega arith)
stays_found (Some k) l e = ap is_found (best_some rank k l).1

-- what found nothing leaves the choice to the rest
not_found : (o : Option Spot) (l : List Spot) → is_found o ≡ false → best_of rank o l ≡ best_of rank None l
not_found None l e = refl
not_found (Some k) l e = let z : ◌≡◌ {A = ℕ} 0 1 = cc in absurd (omega arith)

-- the best of what fits, one more tried
best_one : (area : Size) (o : Option Spot) (k : Spot) (l : List Spot)
    → best_of rank o (only (λ (j : Spot). inside area j.at) (k ∷ l)) ≡ best_of rank (choice o (fitted area k)) (only (λ (j : Spot). inside area j.at) l)
unfolding best_of only choice fitted
best_one area o k l = go (inside area k.at)
  where
    go : (b : Bool) → best_of rank o (cond b (k ∷ only (λ (j : Spot). inside area j.at) l) (only (λ (j : Spot). inside area j.at) l))
        ≡ best_of rank (choice o (cond b (Some k) None)) (only (λ (j : Spot). inside area j.at) l)
    go true = refl
    go false = refl

best_end : (area : Size) (o : Option Spot) → best_of rank o (only (λ (j : Spot). inside area j.at) []) ≡ o
unfolding best_of only
best_end area o = refl

-- ## one start, in some orientations

unfitted : (area : Size) (k : Spot) → inside area k.at ≡ false → fitted area k ≡ None
unfolding fitted
unfitted area k e = rw e

-- there is a best exactly if one fits
any_found : (area : Size) (g : Turn → Spot) (ts : List Turn)
    → is_found (best_of rank None (only (λ (k : Spot). inside area k.at) (map g ts))) ≡ any (λ t. inside area (g t).at) ts
unfolding any only best_of better
any_found area g [] = refl
any_found area g (t ∷ ts) = go (inside area (g t).at) (any_found area g ts)
  where
    rest : List Spot
    rest = only (λ (k : Spot). inside area k.at) (map g ts)

    go : (b : Bool) → is_found (best_of rank None rest) ≡ any (λ u. inside area (g u).at) ts
        → is_found (best_of rank None (cond b (g t ∷ rest) rest)) ≡ (b || any (λ u. inside area (g u).at) ts)
    go true ih = stays_found (Some (g t)) rest refl
    go false ih = ih

-- the area as far down as what was found leaves it
abbrev cut : Size → ℕ → Size
cut area l = record { w = area.w; h = l }

-- none that fits there is no better
none-better : (area : Size) (o : Option Spot) (l : ℕ) (g : Turn → Spot) (ts : List Turn) → l ≡ lowest area.h o
    → ((t : Turn) → 0 < (g t).at.h) → ((t : Turn) → (g t).bottom ≡ (g t).at.y + (g t).at.h - 1)
    → any (λ t. inside (cut area l) (g t).at) ts ≡ false → best_of rank o (only (λ (k : Spot). inside area k.at) (map g ts)) ≡ o
unfolding any choice
none-better area o l g [] el tall ends e = best_end area o
none-better area o l g (t ∷ ts) el tall ends e =
    let out = or_no_left (inside (cut area l) (g t).at) (any (λ u. inside (cut area l) (g u).at) ts) e in
    let same : choice o (fitted area (g t)) ≡ o =
    sym (choice-lowest area o (g t) (tall t) (ends t)) ∙ ap (λ (m : ℕ). choice o (fitted (cut area m) (g t))) (sym el)
    ∙ ap (choice o) (unfitted (cut area l) (g t) out) in
    best_one area o (g t) (map g ts)
    ∙ ap (λ (q : Option Spot). best_of rank q (only (λ (k : Spot). inside area k.at) (map g ts))) same
    ∙ none-better area o l g ts el tall ends (or_no_right (inside (cut area l) (g t).at) (any (λ u. inside (cut area l) (g u).at) ts) e)

module _ (f : ℕ → ℕ) (area : Size) (rotation : Bool) (cell : Size) (s : ℕ) where
  pub try_upright : (o a p : Option Spot) → rotation ≡ false → a ≡ fitted area (spot_at f area.w Upright cell s) → p ≡ choice o a
      → p ≡ best_of rank o (fitting_at f area rotation cell s)
  unfolding fitting_at orientations lying
  try_upright o a p t ea ep =
      let up = spot_at f area.w Upright cell s in
      rw t (ep ∙ ap (choice o) ea ∙ sym (best_end area (choice o (fitted area up))) ∙ sym (best_one area o up []))

  pub try_turned : (o a p b r : Option Spot) → rotation ≡ true → a ≡ fitted area (spot_at f area.w Upright cell s) → p ≡ choice o a
      → b ≡ fitted area (spot_at f area.w Turned (lying Turned cell) s) → r ≡ choice p b
      → r ≡ best_of rank o (fitting_at f area rotation cell s)
  unfolding fitting_at orientations lying
  try_turned o a p b r t ea ep eb er =
      let up = spot_at f area.w Upright cell s in
      let side = spot_at f area.w Turned (lying Turned cell) s in
      rw t (er ∙ ap (choice p) eb ∙ ap (λ (q : Option Spot). choice q (fitted area side)) (ep ∙ ap (choice o) ea)
      ∙ sym (best_end area (choice (choice o (fitted area up)) (fitted area side)))
      ∙ sym (best_one area (choice o (fitted area up)) side [])
      ∙ sym (best_one area o up (side ∷ [])))

  -- a start with nothing that ends as far up as what was found changes nothing
  pub try_none : (o : Option Spot) (l : ℕ) → HasPixels cell → l ≡ lowest area.h o
      → any (λ t. inside (cut area l) (cell_at f (lying t cell) s)) (orientations rotation) ≡ false → o ≡ best_of rank o (fitting_at f area rotation cell s)
  unfolding fitting_at spot_at cell_at
  try_none o l some el e =
      sym (none-better area o l (λ t. spot_at f area.w t (lying t cell) s) (orientations rotation) el (λ t. (lying-pixels t cell some).tall) (λ t. refl) e)

  start-found : is_found (best_of rank None (fitting_at f area rotation cell s)) ≡ any (λ t. inside area (cell_at f (lying t cell) s)) (orientations rotation)
  unfolding fitting_at spot_at
  start-found = any_found area (λ t. spot_at f area.w t (lying t cell) s) (orientations rotation)

  -- the first start where the cell fits decides whether there is a spot
  pub start_decides : (l : List Spot) → true ≡ any (λ t. inside area (cell_at f (lying t cell) s)) (orientations rotation)
      → true ≡ is_found (best_of rank (best_of rank None (fitting_at f area rotation cell s)) l)
  start_decides l e = sym (stays_found _ l (start-found ∙ sym e))

  pub start-leaves : (l : List Spot) → false ≡ any (λ t. inside area (cell_at f (lying t cell) s)) (orientations rotation)
      → best_of rank None l ≡ best_of rank (best_of rank None (fitting_at f area rotation cell s)) l
  start-leaves l e = sym (not_found _ l (start-found ∙ sym e))

-- one of the allowed orientations passes a test
module _ (p : Turn → Bool) (rotation : Bool) where
  pub any_upright : true ≡ p Upright → true ≡ any p (orientations rotation)
  unfolding any orientations
  any_upright e = go rotation
    where
      go : (r : Bool) → true ≡ any p (cond r (Upright ∷ Turned ∷ []) (Upright ∷ []))
      go true = ap (λ (b : Bool). b || (p Turned || false)) e
      go false = ap (λ (b : Bool). b || false) e

  pub any_turned : rotation ≡ true → false ≡ p Upright → p Turned ≡ any p (orientations rotation)
  unfolding any orientations
  any_turned t e = rw (t, sym e) (go (p Turned))
    where
      go : (b : Bool) → b ≡ (b || false)
      go true = refl
      go false = refl

  pub any_neither : rotation ≡ false → false ≡ p Upright → false ≡ any p (orientations rotation)
  unfolding any orientations
  any_neither t e = rw (t, sym e)

-- ## one start, one orientation

module _ (f : ℕ → ℕ) (area : Size) (size : Size) (s : ℕ) where
  outside-wide : area.w < s + size.w → false ≡ inside area (cell_at f size s)
  unfolding inside cell_at
  outside-wide l = sym (and_no_left (leb (s + size.w) area.w) (leb (top f s size.w + size.h) area.h) (lt-leb _ _ l))

  outside_low : area.h < size.h → false ≡ inside area (cell_at f size s)
  unfolding inside cell_at
  outside_low l = sym (and_no_right (leb (s + size.w) area.w) (leb (top f s size.w + size.h) area.h) (lt-leb (top f s size.w + size.h) area.h (omega arith)))

  pub outside : TooSmall area size s → false ≡ inside area (cell_at f size s)
  outside (inl l) = outside-wide l
  outside (inr l) = outside_low l

  pub not-put : (turn : Turn) → false ≡ inside area (cell_at f size s) → None ≡ fitted area (spot_at f area.w turn size s)
  unfolding spot_at
  not-put turn e = sym (unfitted area (spot_at f area.w turn size s) (sym e))

  module _ (end most : ℕ) (li : Limits area size s end most) where
    as_wide : end - s ≡ size.w
    as_wide = omega (arith, li.across)

    pub inside_under : leb (top f s (end - s)) most ≡ inside area (cell_at f size s)
    unfolding inside cell_at
    inside_under =
        ap (λ (j : ℕ). leb (top f s j) most) as_wide
        ∙ shift (top f s size.w)
        ∙ sym (ap (λ (b : Bool). b && leb (top f s size.w + size.h) area.h) (le-leb (s + size.w) area.w (omega (arith, li.across, li.in_area))))
      where
        shift : (x : ℕ) → leb x most ≡ leb (x + size.h) area.h
        shift x = go (dec_le x most)
          where
            go : Dec (x ≤ most) → leb x most ≡ leb (x + size.h) area.h
            go (yes q) = le-leb x most q ∙ sym (le-leb (x + size.h) area.h (omega (arith, li.down)))
            go (no q) = lt-leb x most (omega arith) ∙ sym (lt-leb (x + size.h) area.h (omega (arith, li.down)))

    pub put_low : (turn : Turn) (y : ℕ) → y ≡ top f s (end - s) → most < y → None ≡ fitted area (spot_at f area.w turn size s)
    put_low turn y p e = not-put turn (sym (lt-leb (top f s (end - s)) most (omega arith)) ∙ inside_under)

    pub put-here : (turn : Turn) (y b g : ℕ) → y ≡ top f s (end - s) → y ≤ most → b ≡ y + size.h - 1 → segment f area.w s ≡ g
        → Some (record { at = record { x = s; y = y; w = size.w; h = size.h }; bottom = b; segment = g; turn = turn }) ≡ fitted area (spot_at f area.w turn size s)
    unfolding fitted inside spot_at cell_at
    put-here turn y b g p m u r =
        let q : y ≡ top f s size.w = p ∙ ap (top f s) as_wide in
        let l : s + size.w ≤ area.w = omega (arith, li.across, li.in_area) in
        let t : top f s size.w + size.h ≤ area.h = omega (arith, li.down) in
        let v : b ≡ top f s size.w + size.h - 1 = omega arith in
        simp (le-leb _ _ l, le-leb _ _ t) (λ i. Some (record { at = record { x = s; y = q i; w = size.w; h = size.h }; bottom = v i; segment = sym r i; turn = turn }))

-- ## the search, a segment at a time

module _ (f : ℕ → ℕ) (area : Size) (rotation : Bool) (cell : Size) where
  pub search_start : (a : ℕ) → a ≡ 0 → best_of rank None (candidates_from f area rotation cell a) ≡ spot_for f area rotation cell
  unfolding spot_for
  search_start a e = ap (λ (j : ℕ). best_of rank None (candidates_from f area rotation cell j)) e

  -- a segment: its start is tried, and its other columns are not
  pub search_segment : (o p : Option Spot) (a b : ℕ) → a < b → b ≤ area.w → is_start f a ≡ true → ((c : ℕ) → a < c → c < b → is_start f c ≡ false)
      → p ≡ best_of rank o (fitting_at f area rotation cell a)
      → best_of rank p (candidates_from f area rotation cell b) ≡ best_of rank o (candidates_from f area rotation cell a)
  unfolding candidates_from flat
  search_segment o p a b l m y h e =
      ap (λ (q : Option Spot). best_of rank q (flat (fitting_at f area rotation cell) (starts_from f area.w b))) e
      ∙ sym (ap (λ (ss : List ℕ). best_of rank o (flat (fitting_at f area rotation cell) ss)) (starts_run f area.w a b l m y h)
      ∙ best_append rank o (fitting_at f area rotation cell a) (flat (fitting_at f area rotation cell) (starts_from f area.w b)))

  pub search_end : (o : Option Spot) (a : ℕ) → a ≡ area.w → best_of rank o (candidates_from f area rotation cell a) ≡ o
  unfolding candidates_from flat best_of
  search_end o a e = ap (λ (ss : List ℕ). best_of rank o (flat (fitting_at f area rotation cell) ss)) (starts_end f area.w a e)
