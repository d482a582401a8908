-- A skyline that stands for some heights: its segments are the starts and segments of the rule. Assumes nothing.
use Rattle.std.specs.Prelude.{Option}
use Rattle.geometry.specs.declared.spot.Spot.{Spot}
use Prim.Native.Nat.{ℕ, zero, suc, ◌+◌, ◌-◌, ◌≤◌, ◌<◌, max, min}
use mathlib.Core.Path.{◌≡◌, sym, ap, ◌∙◌}
use mathlib.Core.Bool.{Bool, true, false}
use mathlib.Core.List.{List, []}
use mathlib.Core.Logic.{◌⊎◌, inl, inr}
use native.Mathlib.Nat.{eq-or-lt_of_le}
use native.Mathlib.Omega.{arith}
use native.Mathlib.Decide.{ℕ_discrete, dec_lt}
use lib.ListN.{length, get_or, set, length-set}
use lib.Seq.{get_or-set_same, get_or-set_other}
use Rattle.geometry.specs.declared.rect.Size.{Size}
use Rattle.geometry.specs.Placing.{is_start, segment, top, fitting_at, candidates_from, rank, best_of}
use Rattle.skyline.specs.Skyline.{Outline, outline, Shape, Level, Starts, Holds}
use Rattle.geometry.proofs.Heights.{no_height, top-level, top_bound, start-zero, start_yes, start_no, segment-is}
use Rattle.skyline.proofs.Search.{search_segment}

-- ## the skyline

module _ (W : ℕ) (sky : Outline) (sh : Shape W sky) where
  -- a start left of the edge is one of the first n
  pub before_edge : (j : ℕ) → j ≤ sky.n → get_or sky.xs j 0 < W → j < sky.n
  before_edge j l lt = go (eq-or-lt_of_le l)
    where
      go : (j ≡ sky.n) ⊎ (j < sky.n) → j < sky.n
      go (inl e) = let q = ap (λ (k : ℕ). get_or sky.xs k 0) e in let z = sh.last in omega arith
      go (inr r) = r

  to_edge : (m i : ℕ) → i + m ≡ sky.n → get_or sky.xs i 0 ≤ W
  to_edge zero i e = let q = ap (λ (k : ℕ). get_or sky.xs k 0) e in let z = sh.last in let r : get_or sky.xs (i + 0) 0 ≡ get_or sky.xs i 0 = ap (λ (k : ℕ). get_or sky.xs k 0) (omega arith) in omega arith
  to_edge (suc m) i e = let ih = to_edge m (i + 1) (omega arith) in let r = sh.rises i (omega arith) in omega arith

  -- a segment starts and ends no further than the edge
  pub in_area : (i : ℕ) → i ≤ sky.n → get_or sky.xs i 0 ≤ W
  in_area i l = to_edge (sky.n - i) i (omega arith)

  module _ (f : ℕ → ℕ) (lv : Level f sky) where
    pub seg_start : (i : ℕ) → i < sky.n → is_start f (get_or sky.xs i 0) ≡ true
    seg_start zero l = start-zero f (get_or sky.xs 0 0) sh.first
    seg_start (suc k) l =
        let eq : k + 1 ≡ suc k = omega arith in
        let at : get_or sky.xs (k + 1) 0 ≡ get_or sky.xs (suc k) 0 = ap (λ (j : ℕ). get_or sky.xs j 0) eq in
        let up = sh.rises k (omega arith) in
        let up2 = sh.rises (suc k) l in
        let hi : f (get_or sky.xs (suc k) 0) ≡ get_or sky.ys (suc k) 0 = lv (suc k) (get_or sky.xs (suc k) 0) l (omega arith) up2 in
        let lo : f (get_or sky.xs (suc k) 0 - 1) ≡ get_or sky.ys k 0 = lv k (get_or sky.xs (suc k) 0 - 1) (omega arith) (omega arith) (omega arith) in
        let ne = sh.steps k (omega arith) in
        let yat : get_or sky.ys (k + 1) 0 ≡ get_or sky.ys (suc k) 0 = ap (λ (j : ℕ). get_or sky.ys j 0) eq in
        start_yes f (get_or sky.xs (suc k) 0) (get_or sky.xs (suc k) 0 - 1) (omega arith) (λ q. ne (sym lo ∙ sym q ∙ hi ∙ sym yat))

    pub seg_inner : (i c : ℕ) → i < sky.n → get_or sky.xs i 0 < c → c < get_or sky.xs (i + 1) 0 → is_start f c ≡ false
    seg_inner i c l a b = start_no f c (c - 1) (omega arith) (lv i c l (omega arith) b ∙ sym (lv i (c - 1) l (omega arith) (omega arith)))

    pub seg_width : (i : ℕ) → i < sky.n → segment f W (get_or sky.xs i 0) ≡ get_or sky.xs (i + 1) 0 - get_or sky.xs i 0
    seg_width i l =
        let up = sh.rises i l in
        let edge = in_area (i + 1) (omega arith) in
        segment-is f W (get_or sky.xs i 0) (get_or sky.xs (i + 1) 0) up edge (λ c p q. seg_inner i c l p q)
        (λ lt. seg_start (i + 1) (before_edge (i + 1) (omega arith) lt))

    -- the greatest height from s up to segment j's end, or e, from that up to its start
    pub top-step : (s j e : ℕ) → j < sky.n → s ≤ get_or sky.xs j 0 → get_or sky.xs j 0 < e
        → top f s (min (get_or sky.xs (j + 1) 0) e - s) ≡ max (top f s (min (get_or sky.xs j 0) e - s)) (get_or sky.ys j 0)
    top-step s j e l sj lt =
        let up = sh.rises j l in
        let more = top-level f s (get_or sky.xs j 0) (min (get_or sky.xs (j + 1) 0) e) (get_or sky.ys j 0) sj (omega arith) (λ c a b. lv j c l a (omega arith)) in
        let m : min (get_or sky.xs j 0) e ≡ get_or sky.xs j 0 = omega arith in
        let same = ap (λ (k : ℕ). top f s (k - s)) m in
        omega arith

    -- a segment below the cell
    pub top_over : (s j e : ℕ) → j < sky.n → s ≤ get_or sky.xs j 0 → get_or sky.xs j 0 < e → get_or sky.ys j 0 ≤ top f s (e - s)
    top_over s j e l sj lt =
        let up = sh.rises j l in
        let v = lv j (get_or sky.xs j 0) l (omega arith) up in
        let b = top_bound f (e - s) s (get_or sky.xs j 0) sj (omega arith) in
        omega arith

    pub search_next : (area : Size) (rotation : Bool) (cell : Size) (o p : Option Spot) (i : ℕ) → area.w ≡ W → i < sky.n
        → p ≡ best_of rank o (fitting_at f area rotation cell (get_or sky.xs i 0))
        → best_of rank p (candidates_from f area rotation cell (get_or sky.xs (i + 1) 0)) ≡ best_of rank o (candidates_from f area rotation cell (get_or sky.xs i 0))
    search_next area rotation cell o p i w l e =
        let edge = in_area (i + 1) (omega arith) in
        search_segment f area rotation cell o p (get_or sky.xs i 0) (get_or sky.xs (i + 1) 0) (sh.rises i l) (omega arith) (seg_start i l)
        (λ c p q. seg_inner i c l p q) e

-- ## a start is the first column of a segment

module _ (W : ℕ) (sky : Outline) (sh : Shape W sky) where
  -- the segment that a column lies in
  locate : (m i c : ℕ) → i + m ≡ sky.n → get_or sky.xs i 0 ≤ c → c < W → (j : ℕ) × (j < sky.n) × (get_or sky.xs j 0 ≤ c) × (c < get_or sky.xs (j + 1) 0)
  locate zero i c q l r = let e : i ≡ sky.n = omega arith in let z = ap (λ (j : ℕ). get_or sky.xs j 0) e in let v = sh.last in absurd (omega arith)
  locate (suc m) i c q l r = go (dec_lt c (get_or sky.xs (i + 1) 0)) (λ h. locate m (i + 1) c (omega arith) h r)
    where
      go : Dec (c < get_or sky.xs (i + 1) 0) → (get_or sky.xs (i + 1) 0 ≤ c → (j : ℕ) × (j < sky.n) × (get_or sky.xs j 0 ≤ c) × (c < get_or sky.xs (j + 1) 0))
          → (j : ℕ) × (j < sky.n) × (get_or sky.xs j 0 ≤ c) × (c < get_or sky.xs (j + 1) 0)
      go (yes h) k = (i, omega arith, l, h)
      go (no h) k = k (omega arith)

  pub start_seg : (f : ℕ → ℕ) → Level f sky → (c : ℕ) → c < W → is_start f c ≡ true → Starts sky c
  start_seg f lv c l st = go (ℕ_discrete (get_or sky.xs at.0 0) c)
    where
      at : (j : ℕ) × (j < sky.n) × (get_or sky.xs j 0 ≤ c) × (c < get_or sky.xs (j + 1) 0)
      at = let z = sh.first in locate sky.n 0 c (omega arith) (omega arith) l

      go : Dec (get_or sky.xs at.0 0 ≡ c) → Starts sky c
      go (yes e) = (at.0, at.1, e)
      go (no e) =
          let a = at.2 in
          let h = seg_inner W sky sh f lv at.0 c at.1 (omega arith) at.3 in
          let t : true ≡ false = sym st ∙ h in
          let z : ◌≡◌ {A = ℕ} 0 1 = cc in
          absurd (omega arith)

-- all segments below a cell passed
pub top_passed : (f : ℕ → ℕ) (s x e : ℕ) → e ≤ x → top f s (min x e - s) ≡ top f s (e - s)
top_passed f s x e le = let m : min x e ≡ e = omega arith in ap (λ (k : ℕ). top f s (k - s)) m

-- ## an empty page: one segment, of height 0

pub empty_holds : (W : ℕ) (xs ys : List ℕ) → 0 < W → 1 < length xs → 0 < length ys → Holds W [] (outline (set (set xs 0 0) 1 W) (set ys 0 0) 1)
empty_holds W xs ys pos lx ly = record {
  shape = record {
    room-x = omega (arith, length-set xs 0 0, length-set (set xs 0 0) 1 W);
    room-y = omega (arith, length-set ys 0 0);
    first = x0;
    last = x1;
    rises = λ i l.
        let e : i ≡ 0 = omega arith in
        let a = ap (λ (j : ℕ). get_or (set (set xs 0 0) 1 W) j 0) e in
        let b = ap (λ (j : ℕ). get_or (set (set xs 0 0) 1 W) (j + 1) 0) e in
        omega (arith, x0, x1);
    steps = λ i l. absurd (omega arith);
  };
  level = λ i c l a b. let e : 0 ≡ i = omega arith in no_height c ∙ sym y0 ∙ ap (λ (j : ℕ). get_or (set ys 0 0) j 0) e;
  few = omega arith;
}
  where
    x0 : get_or (set (set xs 0 0) 1 W) 0 0 ≡ 0
    x0 = get_or-set_other (set xs 0 0) 1 0 W 0 (λ q. omega arith) ∙ get_or-set_same xs 0 0 0 (omega arith)

    x1 : get_or (set (set xs 0 0) 1 W) 1 0 ≡ W
    x1 = get_or-set_same (set xs 0 0) 1 W 0 (omega (arith, length-set xs 0 0))

    y0 : get_or (set ys 0 0) 0 0 ≡ 0
    y0 = get_or-set_same ys 0 0 0 ly
