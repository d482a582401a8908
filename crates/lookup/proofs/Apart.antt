-- Where e is at most b+p, zones that share a pixel have cells that share one: a zone that begins at 0 keeps its full width, but then its cell
-- begins before e-b, which is at most p. Assumes nothing.
use Prim.Native.Nat.{ℕ, zero, suc, ◌+◌, ◌-◌, ◌*◌, ◌≤◌, ◌<◌, max}
use native.Mathlib.Omega.{arith}
use mathlib.Core.Path.{◌≡◌, subst}
use mathlib.Core.Bool.{Bool, true, false, cond}
use mathlib.Core.List.{List, [], ◌∷◌, map}
use lib.ListN.{length, get_or}
use lib.Dec.{eqb}
use Rattle.geometry.specs.Words.{only}
use Rattle.geometry.specs.Fits.{Apart, AllApart}
use Rattle.geometry.specs.declared.rect.Rect.{Rect}
use Rattle.geometry.proofs.Members.{only_in, map_in}
use Rattle.geometry.proofs.Rects.{point_in, in_point}
use Rattle.records.specs.Layouts.{on_page}
use Rattle.records.specs.declared.texture_packer_config.Config.{Config}
use Rattle.records.specs.declared.frame.Record.{Record}
use Rattle.records.proofs.Rows.{at_in}
use Rattle.rules.specs.Placing.{margin, cell_of, cells_on}
use Rattle.lookup.specs.Zones.{zone}

-- ## one axis: a frame's side of n from f on, and one of m from g on

module _ (b p e f n g m x : ℕ) (few : e ≤ b + p) (f-from : b ≤ f) (g-from : b ≤ g) where
  -- the later cell's first column lies in both cells
  abbrev later : ℕ
  later = max (f - b) (g - b)

  pub first_in : f - e ≤ x → x < f - e + (n + 2 * e) → g - e ≤ x → x < g - e + (m + 2 * e) → (f - b ≤ later) × (later < f - b + (n + (p + 2 * e)))
  first_in h i j k = (omega arith, omega arith)

  pub second_in : f - e ≤ x → x < f - e + (n + 2 * e) → g - e ≤ x → x < g - e + (m + 2 * e) → (g - b ≤ later) × (later < g - b + (m + (p + 2 * e)))
  second_in h i j k = (omega arith, omega arith)

-- ## zones and cells

module _ (c : Config) (r q : Record) (few : c.extrusion ≤ c.border + c.padding)
    (r-left : c.border ≤ r.frame.x) (r_top : c.border ≤ r.frame.y) (q-left : c.border ≤ q.frame.x) (q-top : c.border ≤ q.frame.y) where
  pub zone_apart : Apart (cell_of c r) (cell_of c q) → Apart (zone c r) (zone c q)
  unfolding zone cell_of margin
  zone_apart apart x y h k =
      let u = in_point _ x y h in
      let v = in_point _ x y k in
      let b = c.border in
      let p = c.padding in
      let e = c.extrusion in
      let xr = first_in b p e r.frame.x r.frame.w q.frame.x q.frame.w x few r-left q-left u.left u.right v.left v.right in
      let xq = second_in b p e r.frame.x r.frame.w q.frame.x q.frame.w x few r-left q-left u.left u.right v.left v.right in
      let yr = first_in b p e r.frame.y r.frame.h q.frame.y q.frame.h y few r_top q-top u.top u.bottom v.top v.bottom in
      let yq = second_in b p e r.frame.y r.frame.h q.frame.y q.frame.h y few r_top q-top u.top u.bottom v.top v.bottom in
      apart _ _ (point_in _ _ _ (record { left = xr.0; right = xr.1; top = yr.0; bottom = yr.1 })) (point_in _ _ _ (record { left = xq.0; right = xq.1; top = yq.0; bottom = yq.1 }))

-- ## two of a page

module _ {A : Type 0} (f : A → Rect) (t : A → Bool) (d : A) where
  pub two_apart : (rs : List A) → AllApart (map f (only t rs)) → (i j : ℕ) → i < j → j < length rs → t (get_or rs i d) ≡ true → t (get_or rs j d) ≡ true
      → Apart (f (get_or rs i d)) (f (get_or rs j d))
  unfolding only
  two_apart [] all i j h g a b = absurd (omega arith)
  two_apart (r ∷ rs) all i zero h g a b = absurd (omega arith)
  two_apart (r ∷ rs) all zero (suc j) h g a b = (subst (λ (z : Bool). AllApart (map f (cond z (r ∷ only t rs) (only t rs)))) a all).0 _ (map_in f (only t rs) (only_in t rs (at_in rs d j (omega arith)) b))
  two_apart (r ∷ rs) all (suc i) (suc j) h g a b = two_apart rs (rest (t r) all) i j (omega arith) (omega arith) a b
    where
      rest : (z : Bool) → AllApart (map f (cond z (r ∷ only t rs) (only t rs))) → AllApart (map f (only t rs))
      rest true w = w.1
      rest false w = w

pub cells_two : (c : Config) (rs : List Record) (d : Record) (p : ℕ) → AllApart (cells_on c rs p) → (i j : ℕ) → i < j → j < length rs
    → eqb (get_or rs i d).page.0 p ≡ true → eqb (get_or rs j d).page.0 p ≡ true → Apart (cell_of c (get_or rs i d)) (cell_of c (get_or rs j d))
unfolding cells_on on_page
cells_two c rs d p all i j h g a b = two_apart (cell_of c) (λ r. eqb r.page.0 p) d rs all i j h g a b
