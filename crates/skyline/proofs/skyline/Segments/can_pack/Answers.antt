use Rattle.std.specs.Prelude.{None}
use Prim.Native.Nat.{ℕ, ◌+◌, ◌<◌}
use mathlib.Core.Path.{◌≡◌, ap, ◌∙◌, sym, refl}
use lib.ListN.{get_or}
use native.Mathlib.Omega.{arith}
use Rattle.geometry.specs.Placing.{rank, fitting_at, best_of, candidates_from, spot_for, is_found}
use Rattle.skyline.specs.Skyline.{lent, Level}
use Rattle.skyline.proofs.Search.{search_start, search_end, start_decides, start-leaves}
use Rattle.skyline.proofs.Skylines.{search_next}
use Rattle.skyline.proofs.skyline.Segments.can_pack.Goals.{After-fits_some}
use Rattle.skyline.proofs.skyline.Segments.can_pack.Goals as goal

-- the starts from the next segment on decide, after what fits at this one
tried : (c : After-fits_some) (f : ℕ → ℕ) → let a = c.args in
    Level f (lent a.self)
    → best_of rank (best_of rank None (fitting_at f a.area a.rotation a.cell (get_or a.self.xs.now c.loop-i.i 0)))
    (candidates_from f a.area a.rotation a.cell (get_or a.self.xs.now (c.loop-i.i + 1) 0))
    ≡ spot_for f a.area a.rotation a.cell
tried c f lv =
    let i = c.loop-i.i in
    let lt : i < c.args.self.n = omega arith in
    search_next _ _ c.requires.0 f lv _ _ _ _ _ i refl lt refl ∙ c.loop-i.invariant f lv

pub loop-i-init : goal.loop-i-init
loop-i-init c f lv = search_start f _ _ _ _ c.requires.0.first

pub returns-then-fits_some : goal.returns-then-fits_some
returns-then-fits_some c f lv =
    start_decides f _ _ _ _ _ (sym c.if-fits_some.true ∙ c.fits_some.ensures f lv) ∙ ap is_found (tried (goal.at.returns-then-fits_some c).After-fits_some f lv)

pub loop-i-preserved : goal.loop-i-preserved
loop-i-preserved c f lv =
    start-leaves f _ _ _ _ _ (sym c.if-fits_some.false ∙ c.fits_some.ensures f lv) ∙ tried (goal.at.loop-i-preserved c).After-fits_some f lv

pub returns : goal.returns
returns c f lv =
    let e : c.loop-i.i ≡ c.args.self.n = omega arith in
    let at = ap (λ (k : ℕ). get_or c.args.self.xs.now k 0) e ∙ c.requires.0.last in
    ap is_found (sym (search_end f _ _ _ _ _ at) ∙ c.loop-i.invariant f lv)
