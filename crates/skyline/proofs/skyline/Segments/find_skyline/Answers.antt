use Prim.Native.Nat.{ℕ, ◌<◌}
use mathlib.Core.Path.{◌≡◌, ap, ◌∙◌, sym, refl}
use Rattle.skyline.proofs.skyline.Segments.find_skyline.Goals.{then-fits_some, else-fits_some}
use lib.ListN.{get_or}
use native.Mathlib.Omega.{arith}
use Rattle.geometry.specs.Choice.{lowest}
use Rattle.geometry.proofs.Choices.{lowest-none}
use Rattle.skyline.proofs.Search.{search_start, search_end, try_none}
use Rattle.skyline.proofs.Skylines.{search_next}
use Rattle.skyline.proofs.skyline.Segments.find_skyline.Goals as goal

pub loop-i-init : goal.loop-i-init
loop-i-init c = (lowest-none _, λ f lv. search_start f _ _ _ _ c.requires.0.first)

pub loop-i-preserved : goal.loop-i-preserved
loop-i-preserved c =
    let lt : c.loop-i.i < c.args.self.n = omega arith in (
      elim c.if-fits_some.branch [
        | then-fits_some w ↦ w.low-is ∙ w.lowest_end-low.ensures ∙ ap (lowest c.args.area.h) (sym w.found-is)
        | else-fits_some w ↦ w.low-is ∙ c.loop-i.invariant.0 ∙ ap (lowest c.args.area.h) (sym w.found-is)
      ],
      λ f lv. search_next _ _ c.requires.0 f lv _ _ _ _ _ c.loop-i.i refl lt
          (elim c.if-fits_some.branch [
            | then-fits_some w ↦ w.found-is ∙ w.try_at-found.ensures f lv
            | else-fits_some w ↦ w.found-is ∙ try_none f _ _ _ _ _ _ c.requires.1 c.loop-i.invariant.0 (sym (c.fits_some.ensures f lv) ∙ w.if-fits_some.false)
          ])
          ∙ c.loop-i.invariant.1 f lv,
    )

pub returns : goal.returns
returns c f lv =
    let e : c.loop-i.i ≡ c.args.self.n = omega arith in
    let at = ap (λ (k : ℕ). get_or c.args.self.xs.now k 0) e ∙ c.requires.0.last in
    sym (search_end f _ _ _ _ _ at) ∙ c.loop-i.invariant.1 f lv
