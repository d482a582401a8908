use native.Mathlib.Omega.{arith}
use Rattle.records.proofs.Checks.{Bounded, bounded, Framed, framed, good}
use Rattle.lookup.proofs.Zones.{zone-is}
use Rattle.lookup.proofs.texture_packer.zone_of.Goals.{Start}
use Rattle.lookup.proofs.texture_packer.zone_of.Goals as goal

-- `zone_of` keeps the zone's full width and height where it begins at 0. Assumes nothing.
inside : (c : Start) → Framed c.args.r
inside c = framed _ _ (good _ _ c.requires)

few : (c : Start) → Bounded c.args.c.config
few c = bounded _ c.args.c.tested

pub overflow_mul-result : goal.overflow_mul-result
overflow_mul-result c = omega (arith, (few (goal.at.overflow_mul-result c).Start).extrusion)

pub overflow_add-result : goal.overflow_add-result
overflow_add-result c = omega (arith, (few (goal.at.overflow_add-result c).Start).extrusion, (inside (goal.at.overflow_add-result c).Start).w_few)

pub overflow_mul-result-2 : goal.overflow_mul-result-2
overflow_mul-result-2 c = omega (arith, (few (goal.at.overflow_mul-result-2 c).Start).extrusion)

pub overflow_add-result-2 : goal.overflow_add-result-2
overflow_add-result-2 c = omega (arith, (few (goal.at.overflow_add-result-2 c).Start).extrusion, (inside (goal.at.overflow_add-result-2 c).Start).h_few)

pub returns : goal.returns
returns c = zone-is _ _ _ _ c.saturating_sub.ensures c.saturating_sub-2.ensures
