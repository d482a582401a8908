use mathlib.Core.Path.{◌≡◌, ◌∙◌}
use Rattle.std.specs.Prelude.{None}
use Rattle.records.proofs.Checks.{good}
use Rattle.faithful.proofs.Replays.{same-nothing, same-found}
use Rattle.faithful.proofs.replaying.same_spot.Goals as goal

pub overflow_sub-r : goal.overflow_sub-r
overflow_sub-r c = (good _ _ c.requires).left

pub overflow_sub-r-in-Some : goal.overflow_sub-r-in-Some
overflow_sub-r-in-Some c = (good _ _ c.requires).top

pub returns-in-None : goal.returns-in-None
returns-in-None c = let e : c.args.f ≡ None = cc in same-nothing _ _ _ _ e

pub returns-in-Some : goal.returns-in-Some
returns-in-Some c =
    let a = c.args in c.eq.ensures ∙ same-found a.c.config a.r a.f c.in-Some.k c.in-Some.is (good _ _ c.requires)
