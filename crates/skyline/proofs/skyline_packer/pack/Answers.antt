use Rattle.std.specs.Prelude.{None, Some}
use mathlib.Core.Path.{◌≡◌, sym, ◌∙◌}
use mathlib.Core.List.{List}
use native.Mathlib.Omega.{arith}
use lib.ListN.{length-append}
use Rattle.geometry.specs.declared.rect.Rect.{Rect}
use Rattle.geometry.specs.declared.spot.Spot.{Spot}
use Rattle.geometry.specs.Placing.{height, grown}
use Rattle.skyline.specs.Skyline.{outline, Holds}
use Rattle.geometry.proofs.Heights.{lifted}
use Rattle.skyline.proofs.Skylines.{start_seg}
use Rattle.geometry.proofs.Fitting.{Told, told}
use Rattle.geometry.proofs.Theorems.{chosen_fits}
use Rattle.skyline.proofs.skyline_packer.pack.Goals.{In-None, In-Some}
use Rattle.skyline.proofs.skyline_packer.pack.Goals as goal

none : (c : In-None) → c.find_skyline-found.result ≡ None
none c = c.in-None.is

-- the spot that was found
abbrev spot : (c : In-Some) → Spot
spot c = c.in-Some.spot

is-spot : (c : In-Some) → c.find_skyline-found.result ≡ Some (spot c)
is-spot c = c.in-Some.is

spot-told : (c : In-Some) (cells : List Rect) → Holds c.args.area.w cells (outline c.args.xs.now c.args.ys.now c.args.n)
    → Told (height cells) c.args.area (spot c)
spot-told c cells hd =
    told (height cells) c.args.area c.args.rotation c.args.cell (spot c) c.requires.has_pixels
    (chosen_fits _ _ _ _ _ (sym (c.find_skyline-found.ensures (height cells) hd.level) ∙ is-spot c))

-- the spot on the page that the caller names
abbrev here : (c : In-Some) → Told (height c.requires.holds.0) c.args.area (spot c)
here c = spot-told c c.requires.holds.0 c.requires.holds.1

pub overflow_add-at : goal.overflow_add-at
overflow_add-at c = omega (arith, (here (goal.at.overflow_add-at c).In-Some).across)

pub overflow_add-at-in-Some : goal.overflow_add-at-in-Some
overflow_add-at-in-Some c = omega (arith, (here (goal.at.overflow_add-at-in-Some c).In-Some).down)

pub split_and_merge-n-requires-clause-shape : goal.split_and_merge-n-requires-clause-shape
split_and_merge-n-requires-clause-shape c = (_, c.requires.holds.1.shape, (here (goal.at.split_and_merge-n-requires-clause-shape c).In-Some).across)

pub split_and_merge-n-requires-clause-starts : goal.split_and_merge-n-requires-clause-starts
split_and_merge-n-requires-clause-starts c =
    let hd = c.requires.holds.1 in
    let t = here (goal.at.split_and_merge-n-requires-clause-starts c).In-Some in
    start_seg _ _ hd.shape _ hd.level _ t.left t.started

pub split_and_merge-n-requires-clause-room : goal.split_and_merge-n-requires-clause-room
split_and_merge-n-requires-clause-room c =
    let p = c.requires.holds in
    let t = here (goal.at.split_and_merge-n-requires-clause-room c).In-Some in
    (omega (arith, t.wide), omega (arith, p.1.few, p.2.for_x), omega (arith, p.1.few, p.2.for_y))

pub returns-in-None : goal.returns-in-None
unfolding grown
returns-in-None c cells hd = record { found = c.find_skyline-found.ensures (height cells) hd.level; holds = rw (none c) hd }

pub returns-in-Some : goal.returns-in-Some
unfolding grown
returns-in-Some c cells hd =
    let t = spot-told (goal.at.returns-in-Some c).In-Some cells hd in
    let up = c.split_and_merge-n.ensures _ hd.shape t.across in
    record {
      found = sym (is-spot (goal.at.returns-in-Some c).In-Some) ∙ c.find_skyline-found.ensures (height cells) hd.level;
      holds = record {
        shape = up.shape;
        level = up.level _ _ (lifted cells (spot (goal.at.returns-in-Some c).In-Some).at t.tall t.at_top) hd.level;
        few = simp length-append (omega (arith, hd.few, up.count));
      };
    }
