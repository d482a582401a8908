use Prim.Native.Nat.{◌≤◌}
use native.Mathlib.Omega.{arith}
use mathlib.Core.Path.{refl}
use lib.ListN.{get_or}
use Rattle.skyline.proofs.Skylines.{in_area}
use Rattle.skyline.proofs.skyline.Segments.limits_at.Goals.{Start}
use Rattle.skyline.proofs.skyline.Segments.limits_at.Goals as goal

-- the segment's start is not past the edge
edge : (c : Start) → get_or c.args.self.xs.now c.args.i 0 ≤ c.args.area.w
edge c = let lt = c.requires.i_lt_n in in_area _ _ c.requires.shape c.args.i (omega arith)

pub overflow_sub-area : goal.overflow_sub-area
overflow_sub-area c = edge (goal.at.overflow_sub-area c).Start

pub returns : goal.returns
returns c = let e = edge (goal.at.returns c).Start in let d = c.in_ok-checked_sub.ensures in record { across = refl; in_area = omega arith; down = omega arith }
