-- What holds of every page's skyline. Assumes nothing.
use Prim.Native.Nat.{ℕ, ◌+◌, ◌≤◌}
use mathlib.Core.List.{List}
use lib.ListN.{length}
use Rattle.geometry.specs.declared.rect.Rect.{Rect}
use Rattle.skyline.specs.Skyline.{Outline, Holds}

-- ## "A page with n images has at most n+1 segments, so it never overflows."

pub few_segments : (W : ℕ) (cells : List Rect) (k : Outline) → Holds W cells k → k.n ≤ length cells + 1
few_segments W cells k h = h.few
