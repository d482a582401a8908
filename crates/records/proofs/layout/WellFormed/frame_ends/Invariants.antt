use mathlib.Core.Path.{◌≡◌}
use lib.ListN.{take}
use Rattle.records.specs.Layouts.{on_page, ends_of}
use Rattle.records.proofs.layout.WellFormed.frame_ends.Given as goal

-- `frame_ends` has the ends of the page's frames among the records that it has passed. Assumes nothing.
abbrev pub invariant-loop-r : goal.invariant-loop-r
invariant-loop-r l =
    let ends = ends_of l.border (on_page l.page.0 (take l.r-index l.standing)) in
    (l.w ≡ ends.w) × (l.h ≡ ends.h)
