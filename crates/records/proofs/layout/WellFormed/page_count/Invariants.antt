use mathlib.Core.Path.{◌≡◌}
use lib.ListN.{take}
use Rattle.records.specs.Layouts.{page_count}
use Rattle.records.proofs.layout.WellFormed.page_count.Given as goal

-- `page_count` has counted the pages of the records that it has passed. Assumes nothing.
abbrev pub invariant-loop-r : goal.invariant-loop-r
invariant-loop-r l = l.pages ≡ page_count (take l.r-index l.standing)
