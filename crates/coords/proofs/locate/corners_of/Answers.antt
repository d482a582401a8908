use lib.Ieee.{sub}
use Rattle.coords.specs.Coordinates.{corners}
use Rattle.coords.proofs.locate.corners_of.Goals as goal

-- Right and bottom are moved by the inset's negative: a subtraction is that sum.
pub returns : goal.returns
unfolding corners sub
returns c =
    λ i. record { left = c.edge-left.ensures i; top = c.edge-top.ensures i; right = c.edge-right.ensures i; bottom = c.edge-bottom.ensures i }
