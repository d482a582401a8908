use mathlib.Core.Path.{◌∙◌}
use lib.Ieee.{of_bits}
use Rattle.coords.specs.Coordinates.{nought, half, between}
use Rattle.coords.proofs.Between.{both_ends_in}
use Rattle.coords.proofs.locate.is_between.Goals as goal

-- Its constants are 0 and one half.
pub returns : goal.returns
unfolding between of_bits
returns c = c.contains.ensures.value ∙ both_ends_in nought half c.args.i c.new.ensures.start c.new.ensures.end c.new.ensures.exhausted
