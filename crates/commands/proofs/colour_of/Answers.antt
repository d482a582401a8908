use native.Mathlib.Omega.{arith}
use mathlib.Core.Path.{ap, ◌∙◌}
use Rattle.art.specs.Stores.{pixel_from}
use Rattle.wire.proofs.Putting.{le-bytes}
use Rattle.commands.specs.Reading.{colour_of}
use Rattle.commands.proofs.colour_of.Goals as goal

pub returns : goal.returns
unfolding colour_of pixel_from
returns c = ap (λ b. pixel_from b 0) (c.to_le_bytes.ensures ∙ le-bytes c.args.n (omega arith))
