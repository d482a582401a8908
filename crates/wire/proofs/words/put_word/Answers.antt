use native.Mathlib.Omega.{arith}
use mathlib.Core.Path.{ap, ◌∙◌}
use Rattle.wire.specs.Bytes.{put}
use Rattle.wire.proofs.Putting.{le-bytes}
use Rattle.wire.proofs.words.put_word.Goals as goal

pub returns : goal.returns
returns c = c.put_bytes.ensures ∙ ap (put c.args.bytes.now c.args.at) (c.to_le_bytes.ensures ∙ le-bytes c.args.n (omega arith))
