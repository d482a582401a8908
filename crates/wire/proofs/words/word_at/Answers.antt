use Rattle.wire.specs.Bytes.{word_at}
use native.Mathlib.Omega.{arith}
use Rattle.wire.proofs.words.word_at.Goals as goal

pub returns : goal.returns
unfolding word_at
returns c = let e = c.from_le_bytes.ensures in omega (arith, e)
