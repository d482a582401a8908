use mathlib.Core.Path.{◌≡◌}
use lib.ListN.{take}
use Rattle.wire.specs.Bytes.{words_bytes, put}
use Rattle.wire.proofs.words.put_words.Given as goal

-- the words that the loop has turned over are written one behind the other
abbrev pub invariant-loop-i : goal.invariant-loop-i
invariant-loop-i l = l.bytes ≡ put l.initial.bytes l.at (words_bytes (take l.i l.words))
