use mathlib.Core.Path.{◌≡◌}
use mathlib.Core.List.{map}
use lib.ListN.{length, take}
use Rattle.faithful.specs.Replay.{key_of}
use Rattle.faithful.proofs.trust.copy_keys.Given as goal

abbrev pub invariant-loop-i : goal.invariant-loop-i
invariant-loop-i l = (length l.keys ≡ length l.initial.keys) × (take l.i l.keys ≡ map key_of (take l.i l.records))
