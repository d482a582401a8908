use Prim.Native.Nat.{◌≤◌}
use mathlib.Core.Path.{◌≡◌}
use lib.ListN.{drop}
use Rattle.job.proofs.Digits.{digits_from}
use Rattle.job.proofs.numbers.number_of.Given as goal

-- `number_of` takes digit after digit: what the rest comes to is what the word comes to. Assumes nothing.
abbrev pub invariant-loop-b : goal.invariant-loop-b
invariant-loop-b l = (l.n ≤ 4294967295) × (digits_from 0 l.word ≡ digits_from l.n (drop l.b-index l.word))
