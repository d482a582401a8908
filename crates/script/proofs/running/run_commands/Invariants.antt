use Prim.Native.Nat.{◌-◌}
use lib.ListN.{length}
use Rattle.art.specs.Stores.{lent}
use Rattle.script.proofs.Going.{Going}
use Rattle.script.proofs.running.run_commands.Given as goal

-- `run_commands` says what is left to say, command by command. Assumes nothing.
abbrev pub invariant-loop-s : goal.invariant-loop-s
invariant-loop-s l = Going l.script (lent l.stores) l.initial.answers l.answers l.s.layout l.s.next l.s.written

abbrev pub decreases-loop-s : goal.decreases-loop-s
decreases-loop-s l = length l.script - l.s.next
