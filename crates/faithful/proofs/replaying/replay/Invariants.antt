use Rattle.faithful.proofs.Sofar.{Sofar}
use Rattle.faithful.proofs.replaying.replay.Given as goal

abbrev pub invariant-loop-r : goal.invariant-loop-r
invariant-loop-r l = Sofar l.fn.l.layout.now.config l.r-items l.r-index l.pages l.skies
