use Prim.Native.Nat.{ℕ, ◌+◌}
use mathlib.Core.Path.{◌≡◌, ap, ◌∙◌}
use native.Mathlib.Omega.{arith}
use lib.ListN.{get_or, drop}
use lib.Dec.{eqb}
use Rattle.std.specs.List.{list_any}
use Rattle.std.proofs.lemmas.List.{take_rest}
use Rattle.faithful.proofs.Trusting.{distinct_hit, distinct_more, distinct_end}
use Rattle.faithful.proofs.trust.all_differ.Goals.{After-contains}
use Rattle.faithful.proofs.trust.all_differ.Goals as goal

found : (c : After-contains) → c.contains.result ≡ list_any (λ (j : ℕ). eqb j (get_or c.args.keys.now c.loop-i.i 0)) (drop (c.loop-i.i + 1) c.args.keys.now)
found c = c.contains.ensures.value ∙ ap (list_any (λ (j : ℕ). eqb j (get_or c.args.keys.now c.loop-i.i 0))) (take_rest c.args.keys.now (c.loop-i.i + 1))

pub returns-then-contains : goal.returns-then-contains
returns-then-contains c = let l = c.loop-i in distinct_hit _ l.i c.loop-i-test.true _ (found (goal.at.returns-then-contains c).After-contains) c.if-contains.true l.invariant

pub loop-i-preserved : goal.loop-i-preserved
loop-i-preserved c = let l = c.loop-i in distinct_more _ l.i c.loop-i-test.true _ (found (goal.at.loop-i-preserved c).After-contains) c.if-contains.false l.invariant

pub returns : goal.returns
returns c = let l = c.loop-i in distinct_end _ l.i (omega arith) l.invariant
