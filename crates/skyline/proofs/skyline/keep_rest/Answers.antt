use mathlib.Core.Path.{◌∙◌}
use native.Mathlib.Omega.{arith}
use Rattle.skyline.specs.Skyline.{outline, Walked}
use Rattle.skyline.proofs.Update.{walk_left, walk_edge, walk_next, walk_done}
use Rattle.skyline.proofs.skyline.keep_rest.Goals.{At-loop-j}
use Rattle.skyline.proofs.skyline.keep_rest.Goals as goal

-- where the walk is, of the skyline that the caller names
walk : (c : At-loop-j) → let p = c.requires in let l = c.loop-j in
    Walked p.0 p.1 p.2 c.args.e p.3 l.j l.y l.x (outline l.xs l.ys l.k)
walk c = let p = c.requires in c.loop-j.invariant.2 p.0 p.1 p.2 p.3 p.4 p.5

pub keep-k-requires-clause-shape : goal.keep-k-requires-clause-shape
keep-k-requires-clause-shape c = walk_edge _ _ _ _ _ _ _ _ _ (walk (goal.at.keep-k-requires-clause-shape c).At-loop-j)

pub keep-k-requires-clause-edge_left : goal.keep-k-requires-clause-edge_left
keep-k-requires-clause-edge_left c = let p = c.requires in walk_left _ _ _ _ _ _ _ _ _ (walk (goal.at.keep-k-requires-clause-edge_left c).At-loop-j) (omega arith)

pub keep-k-requires-clause-room : goal.keep-k-requires-clause-room
keep-k-requires-clause-room c =
    let w = walk (goal.at.keep-k-requires-clause-room c).At-loop-j in
    let few = w.part.count in
    let p = c.requires in
    (omega (arith, w.room-x), omega (arith, w.room-y))

pub loop-j-preserved : goal.loop-j-preserved
loop-j-preserved c = (
  c.keep-k.auto.xs ∙ c.loop-j.invariant.0,
  c.keep-k.auto.ys ∙ c.loop-j.invariant.1,
  λ w old s t e h. walk_next _ _ _ _ _ _ _ _ _ (c.loop-j.invariant.2 w old s t e h) _ (omega arith) c.keep-k.auto.xs c.keep-k.auto.ys c.keep-k.ensures,
)

pub returns : goal.returns
returns c w old s t e h = walk_done _ _ _ _ _ _ _ _ _ (c.loop-j.invariant.2 w old s t e h) (omega arith)
