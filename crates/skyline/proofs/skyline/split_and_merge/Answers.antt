use mathlib.Core.Path.{refl}
use native.Mathlib.Omega.{arith}
use lib.ListN.{get_or}
use Prim.Native.Nat.{ℕ, ◌+◌, ◌≤◌}
use Rattle.skyline.specs.Skyline.{outline, Shape, Walked}
use Rattle.skyline.proofs.Update.{cut, walk_first}
use Rattle.skyline.proofs.skyline.split_and_merge.Goals.{After-push-k}
use Rattle.skyline.proofs.skyline.split_and_merge.Goals as goal

-- with the raised columns written, the walk over the rest begins
begin : (c : After-push-k) (w : ℕ) → let a = c.args in let j = c.segment_at-j.result in
    Shape w (outline a.xs.now a.ys.now a.n) → a.e ≤ w
    → Walked w (outline a.xs.now a.ys.now a.n) a.s a.e a.t j (get_or a.ys.now j 0) (get_or a.xs.now (j + 1) 0)
    (outline c.push-k.new.xs c.push-k.new.ys c.push-k.result)
begin c w sh le =
    let b = c.requires.room in
    let found = c.segment_at-j.ensures in
    walk_first w _ _ _ _ _ _ sh b.0 le found.0 found.1 (omega (arith, b.1, c.push-k.auto.xs)) (omega (arith, b.2, c.push-k.auto.ys)) c.push-k.ensures

pub push-k-requires : goal.push-k-requires
push-k-requires c =
    let found = c.segment_at-j.ensures in
    let b = c.requires.room in
    let sh = c.requires.shape.1 in
    let up = sh.rises c.segment_at-j.result found.0 in
    record { shape = cut _ _ sh _ (omega arith); room = (omega arith, omega arith, omega arith) }

pub keep_rest-requires : goal.keep_rest-requires
keep_rest-requires c = let s = c.requires.shape in (_, _, _, _, refl, begin (goal.at.keep_rest-requires c).After-push-k s.0 s.1 s.2)

pub returns : goal.returns
returns c w sh le = c.keep_rest.ensures _ _ _ _ refl (begin (goal.at.returns c).After-push-k w sh le)
