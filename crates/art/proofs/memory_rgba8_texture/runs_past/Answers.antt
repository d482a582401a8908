use mathlib.Core.Path.{◌≡◌, sym, ap}
use native.Mathlib.Omega.{arith}
use lib.ListN.{length}
use Rattle.art.specs.Stores.{lent, bytes_of}
use Rattle.art.proofs.Places.{bytes_now, past_offset, past_area}
use Rattle.art.proofs.memory_rgba8_texture.runs_past.Goals.{After-of-size}
use Rattle.art.proofs.memory_rgba8_texture.runs_past.Goals as goal

-- `runs_past` compares what the store has left, divided by 4, with the area, which 64 bits hold. Assumes nothing.
size_is : (c : After-of-size) →
    let a = c.args in
    length c.of-size.result.now ≡ length (bytes_of (lent a.stores) a.image.store)
size_is c = ap length (bytes_now _ _ _ c.of-size.ensures)

pub returns-then-size-offset : goal.returns-then-size-offset
returns-then-size-offset c = sym (past_offset _ _ _ (size_is (goal.at.returns-then-size-offset c).After-of-size) c.if-size-offset.true)

pub returns : goal.returns
returns c = past_area _ _ _ (size_is (goal.at.returns c).After-of-size) (omega arith)
