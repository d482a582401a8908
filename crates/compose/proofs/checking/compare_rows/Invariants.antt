use Prim.Native.Nat.{ℕ}
use Rattle.art.specs.declared.memory_rgba8_texture.Pixel.{Pixel}
use Rattle.paint.specs.Painting.{Shows}
use Rattle.compose.proofs.Comparing.{SameBefore}
use Rattle.compose.proofs.checking.compare_rows.Given as goal

-- `compare_rows` has found no difference in the rows that it passed. Assumes nothing.
abbrev pub invariant-loop-v : goal.invariant-loop-v
invariant-loop-v l = (f : ℕ → ℕ → Pixel) → Shows f l.w l.first l.rows l.wanted → SameBefore f l.w l.first l.rows l.shown l.v
