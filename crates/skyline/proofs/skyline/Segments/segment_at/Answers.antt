use Rattle.skyline.specs.Skyline.{lent}
use native.Mathlib.Omega.{arith}
use Rattle.skyline.proofs.Update.{found_start}
use Rattle.skyline.proofs.skyline.Segments.segment_at.Goals as goal

pub returns : goal.returns
returns c = rw c.unwrap_or.ensures (found_start (lent c.args.self) _ (omega arith) c.requires.starts.0 _ c.place_of.ensures)
