use Prim.Native.Nat.{ℕ, ◌+◌, ◌-◌}
use native.Mathlib.Omega.{arith}
use mathlib.Core.Path.{ap, ◌∙◌}
use mathlib.Core.List.{List}
use lib.ListN.{take}
use borrow.Rule.Slice.PartMut.{put_mid}
use Rattle.tool.proofs.Paths.{put_part}
use Rattle.tool.proofs.files.put.Goals as goal

-- Where the answer ends is compared by `omega`, so that another way to write the same number is as good.
pub returns-clause-bytes : goal.returns-clause-bytes
returns-clause-bytes c =
    let a = c.args in
    let n = c.min-n.result in
    let part = c.copy_from_slice.new.self in
    ap (λ (m : ℕ). take m (put_mid a.at (a.at + n - a.at) a.buf.now part)) (omega arith)
    ∙ ap (λ (l : List ℕ). take (a.at + n) (put_mid a.at (a.at + n - a.at) a.buf.now l)) c.copy_from_slice.ensures.after
    ∙ put_part a.buf.now a.part.now a.at n c.requires c.min-n.ensures
