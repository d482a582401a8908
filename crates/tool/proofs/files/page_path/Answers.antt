use Prim.Native.Nat.{ℕ, ◌+◌, ◌/◌, ◌%◌}
use native.Mathlib.Omega.{arith}
use Rattle.std.proofs.Common.{rules}
use mathlib.Core.Path.{refl, ap, ◌∙◌}
use mathlib.Core.List.{[], ◌∷◌, ◌++◌}
use mathlib.Core.Logic.{inl, inr}
use lib.ListN.{length, take}
use Rattle.std.specs.Fmt.{decimal}
use Rattle.tool.proofs.Paths.{put_path, put_last}
use Rattle.tool.proofs.files.page_path.Goals.{then-page-ge10, else-page-ge10}
use Rattle.tool.proofs.files.page_path.Goals as goal

-- `page.0 / 10`, `last` and `c` are compared by `omega`, so that another way to write the same number is as good.
pub returns-clause-bytes : goal.returns-clause-bytes
returns-clause-bytes c =
    let a = c.args in
    let n = a.page.0 in
    let room = length a.out.now in
    let b = c.if-page-ge10 in
    let front = take c.put-b.result c.put-b.new.buf in
    let last = (48 + n % 10) ∷ [] in
    let one = c.put-a.auto.buf in
    let two = c.put-b.auto.buf ∙ one in
    let three = b.auto.out ∙ two in
    let numbered =
    put_last room front (take b.last b.out) n (search rules)
    (elim b.branch [
      | then-page-ge10 w ↦
          inl (
            w.if-page-ge10.true,
            (ap (λ (m : ℕ). take m b.out) w.last-is
                ∙ ap (take w.put_number-last.result) w.out-is
                ∙ w.put_number-last.ensures.bytes
                ∙ ap (λ (m : ℕ). take (length c.put-b.new.buf) (front ++ decimal m)) (omega arith)
                ∙ ap (λ (m : ℕ). take m (front ++ decimal (n / 10))) two),
          )
      | else-page-ge10 w ↦ inr (w.if-page-ge10.false, (ap (λ (m : ℕ). take m b.out) w.last-is ∙ ap (take c.put-b.result) w.out-is))
    ])
    (c.put-c.ensures.bytes
    ∙ ap (λ (m : ℕ). take (length b.out) (take m b.out ++ last)) (omega arith)
    ∙ ap (λ (m : ℕ). take m (take b.last b.out ++ last)) three)
    in
    put_path room a.folder.now n a.ending.now one refl (c.put-c.auto.buf ∙ three) c.put-a.ensures.bytes c.put-b.ensures.bytes numbered
    (c.put.ensures.bytes ∙ ap (λ (m : ℕ). take (length c.put-c.new.buf) (take m c.put-c.new.buf ++ a.ending.now)) (omega arith))
