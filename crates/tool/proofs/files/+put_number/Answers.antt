use Prim.Native.Nat.{ℕ, ◌+◌, ◌%◌}
use native.Mathlib.Omega.{arith}
use mathlib.Core.Path.{ap, ◌∙◌}
use mathlib.Core.List.{[], ◌∷◌, ◌++◌}
use mathlib.Core.Logic.{inl, inr}
use lib.ListN.{length, take}
use Rattle.std.specs.Fmt.{decimal}
use Rattle.tool.proofs.Paths.{put_last}
use Rattle.tool.proofs.files.+put_number.Goals.{then-number-ge10, else-number-ge10}
use Rattle.tool.proofs.files.+put_number.Goals as goal

-- `number / 10` is compared by `omega`, so that another way to write the same number is as good.
pub returns-clause-bytes : goal.returns-clause-bytes
returns-clause-bytes t c =
    let a = c.args in
    let b = c.if-number-ge10 in
    let room = length a.buf.now in
    let front = take a.at a.buf.now in
    let last = (48 + a.number % 10) ∷ [] in
    put_last room front (take b.last b.buf) a.number (omega (arith, c.ranges.number.fits))
    (elim b.branch [
      | then-number-ge10 w ↦
          inl (
            w.if-number-ge10.true,
            (ap (λ (m : ℕ). take m b.buf) w.last-is
                ∙ ap (take w.put_number-last.result) w.buf-is
                ∙ w.put_number-last.ensures.bytes
                ∙ ap (λ (m : ℕ). take room (front ++ decimal m)) (omega arith)),
          )
      | else-number-ge10 w ↦ inr (w.if-number-ge10.false, (ap (λ (m : ℕ). take m b.buf) w.last-is ∙ ap (take a.at) w.buf-is))
    ])
    (c.put.ensures.bytes ∙ ap (λ (m : ℕ). take m (take b.last b.buf ++ last)) b.auto.buf)
