use Prim.Native.Nat.{◌+◌}
use native.Mathlib.Numerals.{add-one}
use native.Mathlib.Omega.{arith}
use mathlib.Core.Path.{◌≡◌, sym, ap, ◌∙◌}
use lib.ListN.{length, set, get_or}
use lib.Seq.{paste, paste-zero, paste-suc, length-paste}
use Rattle.wire.proofs.Putting.{paste-put}
use Rattle.wire.proofs.words.put_bytes.Goals.{At-loop-i}
use Rattle.wire.proofs.words.put_bytes.Goals as goal

pub loop-i-init : goal.loop-i-init
loop-i-init c = paste-zero c.args.bytes.now c.args.at c.args.part.now

long : (c : At-loop-i) → length c.loop-i.bytes ≡ length c.args.bytes.now
long c =
    let l = c.loop-i in
    let a = c.args in
    ap length l.invariant ∙ length-paste a.bytes.now a.at a.part.now l.i (omega arith) (omega arith)

pub bounds-bytes-at : goal.bounds-bytes-at
bounds-bytes-at c = let m = long (goal.at.bounds-bytes-at c).At-loop-i in omega arith

pub loop-i-preserved : goal.loop-i-preserved
loop-i-preserved c =
    let l = c.loop-i in
    let a = c.args in
    ap (λ z. set z (a.at + l.i) (get_or a.part.now l.i 0)) l.invariant
    ∙ paste-suc a.bytes.now a.at a.part.now l.i 0 (omega arith) (omega arith)
    ∙ ap (paste a.bytes.now a.at a.part.now) (sym (add-one l.i))

pub returns : goal.returns
returns c =
    let l = c.loop-i in
    let a = c.args in
    let e : l.i ≡ length a.part.now = omega arith in
    l.invariant ∙ ap (paste a.bytes.now a.at a.part.now) e ∙ paste-put a.bytes.now a.at a.part.now
