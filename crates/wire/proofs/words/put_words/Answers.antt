use Prim.Native.Nat.{◌+◌, ◌*◌}
use native.Mathlib.Omega.{arith}
use mathlib.Core.Path.{◌≡◌, sym, ap, ◌∙◌}
use lib.ListN.{length, take, get_or}
use lib.Seq.{length-take-le}
use Rattle.wire.specs.Bytes.{word_bytes, words_bytes, put}
use Rattle.wire.proofs.Putting.{put-none, put-behind, word-long, words_long, words_more}
use Rattle.wire.proofs.words.put_words.Goals as goal

pub loop-i-init : goal.loop-i-init
unfolding words_bytes
loop-i-init c = sym (put-none _ _)

pub loop-i-preserved : goal.loop-i-preserved
loop-i-preserved c =
    let l = c.loop-i in
    let a = c.args in
    let items = a.words.now in
    let k = length-take-le l.i items (omega arith) in
    let so = words_bytes (take l.i items) in
    let e = words_long (take l.i items) in
    let n = get_or items l.i 0 in
    let four = word-long n in
    let at : a.at + length so ≡ a.at + 4 * l.i = omega arith in
    c.put_word.ensures
    ∙ ap (λ z. put z (a.at + 4 * l.i) (word_bytes n)) l.invariant
    ∙ ap (λ k. put (put a.bytes.now a.at so) k (word_bytes n)) (sym at)
    ∙ put-behind a.bytes.now a.at so (word_bytes n) (omega arith)
    ∙ ap (put a.bytes.now a.at) (sym (words_more items l.i c.loop-i-test.true))
