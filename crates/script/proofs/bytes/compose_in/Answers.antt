use Prim.Native.Nat.{◌+◌, ◌-◌}
use mathlib.Core.Path.{sym, ap, ◌∙◌}
use borrow.Rule.Slice.PartMut.{mid_of, mid_len}
use Rattle.art.specs.Stores.{lent}
use Rattle.compose.specs.Composing.{composed_answer, composed_buffer}
use Rattle.wire.specs.Bytes.{put}
use Rattle.commands.specs.Reading.{page_at, background_at, word}
use Rattle.script.specs.Stepping.{compose_outcome, compose_pixels, composed_bytes}
use Rattle.script.proofs.Composing.{lent-answer, lent-bytes}
use Rattle.script.proofs.bytes.compose_in.Goals as goal

pub returns : goal.returns
unfolding compose_outcome compose_pixels page_at
returns c =
    let a = c.args in
    let pre = c.requires in
    let s = lent a.stores in
    let old = a.answers.now in
    let size = word a.words.script.now a.words.at 8 in
    let page = page_at a.words.script.now a.words.at in
    let k = background_at a.words.script.now (a.words.at + 8) in
    let first = word a.words.script.now a.words.at 6 in
    let rows = word a.words.script.now a.words.at 7 in
    let lent-part = mid_of a.a (a.e - a.a) old in
    let v = c.compose_rows.new.buffer in
    let n = c.compose_rows.auto.buffer ∙ mid_len a.a a.e old pre.1 in
    let o = c.compose_rows.ensures.value
    ∙ (λ i. composed_answer a.l s (record { 0 = c.word.ensures i }) (c.word-first.ensures i) (c.word-rows.ensures i) lent-part)
    ∙ lent-answer a.l s page k first rows size a.a a.e old v pre.0 pre.1 n in
    let q = c.compose_rows.ensures.buffer_after
    ∙ (λ i. composed_buffer a.l s (record { 0 = c.word.ensures i }) (c.background_at-background.ensures i) (c.word-first.ensures i) (c.word-rows.ensures i) lent-part) in
    record { value = o; answers_after = lent-bytes a.l s page k first rows size a.a a.e old v pre.0 pre.1 n q ∙ ap (λ r. put old a.a (composed_bytes r (compose_pixels a.words.script.now s a.words.at a.l))) (sym o) }
