use Prim.Native.Nat.{◌+◌}
use native.Mathlib.Omega.{arith}
use Rattle.std.specs.Prelude.{Ok}
use mathlib.Core.Path.{◌≡◌, ap, ◌∙◌}
use lib.ListN.{length, take}
use lib.Seq.{length-take-le}
use Rattle.art.specs.Stores.{lent}
use Rattle.commands.specs.Reading.{word}
use Rattle.commands.specs.Taking.{words_of}
use Rattle.script.specs.Doing.{composed_size}
use Rattle.script.specs.Stepping.{next_at, compose_step}
use Rattle.script.specs.declared.steps.Ended.TheVariants.{NoRoom}
use Rattle.script.proofs.Answers.{does_stop, does_go}
use Rattle.script.proofs.Composing.{size-at_most}
use Rattle.script.proofs.Ways.{compose_said, compose_goes, compose_stops, compose_said-long, compose_written}
use Rattle.script.proofs.bytes.compose_step.Goals as goal

pub returns-then-answers-written : goal.returns-then-answers-written
returns-then-answers-written c =
    let a = c.args in
    let script = a.words.script.now in
    let s = lent a.stores in
    let old = a.answers.now in
    let said = take a.s.now.written old in
    let so : length said ≡ a.s.now.written = length-take-le a.s.now.written old (omega arith) in
    let size = c.word-size.ensures in
    does_stop a.s.now.written old (compose_step script s (length old) said a.words.at a.s.now.layout) NoRoom
    (compose_stops script s a.words.at a.s.now.layout (length old) said (omega arith))

pub overflow_cast-more : goal.overflow_cast-more
overflow_cast-more c = let m = size-at_most c.compose_in-o.result c.word-size.result in let e = c.composed_size-more.ensures in omega arith

pub write_number-requires : goal.write_number-requires
write_number-requires c =
    let m = size-at_most c.compose_in-o.result c.word-size.result in
    let e = c.composed_size-more.ensures in
    let k = c.compose_in-o.auto.answers in
    (omega arith, omega arith)

pub overflow_add-s-2 : goal.overflow_add-s-2
overflow_add-s-2 c = let m = size-at_most c.compose_in-o.result c.word-size.result in let e = c.composed_size-more.ensures in omega arith

pub returns : goal.returns
unfolding next_at words_of
returns c =
    let a = c.args in
    let script = a.words.script.now in
    let s = lent a.stores in
    let old = a.answers.now in
    let said = take a.s.now.written old in
    let so : length said ≡ a.s.now.written = length-take-le a.s.now.written old (omega arith) in
    let size = c.word-size.ensures in
    let m = c.composed_size-more.ensures ∙ (λ i. composed_size c.compose_in-o.result (size i)) in
    let long = compose_said-long script s a.words.at a.s.now.layout in
    let same = ap (λ o. composed_size o (word script a.words.at 8)) c.compose_in-o.ensures.value in
    let to : a.s.now.written + 8 + c.composed_size-more.result ≡ a.s.now.written + length (compose_said script s a.words.at a.s.now.layout) = omega arith in
    does_go a.s.now.written old _ (compose_step script s (length old) said a.words.at a.s.now.layout) _ a.s.now.layout (a.words.at + 36) (compose_said script s a.words.at a.s.now.layout)
    (compose_goes script s a.words.at a.s.now.layout (length old) said (omega arith))
    (λ i. Ok (record { layout = a.s.now.layout; next = a.words.at + 36; written = to i }))
    (compose_written script s a.words.at a.s.now.layout old a.s.now.written c.compose_in-o.result c.number.result c.composed_size-more.result
    c.compose_in-o.ensures.value c.number.ensures.composed m c.compose_in-o.ensures.answers_after c.write_number.ensures (omega arith))
