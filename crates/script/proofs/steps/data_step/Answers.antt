use Prim.Native.Nat.{◌+◌, ◌*◌}
use native.Mathlib.Omega.{arith}
use Rattle.std.specs.Prelude.{Ok}
use mathlib.Core.Path.{◌≡◌, refl}
use lib.ListN.{length}
use borrow.Author.Tests.{lt-ltb, le-ltb}
use Rattle.wire.specs.Bytes.{word_at}
use Rattle.commands.specs.Taking.{words_of}
use Rattle.script.specs.Stepping.{next_at, data_step}
use Rattle.script.proofs.steps.data_step.Goals as goal

pub returns-then-left-n : goal.returns-then-left-n
unfolding data_step next_at words_of
returns-then-left-n c =
    let a = c.args in
    let n = c.word-n.ensures in
    rw (lt-ltb (length a.words.script.now) (a.words.at + 8 + 4 * word_at a.words.script.now (a.words.at + 4)) (omega arith)) refl

pub returns : goal.returns
unfolding data_step next_at words_of
returns c =
    let a = c.args in
    let n = c.word-n.ensures in
    let w : a.s.now.written ≡ a.s.now.written + 0 = omega arith in
    rw (le-ltb (length a.words.script.now) (a.words.at + 8 + 4 * word_at a.words.script.now (a.words.at + 4)) (omega arith)) (λ i. Ok (record { layout = a.s.now.layout; next = a.words.at + 8 + 4 * n i; written = w i }))
