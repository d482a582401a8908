use Prim.Native.Nat.{◌+◌, ◌-◌}
use native.Mathlib.Omega.{arith}
use mathlib.Core.Path.{◌≡◌, refl, ◌∙◌, subst}
use lib.ListN.{drop, length, take}
use borrow.Author.Tests.{lt-ltb, le-ltb}
use Rattle.art.specs.Stores.{lent}
use Rattle.compose.specs.Checking.{checked_rows, checked_numbers}
use Rattle.wire.specs.Saying.{Says}
use Rattle.commands.specs.Reading.{word, page_at}
use Rattle.script.specs.Stepping.{check_past, check_numbers}
use Rattle.script.proofs.checking.check_part.Goals as goal

pub returns-then-source-e : goal.returns-then-source-e
unfolding check_past
returns-then-source-e c =
    let a = c.args in
    let script = a.words.script.now in
    let from = c.word-a.ensures in
    let size = c.word-2.ensures in
    (lt-ltb (length a.source.now) (word script a.words.at 9 + word script a.words.at 10) (omega arith), refl)

pub returns : goal.returns
unfolding check_past check_numbers page_at
returns c =
    let a = c.args in
    let script = a.words.script.now in
    let s = lent a.stores in
    let from = c.word-a.ensures in
    let size = c.word-2.ensures in
    let long : c.word-a.result + c.word-2.result - c.word-a.result ≡ word script a.words.at 10 = omega arith in
    let e = c.check_rows.ensures.value
    ∙ (λ i. checked_rows a.l s (record { 0 = c.word.ensures i }) (c.background_at-background.ensures i) (c.word-first.ensures i) (c.word-rows.ensures i) (take (long i) (drop (from i) a.source.now))) in (
      le-ltb (length a.source.now) (word script a.words.at 9 + word script a.words.at 10) (omega arith),
      subst (λ o. Says (checked_numbers o) c.checked.result) e c.checked.ensures,
    )
