use Prim.Native.Nat.{ℕ, ◌+◌, ◌<◌}
use native.Mathlib.Omega.{arith}
use mathlib.Core.Path.{◌≡◌, sym, ap, ◌∙◌}
use mathlib.Core.List.{List, [], ◌∷◌, ◌++◌}
use lib.ListN.{length, drop, get_or, length-append}
use borrow.Author.Rules.{rules}
use borrow.Author.Tests.{tests}
use Rattle.std.specs.Prelude.{⊤, Result, Err}
use Rattle.std.proofs.lemmas.Iterator.Consumers.{YieldsList-from_enumerate, YieldsList-at, YieldsList-turn, YieldsList-end}
use Rattle.std.proofs.lemmas.Iterator.Splits.{YieldsList-from_slice_split}
use Rattle.job.specs.Bytes.{is_feed}
use Rattle.job.specs.Jobs.{unless_malformed, after, lines_in}
use Rattle.geometry.specs.Words.{reached}
use Rattle.job.specs.declared.reading.Malformed.{Malformed}
use Rattle.job.proofs.Readings.{numbered, taken_here, none_left}
use Rattle.job.proofs.reading.read_lines.Goals.{In-Some, In-None}
use Rattle.job.proofs.reading.read_lines.Goals as goal

-- the line of this turn
turn : (c : In-Some)
    → (length c.loop-i.yielded < length (numbered c.args.text.now))
    × ◌≡◌ {A = ℕ × List ℕ} (c.in-Some.i, c.in-Some.line.now) (get_or (numbered c.args.text.now) (length c.loop-i.yielded) (c.in-Some.i, c.in-Some.line.now))
turn c =
    YieldsList-turn
    (YieldsList-at c.into_iter-i-iterator.ensures.into_iter_gives
    (YieldsList-from_enumerate
    (YieldsList-at c.enumerate-i-items.ensures.source
    (YieldsList-from_slice_split _ is_feed c.args.text.now c.split.ensures.rest c.split.ensures.done c.split.ensures.closure (λ x b q k. search (rules, tests))))
    c.enumerate-i-items.ensures.count))
    c.loop-i.yielded c.loop-i.i-iterator c.loop-i.yielded_by c.next.result c.next.new.self (c.in-Some.i, c.in-Some.line) c.in-Some.is c.next.ensures.steps

pub returns-in_err-read_line : goal.returns-in_err-read_line
returns-in_err-read_line c =
    let e : c.from_residual.result ≡ Err c.in_err-read_line.field-0.0 = search rules in
    let t = turn (goal.at.returns-in_err-read_line c).In-Some in
    let k = length c.loop-i.yielded in
    let text = c.args.text.now in
    e
    ∙ sym
    (c.loop-i.invariant.2
    ∙ taken_here text k c.in-Some.i c.in-Some.line.now t.0 t.1 c.loop-i.state c.read_line.ensures
    ∙ ap (λ (r : Result ⊤ Malformed). unless_malformed (after (k + 1 + 1) (drop (k + 1) (lines_in text))) (reached r c.read_line.new.state)) c.in_err-read_line.was)

grown : {A : Type 0} (xs : List A) (x : A) → length (xs ++ x ∷ []) ≡ length xs + 1
grown xs x = omega (arith, length-append xs (x ∷ []))

pub loop-i-preserved : goal.loop-i-preserved
loop-i-preserved c =
    let t = turn (goal.at.loop-i-preserved c).In-Some in
    let k = length c.loop-i.yielded in
    let text = c.args.text.now in
    let one = grown c.loop-i.yielded (c.in-Some.i, c.in-Some.line) in (
      search rules,
      search rules,
      c.loop-i.invariant.2
          ∙ taken_here text k c.in-Some.i c.in-Some.line.now t.0 t.1 c.loop-i.state c.read_line.ensures
          ∙ ap (λ (r : Result ⊤ Malformed). unless_malformed (after (k + 1 + 1) (drop (k + 1) (lines_in text))) (reached r c.read_line.new.state)) c.in_ok-read_line.was
          ∙ ap (λ (n : ℕ). after (n + 1) (drop n (lines_in text)) c.read_line.new.state) (sym one),
    )

pub returns : goal.returns
returns c =
    let last =
    YieldsList-end
    (YieldsList-at c.into_iter-i-iterator.ensures.into_iter_gives
    (YieldsList-from_enumerate
    (YieldsList-at c.enumerate-i-items.ensures.source
    (YieldsList-from_slice_split _ is_feed c.args.text.now c.split.ensures.rest c.split.ensures.done c.split.ensures.closure (λ x b q k. search (rules, tests))))
    c.enumerate-i-items.ensures.count))
    c.loop-i.yielded c.loop-i.i-iterator c.loop-i.yielded_by c.next.result c.next.new.self c.in-None.is c.next.ensures.steps in
    sym (c.loop-i.invariant.2 ∙ none_left c.args.text.now (length c.loop-i.yielded) c.loop-i.state last.1)
