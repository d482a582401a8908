use Prim.Native.Nat.{◌+◌}
use native.Mathlib.Omega.{arith}
use mathlib.Core.Path.{◌≡◌, sym, ap, ◌∙◌}
use lib.ListN.{length, take}
use borrow.Author.Rules.{rules}
use Rattle.std.specs.Prelude.{Err}
use Rattle.art.specs.Stores.{lent}
use Rattle.wire.specs.Bytes.{word_at}
use Rattle.commands.specs.Reading.{word}
use Rattle.commands.specs.Taking.{command_number}
use Rattle.script.specs.Stepping.{Stepped, next_at, stepped}
use Rattle.script.specs.declared.steps.Ended.TheVariants.{Unknown, CutShort}
use Rattle.script.proofs.Answers.{does_stop, does_as}
use Rattle.script.proofs.Ways.{step-none, step_unknown, step_cut, step-runs}
use Rattle.script.proofs.running.step.Goals.{Start}
use Rattle.script.proofs.running.step.Goals.{After-word_at}
use Rattle.script.proofs.running.step.Goals as goal

-- `step` stops at no command and at a command that is cut short. Assumes nothing.
-- the step that is defined, from where the function begins
abbrev here : (c : Start) → Stepped
here c = stepped c.args.script.now (lent c.args.stores) (length c.args.answers.now) (take c.args.s.now.written c.args.answers.now) c.args.s.now.next c.args.s.now.layout

-- the command's word
is : (c : After-word_at) → word c.args.script.now c.args.s.now.next 0 ≡ c.word_at.result
is c =
    let a = c.args in
    let z : a.s.now.next + 0 ≡ a.s.now.next = omega arith in
    ap (word_at a.script.now) z ∙ sym c.word_at.ensures

pub returns-then-left-lt4 : goal.returns-then-left-lt4
returns-then-left-lt4 c =
    let a = c.args in
    does_stop a.s.now.written a.answers.now (here (goal.at.returns-then-left-lt4 c).Start) CutShort
    (step-none a.script.now (lent a.stores) _ _ a.s.now.next a.s.now.layout (omega arith))

pub returns-in_err-command : goal.returns-in_err-command
returns-in_err-command c =
    let a = c.args in
    let result : c.from_residual.result ≡ Err Unknown = search rules in
    let none = c.in_err-command.ensures in
    rw result
    (does_stop a.s.now.written a.answers.now (here (goal.at.returns-in_err-command c).Start) Unknown
    (step_unknown a.script.now (lent a.stores) _ _ a.s.now.next a.s.now.layout c.word_at.result (is (goal.at.returns-in_err-command c).After-word_at) (omega arith) (omega (arith, none))))

pub overflow_mul-words : goal.overflow_mul-words
overflow_mul-words c = let e = c.words.ensures.few in omega arith

pub returns-then-left-words : goal.returns-then-left-words
unfolding next_at
returns-then-left-words c =
    let a = c.args in
    let n = command_number c.in_ok-command.command in
    let e = c.words.ensures.value in
    let names = c.in_ok-command.ensures.0 in
    let below = c.in_ok-command.ensures.1 in
    does_stop a.s.now.written a.answers.now (here (goal.at.returns-then-left-words c).Start) CutShort
    (step_cut a.script.now (lent a.stores) _ _ a.s.now.next a.s.now.layout n (is (goal.at.returns-then-left-words c).After-word_at ∙ sym names) (omega arith) (omega arith) (omega arith))

pub returns : goal.returns
unfolding next_at
returns c =
    let a = c.args in
    let n = command_number c.in_ok-command.command in
    let e = c.words.ensures.value in
    let names = c.in_ok-command.ensures.0 in
    let below = c.in_ok-command.ensures.1 in
    does_as a.s.now.written a.answers.now _ (here (goal.at.returns c).Start) _ _
    (step-runs a.script.now (lent a.stores) _ _ a.s.now.next a.s.now.layout n (is (goal.at.returns c).After-word_at ∙ sym names) (omega arith) (omega arith) (omega arith))
    c.run_command.ensures
