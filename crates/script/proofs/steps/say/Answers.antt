use Prim.Native.Nat.{ℕ, ◌+◌, ◌*◌}
use native.Mathlib.Omega.{arith}
use mathlib.Core.List.{List, []}
use mathlib.Core.Path.{◌≡◌}
use Rattle.std.specs.Prelude.{Ok}
use lib.ListN.{length, take}
use lib.Seq.{length-take-le}
use borrow.Author.Rules.{rules}
use Rattle.script.specs.declared.steps.Ended.TheVariants.{NoRoom}
use Rattle.script.specs.Stepping.{answer_bytes}
use Rattle.script.proofs.Answers.{answer-long, say_fits, say_stops, does_stop, does_go}
use Rattle.script.proofs.steps.say.Goals.{Start}
use Rattle.script.proofs.steps.say.Goals as goal

-- `say` writes an answer where the end still fits after it. Assumes nothing.
-- the bytes of the answer
abbrev bytes : (c : Start) → List ℕ
bytes c = answer_bytes (take c.args.a.count c.args.a.words) []

long : (c : Start) → length (bytes c) ≡ 4 + 4 * c.args.a.count
long c =
    let a = c.args.a in
    let n : length a.words ≡ 8 = search rules in
    let few : length (take a.count a.words) ≡ a.count = length-take-le a.count a.words (omega arith) in
    let e = answer-long (take a.count a.words) [] in
    omega arith

before : (c : Start) → length (take c.args.s.now.written c.args.answers.now) ≡ c.args.s.now.written
before c = length-take-le c.args.s.now.written c.args.answers.now (omega arith)

pub returns-then-answers-s : goal.returns-then-answers-s
returns-then-answers-s c =
    let a = c.args in
    let n = long (goal.at.returns-then-answers-s c).Start in
    let w = before (goal.at.returns-then-answers-s c).Start in
    does_stop a.s.now.written a.answers.now _ NoRoom
    (say_stops (length a.answers.now) (take a.s.now.written a.answers.now) a.s.now.layout a.next (bytes (goal.at.returns-then-answers-s c).Start) (omega arith))

pub returns : goal.returns
returns c =
    let a = c.args in
    let n = long (goal.at.returns c).Start in
    let w = before (goal.at.returns c).Start in
    let e = c.write_answer-s.ensures in
    does_go a.s.now.written a.answers.now _ _ _ a.s.now.layout a.next (bytes (goal.at.returns c).Start)
    (say_fits (length a.answers.now) (take a.s.now.written a.answers.now) a.s.now.layout a.next (bytes (goal.at.returns c).Start) (omega arith))
    (λ i. Ok (record { layout = a.s.now.layout; next = a.next; written = e.value i })) e.answers_after
