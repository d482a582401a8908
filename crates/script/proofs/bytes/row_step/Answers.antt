use Prim.Native.Nat.{◌+◌, ◌/◌, ◌≤◌, ℕ}
use native.Mathlib.Omega.{arith}
use mathlib.Core.List.{List, ◌∷◌, []}
use Rattle.std.specs.Prelude.{Ok}
use mathlib.Core.Path.{◌≡◌, sym, ap, ◌∙◌}
use lib.ListN.{length, take}
use lib.Seq.{length-take-le}
use Rattle.art.specs.Stores.{lent}
use Rattle.lookup.specs.Reading.{read, read_numbers, part_read, part_bytes}
use Rattle.lookup.proofs.Bytes.{part_reads}
use Rattle.wire.specs.Bytes.{put}
use Rattle.commands.specs.Reading.{word, key_at}
use Rattle.commands.specs.Taking.{words_of}
use Rattle.script.specs.Stepping.{next_at, answer_bytes, row_step}
use Rattle.script.specs.declared.steps.Ended.TheVariants.{NoRoom}
use Rattle.script.proofs.Answers.{answer-long, say_fits, say_stops, does_stop, does_go, behind-answer}
use Rattle.script.proofs.Handed.{row-short}
use Rattle.script.proofs.bytes.row_step.Goals.{Start}
use Rattle.script.proofs.bytes.row_step.Goals.{After-row_of_image-part}
use Rattle.script.proofs.bytes.row_step.Goals as goal

-- `row_step` copies the row behind its number. Assumes nothing.
-- the numbers and the bytes of the answer
abbrev ns : (c : Start) → List ℕ
ns c = read_numbers (read c.args.s.now.layout (lent c.args.stores) (key_at c.args.words.script.now c.args.words.at) (word c.args.words.script.now c.args.words.at 2))

abbrev part : (c : Start) → List ℕ
part c =
    part_bytes (lent c.args.stores)
    (part_read c.args.s.now.layout (lent c.args.stores) (key_at c.args.words.script.now c.args.words.at) (word c.args.words.script.now c.args.words.at 2))

short : (c : After-row_of_image-part) → length c.row_of_image-part.result.now ≤ 8192
short c = row-short _ _ _ _ _ _ c.row_of_image-part.ensures

numbers : (c : After-row_of_image-part) → (read_numbers (read c.args.s.now.layout (lent c.args.stores) (key_at c.args.words.script.now c.args.words.at) (word c.args.words.script.now c.args.words.at 2))) ≡ c.number-n.result ∷ []
unfolding key_at
numbers c =
    let a = c.args in
    let s = lent a.stores in
    let e = c.row_refusal.ensures.value ∙ (λ i. read a.s.now.layout s (record { 0 = c.word.ensures i }) (c.word-row.ensures i)) in
    ap read_numbers (sym e) ∙ c.number-n.ensures.read

bytes : (c : After-row_of_image-part) → c.row_of_image-part.result.now ≡ (part_bytes (lent c.args.stores)
    (part_read c.args.s.now.layout (lent c.args.stores) (key_at c.args.words.script.now c.args.words.at) (word c.args.words.script.now c.args.words.at 2)))
unfolding key_at
bytes c =
    let a = c.args in
    let s = lent a.stores in
    part_reads a.stores _ c.row_of_image-part.result c.row_of_image-part.ensures
    ∙ (λ i. part_bytes s (part_read a.s.now.layout s (record { 0 = c.word.ensures i }) (c.word-row.ensures i)))

long : (c : After-row_of_image-part) → length (answer_bytes (read_numbers (read c.args.s.now.layout (lent c.args.stores) (key_at c.args.words.script.now c.args.words.at) (word c.args.words.script.now c.args.words.at 2))) (part_bytes (lent c.args.stores)
    (part_read c.args.s.now.layout (lent c.args.stores) (key_at c.args.words.script.now c.args.words.at) (word c.args.words.script.now c.args.words.at 2)))) ≡ 8 + length c.row_of_image-part.result.now
long c =
    let one : length (read_numbers (read c.args.s.now.layout (lent c.args.stores) (key_at c.args.words.script.now c.args.words.at) (word c.args.words.script.now c.args.words.at 2))) ≡ 1 = ap length (numbers c) in
    let same : length c.row_of_image-part.result.now ≡ length (part_bytes (lent c.args.stores) (part_read c.args.s.now.layout (lent c.args.stores) (key_at c.args.words.script.now c.args.words.at) (word c.args.words.script.now c.args.words.at 2))) = ap length (bytes c) in
    let e = answer-long (read_numbers (read c.args.s.now.layout (lent c.args.stores) (key_at c.args.words.script.now c.args.words.at) (word c.args.words.script.now c.args.words.at 2))) (part_bytes (lent c.args.stores) (part_read c.args.s.now.layout (lent c.args.stores) (key_at c.args.words.script.now c.args.words.at) (word c.args.words.script.now c.args.words.at 2))) in
    omega arith

before : (c : Start) → length (take c.args.s.now.written c.args.answers.now) ≡ c.args.s.now.written
before c = length-take-le c.args.s.now.written c.args.answers.now (omega arith)

pub returns-then-answers-written : goal.returns-then-answers-written
unfolding row_step
returns-then-answers-written c =
    let a = c.args in
    let n = long (goal.at.returns-then-answers-written c).After-row_of_image-part in
    let w = before (goal.at.returns-then-answers-written c).Start in
    does_stop a.s.now.written a.answers.now _ NoRoom
    (say_stops (length a.answers.now) (take a.s.now.written a.answers.now) a.s.now.layout (next_at a.words.at 8) (answer_bytes (ns (goal.at.returns-then-answers-written c).Start) (part (goal.at.returns-then-answers-written c).Start)) (omega arith))

pub overflow_cast-size : goal.overflow_cast-size
overflow_cast-size c = let n = short (goal.at.overflow_cast-size c).After-row_of_image-part in omega arith

pub write_number-requires : goal.write_number-requires
write_number-requires c = let n = short (goal.at.write_number-requires c).After-row_of_image-part in (omega arith, omega arith)

pub returns : goal.returns
unfolding row_step next_at words_of
returns c =
    let a = c.args in
    let n = long (goal.at.returns c).After-row_of_image-part in
    let w = before (goal.at.returns c).Start in
    let fits = c.if-answers-written.false in
    let same : length c.row_of_image-part.result.now ≡ length (part (goal.at.returns c).Start) = ap length (bytes (goal.at.returns c).After-row_of_image-part) in
    let to : a.s.now.written + 8 + length c.row_of_image-part.result.now ≡ a.s.now.written + length (answer_bytes (ns (goal.at.returns c).Start) (part (goal.at.returns c).Start)) = omega arith in
    does_go a.s.now.written a.answers.now _ _ _ a.s.now.layout (a.words.at + 12) (answer_bytes (ns (goal.at.returns c).Start) (part (goal.at.returns c).Start))
    (say_fits (length a.answers.now) (take a.s.now.written a.answers.now) a.s.now.layout (a.words.at + 12) (answer_bytes (ns (goal.at.returns c).Start) (part (goal.at.returns c).Start)) (omega arith))
    (λ i. Ok (record { layout = a.s.now.layout; next = a.words.at + 12; written = to i }))
    (behind-answer a.answers.now a.s.now.written (ns (goal.at.returns c).Start) (part (goal.at.returns c).Start) c.number-n.result (length c.row_of_image-part.result.now / 4) (numbers (goal.at.returns c).After-row_of_image-part) (ap (λ k. k / 4) same) (omega arith)
    c.write_number.ensures (c.put_bytes.ensures ∙ ap (put _ (a.s.now.written + 8)) (bytes (goal.at.returns c).After-row_of_image-part)))
