use Prim.Native.Nat.{ℕ, ◌+◌, ◌<◌}
use native.Mathlib.Omega.{arith}
use native.Mathlib.Numerals.{add-one}
use mathlib.Core.Path.{◌≡◌, sym, ap, ◌∙◌}
use mathlib.Core.List.{◌∷◌}
use lib.ListN.{length, drop, get_or, drop_of_length-le}
use lib.Seq.{drop-cons}
use borrow.Author.Rules.{rules}
use borrow.Author.Tests.{tests}
use Rattle.std.specs.Prelude.{Some, None}
use Rattle.job.specs.Steps.{with_digit}
use Rattle.job.proofs.Digits.{digits_from, goes, stops, ends, whole, none}
use Rattle.job.proofs.numbers.number_of.Goals.{After-is_empty, In-loop-b}
use Rattle.job.proofs.numbers.number_of.Goals as goal

-- the number so far, and the digit that comes
next : (c : In-loop-b)
    → digits_from 0 c.args.word.now
    ≡ digits_from c.loop-b.n (get_or c.args.word.now c.loop-b.b-index 0 ∷ drop (c.loop-b.b-index + 1) c.args.word.now)
next c =
    let l = c.loop-b in
    let word = c.args.word.now in
    let cut = drop-cons word l.b-index 0 c.loop-b-test.true in
    let one = ap (λ (k : ℕ). get_or word l.b-index 0 ∷ drop k word) (sym (add-one l.b-index)) in
    l.invariant.1 ∙ ap (digits_from l.n) (cut ∙ one)

pub returns-then-is_empty : goal.returns-then-is_empty
returns-then-is_empty c = sym (none _ (search (rules, tests)))

pub returns-in_err-n : goal.returns-in_err-n
returns-in_err-n c =
    let l = c.loop-b in
    let word = c.args.word.now in
    let b = get_or word l.b-index 0 in
    let t = c.loop-b-test.true in
    let e : with_digit l.n b ≡ None = sym c.with_digit.ensures ∙ c.in_err-n.was in
    c.from_residual.ensures
    ∙ sym (whole word (omega arith) ∙ next (goal.at.returns-in_err-n c).In-loop-b ∙ stops l.n b (drop (l.b-index + 1) word) e)

pub loop-b-preserved : goal.loop-b-preserved
loop-b-preserved c =
    let l = c.loop-b in
    let word = c.args.word.now in
    let b = get_or word l.b-index 0 in
    let e : with_digit l.n b ≡ Some c.in_ok-n.n = sym c.with_digit.ensures ∙ c.in_ok-n.was in
    let g = goes l.n b c.in_ok-n.n (drop (l.b-index + 1) word) e in
    (g.1, next (goal.at.loop-b-preserved c).In-loop-b ∙ g.0)

pub returns : goal.returns
returns c =
    let l = c.loop-b in
    let word = c.args.word.now in
    let filled : 0 < length word = search (rules, tests) in
    let past = drop_of_length-le word c.loop-b-test.false in
    sym (whole word filled ∙ l.invariant.1 ∙ ap (digits_from l.n) past ∙ ends l.n l.invariant.0)
