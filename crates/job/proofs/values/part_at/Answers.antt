use Prim.Native.Nat.{ℕ, ◌≤◌, ◌<◌}
use native.Mathlib.Omega.{arith}
use mathlib.Core.Bool.{cond}
use mathlib.Core.Path.{◌≡◌, sym, ap, ◌∙◌}
use borrow.Author.Tests.{le-leb, lt-leb}
use Rattle.std.specs.Prelude.{Option, Some, unwrap_or, Result, Ok, Err}
use Rattle.std.specs.Result.{OkIff, result_ok}
use Rattle.job.specs.Words.{small, to_number, is_part, to_part}
use Rattle.job.specs.Steps.{where_so, part_in}
use Rattle.job.proofs.values.part_at.Goals as goal

-- the number to 255
abbrev part_of : Option ℕ → Option ℕ
part_of o = where_so (small o) (cond (small o) (unwrap_or o 0) 0)

tried : {E : Type 0} (n : ℕ) (r : Result ℕ E) → OkIff r (n < 256) n → result_ok r ≡ part_of (Some n)
unfolding small
tried n (Ok x) h = let low : n ≤ 255 = omega arith in rw (le-leb n 255 low) (ap Some h.1)
tried n (Err e) h = let high : 255 < n = omega arith in rw (lt-leb n 255 high)

pub returns-in_err-number : goal.returns-in_err-number
unfolding part_in to_part to_number is_part small
returns-in_err-number c = c.from_residual.ensures ∙ sym (ap part_of (sym c.number_at.ensures ∙ c.in_err-number.was))

pub returns : goal.returns
unfolding part_in to_part to_number is_part small
returns c =
    c.ok.ensures.value
    ∙ tried c.in_ok-number.number c.try_from.result c.try_from.ensures
    ∙ sym (ap part_of (sym c.number_at.ensures ∙ c.in_ok-number.was))
