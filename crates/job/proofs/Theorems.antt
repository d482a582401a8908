-- What holds of the definitions of a job's text, each theorem under the sentence of docs/JOB.md that it carries. Assumes nothing.
use Prim.Native.Nat.{ℕ, ◌≤◌}
use native.Mathlib.Omega.{arith}
use mathlib.Core.Path.{◌≡◌, ap}
use mathlib.Core.List.{List, [], ◌∷◌}
use lib.Dec.{leb}
use borrow.Author.Tests.{leb-true}
use Rattle.geometry.specs.Words.{all_of, all}
use Rattle.art.proofs.Theorems.{one}
use Rattle.records.proofs.Rows.{all_of_lem}
use Rattle.job.specs.Bytes.{filled}
use Rattle.job.specs.Numbers.{is_digit, value_from, number_in}
use Rattle.job.specs.Lines.{line_in}
use Rattle.std.specs.Prelude.{Option, Some, Result, Err}
use Rattle.job.specs.Jobs.{blank_job, job_in, held}
use Rattle.job.specs.declared.lines.Line.{Line}
use Rattle.job.specs.declared.lines.Trouble.{Trouble}
use Rattle.job.specs.declared.reading.Job.{Job}
use Rattle.job.specs.declared.reading.Malformed.{Malformed}
use Rattle.job.proofs.Digits.{picks}
use Rattle.job.proofs.Limits.{few_held}

-- ## "A larger number is refused; it is never wrapped."

pub number_value : (w : List ℕ) (n : ℕ) → number_in w ≡ Some n → (n ≡ value_from 0 w) × (n ≤ 4294967295)
unfolding number_in
number_value w n e =
    let p = picks (all_of (filled w ∷ all is_digit w ∷ leb (value_from 0 w) 4294967295 ∷ [])) n (value_from 0 w) e in
    let l = leb-true (value_from 0 w) 4294967295 (all_of_lem (filled w ∷ all is_digit w ∷ leb (value_from 0 w) 4294967295 ∷ []) p.0).1.1.0 in
    (p.1, omega arith)

-- ## "A job has at most 256 images."

pub few_images : (text : List ℕ) → (held (job_in text)).count ≤ 256
few_images text = few_held text

-- ## "A refused job is handed back blank."

pub refused_blank : (text : List ℕ) (t : Trouble) (n : ℕ) → job_in text ≡ Err (record { trouble = t; line = n }) → held (job_in text) ≡ blank_job
refused_blank text t n e = ap held e

-- ## any two results allowed for one input are equal

pub one_number : (w : List ℕ) {r q : Option ℕ} → r ≡ number_in w → q ≡ number_in w → r ≡ q
one_number w = one (number_in w)

pub one_line : (l : List ℕ) {r q : Result Line Trouble} → r ≡ line_in l → q ≡ line_in l → r ≡ q
one_line l = one (line_in l)

pub one_job : (text : List ℕ) {r q : Result Job Malformed} → r ≡ job_in text → q ≡ job_in text → r ≡ q
one_job text = one (job_in text)
