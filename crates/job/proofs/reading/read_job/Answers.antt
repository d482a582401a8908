use mathlib.Core.Path.{◌≡◌, sym, ap, ◌∙◌, subst}
use Prim.Native.Nat.{◌≤◌}
use borrow.Author.Rules.{rules}
use Rattle.std.specs.Prelude.{Result, Err, IfOk}
use Rattle.job.specs.Jobs.{unless_malformed, ended, job_in}
use Rattle.job.specs.declared.reading.Job.{Job}
use Rattle.job.specs.declared.reading.Malformed.{Malformed}
use Rattle.job.proofs.Limits.{job_few}
use Rattle.job.proofs.reading.read_job.Goals as goal

pub returns-in_err-state-clause-value : goal.returns-in_err-state-clause-value
unfolding job_in
returns-in_err-state-clause-value c =
    let e : c.from_residual.result ≡ Err c.in_err-state.field-0.0 = search rules in
    e ∙ ap (unless_malformed ended) (sym c.in_err-state.was ∙ c.read_lines.ensures)

value : (c : goal.After-end_job) → c.end_job.result ≡ job_in c.args.text.now
unfolding job_in
value c = c.end_job.ensures ∙ ap (unless_malformed ended) (sym c.in_ok-state.was ∙ c.read_lines.ensures)

pub returns-clause-value : goal.returns-clause-value
returns-clause-value c = value c

pub returns-clause-count_bound : goal.returns-clause-count_bound
returns-clause-count_bound c = subst (λ (r : Result Job Malformed). IfOk r (λ (j : Job). j.count ≤ 256)) (sym (value c)) (job_few c.args.text.now)
