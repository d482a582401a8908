use mathlib.Core.Path.{◌≡◌, ◌∙◌}
use Rattle.std.proofs.Common.{rules, Err}
use Rattle.records.proofs.Answers.{says}
use Rattle.lookup.specs.Reading.{read_numbers}
use Rattle.lookup.proofs.Answers.{read-refused, read_done}
use Rattle.lookup.proofs.image_row.row_refusal.Goals as goal

pub returns-in_err-row_record : goal.returns-in_err-row_record
returns-in_err-row_record c =
    let out : c.from_residual.result ≡ Err c.in_err-row_record.field-0.0 = search rules in
    let both = says read_numbers (out ∙ read-refused _ _ _ _ c.in_err-row_record.ensures) in
    record { value = both.0; result_value = both.1 }

pub returns : goal.returns
returns c = let both = says read_numbers (read_done _ _ _ _ c.in_ok-row_record.ensures.0) in record { value = both.0; result_value = both.1 }
