use mathlib.Core.Path.{◌∙◌}
use Rattle.records.proofs.Codes.{blank_row}
use Rattle.records.proofs.frame.is_blank.Goals as goal

-- `is_blank` compares with the blank record, field by field. Assumes nothing.
pub returns : goal.returns
returns c = c.eq.ensures ∙ blank_row _ _ c.blank_record.ensures
