use Prim.Native.Nat.{ℕ}
use mathlib.Core.List.{List}
use Rattle.records.proofs.Answers.{says}
use Rattle.rules.specs.Operations.{Withdrawing, withdrawn_numbers}
use Rattle.layout.proofs.Answering.{withdrawn-gone, withdrawn-refused}
use Rattle.layout.proofs.multi_texture_packer.withdraw.Goals as goal

abbrev numbers : Withdrawing → List ℕ
numbers o = withdrawn_numbers o.answer

pub returns-in-Ok : goal.returns-in-Ok
returns-in-Ok c =
    let both = says numbers (withdrawn-gone c.args.l _ _ c.without_latest.ensures c.in-Ok.ensures.is) in
    record { value = both.0; answer_value = both.1 }

pub returns-in-Err : goal.returns-in-Err
returns-in-Err c =
    let both = says numbers (withdrawn-refused c.args.l _ c.in-Err.ensures.is) in
    record { value = both.0; answer_value = both.1 }
