use mathlib.Core.Path.{◌∙◌}
use Rattle.std.proofs.Common.{rules, tests}
use Rattle.std.proofs.lemmas.Iterator.{YieldsList-from_slice}
use Rattle.std.proofs.lemmas.Iterator.Search.{any_from_yields_List}
use Rattle.art.specs.Stores.{lent}
use Rattle.records.specs.Layouts.{standing}
use Rattle.lookup.proofs.Looking.{past_here, past_any}
use Rattle.lookup.proofs.texture_packer.page_past.Goals as goal

pub returns : goal.returns
returns c =
    let a = c.args in
    let s = lent a.stores in
    any_from_yields_List (past_here s a.page) _ _ _ c.any.ensures.ran (YieldsList-from_slice (standing a.l.layout.now) cc) (λ x b q k. search (rules, tests))
    ∙ past_any s a.page (standing a.l.layout.now)
