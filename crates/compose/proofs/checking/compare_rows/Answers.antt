use native.Mathlib.Omega.{arith}
use mathlib.Core.Path.{sym, ◌∙◌}
use borrow.Author.Count.{below_more}
use Rattle.compose.proofs.Comparing.{row-off, all_same, first-differs, column-is, column-full}
use Rattle.compose.proofs.checking.compare_rows.Goals as goal

-- the column that was found in row v is the one that the picture gives
pub returns-in-Some : goal.returns-in-Some
returns-in-Some c f s =
    let l = c.loop-v in
    let found = c.in-Some.ensures.1 ∙ row-off f _ _ _ _ _ _ s c.loop-v-test.true in
    sym (first-differs f _ _ _ _ l.v _ c.loop-v-test.true (l.invariant f s) (column-is f _ _ _ _ l.v _ found) c.in-Some.ensures.0)

-- where none was found, the picture gives none
pub loop-v-preserved : goal.loop-v-preserved
loop-v-preserved c f s =
    let l = c.loop-v in
    let none = sym c.in_default.ensures ∙ row-off f _ _ _ _ _ _ s c.loop-v-test.true in
    below_more _ l.v (l.invariant f s) (column-full f _ _ _ _ l.v _ none (omega arith))

pub returns : goal.returns
returns c f s = let l = c.loop-v in sym (all_same f _ _ _ _ l.v c.loop-v-test.false (l.invariant f s))
