use Rattle.std.proofs.Common.{rules}
use borrow.Author.Tests.{tests}
use mathlib.Core.Path.{◌≡◌, sym, ◌∙◌}
use mathlib.Core.Bool.{false}
use native.Mathlib.Omega.{arith}
use Rattle.art.specs.Stores.{lent}
use Rattle.art.specs.Trimming.{column_visible, row_visible, first_seen, past_seen, all_clear}
use Rattle.art.proofs.Boxes.{left-clear, left_seen, some-pixel, columns, rows, box_is, clear-answer, box_answer}
use Rattle.art.proofs.trim.trim_texture.Goals.{After-first_seen-left, Else-left-image, After-past_seen-bottom}
use Rattle.art.proofs.trim.trim_texture.Goals as goal

-- `trim_texture` puts the smallest box together from the four searches; the first shows whether all is clear. Assumes nothing.
-- what the searches found, of the columns and of the rows that can be seen
left : (c : After-first_seen-left) → c.first_seen-left.result ≡ first_seen (column_visible (lent c.args.stores) c.args.image) c.args.image.w
left c = c.first_seen-left.ensures _ (λ k r h p. search (rules, tests))

right : (c : After-past_seen-bottom) → c.past_seen-right.result ≡ past_seen (column_visible (lent c.args.stores) c.args.image) c.args.image.w
right c = c.past_seen-right.ensures _ (λ k r h p. search (rules, tests))

top : (c : After-past_seen-bottom) → c.first_seen-top.result ≡ first_seen (row_visible (lent c.args.stores) c.args.image) c.args.image.h
top c = c.first_seen-top.ensures _ (λ k r h p. search (rules, tests))

bottom : (c : After-past_seen-bottom) → c.past_seen-bottom.result ≡ past_seen (row_visible (lent c.args.stores) c.args.image) c.args.image.h
bottom c = c.past_seen-bottom.ensures _ (λ k r h p. search (rules, tests))

-- a column is visible, so that not all is clear
seen : (c : Else-left-image) →
    let a = c.args in
    c.first_seen-left.result ≡ first_seen (column_visible (lent a.stores) a.image) a.image.w → all_clear (lent a.stores) a.image ≡ false
seen c l = left_seen _ _ (λ e. c.if-left-image.false (l ∙ e))

pub returns-then-left-image : goal.returns-then-left-image
returns-then-left-image c =
    let l = left (goal.at.returns-then-left-image c).After-first_seen-left in
    sym (clear-answer _ _ (left-clear _ _ (sym l ∙ c.if-left-image.true)))

pub overflow_sub-right : goal.overflow_sub-right
overflow_sub-right c =
    let l = left (goal.at.overflow_sub-right c).After-first_seen-left in
    let o = (columns _ _ (some-pixel _ _ (seen (goal.at.overflow_sub-right c).Else-left-image l))).ordered in
    omega (arith, right (goal.at.overflow_sub-right c).After-past_seen-bottom)

pub overflow_sub-bottom : goal.overflow_sub-bottom
overflow_sub-bottom c =
    let l = left (goal.at.overflow_sub-bottom c).After-first_seen-left in
    let o = (rows _ _ (some-pixel _ _ (seen (goal.at.overflow_sub-bottom c).Else-left-image l))).ordered in
    omega (arith, top (goal.at.overflow_sub-bottom c).After-past_seen-bottom, bottom (goal.at.overflow_sub-bottom c).After-past_seen-bottom)

pub returns : goal.returns
returns c =
    let l = left (goal.at.returns c).After-first_seen-left in
    let found = (goal.at.returns c).After-past_seen-bottom in
    sym (box_answer _ _ (seen (goal.at.returns c).Else-left-image l) c.new.result
    (c.new.ensures ∙ box_is _ _ _ _ _ _ l (right found) (top found) (bottom found)))
