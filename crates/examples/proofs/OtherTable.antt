-- Examples 10 and 11 hold, and so do the lines of our own. Assumes nothing.
use mathlib.Core.Path.{◌≡◌, refl}
use mathlib.Core.List.{map}
use lib.ListN.{length}
use Rattle.rules.specs.TableWords.{Line}
use Rattle.examples.specs.TableWords.{after, size_on, pixel, composes, holding, checks, same, off, every_answer}
use Rattle.examples.specs.OtherTable.{three_and_five, five_on, tenth, clear_square, long_line, eleventh, operations, all_set, drawn, three_offers, seven, nine, four, placed_on, behind, opaque, painted, row_two, row_three, two_rows, shown_on, read_on, left_on, story, table}
use Rattle.examples.proofs.Rules.{below}

-- every rule, open
rules : Unit {0}
unfolding below after size_on pixel composes holding checks same off every_answer three_and_five five_on tenth clear_square long_line eleventh operations all_set drawn three_offers seven nine four placed_on behind opaque painted row_two row_three two_rows shown_on read_on left_on story table
rules = tt

pub table-holds : map (λ (l : Line). l.0) table ≡ map (λ (l : Line). l.1) table
unfolding rules
table-holds = refl

pub table_lines : length table ≡ 36
unfolding rules
table_lines = refl
