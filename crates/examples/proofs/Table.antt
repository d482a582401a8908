-- Document 01's examples 1 to 9 hold, all together, line by line. Assumes nothing.
use mathlib.Core.Path.{◌≡◌, refl}
use mathlib.Core.List.{map}
use lib.ListN.{length}
use Rattle.rules.specs.TableWords.{Line}
use Rattle.examples.specs.TableWords.{after, point, zone_columns, pixel, composes, holding}
use Rattle.examples.specs.Table.{five, first, second, third, fourth, eight, fifth, sixth, both_threes, threes_on, seventh, turned_on, eighth, to_eight, outlining, nines, page_bytes, ninth, table}
use Rattle.examples.proofs.Rules.{below}

-- every rule, open
rules : Unit {0}
unfolding below after point zone_columns pixel composes holding five first second third fourth eight fifth sixth both_threes threes_on seventh turned_on eighth to_eight outlining nines page_bytes ninth table
rules = tt

pub table-holds : map (λ (l : Line). l.0) table ≡ map (λ (l : Line). l.1) table
unfolding rules
table-holds = refl

pub table_lines : length table ≡ 29
unfolding rules
table_lines = refl
