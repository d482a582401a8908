-- The table of specs/Table.antt holds, line by line. Assumes nothing.
use mathlib.Core.Path.{◌≡◌, refl}
use mathlib.Core.List.{map}
use lib.ListN.{length}
use Rattle.std.specs.Fmt.{digits}
use Rattle.tool.specs.Paths.{page_name}
use Rattle.tool.specs.Table.{Line, name_lines}

pub names-hold : map (λ (l : Line). l.0) name_lines ≡ map (λ (l : Line). l.1) name_lines
unfolding name_lines page_name digits
names-hold = refl

pub lines_of_names : length name_lines ≡ 5
unfolding name_lines
lines_of_names = refl
