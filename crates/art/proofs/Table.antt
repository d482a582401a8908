-- The table of specs/Table.antt holds, line by line. Assumes nothing.
use mathlib.Core.Path.{◌≡◌, refl}
use mathlib.Core.List.{map}
use lib.ListN.{length}
use Rattle.geometry.specs.Words.{from, any, only, earliest, greatest}
use Rattle.art.specs.Stores.{bytes_of, runs_past, place_of, pixel_from, pixel_in, upright_pixel, turned_point, turned_pixel}
use Rattle.art.specs.Trimming.{visible, column_visible, row_visible, all_clear, first_seen, past_seen, smallest_box, whole_box, trim_box, trimmed_to}
use Rattle.art.specs.Table.{Line, image, rect, rgba, numbers, one_if, clear, shown, counting, trims, turned_reds, turned_lines, pixel_lines, past_lines, trim_lines, table}

-- every rule, open
rules : Unit {0}
unfolding from any only earliest greatest bytes_of runs_past place_of pixel_from pixel_in upright_pixel turned_point turned_pixel visible column_visible row_visible all_clear first_seen past_seen smallest_box whole_box trim_box trimmed_to image rect rgba numbers one_if clear shown counting trims turned_reds turned_lines pixel_lines past_lines trim_lines table
rules = tt

pub table-holds : map (λ (l : Line). l.0) table ≡ map (λ (l : Line). l.1) table
unfolding rules
table-holds = refl

pub table_lines : length table ≡ 22
unfolding rules
table_lines = refl
