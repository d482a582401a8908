-- The table of specs/Table.antt holds, line by line. Assumes nothing.
use mathlib.Core.Path.{◌≡◌, refl}
use mathlib.Core.List.{map}
use lib.ListN.{length}
use lib.Ieee.{of_bits, to_bits, of_int, add, sub, div, le}
use Rattle.geometry.specs.Words.{all_of, all, any, only, earliest, greatest}
use Rattle.geometry.specs.Placing.{lying}
use Rattle.records.specs.Refusals.{first_refusal}
use Rattle.records.specs.Settings.{in_bounds, blank_record}
use Rattle.records.specs.Records.{all_zero, is_blank, size_of, whole_of, box_of, lies_in, box_inside, record_well_formed}
use Rattle.records.specs.Layouts.{standing, unused, well_formed, has_key, record_of, on_page, ends_of, size_of_page, record_named}
use Rattle.records.specs.Samples.{settings, rect, source, made, laid}
use Rattle.coords.specs.Coordinates.{corners, named_page_size, between, past_edge, locate_row, locate_refusal, located}
use Rattle.coords.specs.Table.{Line, stands, alone, several, answer, inset, frame_is, numbers_are, on_eight, edge_lines, inset_lines, sixth, furthest, round_lines, past_maxima, past_lines, unformed, order_lines, mixed, key_lines, table}

-- every rule, open
rules : Unit {0}
unfolding of_bits to_bits of_int add sub div le all_of all any only earliest greatest lying first_refusal in_bounds blank_record all_zero is_blank size_of whole_of box_of lies_in box_inside record_well_formed standing unused well_formed has_key record_of on_page ends_of size_of_page settings rect source made laid corners record_named named_page_size between past_edge locate_row locate_refusal located stands alone several answer inset frame_is numbers_are on_eight edge_lines inset_lines sixth furthest round_lines past_maxima past_lines unformed order_lines mixed key_lines table
rules = tt

pub table-holds : map (λ (l : Line). l.0) table ≡ map (λ (l : Line). l.1) table
unfolding rules
table-holds = refl

pub table_lines : length table ≡ 47
unfolding rules
table_lines = refl
