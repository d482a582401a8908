-- The table of specs/Table.antt holds, line by line. Assumes nothing.
use mathlib.Core.Path.{◌≡◌, refl}
use mathlib.Core.List.{map}
use lib.ListN.{length}
use Rattle.geometry.specs.Words.{from, all_of, all, only, earliest, greatest, flat}
use Rattle.geometry.specs.Placing.{lying}
use Rattle.records.specs.Refusals.{first_refusal}
use Rattle.records.specs.Settings.{in_bounds, blank_config, blank_record, empty_layout}
use Rattle.records.specs.Records.{all_zero, is_blank, size_of, whole_of, box_of, image_of, lies_in, box_inside, record_well_formed}
use Rattle.records.specs.Layouts.{standing, unused, well_formed, has_key, record_of, key_place, on_page, page_count, ends_of, size_of_page}
use Rattle.records.specs.Operations.{open_row, open_refusal, opened, no_such_page, size_row, size_refusal, page_sized}
use Rattle.records.specs.Samples.{bit, settings, limits, rect, source, made, laid, record_numbers, config_numbers, layout_numbers, opening_numbers}
use Rattle.records.specs.Table.{Line, passes, fails, bound_lines, open_lines, blank_lines, strict, stands, ok, record_lines, box_numbers, size_numbers, image_numbers, lies, art_lines, good, bad, rest, full, formed_lines, named, keyed, found_at, key_lines, on_pages, size_on, paged, overrun, furthest, page_lines, table}

-- every rule, open
rules : Unit {0}
unfolding from all_of all only earliest greatest flat lying first_refusal in_bounds blank_config blank_record empty_layout all_zero is_blank size_of whole_of box_of image_of lies_in box_inside record_well_formed standing unused well_formed has_key record_of key_place on_page page_count ends_of size_of_page open_row open_refusal opened no_such_page size_row size_refusal page_sized bit passes fails settings limits rect source made laid record_numbers config_numbers layout_numbers opening_numbers bound_lines open_lines blank_lines strict stands ok record_lines box_numbers size_numbers image_numbers lies art_lines good bad rest full formed_lines named keyed found_at key_lines on_pages size_on paged overrun furthest page_lines table
rules = tt

pub table-holds : map (λ (l : Line). l.0) table ≡ map (λ (l : Line). l.1) table
unfolding rules
table-holds = refl

pub table_lines : length table ≡ 97
unfolding rules
table_lines = refl
