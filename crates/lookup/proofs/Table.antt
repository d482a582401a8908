-- The table of specs/Table.antt holds, line by line. Assumes nothing.
use mathlib.Core.Path.{◌≡◌, refl}
use mathlib.Core.List.{map}
use lib.ListN.{length}
use Rattle.geometry.specs.Words.{from, all_of, all, any, only, earliest, greatest}
use Rattle.geometry.specs.Rects.{on_span, at_end, holds_point, on_outline}
use Rattle.geometry.specs.Placing.{lying}
use Rattle.art.specs.Stores.{bytes_of, runs_past, place_of, pixel_from, pixel_in, upright_pixel, turned_point, turned_pixel}
use Rattle.records.specs.Refusals.{first_refusal}
use Rattle.records.specs.Settings.{in_bounds, blank_record}
use Rattle.records.specs.Records.{all_zero, is_blank, size_of, whole_of, box_of, image_of, lies_in, box_inside, record_well_formed}
use Rattle.records.specs.Layouts.{standing, unused, well_formed, has_key, record_of, record_named, on_page, page_count}
use Rattle.records.specs.Operations.{no_such_page}
use Rattle.records.specs.Samples.{settings, limits, rect, source, made, laid}
use Rattle.lookup.specs.Zones.{zone, reaches, owner, local, box_pixel, red, frame_pixel, pixel_of, pixel_among, pixel_at}
use Rattle.lookup.specs.Looking.{page_past, look_refusal, looked}
use Rattle.lookup.specs.Reading.{read_refusal, read, row_part, empty_part, part_read, part_bytes}
use Rattle.lookup.specs.TableWords.{Line, page, key, counting, standing_in, whole, at, across, shown, outlined, nothing, refused, part_numbers, row, handed, refused_row}
use Rattle.lookup.specs.Table.{both_stores, store_lines, row_lines, trimmed, turned_art, upright_art, trim_lines, framed, outline_lines, extruded, shared, left, right, empty_first, zone_lines, unformed, repeated, order_lines, table}

-- every rule, open
rules : Unit {0}
unfolding from all_of all any only earliest greatest on_span at_end holds_point on_outline lying bytes_of runs_past place_of pixel_from pixel_in upright_pixel turned_point turned_pixel first_refusal in_bounds blank_record all_zero is_blank size_of whole_of box_of image_of lies_in box_inside record_well_formed standing unused well_formed has_key record_of record_named on_page page_count no_such_page settings limits rect source made laid zone reaches owner local box_pixel red frame_pixel pixel_of pixel_among pixel_at page_past look_refusal looked read_refusal read row_part empty_part part_read part_bytes page key counting standing_in whole at across shown outlined nothing refused part_numbers row handed refused_row both_stores store_lines row_lines trimmed turned_art upright_art trim_lines framed outline_lines extruded shared left right empty_first zone_lines unformed repeated order_lines table
rules = tt

pub table-holds : map (λ (l : Line). l.0) table ≡ map (λ (l : Line). l.1) table
unfolding rules
table-holds = refl

pub table_lines : length table ≡ 65
unfolding rules
table_lines = refl
