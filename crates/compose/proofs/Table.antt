-- The table of specs/Table.antt holds, line by line. Assumes nothing.
use mathlib.Core.Path.{◌≡◌, refl}
use mathlib.Core.List.{map}
use lib.ListN.{length}
use Rattle.geometry.specs.Words.{from, all_of, all, any, only, earliest, greatest, flat}
use Rattle.geometry.specs.Rects.{on_span, at_end, holds_point, on_outline}
use Rattle.geometry.specs.Placing.{lying}
use Rattle.art.specs.Stores.{bytes_of, runs_past, place_of, pixel_from, pixel_in, upright_pixel, turned_point, turned_pixel}
use Rattle.art.specs.Trimming.{first_seen}
use Rattle.records.specs.Refusals.{first_refusal}
use Rattle.records.specs.Settings.{in_bounds, blank_record}
use Rattle.records.specs.Records.{all_zero, is_blank, size_of, whole_of, box_of, image_of, lies_in, box_inside, record_well_formed}
use Rattle.records.specs.Layouts.{standing, unused, well_formed, on_page, page_count, ends_of, size_of_page}
use Rattle.records.specs.Operations.{no_such_page}
use Rattle.records.specs.Samples.{bit, settings, limits, rect, source, made, laid}
use Rattle.lookup.specs.Zones.{zone, reaches, owner, local, box_pixel, red, frame_pixel, pixel_of, pixel_among, pixel_at}
use Rattle.lookup.specs.Looking.{page_past}
use Rattle.lookup.specs.TableWords.{Line, page, counting, standing_in, whole}
use Rattle.lookup.specs.Table.{both_stores, trimmed, turned_art, upright_art, framed, extruded, shared, left, right, empty_first, unformed}
use Rattle.paint.specs.Backgrounds.{clear_pixel, solid, composed}
use Rattle.paint.specs.Pictures.{bytes, line, picture, composed_at, band}
use Rattle.compose.specs.Composing.{empty_page, bad_rows, bad_length, band_refusal, composed_answer, composed_buffer}
use Rattle.compose.specs.Checking.{same_pixel, differs, column_off, row_off, compared, checked_rows}
use Rattle.compose.specs.TableWords.{colour, plain, plain_discarding, at_most, at_most_discarding, counted, opaque, ground_bytes, clear, red_bytes, pixels, room, composing, done, checking, checking_composed, same, off, changed, asking, refused_both}
use Rattle.compose.specs.TableChecks.{holed, ask_holed, empty_at, order_lines, wide, wide_top, wide_last, wide_rows, check_wide, check_changed, check_both_changed, check_tall, check_lines}
use Rattle.compose.specs.Table.{holed_rows, pair, pair_row, background_lines, framed_row, oblong_row, outline_lines, trim_lines, two_pages, bordered, forced_pages, page_lines, passing, full_width, zone_lines, table}

-- every rule, open
rules : Unit {0}
unfolding from all_of all any only earliest greatest flat on_span at_end holds_point on_outline lying bytes_of runs_past place_of pixel_from pixel_in upright_pixel turned_point turned_pixel first_seen first_refusal in_bounds blank_record all_zero is_blank size_of whole_of box_of image_of lies_in box_inside record_well_formed standing unused well_formed on_page page_count ends_of size_of_page no_such_page bit settings limits rect source made laid zone reaches owner local box_pixel red frame_pixel pixel_of pixel_among pixel_at page_past page counting standing_in whole both_stores trimmed turned_art upright_art framed extruded shared left right empty_first unformed clear_pixel solid composed bytes line picture composed_at band empty_page bad_rows bad_length band_refusal composed_answer composed_buffer same_pixel differs column_off row_off compared checked_rows colour plain plain_discarding at_most at_most_discarding counted opaque ground_bytes clear red_bytes pixels room composing done checking checking_composed same off changed asking refused_both holed ask_holed empty_at order_lines wide wide_top wide_last wide_rows check_wide check_changed check_both_changed check_tall check_lines holed_rows pair pair_row background_lines framed_row oblong_row outline_lines trim_lines two_pages bordered forced_pages page_lines passing full_width zone_lines table
rules = tt

pub table-holds : map (λ (l : Line). l.0) table ≡ map (λ (l : Line). l.1) table
unfolding rules
table-holds = refl

pub table_lines : length table ≡ 87
unfolding rules
table_lines = refl
