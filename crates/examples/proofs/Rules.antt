-- What the tables compute with: every rule of the crates below, and every word of their tables, open. Assumes nothing.
use lib.Ieee.{of_bits, to_bits, of_int, add, sub, div, le}
use Rattle.geometry.specs.Words.{from, all_of, all, any, only, earliest, greatest, flat, before}
use Rattle.geometry.specs.Rects.{on_span, at_end, holds_point, on_outline}
use Rattle.geometry.specs.Placing.{height, is_start, starts_from, segment, top, lying, cell_at, spot_at, inside, orientations, fitting_at, candidates_from, rank, better, best_of, spot_for}
use Rattle.art.specs.Stores.{bytes_of, runs_past, place_of, pixel_from, pixel_in, upright_pixel, turned_point, turned_pixel}
use Rattle.art.specs.Trimming.{visible, column_visible, row_visible, all_clear, first_seen, past_seen, smallest_box, whole_box, trim_box}
use Rattle.records.specs.Refusals.{first_refusal}
use Rattle.records.specs.Settings.{in_bounds, blank_config, blank_record, empty_layout}
use Rattle.records.specs.Records.{all_zero, is_blank, size_of, whole_of, box_of, image_of, lies_in, box_inside, record_well_formed}
use Rattle.records.specs.Layouts.{standing, unused, well_formed, has_key, record_of, record_named, on_page, page_count, ends_of, size_of_page}
use Rattle.records.specs.Operations.{open_row, open_refusal, opened, no_such_page, size_row, size_refusal, page_sized}
use Rattle.records.specs.Samples.{bit, settings, rect, source, made, record_numbers, config_numbers, layout_numbers}
use Rattle.rules.specs.Placing.{canvas, margin, cell_size, spot_on, cell_of, cells_on, first_page, page_for, record_at, record_for, placed}
use Rattle.rules.specs.Faithful.{keys_differ, art_of, same_spot, placed_so, whole_if_untrimmed, faithful}
use Rattle.rules.specs.Operations.{bad_size, ask_refusal, fits_page, asked, art_for, fits_empty, too_large, pages_full, offer_refusal, with_record, offered, withdraw_refusal, without_latest, withdrawn}
use Rattle.rules.specs.Story.{filled, step, layout_after}
use Rattle.rules.specs.TableWords.{config, plain, padded, bordered, extruded, limited, rotating, trimming, key, page, image, white, clear, shown, symbols, dot, offer_of, offer, ask, answer, answers_from, answers, page_after, at, turned_at, it_fits, it_does_not, gone_key, sides, refused, made as rule_made, whole, record_numbers as rule_numbers, record_after}
use Rattle.lookup.specs.Zones.{zone, reaches, owner, local, box_pixel, red, frame_pixel, pixel_of, pixel_among, pixel_at}
use Rattle.lookup.specs.Looking.{page_past, look_refusal, looked}
use Rattle.lookup.specs.Reading.{read_refusal, read, row_part, empty_part, part_read, part_bytes}
use Rattle.lookup.specs.TableWords.{page as look_page, key as look_key, counting, at as look_at, across, shown as look_shown, nothing, refused as look_refused, part_numbers, row, refused_row}
use Rattle.paint.specs.Backgrounds.{clear_pixel, solid, composed}
use Rattle.paint.specs.Pictures.{bytes, line, picture, composed_at, band}
use Rattle.compose.specs.Composing.{empty_page, bad_rows, bad_length, band_refusal, composed_answer, composed_buffer}
use Rattle.compose.specs.Checking.{same_pixel, differs, column_off, row_off, compared, checked_rows}
use Rattle.coords.specs.Coordinates.{corners, named_page_size, between, past_edge, locate_row, locate_refusal, located}
use Rattle.coords.specs.Bits.{decoded_fields, decoded}
use Rattle.coords.specs.Table.{answer as coordinates, inset, frame_is, numbers_are}

geometry : Unit {0}
unfolding from all_of all any only earliest greatest flat before on_span at_end holds_point on_outline height is_start starts_from segment top lying cell_at spot_at inside orientations fitting_at candidates_from rank better best_of spot_for
geometry = tt

art : Unit {0}
unfolding bytes_of runs_past place_of pixel_from pixel_in upright_pixel turned_point turned_pixel visible column_visible row_visible all_clear first_seen past_seen smallest_box whole_box trim_box
art = tt

records : Unit {0}
unfolding first_refusal in_bounds blank_config blank_record empty_layout all_zero is_blank size_of whole_of box_of image_of lies_in box_inside record_well_formed standing unused well_formed has_key record_of record_named on_page page_count ends_of size_of_page open_row open_refusal opened no_such_page size_row size_refusal page_sized bit settings rect source made record_numbers config_numbers layout_numbers
records = tt

rules : Unit {0}
unfolding canvas margin cell_size spot_on cell_of cells_on first_page page_for record_at record_for placed keys_differ art_of same_spot placed_so whole_if_untrimmed faithful bad_size ask_refusal fits_page asked art_for fits_empty too_large pages_full offer_refusal with_record offered withdraw_refusal without_latest withdrawn filled step layout_after config plain padded bordered extruded limited rotating trimming key page image white clear shown symbols dot offer_of offer ask answer answers_from answers page_after at turned_at it_fits it_does_not gone_key sides refused rule_made whole rule_numbers record_after
rules = tt

lookup : Unit {0}
unfolding zone reaches owner local box_pixel red frame_pixel pixel_of pixel_among pixel_at page_past look_refusal looked read_refusal read row_part empty_part part_read part_bytes look_page look_key counting look_at across look_shown nothing look_refused part_numbers row refused_row
lookup = tt

compose : Unit {0}
unfolding clear_pixel solid composed bytes line picture composed_at band empty_page bad_rows bad_length band_refusal composed_answer composed_buffer same_pixel differs column_off row_off compared checked_rows
compose = tt

coords : Unit {0}
unfolding of_bits to_bits of_int add sub div le corners named_page_size between past_edge locate_row locate_refusal located decoded_fields decoded coordinates inset frame_is numbers_are
coords = tt

unfoldable pub below : Unit {0}
unfolding geometry art records rules lookup compose coords
below = tt
