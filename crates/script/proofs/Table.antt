-- The table of specs/Table.antt holds, line by line. Assumes nothing.
use mathlib.Core.List.{map}
use mathlib.Core.Path.{◌≡◌, refl}
use lib.Ieee.{of_bits, to_bits, of_int, add, sub, div, le}
use lib.ListN.{length}
use Rattle.geometry.specs.Placing.{height, is_start, starts_from, segment, top, lying, cell_at, spot_at, inside, orientations, fitting_at, candidates_from, rank, better, best_of, spot_for}
use Rattle.geometry.specs.Rects.{on_span, at_end, holds_point, on_outline}
use Rattle.geometry.specs.Words.{from, all_of, all, any, only, earliest, greatest, flat, before}
use Rattle.art.specs.Stores.{bytes_of, runs_past, place_of, pixel_from, pixel_in, upright_pixel, turned_point, turned_pixel}
use Rattle.art.specs.Trimming.{visible, column_visible, row_visible, all_clear, first_seen, past_seen, smallest_box, whole_box, trim_box}
use Rattle.records.specs.Layouts.{standing, unused, well_formed, has_key, record_of, record_named, on_page, page_count, ends_of, size_of_page}
use Rattle.records.specs.Operations.{open_row, open_refusal, opened, no_such_page, size_row, size_refusal, page_sized}
use Rattle.records.specs.Records.{all_zero, is_blank, size_of, whole_of, box_of, image_of, lies_in, box_inside, record_well_formed}
use Rattle.records.specs.Refusals.{first_refusal}
use Rattle.records.specs.Samples.{bit, record_numbers, config_numbers, layout_numbers}
use Rattle.records.specs.Settings.{in_bounds, blank_config, blank_record, empty_layout}
use Rattle.rules.specs.Faithful.{keys_differ, art_of, same_spot, placed_so, whole_if_untrimmed, faithful}
use Rattle.rules.specs.Operations.{bad_size, ask_refusal, fits_page, asked, art_for, fits_empty, too_large, pages_full, offer_refusal, with_record, offered, withdraw_refusal, without_latest, withdrawn}
use Rattle.rules.specs.Placing.{canvas, margin, cell_size, spot_on, cell_of, cells_on, first_page, page_for, record_at, record_for, placed}
use Rattle.coords.specs.Coordinates.{corners, named_page_size, between, past_edge, locate_row, locate_refusal, located}
use Rattle.lookup.specs.Looking.{page_past, look_refusal, looked}
use Rattle.lookup.specs.Reading.{read_refusal, read, row_part, empty_part, part_read, part_bytes}
use Rattle.lookup.specs.Zones.{zone, reaches, owner, local, box_pixel, red, frame_pixel, pixel_of, pixel_among, pixel_at}
use Rattle.paint.specs.Backgrounds.{clear_pixel, solid, composed}
use Rattle.paint.specs.Pictures.{bytes, line, picture, composed_at, band}
use Rattle.compose.specs.Checking.{same_pixel, differs, column_off, row_off, compared, checked_rows}
use Rattle.compose.specs.Composing.{empty_page, bad_rows, bad_length, band_refusal, composed_answer, composed_buffer}
use Rattle.wire.specs.Bytes.{word_at, word_bytes, words_bytes}
use Rattle.wire.specs.Fields.{is_on, store_of, turn_of, picked, config_with, frame_with, source_with, record_with, is_field, with_config, with_count, with_record_at, layout_with}
use Rattle.commands.specs.Reading.{config_at, page_at, size_at, key_at, image_at, request_of, colour_of, threshold_of, background_at}
use Rattle.commands.specs.Taking.{words_of}
use Rattle.commands.specs.Telling.{open_told, ask_told, offer_told, withdraw_told, size_told, pixel_told, locate_told}
use Rattle.script.specs.Running.{ran_from, ran}
use Rattle.script.specs.Stepping.{answer_bytes, end_bytes, saying, next_at, telling, compose_outcome, compose_pixels, compose_step, check_source, check_past, check_numbers, check_step, row_step, set_step, data_step, command_step, stepped}
use Rattle.script.specs.Table.{Line, pixels, stores, run_in, runs, byte_lines, opening, offering, opened as script_opened, placed_at, afterwards, said, command_lines, said_bytes, composing, compose_over, checking, row_lines, check_lines, set_lines, only1, with1, field_lines, table}

-- every rule, opening
rules : Unit {0}
unfolding of_bits to_bits of_int add sub div le from all_of all any only earliest greatest flat before on_span at_end holds_point on_outline height is_start starts_from segment top lying cell_at spot_at inside orientations fitting_at candidates_from rank better best_of spot_for bytes_of runs_past place_of pixel_from pixel_in upright_pixel turned_point turned_pixel visible column_visible row_visible all_clear first_seen past_seen smallest_box whole_box trim_box first_refusal in_bounds blank_config blank_record empty_layout all_zero is_blank size_of whole_of box_of image_of lies_in box_inside record_well_formed standing unused well_formed has_key record_of record_named on_page page_count ends_of size_of_page open_row open_refusal opened no_such_page size_row size_refusal page_sized canvas margin cell_size spot_on cell_of cells_on first_page page_for record_at record_for placed keys_differ art_of same_spot placed_so whole_if_untrimmed faithful bad_size ask_refusal fits_page asked art_for fits_empty too_large pages_full offer_refusal with_record offered withdraw_refusal without_latest withdrawn zone reaches owner local box_pixel red frame_pixel pixel_of pixel_among pixel_at page_past look_refusal looked read_refusal read row_part empty_part part_read part_bytes clear_pixel solid composed bytes line picture composed_at band empty_page bad_rows bad_length band_refusal composed_answer composed_buffer same_pixel differs column_off row_off compared checked_rows corners named_page_size between past_edge locate_row locate_refusal located bit record_numbers config_numbers layout_numbers word_at word_bytes words_bytes is_on store_of turn_of picked config_with frame_with source_with record_with is_field with_config with_count with_record_at layout_with config_at page_at size_at key_at image_at request_of colour_of threshold_of background_at words_of open_told ask_told offer_told withdraw_told size_told pixel_told locate_told answer_bytes end_bytes saying next_at telling compose_outcome compose_pixels compose_step check_source check_past check_numbers check_step row_step set_step data_step command_step stepped ran_from ran pixels stores run_in runs byte_lines opening offering script_opened placed_at afterwards said command_lines said_bytes composing compose_over checking row_lines check_lines set_lines only1 with1 field_lines table
rules = tt

pub table-holds : map (λ (l : Line). l.0) table ≡ map (λ (l : Line). l.1) table
unfolding rules
table-holds = refl

pub table_lines : length table ≡ 54
unfolding rules
table_lines = refl
