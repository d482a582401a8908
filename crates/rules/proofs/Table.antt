-- The table of specs/Table.antt holds, line by line. Assumes nothing.
use mathlib.Core.Path.{◌≡◌, refl}
use mathlib.Core.List.{map}
use lib.ListN.{length}
use Rattle.geometry.specs.Words.{from, all_of, all, any, only, earliest, greatest, flat, before}
use Rattle.geometry.specs.Rects.{on_span}
use Rattle.geometry.specs.Placing.{height, is_start, starts_from, segment, top, lying, cell_at, spot_at, inside, orientations, fitting_at, candidates_from, rank, better, best_of, spot_for}
use Rattle.art.specs.Stores.{bytes_of, runs_past, place_of, pixel_from, pixel_in}
use Rattle.art.specs.Trimming.{visible, column_visible, row_visible, all_clear, first_seen, past_seen, smallest_box, whole_box, trim_box}
use Rattle.records.specs.Refusals.{first_refusal}
use Rattle.records.specs.Settings.{in_bounds, blank_config, blank_record, empty_layout}
use Rattle.records.specs.Records.{all_zero, is_blank, size_of, whole_of, box_of, lies_in, box_inside, record_well_formed}
use Rattle.records.specs.Layouts.{standing, unused, well_formed, has_key, on_page, page_count}
use Rattle.records.specs.Operations.{open_row, open_refusal, opened, no_such_page}
use Rattle.rules.specs.Placing.{canvas, margin, cell_size, spot_on, cell_of, cells_on, first_page, page_for, record_at, record_for, placed}
use Rattle.rules.specs.Faithful.{keys_differ, art_of, same_spot, placed_so, whole_if_untrimmed, faithful}
use Rattle.rules.specs.Operations.{bad_size, ask_refusal, fits_page, asked, art_for, fits_empty, too_large, pages_full, offer_refusal, with_record, offered, withdraw_refusal, without_latest, withdrawn}
use Rattle.rules.specs.Story.{filled, step, layout_after}
use Rattle.rules.specs.TableWords.{Line, config, plain, padded, bordered, limited, rotating, trimming, key, page, image, white, clear, shown, symbols, speck, offer_of, offer, ask, answer, answers_from, answers, opens, at, turned_at, it_fits, it_does_not, gone_key, refused, made, whole, record_numbers, layout_numbers, places_after, record_after, each, is_faithful, all_refused}
use Rattle.rules.specs.Table.{one_page_trimming, padded_trimming, padded_one, rotating_trimming, placing, too_large_lines, mixed, column, unseen, trim_lines, some_clear, order_lines, two_pages, ask_lines, one_stands, withdraw_lines, faithful_lines, table}

-- every rule, open
rules : Unit {0}
unfolding from all_of all any only earliest greatest flat before on_span height is_start starts_from segment top lying cell_at spot_at inside orientations fitting_at candidates_from rank better best_of spot_for bytes_of runs_past place_of pixel_from pixel_in visible column_visible row_visible all_clear first_seen past_seen smallest_box whole_box trim_box first_refusal in_bounds blank_config blank_record empty_layout all_zero is_blank size_of whole_of box_of lies_in box_inside record_well_formed standing unused well_formed has_key on_page page_count open_row open_refusal opened no_such_page canvas margin cell_size spot_on cell_of cells_on first_page page_for record_at record_for placed keys_differ art_of same_spot placed_so whole_if_untrimmed faithful bad_size ask_refusal fits_page asked art_for fits_empty too_large pages_full offer_refusal with_record offered withdraw_refusal without_latest withdrawn filled step layout_after config plain padded bordered limited rotating trimming key page image white clear shown symbols speck offer_of offer ask answer answers_from answers opens at turned_at it_fits it_does_not gone_key refused made whole record_numbers layout_numbers places_after record_after each is_faithful all_refused one_page_trimming padded_trimming padded_one rotating_trimming placing too_large_lines mixed column unseen trim_lines some_clear order_lines two_pages ask_lines one_stands withdraw_lines faithful_lines table
rules = tt

pub table-holds : map (λ (l : Line). l.0) table ≡ map (λ (l : Line). l.1) table
unfolding rules
table-holds = refl

pub table_lines : length table ≡ 72
unfolding rules
table_lines = refl
