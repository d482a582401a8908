-- The table of specs/Table.antt holds, row by row. Assumes nothing.
use mathlib.Core.Path.{◌≡◌, refl}
use mathlib.Core.List.{List, [], ◌∷◌}
use Rattle.geometry.specs.Words.{all_of, all, only, flat}
use Rattle.records.specs.Settings.{blank_config}
use Rattle.job.specs.Bytes.{up_to, onto, pieces, filled, same, bytes_of}
use Rattle.job.specs.Numbers.{value_from, number_in}
use Rattle.job.specs.Words.{uncommented, split, words_in, is_number, to_number, small, is_part, to_part, is_switch, to_switch, is_store, to_store, is_threshold, to_threshold}
use Rattle.job.specs.Lines.{config_ok, config_of, config_line, clear_ok, colour_ok, pixel_of, colour_of, ground_line, image_ok, key_of, image_of, image_line, said, line_in}
use Rattle.job.specs.Jobs.{blank_entry, opened_job, blank_job, grounded, entered, with_config, with_ground, next_image, with_image, stepped, taken, after, ended, lines_in, job_in}
use Rattle.job.specs.Table.{Row, numbers_of, one_if, store_of, trouble_of, config_numbers, limit_of, ground_numbers, image_numbers, line_numbers, outcome_numbers, entry_numbers, number, line, outcome, job, entries, settings, ground_told, nearly_full, many, example, number_rows, empty_rows, config_rows, ground_rows, image_rows, example_rows, accepted_rows, missing_rows, refused_rows, limit_rows}

-- every rule, open
rules : Unit {0}
unfolding all_of all only flat blank_config up_to onto pieces filled same bytes_of value_from number_in uncommented split words_in is_number to_number small is_part to_part is_switch to_switch is_store to_store is_threshold to_threshold config_ok config_of config_line clear_ok colour_ok pixel_of colour_of ground_line image_ok key_of image_of image_line said line_in blank_entry opened_job blank_job grounded entered with_config with_ground next_image with_image stepped taken after ended lines_in job_in numbers_of one_if store_of trouble_of config_numbers limit_of ground_numbers image_numbers line_numbers outcome_numbers entry_numbers number line outcome job entries settings ground_told nearly_full many example number_rows empty_rows config_rows ground_rows image_rows example_rows accepted_rows missing_rows refused_rows limit_rows
rules = tt

-- each row is what it must be
abbrev Each : List Row → Type 0
Each [] = Unit {0}
Each (r ∷ rows) = (r.0 ≡ r.1) × Each rows

pub numbers_hold : Each number_rows
unfolding rules
numbers_hold = (refl, (refl, (refl, (refl, (refl, (refl, (refl, (refl, (refl, (refl, (refl, (refl, (refl, (refl, (refl, tt)))))))))))))))

pub empty_hold : Each empty_rows
unfolding rules
empty_hold = (refl, (refl, (refl, (refl, (refl, (refl, (refl, (refl, tt))))))))

pub configs_hold : Each config_rows
unfolding rules
configs_hold = (refl, (refl, (refl, (refl, (refl, (refl, (refl, (refl, (refl, (refl, (refl, (refl, (refl, tt)))))))))))))

pub grounds_hold : Each ground_rows
unfolding rules
grounds_hold = (refl, (refl, (refl, (refl, (refl, (refl, (refl, (refl, (refl, (refl, (refl, (refl, tt))))))))))))

pub images_hold : Each image_rows
unfolding rules
images_hold = (refl, (refl, (refl, (refl, (refl, (refl, (refl, (refl, tt))))))))

pub examples_hold : Each example_rows
unfolding rules
examples_hold = (refl, (refl, (refl, (refl, tt))))

pub accepted_hold : Each accepted_rows
unfolding rules
accepted_hold = (refl, (refl, (refl, (refl, tt))))

pub missing_hold : Each missing_rows
unfolding rules
missing_hold = (refl, (refl, (refl, (refl, (refl, tt)))))

pub refusals_hold : Each refused_rows
unfolding rules
refusals_hold = (refl, (refl, (refl, (refl, (refl, (refl, tt))))))

pub limits_hold : Each limit_rows
unfolding rules
limits_hold = (refl, (refl, tt))
