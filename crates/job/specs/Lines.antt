-- What a line of a job says.
-- Assumes nothing.
use Rattle.std.specs.Prelude.{ℕ, Bool, cond, ◌&&◌, List, [], ◌∷◌, Some, None, Result, Ok, Err, eqb, length}
use Rattle.geometry.specs.Words.{all_of}
use Rattle.art.specs.declared.memory_rgba8_texture.Image.{Image}
use Rattle.art.specs.declared.memory_rgba8_texture.Pixel.{Pixel}
use Rattle.records.specs.declared.texture_packer_config.Config.{Config}
use Rattle.records.specs.declared.frame.Key.{Key}
use Rattle.paint.specs.declared.background.Colour.{Colour}
use Rattle.job.specs.Bytes.{says}
use Rattle.job.specs.Words.{words_in, word, is_number, to_number, is_part, to_part, is_switch, to_switch, is_store, to_store, is_threshold, to_threshold}
use Rattle.job.specs.declared.lines.Line.{Line}
use Rattle.job.specs.declared.lines.Line.TheVariants.{Empty, Settings, Ground, Picture}
use Rattle.job.specs.declared.lines.Trouble.{Trouble}
use Rattle.job.specs.declared.lines.Trouble.TheVariants.{UnknownWord, BadConfig, BadBackground, BadImage}

-- ## config: 7 numbers and 4 switches

unfoldable pub config_ok : List (List ℕ) → Bool
config_ok ws =
    all_of
    (eqb (length ws) 12
    ∷ is_number (word 1 ws)
    ∷ is_number (word 2 ws)
    ∷ is_number (word 3 ws)
    ∷ is_number (word 4 ws)
    ∷ is_number (word 5 ws)
    ∷ is_number (word 6 ws)
    ∷ is_number (word 7 ws)
    ∷ is_switch (word 8 ws)
    ∷ is_switch (word 9 ws)
    ∷ is_switch (word 10 ws)
    ∷ is_switch (word 11 ws)
    ∷ [])

unfoldable pub config_of : List (List ℕ) → Config
config_of ws =
    record {
      maxw = to_number (word 1 ws);
      maxh = to_number (word 2 ws);
      padding = to_number (word 3 ws);
      border = to_number (word 4 ws);
      extrusion = to_number (word 5 ws);
      pages = to_number (word 6 ws);
      images = to_number (word 7 ws);
      rotation = to_switch (word 8 ws);
      trim = to_switch (word 9 ws);
      outlines = to_switch (word 10 ws);
      forced = to_switch (word 11 ws);
    }

unfoldable pub config_line : List (List ℕ) → Result Line Trouble
config_line ws = cond (config_ok ws) (Ok (Settings (config_of ws))) (Err BadConfig)

-- ## background: none; or red, green, blue, alpha, threshold, discard

unfoldable pub clear_ok : List (List ℕ) → Bool
clear_ok ws = eqb (length ws) 2 && says "none" (word 1 ws)

unfoldable pub colour_ok : List (List ℕ) → Bool
colour_ok ws =
    all_of
    (eqb (length ws) 7
    ∷ is_part (word 1 ws)
    ∷ is_part (word 2 ws)
    ∷ is_part (word 3 ws)
    ∷ is_part (word 4 ws)
    ∷ is_threshold (word 5 ws)
    ∷ is_switch (word 6 ws)
    ∷ [])

unfoldable pub pixel_of : List (List ℕ) → Pixel
pixel_of ws = record { r = to_part (word 1 ws); g = to_part (word 2 ws); b = to_part (word 3 ws); a = to_part (word 4 ws) }

unfoldable pub colour_of : List (List ℕ) → Colour
colour_of ws = record { pixel = pixel_of ws; threshold = to_threshold (word 5 ws); discard = to_switch (word 6 ws) }

unfoldable pub ground_line : List (List ℕ) → Result Line Trouble
ground_line ws = cond (clear_ok ws) (Ok (Ground None)) (cond (colour_ok ws) (Ok (Ground (Some (colour_of ws)))) (Err BadBackground))

-- ## image: key, store, offset, width, height

unfoldable pub image_ok : List (List ℕ) → Bool
image_ok ws =
    all_of
    (eqb (length ws) 6
    ∷ is_number (word 1 ws)
    ∷ is_store (word 2 ws)
    ∷ is_number (word 3 ws)
    ∷ is_number (word 4 ws)
    ∷ is_number (word 5 ws)
    ∷ [])

unfoldable pub key_of : List (List ℕ) → Key
key_of ws = record { 0 = to_number (word 1 ws) }

unfoldable pub image_of : List (List ℕ) → Image
image_of ws =
    record {
      store = to_store (word 2 ws);
      offset = to_number (word 3 ws);
      w = to_number (word 4 ws);
      h = to_number (word 5 ws);
    }

unfoldable pub image_line : List (List ℕ) → Result Line Trouble
image_line ws = cond (image_ok ws) (Ok (Picture (key_of ws) (image_of ws))) (Err BadImage)

-- ## a line: without words it means nothing; else the first word says what it is

unfoldable pub said : List (List ℕ) → Result Line Trouble
said [] = Ok Empty
said (w ∷ ws) =
    cond (says "config" w) (config_line (w ∷ ws))
    (cond (says "background" w) (ground_line (w ∷ ws))
    (cond (says "image" w) (image_line (w ∷ ws))
    (Err UnknownWord)))

unfoldable pub line_in : List ℕ → Result Line Trouble
line_in line = said (words_in line)
