-- The configuration's bounds, and what is blank.
-- Assumes nothing.
use Rattle.std.specs.Prelude.{Bool, false, [], ◌∷◌, leb, replicate}
use Rattle.geometry.specs.Words.{all_of, within}
use Rattle.geometry.specs.declared.spot.Turn.TheVariants.{Upright}
use Rattle.art.specs.declared.memory_rgba8_texture.Store.TheVariants.{Symbols}
use Rattle.records.specs.declared.texture_packer_config.Config.{Config}
use Rattle.records.specs.declared.frame.Record.{Record}
use Rattle.records.specs.declared.layout.Layout.{Layout}

-- maximum width and height 1 to 4096; padding and border 0 to 64; extrusion 0 to 16; pages 1 to 8; images 1 to 256
unfoldable pub in_bounds : Config → Bool
in_bounds c =
    all_of
    (within 1 4096 c.maxw
    ∷ within 1 4096 c.maxh
    ∷ leb c.padding 64
    ∷ leb c.border 64
    ∷ leb c.extrusion 16
    ∷ within 1 8 c.pages
    ∷ within 1 256 c.images
    ∷ [])

-- configuration numbers 0, switches off
unfoldable pub blank_config : Config
blank_config =
    record {
      maxw = 0;
      maxh = 0;
      padding = 0;
      border = 0;
      extrusion = 0;
      pages = 0;
      images = 0;
      rotation = false;
      trim = false;
      outlines = false;
      forced = false;
    }

-- all numbers 0, trimmed mark off, upright, symbol store
unfoldable pub blank_record : Record
blank_record =
    record {
      key = record { 0 = 0 };
      page = record { 0 = 0 };
      frame = record { x = 0; y = 0; w = 0; h = 0 };
      turn = Upright;
      trimmed = false;
      source = record { x = 0; y = 0; w = 0; h = 0 };
      store = Symbols;
      offset = 0;
    }

-- no image
unfoldable pub empty_layout : Config → Layout
empty_layout c = record { config = c; count = 0; records = replicate 256 blank_record }
