-- Values for the table: configurations, records and layouts from their numbers, and the numbers of a layout.
-- Assumes nothing.
use Rattle.std.specs.Prelude.{ℕ, ◌-◌, Bool, false, cond, List, [], ◌∷◌, ◌++◌, length, replicate}
use Rattle.geometry.specs.Words.{flat}
use Rattle.geometry.specs.Placing.{turn_number}
use Rattle.geometry.specs.declared.rect.Rect.{Rect}
use Rattle.geometry.specs.declared.spot.Turn.{Turn}
use Rattle.art.specs.declared.memory_rgba8_texture.Store.{Store}
use Rattle.records.specs.Settings.{blank_record}
use Rattle.records.specs.Records.{store_number}
use Rattle.records.specs.Operations.{Opening, opened_numbers}
use Rattle.records.specs.declared.texture_packer_config.Config.{Config}
use Rattle.records.specs.declared.frame.Source.{Source}
use Rattle.records.specs.declared.frame.Record.{Record}
use Rattle.records.specs.declared.layout.Layout.{Layout}

unfoldable pub bit : Bool → ℕ
bit b = cond b 1 0

-- maximum width and height, padding, border, extrusion, pages, images; rotation, trim, outlines and forced size by one switch each
unfoldable pub settings : ℕ → ℕ → ℕ → ℕ → ℕ → ℕ → ℕ → Bool → Bool → Bool → Bool → Config
settings w h p b e pages images rotation trim outlines forced =
    record {
      maxw = w;
      maxh = h;
      padding = p;
      border = b;
      extrusion = e;
      pages = pages;
      images = images;
      rotation = rotation;
      trim = trim;
      outlines = outlines;
      forced = forced;
    }

-- the same with every switch off
unfoldable pub limits : ℕ → ℕ → ℕ → ℕ → ℕ → ℕ → ℕ → Config
limits w h p b e pages images = settings w h p b e pages images false false false false

unfoldable pub rect : ℕ → ℕ → ℕ → ℕ → Rect
rect x y w h = record { x = x; y = y; w = w; h = h }

unfoldable pub source : ℕ → ℕ → ℕ → ℕ → Source
source x y w h = record { x = x; y = y; w = w; h = h }

unfoldable pub made : ℕ → ℕ → Rect → Turn → Bool → Source → Store → ℕ → Record
made key page frame turn trimmed src store offset =
    record {
      key = record { 0 = key };
      page = record { 0 = page };
      frame = frame;
      turn = turn;
      trimmed = trimmed;
      source = src;
      store = store;
      offset = offset;
    }

-- a layout of 256 places, the first of them given
unfoldable pub laid : Config → ℕ → List Record → Layout
laid c count rs = record { config = c; count = count; records = rs ++ replicate (256 - length rs) blank_record }

-- every number, mark and case of a layout
unfoldable pub record_numbers : Record → List ℕ
record_numbers r =
    r.key.0
    ∷ r.page.0
    ∷ r.frame.x
    ∷ r.frame.y
    ∷ r.frame.w
    ∷ r.frame.h
    ∷ turn_number r.turn
    ∷ bit r.trimmed
    ∷ r.source.x
    ∷ r.source.y
    ∷ r.source.w
    ∷ r.source.h
    ∷ store_number r.store
    ∷ r.offset
    ∷ []

unfoldable pub config_numbers : Config → List ℕ
config_numbers c =
    c.maxw
    ∷ c.maxh
    ∷ c.padding
    ∷ c.border
    ∷ c.extrusion
    ∷ c.pages
    ∷ c.images
    ∷ bit c.rotation
    ∷ bit c.trim
    ∷ bit c.outlines
    ∷ bit c.forced
    ∷ []

unfoldable pub layout_numbers : Layout → List ℕ
layout_numbers l = config_numbers l.config ++ l.count ∷ flat record_numbers l.records

unfoldable pub opening_numbers : Opening → List ℕ
opening_numbers o = opened_numbers o.answer ++ layout_numbers o.layout
