-- Placing over pages: canvas, cell, a record's cell, the page, THE RULE.
-- Assumes nothing.
use Rattle.std.specs.Prelude.{ℕ, ◌+◌, ◌-◌, ◌*◌, List, map, Option, Some, None}
use Rattle.std.proofs.Math.Option.{Option as Maybe, none, some}
use Rattle.geometry.specs.Words.{from, earliest, or_else}
use Rattle.geometry.specs.Placing.{height, lying, spot_for, is_found}
use Rattle.geometry.specs.declared.rect.Rect.{Rect}
use Rattle.geometry.specs.declared.rect.Size.{Size}
use Rattle.geometry.specs.declared.spot.Spot.{Spot}
use Rattle.records.specs.Records.{size_of}
use Rattle.records.specs.Layouts.{on_page, page_count}
use Rattle.records.specs.declared.texture_packer_config.Config.{Config}
use Rattle.records.specs.declared.frame.Record.{Record}
use Rattle.rules.specs.declared.placing.Art.{Art}

-- the canvas is the maximum width by the maximum height less one
unfoldable pub canvas : Config → Size
canvas c = record { w = c.maxw; h = c.maxh - 1 }

-- a cell is the image size plus p+2e on each axis
unfoldable pub margin : Config → ℕ
margin c = c.padding + 2 * c.extrusion

unfoldable pub cell_size : Config → Size → Size
cell_size c s = record { w = s.w + margin c; h = s.h + margin c }

-- where a page with these cells puts an image of this size, if it fits
unfoldable pub spot_on : Config → List Rect → Size → Option Spot
spot_on c cells size = spot_for (height cells) (canvas c) c.rotation (cell_size c size)

-- the record's cell on its page: the frame's corner less b, the frame's size plus p+2e
unfoldable pub cell_of : Config → Record → Rect
cell_of c r =
    record {
      x = r.frame.x - c.border;
      y = r.frame.y - c.border;
      w = r.frame.w + margin c;
      h = r.frame.h + margin c;
    }

unfoldable pub cells_on : Config → List Record → ℕ → List Rect
cells_on c rs p = map (cell_of c) (on_page p rs)

-- the first of the first n pages that fits an image of this size, else n
unfoldable pub first_page : Config → (ℕ → List Rect) → Size → ℕ → ℕ
first_page c cells size n = or_else (earliest (λ p. is_found (spot_on c (cells p) size)) (from 0 n)) n

-- pages are tried in order with the WHOLE size; if none fits, a new page
unfoldable pub page_for : Config → List Record → Size → ℕ
page_for c rs whole = first_page c (cells_on c rs) whole (page_count rs)

-- the frame is the cell's corner plus b on both axes, with the trimmed size, swapped if turned; it is not moved by e
unfoldable pub record_at : Config → Art → ℕ → Spot → Record
record_at c a p k =
    record {
      key = a.key;
      page = record { 0 = p };
      frame =
          record {
            x = k.at.x + c.border;
            y = k.at.y + c.border;
            w = (lying k.turn (size_of a.kept)).w;
            h = (lying k.turn (size_of a.kept)).h;
          };
      turn = k.turn;
      trimmed = c.trim;
      source = record { x = a.kept.x; y = a.kept.y; w = a.whole.w; h = a.whole.h };
      store = a.store;
      offset = a.offset;
    }

unfoldable pub record_for : Config → Art → ℕ → Option Spot → Maybe Record
record_for c a p None = none
record_for c a p (Some k) = some (record_at c a p k)

-- THE PLACING RULE: the first page that fits the whole size, or a new one, takes the trimmed cell
unfoldable pub placed : Config → List Record → Art → Maybe Record
placed c rs a =
    record_for c a (page_for c rs a.whole) (spot_on c (cells_on c rs (page_for c rs a.whole)) (size_of a.kept))
