-- Which image a pixel of a page belongs to, and what it shows there.
-- Assumes nothing.
use Rattle.std.specs.Prelude.{ℕ, ◌+◌, ◌-◌, ◌*◌, min, Bool, cond, ◌&&◌, List, eqb}
use Rattle.std.proofs.Math.Option.{Option, none, some}
use Rattle.geometry.specs.Words.{earliest}
use Rattle.geometry.specs.Rects.{holds_point, on_outline}
use Rattle.geometry.specs.declared.rect.Rect.{Rect}
use Rattle.geometry.specs.declared.spot.Turn.{Turn}
use Rattle.geometry.specs.declared.spot.Turn.TheVariants.{Upright, Turned}
use Rattle.art.specs.Stores.{Stores, upright_pixel, turned_pixel}
use Rattle.art.specs.declared.memory_rgba8_texture.Image.{Image}
use Rattle.art.specs.declared.memory_rgba8_texture.Pixel.{Pixel}
use Rattle.records.specs.Records.{box_of, image_of}
use Rattle.records.specs.Layouts.{standing}
use Rattle.records.specs.declared.texture_packer_config.Config.{Config}
use Rattle.records.specs.declared.frame.Page.{Page}
use Rattle.records.specs.declared.frame.Record.{Record}
use Rattle.records.specs.declared.layout.Layout.{Layout}

-- a frame's zone starts at frame x-e, y-e, each not below 0, and is w+2e by h+2e
unfoldable pub zone : Config → Record → Rect
zone c r =
    record {
      x = r.frame.x - c.extrusion;
      y = r.frame.y - c.extrusion;
      w = r.frame.w + 2 * c.extrusion;
      h = r.frame.h + 2 * c.extrusion;
    }

-- the record is on that page, and its zone holds the pixel
unfoldable pub reaches : Config → Page → ℕ → ℕ → Record → Bool
reaches c p x y r = eqb r.page.0 p.0 && holds_point (zone c r) x y

-- a pixel belongs to the earliest accepted frame whose zone holds it
unfoldable pub owner : Config → Page → ℕ → ℕ → List Record → Option Record
owner c p x y rs = earliest (reaches c p x y) rs

-- a distance from the frame's corner, not below 0, capped to the frame
unfoldable pub local : ℕ → ℕ → ℕ → ℕ
local x corner side = min (x - corner) (side - 1)

-- upright reads the trim box at (x, y); turned reads it at (y, box height-x-1)
unfoldable pub box_pixel : Turn → Stores → Image → Rect → ℕ → ℕ → Pixel
box_pixel Upright s i k x y = upright_pixel s i k x y
box_pixel Turned s i k x y = turned_pixel s i k x y

unfoldable pub red : Pixel
red = record { r = 255; g = 0; b = 0; a = 255 }

-- with outlines on, a zone pixel whose x equals the frame's left or right column, or y its top or bottom row, is red, also outside the
-- frame; otherwise local x, y are read
unfoldable pub frame_pixel : Config → Stores → Record → ℕ → ℕ → Pixel
frame_pixel c s r x y =
    cond (c.outlines && on_outline r.frame x y)
    red
    (box_pixel r.turn s (image_of r) (box_of r) (local x r.frame.x r.frame.w) (local y r.frame.y r.frame.h))

-- no zone: no pixel
unfoldable pub pixel_of : Config → Stores → ℕ → ℕ → Option Record → Option Pixel
pixel_of c s x y none = none
pixel_of c s x y (some r) = some (frame_pixel c s r x y)

-- the pixel of a page on which these stand
unfoldable pub pixel_among : Config → Stores → Page → List Record → ℕ → ℕ → Option Pixel
pixel_among c s p rs x y = pixel_of c s x y (owner c p x y rs)

unfoldable pub pixel_at : Layout → Stores → Page → ℕ → ℕ → Option Pixel
pixel_at l s p x y = pixel_among l.config s p (standing l) x y
