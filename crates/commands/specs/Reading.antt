-- What a command's words say, in the order in which docs/SCRIPT.md lists them.
-- Assumes nothing.
use Rattle.std.specs.Prelude.{ℕ, ◌+◌, ◌*◌, cond, List, ltb, eqb, Option, Some, None}
use Rattle.std.specs.Float.{binary32}
use Rattle.std.specs.Float.Ieee.{of_bits}
use Rattle.geometry.specs.declared.rect.Size.{Size}
use Rattle.art.specs.Stores.{pixel_from}
use Rattle.art.specs.declared.memory_rgba8_texture.Image.{Image}
use Rattle.art.specs.declared.memory_rgba8_texture.Pixel.{Pixel}
use Rattle.records.specs.declared.frame.Key.{Key}
use Rattle.records.specs.declared.frame.Page.{Page}
use Rattle.records.specs.declared.texture_packer_config.Config.{Config}
use Rattle.coords.specs.declared.locate.Request.{Request}
use Rattle.coords.specs.declared.locate.Request.TheVariants.{Pixels, Edges, Inset}
use Rattle.paint.specs.Backgrounds.{Background}
use Rattle.wire.specs.Bytes.{word_at, word_bytes}
use Rattle.wire.specs.Fields.{is_on, store_of}

-- word number i from byte `at` of the script on; a command's word 0 names it, and the words that it takes begin with word 1
abbrev pub word : List ℕ → ℕ → ℕ → ℕ
word script at i = word_at script (at + 4 * i)

-- maxw, maxh, padding, border, extrusion, pages, images, rotation, trim, outlines, forced
unfoldable pub config_at : List ℕ → ℕ → Config
config_at script at =
    record {
      maxw = word script at 1;
      maxh = word script at 2;
      padding = word script at 3;
      border = word script at 4;
      extrusion = word script at 5;
      pages = word script at 6;
      images = word script at 7;
      rotation = is_on (word script at 8);
      trim = is_on (word script at 9);
      outlines = is_on (word script at 10);
      forced = is_on (word script at 11);
    }

-- the page of ask, page size, pixel, compose rows and check rows
unfoldable pub page_at : List ℕ → ℕ → Page
page_at script at = record { 0 = word script at 1 }

-- ask: page, w, h
unfoldable pub size_at : List ℕ → ℕ → Size
size_at script at = record { w = word script at 2; h = word script at 3 }

-- the key of offer, row of an image and coordinates
unfoldable pub key_at : List ℕ → ℕ → Key
key_at script at = record { 0 = word script at 1 }

-- offer: key, store, offset, w, h
unfoldable pub image_at : List ℕ → ℕ → Image
image_at script at =
    record {
      store = store_of (word script at 2);
      offset = word script at 3;
      w = word script at 4;
      h = word script at 5;
    }

-- 0 for pixels, 1 for edges, anything else for inset, of which `bits` are the f32's bits; every pattern of a NaN stands for one NaN
unfoldable pub request_of : ℕ → ℕ → Request
request_of request bits = cond (eqb request 0) Pixels (cond (eqb request 1) Edges (Inset (of_bits binary32 bits)))

-- its bytes in the order R G B A
unfoldable pub colour_of : ℕ → Pixel
colour_of n = pixel_from (word_bytes n) 0

-- unset above 255
unfoldable pub threshold_of : ℕ → Option ℕ
threshold_of n = cond (ltb n 256) (Some n) None

-- four words: 0 for none, or anything else for a colour; the colour; the threshold; the discard switch
unfoldable pub background_at : List ℕ → ℕ → Background
background_at script at =
    cond (eqb (word script at 0) 0)
    None
    (Some (record {
      pixel = colour_of (word script at 1);
      threshold = threshold_of (word script at 2);
      discard = is_on (word script at 3);
    }))
