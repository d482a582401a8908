-- One record: blank, its trim box and image, well-formed.
-- Assumes nothing.
use Rattle.std.specs.Prelude.{ℕ, ◌+◌, Bool, not, ◌&&◌, [], ◌∷◌, leb, ltb, eqb}
use Rattle.std.specs.Bool.{beq}
use Rattle.geometry.specs.Words.{all_of, within}
use Rattle.geometry.specs.Placing.{lying, turn_number}
use Rattle.geometry.specs.declared.rect.Rect.{Rect}
use Rattle.geometry.specs.declared.rect.Size.{Size}
use Rattle.art.specs.declared.memory_rgba8_texture.Image.{Image}
use Rattle.art.specs.declared.memory_rgba8_texture.Store.{Store}
use Rattle.art.specs.declared.memory_rgba8_texture.Store.TheVariants.{Symbols, Wording}
use Rattle.records.specs.declared.texture_packer_config.Config.{Config}
use Rattle.records.specs.declared.frame.Record.{Record}

abbrev pub store_number : Store → ℕ
store_number Symbols = 0
store_number Wording = 1

unfoldable pub all_zero : ℕ → ℕ → ℕ → ℕ → Bool
all_zero x y w h = all_of (eqb x 0 ∷ eqb y 0 ∷ eqb w 0 ∷ eqb h 0 ∷ [])

-- all numbers 0, trimmed mark off, upright, symbol store
unfoldable pub is_blank : Record → Bool
is_blank r =
    all_of
    (eqb r.key.0 0
    ∷ eqb r.page.0 0
    ∷ all_zero r.frame.x r.frame.y r.frame.w r.frame.h
    ∷ eqb (turn_number r.turn) 0
    ∷ not r.trimmed
    ∷ all_zero r.source.x r.source.y r.source.w r.source.h
    ∷ eqb (store_number r.store) 0
    ∷ eqb r.offset 0
    ∷ [])

unfoldable pub size_of : Rect → Size
size_of k = record { w = k.w; h = k.h }

unfoldable pub whole_of : Record → Size
whole_of r = record { w = r.source.w; h = r.source.h }

-- the trim box: corner = source x, y; size = frame size, swapped back if turned
unfoldable pub box_of : Record → Rect
box_of r =
    record {
      x = r.source.x;
      y = r.source.y;
      w = (lying r.turn (size_of r.frame)).w;
      h = (lying r.turn (size_of r.frame)).h;
    }

unfoldable pub image_of : Record → Image
image_of r = record { store = r.store; offset = r.offset; w = r.source.w; h = r.source.h }

-- n numbers from a on, at least one, lie below `whole`
unfoldable pub lies_in : ℕ → ℕ → ℕ → Bool
lies_in a n whole = leb 1 n && leb (a + n) whole

-- the trim box is not empty and inside the whole image
unfoldable pub box_inside : Rect → Size → Bool
box_inside k whole = lies_in k.x k.w whole.w && lies_in k.y k.h whole.h

-- page below the page limit, whole sizes 1 to 2048, frame x and y from b to b+4095, trimmed mark equal to the trim switch, and the
-- trim box not empty and inside the whole image
unfoldable pub record_well_formed : Config → Record → Bool
record_well_formed c r =
    all_of
    (ltb r.page.0 c.pages
    ∷ within 1 2048 r.source.w
    ∷ within 1 2048 r.source.h
    ∷ within c.border (c.border + 4095) r.frame.x
    ∷ within c.border (c.border + 4095) r.frame.y
    ∷ beq r.trimmed c.trim
    ∷ box_inside (box_of r) (whole_of r)
    ∷ [])
