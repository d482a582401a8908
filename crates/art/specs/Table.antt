-- Lines of our own that tell wrong readings of pixels and trim boxes apart: beside each computed list stands what it must be.
-- Assumes nothing.
use Rattle.std.specs.Prelude.{ℕ, zero, suc, ◌^◌, Bool, true, false, cond, List, [], ◌∷◌, ◌++◌, map, replicate}
use Rattle.geometry.specs.Words.{from}
use Rattle.geometry.specs.declared.rect.Rect.{Rect}
use Rattle.art.specs.Stores.{Stores, holding, runs_past, pixel_in, upright_pixel, turned_pixel}
use Rattle.art.specs.Trimming.{trim_box, trimmed_to, trimmed_numbers}
use Rattle.art.specs.declared.memory_rgba8_texture.Image.{Image}
use Rattle.art.specs.declared.memory_rgba8_texture.Pixel.{Pixel}
use Rattle.art.specs.declared.memory_rgba8_texture.Store.{Store}
use Rattle.art.specs.declared.memory_rgba8_texture.Store.TheVariants.{Symbols, Wording}

-- what is computed, and what it must be
abbrev pub Line : Type 0
Line = List ℕ × List ℕ

unfoldable pub image : Store → ℕ → ℕ → ℕ → Image
image store offset w h = record { store = store; offset = offset; w = w; h = h }

unfoldable pub rect : ℕ → ℕ → ℕ → ℕ → Rect
rect x y w h = record { x = x; y = y; w = w; h = h }

unfoldable pub rgba : Pixel → List ℕ
rgba p = p.r ∷ p.g ∷ p.b ∷ p.a ∷ []

unfoldable pub numbers : Rect → List ℕ
numbers k = k.x ∷ k.y ∷ k.w ∷ k.h ∷ []

unfoldable pub one_if : Bool → List ℕ
one_if b = cond b (1 ∷ []) (0 ∷ [])

-- n pixels of no alpha, in white, and a black one that can be seen
unfoldable pub clear : ℕ → List ℕ
clear zero = []
clear (suc n) = 255 ∷ 255 ∷ 255 ∷ 0 ∷ clear n

unfoldable pub shown : ℕ → List ℕ
shown alpha = 0 ∷ 0 ∷ 0 ∷ alpha ∷ []

-- byte n of the symbol store is n; the wording store has the same bytes after three others
unfoldable pub counting : Stores
counting = holding (from 0 80) (255 ∷ 254 ∷ 253 ∷ from 0 80)

-- the bytes, at the start of the symbol store, as an image of w by h pixels
unfoldable pub trims : List ℕ → ℕ → ℕ → List ℕ
trims bytes w h = trimmed_numbers (trimmed_to (holding bytes []) (image Symbols 0 w h))

unfoldable pub turned_reds : ℕ → List ℕ
turned_reds y = map (λ x. (turned_pixel counting (image Symbols 0 2 3) (rect 0 0 2 3) x y).r) (from 0 3)

-- 2 wide, 3 high, turned
unfoldable pub turned_lines : List Line
turned_lines =
    -- the frame's rows, of three pixels each, by the red of what they read: the image's red is 0 4, 8 12, 16 20
    (turned_reds 0 ++ turned_reds 1, 16 ∷ 8 ∷ 0 ∷ 20 ∷ 12 ∷ 4 ∷ [])
    ∷ []

-- pixels of an image, of a box in it, and of that box turned
unfoldable pub pixel_lines : List Line
pixel_lines =
    (rgba (pixel_in counting (image Symbols 0 4 5) 1 2), 36 ∷ 37 ∷ 38 ∷ 39 ∷ [])
    -- one byte further on by the offset; the same pixel in the other store, where three bytes stand before the image
    ∷ (rgba (pixel_in counting (image Symbols 1 4 4) 1 2), 37 ∷ 38 ∷ 39 ∷ 40 ∷ [])
    ∷ (rgba (pixel_in counting (image Wording 3 4 5) 1 2), 36 ∷ 37 ∷ 38 ∷ 39 ∷ [])
    ∷ (rgba (upright_pixel counting (image Wording 3 4 5) (rect 1 2 2 3) 1 2), 72 ∷ 73 ∷ 74 ∷ 75 ∷ [])
    -- local (0, 0) reads the box at (0, 2), so the image at (1, 4); local (2, 1) reads it at (1, 0), so the image at (2, 2)
    ∷ (rgba (turned_pixel counting (image Wording 3 4 5) (rect 1 2 2 3) 0 0), 68 ∷ 69 ∷ 70 ∷ 71 ∷ [])
    ∷ (rgba (turned_pixel counting (image Wording 3 4 5) (rect 1 2 2 3) 2 1), 40 ∷ 41 ∷ 42 ∷ 43 ∷ [])
    ∷ []

-- a 2 by 3 image at offset 5 ends at byte 29
unfoldable pub past_lines : List Line
past_lines =
    (one_if (runs_past (holding (replicate 29 0) []) (image Symbols 5 2 3)), 0 ∷ [])
    ∷ (one_if (runs_past (holding (replicate 28 0) (replicate 29 0)) (image Symbols 5 2 3)), 1 ∷ [])
    ∷ (one_if (runs_past (holding (replicate 28 0) (replicate 29 0)) (image Wording 5 2 3)), 0 ∷ [])
    -- no pixel, and yet past the end
    ∷ (one_if (runs_past (holding (replicate 29 0) []) (image Symbols 29 0 0)), 0 ∷ [])
    ∷ (one_if (runs_past (holding (replicate 29 0) []) (image Symbols 30 0 0)), 1 ∷ [])
    -- four times the area is 2 ^ 64, which 64 bits take for 0
    ∷ (one_if (runs_past (holding (replicate 29 0) []) (image Symbols 0 (2 ^ 31) (2 ^ 31))), 1 ∷ [])
    ∷ []

unfoldable pub trim_lines : List Line
trim_lines =
    -- alpha 1 is seen as 255 is; colour without alpha is not
    (trims (clear 43 ++ shown 1 ++ clear 20) 8 8, 0 ∷ 3 ∷ 5 ∷ 1 ∷ 1 ∷ [])
    ∷ (trims (clear 6) 2 3, 7 ∷ [])
    -- the first pixel, the last, and both
    ∷ (trims (shown 255 ++ clear 5) 3 2, 0 ∷ 0 ∷ 0 ∷ 1 ∷ 1 ∷ [])
    ∷ (trims (clear 5 ++ shown 255) 3 2, 0 ∷ 2 ∷ 1 ∷ 1 ∷ 1 ∷ [])
    ∷ (trims (shown 255 ++ clear 4 ++ shown 255) 3 2, 0 ∷ 0 ∷ 0 ∷ 3 ∷ 2 ∷ [])
    -- no corner of the box is visible: (3, 1), (2, 3) and (1, 2) of 5x5
    ∷ (trims (clear 8 ++ shown 9 ++ clear 2 ++ shown 9 ++ clear 5 ++ shown 9 ++ clear 7) 5 5, 0 ∷ 1 ∷ 1 ∷ 3 ∷ 3 ∷ [])
    -- (1, 2) and (2, 4) of a 4x5 at offset 3 of the wording store, while the symbol store shows every pixel
    ∷ (
      trimmed_numbers
          (trimmed_to
          (holding (replicate 83 255) (9 ∷ 9 ∷ 9 ∷ clear 9 ++ shown 255 ++ clear 8 ++ shown 255 ++ clear 1))
          (image Wording 3 4 5)),
      0 ∷ 1 ∷ 2 ∷ 2 ∷ 3 ∷ [],
    )
    -- untrimmed, the whole
    ∷ (numbers (trim_box false (holding (clear 6) []) (image Symbols 0 2 3)), 0 ∷ 0 ∷ 2 ∷ 3 ∷ [])
    ∷ (numbers (trim_box true (holding (clear 3 ++ shown 2 ++ clear 2) []) (image Symbols 0 2 3)), 1 ∷ 1 ∷ 1 ∷ 1 ∷ [])
    ∷ []

unfoldable pub table : List Line
table = turned_lines ++ pixel_lines ++ past_lines ++ trim_lines
