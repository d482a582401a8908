-- The two lent stores, the images that lie in them, and their pixels.
-- Assumes nothing.
use Rattle.std.specs.Prelude.{ℕ, ◌+◌, ◌*◌, ◌-◌, ◌≤◌, ◌≡◌, Bool, false, List, length, get_or, ltb}
use Rattle.geometry.specs.declared.rect.Rect.{Rect}
use Rattle.art.specs.declared.memory_rgba8_texture.Image.{Image}
use Rattle.art.specs.declared.memory_rgba8_texture.Pixel.{Pixel}
use Rattle.art.specs.declared.memory_rgba8_texture.Stores.{Stores as LentStores}
use Rattle.art.specs.declared.memory_rgba8_texture.Store.{Store}
use Rattle.art.specs.declared.memory_rgba8_texture.Store.TheVariants.{Symbols, Wording}

-- fixed symbols, and wording of one language: the bytes of each
pub record Stores : Type 0 where
  pub symbols : List ℕ
  pub wording : List ℕ

abbrev pub holding : List ℕ → List ℕ → Stores
holding symbols wording = record { symbols = symbols; wording = wording }

-- what the lent ones hold
abbrev pub lent : LentStores → Stores
lent s = holding s.symbols.now s.wording.now

-- of what the symbol store and the wording store have, what the store of a case has
abbrev pub of_store : {A : Type 0} → Store → A → A → A
of_store Symbols symbols wording = symbols
of_store Wording symbols wording = wording

unfoldable pub bytes_of : Stores → Store → List ℕ
bytes_of s store = of_store store s.symbols s.wording

-- the image runs past its store
unfoldable pub runs_past : Stores → Image → Bool
runs_past s i = ltb (length (bytes_of s i.store)) (i.offset + 4 * (i.w * i.h))

-- rows follow each other, 4 bytes a pixel: where the pixel in column x of row y starts
unfoldable pub place_of : Image → ℕ → ℕ → ℕ
place_of i x y = i.offset + 4 * (y * i.w + x)

-- R G B A
unfoldable pub pixel_from : List ℕ → ℕ → Pixel
pixel_from bytes at =
    record { r = get_or bytes at 0; g = get_or bytes (at + 1) 0; b = get_or bytes (at + 2) 0; a = get_or bytes (at + 3) 0 }

unfoldable pub pixel_in : Stores → Image → ℕ → ℕ → Pixel
pixel_in s i x y = pixel_from (bytes_of s i.store) (place_of i x y)

-- upright reads the trim box at (x, y)
unfoldable pub upright_pixel : Stores → Image → Rect → ℕ → ℕ → Pixel
upright_pixel s i k x y = pixel_in s i (k.x + x) (k.y + y)

-- turned reads it at (y, box height - x - 1)
unfoldable pub turned_point : Rect → ℕ → ℕ → ℕ × ℕ
turned_point k x y = (y, k.h - x - 1)

unfoldable pub turned_pixel : Stores → Image → Rect → ℕ → ℕ → Pixel
turned_pixel s i k x y = upright_pixel s i k (turned_point k x y).0 (turned_point k x y).1

-- What a caller has tested before it reads.

pub record InStore (s : Stores) (i : Image) : Type 0 where
  pub inside : runs_past s i ≡ false

-- the trim box is not empty and inside the whole image
pub record BoxIn (k : Rect) (w h : ℕ) : Type 0 where
  pub some_w : 1 ≤ k.w
  pub some_h : 1 ≤ k.h
  pub in_w : k.x + k.w ≤ w
  pub in_h : k.y + k.h ≤ h
