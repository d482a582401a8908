-- Words of the code that paints: pixels by their number in a list of bytes, a span of them painted, and a band that shows a picture.
-- Assumes nothing.
use Rattle.std.specs.Prelude.{ℕ, ◌+◌, ◌*◌, ◌≤◌, ◌<◌, ◌≡◌, true, false, List, length, set}
use Rattle.std.proofs.Math.Option.{some}
use Rattle.geometry.specs.Rects.{holds_point}
use Rattle.geometry.specs.declared.rect.Rect.{Rect}
use Rattle.art.specs.Stores.{Stores, pixel_from}
use Rattle.art.specs.declared.memory_rgba8_texture.Pixel.{Pixel}
use Rattle.records.specs.declared.texture_packer_config.Config.{Config}
use Rattle.records.specs.declared.frame.Page.{Page}
use Rattle.records.specs.declared.frame.Record.{Record}
use Rattle.lookup.specs.Zones.{frame_pixel, pixel_among}
use Rattle.paint.specs.Backgrounds.{Background, composed}

-- what composing gives a page on which these stand, and a frame
abbrev pub composed_among : Config → Stores → Page → Background → List Record → ℕ → ℕ → Pixel
composed_among c s p g rs x y = composed g (pixel_among c s p rs x y)

abbrev pub composed_frame : Config → Stores → Background → Record → ℕ → ℕ → Pixel
composed_frame c s g r x y = composed g (some (frame_pixel c s r x y))

-- pixel number i
abbrev pub pixel_no : List ℕ → ℕ → Pixel
pixel_no l i = pixel_from l (4 * i)

-- the bytes with that pixel written
unfoldable pub with_pixel : List ℕ → ℕ → Pixel → List ℕ
with_pixel l i k = set (set (set (set l (4 * i) k.r) (4 * i + 1) k.g) (4 * i + 2) k.b) (4 * i + 3) k.a

-- the pixels from number a on and before number e are f's, the others as they were
pub record SpanPainted (f : ℕ → Pixel) (a e : ℕ) (old new : List ℕ) : Type 0 where
  pub long : length new ≡ length old
  pub inside : (i : ℕ) → a ≤ i → i < e → pixel_no new i ≡ f i
  pub before : (i : ℕ) → i < a → pixel_no new i ≡ pixel_no old i
  pub after : (i : ℕ) → e ≤ i → pixel_no new i ≡ pixel_no old i

-- n rows of w pixels, the first of them row `first` of the page: what lies in a zone shows f, the rest is as it was
pub record ZonePainted (f : ℕ → ℕ → Pixel) (zone : Rect) (w first n : ℕ) (old new : List ℕ) : Type 0 where
  pub long : length new ≡ length old
  pub inside : (x v : ℕ) → x < w → v < n → holds_point zone x (first + v) ≡ true → pixel_no new (v * w + x) ≡ f x (first + v)
  pub outside : (x v : ℕ) → x < w → v < n → holds_point zone x (first + v) ≡ false → pixel_no new (v * w + x) ≡ pixel_no old (v * w + x)

-- all of them show f
pub record Shows (f : ℕ → ℕ → Pixel) (w first n : ℕ) (l : List ℕ) : Type 0 where
  pub long : length l ≡ 4 * (w * n)
  pub each : (x v : ℕ) → x < w → v < n → pixel_no l (v * w + x) ≡ f x (first + v)
