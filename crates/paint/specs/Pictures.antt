-- Rows of pixels as bytes, and the composed rows of a page.
-- Assumes nothing.
use Rattle.std.specs.Prelude.{ℕ, List, [], ◌∷◌}
use Rattle.geometry.specs.Words.{from, flat}
use Rattle.art.specs.Stores.{Stores}
use Rattle.art.specs.declared.memory_rgba8_texture.Pixel.{Pixel}
use Rattle.records.specs.Layouts.{size_of_page}
use Rattle.records.specs.declared.frame.Page.{Page}
use Rattle.records.specs.declared.layout.Layout.{Layout}
use Rattle.lookup.specs.Zones.{pixel_at}
use Rattle.paint.specs.Backgrounds.{Background, composed}

-- 4 bytes a pixel, R G B A
unfoldable pub bytes : Pixel → List ℕ
bytes k = k.r ∷ k.g ∷ k.b ∷ k.a ∷ []

-- of a picture that shows f x y in column x of row y: a row, w pixels wide, and n rows from a first one on
unfoldable pub line : (ℕ → ℕ → Pixel) → ℕ → ℕ → List ℕ
line f w y = flat (λ x. bytes (f x y)) (from 0 w)

unfoldable pub picture : (ℕ → ℕ → Pixel) → ℕ → ℕ → ℕ → List ℕ
picture f w first n = flat (line f w) (from first n)

-- what composing gives a column and a row of a page
unfoldable pub composed_at : Layout → Stores → Page → Background → ℕ → ℕ → Pixel
composed_at l s p g x y = composed g (pixel_at l s p x y)

-- n rows of a page, from a first one on
unfoldable pub band : Layout → Stores → Page → Background → ℕ → ℕ → List ℕ
band l s p g first n = picture (composed_at l s p g) (size_of_page l p).w first n
