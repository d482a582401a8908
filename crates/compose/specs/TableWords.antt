-- Words of the computed table: backgrounds, buffers, what is composed into them and what checking them answers.
-- Assumes nothing.
use Rattle.std.specs.Prelude.{ℕ, true, false, Some, None, List, [], ◌∷◌, ◌++◌, set}
use Rattle.geometry.specs.Words.{from, flat}
use Rattle.art.specs.Stores.{Stores}
use Rattle.art.specs.declared.memory_rgba8_texture.Pixel.{Pixel}
use Rattle.records.specs.declared.layout.Layout.{Layout}
use Rattle.lookup.specs.TableWords.{page}
use Rattle.paint.specs.Backgrounds.{Background}
use Rattle.compose.specs.Composing.{composed_answer, composed_buffer, composed_numbers}
use Rattle.compose.specs.Checking.{checked_rows, checked_numbers}

-- ## backgrounds: a colour, with the discard switch off and on, without a threshold and with one

unfoldable pub colour : Pixel
colour = record { r = 9; g = 8; b = 7; a = 6 }

unfoldable pub plain : Background
plain = Some (record { pixel = colour; threshold = None; discard = false })

unfoldable pub plain_discarding : Background
plain_discarding = Some (record { pixel = colour; threshold = None; discard = true })

unfoldable pub at_most : ℕ → Background
at_most t = Some (record { pixel = colour; threshold = Some t; discard = false })

unfoldable pub at_most_discarding : ℕ → Background
at_most_discarding t = Some (record { pixel = colour; threshold = Some t; discard = true })

-- ## pixels as bytes: four that count from n on, the same with alpha 255, the background's colour, 0,0,0,0 and an outline's

unfoldable pub counted : ℕ → List ℕ
counted n = from n 4

unfoldable pub opaque : ℕ → List ℕ
opaque n = from n 3 ++ 255 ∷ []

unfoldable pub ground_bytes : List ℕ
ground_bytes = 9 ∷ 8 ∷ 7 ∷ 6 ∷ []

unfoldable pub clear : List ℕ
clear = 0 ∷ 0 ∷ 0 ∷ 0 ∷ []

unfoldable pub red_bytes : List ℕ
red_bytes = 255 ∷ 0 ∷ 0 ∷ 255 ∷ []

unfoldable pub pixels : List (List ℕ) → List ℕ
pixels ks = flat (λ k. k) ks

-- ## compose rows: the answer's numbers, and the buffer, which before had n bytes that count from 150 on

unfoldable pub room : ℕ → List ℕ
room n = from 150 n

unfoldable pub composing : Layout → Stores → ℕ → Background → ℕ → ℕ → ℕ → List (List ℕ)
composing l s p g first n len =
    composed_numbers (composed_answer l s (page p) first n (room len))
    ∷ composed_buffer l s (page p) g first n (room len)
    ∷ []

unfoldable pub done : List (List ℕ) → List (List ℕ)
done ks = (0 ∷ []) ∷ pixels ks ∷ []

-- ## check rows: the answer's numbers and values

unfoldable pub checking : Layout → Stores → ℕ → Background → ℕ → ℕ → List ℕ → List ℕ
checking l s p g first n bytes = checked_numbers (checked_rows l s (page p) g first n bytes)

-- of what was composed
unfoldable pub checking_composed : Layout → Stores → ℕ → Background → ℕ → ℕ → ℕ → List ℕ
checking_composed l s p g first n len = checking l s p g first n (composed_buffer l s (page p) g first n (room len))

unfoldable pub same : List ℕ
same = 0 ∷ []

-- the first differing pixel: page column and page row
unfoldable pub off : ℕ → ℕ → List ℕ
off x y = 0 ∷ x ∷ y ∷ []

-- byte number i is another
unfoldable pub changed : ℕ → List ℕ → List ℕ
changed i bytes = set bytes i 77

-- ## both: they refuse with one number, and the buffer stays as it was

unfoldable pub asking : Layout → Stores → ℕ → ℕ → ℕ → ℕ → List (List ℕ)
asking l s p first n len =
    composed_numbers (composed_answer l s (page p) first n (room len))
    ∷ composed_buffer l s (page p) None first n (room len)
    ∷ checking l s p None first n (room len)
    ∷ []

unfoldable pub refused_both : ℕ → ℕ → List (List ℕ)
refused_both n len = (n ∷ []) ∷ room len ∷ (n ∷ []) ∷ []
