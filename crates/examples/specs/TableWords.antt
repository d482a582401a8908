-- Words of the tables, beside those of the crates below: the layout after calls, and what each operation then answers of it.
-- Assumes nothing.
use Rattle.std.specs.Prelude.{ℕ, List, [], ◌∷◌, map, None}
use Rattle.geometry.specs.Rects.{right_of}
use Rattle.art.specs.Stores.{Stores}
use Rattle.art.specs.declared.memory_rgba8_texture.Pixel.{Pixel}
use Rattle.records.specs.Layouts.{standing}
use Rattle.records.specs.Operations.{opened, page_sized, sized_numbers}
use Rattle.records.specs.declared.texture_packer_config.Config.{Config}
use Rattle.records.specs.declared.layout.Layout.{Layout}
use Rattle.rules.specs.Story.{Call, Withdraw, layout_after}
use Rattle.rules.specs.TableWords.{key, page, offer_of, ask, answer}
use Rattle.lookup.specs.Zones.{zone}
use Rattle.lookup.specs.Reading.{read, read_numbers}
use Rattle.lookup.specs.TableWords.{at as pixel_at}
use Rattle.paint.specs.Backgrounds.{Background}
use Rattle.compose.specs.Composing.{composed_answer, composed_buffer, composed_numbers}
use Rattle.compose.specs.Checking.{checked_rows, checked_numbers}
use Rattle.coords.specs.Table.{answer as coordinates}
use Rattle.coords.specs.declared.locate.Request.TheVariants.{Edges}

-- the calls one after the other, from an opened layout
unfoldable pub after : Config → List Call → Layout
after c calls = layout_after (opened c).layout calls

unfoldable pub size_on : Layout → ℕ → List ℕ
size_on l p = sized_numbers (page_sized l (page p))

unfoldable pub point : ℕ × ℕ → List ℕ
point p = p.0 ∷ p.1 ∷ []

-- the first and the last column of each standing frame's zone
unfoldable pub zone_columns : Layout → List (List ℕ)
zone_columns l = map (λ r. (zone l.config r).x ∷ right_of (zone l.config r) ∷ []) (standing l)

unfoldable pub pixel : ℕ → ℕ → ℕ → ℕ → Pixel
pixel r g b a = record { r = r; g = g; b = b; a = a }

-- composing n rows of page p from row `first` on: the answer, and what the buffer then holds
unfoldable pub composes : Layout → Stores → Background → ℕ → ℕ → ℕ → List ℕ → List (List ℕ)
composes l s g p first n buffer =
    composed_numbers (composed_answer l s (page p) first n buffer) ∷ composed_buffer l s (page p) g first n buffer ∷ []

-- it is done, and the buffer holds these bytes
unfoldable pub holding : List ℕ → List (List ℕ)
holding bytes = (0 ∷ []) ∷ bytes ∷ []

-- checking n lent rows of page p from row `first` on
unfoldable pub checks : Layout → Stores → Background → ℕ → ℕ → ℕ → List ℕ → List ℕ
checks l s g p first n lent = checked_numbers (checked_rows l s (page p) g first n lent)

-- same, or a page column and a page row
unfoldable pub same : List ℕ
same = 0 ∷ []

unfoldable pub off : ℕ → ℕ → List ℕ
off x y = 0 ∷ x ∷ y ∷ []

-- what each operation that takes a layout answers of it, in document 01's order: of page 0, key 0, a new image of 1x1, and the first row of
-- the page, for which these bytes are lent
unfoldable pub every_answer : Layout → Stores → List ℕ → List (List ℕ)
every_answer l s row =
    answer l (ask 0 1 1)
    ∷ answer l (offer_of s 9 1 1)
    ∷ answer l Withdraw
    ∷ size_on l 0
    ∷ pixel_at l s 0 0 0
    ∷ composed_numbers (composed_answer l s (page 0) 0 1 row)
    ∷ checks l s None 0 0 1 row
    ∷ read_numbers (read l s (key 0) 0)
    ∷ coordinates l 0 Edges
    ∷ []
