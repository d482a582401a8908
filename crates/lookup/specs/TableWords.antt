-- Words of the computed table: stores whose bytes count, layouts of a few records, and what is answered for each pixel and row.
-- Assumes nothing.
use Rattle.std.specs.Prelude.{ℕ, false, List, [], ◌∷◌, map, length}
use Rattle.geometry.specs.Words.{from}
use Rattle.geometry.specs.declared.spot.Turn.TheVariants.{Upright}
use Rattle.art.specs.Stores.{Stores, holding}
use Rattle.art.specs.declared.memory_rgba8_texture.Store.{Store}
use Rattle.records.specs.Records.{store_number}
use Rattle.records.specs.Samples.{rect, source, made, laid}
use Rattle.records.specs.declared.texture_packer_config.Config.{Config}
use Rattle.records.specs.declared.frame.Key.{Key}
use Rattle.records.specs.declared.frame.Page.{Page}
use Rattle.records.specs.declared.frame.Record.{Record}
use Rattle.records.specs.declared.layout.Layout.{Layout}
use Rattle.lookup.specs.Looking.{looked, looked_numbers}
use Rattle.lookup.specs.Reading.{read, read_numbers, Part, part_read, part_bytes}

-- answers that are computed, and what they must be
abbrev pub Line : Type 0
Line = List (List ℕ) × List (List ℕ)

unfoldable pub page : ℕ → Page
page n = record { 0 = n }

unfoldable pub key : ℕ → Key
key n = record { 0 = n }

-- n bytes of symbols, which count from 0 on, and m of wording, which count from 100 on
unfoldable pub counting : ℕ → ℕ → Stores
counting n m = holding (from 0 n) (from 100 m)

-- these stand, and no others
unfoldable pub standing_in : Config → List Record → Layout
standing_in c rs = laid c (length rs) rs

-- an image of which nothing is trimmed, upright: key, page, frame's corner, size
unfoldable pub whole : ℕ → ℕ → ℕ → ℕ → ℕ → ℕ → Store → ℕ → Record
whole k p x y w h store offset = made k p (rect x y w h) Upright false (source 0 0 w h) store offset

-- ## pixel

unfoldable pub at : Layout → Stores → ℕ → ℕ → ℕ → List ℕ
at l s p x y = looked_numbers (looked l s (page p) x y)

-- the first n pixels of row y
unfoldable pub across : Layout → Stores → ℕ → ℕ → ℕ → List (List ℕ)
across l s p y n = map (λ x. at l s p x y) (from 0 n)

-- a pixel whose four bytes count from n on, a red one, none, and a number
unfoldable pub shown : ℕ → List ℕ
shown n = 0 ∷ 1 ∷ from n 4

unfoldable pub outlined : List ℕ
outlined = 0 ∷ 1 ∷ 255 ∷ 0 ∷ 0 ∷ 255 ∷ []

unfoldable pub nothing : List ℕ
nothing = 0 ∷ 0 ∷ []

unfoldable pub refused : ℕ → List ℕ
refused n = n ∷ []

-- ## row of an image: what the sister answers; which store, from where, how many bytes; the bytes

unfoldable pub part_numbers : Part → List ℕ
part_numbers k = store_number k.store ∷ k.start ∷ k.size ∷ []

unfoldable pub row : Layout → Stores → ℕ → ℕ → List (List ℕ)
row l s k y =
    read_numbers (read l s (key k) y)
    ∷ part_numbers (part_read l s (key k) y)
    ∷ part_bytes s (part_read l s (key k) y)
    ∷ []

-- n bytes of a store from `start` on, which count from `first` on
unfoldable pub handed : Store → ℕ → ℕ → ℕ → List (List ℕ)
handed store start n first = (0 ∷ []) ∷ (store_number store ∷ start ∷ n ∷ []) ∷ from first n ∷ []

-- a number, and an empty part of the symbol store
unfoldable pub refused_row : ℕ → List (List ℕ)
refused_row n = refused n ∷ (0 ∷ 0 ∷ 0 ∷ []) ∷ [] ∷ []
