-- Lines of our own against wrong readings of what a layout holds: beside each computed list stands what it must be.
-- Assumes nothing.
use Rattle.std.specs.Prelude.{ℕ, Bool, true, false, List, [], ◌∷◌, ◌++◌, map, replicate}
use Rattle.std.proofs.Math.Option.{Option, none, some}
use Rattle.geometry.specs.declared.rect.Size.{Size}
use Rattle.geometry.specs.declared.rect.Rect.{Rect}
use Rattle.geometry.specs.declared.spot.Turn.{Turn}
use Rattle.geometry.specs.declared.spot.Turn.TheVariants.{Upright, Turned}
use Rattle.art.specs.declared.memory_rgba8_texture.Image.{Image}
use Rattle.art.specs.declared.memory_rgba8_texture.Store.TheVariants.{Symbols, Wording}
use Rattle.records.specs.Records.{store_number, box_of, whole_of, image_of, is_blank, record_well_formed}
use Rattle.records.specs.Settings.{in_bounds, blank_record}
use Rattle.records.specs.Layouts.{standing, well_formed, record_of, key_place, page_count}
use Rattle.records.specs.Samples.{bit, settings, limits, rect, source, made, laid, opening_numbers}
use Rattle.records.specs.Operations.{opened, page_sized, sized_numbers}
use Rattle.records.specs.declared.texture_packer_config.Config.{Config}
use Rattle.records.specs.declared.frame.Source.{Source}
use Rattle.records.specs.declared.frame.Record.{Record}
use Rattle.records.specs.declared.layout.Layout.{Layout}

-- what is computed, and what it must be
abbrev pub Line : Type 0
Line = List ℕ × List ℕ

-- a test passes, or does not
unfoldable pub passes : Bool → Line
passes b = (bit b ∷ [], 1 ∷ [])

unfoldable pub fails : Bool → Line
fails b = (bit b ∷ [], 0 ∷ [])

-- ## the configuration: both ends of every bound

unfoldable pub bound_lines : List Line
bound_lines =
    passes (in_bounds (limits 1 1 0 0 0 1 1))
    ∷ passes (in_bounds (limits 4096 4096 64 64 16 8 256))
    ∷ passes (in_bounds (settings 1 1 0 0 0 1 1 true true true true))
    ∷ fails (in_bounds (limits 0 1 0 0 0 1 1))
    ∷ fails (in_bounds (limits 4097 1 0 0 0 1 1))
    ∷ fails (in_bounds (limits 1 0 0 0 0 1 1))
    ∷ fails (in_bounds (limits 1 4097 0 0 0 1 1))
    ∷ fails (in_bounds (limits 1 1 65 0 0 1 1))
    ∷ fails (in_bounds (limits 1 1 0 65 0 1 1))
    ∷ fails (in_bounds (limits 1 1 0 0 17 1 1))
    ∷ fails (in_bounds (limits 1 1 0 0 0 0 1))
    ∷ fails (in_bounds (limits 1 1 0 0 0 9 1))
    ∷ fails (in_bounds (limits 1 1 0 0 0 1 0))
    ∷ fails (in_bounds (limits 1 1 0 0 0 1 257))
    ∷ []

-- ## open: the whole layout, 11 numbers and switches, the count and 14 for each of 256 records

unfoldable pub open_lines : List Line
open_lines = (
  opening_numbers (opened (settings 8 9 2 3 1 4 5 true false true false)),
  0 ∷ 8 ∷ 9 ∷ 2 ∷ 3 ∷ 1 ∷ 4 ∷ 5 ∷ 1 ∷ 0 ∷ 1 ∷ 0 ∷ 0 ∷ replicate 3584 0,
)
    -- refused: nothing of the configuration is left, whichever number was out of bounds
    ∷ (opening_numbers (opened (settings 8 9 2 3 1 4 0 true true true true)), 1 ∷ replicate 3596 0)
    ∷ (opening_numbers (opened (settings 4097 9 65 3 1 4 5 false true false true)), 1 ∷ replicate 3596 0)
    ∷ []

-- ## the blank record: all numbers 0, trimmed mark off, upright, symbol store

unfoldable pub blank_lines : List Line
blank_lines =
    passes (is_blank (made 0 0 (rect 0 0 0 0) Upright false (source 0 0 0 0) Symbols 0))
    ∷ fails (is_blank (made 1 0 (rect 0 0 0 0) Upright false (source 0 0 0 0) Symbols 0))
    ∷ fails (is_blank (made 0 1 (rect 0 0 0 0) Upright false (source 0 0 0 0) Symbols 0))
    ∷ fails (is_blank (made 0 0 (rect 1 0 0 0) Upright false (source 0 0 0 0) Symbols 0))
    ∷ fails (is_blank (made 0 0 (rect 0 1 0 0) Upright false (source 0 0 0 0) Symbols 0))
    ∷ fails (is_blank (made 0 0 (rect 0 0 1 0) Upright false (source 0 0 0 0) Symbols 0))
    ∷ fails (is_blank (made 0 0 (rect 0 0 0 1) Upright false (source 0 0 0 0) Symbols 0))
    ∷ fails (is_blank (made 0 0 (rect 0 0 0 0) Turned false (source 0 0 0 0) Symbols 0))
    ∷ fails (is_blank (made 0 0 (rect 0 0 0 0) Upright true (source 0 0 0 0) Symbols 0))
    ∷ fails (is_blank (made 0 0 (rect 0 0 0 0) Upright false (source 1 0 0 0) Symbols 0))
    ∷ fails (is_blank (made 0 0 (rect 0 0 0 0) Upright false (source 0 1 0 0) Symbols 0))
    ∷ fails (is_blank (made 0 0 (rect 0 0 0 0) Upright false (source 0 0 1 0) Symbols 0))
    ∷ fails (is_blank (made 0 0 (rect 0 0 0 0) Upright false (source 0 0 0 1) Symbols 0))
    ∷ fails (is_blank (made 0 0 (rect 0 0 0 0) Upright false (source 0 0 0 0) Wording 0))
    ∷ fails (is_blank (made 0 0 (rect 0 0 0 0) Upright false (source 0 0 0 0) Symbols 1))
    ∷ []

-- ## a record: each field at both sides of its bound

-- b=2, 3 pages, trim off or on
unfoldable pub strict : Bool → Config
strict trim = settings 16 16 0 2 0 3 4 false trim false false

-- a record on a page, upright, its frame and source given
unfoldable pub stands : ℕ → Rect → Source → Record
stands page frame src = made 7 page frame Upright false src Symbols 0

unfoldable pub ok : Record → Bool
ok r = record_well_formed (strict false) r

unfoldable pub record_lines : List Line
record_lines =
    passes (ok (stands 2 (rect 2 2 3 4) (source 1 2 10 20)))
    ∷ fails (ok (stands 3 (rect 2 2 3 4) (source 1 2 10 20)))
    -- whole sizes 1 to 2048
    ∷ fails (ok (stands 0 (rect 2 2 1 1) (source 0 0 0 1)))
    ∷ passes (ok (stands 0 (rect 2 2 1 1) (source 0 0 1 1)))
    ∷ passes (ok (stands 0 (rect 2 2 1 1) (source 0 0 2048 1)))
    ∷ fails (ok (stands 0 (rect 2 2 1 1) (source 0 0 2049 1)))
    ∷ fails (ok (stands 0 (rect 2 2 1 1) (source 0 0 1 0)))
    ∷ passes (ok (stands 0 (rect 2 2 1 1) (source 0 0 1 2048)))
    ∷ fails (ok (stands 0 (rect 2 2 1 1) (source 0 0 1 2049)))
    -- frame x and y from b to b+4095
    ∷ fails (ok (stands 0 (rect 1 2 3 4) (source 1 2 10 20)))
    ∷ passes (ok (stands 0 (rect 4097 2 3 4) (source 1 2 10 20)))
    ∷ fails (ok (stands 0 (rect 4098 2 3 4) (source 1 2 10 20)))
    ∷ fails (ok (stands 0 (rect 2 1 3 4) (source 1 2 10 20)))
    ∷ passes (ok (stands 0 (rect 2 4097 3 4) (source 1 2 10 20)))
    ∷ fails (ok (stands 0 (rect 2 4098 3 4) (source 1 2 10 20)))
    -- trimmed mark equal to the trim switch
    ∷ fails (record_well_formed (strict true) (made 7 0 (rect 2 2 3 4) Upright false (source 1 2 10 20) Symbols 0))
    ∷ passes (record_well_formed (strict true) (made 7 0 (rect 2 2 3 4) Upright true (source 1 2 10 20) Symbols 0))
    ∷ fails (record_well_formed (strict false) (made 7 0 (rect 2 2 3 4) Upright true (source 1 2 10 20) Symbols 0))
    -- the box not empty, and inside: up to the edge, and one past it
    ∷ fails (ok (stands 0 (rect 2 2 0 4) (source 1 2 10 20)))
    ∷ fails (ok (stands 0 (rect 2 2 3 0) (source 1 2 10 20)))
    ∷ passes (ok (stands 0 (rect 2 2 3 4) (source 7 16 10 20)))
    ∷ fails (ok (stands 0 (rect 2 2 3 4) (source 8 16 10 20)))
    ∷ fails (ok (stands 0 (rect 2 2 3 4) (source 7 17 10 20)))
    -- 32 bits would take this corner and width for 2
    ∷ fails (ok (stands 0 (rect 2 2 3 4) (source 4294967295 0 10 20)))
    -- swapped back if turned
    ∷ passes (ok (made 7 0 (rect 2 2 3 4) Turned false (source 0 0 4 3) Wording 9))
    ∷ fails (ok (made 7 0 (rect 2 2 3 4) Turned false (source 0 0 3 4) Wording 9))
    ∷ passes (ok (stands 0 (rect 2 2 3 4) (source 0 0 3 4)))
    ∷ fails (ok (stands 0 (rect 2 2 3 4) (source 0 0 4 3)))
    ∷ []

-- ## what a record says of its art: trim box, whole size, image

unfoldable pub box_numbers : Rect → List ℕ
box_numbers k = k.x ∷ k.y ∷ k.w ∷ k.h ∷ []

unfoldable pub size_numbers : Size → List ℕ
size_numbers s = s.w ∷ s.h ∷ []

unfoldable pub image_numbers : Image → List ℕ
image_numbers i = store_number i.store ∷ i.offset ∷ i.w ∷ i.h ∷ []

unfoldable pub lies : Turn → Record
lies turn = made 7 1 (rect 2 5 3 4) turn false (source 1 6 10 20) Wording 9

unfoldable pub art_lines : List Line
art_lines =
    (box_numbers (box_of (lies Upright)), 1 ∷ 6 ∷ 3 ∷ 4 ∷ [])
    ∷ (box_numbers (box_of (lies Turned)), 1 ∷ 6 ∷ 4 ∷ 3 ∷ [])
    -- the whole image lies as it is, whatever the turn
    ∷ (size_numbers (whole_of (lies Turned)), 10 ∷ 20 ∷ [])
    ∷ (image_numbers (image_of (lies Turned)), 1 ∷ 9 ∷ 10 ∷ 20 ∷ [])
    ∷ []

-- ## a layout: count, unused places, standing records

unfoldable pub good : ℕ → Record
good key = made key 0 (rect 2 2 3 4) Upright false (source 1 2 10 20) Wording 5

-- like it, but for a page too many
unfoldable pub bad : Record
bad = stands 3 (rect 2 2 3 4) (source 1 2 10 20)

-- no record, and yet not blank
unfoldable pub rest : Record
rest = made 0 0 (rect 0 0 0 0) Upright false (source 0 0 0 0) Symbols 1

unfoldable pub full : ℕ → ℕ → Layout
full images count = laid (limits 16 16 0 2 0 3 images) count (replicate 256 (good 1))

unfoldable pub formed_lines : List Line
formed_lines =
    passes (well_formed (laid (strict false) 0 []))
    ∷ passes (well_formed (laid (strict false) 4 (good 1 ∷ good 2 ∷ good 3 ∷ good 4 ∷ [])))
    ∷ passes (well_formed (laid (strict false) 2 (good 1 ∷ good 1 ∷ [])))
    -- the configuration, and one record of several
    ∷ fails (well_formed (laid (limits 0 16 0 2 0 3 4) 1 (good 1 ∷ [])))
    ∷ fails (well_formed (laid (strict false) 3 (good 1 ∷ good 2 ∷ bad ∷ [])))
    ∷ fails (well_formed (laid (strict true) 1 (good 1 ∷ [])))
    -- 5 images of 4, 256 of 256, 256 of 255, 257 of 256
    ∷ fails (well_formed (laid (strict false) 5 (good 1 ∷ good 2 ∷ good 3 ∷ good 4 ∷ good 5 ∷ [])))
    ∷ passes (well_formed (full 256 256))
    ∷ fails (well_formed (full 255 256))
    ∷ fails (well_formed (full 256 257))
    -- a standing record too many or too few for the count
    ∷ fails (well_formed (laid (strict false) 2 (good 1 ∷ [])))
    ∷ fails (well_formed (laid (strict false) 1 (good 1 ∷ good 2 ∷ [])))
    -- unused places: the first, one past the image limit, the last
    ∷ fails (well_formed (laid (strict false) 1 (good 1 ∷ rest ∷ [])))
    ∷ fails (well_formed (laid (strict false) 1 (good 1 ∷ replicate 3 blank_record ++ rest ∷ [])))
    ∷ fails (well_formed (laid (strict false) 1 (good 1 ∷ replicate 254 blank_record ++ rest ∷ [])))
    ∷ []

-- ## keys: the earliest record that has it

unfoldable pub named : Option Record → List ℕ
named none = []
named (some r) = r.offset ∷ []

unfoldable pub keyed : Layout
keyed =
    laid (strict false) 3
    (made 7 0 (rect 2 2 3 4) Upright false (source 1 2 10 20) Symbols 11
    ∷ made 9 0 (rect 2 2 3 4) Upright false (source 1 2 10 20) Symbols 12
    ∷ made 7 0 (rect 2 2 3 4) Upright false (source 1 2 10 20) Symbols 13
    ∷ [])

-- where it stands, and the offset of the record
unfoldable pub found_at : ℕ → List ℕ
found_at key = key_place (record { 0 = key }) (standing keyed) ∷ named (record_of keyed (record { 0 = key }))

unfoldable pub key_lines : List Line
key_lines =
    (found_at 7, 0 ∷ 11 ∷ [])
    ∷ (found_at 9, 1 ∷ 12 ∷ [])
    -- the blank record's key stands nowhere
    ∷ (found_at 0, 3 ∷ [])
    ∷ []

-- ## pages

unfoldable pub on_pages : List ℕ → List Record
on_pages = map (λ p. stands p (rect 2 2 3 4) (source 1 2 10 20))

unfoldable pub size_on : Layout → ℕ → List ℕ
size_on l p = sized_numbers (page_sized l (record { 0 = p }))

-- b=1 and e=1, not forced or forced: two frames on page 0, one on page 2, none on page 1
unfoldable pub paged : Bool → Layout
paged forced =
    laid (settings 32 30 0 1 1 4 4 false false false forced) 3
    (stands 0 (rect 1 1 4 5) (source 0 0 4 5)
    ∷ stands 2 (rect 1 1 10 2) (source 0 0 10 2)
    ∷ stands 0 (rect 5 1 2 3) (source 0 0 2 3)
    ∷ [])

-- forced, and the frame ends past the maxima
unfoldable pub overrun : Layout
overrun = laid (settings 4 5 0 2 0 1 1 false false false true) 1 (stands 0 (rect 2 2 4 4) (source 0 0 4 4) ∷ [])

-- as far right and as far down as a frame can end
unfoldable pub furthest : Layout
furthest = laid (limits 4096 4096 0 64 0 1 1) 1 (stands 0 (rect 4159 4159 2048 2048) (source 0 0 2048 2048) ∷ [])

unfoldable pub page_lines : List Line
page_lines =
    -- the page count: one more than the greatest page number, not the latest, or 0
    (page_count [] ∷ [], 0 ∷ [])
    ∷ (page_count (on_pages (0 ∷ [])) ∷ [], 1 ∷ [])
    ∷ (page_count (on_pages (2 ∷ 0 ∷ [])) ∷ [], 3 ∷ [])
    -- page size: of that page's frames alone, with the border, without the extrusion
    ∷ (size_on (paged false) 0, 0 ∷ 8 ∷ 7 ∷ [])
    ∷ (size_on (paged false) 2, 0 ∷ 12 ∷ 4 ∷ [])
    -- 0 without frames
    ∷ (size_on (paged false) 1, 0 ∷ 0 ∷ 0 ∷ [])
    -- page not below the page count, though it is below the page limit
    ∷ (size_on (paged false) 3, 11 ∷ [])
    -- forced, also where a frame ends past the maxima
    ∷ (size_on (paged true) 0, 0 ∷ 32 ∷ 30 ∷ [])
    ∷ (size_on (paged true) 1, 0 ∷ 32 ∷ 30 ∷ [])
    ∷ (size_on (paged true) 3, 11 ∷ [])
    ∷ (size_on overrun 0, 0 ∷ 4 ∷ 5 ∷ [])
    -- not well-formed, asked before the page
    ∷ (size_on (laid (strict false) 1 (bad ∷ [])) 0, 2 ∷ [])
    ∷ (size_on (laid (strict false) 1 (bad ∷ [])) 9, 2 ∷ [])
    ∷ (size_on (laid (limits 0 9 0 0 0 1 1) 0 []) 0, 2 ∷ [])
    ∷ (size_on furthest 0, 0 ∷ 6271 ∷ 6271 ∷ [])
    ∷ []

unfoldable pub table : List Line
table = bound_lines ++ open_lines ++ blank_lines ++ record_lines ++ art_lines ++ formed_lines ++ key_lines ++ page_lines
