-- The examples of document 01 that are to be proved together, 1 to 9, in its order and under its words: beside what is computed stands what
-- it must be, the number and the values of each answer. Sizes at the front are the maxima.
-- Assumes nothing.
use Rattle.std.specs.Prelude.{ℕ, true, false, List, [], ◌∷◌, ◌++◌, replicate, Some, None}
use Rattle.geometry.specs.Words.{from}
use Rattle.geometry.specs.declared.spot.Turn.TheVariants.{Upright}
use Rattle.art.specs.Stores.{Stores, turned_point}
use Rattle.art.specs.declared.memory_rgba8_texture.Store.TheVariants.{Symbols}
use Rattle.records.specs.Samples.{settings, rect}
use Rattle.records.specs.declared.texture_packer_config.Config.{Config}
use Rattle.records.specs.declared.layout.Layout.{Layout}
use Rattle.rules.specs.Story.{Call, Offer}
use Rattle.rules.specs.TableWords.{Line, plain, padded, bordered, extruded, limited, rotating, trimming, key, image, symbols, dot, offer_of, offer, answers, page_after, at, turned_at, sides, refused, made, record_numbers, record_after}
use Rattle.lookup.specs.TableWords.{counting, at as pixel_at, shown}
use Rattle.paint.specs.Backgrounds.{Background}
use Rattle.coords.specs.Table.{answer as coordinates}
use Rattle.coords.specs.declared.locate.Request.TheVariants.{Edges}
use Rattle.examples.specs.TableWords.{after, point, zone_columns, pixel, composes, holding}

-- 1. 8x9, nothing else set. 4x3 (0,0); 4x2 (4,0); 4x2 (4,2); 8x4 (0,4); then 1x1 opens page 1, or 10 if one page.

unfoldable pub five : List Call
five = offer 0 4 3 ∷ offer 1 4 2 ∷ offer 2 4 2 ∷ offer 3 8 4 ∷ offer 4 1 1 ∷ []

unfoldable pub first : List Line
first =
    (answers (plain 8 9) five, at 0 0 0 4 3 ∷ at 0 4 0 4 2 ∷ at 0 4 2 4 2 ∷ at 0 0 4 8 4 ∷ at 1 0 0 1 1 ∷ [])
    ∷ (answers (limited 8 9 1 256) five, at 0 0 0 4 3 ∷ at 0 4 0 4 2 ∷ at 0 4 2 4 2 ∷ at 0 0 4 8 4 ∷ refused 10 ∷ [])
    ∷ []

-- 2. 9x8. 4x1 (0,0); 2x3 (4,0); 3x1 (6,0); 1x1 goes to (6,1), the narrower segment. Width 10, third 4x1: 1x1 goes to (0,1).

unfoldable pub second : List Line
second =
    -- width 9
    (
      answers (plain 9 8) (offer 0 4 1 ∷ offer 1 2 3 ∷ offer 2 3 1 ∷ offer 3 1 1 ∷ []),
      at 0 0 0 4 1 ∷ at 0 4 0 2 3 ∷ at 0 6 0 3 1 ∷ at 0 6 1 1 1 ∷ [],
    )
    -- width 10
    ∷ (
      answers (plain 10 8) (offer 0 4 1 ∷ offer 1 2 3 ∷ offer 2 4 1 ∷ offer 3 1 1 ∷ []),
      at 0 0 0 4 1 ∷ at 0 4 0 2 3 ∷ at 0 6 0 4 1 ∷ at 0 0 1 1 1 ∷ [],
    )
    ∷ []

-- 3. 8x8, rotation. 2x6 is turned, 6x2 at (0,0). 3x3 alone is upright.

unfoldable pub third : List Line
third =
    (answers (rotating 8 8) (offer 0 2 6 ∷ []), turned_at 0 0 0 6 2 ∷ [])
    ∷ (answers (rotating 8 8) (offer 0 3 3 ∷ []), at 0 0 0 3 3 ∷ [])
    ∷ []

-- 4. 8x9, p=2: 6x6 accepted, 7x1 answers 8. e=1, p=0: 6x6 accepted. 8x8, p=2: 6x5 accepted, 6x6 answers 8.

unfoldable pub fourth : List Line
fourth =
    (answers (padded 8 9 2) (offer 0 6 6 ∷ []), at 0 0 0 6 6 ∷ [])
    ∷ (answers (padded 8 9 2) (offer 0 7 1 ∷ []), refused 8 ∷ [])
    ∷ (answers (extruded 8 9 1) (offer 0 6 6 ∷ []), at 0 0 0 6 6 ∷ [])
    ∷ (answers (padded 8 8 2) (offer 0 6 5 ∷ []), at 0 0 0 6 5 ∷ [])
    ∷ (answers (padded 8 8 2) (offer 0 6 6 ∷ []), refused 8 ∷ [])
    ∷ []

-- 5. 8x9, b=2: 8x8 accepted at (2,2); page 12x12. Forced: page 8x9, edge coordinates answer 16.

unfoldable pub eight : List Call
eight = offer 0 8 8 ∷ []

unfoldable pub fifth : List Line
fifth =
    (answers (bordered 8 9 2 false) eight, at 0 2 2 8 8 ∷ [])
    ∷ (page_after (bordered 8 9 2 false) eight 0, sides 12 12 ∷ [])
    ∷ (page_after (bordered 8 9 2 true) eight 0, sides 8 9 ∷ [])
    ∷ (coordinates (after (bordered 8 9 2 true) eight) 0 Edges ∷ [], refused 16 ∷ [])
    ∷ []

-- 6. 8x9, trim: an 8x8 with only (3,5) visible gives frame 1x1 at (0,0), source 3,5,8,8. A second such image opens page 1, since the whole
-- size is asked.

unfoldable pub sixth : List Line
sixth =
    (answers (trimming 8 9) (offer_of dot 0 8 8 ∷ []), at 0 0 0 1 1 ∷ [])
    ∷ (record_after (trimming 8 9) (offer_of dot 0 8 8 ∷ []) 0, record_numbers (made 0 0 0 0 1 1 Upright true 3 5 8 8) ∷ [])
    ∷ (answers (trimming 8 9) (offer_of dot 0 8 8 ∷ offer_of dot 1 8 8 ∷ []), at 0 0 0 1 1 ∷ at 1 0 0 1 1 ∷ [])
    ∷ []

-- 7. 14x6, e=2: 3x1 twice gives (0,0), (7,0); zones are columns 0-6 and 5-11; columns 5, 6 show the first's last pixel.

-- the bytes count from 0 on: those of the first image's pixels from 0, 4 and 8, those of the second's from 12, 16 and 20
unfoldable pub both_threes : List Call
both_threes = offer_of (counting 24 0) 0 3 1 ∷ Offer (counting 24 0) (key 1) (image Symbols 12 3 1) ∷ []

-- of the layout that the offers gave
unfoldable pub threes_on : Layout → List Line
threes_on l =
    (zone_columns l, (0 ∷ 6 ∷ []) ∷ (5 ∷ 11 ∷ []) ∷ [])
    ∷ (pixel_at l (counting 24 0) 0 5 0 ∷ pixel_at l (counting 24 0) 0 6 0 ∷ [], shown 8 ∷ shown 8 ∷ [])
    ∷ []

unfoldable pub seventh : List Line
seventh = (answers (extruded 14 6 2) both_threes, at 0 0 0 3 1 ∷ at 0 7 0 3 1 ∷ []) ∷ threes_on (after (extruded 14 6 2) both_threes)

-- 8. 2 wide, 3 high, turned: local (0,0) reads (0,2), (2,1) reads (1,0).

-- the same of an image that is turned, on the page: its pixel (x, y) counts from 8y+4x on
unfoldable pub turned_on : Layout → List Line
turned_on l = (pixel_at l (counting 24 0) 0 0 0 ∷ [], shown 16 ∷ []) ∷ (pixel_at l (counting 24 0) 0 2 1 ∷ [], shown 4 ∷ []) ∷ []

unfoldable pub eighth : List Line
eighth =
    (point (turned_point (rect 0 0 2 3) 0 0) ∷ [], (0 ∷ 2 ∷ []) ∷ [])
    ∷ (point (turned_point (rect 0 0 2 3) 2 1) ∷ [], (1 ∷ 0 ∷ []) ∷ [])
    ∷ turned_on (after (rotating 8 8) (offer_of (counting 24 0) 0 2 3 ∷ []))

-- 9. 4x4, one 2x1 image, bytes 1 to 8: page 2x1 is 1,2,3,4,5,6,7,8. Background 9,9,9,9, threshold 4, discard: 9,9,9,9,5,6,7,255. Outlines,
-- no background: 255,0,0,255,255,0,0,255.

unfoldable pub to_eight : Stores
to_eight = symbols (from 1 8)

unfoldable pub outlining : Config
outlining = settings 4 4 0 0 0 8 256 false false true false

unfoldable pub nines : Background
nines = Some (record { pixel = pixel 9 9 9 9; threshold = Some 4; discard = true })

unfoldable pub page_bytes : Config → Background → List (List ℕ)
page_bytes c g = composes (after c (offer_of to_eight 0 2 1 ∷ [])) to_eight g 0 0 1 (replicate 8 0)

unfoldable pub ninth : List Line
ninth =
    (page_after (plain 4 4) (offer_of to_eight 0 2 1 ∷ []) 0, sides 2 1 ∷ [])
    ∷ (page_bytes (plain 4 4) None, holding (1 ∷ 2 ∷ 3 ∷ 4 ∷ 5 ∷ 6 ∷ 7 ∷ 8 ∷ []))
    ∷ (page_bytes (plain 4 4) nines, holding (9 ∷ 9 ∷ 9 ∷ 9 ∷ 5 ∷ 6 ∷ 7 ∷ 255 ∷ []))
    ∷ (page_bytes outlining None, holding (255 ∷ 0 ∷ 0 ∷ 255 ∷ 255 ∷ 0 ∷ 0 ∷ 255 ∷ []))
    ∷ []

unfoldable pub table : List Line
table = first ++ second ++ third ++ fourth ++ fifth ++ sixth ++ seventh ++ eighth ++ ninth
