-- Document 01's examples 10 and 11, and lines of our own that take one layout through all the operations: beside what is computed stands
-- what it must be, the number and the values of each answer. Sizes at the front are the maxima; f32 numbers are given by their bits.
-- Assumes nothing.
use Rattle.std.specs.Prelude.{ℕ, ◌*◌, ◌^◌, true, false, List, [], ◌∷◌, ◌++◌, map, replicate, set, Some, None}
use Rattle.geometry.specs.Words.{from, flat}
use Rattle.geometry.specs.declared.spot.Turn.TheVariants.{Upright, Turned}
use Rattle.art.specs.Stores.{Stores, holding as stores_of}
use Rattle.art.specs.declared.memory_rgba8_texture.Store.TheVariants.{Symbols, Wording}
use Rattle.records.specs.Samples.{settings, rect, source, made, layout_numbers}
use Rattle.records.specs.declared.texture_packer_config.Config.{Config}
use Rattle.records.specs.declared.frame.Record.{Record}
use Rattle.records.specs.declared.layout.Layout.{Layout}
use Rattle.rules.specs.Story.{filled, Call, Offer, Withdraw}
use Rattle.rules.specs.TableWords.{Line, plain, limited, rotating, trimming, key, image, clear, symbols, offer_of, offer, ask, answers_from, answers, page_after, at, turned_at, it_fits, it_does_not, gone_key, sides, refused, whole}
use Rattle.lookup.specs.TableWords.{counting, across, shown, nothing, row, refused_row}
use Rattle.paint.specs.Backgrounds.{Background}
use Rattle.coords.specs.Bits.{decoded}
use Rattle.coords.specs.Table.{answer as coordinates, inset, frame_is, numbers_are}
use Rattle.coords.specs.declared.locate.Request.TheVariants.{Pixels, Edges}
use Rattle.examples.specs.TableWords.{after, size_on, pixel, composes, holding, checks, same, off, every_answer}

-- 10. Frame x=3, w=5, page width 8: 0.375 and 1; inset 0.5: 0.4375 and 0.9375.

-- 3x4, and 5x4 to the right of it: the page is 8x4
unfoldable pub three_and_five : List Call
three_and_five = offer 0 3 4 ∷ offer 1 5 4 ∷ []

unfoldable pub five_on : Layout → List Line
five_on l =
    (coordinates l 1 Pixels ∷ size_on l 0 ∷ [], frame_is 3 0 5 4 ∷ sides 8 4 ∷ [])
    ∷ (coordinates l 1 Edges ∷ [], numbers_are 1052770304 0 1065353216 1065353216 ∷ [])
    ∷ (coordinates l 1 (inset 1056964608) ∷ [], numbers_are 1054867456 1040187392 1064304640 1063256064 ∷ [])
    ∷ []

unfoldable pub tenth : List Line
tenth =
    five_on (after (plain 8 9) three_and_five)
    -- what the bits of left and right stand for, in units of 2 ^ -149: 6 and 16, 7 and 15 sixteenths
    ++ (
      map decoded (1052770304 ∷ 1065353216 ∷ 1054867456 ∷ 1064304640 ∷ []) ∷ [],
      (6 * 2 ^ 145 ∷ 16 * 2 ^ 145 ∷ 7 * 2 ^ 145 ∷ 15 * 2 ^ 145 ∷ []) ∷ [],
    )
    ∷ []

-- 11. 0 images: withdraw 18; page size 11. Sides 0 and 2049 answer 4; 1 and 2048 pass. All clear with trim: 7, no page opened.

unfoldable pub clear_square : List Call
clear_square = offer_of (symbols (clear 64)) 0 8 8 ∷ []

-- 2048 pixels in a row, or in a column
unfoldable pub long_line : Stores
long_line = symbols (replicate 8192 255)

unfoldable pub eleventh : List Line
eleventh =
    (answers (plain 8 9) (Withdraw ∷ []), refused 18 ∷ [])
    ∷ (page_after (plain 8 9) [] 0, refused 11 ∷ [])
    ∷ (
      answers (plain 8 9) (offer 0 0 1 ∷ offer 0 1 0 ∷ offer 0 2049 1 ∷ offer 0 1 2049 ∷ offer 0 1 1 ∷ []),
      refused 4 ∷ refused 4 ∷ refused 4 ∷ refused 4 ∷ at 0 0 0 1 1 ∷ [],
    )
    ∷ (answers (rotating 1 2049) (offer_of long_line 0 1 2048 ∷ []), at 0 0 0 1 2048 ∷ [])
    ∷ (answers (rotating 1 2049) (offer_of long_line 0 2048 1 ∷ []), turned_at 0 0 0 1 2048 ∷ [])
    ∷ (
      answers (plain 8 9) (offer 0 1 1 ∷ ask 0 0 1 ∷ ask 0 1 0 ∷ ask 0 2049 1 ∷ ask 0 1 2049 ∷ ask 0 1 1 ∷ ask 0 2048 1 ∷ ask 0 1 2048 ∷ []),
      at 0 0 0 1 1 ∷ refused 4 ∷ refused 4 ∷ refused 4 ∷ refused 4 ∷ it_fits ∷ it_does_not ∷ it_does_not ∷ [],
    )
    ∷ (answers (trimming 8 9) clear_square, refused 7 ∷ [])
    ∷ (page_after (trimming 8 9) clear_square 0, refused 11 ∷ [])
    ∷ []

-- ## lines of our own: every operation on one layout

unfoldable pub operations : List Line
operations =
    -- no image
    (
      every_answer (after (plain 5 6) []) (counting 4 0) (from 0 4),
      refused 11 ∷ at 0 0 0 1 1 ∷ refused 18 ∷ refused 11 ∷ refused 11 ∷ refused 11 ∷ refused 11 ∷ refused 15 ∷ refused 15 ∷ [],
    )
    -- the blank layout of a refused open; an image too many: 2, whatever is asked
    ∷ (every_answer (after (plain 0 6) []) (counting 4 0) (from 0 4), replicate 9 (refused 2))
    ∷ (every_answer (filled (limited 5 6 1 1) (whole 0 0 0 0 1 1 ∷ whole 1 0 1 0 1 1 ∷ [])) (counting 4 0) (from 0 4), replicate 9 (refused 2))
    -- one image of 1x1
    ∷ (
      every_answer (filled (plain 5 6) (whole 0 0 0 0 1 1 ∷ [])) (counting 4 0) (from 0 4),
      it_fits ∷ at 0 1 0 1 1 ∷ gone_key 0 ∷ sides 1 1 ∷ shown 0 ∷ (0 ∷ []) ∷ same ∷ (0 ∷ []) ∷ numbers_are 0 0 1065353216 1065353216 ∷ [],
    )
    -- the same in column 1: 3 is asked by ask, offer and withdraw alone
    ∷ (
      every_answer (filled (plain 5 6) (whole 0 0 1 0 1 1 ∷ [])) (counting 4 0) (0 ∷ 0 ∷ 0 ∷ 0 ∷ from 0 4),
      refused 3 ∷ refused 3 ∷ refused 3 ∷ sides 2 1 ∷ nothing ∷ (0 ∷ []) ∷ same ∷ (0 ∷ []) ∷ numbers_are 1056964608 0 1065353216 1065353216 ∷ [],
    )
    -- its store too short: 5 where pixels or an image's bytes are read
    ∷ (
      every_answer (filled (plain 5 6) (whole 0 0 0 0 1 1 ∷ [])) (counting 3 0) (from 0 4),
      it_fits ∷ refused 5 ∷ gone_key 0 ∷ sides 1 1 ∷ refused 5 ∷ refused 5 ∷ refused 5 ∷ refused 5 ∷ numbers_are 0 0 1065353216 1065353216 ∷ [],
    )
    ∷ []

-- ## 16x8, p=1, b=2, e=1, rotation and trim, 2 pages, 4 images; cells are 3 wider and higher than images, the canvas is 16x7

unfoldable pub all_set : Config
all_set = settings 16 8 1 2 1 2 4 true true false false

-- symbols: 6x2, all visible, and 3x3 of which (1,0) and (1,1) are; wording: after three bytes 4x5 of which columns 2 and 3 of rows 1 to 3 are
unfoldable pub drawn : Stores
drawn =
    stores_of (from 1 48 ++ clear 1 ++ from 201 4 ++ clear 2 ++ from 205 4 ++ clear 4)
    (9 ∷ 9 ∷ 9 ∷ clear 6 ++ from 101 8 ++ clear 2 ++ from 109 8 ++ clear 2 ++ from 117 8 ++ clear 4)

unfoldable pub three_offers : List Call
three_offers = Offer drawn (key 7) (image Wording 3 4 5) ∷ offer_of drawn 9 6 2 ∷ Offer drawn (key 4) (image Symbols 48 3 3) ∷ []

-- the first lies turned, in 6x5; the second to the right of it; page 0 has no room for the whole of the third, and page 1 takes its box
unfoldable pub seven : Record
seven = made 7 0 (rect 2 2 3 2) Turned true (source 2 1 4 5) Wording 3

unfoldable pub nine : Record
nine = made 9 0 (rect 8 2 6 2) Upright true (source 0 0 6 2) Symbols 0

unfoldable pub four : Record
four = made 4 1 (rect 2 2 2 1) Turned true (source 1 0 3 3) Symbols 48

unfoldable pub placed_on : Layout → List Line
placed_on l =
    (layout_numbers l ∷ [], layout_numbers (filled all_set (seven ∷ nine ∷ four ∷ [])) ∷ [])
    ∷ (answers_from l (ask 0 3 3 ∷ ask 1 3 3 ∷ ask 2 1 1 ∷ []), it_does_not ∷ it_fits ∷ refused 11 ∷ [])
    ∷ (size_on l 0 ∷ size_on l 1 ∷ size_on l 2 ∷ [], sides 16 6 ∷ sides 6 5 ∷ refused 11 ∷ [])
    ∷ []

-- a pixel of the colour behind, and one whose first three bytes count from n on, its alpha 255
unfoldable pub behind : List ℕ
behind = 50 ∷ 60 ∷ 70 ∷ 80 ∷ []

unfoldable pub opaque : ℕ → List ℕ
opaque n = from n 3 ++ 255 ∷ []

unfoldable pub painted : Background
painted = Some (record { pixel = pixel 50 60 70 80; threshold = Some 24; discard = true })

-- rows 2 and 3 of page 0: of the second image row 0 has alpha 4 to 24, row 1 alpha 28 to 48
unfoldable pub row_two : List (List ℕ)
row_two = behind ∷ opaque 117 ∷ opaque 117 ∷ opaque 109 ∷ opaque 101 ∷ opaque 101 ∷ replicate 10 behind

unfoldable pub row_three : List (List ℕ)
row_three =
    (behind ∷ opaque 121 ∷ opaque 121 ∷ opaque 113 ∷ opaque 105 ∷ opaque 105 ∷ behind ∷ [])
    ++ (opaque 25 ∷ opaque 25 ∷ opaque 29 ∷ opaque 33 ∷ opaque 37 ∷ opaque 41 ∷ opaque 45 ∷ opaque 45 ∷ behind ∷ [])

unfoldable pub two_rows : List ℕ
two_rows = flat (λ k. k) (row_two ++ row_three)

unfoldable pub shown_on : Layout → List Line
shown_on l =
    -- row 2 of page 0, and the last row of the zone on page 1
    (
      across l drawn 0 2 16,
      (nothing ∷ shown 117 ∷ shown 117 ∷ shown 109 ∷ shown 101 ∷ shown 101 ∷ nothing ∷ [])
          ++ (shown 1 ∷ shown 1 ∷ shown 5 ∷ shown 9 ∷ shown 13 ∷ shown 17 ∷ shown 21 ∷ shown 21 ∷ nothing ∷ []),
    )
    ∷ (across l drawn 1 3 6, nothing ∷ shown 205 ∷ shown 205 ∷ shown 201 ∷ shown 201 ∷ nothing ∷ [])
    ∷ (composes l drawn painted 0 2 2 (replicate 128 0), holding two_rows)
    -- what was composed is the same; of two bytes changed, in columns 12 and 9 of row 3, column 9 is told; another background differs at once
    ∷ (
      checks l drawn painted 0 2 2 two_rows
          ∷ checks l drawn painted 0 2 2 (set (set two_rows 112 0) 103 254)
          ∷ checks l drawn None 0 2 2 two_rows
          ∷ [],
      same ∷ off 9 3 ∷ off 0 2 ∷ [],
    )
    ∷ []

unfoldable pub read_on : Layout → List Line
read_on l =
    -- the whole rows, untrimmed and not turned
    (row l drawn 7 3, (0 ∷ []) ∷ (1 ∷ 51 ∷ 16 ∷ []) ∷ (clear 2 ++ from 117 8) ∷ [])
    ∷ (row l drawn 4 1, (0 ∷ []) ∷ (0 ∷ 60 ∷ 12 ∷ []) ∷ (clear 1 ++ from 205 4 ++ clear 1) ∷ [])
    ∷ (row l drawn 4 3, refused_row 13)
    -- of a turned frame on page 0, and of one on page 1, inset by 0.25
    ∷ (
      coordinates l 7 Pixels ∷ coordinates l 7 Edges ∷ coordinates l 4 (inset 1048576000) ∷ [],
      frame_is 2 2 3 2
          ∷ numbers_are 1040187392 1051372203 1050673152 1059760811
          ∷ numbers_are 1052770304 1055286886 1059061760 1057803469
          ∷ [],
    )
    -- the latest goes, and may come back; then all go
    ∷ (
      answers_from l (Withdraw ∷ Offer drawn (key 4) (image Symbols 48 3 3) ∷ Withdraw ∷ Withdraw ∷ Withdraw ∷ Withdraw ∷ []),
      gone_key 4 ∷ turned_at 1 2 2 2 1 ∷ gone_key 4 ∷ gone_key 9 ∷ gone_key 7 ∷ refused 18 ∷ [],
    )
    ∷ []

-- the latest gone: its page, its image and its key with it
unfoldable pub left_on : Layout → List Line
left_on l =
    (layout_numbers l ∷ [], layout_numbers (filled all_set (seven ∷ nine ∷ [])) ∷ [])
    ∷ (answers_from l (ask 1 1 1 ∷ []), refused 11 ∷ [])
    ∷ (size_on l 0 ∷ size_on l 1 ∷ coordinates l 4 Pixels ∷ [], sides 16 6 ∷ refused 11 ∷ refused 15 ∷ [])
    ∷ (row l drawn 4 1, refused_row 15)
    ∷ (checks l drawn painted 0 2 2 two_rows ∷ [], same ∷ [])
    ∷ []

unfoldable pub story : List Line
story =
    (answers all_set three_offers, turned_at 0 2 2 3 2 ∷ at 0 8 2 6 2 ∷ turned_at 1 2 2 2 1 ∷ [])
    ∷ placed_on (after all_set three_offers)
    ++ shown_on (after all_set three_offers)
    ++ read_on (after all_set three_offers)
    ++ left_on (after all_set (three_offers ++ Withdraw ∷ []))

unfoldable pub table : List Line
table = tenth ++ eleventh ++ operations ++ story
