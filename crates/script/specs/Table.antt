-- Scripts of our own that tell wrong readings of docs/SCRIPT.md apart: beside the bytes that a script is answered stands what they must be, worked out by
-- hand.
-- Assumes nothing.
use Rattle.std.specs.Prelude.{ℕ, ◌-◌, List, [], ◌∷◌, ◌++◌, get_or, replicate}
use Rattle.geometry.specs.Words.{from, flat}
use Rattle.art.specs.Stores.{Stores, holding}
use Rattle.records.specs.Samples.{record_numbers, config_numbers, layout_numbers}
use Rattle.records.specs.Settings.{blank_config, blank_record, empty_layout}
use Rattle.records.specs.declared.layout.Layout.{Layout}
use Rattle.wire.specs.Bytes.{words_bytes}
use Rattle.wire.specs.Fields.{layout_with}
use Rattle.commands.specs.Reading.{config_at}
use Rattle.script.specs.Running.{ran}

-- the bytes that are answered, and what they must be
abbrev pub Line : Type 0
Line = List ℕ × List ℕ

-- two pixels in the symbol store; eight other bytes in the wording store
unfoldable pub pixels : List ℕ
pixels = 10 ∷ 20 ∷ 30 ∷ 255 ∷ 40 ∷ 50 ∷ 60 ∷ 255 ∷ []

unfoldable pub stores : Stores
stores = holding pixels (1 ∷ 2 ∷ 3 ∷ 4 ∷ 5 ∷ 6 ∷ 7 ∷ 8 ∷ [])

-- some words as a script, with room for n bytes
unfoldable pub run_in : ℕ → List ℕ → List ℕ
run_in n words = ran (words_bytes words) stores n

unfoldable pub runs : List ℕ → List ℕ
runs words = run_in 1000 words

-- ## bytes

unfoldable pub byte_lines : List Line
byte_lines =
    -- nothing to do
    (runs [], 2 ∷ 0 ∷ 0 ∷ 0 ∷ 0 ∷ 0 ∷ 0 ∷ 0 ∷ 0 ∷ 0 ∷ 0 ∷ 0 ∷ [])
    -- one word is passed over, and then none
    ∷ (ran (11 ∷ 0 ∷ 0 ∷ 0 ∷ 1 ∷ 0 ∷ 0 ∷ 0 ∷ 7 ∷ 7 ∷ 7 ∷ 7 ∷ 11 ∷ 0 ∷ 0 ∷ 0 ∷ 0 ∷ 0 ∷ 0 ∷ 0 ∷ []) stores 12, 2 ∷ 0 ∷ 0 ∷ 0 ∷ 0 ∷ 0 ∷ 0 ∷ 0 ∷ 20 ∷ 0 ∷ 0 ∷ 0 ∷ [])
    -- three bytes name no command
    ∷ (ran (3 ∷ 0 ∷ 0 ∷ []) stores 12, 2 ∷ 0 ∷ 0 ∷ 0 ∷ 2 ∷ 0 ∷ 0 ∷ 0 ∷ 0 ∷ 0 ∷ 0 ∷ 0 ∷ [])
    -- the second byte of a command counts: there is no command 256
    ∷ (ran (0 ∷ 1 ∷ 0 ∷ 0 ∷ []) stores 12, 2 ∷ 0 ∷ 0 ∷ 0 ∷ 1 ∷ 0 ∷ 0 ∷ 0 ∷ 0 ∷ 0 ∷ 0 ∷ 0 ∷ [])
    -- withdraw on the blank layout is answered 2, in one word
    ∷ (ran (3 ∷ 0 ∷ 0 ∷ 0 ∷ []) stores 20, 1 ∷ 0 ∷ 0 ∷ 0 ∷ 2 ∷ 0 ∷ 0 ∷ 0 ∷ 2 ∷ 0 ∷ 0 ∷ 0 ∷ 0 ∷ 0 ∷ 0 ∷ 0 ∷ 4 ∷ 0 ∷ 0 ∷ 0 ∷ [])
    -- that answer and the end take 20 bytes; the end alone takes 12
    ∷ (ran (3 ∷ 0 ∷ 0 ∷ 0 ∷ []) stores 19, 2 ∷ 0 ∷ 0 ∷ 0 ∷ 3 ∷ 0 ∷ 0 ∷ 0 ∷ 0 ∷ 0 ∷ 0 ∷ 0 ∷ [])
    ∷ (ran (3 ∷ 0 ∷ 0 ∷ 0 ∷ []) stores 12, 2 ∷ 0 ∷ 0 ∷ 0 ∷ 3 ∷ 0 ∷ 0 ∷ 0 ∷ 0 ∷ 0 ∷ 0 ∷ 0 ∷ [])
    ∷ (ran (3 ∷ 0 ∷ 0 ∷ 0 ∷ []) stores 11, [])
    ∷ []

-- ## words

-- 4 columns and 5 rows, one page, two images; nothing else
unfoldable pub opening : List ℕ
opening = 0 ∷ 4 ∷ 5 ∷ 0 ∷ 0 ∷ 0 ∷ 1 ∷ 2 ∷ 0 ∷ 0 ∷ 0 ∷ 0 ∷ []

-- with key 7, the symbol store as an image of 2 by 1 pixels
unfoldable pub offering : List ℕ
offering = 2 ∷ 7 ∷ 0 ∷ 0 ∷ 2 ∷ 1 ∷ []

-- one word: the number 0
unfoldable pub opened : List ℕ
opened = 1 ∷ 0 ∷ []

-- seven words: the number 0, page 0, the frame, upright
unfoldable pub placed_at : ℕ → ℕ → ℕ → ℕ → List ℕ
placed_at x y w h = 7 ∷ 0 ∷ 0 ∷ x ∷ y ∷ w ∷ h ∷ 0 ∷ []

-- what commands are answered after that offer; the script before them has 72 bytes
unfoldable pub afterwards : List ℕ → List ℕ
afterwards words = runs (opening ++ offering ++ words)

unfoldable pub said : List ℕ → ℕ → ℕ → List ℕ
said words code at = words_bytes (opened ++ placed_at 0 0 2 1 ++ words ++ 2 ∷ code ∷ at ∷ [])

unfoldable pub command_lines : List Line
command_lines =
    -- out of bounds; then as before any open
    (runs (0 ∷ 0 ∷ 5 ∷ 0 ∷ 0 ∷ 0 ∷ 1 ∷ 2 ∷ 0 ∷ 0 ∷ 0 ∷ 0 ∷ offering), words_bytes (1 ∷ 1 ∷ 1 ∷ 2 ∷ 2 ∷ 0 ∷ 72 ∷ []))
    -- no page yet
    ∷ (runs (opening ++ 1 ∷ 0 ∷ 1 ∷ 1 ∷ []), words_bytes (opened ++ 1 ∷ 11 ∷ 2 ∷ 0 ∷ 64 ∷ []))
    ∷ (afterwards [], said [] 0 72)
    -- 3 columns and 4 rows find no room beside the image, 4 columns and 3 rows do, below it; there is no second page
    ∷ (afterwards (1 ∷ 0 ∷ 3 ∷ 4 ∷ []), said (2 ∷ 0 ∷ 0 ∷ []) 0 88)
    ∷ (afterwards (1 ∷ 0 ∷ 4 ∷ 3 ∷ []), said (2 ∷ 0 ∷ 1 ∷ []) 0 88)
    ∷ (afterwards (1 ∷ 1 ∷ 4 ∷ 3 ∷ []), said (1 ∷ 11 ∷ []) 0 88)
    -- the key stands; four bytes of the wording store, from its second byte on, are another image
    ∷ (afterwards offering, said (1 ∷ 6 ∷ []) 0 96)
    ∷ (afterwards (2 ∷ 8 ∷ 1 ∷ 1 ∷ 1 ∷ 1 ∷ 5 ∷ 0 ∷ 2 ∷ 0 ∷ []), said (placed_at 2 0 1 1 ++ 6 ∷ 0 ∷ 1 ∷ 2 ∷ 3 ∷ 4 ∷ 5 ∷ []) 0 112)
    ∷ (afterwards (3 ∷ 3 ∷ []), said (2 ∷ 0 ∷ 7 ∷ 1 ∷ 18 ∷ []) 0 80)
    ∷ (afterwards (4 ∷ 0 ∷ []), said (3 ∷ 0 ∷ 2 ∷ 1 ∷ []) 0 80)
    ∷ (afterwards (5 ∷ 0 ∷ 1 ∷ 0 ∷ 5 ∷ 0 ∷ 0 ∷ 1 ∷ []), said (6 ∷ 0 ∷ 1 ∷ 40 ∷ 50 ∷ 60 ∷ 255 ∷ 2 ∷ 0 ∷ 0 ∷ []) 0 104)
    -- pixels; texel edges, 1.0 to the right and at the bottom; an inset that is a NaN
    ∷ (afterwards (9 ∷ 7 ∷ 0 ∷ 0 ∷ []), said (6 ∷ 0 ∷ 0 ∷ 0 ∷ 0 ∷ 2 ∷ 1 ∷ []) 0 88)
    ∷ (afterwards (9 ∷ 7 ∷ 1 ∷ 0 ∷ []), said (6 ∷ 0 ∷ 1 ∷ 0 ∷ 0 ∷ 1065353216 ∷ 1065353216 ∷ []) 0 88)
    ∷ (afterwards (9 ∷ 7 ∷ 2 ∷ 2139095041 ∷ []), said (1 ∷ 17 ∷ []) 0 88)
    -- no such command; cut short
    ∷ (afterwards (12 ∷ []), said [] 1 72)
    ∷ (afterwards (3 ∷ 1 ∷ 0 ∷ 4 ∷ []), said (2 ∷ 0 ∷ 7 ∷ []) 2 76)
    ∷ []

-- ## bytes in answers

-- the same, with bytes behind the words, and more words behind them
unfoldable pub said_bytes : List ℕ → List ℕ → List ℕ → ℕ → ℕ → List ℕ
said_bytes words bytes more code at =
    words_bytes (opened ++ placed_at 0 0 2 1 ++ words) ++ bytes ++ words_bytes (more ++ 2 ∷ code ∷ at ∷ [])

-- row 0 of page 0 over no background
unfoldable pub composing : ℕ → List ℕ
composing size = 6 ∷ 0 ∷ 0 ∷ 0 ∷ 0 ∷ 0 ∷ 0 ∷ 1 ∷ size ∷ []

-- over the colour whose bytes are 1 2 3 4
unfoldable pub compose_over : ℕ → ℕ → List ℕ
compose_over threshold discard = 6 ∷ 0 ∷ 1 ∷ 67305985 ∷ threshold ∷ discard ∷ 0 ∷ 1 ∷ 8 ∷ []

unfoldable pub checking : ℕ → ℕ → ℕ → List ℕ
checking source start size = 7 ∷ 0 ∷ 0 ∷ 0 ∷ 0 ∷ 0 ∷ 0 ∷ 1 ∷ source ∷ start ∷ size ∷ []

unfoldable pub row_lines : List Line
row_lines =
    (afterwards (8 ∷ 7 ∷ 0 ∷ []), said_bytes (3 ∷ 0 ∷ []) pixels [] 0 84)
    ∷ (afterwards (8 ∷ 7 ∷ 1 ∷ []), said (1 ∷ 13 ∷ []) 0 84)
    ∷ (afterwards (composing 8), said_bytes (3 ∷ 0 ∷ []) pixels [] 0 108)
    ∷ (afterwards (composing 4), said (1 ∷ 14 ∷ []) 0 108)
    -- an alpha of 255 is at most 255, and above 254; above 255 there is no threshold
    ∷ (afterwards (compose_over 255 0), said_bytes (3 ∷ 0 ∷ []) (1 ∷ 2 ∷ 3 ∷ 4 ∷ 1 ∷ 2 ∷ 3 ∷ 4 ∷ []) [] 0 108)
    ∷ (afterwards (compose_over 254 0), said_bytes (3 ∷ 0 ∷ []) pixels [] 0 108)
    ∷ (afterwards (compose_over 256 1), said_bytes (3 ∷ 0 ∷ []) pixels [] 0 108)
    -- the part must fit even where nothing is composed
    ∷ (run_in 24 (composing 4), words_bytes (1 ∷ 2 ∷ 2 ∷ 0 ∷ 36 ∷ []))
    ∷ (run_in 23 (composing 4), words_bytes (2 ∷ 3 ∷ 0 ∷ []))
    ∷ []

unfoldable pub check_lines : List Line
check_lines =
    -- the symbol store, from its start and from its second byte on; the wording store
    (afterwards (checking 2 0 8), said (1 ∷ 0 ∷ []) 0 116)
    ∷ (afterwards (checking 2 1 8), said [] 4 72)
    ∷ (afterwards (checking 3 0 8), said (3 ∷ 0 ∷ 0 ∷ 0 ∷ []) 0 116)
    -- what compose said: 8 bytes of open, 32 of offer and 8 of its own stand in front of it
    ∷ (afterwards (composing 8 ++ checking 1 48 8), said_bytes (3 ∷ 0 ∷ []) pixels (1 ∷ 0 ∷ []) 0 152)
    ∷ (afterwards (composing 8 ++ checking 1 49 8), said_bytes (3 ∷ 0 ∷ []) pixels [] 4 108)
    -- two words of the script itself
    ∷ (ran (words_bytes (11 ∷ 2 ∷ []) ++ pixels ++ words_bytes (opening ++ offering ++ checking 0 8 8)) stores 1000, said (1 ∷ 0 ∷ []) 0 132)
    -- the source comes before the room
    ∷ (run_in 12 (checking 2 0 9), words_bytes (2 ∷ 4 ∷ 0 ∷ []))
    ∷ (run_in 12 (checking 2 0 8), words_bytes (2 ∷ 3 ∷ 0 ∷ []))
    ∷ []

-- ## set and data

unfoldable pub set_lines : List Line
set_lines =
    -- the greatest height, and forced on: the page is 4 by 9
    (runs (opening ++ 10 ∷ 1 ∷ 0 ∷ 9 ∷ 10 ∷ 10 ∷ 0 ∷ 7 ∷ offering ++ 4 ∷ 0 ∷ []), words_bytes (opened ++ placed_at 0 0 2 1 ++ 3 ∷ 0 ∷ 4 ∷ 9 ∷ 2 ∷ 0 ∷ 112 ∷ []))
    -- the first record's key, by place 256
    ∷ (afterwards (10 ∷ 16 ∷ 256 ∷ 9 ∷ 9 ∷ 9 ∷ 0 ∷ 0 ∷ []), said (6 ∷ 0 ∷ 0 ∷ 0 ∷ 0 ∷ 2 ∷ 1 ∷ []) 0 104)
    -- the count: nothing stands, and the place is not blank
    ∷ (afterwards (10 ∷ 11 ∷ 5 ∷ 0 ∷ 3 ∷ []), said (1 ∷ 2 ∷ []) 0 92)
    -- no such field, but cut short first
    ∷ (afterwards (10 ∷ 12 ∷ 0 ∷ 0 ∷ []), said [] 1 72)
    ∷ (afterwards (10 ∷ 15 ∷ 0 ∷ 0 ∷ []), said [] 1 72)
    ∷ (afterwards (10 ∷ 30 ∷ 0 ∷ 0 ∷ []), said [] 1 72)
    ∷ (afterwards (10 ∷ 12 ∷ []), said [] 2 72)
    ∷ (afterwards (11 ∷ 2 ∷ 3 ∷ 3 ∷ 3 ∷ []), said (2 ∷ 0 ∷ 7 ∷ []) 0 92)
    ∷ (afterwards (11 ∷ 2 ∷ 3 ∷ []), said [] 2 72)
    ∷ []

-- of n numbers the one at place k is 1, the others 0
unfoldable pub only1 : ℕ → ℕ → List ℕ
only1 n k = replicate k 0 ++ 1 ∷ replicate (n - k - 1) 0

-- the blank layout with 1 written to a field, of the record in place 3
unfoldable pub with1 : ℕ → Layout
with1 field = layout_with (empty_layout blank_config) field 3 1

unfoldable pub field_lines : List Line
field_lines =
    -- open's words
    (config_numbers (config_at (words_bytes (0 ∷ 21 ∷ 22 ∷ 23 ∷ 24 ∷ 25 ∷ 26 ∷ 27 ∷ 1 ∷ 0 ∷ 2 ∷ 0 ∷ [])) 0), 21 ∷ 22 ∷ 23 ∷ 24 ∷ 25 ∷ 26 ∷ 27 ∷ 1 ∷ 0 ∷ 1 ∷ 0 ∷ [])
    -- each of the record's 14 fields and of the configuration's 11 by itself, and the count
    ∷ (flat (λ f. record_numbers (get_or (with1 f).records 3 blank_record)) (from 16 14), flat (only1 14) (from 0 14))
    ∷ (flat (λ f. config_numbers (with1 f).config) (from 0 11), flat (only1 11) (from 0 11))
    ∷ (layout_numbers (with1 11), only1 3596 11)
    ∷ []

unfoldable pub table : List Line
table = byte_lines ++ command_lines ++ row_lines ++ check_lines ++ set_lines ++ field_lines
