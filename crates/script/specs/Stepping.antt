-- What one command of a script does, by docs/SCRIPT.md.
-- Assumes nothing.
use Rattle.std.specs.Prelude.{ℕ, ◌+◌, ◌*◌, ◌/◌, ◌%◌, Bool, cond, List, [], ◌∷◌, ◌++◌, leb, ltb, length, get_or, take, drop, replicate, Result, Ok, Err, ⊤}
use Rattle.art.specs.Stores.{Stores}
use Rattle.records.specs.declared.layout.Layout.{Layout}
use Rattle.lookup.specs.Reading.{read, read_numbers, part_read, part_bytes}
use Rattle.compose.specs.Checking.{checked_rows, checked_numbers}
use Rattle.compose.specs.Composing.{composed_answer, composed_buffer, composed_numbers}
use Rattle.records.specs.declared.refusal.Refusal.{Refusal}
use Rattle.wire.specs.Bytes.{words_bytes}
use Rattle.wire.specs.Fields.{is_field, layout_with}
use Rattle.commands.specs.Reading.{word, page_at, key_at, background_at}
use Rattle.commands.specs.Taking.{words_of}
use Rattle.commands.specs.Telling.{Told, open_told, ask_told, offer_told, withdraw_told, size_told, pixel_told, locate_told}

-- a command goes on with a layout, at a place of the script, its answer said in bytes; or it ends the run with a code
pub data Stepped : Type 0 where
  GoesOn : Layout → ℕ → List ℕ → Stepped
  Stops : ℕ → Stepped

-- ## answers

-- a word that says how many words follow, and then these words; composed bytes and an image's row are whole words, counted with them
unfoldable pub answer_bytes : List ℕ → List ℕ → List ℕ
answer_bytes numbers bytes = words_bytes ((length numbers + length bytes / 4) ∷ numbers) ++ bytes

-- the end: 2, a code and the position in the script, modulo 2^32
unfoldable pub end_bytes : ℕ → ℕ → List ℕ
end_bytes code at = words_bytes (2 ∷ code ∷ at % 4294967296 ∷ [])

-- An answer is written only where the end, 12 bytes, still fits after it; else 3. `room` is how many bytes there are for answers, `said` the answers
-- written so far.
unfoldable pub saying : ℕ → List ℕ → Layout → ℕ → List ℕ → Stepped
saying room said l next bytes = cond (leb (length said + length bytes + 12) room) (GoesOn l next bytes) (Stops 3)

-- ## commands

-- behind a command and its words
unfoldable pub next_at : ℕ → ℕ → ℕ
next_at at command = at + 4 * (1 + words_of command)

-- where the number is 0, the bytes
abbrev pub composed_bytes : Result ⊤ Refusal → List ℕ → List ℕ
composed_bytes (Ok done) bytes = bytes
composed_bytes (Err r) bytes = []

-- the commands whose answer is words alone
unfoldable pub telling : ℕ → List ℕ → ℕ → ℕ → Told → Stepped
telling room said at command t = saying room said t.layout (next_at at command) (answer_bytes t.numbers [])

-- compose rows: page, background (4 words), first, rows, length. It lends a part of `length` bytes; what they are does not count.
unfoldable pub compose_outcome : List ℕ → Stores → ℕ → Layout → Result ⊤ Refusal
compose_outcome script s at l =
    composed_answer l s (page_at script at) (word script at 6) (word script at 7) (replicate (word script at 8) 0)

unfoldable pub compose_pixels : List ℕ → Stores → ℕ → Layout → List ℕ
compose_pixels script s at l =
    composed_buffer l s (page_at script at) (background_at script (at + 8)) (word script at 6) (word script at 7)
    (replicate (word script at 8) 0)

-- 3: the part that it lends, behind two words, does not fit in front of the end
unfoldable pub compose_step : List ℕ → Stores → ℕ → List ℕ → ℕ → Layout → Stepped
compose_step script s room said at l =
    cond (leb (length said + 8 + word script at 8 + 12) room)
    (GoesOn l (next_at at 6)
    (answer_bytes (composed_numbers (compose_outcome script s at l))
    (composed_bytes (compose_outcome script s at l) (compose_pixels script s at l))))
    (Stops 3)

-- check rows: page, background (4 words), first, rows, source, start, length. A source is 0 the script itself, 1 the answers written so far, 2 the
-- symbol store, anything else the wording store.
unfoldable pub check_source : List ℕ → Stores → List ℕ → ℕ → List ℕ
check_source script s said at = get_or (script ∷ said ∷ s.symbols ∷ []) (word script at 8) s.wording

unfoldable pub check_past : List ℕ → ℕ → List ℕ → Bool
check_past script at source = ltb (length source) (word script at 9 + word script at 10)

unfoldable pub check_numbers : List ℕ → Stores → ℕ → Layout → List ℕ → List ℕ
check_numbers script s at l source =
    checked_numbers
    (checked_rows l s (page_at script at) (background_at script (at + 8)) (word script at 6) (word script at 7)
    (take (word script at 10) (drop (word script at 9) source)))

-- 4: the part runs past its source
unfoldable pub check_step : List ℕ → Stores → ℕ → List ℕ → ℕ → Layout → Stepped
check_step script s room said at l =
    cond (check_past script at (check_source script s said at))
    (Stops 4)
    (saying room said l (next_at at 7) (answer_bytes (check_numbers script s at l (check_source script s said at)) []))

-- row of an image: key, row. A refused row has no bytes.
unfoldable pub row_step : List ℕ → Stores → ℕ → List ℕ → ℕ → Layout → Stepped
row_step script s room said at l =
    saying room said l (next_at at 8)
    (answer_bytes (read_numbers (read l s (key_at script at) (word script at 2)))
    (part_bytes s (part_read l s (key_at script at) (word script at 2))))

-- set: field, place, number. 1: no such field
unfoldable pub set_step : List ℕ → ℕ → Layout → Stepped
set_step script at l =
    cond (is_field (word script at 1))
    (GoesOn (layout_with l (word script at 1) (word script at 2) (word script at 3)) (next_at at 10) [])
    (Stops 1)

-- data: n, then n words, which are passed over. 2: fewer are left
unfoldable pub data_step : List ℕ → ℕ → Layout → Stepped
data_step script at l =
    cond (ltb (length script) (next_at at 11 + 4 * word script at 1))
    (Stops 2)
    (GoesOn l (next_at at 11 + 4 * word script at 1) [])

-- the command at byte `at`, by its number; 1: no such command
unfoldable pub command_step : List ℕ → Stores → ℕ → List ℕ → ℕ → Layout → ℕ → Stepped
command_step script s room said at l command =
    get_or
    (telling room said at 0 (open_told script at)
    ∷ telling room said at 1 (ask_told script at l)
    ∷ telling room said at 2 (offer_told script at s l)
    ∷ telling room said at 3 (withdraw_told l)
    ∷ telling room said at 4 (size_told script at l)
    ∷ telling room said at 5 (pixel_told script at s l)
    ∷ compose_step script s room said at l
    ∷ check_step script s room said at l
    ∷ row_step script s room said at l
    ∷ telling room said at 9 (locate_told script at l)
    ∷ set_step script at l
    ∷ data_step script at l
    ∷ [])
    command
    (Stops 1)

-- 2: fewer than four bytes are left. 1: no such command. 2: fewer words are left than it takes
unfoldable pub stepped : List ℕ → Stores → ℕ → List ℕ → ℕ → Layout → Stepped
stepped script s room said at l =
    cond (ltb (length script) (at + 4))
    (Stops 2)
    (cond (ltb 11 (word script at 0))
    (Stops 1)
    (cond (ltb (length script) (next_at at (word script at 0)))
    (Stops 2)
    (command_step script s room said at l (word script at 0))))
