-- The words of a line, and what kinds of values they are.
-- Assumes nothing.
use Rattle.std.specs.Prelude.{ℕ, Bool, false, cond, ◌||◌, List, [], Option, Some, None, is_some, unwrap_or, leb, get_or}
use Rattle.geometry.specs.Words.{only}
use Rattle.art.specs.declared.memory_rgba8_texture.Store.{Store}
use Rattle.art.specs.declared.memory_rgba8_texture.Store.TheVariants.{Symbols, Wording}
use Rattle.job.specs.Bytes.{up_to, pieces, filled, says, is_hash, is_blank}
use Rattle.job.specs.Numbers.{number_in}

-- ## the words

-- a hash and all after it is a comment
unfoldable pub uncommented : List ℕ → List ℕ
uncommented line = up_to is_hash line

-- words are separated by blanks
unfoldable pub split : List ℕ → List (List ℕ)
split line = only filled (pieces is_blank line)

unfoldable pub words_in : List ℕ → List (List ℕ)
words_in line = split (uncommented line)

-- word n, counted from 0; empty past the last, and no value is empty
abbrev pub word : ℕ → List (List ℕ) → List ℕ
word n ws = get_or ws n []

-- ## kinds of values: whether a word is one, and which it is if so

unfoldable pub is_number : List ℕ → Bool
is_number w = is_some (number_in w)

unfoldable pub to_number : List ℕ → ℕ
to_number w = unwrap_or (number_in w) 0

-- a colour's part: a number to 255
unfoldable pub small : Option ℕ → Bool
small (Some n) = leb n 255
small None = false

unfoldable pub is_part : List ℕ → Bool
is_part w = small (number_in w)

unfoldable pub to_part : List ℕ → ℕ
to_part w = cond (is_part w) (to_number w) 0

-- a switch: on or off
unfoldable pub is_switch : List ℕ → Bool
is_switch w = says "on" w || says "off" w

unfoldable pub to_switch : List ℕ → Bool
to_switch w = says "on" w

-- a store: symbols or wording
unfoldable pub is_store : List ℕ → Bool
is_store w = says "symbols" w || says "wording" w

unfoldable pub to_store : List ℕ → Store
to_store w = cond (says "symbols" w) Symbols Wording

-- a threshold: none or a number to 255
unfoldable pub is_threshold : List ℕ → Bool
is_threshold w = says "none" w || is_part w

unfoldable pub to_threshold : List ℕ → Option ℕ
to_threshold w = cond (says "none" w) None (Some (to_part w))
