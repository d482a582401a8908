-- A text as a list of bytes: what stands before a mark, and the pieces between marks.
-- Assumes nothing.
use Rattle.std.specs.Prelude.{ℕ, Bool, true, false, cond, ◌&&◌, ◌||◌, List, [], ◌∷◌, eqb}
use Prim.Native.Char.{code}
use Prim.Native.String.{String, [] as end, ◌∷◌ as ◌then◌}

-- what stands before the first byte that passes the test
unfoldable pub up_to : (ℕ → Bool) → List ℕ → List ℕ
up_to t [] = []
up_to t (b ∷ bs) = cond (t b) [] (b ∷ up_to t bs)

-- a byte in front of the first piece
unfoldable pub onto : ℕ → List (List ℕ) → List (List ℕ)
onto b [] = (b ∷ []) ∷ []
onto b (p ∷ ps) = (b ∷ p) ∷ ps

-- the pieces between the bytes that pass the test, empty ones too
unfoldable pub pieces : (ℕ → Bool) → List ℕ → List (List ℕ)
pieces t [] = [] ∷ []
pieces t (b ∷ bs) = cond (t b) ([] ∷ pieces t bs) (onto b (pieces t bs))

unfoldable pub filled : List ℕ → Bool
filled [] = false
filled (b ∷ bs) = true

-- the same bytes
unfoldable pub same : List ℕ → List ℕ → Bool
same [] [] = true
same [] (b ∷ bs) = false
same (a ∷ as') [] = false
same (a ∷ as') (b ∷ bs) = eqb a b && same as' bs

-- a text in quotes, by the codes of its letters; they are its bytes, for every such text here is ASCII
unfoldable pub bytes_of : String → List ℕ
bytes_of end = []
bytes_of (c then cs) = code c ∷ bytes_of cs

-- the word is this text
abbrev pub says : String → List ℕ → Bool
says text w = same w (bytes_of text)

-- line feed
abbrev pub is_feed : ℕ → Bool
is_feed b = eqb b 10

-- the hash that begins a comment
abbrev pub is_hash : ℕ → Bool
is_hash b = eqb b 35

-- space, tab, carriage return
abbrev pub is_blank : ℕ → Bool
is_blank b = (eqb b 32 || eqb b 9) || eqb b 13
