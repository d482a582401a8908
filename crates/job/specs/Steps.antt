-- What the private functions compute: one step, one place. Nothing here says what a job is.
-- Assumes nothing.
use Rattle.std.specs.Prelude.{ℕ, ◌+◌, ◌*◌, ◌-◌, Bool, cond, ◌&&◌, List, Option, Some, None, option_and_then, eqb, leb, length}
use Rattle.art.specs.declared.memory_rgba8_texture.Image.{Image}
use Rattle.art.specs.declared.memory_rgba8_texture.Store.{Store}
use Rattle.records.specs.declared.texture_packer_config.Config.{Config}
use Rattle.paint.specs.declared.background.Colour.{Colour}
use Rattle.job.specs.Numbers.{is_digit, number_in}
use Rattle.job.specs.Words.{word, is_part, to_part, is_switch, to_switch, is_store, to_store, is_threshold, to_threshold}

-- the value, where the test holds
abbrev pub where_so : {A : Type 0} → Bool → A → Option A
where_so b x = cond b (Some x) None

unfoldable pub with_digit : ℕ → ℕ → Option ℕ
with_digit n b = where_so (is_digit b && leb (10 * n + (b - 48)) 4294967295) (10 * n + (b - 48))

-- ## a word as a value, if it is one of the kind

unfoldable pub part_in : List ℕ → Option ℕ
part_in w = where_so (is_part w) (to_part w)

unfoldable pub switch_in : List ℕ → Option Bool
switch_in w = where_so (is_switch w) (to_switch w)

unfoldable pub store_in : List ℕ → Option Store
store_in w = where_so (is_store w) (to_store w)

unfoldable pub threshold_in : List ℕ → Option (Option ℕ)
threshold_in w = where_so (is_threshold w) (to_threshold w)

-- ## a line word by word: the first that is not of its kind ends it

infixl 10 ◌>>=◌
abbrev pub ◌>>=◌ : {A B : Type 0} → Option A → (A → Option B) → Option B
o >>= f = option_and_then f o

-- a line of so many words goes on
abbrev pub counted : {A : Type 0} → ℕ → List (List ℕ) → Option A → Option A
counted n ws o = cond (eqb (length ws) n) o None

unfoldable pub config_in : List (List ℕ) → Option Config
config_in ws = counted 12 ws (do
  maxw ← number_in (word 1 ws)
  maxh ← number_in (word 2 ws)
  padding ← number_in (word 3 ws)
  border ← number_in (word 4 ws)
  extrusion ← number_in (word 5 ws)
  pages ← number_in (word 6 ws)
  images ← number_in (word 7 ws)
  rotation ← switch_in (word 8 ws)
  trim ← switch_in (word 9 ws)
  outlines ← switch_in (word 10 ws)
  forced ← switch_in (word 11 ws)
  Some (record { maxw = maxw; maxh = maxh; padding = padding; border = border; extrusion = extrusion; pages = pages; images = images; rotation = rotation; trim = trim; outlines = outlines; forced = forced }))

unfoldable pub colour_in : List (List ℕ) → Option Colour
colour_in ws = counted 7 ws (do
  r ← part_in (word 1 ws)
  g ← part_in (word 2 ws)
  b ← part_in (word 3 ws)
  a ← part_in (word 4 ws)
  threshold ← threshold_in (word 5 ws)
  discard ← switch_in (word 6 ws)
  Some (record { pixel = record { r = r; g = g; b = b; a = a }; threshold = threshold; discard = discard }))

-- the key and the image
unfoldable pub image_in : List (List ℕ) → Option (ℕ × Image)
image_in ws = counted 6 ws (do
  key ← number_in (word 1 ws)
  store ← store_in (word 2 ws)
  offset ← number_in (word 3 ws)
  w ← number_in (word 4 ws)
  h ← number_in (word 5 ws)
  Some (key, record { store = store; offset = offset; w = w; h = h }))
