-- Lines that tell wrong readings of a job's text apart: beside each computed list stands what it must be.
-- Assumes nothing.
use Rattle.std.specs.Prelude.{ℕ, Bool, cond, List, [], ◌∷◌, Option, Some, None, Result, Ok, Err, take, replicate}
use Prim.Native.String.{String, ◌++◌}
use Rattle.art.specs.declared.memory_rgba8_texture.Image.{Image}
use Rattle.art.specs.declared.memory_rgba8_texture.Store.{Store}
use Rattle.art.specs.declared.memory_rgba8_texture.Store.TheVariants.{Symbols, Wording}
use Rattle.geometry.specs.Words.{flat}
use Rattle.records.specs.Settings.{blank_config}
use Rattle.records.specs.declared.texture_packer_config.Config.{Config}
use Rattle.paint.specs.Backgrounds.{Background}
use Rattle.job.specs.Bytes.{bytes_of}
use Rattle.job.specs.Numbers.{number_in}
use Rattle.job.specs.Lines.{line_in}
use Rattle.job.specs.Jobs.{blank_entry, after, finished, job_in, held}
use Rattle.job.specs.declared.lines.Line.{Line}
use Rattle.job.specs.declared.lines.Line.TheVariants.{Empty, Settings, Ground, Picture}
use Rattle.job.specs.declared.lines.Trouble.{Trouble}
use Rattle.job.specs.declared.lines.Trouble.TheVariants.{UnknownWord, BadConfig, BadBackground, BadImage, NoConfig, SecondConfig, LateBackground, TooManyImages}
use Rattle.job.specs.declared.reading.Entry.{Entry}
use Rattle.job.specs.declared.reading.Job.{Job}
use Rattle.job.specs.declared.reading.Malformed.{Malformed}
use Rattle.job.specs.declared.reading.State.TheVariants.{Closed}

-- what is computed, and what it must be
abbrev pub Row : Type 0
Row = List ℕ × List ℕ

-- ## answers as numbers

unfoldable pub numbers_of : Option ℕ → List ℕ
numbers_of (Some n) = n ∷ []
numbers_of None = []

unfoldable pub one_if : Bool → ℕ
one_if b = cond b 1 0

unfoldable pub store_of : Store → ℕ
store_of Symbols = 0
store_of Wording = 1

unfoldable pub trouble_of : Trouble → ℕ
trouble_of UnknownWord = 1
trouble_of BadConfig = 2
trouble_of BadBackground = 3
trouble_of BadImage = 4
trouble_of NoConfig = 5
trouble_of SecondConfig = 6
trouble_of LateBackground = 7
trouble_of TooManyImages = 8

unfoldable pub config_numbers : Config → List ℕ
config_numbers c =
    c.maxw ∷ c.maxh ∷ c.padding ∷ c.border ∷ c.extrusion ∷ c.pages ∷ c.images
    ∷ one_if c.rotation ∷ one_if c.trim ∷ one_if c.outlines ∷ one_if c.forced ∷ []

-- 256 where it is unset
unfoldable pub limit_of : Option ℕ → ℕ
limit_of None = 256
limit_of (Some t) = t

unfoldable pub ground_numbers : Background → List ℕ
ground_numbers None = []
ground_numbers (Some c) = c.pixel.r ∷ c.pixel.g ∷ c.pixel.b ∷ c.pixel.a ∷ limit_of c.threshold ∷ one_if c.discard ∷ []

unfoldable pub image_numbers : Image → List ℕ
image_numbers i = store_of i.store ∷ i.offset ∷ i.w ∷ i.h ∷ []

-- what it is first: 0 nothing, 100 config, 200 background, 300 image, or the trouble
unfoldable pub line_numbers : Result Line Trouble → List ℕ
line_numbers (Ok Empty) = 0 ∷ []
line_numbers (Ok (Settings c)) = 100 ∷ config_numbers c
line_numbers (Ok (Ground g)) = 200 ∷ ground_numbers g
line_numbers (Ok (Picture k i)) = 300 ∷ k.0 ∷ image_numbers i
line_numbers (Err t) = trouble_of t ∷ []

unfoldable pub outcome_numbers : Result Job Malformed → Job → List ℕ
outcome_numbers (Ok o) j = 0 ∷ j.opened ∷ j.count ∷ []
outcome_numbers (Err m) j = trouble_of m.trouble ∷ m.line ∷ j.opened ∷ j.count ∷ []

-- key, image and line of an entry
unfoldable pub entry_numbers : Entry → List ℕ
entry_numbers e = e.key.0 ∷ e.line ∷ image_numbers e.image

-- ## what is computed

unfoldable pub number : String → List ℕ
number text = numbers_of (number_in (bytes_of text))

unfoldable pub line : String → List ℕ
line text = line_numbers (line_in (bytes_of text))

unfoldable pub outcome : Result Job Malformed → List ℕ
outcome r = outcome_numbers r (held r)

-- the outcome alone: 0, the config line and the count, or the trouble, its line and two zeros
unfoldable pub job : String → List ℕ
job text = outcome (job_in (bytes_of text))

unfoldable pub entries : String → List ℕ
entries text = flat entry_numbers (take (held (job_in (bytes_of text))).count (held (job_in (bytes_of text))).entries)

unfoldable pub settings : String → List ℕ
settings text = config_numbers (held (job_in (bytes_of text))).config

unfoldable pub ground_told : String → List ℕ
ground_told text = ground_numbers (held (job_in (bytes_of text))).background

-- 255 images in lines 2 to 256, and n image lines more
unfoldable pub nearly_full : Job
nearly_full = record { config = blank_config; opened = 1; background = None; entries = replicate 256 blank_entry; count = 255 }

unfoldable pub many : ℕ → List ℕ
many n = outcome (finished (after 257 (replicate n (bytes_of "image 9 wording 8 7 6")) (Closed nearly_full)))

-- ## numbers

unfoldable pub number_rows : List Row
number_rows =
    (number "", [])
    ∷ (number "0", 0 ∷ [])
    ∷ (number "10", 10 ∷ [])
    ∷ (number "0000000000000007", 7 ∷ [])
    ∷ (number "4294967295", 4294967295 ∷ [])
    ∷ (number "00004294967295", 4294967295 ∷ [])
    ∷ (number "4294967296", [])
    ∷ (number "4294967300", [])
    -- 2^64 and 7: no bits are cut off
    ∷ (number "18446744073709551623", [])
    ∷ (number "12a", [])
    ∷ (number "a12", [])
    -- the bytes next to the digits
    ∷ (number "1/", [])
    ∷ (number "1:", [])
    ∷ (number "-1", [])
    ∷ (number "1 2", [])
    ∷ []

-- ## lines

unfoldable pub empty_rows : List Row
empty_rows =
    (line "", 0 ∷ [])
    ∷ (line " \t \r", 0 ∷ [])
    ∷ (line "# config", 0 ∷ [])
    ∷ (line "  #", 0 ∷ [])
    -- other words, and other letters
    ∷ (line "configs 1 2 3 4 5 6 7 on off on off", 1 ∷ [])
    ∷ (line "confi 1 2 3 4 5 6 7 on off on off", 1 ∷ [])
    ∷ (line "Config 1 2 3 4 5 6 7 on off on off", 1 ∷ [])
    ∷ (line "1 config", 1 ∷ [])
    ∷ []

unfoldable pub config_rows : List Row
config_rows =
    (line "config 1 2 3 4 5 6 7 on off on off", 100 ∷ 1 ∷ 2 ∷ 3 ∷ 4 ∷ 5 ∷ 6 ∷ 7 ∷ 1 ∷ 0 ∷ 1 ∷ 0 ∷ [])
    ∷ (line "config 1 2 3 4 5 6 7 off on off on", 100 ∷ 1 ∷ 2 ∷ 3 ∷ 4 ∷ 5 ∷ 6 ∷ 7 ∷ 0 ∷ 1 ∷ 0 ∷ 1 ∷ [])
    ∷ (line "config 1 2 3 4 5 6 7 on on off off#12 words", 100 ∷ 1 ∷ 2 ∷ 3 ∷ 4 ∷ 5 ∷ 6 ∷ 7 ∷ 1 ∷ 1 ∷ 0 ∷ 0 ∷ [])
    ∷ (line "\tconfig\t1  2 3 4 5 6 7 off off on on\r", 100 ∷ 1 ∷ 2 ∷ 3 ∷ 4 ∷ 5 ∷ 6 ∷ 7 ∷ 0 ∷ 0 ∷ 1 ∷ 1 ∷ [])
    -- bounds are open's to check
    ∷ (line "config 4294967295 0 0 0 0 0 0 off off off off", 100 ∷ 4294967295 ∷ 0 ∷ 0 ∷ 0 ∷ 0 ∷ 0 ∷ 0 ∷ 0 ∷ 0 ∷ 0 ∷ 0 ∷ [])
    -- eleven words, thirteen
    ∷ (line "config 1 2 3 4 5 6 7 on off on", 2 ∷ [])
    ∷ (line "config 1 2 3 4 5 6 7 on off on # off", 2 ∷ [])
    ∷ (line "config 1 2 3 4 5 6 7 on off on off 8", 2 ∷ [])
    ∷ (line "config 1 2 3 4 5 6 seven on off on off", 2 ∷ [])
    ∷ (line "config 4294967296 2 3 4 5 6 7 on off on off", 2 ∷ [])
    ∷ (line "config 1 2 3 4 5 6 7 on off on 0", 2 ∷ [])
    ∷ (line "config 1 2 3 4 5 6 7 on off on On", 2 ∷ [])
    ∷ (line "config", 2 ∷ [])
    ∷ []

unfoldable pub ground_rows : List Row
ground_rows =
    (line "background none", 200 ∷ [])
    ∷ (line "background 255 254 253 252 none off", 200 ∷ 255 ∷ 254 ∷ 253 ∷ 252 ∷ 256 ∷ 0 ∷ [])
    ∷ (line "background 1 2 3 4 5 on", 200 ∷ 1 ∷ 2 ∷ 3 ∷ 4 ∷ 5 ∷ 1 ∷ [])
    ∷ (line "background 1 2 3 4 255 on", 200 ∷ 1 ∷ 2 ∷ 3 ∷ 4 ∷ 255 ∷ 1 ∷ [])
    ∷ (line "background 1 2 3 4 256 on", 3 ∷ [])
    ∷ (line "background 256 2 3 4 5 on", 3 ∷ [])
    ∷ (line "background 1 2 3 none 5 on", 3 ∷ [])
    ∷ (line "background 1 2 3 4 5", 3 ∷ [])
    ∷ (line "background 1 2 3 4 5 on on", 3 ∷ [])
    ∷ (line "background none off", 3 ∷ [])
    ∷ (line "background", 3 ∷ [])
    ∷ (line "background off", 3 ∷ [])
    ∷ []

unfoldable pub image_rows : List Row
image_rows =
    (line "image 1 symbols 2 24 16", 300 ∷ 1 ∷ 0 ∷ 2 ∷ 24 ∷ 16 ∷ [])
    ∷ (line "image 2 wording 2304 48 16 # a comment", 300 ∷ 2 ∷ 1 ∷ 2304 ∷ 48 ∷ 16 ∷ [])
    ∷ (line "image 1 symbol 2 24 16", 4 ∷ [])
    ∷ (line "image symbols 1 2 24 16", 4 ∷ [])
    ∷ (line "image 1 symbols 2 24", 4 ∷ [])
    ∷ (line "image 1 symbols 2 24 16 8", 4 ∷ [])
    ∷ (line "image 1 symbols 2 24 4294967296", 4 ∷ [])
    ∷ (line "image#1 symbols 2 24 16", 4 ∷ [])
    ∷ []

-- ## jobs

-- docs/JOB.md's example
unfoldable pub example : String
example =
    "# comments begin with a hash\n"
    ++ "#      maxw maxh padding border extrusion pages images rotation trim outlines forced\n"
    ++ "config 256  256  2       0      1         4     256    on       on   off      off\n"
    ++ "#          r   g   b   a   threshold discard\n"
    ++ "background 255 255 255 255 none      off\n"
    ++ "#     key store   offset width height\n"
    ++ "image 1   symbols 0      24    24\n"
    ++ "image 2   wording 2304   48    16\n"

unfoldable pub example_rows : List Row
example_rows =
    (job example, 0 ∷ 3 ∷ 2 ∷ [])
    ∷ (settings example, 256 ∷ 256 ∷ 2 ∷ 0 ∷ 1 ∷ 4 ∷ 256 ∷ 1 ∷ 1 ∷ 0 ∷ 0 ∷ [])
    ∷ (ground_told example, 255 ∷ 255 ∷ 255 ∷ 255 ∷ 256 ∷ 0 ∷ [])
    ∷ (entries example, 1 ∷ 7 ∷ 0 ∷ 0 ∷ 24 ∷ 24 ∷ 2 ∷ 8 ∷ 1 ∷ 2304 ∷ 48 ∷ 16 ∷ [])
    ∷ []

unfoldable pub accepted_rows : List Row
accepted_rows =
    -- the same key twice is the offer's to refuse; no background line is no background
    (entries "config 1 2 3 4 5 6 7 on off on off\nimage 9 symbols 8 7 6\nimage 9 symbols 8 7 6\n", 9 ∷ 2 ∷ 0 ∷ 8 ∷ 7 ∷ 6 ∷ 9 ∷ 3 ∷ 0 ∷ 8 ∷ 7 ∷ 6 ∷ [])
    ∷ (ground_told "config 1 2 3 4 5 6 7 on off on off", [])
    -- lines that end with carriage return and line feed, and no end of the last line
    ∷ (entries "\r\nconfig 1 2 3 4 5 6 7 on off on off\r\nimage 9 symbols 8 7 6\r\nimage 5 wording 4 3 2", 9 ∷ 3 ∷ 0 ∷ 8 ∷ 7 ∷ 6 ∷ 5 ∷ 4 ∷ 1 ∷ 4 ∷ 3 ∷ 2 ∷ [])
    ∷ (job "config 1 2 3 4 5 6 7 on off on off\nbackground none\nimage 9 wording 8 7 6", 0 ∷ 1 ∷ 1 ∷ [])
    ∷ []

-- no config line first
unfoldable pub missing_rows : List Row
missing_rows =
    (job "", 5 ∷ 1 ∷ 0 ∷ 0 ∷ [])
    ∷ (job "\n# nothing\n\n", 5 ∷ 1 ∷ 0 ∷ 0 ∷ [])
    ∷ (job "\nimage 9 wording 8 7 6\nconfig 1 2 3 4 5 6 7 on off on off\n", 5 ∷ 2 ∷ 0 ∷ 0 ∷ [])
    ∷ (job "background none\nconfig 1 2 3 4 5 6 7 on off on off\n", 5 ∷ 1 ∷ 0 ∷ 0 ∷ [])
    -- a malformed line is refused for what it is, also before the config line
    ∷ (job "hello\n", 1 ∷ 1 ∷ 0 ∷ 0 ∷ [])
    ∷ []

unfoldable pub refused_rows : List Row
refused_rows =
    (job "config 1 2 3 4 5 6 7 on off on off\nimage 9 wording 8 7 6\nimage 9 wording 8 7\n", 4 ∷ 3 ∷ 0 ∷ 0 ∷ [])
    -- the first trouble is said
    ∷ (job "config 1 2 3 4 5 6 7 on off on off\nconfig\nhello", 2 ∷ 2 ∷ 0 ∷ 0 ∷ [])
    -- a second config line, a second background, a background after an image
    ∷ (job "config 1 2 3 4 5 6 7 on off on off\nconfig 1 2 3 4 5 6 7 on off on off", 6 ∷ 2 ∷ 0 ∷ 0 ∷ [])
    ∷ (job "config 1 2 3 4 5 6 7 on off on off\nimage 9 wording 8 7 6\nconfig 1 2 3 4 5 6 7 on off on off", 6 ∷ 3 ∷ 0 ∷ 0 ∷ [])
    ∷ (job "config 1 2 3 4 5 6 7 on off on off\nbackground none\nbackground none", 7 ∷ 3 ∷ 0 ∷ 0 ∷ [])
    ∷ (job "config 1 2 3 4 5 6 7 on off on off\nimage 9 wording 8 7 6\nbackground none", 7 ∷ 3 ∷ 0 ∷ 0 ∷ [])
    ∷ []

-- the last image that is taken, and the first that is not
unfoldable pub limit_rows : List Row
limit_rows = (many 1, 0 ∷ 1 ∷ 256 ∷ []) ∷ (many 2, 8 ∷ 258 ∷ 0 ∷ 0 ∷ []) ∷ []
