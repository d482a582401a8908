-- What a job's text says: its lines one after the other.
-- Assumes nothing.
use Rattle.std.specs.Prelude.{ℕ, ◌+◌, cond, List, [], ◌∷◌, None, Result, Ok, Err, ltb, replicate, set}
use Rattle.art.specs.declared.memory_rgba8_texture.Image.{Image}
use Rattle.art.specs.declared.memory_rgba8_texture.Store.TheVariants.{Symbols}
use Rattle.records.specs.Settings.{blank_config}
use Rattle.records.specs.declared.texture_packer_config.Config.{Config}
use Rattle.records.specs.declared.frame.Key.{Key}
use Rattle.paint.specs.Backgrounds.{Background}
use Rattle.job.specs.Bytes.{pieces, is_feed}
use Rattle.job.specs.Lines.{line_in}
use Rattle.job.specs.declared.lines.Line.{Line}
use Rattle.job.specs.declared.lines.Line.TheVariants.{Empty, Settings, Ground, Picture}
use Rattle.job.specs.declared.lines.Trouble.{Trouble}
use Rattle.job.specs.declared.lines.Trouble.TheVariants.{NoConfig, SecondConfig, LateBackground, TooManyImages}
use Rattle.job.specs.declared.reading.Entry.{Entry}
use Rattle.job.specs.declared.reading.Job.{Job}
use Rattle.job.specs.declared.reading.Malformed.{Malformed}
use Rattle.job.specs.declared.reading.State.{State}
use Rattle.job.specs.declared.reading.State.TheVariants.{Start, Open, Closed}

-- ## jobs

unfoldable pub blank_entry : Entry
blank_entry = record { key = record { 0 = 0 }; image = record { store = Symbols; offset = 0; w = 0; h = 0 }; line = 0 }

-- the configuration of line n, no background, no image
unfoldable pub opened_job : Config → ℕ → Job
opened_job c n = record { config = c; opened = n; background = None; entries = replicate 256 blank_entry; count = 0 }

unfoldable pub blank_job : Job
blank_job = opened_job blank_config 0

unfoldable pub grounded : Job → Background → Job
grounded j g = record { config = j.config; opened = j.opened; background = g; entries = j.entries; count = j.count }

-- the image of line n in the next place
unfoldable pub entered : Job → Key → Image → ℕ → Job
entered j k i n =
    record {
      config = j.config;
      opened = j.opened;
      background = j.background;
      entries = set j.entries j.count (record { key = k; image = i; line = n });
      count = j.count + 1;
    }

-- ## one line: `Start` before the config line, `Open` after it, `Closed` after a background or an image

unfoldable pub with_config : Config → ℕ → State → Result State Trouble
with_config c n Start = Ok (Open (opened_job c n))
with_config c n (Open j) = Err SecondConfig
with_config c n (Closed j) = Err SecondConfig

unfoldable pub with_ground : Background → State → Result State Trouble
with_ground g Start = Err NoConfig
with_ground g (Open j) = Ok (Closed (grounded j g))
with_ground g (Closed j) = Err LateBackground

-- at most 256 images
unfoldable pub next_image : Key → Image → ℕ → Job → Result State Trouble
next_image key i n j = cond (ltb j.count 256) (Ok (Closed (entered j key i n))) (Err TooManyImages)

unfoldable pub with_image : Key → Image → ℕ → State → Result State Trouble
with_image key i n Start = Err NoConfig
with_image key i n (Open j) = next_image key i n j
with_image key i n (Closed j) = next_image key i n j

-- the state after what line n says
unfoldable pub stepped : ℕ → Line → State → Result State Trouble
stepped n Empty s = Ok s
stepped n (Settings c) s = with_config c n s
stepped n (Ground g) s = with_ground g s
stepped n (Picture key i) s = with_image key i n s

-- a trouble and its line
abbrev pub malformed : ℕ → Trouble → Malformed
malformed n t = record { trouble = t; line = n }

abbrev pub at_line : ℕ → Result State Trouble → Result State Malformed
at_line n (Ok s) = Ok s
at_line n (Err t) = Err (malformed n t)

-- the state after line n; a malformed line is refused for what it is, whatever the state
unfoldable pub taken : ℕ → Result Line Trouble → State → Result State Malformed
taken n (Ok l) s = at_line n (stepped n l s)
taken n (Err t) s = Err (malformed n t)

-- ## all lines

-- what f makes of the state, unless a line before is malformed
abbrev pub unless_malformed : {A : Type 0} → (State → Result A Malformed) → Result State Malformed → Result A Malformed
unless_malformed f (Ok s) = f s
unless_malformed f (Err m) = Err m

-- the state after these lines, of which the first is line n; the first trouble ends it
unfoldable pub after : ℕ → List (List ℕ) → State → Result State Malformed
after n [] s = Ok s
after n (l ∷ ls) s = unless_malformed (after (n + 1) ls) (taken n (line_in l) s)

-- at the end of the text; that there is no config line at all is a trouble of line 1
unfoldable pub ended : State → Result Job Malformed
ended Start = Err (malformed 1 NoConfig)
ended (Open j) = Ok j
ended (Closed j) = Ok j

abbrev pub finished : Result State Malformed → Result Job Malformed
finished r = unless_malformed ended r

-- lines end at line feeds, and are numbered from 1
unfoldable pub lines_in : List ℕ → List (List ℕ)
lines_in text = pieces is_feed text

unfoldable pub job_in : List ℕ → Result Job Malformed
job_in text = finished (after 1 (lines_in text) Start)

-- the job; a refused one is blank
abbrev pub held : Result Job Malformed → Job
held (Ok j) = j
held (Err m) = blank_job
