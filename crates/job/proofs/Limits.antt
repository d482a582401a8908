-- What holds of every parsed job: at most 256 images, and a refused one is blank. Assumes nothing.
use Prim.Native.Nat.{ℕ, ◌+◌, ◌≤◌}
use native.Mathlib.Omega.{arith}
use mathlib.Core.Bool.{Bool, true, false, cond}
use mathlib.Core.Path.{◌≡◌, refl}
use mathlib.Core.List.{List, [], ◌∷◌}
use lib.Dec.{ltb}
use borrow.Author.Tests.{ltb-true}
use Rattle.art.specs.declared.memory_rgba8_texture.Image.{Image}
use Rattle.records.specs.declared.frame.Key.{Key}
use Rattle.records.specs.declared.texture_packer_config.Config.{Config}
use Rattle.paint.specs.Backgrounds.{Background}
use Rattle.job.specs.Lines.{line_in}
use Rattle.std.specs.Prelude.{Result, Ok, Err, IfOk}
use Rattle.job.specs.Jobs.{opened_job, blank_job, grounded, entered, with_config, with_ground, next_image, with_image, stepped, at_line, taken, unless_malformed, after, ended, lines_in, job_in, held}
use Rattle.job.specs.declared.lines.Line.{Line}
use Rattle.job.specs.declared.lines.Line.TheVariants.{Empty, Settings, Ground, Picture}
use Rattle.job.specs.declared.lines.Trouble.{Trouble}
use Rattle.job.specs.declared.lines.Trouble.TheVariants.{TooManyImages}
use Rattle.job.specs.declared.reading.Job.{Job}
use Rattle.job.specs.declared.reading.Malformed.{Malformed}
use Rattle.job.specs.declared.reading.State.{State}
use Rattle.job.specs.declared.reading.State.TheVariants.{Start, Open, Closed}

-- ## one line

abbrev Few : State → Type 0
Few Start = Unit {0}
Few (Open j) = j.count ≤ 256
Few (Closed j) = j.count ≤ 256

abbrev AllFew : {E : Type 0} → Result State E → Type 0
AllFew r = IfOk r Few

config-few : (c : Config) (n : ℕ) (s : State) → AllFew (with_config c n s)
unfolding with_config opened_job
config-few c n Start = omega arith
config-few c n (Open j) = tt
config-few c n (Closed j) = tt

ground-few : (b : Background) (s : State) → Few s → AllFew (with_ground b s)
unfolding with_ground grounded
ground-few b Start h = tt
ground-few b (Open j) h = h
ground-few b (Closed j) h = tt

next_few : (k : Key) (i : Image) (n : ℕ) (j : Job) → AllFew (next_image k i n j)
unfolding next_image entered
next_few k i n j = go (ltb j.count 256) refl
  where
    go : (b : Bool) → ltb j.count 256 ≡ b → AllFew (cond b (Ok (Closed (entered j k i n))) (Err TooManyImages))
    go true e = let l = ltb-true j.count 256 e in omega arith
    go false e = tt

image-few : (k : Key) (i : Image) (n : ℕ) (s : State) → AllFew (with_image k i n s)
unfolding with_image
image-few k i n Start = tt
image-few k i n (Open j) = next_few k i n j
image-few k i n (Closed j) = next_few k i n j

stepped-few : (n : ℕ) (l : Line) (s : State) → Few s → AllFew (stepped n l s)
unfolding stepped
stepped-few n Empty s h = h
stepped-few n (Settings c) s h = config-few c n s
stepped-few n (Ground g) s h = ground-few g s h
stepped-few n (Picture k i) s h = image-few k i n s

at_line-few : (n : ℕ) (r : Result State Trouble) → AllFew r → AllFew (at_line n r)
at_line-few n (Ok s) h = h
at_line-few n (Err t) h = tt

taken-few : (n : ℕ) (l : Result Line Trouble) (s : State) → Few s → AllFew (taken n l s)
unfolding taken
taken-few n (Ok l) s h = at_line-few n (stepped n l s) (stepped-few n l s h)
taken-few n (Err t) s h = tt

-- ## all lines

go_on-few : (f : State → Result State Malformed) (r : Result State Malformed) → ((s : State) → Few s → AllFew (f s)) → AllFew r → AllFew (unless_malformed f r)
go_on-few f (Ok s) more h = more s h
go_on-few f (Err m) more h = tt

after-few : (n : ℕ) (ls : List (List ℕ)) (s : State) → Few s → AllFew (after n ls s)
unfolding after
after-few n [] s h = h
after-few n (l ∷ ls) s h = go_on-few (after (n + 1) ls) (taken n (line_in l) s) (λ t k. after-few (n + 1) ls t k) (taken-few n (line_in l) s h)

ended-few : (r : Result State Malformed) → AllFew r → IfOk (unless_malformed ended r) (λ j. j.count ≤ 256)
unfolding ended
ended-few (Ok Start) h = tt
ended-few (Ok (Open j)) h = h
ended-few (Ok (Closed j)) h = h
ended-few (Err m) h = tt

pub job_few : (text : List ℕ) → IfOk (job_in text) (λ j. j.count ≤ 256)
unfolding job_in
job_few text = ended-few (after 1 (lines_in text) Start) (after-few 1 (lines_in text) Start tt)

blank_few : blank_job.count ≤ 256
unfolding blank_job opened_job
blank_few = omega arith

held-few : (r : Result Job Malformed) → IfOk r (λ j. j.count ≤ 256) → (held r).count ≤ 256
held-few (Ok j) h = h
held-few (Err m) h = blank_few

pub few_held : (text : List ℕ) → (held (job_in text)).count ≤ 256
few_held text = held-few (job_in text) (job_few text)
