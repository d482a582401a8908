-- How the code's step is the step that is defined.
-- Assumes nothing.
use Rattle.std.specs.Prelude.{ℕ, ◌+◌, Bool, true, false, List, [], ◌≡◌, length, Result, Ok, Err, ⊤}
use Rattle.records.specs.declared.refusal.Refusal.{Refusal}
use Rattle.wire.specs.Bytes.{put}
use Rattle.wire.specs.Saying.{Says}
use Rattle.script.specs.Stepping.{Stepped, GoesOn, Stops}
use Rattle.wire.specs.declared.answers.Answer.{Answer}
use Rattle.script.specs.declared.steps.Ended.{Ended}
use Rattle.script.specs.declared.steps.Ended.TheVariants.{Unknown, CutShort, NoRoom, PastSource}
use Rattle.script.specs.declared.steps.Step.{Step}

-- the code of why a run ends
abbrev pub code_of : Ended → ℕ
code_of Unknown = 1
code_of CutShort = 2
code_of NoRoom = 3
code_of PastSource = 4

-- A command that goes on leaves its layout, the place of the next command, and the bytes of answers written in all; one that ends the run, why.
abbrev pub Leaves : ℕ → Stepped → Result Step Ended → Type 0
Leaves written (GoesOn l next bytes) r = r ≡ Ok (record { layout = l; next = next; written = written + length bytes })
Leaves written (Stops code) (Ok s) = ⊥
Leaves written (Stops code) (Err e) = code_of e ≡ code

-- a command that ends the run says nothing
abbrev pub said_by : Stepped → List ℕ
said_by (GoesOn l next bytes) = bytes
said_by (Stops code) = []

pub record Does (p : Stepped) (written : ℕ) (old new : List ℕ) (r : Result Step Ended) : Type 0 where
  pub leaves : Leaves written p r
  pub answers : new ≡ put old written (said_by p)

-- how many bytes follow the number of a compose that was lent n
abbrev pub composed_size : Result ⊤ Refusal → ℕ → ℕ
composed_size (Ok done) n = n
composed_size (Err r) n = 0

-- the numbers of the answer, or that a part runs past its source
abbrev pub Checks : Bool → List ℕ → Result Answer Ended → Type 0
Checks past numbers (Ok a) = (past ≡ false) × Says numbers a
Checks past numbers (Err e) = (past ≡ true) × (e ≡ PastSource)
