-- A job laid out: open, then an offer for each of its images, in its order; the first refusal ends it.
-- Assumes nothing.
use Rattle.std.specs.Prelude.{ℕ, suc, ⊤, cond, List, [], ◌∷◌, take, Result, Ok, Err, is_ok}
use Rattle.art.specs.Stores.{Stores}
use Rattle.records.specs.Operations.{opened}
use Rattle.records.specs.declared.layout.Answered.{Answered}
use Rattle.records.specs.declared.layout.Layout.{Layout}
use Rattle.records.specs.declared.refusal.Refusal.{Refusal}
use Rattle.rules.specs.Operations.{Offered, offered}
use Rattle.job.specs.declared.reading.Entry.{Entry}
use Rattle.job.specs.declared.reading.Job.{Job}
use Rattle.laying.specs.declared.Stop.{Stop}
use Rattle.laying.specs.declared.Stop.TheVariants.{AtOpen, AtOffer}

abbrev pub Laid : Type 0
Laid = Answered (Result ⊤ Stop)

-- the images of a job, in its order
unfoldable pub wanted : Job → List Entry
wanted j = take j.count j.entries

-- ## the image in place k offered

abbrev pub stop_of : ℕ → Offered → Result ⊤ Stop
stop_of k (Ok p) = Ok tt
stop_of k (Err r) = Err (AtOffer k r)

unfoldable pub offered_one : Stores → ℕ → Layout → Entry → Laid
offered_one s k l e = record { answer = stop_of k (offered l s e.key e.image).answer; layout = (offered l s e.key e.image).layout }

-- ## all of them, from place k on

unfoldable pub offering : Stores → ℕ → Layout → List Entry → Laid
offering s k l [] = record { answer = Ok tt; layout = l }
offering s k l (e ∷ es) =
    cond (is_ok (offered_one s k l e).answer)
    (offering s (suc k) (offered_one s k l e).layout es)
    (offered_one s k l e)

-- ## the whole job

abbrev pub after_open : Layout → Laid → Result ⊤ Refusal → Laid
after_open l laid (Ok done) = laid
after_open l laid (Err r) = record { answer = Err (AtOpen r); layout = l }

unfoldable pub laid_out : Stores → Job → Laid
laid_out s j = after_open (opened j.config).layout (offering s 0 (opened j.config).layout (wanted j)) (opened j.config).answer
