-- What holds of a job that is laid out. Assumes nothing.
use Prim.Native.Nat.{ℕ, suc}
use mathlib.Core.Path.{◌≡◌, refl, sym, ap, ◌∙◌, subst}
use mathlib.Core.Bool.{Bool, true, false, cond}
use mathlib.Core.List.{List, [], ◌∷◌, map}
use Rattle.geometry.proofs.Words.{not_both}
use Rattle.art.specs.Stores.{Stores}
use Rattle.records.specs.Settings.{in_bounds}
use Rattle.records.specs.Operations.{Opening, opened}
use Rattle.records.specs.declared.layout.Layout.{Layout}
use Rattle.records.proofs.Answers.{opened-done}
use Rattle.rules.specs.Story.{Call, Offer, step, layout_after, images_after}
use Rattle.rules.proofs.Story.{Demand3}
use Rattle.rules.proofs.Theorems.{demand_3_opened}
use Rattle.job.specs.declared.reading.Entry.{Entry}
use Rattle.job.specs.declared.reading.Job.{Job}
use Rattle.std.specs.Prelude.{Ok, is_ok}
use Rattle.laying.specs.Laying.{Laid, wanted, offered_one, offering, after_open, laid_out}

-- the job's images as calls
abbrev pub calls : Stores → List Entry → List Call
calls s es = map (λ (e : Entry). Offer s e.key e.image) es

-- offers that none refuses are these calls, each on the state that the last one returned
pub all_called : (s : Stores) (k : ℕ) (l : Layout) (es : List Entry) → (offering s k l es).answer ≡ Ok tt → (offering s k l es).layout ≡ layout_after l (calls s es)
unfolding offering offered_one layout_after step
all_called s k l [] q = refl
all_called s k l (e ∷ es) q = go (is_ok (offered_one s k l e).answer) refl (all_called s (suc k) (offered_one s k l e).layout es)
  where
    next : Laid
    next = offered_one s k l e

    rest : Laid
    rest = offering s (suc k) (offered_one s k l e).layout es

    is : (b : Bool) → is_ok (offered_one s k l e).answer ≡ b → offering s k l (e ∷ es) ≡ cond b rest next
    is b g = ap (λ (b : Bool). cond b rest next) g

    go : (b : Bool) → is_ok (offered_one s k l e).answer ≡ b → (rest.answer ≡ Ok tt → rest.layout ≡ layout_after (offered_one s k l e).layout (calls s es))
        → (offering s k l (e ∷ es)).layout ≡ layout_after l (calls s (e ∷ es))
    go true g more = ap (λ (r : Laid). r.layout) (is true g) ∙ more (sym (ap (λ (r : Laid). r.answer) (is true g)) ∙ q)
    go false g more = absurd (not_both (ap is_ok (sym (ap (λ (r : Laid). r.answer) (is false g)) ∙ q)) g)

-- demand 3 of a job that nothing refuses
pub laid_demand : (s : Stores) (j : Job) → in_bounds j.config ≡ true → (laid_out s j).answer ≡ Ok tt
    → Demand3 j.config (laid_out s j).layout (images_after (opened j.config).layout [] (calls s (wanted j)))
unfolding laid_out
laid_demand s j b q = subst (λ (l : Layout). Demand3 j.config l (images_after (opened j.config).layout [] (calls s (wanted j)))) (sym called) (demand_3_opened j.config b (calls s (wanted j)))
  where
    offers : Laid
    offers = offering s 0 (opened j.config).layout (wanted j)

    is : laid_out s j ≡ offers
    is = ap (λ (o : Opening). after_open (opened j.config).layout offers o.answer) (opened-done j.config b)

    called : (laid_out s j).layout ≡ layout_after (opened j.config).layout (calls s (wanted j))
    called =
        ap (λ (r : Laid). r.layout) is
        ∙ all_called s 0 (opened j.config).layout (wanted j) (sym (ap (λ (r : Laid). r.answer) is) ∙ q)
