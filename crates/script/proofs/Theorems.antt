-- What the run of a script is, beyond its bytes. The crates above cite these.
-- Assumes nothing.
use Prim.Native.Nat.{ℕ, zero, suc, ◌+◌, ◌≤◌, ◌<◌}
use native.Mathlib.Omega.{arith}
use mathlib.Core.Bool.{Bool, true, false, cond}
use mathlib.Core.List.{List, [], ◌++◌}
use mathlib.Core.Path.{◌≡◌, refl, sym, ap, ◌∙◌, subst}
use lib.Dec.{ltb}
use lib.ListN.{drop, length, length-append}
use borrow.Author.Tests.{ltb-false, lt-ltb, le-ltb}
use Rattle.art.specs.Stores.{Stores}
use Rattle.art.proofs.Theorems.{one}
use Rattle.records.specs.Operations.{opened}
use Rattle.records.specs.Settings.{blank_config, empty_layout, in_bounds}
use Rattle.records.specs.declared.layout.Layout.{Layout}
use Rattle.records.specs.declared.texture_packer_config.Config.{Config}
use Rattle.rules.specs.Story.{Call, layout_after, images_after}
use Rattle.rules.specs.declared.placing.Art.{Art}
use Rattle.rules.proofs.Story.{Demand3}
use Rattle.rules.proofs.Theorems.{demand_3_opened}
use Rattle.wire.specs.Bytes.{put}
use Rattle.wire.proofs.Putting.{put-drop}
use Rattle.script.specs.Passing.{Passes, Start, Next, Since, Opened, Then}
use Rattle.script.specs.Running.{after, ran_from, ran}
use Rattle.script.specs.Stepping.{Stepped, Stops, end_bytes, GoesOn, stepped}
use Rattle.script.proofs.Answers.{end_long}
use Rattle.script.proofs.Onward.{open_opens, others_call, calls_append}
use Rattle.script.proofs.Soundness.{Sound, stepped_sound}

-- ## "any two results allowed for one input are shown equal"

pub one_run : (script : List ℕ) (s : Stores) (old : List ℕ) {r q : ℕ} {b k : List ℕ} → r ≡ length (ran script s (length old)) → q ≡ length (ran script s (length old))
    → b ≡ put old 0 (ran script s (length old)) → k ≡ put old 0 (ran script s (length old)) → (r ≡ q) × (b ≡ k)
one_run script s old e f g h = (one (length (ran script s (length old))) e f, one (put old 0 (ran script s (length old))) g h)

-- ## the answers fit, and no byte past them is touched

end_fits : (room : ℕ) (said : List ℕ) (code at : ℕ) → length said + 12 ≤ room → length (said ++ end_bytes code at) ≤ room
end_fits room said code at h =
    let e = length-append said (end_bytes code at) in
    let n = end_long code at in
    omega arith

either : (room : ℕ) (b : Bool) (x y : List ℕ) → length x ≤ room → length y ≤ room → length (cond b x y) ≤ room
either room true x y h g = h
either room false x y h g = g

after-fits : (room n w at : ℕ) (p : Stepped) (on : Layout → ℕ → List ℕ → List ℕ) (stop : ℕ → List ℕ) → Sound n room w at p
    → ((m : Layout) (next : ℕ) (bytes : List ℕ) → w + length bytes + 12 ≤ room → length (on m next bytes) ≤ room)
    → ((code : ℕ) → length (stop code) ≤ room) → length (after p on stop) ≤ room
after-fits room n w at (GoesOn m next bytes) on stop h f g = f m next bytes h.2
after-fits room n w at (Stops code) on stop h f g = g code

from-fits : (turns : ℕ) (script : List ℕ) (s : Stores) (room : ℕ) (said : List ℕ) (at : ℕ) (l : Layout) → length said + 12 ≤ room
    → length (ran_from turns script s room said at l) ≤ room
unfolding ran_from
from-fits zero script s room said at l h = end_fits room said 0 (length script) h
from-fits (suc turns) script s room said at l h =
    either room (ltb at (length script)) _ (said ++ end_bytes 0 (length script))
    (after-fits room (length script) (length said) at (stepped script s room said at l) _ (λ code. said ++ end_bytes code at)
    (stepped_sound script s room said at l h)
    (λ m next bytes k. let e = length-append said bytes in from-fits turns script s room (said ++ bytes) next m (omega arith))
    (λ code. end_fits room said code at h))
    (end_fits room said 0 (length script) h)

pub ran-fits : (script : List ℕ) (s : Stores) (room : ℕ) → length (ran script s room) ≤ room
unfolding ran
ran-fits script s room = by (ltb room 12) refl
  where
    by : (b : Bool) → ltb room 12 ≡ b → length (cond b [] (ran_from (length script) script s room [] 0 (empty_layout blank_config))) ≤ room
    by true e = omega arith
    by false e = let h = ltb-false room 12 e in from-fits (length script) script s room [] 0 (empty_layout blank_config) (omega arith)

pub rest_kept : (script : List ℕ) (s : Stores) (old : List ℕ)
    → drop (length (ran script s (length old))) (put old 0 (ran script s (length old))) ≡ drop (length (ran script s (length old))) old
rest_kept script s old =
    let all = ran script s (length old) in
    let h = ran-fits script s (length old) in
    let e : length all ≡ 0 + length all = omega arith in
    ap (λ (n : ℕ). drop n (put old 0 all)) e ∙ put-drop old 0 all (omega arith) ∙ ap (λ (n : ℕ). drop n old) (sym e)

module _ (script : List ℕ) (s : Stores) (room : ℕ) where
  -- ## the run is the fold of the steps: what is answered in all is what is answered from any state on that the run passes

  pub record Left (said : List ℕ) (at : ℕ) (l : Layout) : Type 0 where
    pub turns : ℕ
    pub fits : length said + 12 ≤ room
    pub enough : length script ≤ at + turns
    pub all : ran_from turns script s room said at l ≡ ran script s room

  goes_on : (turns : ℕ) (said : List ℕ) (at : ℕ) (l m : Layout) (next : ℕ) (bytes : List ℕ) → length said + 12 ≤ room → length script ≤ at + turns
      → ran_from turns script s room said at l ≡ ran script s room → at < length script → stepped script s room said at l ≡ GoesOn m next bytes
      → Left (said ++ bytes) next m
  unfolding ran_from
  goes_on zero said at l m next bytes f n a h e = absurd (omega arith)
  goes_on (suc turns) said at l m next bytes f n a h e =
      let sound : Sound (length script) room (length said) at (GoesOn m next bytes) =
      subst (Sound (length script) room (length said) at) e (stepped_sound script s room said at l f)
      in
      let further = sound.0 in
      let fits = sound.2 in
      let long = length-append said bytes in
      record { turns = turns; fits = omega arith; enough = omega arith; all = (rw (lt-ltb at (length script) h, e) at a) }

  pub passed : 12 ≤ room → {said : List ℕ} {at : ℕ} {l : Layout} → Passes script s room said at l → Left said at l
  unfolding ran
  passed r Start =
      record { turns = length script; fits = omega arith; enough = omega arith; all = rw (le-ltb room 12 r) }
  passed r (Next {said} {at} {l} {m} {next} {bytes} p h e) =
      let k = passed r p in
      goes_on k.turns said at l m next bytes k.fits k.enough k.all h e

  -- ## demand 3 of every layout that a run passes since an open in bounds, with no `set` after it: calls, each on the layout that the last one returned

  pub since_calls : (c : Config) {said : List ℕ} {at : ℕ} {l : Layout} → Since script s room c said at l
      → (calls : List Call) × (l ≡ layout_after (opened c).layout calls)
  unfolding layout_after
  since_calls c (Opened {said} {at} {l} {m} {next} {bytes} p h z k e) =
      ([], open_opens script s room said at l m next bytes e z ∙ ap (λ (d : Config). (opened d).layout) k)
  since_calls c (Then {said} {at} {l} {m} {next} {bytes} p h a b e) =
      let before = since_calls c p in
      let now = others_call script s room said at l m next bytes e a b in (
        before.0 ++ now.0,
        now.1 ∙ ap (λ (k : Layout). layout_after k now.0) before.1 ∙ calls_append (opened c).layout before.0 now.0,
      )

  pub script_demand_3 : (c : Config) → in_bounds c ≡ true → {said : List ℕ} {at : ℕ} {l : Layout} → Since script s room c said at l
      → (images : List Art) × Demand3 c l images
  script_demand_3 c b p =
      let k = since_calls c p in
      let images = images_after (opened c).layout [] k.0 in
      (images, subst (λ (m : Layout). Demand3 c m images) (sym k.1) (demand_3_opened c b k.0))
