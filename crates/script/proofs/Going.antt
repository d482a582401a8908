-- The run so far: what is left to say gives the answers in all. Assumes nothing.
use Prim.Native.Nat.{ℕ, zero, suc, ◌+◌, ◌≤◌, ◌<◌}
use native.Mathlib.Omega.{arith}
use mathlib.Core.List.{List, [], ◌++◌}
use mathlib.Core.Path.{◌≡◌, refl, sym, ap, ◌∙◌, subst}
use lib.ListN.{length, take, length-append}
use borrow.Author.Tests.{lt-ltb, le-ltb}
use Rattle.art.specs.Stores.{Stores}
use Rattle.records.specs.Settings.{blank_config, empty_layout}
use Rattle.records.specs.declared.layout.Layout.{Layout}
use Rattle.wire.specs.Bytes.{put}
use Rattle.wire.proofs.Putting.{put-none, put-long, put-take, put-behind}
use Rattle.script.specs.Doing.{code_of, Does}
use Rattle.script.specs.Running.{ran_from, ran}
use Rattle.script.specs.Stepping.{Stepped, GoesOn, Stops, end_bytes, stepped}
use Rattle.script.specs.declared.steps.Ended.{Ended}
use Rattle.script.specs.declared.steps.Step.{Step}
use Rattle.std.specs.Prelude.{Result, Ok, Err}
use Rattle.script.proofs.Answers.{end_long}
use Rattle.script.proofs.Soundness.{Sound, stepped_sound}

same_ok : {r q : Step} {a b : Result Step Ended} → a ≡ Ok r → b ≡ Ok q → a ≡ b → r ≡ q
same_ok e f g = cc

no_err : {e : Ended} {q : Step} {a : Result Step Ended} → a ≡ Err e → a ≡ Ok q → ⊥
no_err h g = cc

pub record Going (script : List ℕ) (s : Stores) (old now : List ℕ) (l : Layout) (at written : ℕ) : Type 0 where
  pub said : List ℕ
  pub turns : ℕ
  pub long : length said ≡ written
  pub is : now ≡ put old 0 said
  pub room : written + 12 ≤ length old
  pub inside : at ≤ length script
  pub enough : length script ≤ at + turns
  pub left : ran_from turns script s (length old) said at l ≡ ran script s (length old)

module _ (script : List ℕ) (s : Stores) (old : List ℕ) where
  pub going_start : (l : Layout) → l ≡ empty_layout blank_config → 12 ≤ length old → Going script s old old l 0 0
  unfolding ran
  going_start l e h = record {
    said = [];
    turns = length script;
    long = refl;
    is = sym (put-none old 0);
    room = omega arith;
    inside = omega arith;
    enough = omega arith;
    left = rw (le-ltb (length old) 12 h) (ap (ran_from (length script) script s (length old) [] 0) e);
  }

  module _ (now : List ℕ) (l : Layout) (at written : ℕ) (g : Going script s old now l at written) where
    pub going_long : length now ≡ length old
    going_long =
        let n = g.long in
        let r = g.room in
        ap length g.is ∙ put-long old 0 g.said (omega arith)

    pub going_said : take written now ≡ g.said
    going_said =
        let n = g.long in
        let r = g.room in
        let e : written ≡ 0 + length g.said = omega arith in
        (λ i. take (e i) (g.is i)) ∙ put-take old 0 g.said (omega arith)

    -- the end behind what is said
    end_put : (code : ℕ) {z : List ℕ} → z ≡ put now written (end_bytes code at) → z ≡ put old 0 (g.said ++ end_bytes code at)
    end_put code e =
        let n = g.long in
        let r = g.room in
        let m = end_long code at in
        let k : written ≡ 0 + length g.said = omega arith in
        e
        ∙ (λ i. put (g.is i) (k i) (end_bytes code at))
        ∙ put-behind old 0 g.said (end_bytes code at) (omega arith)

    ended_by : (code : ℕ) {z : List ℕ} → ran script s (length old) ≡ g.said ++ end_bytes code at → z ≡ put now written (end_bytes code at)
        → (written + 12 ≡ length (ran script s (length old))) × (z ≡ put old 0 (ran script s (length old)))
    ended_by code e q =
        let n = g.long in
        let m = end_long code at in
        let k = length-append g.said (end_bytes code at) in
        let j = ap length e in
        (omega arith, end_put code q ∙ ap (put old 0) (sym e))

    -- the whole script was run
    all_run : (turns : ℕ) → length script ≤ at → ran_from turns script s (length old) g.said at l ≡ g.said ++ end_bytes 0 (length script)
    unfolding ran_from
    all_run zero h = refl
    all_run (suc turns) h = rw (le-ltb at (length script) h)

    pub ended : {z : List ℕ} → length script ≤ at → z ≡ put now written (end_bytes 0 at)
        → (written + 12 ≡ length (ran script s (length old))) × (z ≡ put old 0 (ran script s (length old)))
    ended h q =
        let within = g.inside in
        let e : length script ≡ at = omega arith in
        ended_by 0 (sym g.left ∙ all_run g.turns h ∙ ap (λ (k : ℕ). g.said ++ end_bytes 0 k) e) q

    module _ (h : at < length script) where
      stops_at : (turns code : ℕ) → length script ≤ at + turns → stepped script s (length old) g.said at l ≡ Stops code
          → ran_from turns script s (length old) g.said at l ≡ g.said ++ end_bytes code at
      unfolding ran_from
      stops_at zero code n e = absurd (omega arith)
      stops_at (suc turns) code n e = rw (lt-ltb at (length script) h, e)

      goes_by : (turns : ℕ) (m : Layout) (next : ℕ) (bytes : List ℕ) (new : List ℕ) → length script ≤ at + turns
          → stepped script s (length old) g.said at l ≡ GoesOn m next bytes → ran_from turns script s (length old) g.said at l ≡ ran script s (length old)
          → at < next → next ≤ length script → written + length bytes + 12 ≤ length old → new ≡ put now written bytes
          → Going script s old new m next (written + length bytes)
      unfolding ran_from
      goes_by zero m next bytes new n e left a b c q = absurd (omega arith)
      goes_by (suc turns) m next bytes new n e left a b c q =
          let long = g.long in
          let k : written ≡ 0 + length g.said = omega arith in
          let both = length-append g.said bytes in
          record {
            said = g.said ++ bytes;
            turns = turns;
            long = omega arith;
            is = q ∙ (λ i. put (g.is i) (k i) bytes) ∙ put-behind old 0 g.said bytes (omega arith);
            room = c;
            inside = b;
            enough = omega arith;
            left = (rw (lt-ltb at (length script) h, e) at left);
          }

      here : stepped script s (length now) (take written now) at l ≡ stepped script s (length old) g.said at l
      here = λ i. stepped script s (going_long i) (going_said i) at l

      sound : Sound (length script) (length old) (length g.said) at (stepped script s (length old) g.said at l)
      sound =
          let long = g.long in
          let r = g.room in
          stepped_sound script s (length old) g.said at l (omega arith)

      goes_step : (p : Stepped) (new : List ℕ) (r : Step) → stepped script s (length old) g.said at l ≡ p → Sound (length script) (length old) (length g.said) at p
          → Does p written now new (Ok r) → Going script s old new r.layout r.next r.written × (at < r.next)
      goes_step (GoesOn m next bytes) new r e a d =
          let long = g.long in
          let so = goes_by g.turns m next bytes new g.enough e g.left a.0 a.1 (omega arith) d.answers in
          subst (λ (q : Step). Going script s old new q.layout q.next q.written × (at < q.next)) (sym (same_ok refl refl d.leaves)) (so, a.0)
      goes_step (Stops code) new r e a d = absurd d.leaves

      stops_step : (p : Stepped) (new : List ℕ) (why : Ended) → stepped script s (length old) g.said at l ≡ p → Does p written now new (Err why)
          → (new ≡ now) × (ran script s (length old) ≡ g.said ++ end_bytes (code_of why) at)
      stops_step (GoesOn m next bytes) new why e d = absurd (no_err refl d.leaves)
      stops_step (Stops code) new why e d = (
        d.answers ∙ put-none now written,
        sym g.left ∙ stops_at g.turns code g.enough e ∙ ap (λ (c : ℕ). g.said ++ end_bytes c at) (sym d.leaves),
      )

      module _ (new : List ℕ) where
        as_said : (r : Result Step Ended) → Does (stepped script s (length now) (take written now) at l) written now new r
            → Does (stepped script s (length old) g.said at l) written now new r
        as_said r d = subst (λ (p : Stepped). Does p written now new r) here d

        pub goes : (r : Step) → Does (stepped script s (length now) (take written now) at l) written now new (Ok r)
            → Going script s old new r.layout r.next r.written × (at < r.next)
        goes r d = goes_step (stepped script s (length old) g.said at l) new r refl sound (as_said (Ok r) d)

        module _ (why : Ended) (d : Does (stepped script s (length now) (take written now) at l) written now new (Err why)) where
          ends_here : (new ≡ now) × (ran script s (length old) ≡ g.said ++ end_bytes (code_of why) at)
          ends_here = stops_step (stepped script s (length old) g.said at l) new why refl (as_said (Err why) d)

          pub unchanged : new ≡ now
          unchanged = ends_here.0

          pub stops : {y : List ℕ} → y ≡ put new written (end_bytes (code_of why) at)
              → (written + 12 ≡ length (ran script s (length old))) × (y ≡ put old 0 (ran script s (length old)))
          stops q = ended_by (code_of why) ends_here.1 (q ∙ ap (λ (n : List ℕ). put n written (end_bytes (code_of why) at)) ends_here.0)
