-- When a command goes on, and when it stops. Assumes nothing.
use Prim.Native.Nat.{ℕ, ◌+◌, ◌*◌, ◌/◌, ◌≤◌, ◌<◌}
use native.Mathlib.Omega.{arith}
use mathlib.Core.Bool.{Bool, true, false, cond}
use mathlib.Core.List.{List, [], ◌∷◌}
use mathlib.Core.Path.{◌≡◌, refl, sym, ap, ◌∙◌, subst}
use lib.Dec.{ltb}
use lib.ListN.{length}
use borrow.Author.Tests.{le-leb, lt-leb, lt-ltb, le-ltb}
use Rattle.std.specs.Prelude.{Result, ⊤}
use Rattle.art.specs.Stores.{Stores}
use Rattle.records.specs.declared.layout.Layout.{Layout}
use Rattle.compose.specs.Composing.{composed_numbers}
use Rattle.records.specs.declared.refusal.Refusal.{Refusal}
use Rattle.wire.specs.Bytes.{words_bytes, put}
use Rattle.wire.specs.Fields.{is_field, layout_with}
use Rattle.commands.specs.Reading.{word, page_at, background_at}
use Rattle.commands.specs.Telling.{Told}
use Rattle.script.specs.Doing.{composed_size, said_by}
use Rattle.script.specs.Stepping.{GoesOn, Stops, answer_bytes, next_at, saying, telling, composed_bytes, compose_outcome, compose_pixels, compose_step, check_source, check_past, check_numbers, check_step, set_step, data_step, command_step, stepped}
use Rattle.script.proofs.Answers.{answer-long, front_answer}
use Rattle.script.proofs.Composing.{one_number, size-at_most, composed-long}

-- ## compose rows

module _ (script : List ℕ) (s : Stores) (at : ℕ) (l : Layout) where
  abbrev pub compose_said : List ℕ
  compose_said = answer_bytes (composed_numbers (compose_outcome script s at l)) (composed_bytes (compose_outcome script s at l) (compose_pixels script s at l))

  pub compose_goes : (room : ℕ) (said : List ℕ) → length said + 8 + word script at 8 + 12 ≤ room
      → compose_step script s room said at l ≡ GoesOn l (next_at at 6) compose_said
  unfolding compose_step
  compose_goes room said h = ap (λ (b : Bool). cond b (GoesOn l (next_at at 6) compose_said) (Stops 3)) (le-leb (length said + 8 + word script at 8 + 12) room h)

  pub compose_stops : (room : ℕ) (said : List ℕ) → room < length said + 8 + word script at 8 + 12 → compose_step script s room said at l ≡ Stops 3
  unfolding compose_step
  compose_stops room said h = ap (λ (b : Bool). cond b (GoesOn l (next_at at 6) compose_said) (Stops 3)) (lt-leb (length said + 8 + word script at 8 + 12) room h)

  composed-bytes-long : length (composed_bytes (compose_outcome script s at l) (compose_pixels script s at l)) ≡ composed_size (compose_outcome script s at l) (word script at 8)
  unfolding compose_outcome compose_pixels
  composed-bytes-long =
      composed-long l s (page_at script at) (background_at script (at + 8)) (word script at 6) (word script at 7) (word script at 8)

  pub compose_said-long : length compose_said ≡ 8 + composed_size (compose_outcome script s at l) (word script at 8)
  compose_said-long =
      let o = compose_outcome script s at l in
      let n = answer-long (composed_numbers o) (composed_bytes o (compose_pixels script s at l)) in
      let one = one_number o in
      let m = composed-bytes-long in
      omega arith

  -- the number goes in front of the bytes
  pub compose_written : (old : List ℕ) (w : ℕ) (o : Result ⊤ Refusal) (n more : ℕ) {y z : List ℕ} → o ≡ compose_outcome script s at l → composed_numbers o ≡ n ∷ []
      → more ≡ composed_size o (word script at 8) → y ≡ put old (w + 8) (composed_bytes o (compose_pixels script s at l))
      → z ≡ put y w (words_bytes ((1 + more / 4) ∷ n ∷ [])) → w + 8 + word script at 8 ≤ length old → z ≡ put old w compose_said
  compose_written old w o n more {y} {z} e is m p q h =
      let bytes = compose_pixels script s at l in
      let long : length (composed_bytes o bytes) ≡ composed_size o (word script at 8) =
      subst (λ (r : Result ⊤ Refusal). length (composed_bytes r bytes) ≡ composed_size r (word script at 8)) (sym e) composed-bytes-long
      in
      let most = size-at_most o (word script at 8) in
      let same : more ≡ length (composed_bytes o bytes) = omega arith in
      front_answer old w (composed_numbers o) (composed_bytes o bytes) n (more / 4) is (ap (λ (k : ℕ). k / 4) same) (omega arith) p q
      ∙ ap (λ (r : Result ⊤ Refusal). put old w (answer_bytes (composed_numbers r) (composed_bytes r bytes))) e

-- ## check rows

module _ (script : List ℕ) (s : Stores) (room : ℕ) (said : List ℕ) (at : ℕ) (l : Layout) where
  pub check_stops : check_past script at (check_source script s said at) ≡ true → check_step script s room said at l ≡ Stops 4
  unfolding check_step
  check_stops e =
      let go = saying room said l (next_at at 7) (answer_bytes (check_numbers script s at l (check_source script s said at)) []) in
      ap (λ (b : Bool). cond b (Stops 4) go) e

  pub check_goes : (numbers : List ℕ) → check_past script at (check_source script s said at) ≡ false
      → numbers ≡ check_numbers script s at l (check_source script s said at)
      → check_step script s room said at l ≡ saying room said l (next_at at 7) (answer_bytes numbers [])
  unfolding check_step
  check_goes numbers e n =
      let go = saying room said l (next_at at 7) (answer_bytes (check_numbers script s at l (check_source script s said at)) []) in
      ap (λ (b : Bool). cond b (Stops 4) go) e ∙ ap (λ (ns : List ℕ). saying room said l (next_at at 7) (answer_bytes ns [])) (sym n)

-- ## a command by its number

-- a command that says nothing
pub quiet_set : (script : List ℕ) (at : ℕ) (l : Layout) → said_by (set_step script at l) ≡ []
unfolding set_step
quiet_set script at l = by (is_field (word script at 1))
  where
    by : (b : Bool) → said_by (cond b (GoesOn (layout_with l (word script at 1) (word script at 2) (word script at 3)) (next_at at 10) []) (Stops 1)) ≡ []
    by true = refl
    by false = refl

pub quiet_data : (script : List ℕ) (at : ℕ) (l : Layout) → said_by (data_step script at l) ≡ []
unfolding data_step
quiet_data script at l = by (ltb (length script) (next_at at 11 + 4 * word script at 1))
  where
    by : (b : Bool) → said_by (cond b (Stops 2) (GoesOn l (next_at at 11 + 4 * word script at 1) [])) ≡ []
    by true = refl
    by false = refl

pub telling-is : (room : ℕ) (said : List ℕ) (at command : ℕ) (t : Told) (l : Layout) (next : ℕ) (numbers : List ℕ) → l ≡ t.layout → next ≡ next_at at command
    → numbers ≡ t.numbers → telling room said at command t ≡ saying room said l next (answer_bytes numbers [])
unfolding telling
telling-is room said at command t l next numbers p q r = sym (λ i. saying room said (p i) (q i) (answer_bytes (r i) []))

module _ (script : List ℕ) (s : Stores) (room : ℕ) (said : List ℕ) (at : ℕ) (l : Layout) where
  pub step-none : length script < at + 4 → stepped script s room said at l ≡ Stops 2
  unfolding stepped
  step-none h = rw (lt-ltb (length script) (at + 4) h)

  module _ (n : ℕ) (is : word script at 0 ≡ n) (here : at + 4 ≤ length script) where
    pub step_unknown : 11 < n → stepped script s room said at l ≡ Stops 1
    unfolding stepped
    step_unknown h = rw (le-ltb (length script) (at + 4) here, is, lt-ltb 11 n h)

    pub step_cut : n ≤ 11 → length script < next_at at n → stepped script s room said at l ≡ Stops 2
    unfolding stepped
    step_cut h g = rw (le-ltb (length script) (at + 4) here, is, le-ltb 11 n h, lt-ltb (length script) (next_at at n) g)

    pub step-runs : n ≤ 11 → next_at at n ≤ length script → stepped script s room said at l ≡ command_step script s room said at l n
    unfolding stepped
    step-runs h g = rw (le-ltb (length script) (at + 4) here, is, le-ltb 11 n h, le-ltb (length script) (next_at at n) g)
