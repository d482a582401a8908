-- A command that goes on does so further on in the script, and leaves room for the end; one that stops has a code. Assumes nothing.
use Prim.Native.Nat.{ℕ, zero, suc, ◌+◌, ◌*◌, ◌≤◌, ◌<◌}
use native.Mathlib.Omega.{arith}
use mathlib.Core.Bool.{Bool, true, false, cond}
use mathlib.Core.List.{List, []}
use mathlib.Core.Path.{◌≡◌, refl}
use lib.Dec.{leb, ltb}
use lib.ListN.{length}
use borrow.Author.Tests.{leb-true, ltb-false}
use Rattle.art.specs.Stores.{Stores}
use Rattle.records.specs.declared.layout.Layout.{Layout}
use Rattle.wire.specs.Fields.{is_field}
use Rattle.commands.specs.Reading.{word}
use Rattle.commands.specs.Telling.{Told}
use Rattle.script.specs.Stepping.{Stepped, GoesOn, Stops, answer_bytes, next_at, saying, telling, compose_outcome, compose_step, check_source, check_past, check_step, row_step, set_step, data_step, command_step, stepped}
use Rattle.script.proofs.Composing.{size-at_most}
use Rattle.script.proofs.Ways.{compose_said, compose_said-long}

abbrev pub Sound : ℕ → ℕ → ℕ → ℕ → Stepped → Type 0
Sound n room w at (GoesOn l next bytes) = (at < next) × (next ≤ n) × (w + length bytes + 12 ≤ room)
Sound n room w at (Stops code) = 0 < code

cond_sound : (n room w at : ℕ) (b : Bool) (p q : Stepped) → (b ≡ true → Sound n room w at p) → (b ≡ false → Sound n room w at q)
    → Sound n room w at (cond b p q)
cond_sound n room w at true p q f g = f refl
cond_sound n room w at false p q f g = g refl

saying_sound : (n room : ℕ) (said : List ℕ) (at : ℕ) (l : Layout) (next : ℕ) (bytes : List ℕ) → at < next → next ≤ n
    → Sound n room (length said) at (saying room said l next bytes)
unfolding saying
saying_sound n room said at l next bytes h g =
    cond_sound n room (length said) at (leb (length said + length bytes + 12) room) (GoesOn l next bytes) (Stops 3)
    (λ e. (h, g, leb-true (length said + length bytes + 12) room e)) (λ e. omega arith)

pub further : (at command : ℕ) → at < next_at at command
unfolding next_at
further at command = omega arith

module _ (script : List ℕ) (s : Stores) (room : ℕ) (said : List ℕ) (at : ℕ) (l : Layout) (h : length said + 12 ≤ room) where
  telling_sound : (command : ℕ) (t : Told) → next_at at command ≤ length script → Sound (length script) room (length said) at (telling room said at command t)
  unfolding telling
  telling_sound command t g =
      saying_sound (length script) room said at t.layout (next_at at command) (answer_bytes t.numbers []) (further at command) g

  compose_sound : next_at at 6 ≤ length script → Sound (length script) room (length said) at (compose_step script s room said at l)
  unfolding compose_step
  compose_sound g =
      cond_sound (length script) room (length said) at (leb (length said + 8 + word script at 8 + 12) room) (GoesOn l (next_at at 6) (compose_said script s at l)) (Stops 3)
      (λ e.
      let fits = leb-true (length said + 8 + word script at 8 + 12) room e in
      let long = compose_said-long script s at l in
      let most = size-at_most (compose_outcome script s at l) (word script at 8) in
      (further at 6, g, omega arith))
      (λ e. omega arith)

  check_sound : next_at at 7 ≤ length script → Sound (length script) room (length said) at (check_step script s room said at l)
  unfolding check_step
  check_sound g =
      cond_sound (length script) room (length said) at (check_past script at (check_source script s said at)) (Stops 4) _ (λ e. omega arith)
      (λ e. saying_sound (length script) room said at l (next_at at 7) _ (further at 7) g)

  row_sound : next_at at 8 ≤ length script → Sound (length script) room (length said) at (row_step script s room said at l)
  unfolding row_step
  row_sound g = saying_sound (length script) room said at l (next_at at 8) _ (further at 8) g

  set_sound : next_at at 10 ≤ length script → Sound (length script) room (length said) at (set_step script at l)
  unfolding set_step
  set_sound g =
      cond_sound (length script) room (length said) at (is_field (word script at 1)) (GoesOn _ (next_at at 10) []) (Stops 1)
      (λ e. (further at 10, g, omega arith)) (λ e. omega arith)

  data_sound : Sound (length script) room (length said) at (data_step script at l)
  unfolding data_step
  data_sound =
      let to = next_at at 11 + 4 * word script at 1 in
      cond_sound (length script) room (length said) at (ltb (length script) to) (Stops 2) (GoesOn l to []) (λ e. omega arith)
      (λ e. let f = further at 11 in (omega arith, ltb-false (length script) to e, omega arith))

  command_sound : (n : ℕ) → next_at at n ≤ length script → Sound (length script) room (length said) at (command_step script s room said at l n)
  unfolding command_step
  command_sound zero g = telling_sound 0 _ g
  command_sound (suc zero) g = telling_sound 1 _ g
  command_sound (suc (suc zero)) g = telling_sound 2 _ g
  command_sound (suc (suc (suc zero))) g = telling_sound 3 _ g
  command_sound (suc (suc (suc (suc zero)))) g = telling_sound 4 _ g
  command_sound (suc (suc (suc (suc (suc zero))))) g = telling_sound 5 _ g
  command_sound (suc (suc (suc (suc (suc (suc zero)))))) g = compose_sound g
  command_sound (suc (suc (suc (suc (suc (suc (suc zero))))))) g = check_sound g
  command_sound (suc (suc (suc (suc (suc (suc (suc (suc zero)))))))) g = row_sound g
  command_sound (suc (suc (suc (suc (suc (suc (suc (suc (suc zero))))))))) g = telling_sound 9 _ g
  command_sound (suc (suc (suc (suc (suc (suc (suc (suc (suc (suc zero)))))))))) g = set_sound g
  command_sound (suc (suc (suc (suc (suc (suc (suc (suc (suc (suc (suc zero))))))))))) g = data_sound
  command_sound (suc (suc (suc (suc (suc (suc (suc (suc (suc (suc (suc (suc n)))))))))))) g = omega arith

  pub stepped_sound : Sound (length script) room (length said) at (stepped script s room said at l)
  unfolding stepped
  stepped_sound =
      let n = word script at 0 in
      cond_sound (length script) room (length said) at (ltb (length script) (at + 4)) (Stops 2) _ (λ e. omega arith)
      (λ e. cond_sound (length script) room (length said) at (ltb 11 n) (Stops 1) _ (λ f. omega arith)
      (λ f. cond_sound (length script) room (length said) at (ltb (length script) (next_at at n)) (Stops 2) _ (λ g. omega arith)
      (λ g. command_sound n (ltb-false (length script) (next_at at n) g))))
