-- The layout that a command goes on with. Assumes nothing.
use Prim.Native.Nat.{ℕ, zero, suc, ◌+◌, ◌*◌}
use mathlib.Core.Bool.{Bool, true, false, cond}
use mathlib.Core.List.{List, [], ◌∷◌, ◌++◌}
use mathlib.Core.Path.{◌≡◌, refl, sym, subst}
use lib.Dec.{leb, ltb}
use lib.ListN.{length}
use Rattle.art.specs.Stores.{Stores}
use Rattle.records.specs.Operations.{opened}
use Rattle.records.specs.declared.layout.Layout.{Layout}
use Rattle.rules.specs.Story.{Call, Offer, Withdraw, step, layout_after}
use Rattle.commands.specs.Reading.{word, config_at, key_at, image_at}
use Rattle.commands.specs.Telling.{Told, open_told, ask_told, offer_told, withdraw_told, size_told, pixel_told, locate_told}
use Rattle.script.specs.Stepping.{Stepped, GoesOn, Stops, answer_bytes, next_at, saying, telling, compose_step, check_source, check_past, check_step, row_step, data_step, command_step, stepped}
use Rattle.script.proofs.Ways.{compose_said}

-- where it goes on, the layout is one of these
abbrev Onto : (Layout → Type 0) → Stepped → Type 0
Onto P (GoesOn m next bytes) = P m
Onto P (Stops code) = Unit {0}

cond-onto : (P : Layout → Type 0) (b : Bool) (p q : Stepped) → Onto P p → Onto P q → Onto P (cond b p q)
cond-onto P true p q f g = f
cond-onto P false p q f g = g

module _ (P : Layout → Type 0) (script : List ℕ) (s : Stores) (room : ℕ) (said : List ℕ) (at : ℕ) (l : Layout) where
  saying-onto : (m : Layout) (next : ℕ) (bytes : List ℕ) → P m → Onto P (saying room said m next bytes)
  unfolding saying
  saying-onto m next bytes h = cond-onto P (leb (length said + length bytes + 12) room) (GoesOn m next bytes) (Stops 3) h tt

  telling-onto : (command : ℕ) (t : Told) → P t.layout → Onto P (telling room said at command t)
  unfolding telling
  telling-onto command t h = saying-onto t.layout (next_at at command) (answer_bytes t.numbers []) h

  stepped-onto : Onto P (command_step script s room said at l (word script at 0)) → Onto P (stepped script s room said at l)
  unfolding stepped
  stepped-onto h =
      let n = word script at 0 in
      let run = command_step script s room said at l n in
      let cut = cond (ltb (length script) (next_at at n)) (Stops 2) run in
      cond-onto P (ltb (length script) (at + 4)) (Stops 2) (cond (ltb 11 n) (Stops 1) cut) tt
      (cond-onto P (ltb 11 n) (Stops 1) cut tt (cond-onto P (ltb (length script) (next_at at n)) (Stops 2) run tt h))

  goes_onto : (m : Layout) (next : ℕ) (bytes : List ℕ) → stepped script s room said at l ≡ GoesOn m next bytes
      → Onto P (command_step script s room said at l (word script at 0)) → P m
  goes_onto m next bytes e h = subst (Onto P) e (stepped-onto h)

module _ (script : List ℕ) (s : Stores) (room : ℕ) (said : List ℕ) (at : ℕ) (l m : Layout) (next : ℕ) (bytes : List ℕ)
    (e : stepped script s room said at l ≡ GoesOn m next bytes) where
  pub open_opens : word script at 0 ≡ 0 → m ≡ (opened (config_at script at)).layout
  unfolding command_step open_told
  open_opens z =
      let P : Layout → Type 0 = λ (k : Layout). k ≡ (opened (config_at script at)).layout in
      goes_onto P script s room said at l m next bytes e
      (subst (λ (n : ℕ). Onto P (command_step script s room said at l n)) (sym z) (telling-onto P script s room said at l 0 (open_told script at) refl))

  -- by some calls from the layout that it ran on
  abbrev After : Layout → Type 0
  After k = (calls : List Call) × (k ≡ layout_after l calls)

  same : After l
  unfolding layout_after
  same = ([], refl)

  by_command : (n : ℕ) → (n ≡ 0 → ⊥) → (n ≡ 10 → ⊥) → Onto After (command_step script s room said at l n)
  unfolding command_step layout_after step ask_told offer_told withdraw_told size_told pixel_told locate_told compose_step check_step row_step data_step
  by_command zero a b = absurd (a refl)
  by_command (suc zero) a b = telling-onto After script s room said at l 1 (ask_told script at l) same
  by_command (suc (suc zero)) a b =
      telling-onto After script s room said at l 2 (offer_told script at s l) (Offer s (key_at script at) (image_at script at) ∷ [], refl)
  by_command (suc (suc (suc zero))) a b = telling-onto After script s room said at l 3 (withdraw_told l) (Withdraw ∷ [], refl)
  by_command (suc (suc (suc (suc zero)))) a b = telling-onto After script s room said at l 4 (size_told script at l) same
  by_command (suc (suc (suc (suc (suc zero))))) a b = telling-onto After script s room said at l 5 (pixel_told script at s l) same
  by_command (suc (suc (suc (suc (suc (suc zero)))))) a b =
      cond-onto After (leb (length said + 8 + word script at 8 + 12) room) (GoesOn l (next_at at 6) (compose_said script s at l)) (Stops 3) same tt
  by_command (suc (suc (suc (suc (suc (suc (suc zero))))))) a b =
      cond-onto After (check_past script at (check_source script s said at)) (Stops 4) _ tt
      (saying-onto After script s room said at l l (next_at at 7) _ same)
  by_command (suc (suc (suc (suc (suc (suc (suc (suc zero)))))))) a b = saying-onto After script s room said at l l (next_at at 8) _ same
  by_command (suc (suc (suc (suc (suc (suc (suc (suc (suc zero))))))))) a b =
      telling-onto After script s room said at l 9 (locate_told script at l) same
  by_command (suc (suc (suc (suc (suc (suc (suc (suc (suc (suc zero)))))))))) a b = absurd (b refl)
  by_command (suc (suc (suc (suc (suc (suc (suc (suc (suc (suc (suc zero))))))))))) a b =
      cond-onto After (ltb (length script) (next_at at 11 + 4 * word script at 1)) (Stops 2) (GoesOn l (next_at at 11 + 4 * word script at 1) []) tt same
  by_command (suc (suc (suc (suc (suc (suc (suc (suc (suc (suc (suc (suc n)))))))))))) a b = tt

  pub others_call : (word script at 0 ≡ 0 → ⊥) → (word script at 0 ≡ 10 → ⊥) → (calls : List Call) × (m ≡ layout_after l calls)
  others_call a b = goes_onto After script s room said at l m next bytes e (by_command (word script at 0) a b)

pub calls_append : (l : Layout) (cs ds : List Call) → layout_after (layout_after l cs) ds ≡ layout_after l (cs ++ ds)
unfolding layout_after
calls_append l [] ds = refl
calls_append l (k ∷ cs) ds = calls_append (step k l) cs ds
