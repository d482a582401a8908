use native.Mathlib.Omega.{arith}
use mathlib.Core.List.{List}
use mathlib.Core.Path.{◌≡◌, sym, subst}
use lib.ListN.{length, take}
use Prim.Native.Nat.{ℕ}
use Rattle.std.specs.Prelude.{Result}
use Rattle.art.specs.Stores.{lent}
use Rattle.commands.specs.Taking.{command_number, words_of, There}
use Rattle.commands.specs.declared.command.Command.{Command}
use Rattle.commands.specs.declared.command.Command.TheVariants.{Open, Ask, Offer, Withdraw, PageSize, Pixel, ComposeRows, CheckRows, RowOfImage, Coordinates, Set, Data}
use Rattle.script.specs.Doing.{Does}
use Rattle.script.specs.Stepping.{set_step, data_step, command_step}
use Rattle.script.specs.declared.steps.Ended.{Ended}
use Rattle.script.specs.declared.steps.Step.{Step}
use Rattle.script.proofs.Answers.{does_quiet}
use Rattle.script.proofs.Ways.{quiet_set, quiet_data}
use Rattle.script.proofs.running.run_command.Goals.{Start}
use Rattle.script.proofs.running.run_command.Goals as goal

-- `run_command` runs the command. Assumes nothing.
-- what the function does for a command
abbrev Runs : (c : Start) → Command → List ℕ → Result Step Ended → Type 0
Runs c k new r =
    Does (command_step c.args.script.now (lent c.args.stores) (length c.args.answers.now) (take c.args.s.now.written c.args.answers.now) c.args.s.now.next c.args.s.now.layout (command_number k))
    c.args.s.now.written c.args.answers.now new r

known : (c : Start) (k : Command) (new : List ℕ) (r : Result Step Ended) → c.args.command ≡ k → Runs c k new r → Runs c c.args.command new r
known c k new r e h = subst (λ (n : Command). Runs c n new r) (sym e) h

there : (c : Start) (k : Command) → c.args.command ≡ k → There c.args.script.now c.args.s.now.next (words_of (command_number k))
there c k e = subst (λ (n : Command). There c.args.script.now c.args.s.now.next (words_of (command_number n))) e c.requires.command_bound

pub invariant_of-open : goal.invariant_of-open
unfolding words_of
invariant_of-open c = let h = there (goal.at.invariant_of-open c).Start Open c.in-Open.is in omega arith

pub returns-in-Open : goal.returns-in-Open
unfolding command_step
returns-in-Open c = known (goal.at.returns-in-Open c).Start Open _ _ c.in-Open.is c.open.ensures

pub invariant_of-ask : goal.invariant_of-ask
unfolding words_of
invariant_of-ask c = let h = there (goal.at.invariant_of-ask c).Start Ask c.in-Ask.is in omega arith

pub returns-in-Ask : goal.returns-in-Ask
unfolding command_step
returns-in-Ask c = known (goal.at.returns-in-Ask c).Start Ask _ _ c.in-Ask.is c.ask.ensures

pub invariant_of-offer : goal.invariant_of-offer
unfolding words_of
invariant_of-offer c = let h = there (goal.at.invariant_of-offer c).Start Offer c.in-Offer.is in omega arith

pub returns-in-Offer : goal.returns-in-Offer
unfolding command_step
returns-in-Offer c = known (goal.at.returns-in-Offer c).Start Offer _ _ c.in-Offer.is c.offer.ensures

pub invariant_of-withdraw : goal.invariant_of-withdraw
unfolding words_of
invariant_of-withdraw c = let h = there (goal.at.invariant_of-withdraw c).Start Withdraw c.in-Withdraw.is in omega arith

pub returns-in-Withdraw : goal.returns-in-Withdraw
unfolding command_step
returns-in-Withdraw c = known (goal.at.returns-in-Withdraw c).Start Withdraw _ _ c.in-Withdraw.is c.withdraw.ensures

pub invariant_of-page_size : goal.invariant_of-page_size
unfolding words_of
invariant_of-page_size c = let h = there (goal.at.invariant_of-page_size c).Start PageSize c.in-PageSize.is in omega arith

pub returns-in-PageSize : goal.returns-in-PageSize
unfolding command_step
returns-in-PageSize c = known (goal.at.returns-in-PageSize c).Start PageSize _ _ c.in-PageSize.is c.page_size.ensures

pub invariant_of-pixel : goal.invariant_of-pixel
unfolding words_of
invariant_of-pixel c = let h = there (goal.at.invariant_of-pixel c).Start Pixel c.in-Pixel.is in omega arith

pub returns-in-Pixel : goal.returns-in-Pixel
unfolding command_step
returns-in-Pixel c = known (goal.at.returns-in-Pixel c).Start Pixel _ _ c.in-Pixel.is c.pixel.ensures

pub invariant_of-coordinates : goal.invariant_of-coordinates
unfolding words_of
invariant_of-coordinates c = let h = there (goal.at.invariant_of-coordinates c).Start Coordinates c.in-Coordinates.is in omega arith

pub returns-in-Coordinates : goal.returns-in-Coordinates
unfolding command_step
returns-in-Coordinates c = known (goal.at.returns-in-Coordinates c).Start Coordinates _ _ c.in-Coordinates.is c.coordinates.ensures

pub invariant_of-compose_step : goal.invariant_of-compose_step
unfolding words_of
invariant_of-compose_step c = let h = there (goal.at.invariant_of-compose_step c).Start ComposeRows c.in-ComposeRows.is in omega arith

pub returns-in-ComposeRows : goal.returns-in-ComposeRows
unfolding command_step
returns-in-ComposeRows c = known (goal.at.returns-in-ComposeRows c).Start ComposeRows _ _ c.in-ComposeRows.is c.compose_step.ensures

pub invariant_of-check_step : goal.invariant_of-check_step
unfolding words_of
invariant_of-check_step c = let h = there (goal.at.invariant_of-check_step c).Start CheckRows c.in-CheckRows.is in omega arith

pub returns-in-CheckRows : goal.returns-in-CheckRows
unfolding command_step
returns-in-CheckRows c = known (goal.at.returns-in-CheckRows c).Start CheckRows _ _ c.in-CheckRows.is c.check_step.ensures

pub invariant_of-row_step : goal.invariant_of-row_step
unfolding words_of
invariant_of-row_step c = let h = there (goal.at.invariant_of-row_step c).Start RowOfImage c.in-RowOfImage.is in omega arith

pub returns-in-RowOfImage : goal.returns-in-RowOfImage
unfolding command_step
returns-in-RowOfImage c = known (goal.at.returns-in-RowOfImage c).Start RowOfImage _ _ c.in-RowOfImage.is c.row_step.ensures

pub invariant_of-set_step : goal.invariant_of-set_step
unfolding words_of
invariant_of-set_step c = let h = there (goal.at.invariant_of-set_step c).Start Set c.in-Set.is in omega arith

pub returns-in-Set : goal.returns-in-Set
unfolding command_step
returns-in-Set c =
    let a = c.args in
    known (goal.at.returns-in-Set c).Start Set _ _ c.in-Set.is
    (does_quiet a.s.now.written a.answers.now _ (set_step a.script.now a.s.now.next a.s.now.layout) (quiet_set a.script.now a.s.now.next a.s.now.layout) c.set_step.ensures)

pub invariant_of-data_step : goal.invariant_of-data_step
unfolding words_of
invariant_of-data_step c = let h = there (goal.at.invariant_of-data_step c).Start Data c.in-Data.is in omega arith

pub returns-in-Data : goal.returns-in-Data
unfolding command_step
returns-in-Data c =
    let a = c.args in
    known (goal.at.returns-in-Data c).Start Data _ _ c.in-Data.is
    (does_quiet a.s.now.written a.answers.now _ (data_step a.script.now a.s.now.next a.s.now.layout) (quiet_data a.script.now a.s.now.next a.s.now.layout) c.data_step.ensures)
