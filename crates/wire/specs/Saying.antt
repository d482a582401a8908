-- An answer as words.
-- Assumes nothing.
use Rattle.std.specs.Prelude.{ℕ, ◌≤◌, ◌≡◌, List, take}
use Rattle.wire.specs.declared.answers.Answer.{Answer}

-- the answer's words are an operation's number and values
pub record Says (numbers : List ℕ) (a : Answer) : Type 0 where
  pub few : a.count ≤ 8
  pub words : take a.count a.words ≡ numbers
