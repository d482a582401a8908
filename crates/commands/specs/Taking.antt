-- The word that names a command, and how many words each command takes after it.
-- Assumes nothing.
use Rattle.std.specs.Prelude.{ℕ, ◌+◌, ◌*◌, ◌≤◌, ◌<◌, ◌≡◌, List, [], ◌∷◌, length, get_or, Result, MatchResult}
use Rattle.commands.specs.declared.command.Command.{Command}
use Rattle.commands.specs.declared.command.Command.TheVariants.{Open, Ask, Offer, Withdraw, PageSize, Pixel, ComposeRows, CheckRows, RowOfImage, Coordinates, Set, Data}
use Rattle.commands.specs.declared.command.NoCommand.{NoCommand}

abbrev pub command_number : Command → ℕ
command_number Open = 0
command_number Ask = 1
command_number Offer = 2
command_number Withdraw = 3
command_number PageSize = 4
command_number Pixel = 5
command_number ComposeRows = 6
command_number CheckRows = 7
command_number RowOfImage = 8
command_number Coordinates = 9
command_number Set = 10
command_number Data = 11

-- the command that a word names; 12 and above name none
abbrev pub Names : ℕ → Result Command NoCommand → Type 0
Names word r = MatchResult r (λ c. (command_number c ≡ word) × (word < 12)) (λ _. 12 ≤ word)

abbrev pub word_counts : List ℕ
word_counts = 11 ∷ 3 ∷ 5 ∷ 0 ∷ 1 ∷ 3 ∷ 8 ∷ 10 ∷ 2 ∷ 3 ∷ 3 ∷ 1 ∷ []

unfoldable pub words_of : ℕ → ℕ
words_of command = get_or word_counts command 0

-- the command at a place of the script and its words are there
abbrev pub There : List ℕ → ℕ → ℕ → Type 0
There script at n = at + 4 + 4 * n ≤ length script
