-- As many bytes as it says, by the law and not by counting them.
use Rattle.std.proofs.Common.{◌≡◌, ℕ, length, sym, replicate}
use Rattle.std.proofs.lemmas.List.{length-replicate}
use Rattle.tool.specs.declared.driving.TheConstants.{STORE}
use Rattle.tool.proofs.driving.store_room.Goals as goal

long : (n : ℕ) → n ≡ length {A = ℕ} (replicate n 0)
long n = sym (length-replicate n 0)

pub returns : goal.returns
returns c = long STORE
