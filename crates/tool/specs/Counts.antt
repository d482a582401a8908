-- How many bytes at the front of a buffer are meant.
use Rattle.std.specs.Prelude.{◌≡◌, ◌≤◌, ℕ, List, length, take}

-- `&xs[..n]` is within bounds and has n bytes. The second part follows from the first, and spares who reads it a proof.
abbrev pub IsPrefixLen : ℕ → List ℕ → Type 0
IsPrefixLen n xs = (n ≤ length xs) × (n ≡ length (take n xs))
