-- A band of a page: whole rows, in the front of a buffer.
use Rattle.std.specs.Prelude.{◌≡◌, ◌+◌, ◌*◌, ◌≤◌, ℕ, List, length}
use Rattle.tool.specs.declared.bands.Rows.{Rows}

-- The bytes are those of the rows, whose numbers fit.
abbrev pub IsBand : Rows → List ℕ → Type 0
IsBand r xs = (1 ≤ r.long) × (length xs ≡ r.long * r.count) × (r.first + r.count ≤ 4294967295)
