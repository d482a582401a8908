-- The run: the commands of a script one after the other, each on the layout that the last one left, and the end.
-- Assumes nothing.
use Rattle.std.specs.Prelude.{ℕ, zero, suc, cond, List, [], ◌++◌, ltb, length}
use Rattle.art.specs.Stores.{Stores}
use Rattle.records.specs.Settings.{blank_config, empty_layout}
use Rattle.records.specs.declared.layout.Layout.{Layout}
use Rattle.script.specs.Stepping.{Stepped, GoesOn, Stops, end_bytes, stepped}

-- after a command: what is said in all where it goes on, and where it stops
abbrev pub after : Stepped → (Layout → ℕ → List ℕ → List ℕ) → (ℕ → List ℕ) → List ℕ
after (GoesOn l next bytes) on stop = on l next bytes
after (Stops code) on stop = stop code

-- All that is said, from a place of the script on, with what is said so far in front. 0: the whole script was run; the position is its length. Each command
-- takes at least four bytes, so `turns` is never used up where it begins at the length of the script.
unfoldable pub ran_from : ℕ → List ℕ → Stores → ℕ → List ℕ → ℕ → Layout → List ℕ
ran_from zero script s room said at l = said ++ end_bytes 0 (length script)
ran_from (suc turns) script s room said at l =
    cond (ltb at (length script))
    (after (stepped script s room said at l)
    (λ m next bytes. ran_from turns script s room (said ++ bytes) next m)
    (λ code. said ++ end_bytes code at))
    (said ++ end_bytes 0 (length script))

-- ALL BYTES THAT A SCRIPT IS ANSWERED, the end included. At the start the layout is the blank one. With room for fewer than 12 bytes nothing is said.
unfoldable pub ran : List ℕ → Stores → ℕ → List ℕ
ran script s room =
    cond (ltb room 12) [] (ran_from (length script) script s room [] 0 (empty_layout blank_config))
