-- The states that a run passes: what is said so far, the place in the script, and the layout.
-- Assumes nothing.
use Rattle.std.specs.Prelude.{ℕ, ◌<◌, List, [], ◌++◌, ◌≡◌, length}
use Rattle.art.specs.Stores.{Stores}
use Rattle.records.specs.Settings.{blank_config, empty_layout}
use Rattle.records.specs.declared.layout.Layout.{Layout}
use Rattle.records.specs.declared.texture_packer_config.Config.{Config}
use Rattle.commands.specs.Reading.{word, config_at}
use Rattle.script.specs.Stepping.{GoesOn, stepped}

-- from the start on, each command on the layout that the last one left
pub data Passes (script : List ℕ) (s : Stores) (room : ℕ) : List ℕ → ℕ → Layout → Type 0 where
  Start : Passes script s room [] 0 (empty_layout blank_config)
  Next : {said : List ℕ} {at : ℕ} {l m : Layout} {next : ℕ} {bytes : List ℕ} → Passes script s room said at l → at < length script
      → stepped script s room said at l ≡ GoesOn m next bytes → Passes script s room (said ++ bytes) next m

-- since an open with configuration c, with no set and no other open after it
pub data Since (script : List ℕ) (s : Stores) (room : ℕ) (c : Config) : List ℕ → ℕ → Layout → Type 0 where
  Opened : {said : List ℕ} {at : ℕ} {l m : Layout} {next : ℕ} {bytes : List ℕ} → Passes script s room said at l → at < length script
      → word script at 0 ≡ 0 → config_at script at ≡ c
      → stepped script s room said at l ≡ GoesOn m next bytes → Since script s room c (said ++ bytes) next m
  Then : {said : List ℕ} {at : ℕ} {l m : Layout} {next : ℕ} {bytes : List ℕ} → Since script s room c said at l → at < length script
      → (word script at 0 ≡ 0 → ⊥) → (word script at 0 ≡ 10 → ⊥)
      → stepped script s room said at l ≡ GoesOn m next bytes → Since script s room c (said ++ bytes) next m
