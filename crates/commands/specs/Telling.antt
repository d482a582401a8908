-- The commands whose answer is words alone: the numbers of the answer, and the layout that goes along.
-- Assumes nothing.
use Rattle.std.specs.Prelude.{ℕ, List, ◌≡◌}
use Rattle.art.specs.Stores.{Stores}
use Rattle.records.specs.Operations.{opened, opened_numbers, page_sized, sized_numbers}
use Rattle.records.specs.declared.layout.Answered.{Answered}
use Rattle.records.specs.declared.layout.Layout.{Layout}
use Rattle.rules.specs.Operations.{asked, asked_numbers, offered, offered_numbers, withdrawn, withdrawn_numbers}
use Rattle.coords.specs.Coordinates.{located, located_numbers}
use Rattle.lookup.specs.Looking.{looked, looked_numbers}
use Rattle.wire.specs.Saying.{Says}
use Rattle.wire.specs.declared.answers.Answer.{Answer}
use Rattle.commands.specs.Reading.{word, config_at, page_at, size_at, key_at, image_at, request_of}

pub record Told : Type 0 where
  pub numbers : List ℕ
  pub layout : Layout

-- open: 0
unfoldable pub open_told : List ℕ → ℕ → Told
open_told script at =
    record {
      numbers = opened_numbers (opened (config_at script at)).answer;
      layout = (opened (config_at script at)).layout;
    }

-- ask: 1
unfoldable pub ask_told : List ℕ → ℕ → Layout → Told
ask_told script at l =
    record { numbers = asked_numbers (asked l (page_at script at) (size_at script at)); layout = l }

-- offer: 2
unfoldable pub offer_told : List ℕ → ℕ → Stores → Layout → Told
offer_told script at s l =
    record {
      numbers = offered_numbers (offered l s (key_at script at) (image_at script at)).answer;
      layout = (offered l s (key_at script at) (image_at script at)).layout;
    }

-- withdraw: 3
unfoldable pub withdraw_told : Layout → Told
withdraw_told l = record { numbers = withdrawn_numbers (withdrawn l).answer; layout = (withdrawn l).layout }

-- page size: 4
unfoldable pub size_told : List ℕ → ℕ → Layout → Told
size_told script at l = record { numbers = sized_numbers (page_sized l (page_at script at)); layout = l }

-- pixel: 5, of page, x, y
unfoldable pub pixel_told : List ℕ → ℕ → Stores → Layout → Told
pixel_told script at s l =
    record { numbers = looked_numbers (looked l s (page_at script at) (word script at 2) (word script at 3)); layout = l }

-- coordinates: 9, of key, request, bits
unfoldable pub locate_told : List ℕ → ℕ → Layout → Told
locate_told script at l =
    record {
      numbers = located_numbers (located l (key_at script at) (request_of (word script at 2) (word script at 3)));
      layout = l;
    }

-- the code's answer and layout are these
pub record Tells (t : Told) (o : Answered Answer) : Type 0 where
  pub says : Says t.numbers o.answer
  pub layout : o.layout ≡ t.layout
