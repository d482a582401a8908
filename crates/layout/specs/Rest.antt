-- What ask has left to do past 2 and 3. Words of the code, not rules of document 01.
-- Assumes nothing.
use Rattle.std.specs.Prelude.{List, [], ◌∷◌, leb}
use Rattle.geometry.specs.declared.rect.Size.{Size}
use Rattle.records.specs.Refusals.{Row}
use Rattle.records.specs.Layouts.{page_count}
use Rattle.records.specs.declared.frame.Page.{Page}
use Rattle.records.specs.declared.frame.Record.{Record}
use Rattle.records.specs.declared.refusal.Refusal.TheVariants.{BadSize, NoSuchPage}
use Rattle.rules.specs.Operations.{bad_size}

-- what is left of ask's row
unfoldable pub ask_rest : List Record → Page → Size → Row
ask_rest rs p s = (bad_size s.w s.h, BadSize) ∷ (leb (page_count rs) p.0, NoSuchPage) ∷ []
