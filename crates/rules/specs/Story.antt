-- Demand 3: any list of calls from a layout, the images that then stand, and the layout that the placing rule gives for them.
-- Assumes nothing.
use Rattle.std.specs.Prelude.{◌-◌, List, [], ◌∷◌, ◌++◌, length, replicate, take, Ok, Err}
use Rattle.std.proofs.Math.Option.{Option, none, some}
use Rattle.geometry.specs.declared.rect.Size.{Size}
use Rattle.art.specs.Stores.{Stores}
use Rattle.art.specs.declared.memory_rgba8_texture.Image.{Image}
use Rattle.records.specs.Settings.{blank_record}
use Rattle.records.specs.declared.texture_packer_config.Config.{Config}
use Rattle.records.specs.declared.frame.Key.{Key}
use Rattle.records.specs.declared.frame.Page.{Page}
use Rattle.records.specs.declared.frame.Record.{Record}
use Rattle.records.specs.declared.layout.Layout.{Layout}
use Rattle.rules.specs.Placing.{placed}
use Rattle.rules.specs.Operations.{art_for, offered, withdrawn, Offered, Withdrawn}
use Rattle.rules.specs.declared.placing.Art.{Art}

-- the placing rule over images in order, after the records that stand: their records, or none where one finds no place
abbrev pub then_laid : Option Record → (Record → Option (List Record)) → Option (List Record)
then_laid none f = none
then_laid (some r) f = f r

unfoldable pub laid_from : Config → List Record → List Art → Option (List Record)
laid_from c rs [] = some rs
laid_from c rs (a ∷ more) = then_laid (placed c rs a) (λ r. laid_from c (rs ++ r ∷ []) more)

-- the layout that holds just these records
unfoldable pub filled : Config → List Record → Layout
filled c rs = record { config = c; count = length rs; records = rs ++ replicate (256 - length rs) blank_record }

abbrev pub filled_with : Config → Option (List Record) → Option Layout
filled_with c none = none
filled_with c (some rs) = some (filled c rs)

-- THE LAYOUT THAT THE PLACING RULE GIVES for images in order, alone
unfoldable pub layout_for : Config → List Art → Option Layout
layout_for c images = filled_with c (laid_from c [] images)

-- offers, questions and withdrawals; every other operation takes a layout and gives none back
pub data Call : Type 0 where
  Offer : Stores → Key → Image → Call
  Withdraw : Call
  Ask : Page → Size → Call

-- the layout that a call returns
unfoldable pub step : Call → Layout → Layout
step (Offer s k i) l = (offered l s k i).layout
step Withdraw l = (withdrawn l).layout
step (Ask p z) l = l

-- an offer that is answered by a place adds its image, with size and trim box as seen then; a withdrawal that is answered by a key
-- takes the latest away
abbrev pub added : Offered → Art → List Art → List Art
added (Ok p) a images = images ++ a ∷ []
added (Err r) a images = images

abbrev pub lost : Withdrawn → List Art → List Art
lost (Ok k) images = take (length images - 1) images
lost (Err r) images = images

unfoldable pub stand : Call → Layout → List Art → List Art
stand (Offer s k i) l images = added (offered l s k i).answer (art_for l.config s k i) images
stand Withdraw l images = lost (withdrawn l).answer images
stand (Ask p z) l images = images

-- each call on the state that the last one returned
unfoldable pub layout_after : Layout → List Call → Layout
layout_after l [] = l
layout_after l (c ∷ cs) = layout_after (step c l) cs

-- the images still standing, in order
unfoldable pub images_after : Layout → List Art → List Call → List Art
images_after l images [] = images
images_after l images (c ∷ cs) = images_after (step c l) (stand c l images) cs
