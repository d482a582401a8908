-- Faithful: keys differ, and running the placing rule over the records in order gives each its page, place and turn; with trim off each
-- box is the whole image.
-- Assumes nothing.
use Rattle.std.specs.Prelude.{Bool, true, false, not, ◌&&◌, ◌||◌, List, [], ◌∷◌, ◌++◌, eqb}
use Rattle.std.proofs.Math.Option.{Option, none, some}
use Rattle.geometry.specs.Words.{all_of, all, any}
use Rattle.geometry.specs.Placing.{turn_number}
use Rattle.records.specs.Records.{whole_of, box_of}
use Rattle.records.specs.Layouts.{standing, has_key}
use Rattle.records.specs.declared.texture_packer_config.Config.{Config}
use Rattle.records.specs.declared.frame.Record.{Record}
use Rattle.records.specs.declared.layout.Layout.{Layout}
use Rattle.rules.specs.Placing.{placed}
use Rattle.rules.specs.declared.placing.Art.{Art}

unfoldable pub keys_differ : List Record → Bool
keys_differ [] = true
keys_differ (r ∷ rs) = not (any (has_key r.key) rs) && keys_differ rs

-- what the placing rule is told of the image of a record
unfoldable pub art_of : Record → Art
art_of r = record { key = r.key; store = r.store; offset = r.offset; whole = whole_of r; kept = box_of r }

-- the same page, place and turn
unfoldable pub same_spot : Record → Option Record → Bool
same_spot r none = false
same_spot r (some q) =
    all_of
    (eqb r.page.0 q.page.0
    ∷ eqb r.frame.x q.frame.x
    ∷ eqb r.frame.y q.frame.y
    ∷ eqb (turn_number r.turn) (turn_number q.turn)
    ∷ [])

-- running the placing rule over the records in order, after earlier ones
unfoldable pub placed_so : Config → List Record → List Record → Bool
placed_so c earlier [] = true
placed_so c earlier (r ∷ rs) = same_spot r (placed c earlier (art_of r)) && placed_so c (earlier ++ r ∷ []) rs

-- with trim off the box is the whole image
unfoldable pub whole_if_untrimmed : Config → Record → Bool
whole_if_untrimmed c r =
    c.trim
    || all_of
    (eqb (box_of r).x 0
    ∷ eqb (box_of r).y 0
    ∷ eqb (box_of r).w r.source.w
    ∷ eqb (box_of r).h r.source.h
    ∷ [])

unfoldable pub faithful : Layout → Bool
faithful l =
    all_of
    (keys_differ (standing l)
    ∷ placed_so l.config [] (standing l)
    ∷ all (whole_if_untrimmed l.config) (standing l)
    ∷ [])
