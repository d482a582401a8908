-- A layout's records: which stand, well-formed, pages, keys.
-- Assumes nothing.
use Rattle.std.specs.Prelude.{ℕ, ◌+◌, Bool, cond, List, [], ◌∷◌, length, take, drop, get_or, leb, eqb}
use Rattle.std.proofs.Math.Option.{Option}
use Rattle.geometry.specs.Words.{all_of, all, from, only, earliest, or_else, greatest}
use Rattle.geometry.specs.Rects.{right_of, bottom_of}
use Rattle.geometry.specs.declared.rect.Size.{Size}
use Rattle.records.specs.Settings.{in_bounds, blank_record}
use Rattle.records.specs.Records.{is_blank, record_well_formed}
use Rattle.records.specs.declared.frame.Key.{Key}
use Rattle.records.specs.declared.frame.Page.{Page}
use Rattle.records.specs.declared.frame.Record.{Record}
use Rattle.records.specs.declared.layout.Layout.{Layout}

-- one record per standing image, in order of acceptance
unfoldable pub standing : Layout → List Record
standing l = take l.count l.records

unfoldable pub unused : Layout → List Record
unused l = drop l.count l.records

-- configuration in bounds; image count within its limit; unused places blank; each record so
unfoldable pub well_formed : Layout → Bool
well_formed l =
    all_of
    (in_bounds l.config
    ∷ leb l.count l.config.images
    ∷ all is_blank (unused l)
    ∷ all (record_well_formed l.config) (standing l)
    ∷ [])

unfoldable pub has_key : Key → Record → Bool
has_key k r = eqb r.key.0 k.0

-- a key names the earliest record that has it
unfoldable pub record_of : Layout → Key → Option Record
record_of l k = earliest (has_key k) (standing l)

-- that record, or the blank one where none has the key
unfoldable pub record_named : Layout → Key → Record
record_named l k = or_else (record_of l k) blank_record

-- its place among some, or how many they are
unfoldable pub key_place : Key → List Record → ℕ
key_place k rs = or_else (earliest (λ i. has_key k (get_or rs i blank_record)) (from 0 (length rs))) (length rs)

unfoldable pub on_page : ℕ → List Record → List Record
on_page p = only (λ r. eqb r.page.0 p)

-- one more than the greatest page number, or 0
unfoldable pub page_count : List Record → ℕ
page_count rs = greatest (λ r. r.page.0 + 1) rs

-- greatest frame right (or bottom) +1+b; 0 without frames
unfoldable pub ends_of : ℕ → List Record → Size
ends_of b rs =
    record {
      w = greatest (λ r. right_of r.frame + 1 + b) rs;
      h = greatest (λ r. bottom_of r.frame + 1 + b) rs;
    }

-- the maxima if forced; else where the page's frames end
unfoldable pub size_of_page : Layout → Page → Size
size_of_page l p =
    cond l.config.forced
    (record { w = l.config.maxw; h = l.config.maxh })
    (ends_of l.config.border (on_page p.0 (standing l)))
