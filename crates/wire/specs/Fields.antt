-- `set`: a number written to a field of the layout, by the field's number.
-- Assumes nothing.
use Rattle.std.specs.Prelude.{ℕ, ◌%◌, Bool, cond, not, ◌&&◌, ◌||◌, leb, ltb, eqb, get_or, set}
use Rattle.geometry.specs.declared.rect.Rect.{Rect}
use Rattle.geometry.specs.declared.spot.Turn.{Turn}
use Rattle.geometry.specs.declared.spot.Turn.TheVariants.{Upright, Turned}
use Rattle.art.specs.declared.memory_rgba8_texture.Store.{Store}
use Rattle.art.specs.declared.memory_rgba8_texture.Store.TheVariants.{Symbols, Wording}
use Rattle.records.specs.Settings.{blank_record}
use Rattle.records.specs.declared.frame.Record.{Record}
use Rattle.records.specs.declared.frame.Source.{Source}
use Rattle.records.specs.declared.layout.Layout.{Layout}
use Rattle.records.specs.declared.texture_packer_config.Config.{Config}

-- a switch is off where its word is 0 and on otherwise
unfoldable pub is_on : ℕ → Bool
is_on n = not (eqb n 0)

-- the symbol store at 0 and the wording store otherwise
unfoldable pub store_of : ℕ → Store
store_of n = cond (eqb n 0) Symbols Wording

-- upright at 0 and turned otherwise
unfoldable pub turn_of : ℕ → Turn
turn_of n = cond (eqb n 0) Upright Turned

-- what is written where the field is that one, else what was there
unfoldable pub picked : {A : Type 0} → ℕ → ℕ → A → A → A
picked field this new old = cond (eqb field this) new old

-- fields 0 to 10: the configuration's, in the order of open
unfoldable pub config_with : Config → ℕ → ℕ → Config
config_with c field n =
    record {
      maxw = picked field 0 n c.maxw;
      maxh = picked field 1 n c.maxh;
      padding = picked field 2 n c.padding;
      border = picked field 3 n c.border;
      extrusion = picked field 4 n c.extrusion;
      pages = picked field 5 n c.pages;
      images = picked field 6 n c.images;
      rotation = picked field 7 (is_on n) c.rotation;
      trim = picked field 8 (is_on n) c.trim;
      outlines = picked field 9 (is_on n) c.outlines;
      forced = picked field 10 (is_on n) c.forced;
    }

-- fields 18 to 21: the frame's
unfoldable pub frame_with : Rect → ℕ → ℕ → Rect
frame_with f field n =
    record {
      x = picked field 18 n f.x;
      y = picked field 19 n f.y;
      w = picked field 20 n f.w;
      h = picked field 21 n f.h;
    }

-- fields 24 to 27: the source's
unfoldable pub source_with : Source → ℕ → ℕ → Source
source_with s field n =
    record {
      x = picked field 24 n s.x;
      y = picked field 25 n s.y;
      w = picked field 26 n s.w;
      h = picked field 27 n s.h;
    }

-- fields 16 to 29: key, page, frame x, y, w, h, turn, trimmed, source x, y, w, h, store, offset
unfoldable pub record_with : Record → ℕ → ℕ → Record
record_with r field n =
    record {
      key = record { 0 = picked field 16 n r.key.0 };
      page = record { 0 = picked field 17 n r.page.0 };
      frame = frame_with r.frame field n;
      turn = picked field 22 (turn_of n) r.turn;
      trimmed = picked field 23 (is_on n) r.trimmed;
      source = source_with r.source field n;
      store = picked field 28 (store_of n) r.store;
      offset = picked field 29 n r.offset;
    }

unfoldable pub is_field : ℕ → Bool
is_field field = ltb field 12 || (leb 16 field && ltb field 30)

-- the layout with one of its three parts anew
unfoldable pub with_config : Layout → Config → Layout
with_config l c = record { config = c; count = l.count; records = l.records }

unfoldable pub with_count : Layout → ℕ → Layout
with_count l n = record { config = l.config; count = n; records = l.records }

unfoldable pub with_record_at : Layout → ℕ → Record → Layout
with_record_at l at r = record { config = l.config; count = l.count; records = set l.records at r }

-- fields 0 to 10 are the configuration's, 11 is the count, the others are those of the record in `place`, modulo 256
unfoldable pub layout_with : Layout → ℕ → ℕ → ℕ → Layout
layout_with l field place n =
    cond (ltb field 11)
    (with_config l (config_with l.config field n))
    (cond (eqb field 11)
    (with_count l n)
    (with_record_at l (place % 256) (record_with (get_or l.records (place % 256) blank_record) field n)))
