-- The computed table holds, line by line. Assumes nothing.
use mathlib.Core.Path.{◌≡◌, refl}
use mathlib.Core.Bool.{true}
use mathlib.Core.List.{map}
use lib.ListN.{length}
use Rattle.geometry.specs.Words.{from, only, earliest, greatest, flat, before, all_of}
use Rattle.geometry.specs.Rects.{on_span, in_span, at_end, holds_point, holds_rect, on_outline}
use Rattle.geometry.specs.Placing.{height, is_start, starts_from, segment, top, lying, cell_at, spot_at, inside, orientations, fitting_at, candidates_from, rank, better, best_of, spot_for, grown, packed}
use Rattle.geometry.specs.Table.{place_of, computed, table, points}

-- every rule that the table computes with
rules : Unit {0}
unfolding from only earliest greatest flat before all_of on_span in_span at_end holds_point holds_rect on_outline height is_start starts_from segment top lying cell_at spot_at inside orientations fitting_at candidates_from rank better best_of spot_for grown packed place_of computed
rules = tt

pub table-holds : map computed table ≡ map (λ l. l.places) table
unfolding rules
table-holds = refl

pub table_lines : length table ≡ 9
table_lines = refl

pub points_hold : all_of points ≡ true
unfolding rules
points_hold = refl

pub points_lines : length points ≡ 16
points_lines = refl
