-- Which of the spans that wait is read next.
use Rattle.std.specs.Prelude.{ℕ, ◌==◌, max, List, [], ◌∷◌, Option, Some, None, position}
use Rattle.zs_want.specs.declared.picking.Span.{Span}
use Rattle.zs_want.specs.declared.picking.Order.{Order}
use Rattle.zs_want.specs.declared.picking.Order.TheVariants as orders

-- the most sectors that wait in one of the spans
abbrev pub most_sectors : List Span → ℕ
most_sectors [] = 0
most_sectors (span ∷ spans) = max span.sectors (most_sectors spans)

-- the place that was found; the first one where none was
abbrev pub or_first : Option ℕ → ℕ
or_first (Some at) = at
or_first None = 0

-- the number, from 0, of the span that is read next, of spans in order of address: the first one, or the first of
-- those in which the most sectors wait
unfoldable pub picked : List Span → Order → ℕ
picked spans orders.Address = 0
picked spans orders.Score = or_first (position (λ span. span.sectors == most_sectors spans) spans)
