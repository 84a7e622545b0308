-- What contracts see of a table.
use Rattle.atomic_table.specs.Seated.{TableId}
use Rattle.table_schema.specs.declared.widths.Widths.{Widths}
use Rattle.ticket_place.specs.Sights.{Named}

-- the widths of its rows, its book with the most rows that it takes, and which locks the three servers are behind
pub record TableView : Type 0 where
  pub widths : Widths
  pub book : Named
  pub zero : TableId
  pub one : TableId
  pub two : TableId
