-- The texts of a report's lines.
use Rattle.std.specs.Prelude.{ℕ, List, [], ◌∷◌, ◌++◌, codes, decimal, flat_map}
use Rattle.std.specs.Fmt.{signed_decimal}
use Rattle.table_schema.specs.declared.shapes.Aggregate.{Aggregate}
use Rattle.table_schema.specs.declared.shapes.Aggregate.TheVariants.{Count, Sum}
use Rattle.report_lines.specs.declared.lines.RowWhy.{RowWhy}
use Rattle.report_lines.specs.declared.lines.RowWhy.TheVariants as why
use Rattle.report_lines.specs.declared.lines.Who.{Who}
use Rattle.report_lines.specs.declared.lines.Who.TheVariants.{Single, Round, End}
use Rattle.report_lines.specs.declared.lines.Line.{Line}
use Rattle.report_lines.specs.declared.lines.Line.TheVariants as lines

abbrev pub why_text : RowWhy → List ℕ
why_text why.Fields = codes "Fields"
why_text why.Text = codes "Text"
why_text why.Number = codes "Number"
why_text why.Domain = codes "Domain"
why_text why.Value = codes "Value"

abbrev pub who_text : Who → List ℕ
who_text (Single index) = codes "ask " ++ decimal index
who_text (Round actor round) = codes "ask " ++ decimal actor ++ codes "." ++ decimal round
who_text (End index) = codes "end " ++ decimal index

abbrev pub aggregate_text : Aggregate → List ℕ
aggregate_text Count = codes "count"
aggregate_text Sum = codes "sum"

-- what a server had, and what it should have had
abbrev pub gap_text : ℕ → ℕ → ℕ → List ℕ
gap_text server had floor = codes "again server " ++ decimal server ++ codes " had " ++ decimal had ++ codes " floor " ++ decimal floor

abbrev pub back_gap_text : ℕ → ℕ → ℕ → ℕ → List ℕ
back_gap_text writer server had floor = codes "back " ++ decimal writer ++ codes " " ++ gap_text server had floor

-- a bucket of a query by the buckets of a column
abbrev pub bucket_text : ℕ → ℕ → List ℕ
bucket_text index bucket = codes "group " ++ decimal index ++ codes " bucket " ++ decimal bucket

-- a total and a weighted total that the check refused
abbrev pub refused_text : ℕ → ℕ → List ℕ
refused_text total weighted = codes "altered total " ++ decimal total ++ codes " weighted " ++ decimal weighted

-- a line's text, without its line feed
abbrev pub line_text : Line → List ℕ
line_text (lines.Answer who rows aggregate total) =
    who_text who ++ codes " rows " ++ decimal rows ++ codes " " ++ aggregate_text aggregate ++ codes " " ++ signed_decimal total
line_text (lines.Altered who rows total weighted) =
    who_text who ++ codes " rows " ++ decimal rows ++ codes " " ++ refused_text total weighted
line_text (lines.Again who server had floor) = who_text who ++ codes " " ++ gap_text server had floor
line_text (lines.Draw actor place) = codes "draw " ++ decimal actor ++ codes " place " ++ decimal place
line_text (lines.Look actor server prefix) =
    codes "look " ++ decimal actor ++ codes " server " ++ decimal server ++ codes " prefix " ++ decimal prefix
line_text (lines.Rows count) = codes "rows " ++ decimal count
line_text (lines.Place place row) = codes "place " ++ decimal place ++ codes " row " ++ decimal row
line_text (lines.Back writer rows) = codes "back " ++ decimal writer ++ codes " rows " ++ decimal rows
line_text (lines.BackAgain writer server had floor) = back_gap_text writer server had floor
line_text (lines.Trace index server visits words) =
    codes "trace " ++ decimal index ++ codes " server " ++ decimal server
    ++ codes " visits " ++ decimal visits ++ codes " words " ++ decimal words
line_text (lines.Tree low high total nodes) =
    codes "tree 0 places " ++ decimal low ++ codes " to " ++ decimal high
    ++ codes " count " ++ signed_decimal total ++ codes " nodes " ++ decimal nodes
line_text (lines.TreeAltered total weighted) = codes "tree 0 " ++ refused_text total weighted
line_text (lines.Group index bucket rows aggregate total) =
    bucket_text index bucket ++ codes " rows " ++ decimal rows ++ codes " " ++ aggregate_text aggregate ++ codes " " ++ signed_decimal total
line_text (lines.GroupAltered index bucket total weighted) =
    bucket_text index bucket ++ codes " " ++ refused_text total weighted
line_text (lines.BadWord index) = codes "waldo: bad word " ++ decimal index
line_text (lines.Missing name) = codes "waldo: missing " ++ name
line_text (lines.BadStep index) = codes "waldo: step " ++ decimal index ++ codes " not allowed"
line_text lines.ReadFault = codes "waldo: read fault"
line_text lines.TooLong = codes "waldo: input too long"
line_text lines.Header = codes "waldo: header"
line_text (lines.BadRecord number why) = codes "waldo: record " ++ decimal number ++ codes " " ++ why_text why
line_text (lines.TooMany capacity) = codes "waldo: more rows than " ++ decimal capacity
line_text (lines.TooFew wanted) = codes "waldo: fewer rows than " ++ decimal wanted

-- the lines' texts in order, each with a line feed
abbrev pub text_of : List Line → List ℕ
text_of report = flat_map (λ line. line_text line ++ 10 ∷ []) report
