use Rattle.scan_chunks.proofs.Parts.{parts_visited}
use Rattle.scan_chunks.proofs.laws.parts_are_visited_as_whole.Goals as goal

pub returns : goal.returns
returns c = parts_visited
