use Rattle.scan_chunks.proofs.Parts.{parts_scan}
use Rattle.scan_chunks.proofs.laws.parts_scan_as_whole.Goals as goal

pub returns : goal.returns
returns c = parts_scan
