use Rattle.point_keys.proofs.Back.{words_read_back}
use Rattle.point_keys.proofs.laws.words_read_back.Goals as goal

pub returns : goal.returns
returns c = words_read_back
