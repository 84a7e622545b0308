use Rattle.query_plan.proofs.ReadBack.{keys_add_up}
use Rattle.query_plan.proofs.laws.keys_add_up.Goals as goal

pub returns : goal.returns
returns c = keys_add_up (record {
  seeds = c.derived_are_seeds.ensures;
  point_sums = c.keys_add_up.ensures;
  point_words = c.words_read_back.ensures;
  compare_sums = c.keys_add_up-2.ensures;
  compare_words = c.words_read_back-2.ensures;
  interval_sums = c.keys_add_up-3.ensures;
  interval_words = c.words_read_back-3.ensures;
})
