use Rattle.std.proofs.Common.{rules, ◌≡◌, length}
use Rattle.prg_chacha.proofs.Keys.{eight_items}
use Rattle.prg_chacha.proofs.Seeds.{halves_same}
use Rattle.prg_chacha.proofs.seed.Seed.halves.Goals as goal

pub returns-clause-undone : goal.returns-clause-undone
returns-clause-undone c =
    let e : length c.args.self.now.words ≡ 8 = search rules in
    halves_same c.args.self.now c.join.result c.join-2.result _ _ _ _ _ _ _ _ c.join.ensures.words c.join-2.ensures.words (eight_items c.args.self.now.words e)
