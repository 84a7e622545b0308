use Rattle.std.proofs.Common.{◌≡◌, ◌<◌, ℕ, length, sym, ap, subst, ◌∙◌, arith}
use Rattle.std.proofs.lemmas.List.{get_or_default}
use Rattle.query_plan.specs.KeyMessages.{KeysRead, no_pair, pair_at}
use Rattle.query_plan.proofs.server_keys.ServerKeys.pair.Goals as goal

pub returns-then-run-eq0 : goal.returns-then-run-eq0
returns-then-run-eq0 c =
    let j = c.args.j in
    let below : j < length c.self.inside.run0.items = subst (λ (k : KeysRead). j < length k.run0) (sym c.self.view_is) c.requires.predicate in
    c.index.ensures
    ∙ get_or_default c.self.inside.run0.items j c.index.result.now no_pair below
    ∙ ap (λ (k : KeysRead). pair_at k 0 j) c.self.view_is
    ∙ ap (λ (r : ℕ). pair_at c.args.self.now r j) (sym c.if-run-eq0.true)

pub returns-else-run-eq0 : goal.returns-else-run-eq0
returns-else-run-eq0 c =
    let j = c.args.j in
    let below : j < length c.self.inside.run0.items = subst (λ (k : KeysRead). j < length k.run0) (sym c.self.view_is) c.requires.predicate in
    let also : j < length c.self.inside.run1.items = omega (arith, c.self.invariant) in
    let one : 1 ≡ c.args.run = omega (arith, c.requires.run, c.if-run-eq0.false) in
    c.index-else-run-eq0.ensures
    ∙ get_or_default c.self.inside.run1.items j c.index-else-run-eq0.result.now no_pair also
    ∙ ap (λ (k : KeysRead). pair_at k 1 j) c.self.view_is
    ∙ ap (λ (r : ℕ). pair_at c.args.self.now r j) one
