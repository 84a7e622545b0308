use Rattle.std.proofs.Common.{◌≡◌, ℕ, length, sym, ap, subst, ◌∙◌, arith}
use Rattle.query_plan.specs.KeyMessages.{Asked, message_length, message_words}
use Rattle.query_plan.specs.Query.{shaped}
use Rattle.query_plan.proofs.keys.Keys.message.Goals.{in-0, in-1, in_default}
use Rattle.query_plan.proofs.keys.Keys.message.Goals as goal

-- the words that were chosen are the server's
chosen : (c : goal.After-from_vec)
    → let k = c.self.inside in c.match-server.words.now ≡ message_words k.query k.widths.bits k.seed c.args.server
chosen c =
    let k = c.self.inside in
    let words = λ (n : ℕ). message_words k.query k.widths.bits k.seed n in
    elim c.match-server.branch [
      | in-0 w ↦ let e : 0 ≡ c.args.server = omega arith in cc (ap words e)
      | in-1 w ↦ let e : 1 ≡ c.args.server = omega arith in cc (ap words e)
      | in_default w ↦ let e : 2 ≡ c.args.server = omega arith in cc (ap words e)
    ]

pub returns-clause-length : goal.returns-clause-length
returns-clause-length c =
    let k = c.self.inside in
    subst (λ (a : Asked). length c.from_vec.result ≡ message_length (shaped a.query) a.widths.bits) c.self.view_is
    (ap length (c.from_vec.ensures ∙ c.in_ok-from_slice.ensures.items ∙ chosen c)
    ∙ c.messages_are_long.ensures k.query k.widths k.seed c.args.server c.self.invariant.1 c.self.invariant.0)
