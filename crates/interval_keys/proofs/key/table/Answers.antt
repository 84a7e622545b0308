use Rattle.std.proofs.Common.{◌≡◌, ◌^◌, ℕ, length, subst, sym, ap, ◌∙◌, arith}
use Rattle.list_facts.specs.Listed.{listed}
use Rattle.list_facts.proofs.Listed.{length-listed}
use Rattle.compare_keys.specs.Compares as compares
use Rattle.interval_keys.specs.Keys.{Key}
use Rattle.interval_keys.specs.Intervals.{value_of}
use Rattle.interval_keys.proofs.Tables.{listed_minus, written_over}
use Rattle.interval_keys.proofs.key.table.Goals as goal

pub returns : goal.returns
returns c =
    let upper = c.key.inside.upper in
    let lower = c.key.inside.lower in
    let n = 2 ^ length upper.levels in
    let values = c.into_vec-values.result.items in
    let first : c.as_mut_slice.result.now ≡ listed n (compares.value_of upper c.args.party) =
    c.as_mut_slice.ensures.value ∙ c.into_vec-values.ensures ∙ c.in_ok-table.ensures in
    let second : c.as_slice.result.now ≡ listed n (compares.value_of lower c.args.party) =
    c.as_slice.ensures ∙ c.in_ok-lower.ensures ∙ ap (λ (k : ℕ). listed (2 ^ k) (compares.value_of lower c.args.party)) c.key.invariant.0 in
    let same : length c.subtract.new.from ≡ length values =
    ap length c.subtract.ensures ∙ length-listed (length c.as_mut_slice.result.now) _ ∙ ap length c.as_mut_slice.ensures.value in
    subst (λ (k : Key). c.from_vec.result ≡ listed (2 ^ length k.upper.levels) (value_of k c.args.party)) c.key.view_is
    (c.from_vec.ensures
    ∙ written_over c.into_vec-values.result.len c.subtract.new.from values same (omega arith)
    ∙ c.subtract.ensures
    ∙ listed_minus n (compares.value_of upper c.args.party) (compares.value_of lower c.args.party) c.as_mut_slice.result.now c.as_slice.result.now first second)
