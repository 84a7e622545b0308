use Rattle.std.proofs.Common.{◌≡◌, ◌<◌, ◌≤◌, map, length, take, arith, rules, ◌∙◌, ap, refl, length-set}
use Rattle.std.proofs.lemmas.List.{take_all}
use Rattle.table_schema.proofs.WidthLaws.{bits_more, rest_more, are_widths}
use Rattle.table_schema.proofs.schema.Schema.widths.Goals as goal

pub loop-i-preserved : goal.loop-i-preserved
loop-i-preserved c =
    let few = c.self.invariant.1 in
    let items = c.deref-column-items.ensures.value in
    let same : length c.deref-column-items.result.now ≡ length c.self.inside.columns.items = ap length items in
    let lb : c.loop-i.i < length c.loop-i.bits = omega (arith, few, same, c.loop-i.invariant.size) in
    record {
      kept = bits_more c.loop-i.bits c.deref-column-items.result.now c.loop-i.i c.column-item.result lb c.loop-i-test.true c.column-item.is c.loop-i.invariant.kept;
      size = length-set c.loop-i.bits c.loop-i.i c.column-item.result.bits ∙ c.loop-i.invariant.size;
      rest = rest_more c.loop-i.bits c.loop-i.i c.column-item.result.bits c.loop-i.invariant.rest;
    }

pub invariant_of-result : goal.invariant_of-result
invariant_of-result c =
    let items = c.deref-column-items.ensures.value in
    let len : c.len.result ≡ length c.self.inside.columns.items = search rules in
    let past : length c.deref-column-items.result.now ≤ c.loop-i.i = c.loop-i-test.false in
    let at : c.len.result ≡ c.loop-i.i = omega (arith, len, past, ap length items, c.loop-i.auto.i-end) in
    let kept : take c.len.result c.loop-i.bits ≡ map (λ k. k.bits) c.self.inside.columns.items =
    rw (at, c.loop-i.invariant.kept, take_all c.loop-i.i c.deref-column-items.result.now past, items) refl in
    record { legal = are_widths c.loop-i.bits c.self.inside.columns.items c.len.result len c.self.invariant kept (λ k le. c.loop-i.invariant.rest k (omega (arith, at, le))) }
