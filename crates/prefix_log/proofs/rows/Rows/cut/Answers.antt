use Rattle.std.proofs.Common.{◌≡◌, ◌∙◌, refl, ◌-◌, ◌/◌, map, rules, arith}
use Rattle.std.specs.Arc.{arc_value}
use Rattle.prefix_log.proofs.Cuts.{cut_rows_at, first_left}
use Rattle.prefix_log.proofs.rows.Rows.cut.Goals as goal

pub invariant_of-self : goal.invariant_of-self
invariant_of-self c =
    let s = c.args.self.now in
    let count : c.saturating_sub-self.result ≡ c.args.to - c.args.from = search rules in
    let left = first_left arc_value s.chunks.items c.drop_first.new.chunks.items ((c.args.from - s.place) / 64) c.min-skipped.result c.drop_first.ensures.items (c.min-skipped.ensures ∙ omega (arith, c.len.ensures)) in
    let fits = s.few in record {
      few = omega (arith, count, fits, c.requires.from, c.requires.to);
      whole = λ some. c.requires.whole (omega (arith, count, some));
      reach = omega (arith, count, s.reach, c.requires.to, c.ranges.from, c.ranges.to);
      there = cut_rows_at s.widths s.widths c.args.from c.args.to c.saturating_sub-self.result s.count s.place (map arc_value s.chunks.items) (map arc_value c.drop_first.new.chunks.items) c.requires.to c.requires.from c.requires.whole s.whole refl count
          left s.there;
    }

pub returns-clause-chunks : goal.returns-clause-chunks
returns-clause-chunks c =
    let s = c.args.self.now in
    first_left arc_value s.chunks.items c.drop_first.new.chunks.items ((c.args.from - s.place) / 64) c.min-skipped.result c.drop_first.ensures.items (c.min-skipped.ensures ∙ omega (arith, c.len.ensures))
