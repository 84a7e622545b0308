use Rattle.std.proofs.Common.{◌≡◌, ◌∙◌, refl, sym, ap, subst, ℕ, ◌≤◌, Bool, cond, length, arith}
use Rattle.std.specs.Prelude.{vec_capacity}
use Rattle.std.specs.Result.{is_ok}
use Rattle.prefix_log.specs.Logs.{IsKept, log_of}
use Rattle.prefix_log.proofs.Appended.{blank_free, capacity_is, counted_most, counted_rows, free_again, no_first, server_is, taken_kept, taken_stored, takes, takes_none, unmarked, widths_are}
use Rattle.prefix_log.proofs.log.append_rows.Goals as goal

pub fill_three-result-requires-clause-zero : goal.fill_three-result-requires-clause-zero
fill_three-result-requires-clause-zero g c κs within =
    let s = c.zero.inside in
    let w = c.args.widths.now in
    let es = c.args.entries.now in
    let e = c.zero.view_is ∙ c.requires.zero in
    let kept = c.zero.invariant.0 in
    let stored = c.zero.invariant.1 in
    blank_free (vec_capacity s.journal) s.prefix s.start s.server s.capacity 0 (length es) s.widths w s.journal.items s.filled.items s.chunks kept stored e

pub mark-requires-clause-free : goal.mark-requires-clause-free
mark-requires-clause-free g c =
    let s = c.zero.inside in
    let w = c.args.widths.now in
    let es = c.args.entries.now in
    let e = c.zero.view_is ∙ c.requires.zero in
    let kept = c.zero.invariant.0 in
    let stored = c.zero.invariant.1 in
    unmarked (vec_capacity s.journal) s.prefix s.start s.server s.capacity 0 (length es) s.widths w s.journal.items s.filled.items s.chunks kept stored e

pub invariant_of-zero : goal.invariant_of-zero
invariant_of-zero g c =
    let s = c.zero.inside in
    let w = c.args.widths.now in
    let es = c.args.entries.now in
    let e = c.zero.view_is ∙ c.requires.zero in
    let kept = c.zero.invariant.0 in
    let stored = c.zero.invariant.1 in
    let new = c.fill_three-result.new.zero in
    let r = c.fill_three-result.result in
    let m = c.all_or_none-count.result in
    let count : m ≡ cond (is_ok r) (length es) 0 = c.all_or_none-count.ensures ∙ ap (λ (b : Bool). cond b (length es) 0) c.is_ok.ensures.value in
    let ok = c.mark.ensures in
    let first = no_first (vec_capacity s.journal) s.prefix s.start s.server s.capacity 0 (length es) s.widths w s.journal.items s.filled.items s.chunks kept stored e in
    let ew = widths_are (vec_capacity s.journal) s.prefix s.start s.server s.capacity 0 (length es) s.widths w s.journal.items s.filled.items s.chunks kept stored e in
    let ec = capacity_is (vec_capacity s.journal) s.prefix s.start s.server s.capacity 0 (length es) s.widths w s.journal.items s.filled.items s.chunks kept stored e in
    let le : m ≤ s.capacity = omega (arith, counted_most r (length es) m count, ec) in
    let free = free_again (vec_capacity s.journal) s.prefix s.start s.server s.capacity 0 (length es) s.widths w s.journal.items s.filled.items s.chunks kept stored e new c.fill_three-result.ensures.zero in
    let rows = counted_rows r (length es) m 0 s.widths w es new.chunks count refl ew c.fill_three-result.ensures.zero_pieces in (
      subst (λ (space : ℕ). IsKept space m s.start c.mark.new.filled.items (log_of s.server s.widths s.capacity c.mark.new.journal.items s.start c.mark.new.filled.items new.chunks)) (sym ok.room)
          (taken_kept (vec_capacity s.journal) s.server s.capacity s.start s.widths c.mark.new.journal.items c.mark.new.filled.items new kept.legal.fits kept.room first m le ok.journal (ok.length ∙ kept.marks) ok.filled free rows),
      taken_stored (vec_capacity s.journal) s.server s.capacity s.start s.widths c.mark.new.journal.items c.mark.new.filled.items new kept.legal.fits kept.room first m le ok.journal (ok.length ∙ kept.marks) ok.filled free rows,
    )

pub returns-clause-zero : goal.returns-clause-zero
returns-clause-zero g c =
    let s = c.zero.inside in
    let w = c.args.widths.now in
    let es = c.args.entries.now in
    let e = c.zero.view_is ∙ c.requires.zero in
    let kept = c.zero.invariant.0 in
    let stored = c.zero.invariant.1 in
    let new = c.fill_three-result.new.zero in
    let r = c.fill_three-result.result in
    let m = c.all_or_none-count.result in
    let count : m ≡ cond (is_ok r) (length es) 0 = c.all_or_none-count.ensures ∙ ap (λ (b : Bool). cond b (length es) 0) c.is_ok.ensures.value in
    let ok = c.mark.ensures in
    let first = no_first (vec_capacity s.journal) s.prefix s.start s.server s.capacity 0 (length es) s.widths w s.journal.items s.filled.items s.chunks kept stored e in
    let ew = widths_are (vec_capacity s.journal) s.prefix s.start s.server s.capacity 0 (length es) s.widths w s.journal.items s.filled.items s.chunks kept stored e in
    let ec = capacity_is (vec_capacity s.journal) s.prefix s.start s.server s.capacity 0 (length es) s.widths w s.journal.items s.filled.items s.chunks kept stored e in
    takes r m s.server s.capacity s.start 0 s.widths w es c.mark.new.journal.items c.mark.new.filled.items new count (server_is (vec_capacity s.journal) s.prefix s.start s.server s.capacity 0 (length es) s.widths w s.journal.items s.filled.items s.chunks kept stored e) ew ec first ok.journal ok.filled c.fill_three-result.ensures.zero_pieces

pub returns-clause-zero_stays : goal.returns-clause-zero_stays
returns-clause-zero_stays g c =
    let s = c.zero.inside in
    let w = c.args.widths.now in
    let es = c.args.entries.now in
    let e = c.zero.view_is ∙ c.requires.zero in
    let kept = c.zero.invariant.0 in
    let stored = c.zero.invariant.1 in
    let new = c.fill_three-result.new.zero in
    let r = c.fill_three-result.result in
    let m = c.all_or_none-count.result in
    let count : m ≡ cond (is_ok r) (length es) 0 = c.all_or_none-count.ensures ∙ ap (λ (b : Bool). cond b (length es) 0) c.is_ok.ensures.value in
    let ok = c.mark.ensures in
    let first = no_first (vec_capacity s.journal) s.prefix s.start s.server s.capacity 0 (length es) s.widths w s.journal.items s.filled.items s.chunks kept stored e in
    let ew = widths_are (vec_capacity s.journal) s.prefix s.start s.server s.capacity 0 (length es) s.widths w s.journal.items s.filled.items s.chunks kept stored e in
    let ec = capacity_is (vec_capacity s.journal) s.prefix s.start s.server s.capacity 0 (length es) s.widths w s.journal.items s.filled.items s.chunks kept stored e in
    takes_none r m s.server s.capacity s.start 0 (length es) s.widths w c.mark.new.journal.items c.mark.new.filled.items new c.args.zero.now count (server_is (vec_capacity s.journal) s.prefix s.start s.server s.capacity 0 (length es) s.widths w s.journal.items s.filled.items s.chunks kept stored e) ew ec first ok.journal ok.filled c.requires.zero

pub fill_three-result-requires-clause-one : goal.fill_three-result-requires-clause-one
fill_three-result-requires-clause-one g c κs within =
    let s = c.one.inside in
    let w = c.args.widths.now in
    let es = c.args.entries.now in
    let e = c.one.view_is ∙ c.requires.one in
    let kept = c.one.invariant.0 in
    let stored = c.one.invariant.1 in
    blank_free (vec_capacity s.journal) s.prefix s.start s.server s.capacity 1 (length es) s.widths w s.journal.items s.filled.items s.chunks kept stored e

pub mark-requires-2-clause-free : goal.mark-requires-2-clause-free
mark-requires-2-clause-free g c =
    let s = c.one.inside in
    let w = c.args.widths.now in
    let es = c.args.entries.now in
    let e = c.one.view_is ∙ c.requires.one in
    let kept = c.one.invariant.0 in
    let stored = c.one.invariant.1 in
    unmarked (vec_capacity s.journal) s.prefix s.start s.server s.capacity 1 (length es) s.widths w s.journal.items s.filled.items s.chunks kept stored e

pub invariant_of-one : goal.invariant_of-one
invariant_of-one g c =
    let s = c.one.inside in
    let w = c.args.widths.now in
    let es = c.args.entries.now in
    let e = c.one.view_is ∙ c.requires.one in
    let kept = c.one.invariant.0 in
    let stored = c.one.invariant.1 in
    let new = c.fill_three-result.new.one in
    let r = c.fill_three-result.result in
    let m = c.all_or_none-count.result in
    let count : m ≡ cond (is_ok r) (length es) 0 = c.all_or_none-count.ensures ∙ ap (λ (b : Bool). cond b (length es) 0) c.is_ok.ensures.value in
    let ok = c.mark-2.ensures in
    let first = no_first (vec_capacity s.journal) s.prefix s.start s.server s.capacity 1 (length es) s.widths w s.journal.items s.filled.items s.chunks kept stored e in
    let ew = widths_are (vec_capacity s.journal) s.prefix s.start s.server s.capacity 1 (length es) s.widths w s.journal.items s.filled.items s.chunks kept stored e in
    let ec = capacity_is (vec_capacity s.journal) s.prefix s.start s.server s.capacity 1 (length es) s.widths w s.journal.items s.filled.items s.chunks kept stored e in
    let le : m ≤ s.capacity = omega (arith, counted_most r (length es) m count, ec) in
    let free = free_again (vec_capacity s.journal) s.prefix s.start s.server s.capacity 1 (length es) s.widths w s.journal.items s.filled.items s.chunks kept stored e new c.fill_three-result.ensures.one in
    let rows = counted_rows r (length es) m 1 s.widths w es new.chunks count refl ew c.fill_three-result.ensures.one_pieces in (
      subst (λ (space : ℕ). IsKept space m s.start c.mark-2.new.filled.items (log_of s.server s.widths s.capacity c.mark-2.new.journal.items s.start c.mark-2.new.filled.items new.chunks)) (sym ok.room)
          (taken_kept (vec_capacity s.journal) s.server s.capacity s.start s.widths c.mark-2.new.journal.items c.mark-2.new.filled.items new kept.legal.fits kept.room first m le ok.journal (ok.length ∙ kept.marks) ok.filled free rows),
      taken_stored (vec_capacity s.journal) s.server s.capacity s.start s.widths c.mark-2.new.journal.items c.mark-2.new.filled.items new kept.legal.fits kept.room first m le ok.journal (ok.length ∙ kept.marks) ok.filled free rows,
    )

pub returns-clause-one : goal.returns-clause-one
returns-clause-one g c =
    let s = c.one.inside in
    let w = c.args.widths.now in
    let es = c.args.entries.now in
    let e = c.one.view_is ∙ c.requires.one in
    let kept = c.one.invariant.0 in
    let stored = c.one.invariant.1 in
    let new = c.fill_three-result.new.one in
    let r = c.fill_three-result.result in
    let m = c.all_or_none-count.result in
    let count : m ≡ cond (is_ok r) (length es) 0 = c.all_or_none-count.ensures ∙ ap (λ (b : Bool). cond b (length es) 0) c.is_ok.ensures.value in
    let ok = c.mark-2.ensures in
    let first = no_first (vec_capacity s.journal) s.prefix s.start s.server s.capacity 1 (length es) s.widths w s.journal.items s.filled.items s.chunks kept stored e in
    let ew = widths_are (vec_capacity s.journal) s.prefix s.start s.server s.capacity 1 (length es) s.widths w s.journal.items s.filled.items s.chunks kept stored e in
    let ec = capacity_is (vec_capacity s.journal) s.prefix s.start s.server s.capacity 1 (length es) s.widths w s.journal.items s.filled.items s.chunks kept stored e in
    takes r m s.server s.capacity s.start 1 s.widths w es c.mark-2.new.journal.items c.mark-2.new.filled.items new count (server_is (vec_capacity s.journal) s.prefix s.start s.server s.capacity 1 (length es) s.widths w s.journal.items s.filled.items s.chunks kept stored e) ew ec first ok.journal ok.filled c.fill_three-result.ensures.one_pieces

pub returns-clause-one_stays : goal.returns-clause-one_stays
returns-clause-one_stays g c =
    let s = c.one.inside in
    let w = c.args.widths.now in
    let es = c.args.entries.now in
    let e = c.one.view_is ∙ c.requires.one in
    let kept = c.one.invariant.0 in
    let stored = c.one.invariant.1 in
    let new = c.fill_three-result.new.one in
    let r = c.fill_three-result.result in
    let m = c.all_or_none-count.result in
    let count : m ≡ cond (is_ok r) (length es) 0 = c.all_or_none-count.ensures ∙ ap (λ (b : Bool). cond b (length es) 0) c.is_ok.ensures.value in
    let ok = c.mark-2.ensures in
    let first = no_first (vec_capacity s.journal) s.prefix s.start s.server s.capacity 1 (length es) s.widths w s.journal.items s.filled.items s.chunks kept stored e in
    let ew = widths_are (vec_capacity s.journal) s.prefix s.start s.server s.capacity 1 (length es) s.widths w s.journal.items s.filled.items s.chunks kept stored e in
    let ec = capacity_is (vec_capacity s.journal) s.prefix s.start s.server s.capacity 1 (length es) s.widths w s.journal.items s.filled.items s.chunks kept stored e in
    takes_none r m s.server s.capacity s.start 1 (length es) s.widths w c.mark-2.new.journal.items c.mark-2.new.filled.items new c.args.one.now count (server_is (vec_capacity s.journal) s.prefix s.start s.server s.capacity 1 (length es) s.widths w s.journal.items s.filled.items s.chunks kept stored e) ew ec first ok.journal ok.filled c.requires.one

pub fill_three-result-requires-clause-two : goal.fill_three-result-requires-clause-two
fill_three-result-requires-clause-two g c κs within =
    let s = c.two.inside in
    let w = c.args.widths.now in
    let es = c.args.entries.now in
    let e = c.two.view_is ∙ c.requires.two in
    let kept = c.two.invariant.0 in
    let stored = c.two.invariant.1 in
    blank_free (vec_capacity s.journal) s.prefix s.start s.server s.capacity 2 (length es) s.widths w s.journal.items s.filled.items s.chunks kept stored e

pub mark-requires-3-clause-free : goal.mark-requires-3-clause-free
mark-requires-3-clause-free g c =
    let s = c.two.inside in
    let w = c.args.widths.now in
    let es = c.args.entries.now in
    let e = c.two.view_is ∙ c.requires.two in
    let kept = c.two.invariant.0 in
    let stored = c.two.invariant.1 in
    unmarked (vec_capacity s.journal) s.prefix s.start s.server s.capacity 2 (length es) s.widths w s.journal.items s.filled.items s.chunks kept stored e

pub invariant_of-two : goal.invariant_of-two
invariant_of-two g c =
    let s = c.two.inside in
    let w = c.args.widths.now in
    let es = c.args.entries.now in
    let e = c.two.view_is ∙ c.requires.two in
    let kept = c.two.invariant.0 in
    let stored = c.two.invariant.1 in
    let new = c.fill_three-result.new.two in
    let r = c.fill_three-result.result in
    let m = c.all_or_none-count.result in
    let count : m ≡ cond (is_ok r) (length es) 0 = c.all_or_none-count.ensures ∙ ap (λ (b : Bool). cond b (length es) 0) c.is_ok.ensures.value in
    let ok = c.mark-3.ensures in
    let first = no_first (vec_capacity s.journal) s.prefix s.start s.server s.capacity 2 (length es) s.widths w s.journal.items s.filled.items s.chunks kept stored e in
    let ew = widths_are (vec_capacity s.journal) s.prefix s.start s.server s.capacity 2 (length es) s.widths w s.journal.items s.filled.items s.chunks kept stored e in
    let ec = capacity_is (vec_capacity s.journal) s.prefix s.start s.server s.capacity 2 (length es) s.widths w s.journal.items s.filled.items s.chunks kept stored e in
    let le : m ≤ s.capacity = omega (arith, counted_most r (length es) m count, ec) in
    let free = free_again (vec_capacity s.journal) s.prefix s.start s.server s.capacity 2 (length es) s.widths w s.journal.items s.filled.items s.chunks kept stored e new c.fill_three-result.ensures.two in
    let rows = counted_rows r (length es) m 2 s.widths w es new.chunks count refl ew c.fill_three-result.ensures.two_pieces in (
      subst (λ (space : ℕ). IsKept space m s.start c.mark-3.new.filled.items (log_of s.server s.widths s.capacity c.mark-3.new.journal.items s.start c.mark-3.new.filled.items new.chunks)) (sym ok.room)
          (taken_kept (vec_capacity s.journal) s.server s.capacity s.start s.widths c.mark-3.new.journal.items c.mark-3.new.filled.items new kept.legal.fits kept.room first m le ok.journal (ok.length ∙ kept.marks) ok.filled free rows),
      taken_stored (vec_capacity s.journal) s.server s.capacity s.start s.widths c.mark-3.new.journal.items c.mark-3.new.filled.items new kept.legal.fits kept.room first m le ok.journal (ok.length ∙ kept.marks) ok.filled free rows,
    )

pub returns-clause-two : goal.returns-clause-two
returns-clause-two g c =
    let s = c.two.inside in
    let w = c.args.widths.now in
    let es = c.args.entries.now in
    let e = c.two.view_is ∙ c.requires.two in
    let kept = c.two.invariant.0 in
    let stored = c.two.invariant.1 in
    let new = c.fill_three-result.new.two in
    let r = c.fill_three-result.result in
    let m = c.all_or_none-count.result in
    let count : m ≡ cond (is_ok r) (length es) 0 = c.all_or_none-count.ensures ∙ ap (λ (b : Bool). cond b (length es) 0) c.is_ok.ensures.value in
    let ok = c.mark-3.ensures in
    let first = no_first (vec_capacity s.journal) s.prefix s.start s.server s.capacity 2 (length es) s.widths w s.journal.items s.filled.items s.chunks kept stored e in
    let ew = widths_are (vec_capacity s.journal) s.prefix s.start s.server s.capacity 2 (length es) s.widths w s.journal.items s.filled.items s.chunks kept stored e in
    let ec = capacity_is (vec_capacity s.journal) s.prefix s.start s.server s.capacity 2 (length es) s.widths w s.journal.items s.filled.items s.chunks kept stored e in
    takes r m s.server s.capacity s.start 2 s.widths w es c.mark-3.new.journal.items c.mark-3.new.filled.items new count (server_is (vec_capacity s.journal) s.prefix s.start s.server s.capacity 2 (length es) s.widths w s.journal.items s.filled.items s.chunks kept stored e) ew ec first ok.journal ok.filled c.fill_three-result.ensures.two_pieces

pub returns-clause-two_stays : goal.returns-clause-two_stays
returns-clause-two_stays g c =
    let s = c.two.inside in
    let w = c.args.widths.now in
    let es = c.args.entries.now in
    let e = c.two.view_is ∙ c.requires.two in
    let kept = c.two.invariant.0 in
    let stored = c.two.invariant.1 in
    let new = c.fill_three-result.new.two in
    let r = c.fill_three-result.result in
    let m = c.all_or_none-count.result in
    let count : m ≡ cond (is_ok r) (length es) 0 = c.all_or_none-count.ensures ∙ ap (λ (b : Bool). cond b (length es) 0) c.is_ok.ensures.value in
    let ok = c.mark-3.ensures in
    let first = no_first (vec_capacity s.journal) s.prefix s.start s.server s.capacity 2 (length es) s.widths w s.journal.items s.filled.items s.chunks kept stored e in
    let ew = widths_are (vec_capacity s.journal) s.prefix s.start s.server s.capacity 2 (length es) s.widths w s.journal.items s.filled.items s.chunks kept stored e in
    let ec = capacity_is (vec_capacity s.journal) s.prefix s.start s.server s.capacity 2 (length es) s.widths w s.journal.items s.filled.items s.chunks kept stored e in
    takes_none r m s.server s.capacity s.start 2 (length es) s.widths w c.mark-3.new.journal.items c.mark-3.new.filled.items new c.args.two.now count (server_is (vec_capacity s.journal) s.prefix s.start s.server s.capacity 2 (length es) s.widths w s.journal.items s.filled.items s.chunks kept stored e) ew ec first ok.journal ok.filled c.requires.two
