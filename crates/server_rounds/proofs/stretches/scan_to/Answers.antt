use Rattle.std.proofs.Common.{◌∙◌, ap, sym, length}
use Rattle.server_rounds.proofs.Stretched.{scans_long}
use Rattle.server_rounds.proofs.stretches.scan_to.Goals as goal

pub copy_from_slice-requires : goal.copy_from_slice-requires
copy_from_slice-requires g c =
    c.requires.long
    ∙ sym (ap length (c.as_slice.ensures ∙ c.in_ok-numbers.ensures.numbers) ∙ scans_long g.S.Shelf.held c.args.column c.args.tables.now c.args.shelves.now)
