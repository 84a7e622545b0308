use Rattle.std.proofs.Common.{length, ap, ◌∙◌}
use Rattle.list_facts.proofs.Listed.{length-listed}
use Rattle.onehot_column.proofs.CodeLaws.{length-code_of}
use Rattle.onehot_column.proofs.piece.pieces.Goals as goal

pub returns-clause-zero_widths : goal.returns-clause-zero_widths
returns-clause-zero_widths c =
    ap length (c.in_ok-zero.ensures.zero.0 ∙ c.in_ok-split.ensures.x0) ∙ length-listed _ _
    ∙ ap length (c.as_slice.ensures ∙ c.in_ok-code.ensures) ∙ length-code_of c.args.widths.now c.args.row.now

pub returns-clause-one_widths : goal.returns-clause-one_widths
returns-clause-one_widths c =
    ap length (c.in_ok-zero.ensures.one.0 ∙ c.in_ok-split.ensures.x1) ∙ length-listed _ _
    ∙ ap length (c.as_slice.ensures ∙ c.in_ok-code.ensures) ∙ length-code_of c.args.widths.now c.args.row.now

pub returns-clause-two_widths : goal.returns-clause-two_widths
returns-clause-two_widths c =
    ap length (c.in_ok-zero.ensures.two.0 ∙ c.in_ok-split.ensures.x2) ∙ length-listed _ _
    ∙ ap length (c.as_slice.ensures ∙ c.in_ok-code.ensures) ∙ length-code_of c.args.widths.now c.args.row.now
