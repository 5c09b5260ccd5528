use Rattle.std.proofs.Common.{◌∙◌, ◌++◌, ap, sym}
use Rattle.tv_losses_text.specs.Texts.{lost_lines}
use Rattle.tv_losses_text.proofs.Parts.{said-some}
use Rattle.tv_model.specs.Program.{program_of}
use Rattle.tv_losses_text.proofs.lines.losses_text.Goals as goal

pub returns : goal.returns
returns c =
    let p = program_of c.args.program.now
    in let heads = c.args.heads.now
    in let claims = c.args.claims.now
    in c.in_ok-append_losses.ensures
    ∙ ap (λ q. c.new-out.result.items ++ lost_lines (program_of q) heads claims c.args.losses.now) c.in_ok-of.ensures
    ∙ ap (λ xs. xs ++ lost_lines p heads claims c.args.losses.now) c.new-out.ensures.items
    ∙ sym (said-some p heads claims c.args.losses.now c.are_none.result c.are_none.ensures c.if-are_none.false)
