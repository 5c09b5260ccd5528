use Rattle.std.proofs.Common.{◌∙◌, ap, subst, sym}
use Rattle.std.proofs.lemmas.Result.{IfOk-weaker}
use Rattle.tv_model.specs.Program.{program_of}
use Rattle.tv_model.specs.Valid.{IsValid}
use Rattle.tv_rules.specs.Closing.{closed_rules}
use Rattle.tv_losses_unmet.proofs.Closing.{closed-alone}
use Rattle.tv_losses_unmet.proofs.Validity.{alone-valid}
use Rattle.tv_losses_unmet.proofs.closed.closed_of.Goals as goal

pub close_rules-requires : goal.close_rules-requires
close_rules-requires c =
    subst IsValid (sym c.requires.made)
    (alone-valid c.args.claim (program_of c.args.program.now) c.requires.valid)

pub returns : goal.returns
returns c =
    IfOk-weaker c.close_rules.result _ _
    (λ closed rules. rules ∙ ap closed_rules c.requires.made
    ∙ closed-alone c.args.claim (program_of c.args.program.now))
    c.close_rules.ensures.rules
