use Rattle.std.proofs.Common.{subst}
use Rattle.tv_model.specs.Program.{program_of}
use Rattle.tv_update.specs.Redefined.{IsRedefined}
use Rattle.tv_complete.specs.Kept.{definitions_but}
use Rattle.tv_complete.proofs.Keeping.{completes}
use Rattle.tv_complete.proofs.structures.complete.Goals as goal

pub returns : goal.returns
returns c =
    completes c.args.names.now (program_of c.args.program.now) c.args.s.now c.redefine.new.t
    (subst (λ s. IsRedefined (definitions_but c.args.names.now (program_of c.args.program.now)) s c.redefine.new.t)
    c.in_ok-t.ensures.value
    (subst (λ p. IsRedefined p c.in_ok-t.t c.redefine.new.t) c.in_ok-definitions.ensures.is
    c.in_ok-redefine.ensures.redefined))
