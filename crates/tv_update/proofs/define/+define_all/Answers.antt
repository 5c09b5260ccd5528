use Rattle.std.proofs.Common.{get_or, refl}
use Rattle.std.proofs.lemmas.Result.{on_ok_weaker}
use Rattle.tv_model.specs.Program.{program_of}
use Rattle.tv_update.proofs.Defines.{first_evaluated}
use Rattle.tv_update.proofs.define.+define_all.Goals as goal

pub returns-in_ok-define-in-len1-up-clause-evaluated :
    goal.returns-in_ok-define-in-len1-up-clause-evaluated
returns-in_ok-define-in-len1-up-clause-evaluated t c =
    on_ok_weaker c.define_all.result
    (first_evaluated (program_of c.args.program.now) c.requires.valid c.args.order.now
    (get_or c.args.order.now 0 (record { 0 = 0 })) c.args.t.now c.define.new.t
    c.define_all.new.t c.in-len1-up.len_at_least refl c.requires.ordered
    c.in_ok-define-in-len1-up.ensures.evaluated)
    c.define_all.ensures.evaluated
