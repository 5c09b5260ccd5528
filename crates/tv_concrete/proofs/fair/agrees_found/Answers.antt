-- Only the update that was found is asked.
use Rattle.std.proofs.Common.{All}
use Rattle.tv_model.specs.Program.{UpdateForm, update_of}
use Rattle.tv_concrete.specs.Steps.{AllowsIn}
use Rattle.tv_concrete.proofs.StepLemmas.{some-answer}
use Rattle.tv_concrete.proofs.fair.agrees_found.Goals as goal

pub returns-in-Some : goal.returns-in-Some
returns-in-Some c =
    let Q : UpdateForm → Type 0 = λ w. All (AllowsIn c.args.step.now c.args.q w) c.args.all.now
    in rw c.in-Some.is (some-answer Q (update_of c.in-Some.update.now) c.allows_at_all.result c.allows_at_all.ensures)
