use Rattle.std.proofs.Common.{Option, List, subst}
use Rattle.std.proofs.lemmas.Result.{IfOk-weaker}
use Rattle.tv_model.specs.Program.{program_of}
use Rattle.tv_structure_form.specs.StructureForm.{StructureForm}
use Rattle.tv_losses_unmet.specs.Unmet.{IsFirstOf, IsUnmetByEach}
use Rattle.tv_losses_unmet.specs.declared.claim.Claim.{Claim}
use Rattle.tv_losses_unmet.proofs.First.{found-of_one}
use Rattle.tv_losses_unmet.proofs.declared.Declared.first_unmet.Goals as goal

pub returns-clause-found : goal.returns-clause-found
returns-clause-found c =
    IfOk-weaker c.first_dropping.result _ _
    (λ (found : Option Claim) first. found-of_one (program_of c.args.self.now) c.args.s.now found
    (subst (λ (xs : List StructureForm). IsFirstOf (IsUnmetByEach (program_of c.args.self.now) xs) found)
    c.from_ref.ensures.value first))
    c.first_dropping.ensures.found
