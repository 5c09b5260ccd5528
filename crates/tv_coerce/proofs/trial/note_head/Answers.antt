use Rattle.std.proofs.Common.{inr, subst}
use Rattle.tv_eval.specs.AssignmentForm.{assignment_of}
use Rattle.tv_coerce.specs.Trying.{IsNeed, rule_at}
use Rattle.tv_coerce.specs.declared.change.Need.TheVariants.{Put}
use Rattle.tv_coerce.proofs.Walking.{rule-found}
use Rattle.tv_coerce.proofs.trial.note_head.Goals as goal

pub returns-in_ok-add-in-Put : goal.returns-in_ok-add-in-Put
returns-in_ok-add-in-Put c =
    let closed = c.args.trial.now.closed.now
    in let same = c.head.ensures (rule_at closed c.args.number) (rule-found closed c.args.number c.requires.number)
    in record {
      noted = inr (
        c.in-Put.change,
        c.in_ok-add-in-Put.ensures,
        subst (λ h. IsNeed c.args.trial.now.structure.now (assignment_of c.args.a.now) h (Put c.in-Put.change)) same c.in-Put.ensures,
      );
    }
