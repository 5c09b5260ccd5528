use Rattle.std.specs.Borrow.{Bor}
use Rattle.tv_model.specs.declared.formula.Formula.{Formula}
use Rattle.tv_model.specs.Form.{form_of}
use Rattle.tv_rules.specs.EntryForms.{forms_of}
use Rattle.tv_rules.proofs.MovedLaws.{conjuncts-next}
use Rattle.tv_rules.proofs.NotingLaws.{mapped-at}
use Rattle.tv_rules.proofs.moved.note_conjuncts.Goals as goal

pub loop-k-preserved : goal.loop-k-preserved
loop-k-preserved c =
    conjuncts-next c.loop-k.k c.args.rule (forms_of c.args.list.now) (form_of c.index-list-k.result.now) c.args.occurrences.now c.loop-k.occurrences
    c.note_moves.new.self
    (mapped-at (λ (f : Bor Formula). form_of f.now) c.args.list.now c.loop-k.k c.index-list-k.result c.loop-k-test.true c.index-list-k.is)
    c.loop-k.invariant c.in_ok-note_moves.ensures
