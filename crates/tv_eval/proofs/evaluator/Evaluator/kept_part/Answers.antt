use Rattle.std.proofs.Common.{sym, subst}
use Rattle.tv_model.specs.Form.{form_of}
use Rattle.tv_quantifiers.specs.Rows.{IsPart, IsSquare, part_at}
use Rattle.tv_eval.specs.Along.{IsWordOf, closed_values}
use Rattle.tv_eval.specs.Keeps.{HoldsClosures}
use Rattle.tv_eval.proofs.Keeping.{part_held}
use Rattle.tv_eval.proofs.evaluator.Evaluator.kept_part.Goals as goal

pub part-requires-clause-square : goal.part-requires-clause-square
part-requires-clause-square c =
    subst (λ n. IsSquare n c.in_ok-closed.closed.now) (sym c.size-size.ensures.size)
    (c.in_ok-closed.ensures.held c.self.inside.structure.now (λ v. 0)
    (subst (HoldsClosures c.self.inside.structure.now c.self.inside.kept) (sym c.as_slice.ensures.value)
    c.self.invariant.0)).square

pub returns-clause-exact : goal.returns-clause-exact
returns-clause-exact c = λ a.
    subst (λ e. IsWordOf e.structure.size c.args.chunk (part_at c.args.part (closed_values e.structure a
    c.args.edges.left.0 c.args.edges.right.0 (form_of c.args.edges.body.now))) c.part.result) c.self.view_is
    (part_held c.self.inside.structure.now a c.args.edges.left.0 c.args.edges.right.0
    (form_of c.args.edges.body.now) c.in_ok-closed.closed.now c.size-size.result c.args.chunk c.args.part
    c.part.result c.size-size.ensures.size
    (subst (λ e. IsPart e.structure.size c.args.part) (sym c.self.view_is) c.requires.part)
    (c.in_ok-closed.ensures.held c.self.inside.structure.now a
    (subst (HoldsClosures c.self.inside.structure.now c.self.inside.kept) (sym c.as_slice.ensures.value)
    c.self.invariant.0))
    c.part.ensures)
