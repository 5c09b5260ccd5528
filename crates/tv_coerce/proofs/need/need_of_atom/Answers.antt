use Rattle.std.proofs.Common.{◌≡◌, map, sym, ap, ◌∙◌}
use Rattle.tv_model.specs.Form.{vars_of}
use Rattle.tv_eval.specs.AssignmentForm.{assignment_of}
use Rattle.tv_structure_form.specs.StructureForm.{value_at}
use Rattle.tv_coerce.proofs.Heads.{atom_never, placed-tuple}
use Rattle.tv_coerce.proofs.need.need_of_atom.Goals as goal

pub returns-then-not-is_same : goal.returns-then-not-is_same
returns-then-not-is_same c =
    let vars = vars_of c.args.terms
    in let read : c.get-k.result ≡ value_at c.args.s.now c.args.p.0 (map (assignment_of c.args.a.now) vars)
    = c.get-k.ensures ∙ ap (value_at c.args.s.now c.args.p.0) c.tuple_at-t.ensures
    in atom_never c.args.s.now (assignment_of c.args.a.now) c.args.flag c.args.p.0 vars
    (placed-tuple c.args.s.now.size c.args.a.now vars c.requires.assigned)
    (λ e. c.if-is_same.ensures (read ∙ e ∙ sym c.wanted.ensures)) (λ e. c.if-not-is_same.ensures (read ∙ e))
