use Rattle.std.proofs.Common.{◌∙◌, refl, List, set, ap, sym}
use Rattle.std.proofs.lemmas.List.{set-get_or}
use Rattle.tv_structure_form.specs.TableForm.{PlaneForm, no_plane}
use Rattle.tv_struct.proofs.planes.Planes.draw_over.Goals as goal

pub draw_plane-requires-clause-arity : goal.draw_plane-requires-clause-arity
draw_plane-requires-clause-arity c = ap (λ (p : PlaneForm). p.arity) c.requires.blank

pub returns-then-is_nowhere-clause-value : goal.returns-then-is_nowhere-clause-value
returns-then-is_nowhere-clause-value c =
    sym (ap (λ (planes : List PlaneForm). record c.args.self.now { planes = planes })
    (ap (set c.args.self.now.planes c.args.p.0) (c.if-is_nowhere.ensures refl c.args.drawing.now.origins ∙ sym c.requires.blank)
    ∙ set-get_or c.args.self.now.planes c.args.p.0 no_plane))
