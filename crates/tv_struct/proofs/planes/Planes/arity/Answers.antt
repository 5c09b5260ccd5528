use Rattle.std.proofs.Common.{◌<◌, ◌∙◌, List, ℕ, length, Some, ap, subst, sym}
use Rattle.std.specs.Prelude.{slice_get}
use Rattle.std.proofs.lemmas.Option.{slice_get-get_or}
use Rattle.tv_struct.proofs.HeldLaws.{now_arities}
use Rattle.tv_struct.proofs.planes.Planes.arity.Goals as goal

pub arity-requires : goal.arity-requires
arity-requires c =
    let Listed : List ℕ → Type 0 = λ arities. c.args.p.0 < length arities
    in subst Listed (now_arities c.self.inside.layout c.self.inside.words.words c.args.self.now c.self.view_is) c.requires

pub returns-clause-value : goal.returns-clause-value
returns-clause-value c =
    let Listed : List ℕ → Type 0 = λ arities. c.args.p.0 < length arities
    in ap (λ (arities : List ℕ). slice_get arities c.args.p.0) (now_arities c.self.inside.layout c.self.inside.words.words c.args.self.now c.self.view_is)
    ∙ slice_get-get_or c.self.inside.layout.arities c.args.p.0 0
    (subst Listed (now_arities c.self.inside.layout c.self.inside.words.words c.args.self.now c.self.view_is) c.requires)
    ∙ ap Some (sym c.arity.ensures)
