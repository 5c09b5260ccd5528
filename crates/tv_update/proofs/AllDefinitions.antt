-- All definitions, in the order of their plan.
use Rattle.std.proofs.Common.{ℕ, ◌≡◌, ◌<◌, List, length, map, refl, sym, subst, arith}
use Rattle.std.specs.List.{AllByRecursion}
use Rattle.std.proofs.lemmas.List.{length-map}
use Rattle.std.proofs.lemmas.Option.{slice_get_within}
use Rattle.tv_model.specs.declared.formula.PredId.{PredId}
use Rattle.tv_model.specs.declared.program.Program.{Program}
use Rattle.tv_model.specs.Program.{ProgramForm, KindForm, KCore, KDefined, pred_of, program_of}
use Rattle.tv_model.proofs.Lists.{Contains-map}
use Rattle.tv_structure_form.specs.StructureForm.{StructureForm}
use Rattle.tv_update_laws.specs.Applied.{kind_at}
use Rattle.tv_update_laws.proofs.Predicates.{defined-found}
use Rattle.tv_update.specs.Defined.{AreEvaluated}
use Rattle.tv_update.specs.Plan.{IsDefined}
use Rattle.tv_update.specs.Redefined.{AreAllDefined, IsRedefined}
use Rattle.tv_update.proofs.Applies.{each-by_recursion}

pub all-below : (program : Program) (order : List PredId) → AreAllDefined (program_of program) (map (λ p. p.0) order)
    → AllByRecursion (λ p. p.0 < length program.vocab.preds) order
all-below program order all =
    each-by_recursion (λ (x : PredId). x.0 < length program.vocab.preds) order (λ x at.
    let q : ℕ = x.0
    in omega (
      arith,
      below q (kind_at (program_of program) q) refl ((all.members q).0 (Contains-map (λ (y : PredId). y.0) x order at)),
      length-map program.vocab.preds pred_of,
    ))
  where
    below : (q : ℕ) (kind : KindForm) → kind_at (program_of program) q ≡ kind → IsDefined (kind_at (program_of program) q)
        → q < length (program_of program).preds
    below q KCore is defined = absurd (subst IsDefined is defined)
    below q (KDefined vars body) is defined =
        let found = defined-found (program_of program) q vars body is
        in slice_get_within (program_of program).preds q found.0 found.1

pub all-evaluated : (p : ProgramForm) (order : List ℕ) (s t : StructureForm) → AreAllDefined p order → AreEvaluated p order s t → IsRedefined p s t
all-evaluated p order s t all done = record {
  like = done.like;
  core = λ q tuple core. done.others q tuple (λ at. subst IsDefined core ((all.members q).0 at));
  defined = λ q vars body is tuple within. done.values q ((all.members q).1 (subst IsDefined (sym is) tt)) vars body is tuple within;
}
