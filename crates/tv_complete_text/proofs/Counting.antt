-- As many structures are meant as there are trees.
use Rattle.std.proofs.Common.{◌≡◌, ◌∙◌, ℕ, suc, List, [], ◌∷◌, length, Result, Ok, Err, refl, ap}
use Rattle.tv_lemmas.proofs.Options.{same_Ok, Ok-Err}
use Rattle.tv_model.specs.declared.program.Pred.{Pred}
use Rattle.tv_structure_form.specs.StructureForm.{StructureForm}
use Rattle.tv_tree.specs.Steps.{◌>>=◌}
use Rattle.tv_tvs.specs.Meaning.{struct_meant, structs_meant}
use Rattle.tv_tvs.specs.Tree.{StructTree}
use Rattle.tv_tvs.specs.declared.error.TvsError.{TvsError}

pub meant-count : (preds : List Pred) (trees : List StructTree) (ss : List StructureForm)
    → structs_meant preds trees ≡ Ok ss → length trees ≡ length ss
meant-count preds [] ss e = ap length (same_Ok [] ss e)
meant-count preds (t ∷ trees) ss e = by (meant-count preds trees) (struct_meant preds t) (structs_meant preds trees)
    refl e
  where
    by : ((more : List StructureForm) → structs_meant preds trees ≡ Ok more → length trees ≡ length more)
        → (r : Result StructureForm TvsError) (q : Result (List StructureForm) TvsError) → structs_meant preds trees ≡ q
        → (r >>= λ s. q >>= λ more. Ok (s ∷ more)) ≡ Ok ss → suc (length trees) ≡ length ss
    by rest (Ok s) (Ok more) same is = ap suc (rest more same) ∙ ap length (same_Ok (s ∷ more) ss is)
    by rest (Ok s) (Err x) same is = absurd cc
    by rest (Err x) q same is = absurd cc
