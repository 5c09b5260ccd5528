-- What it is to complete a structure: the defined predicates that aren't named get the values of their
-- definitions.
use Rattle.std.specs.Prelude.{ℕ, ◌≡◌, ◌||◌, Bool, IsTrue, IsFalse, List, map}
use Rattle.tv_model.specs.Form.{Form}
use Rattle.tv_model.specs.Program.{ProgramForm, PredForm, EachPred, KDefined, is_core_kind}
use Rattle.tv_model.specs.Valid.{IsValid}
use Rattle.tv_structure_form.specs.TableForm.{AreIndividuals}
use Rattle.tv_structure_form.specs.StructureForm.{StructureForm, IsStructure, structure_of, arities_of}
use Rattle.tv_structure_form.specs.StructureForm.{value_at}
use Rattle.tv_tree.specs.Names.{is_among}
use Rattle.tv_update.specs.Rows.{IsLike}
use Rattle.tv_update_laws.specs.Applied.{defined_value}

-- the predicate is core, or among those that are named
abbrev pub is_settled : (names : List (List ℕ)) → PredForm → Bool
is_settled names d = is_core_kind d.kind || is_among names d.name

-- t is s, in which each defined predicate that isn't named has the values of its definition in t itself
pub record Completes (p : ProgramForm) (names : List (List ℕ)) (s t : StructureForm) : Type 0 where
  pub like : IsLike s t
  pub settled : EachPred p.preds (λ q d. IsTrue (is_settled names d) → (tuple : List ℕ)
      → value_at t q tuple ≡ value_at s q tuple)
  pub missing : EachPred p.preds (λ q d. IsFalse (is_settled names d) → (vars : List ℕ) (body : Form)
      → d.kind ≡ KDefined vars body → (tuple : List ℕ) → AreIndividuals s.size tuple
      → value_at t q tuple ≡ defined_value (structure_of t) vars body tuple)

-- definitions rest on each other without cycles, so there is one such structure at most
abbrev pub CompletionsAreOne : Type 0
CompletionsAreOne =
    (p : ProgramForm) → IsValid p → (names : List (List ℕ)) (s t u : StructureForm)
    → arities_of s ≡ map (λ d. d.arity) p.preds → IsStructure t → IsStructure u → Completes p names s t
    → Completes p names s u → t ≡ u
