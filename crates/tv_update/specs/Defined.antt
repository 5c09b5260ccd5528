-- Definitions, evaluated one after the other.
use Rattle.std.specs.Prelude.{ℕ, ◌≡◌, ◌≢◌, List, Contains}
use Rattle.tv_model.specs.Form.{Form}
use Rattle.tv_model.specs.Program.{ProgramForm, KDefined}
use Rattle.tv_structure_form.specs.TableForm.{AreIndividuals}
use Rattle.tv_structure_form.specs.StructureForm.{StructureForm, structure_of, value_at}
use Rattle.tv_update_laws.specs.Applied.{defined_value, kind_at}
use Rattle.tv_update.specs.Rows.{IsLike}

-- t is s, in which the predicate has the values of its definition in s, if it has one
pub record IsEvaluated (p : ProgramForm) (pred : ℕ) (s t : StructureForm) : Type 0 where
  pub like : IsLike s t
  pub others : (q : ℕ) (tuple : List ℕ) → q ≢ pred → value_at t q tuple ≡ value_at s q tuple
  pub values : (vars : List ℕ) (body : Form) → kind_at p pred ≡ KDefined vars body
      → (tuple : List ℕ) → AreIndividuals s.size tuple
      → value_at t pred tuple ≡ defined_value (structure_of s) vars body tuple

-- t is s, in which these predicates have the values of their definitions in t itself
pub record AreEvaluated (p : ProgramForm) (preds : List ℕ) (s t : StructureForm) : Type 0 where
  pub like : IsLike s t
  pub others : (q : ℕ) (tuple : List ℕ) → ¬ Contains preds q → value_at t q tuple ≡ value_at s q tuple
  pub values : (q : ℕ) → Contains preds q → (vars : List ℕ) (body : Form) → kind_at p q ≡ KDefined vars body
      → (tuple : List ℕ) → AreIndividuals s.size tuple
      → value_at t q tuple ≡ defined_value (structure_of t) vars body tuple
