-- All definitions, evaluated anew.
use Rattle.std.specs.Prelude.{ℕ, ◌≡◌, ◌↔◌, true, List, [], None, Contains}
use Rattle.tv_model.specs.Form.{Form}
use Rattle.tv_model.specs.Program.{ProgramForm, KCore, KDefined, ActionForm}
use Rattle.tv_structure_form.specs.TableForm.{AreIndividuals}
use Rattle.tv_structure_form.specs.StructureForm.{StructureForm, structure_of, value_at}
use Rattle.tv_update_laws.specs.Applied.{defined_value, kind_at}
use Rattle.tv_update.specs.Plan.{IsDefined, IsOrdered}
use Rattle.tv_update.specs.Rows.{IsLike}

-- the action that adds an individual and does nothing else
abbrev pub adding_action : ActionForm
adding_action = record {
  pre = None;
  picks = [];
  focus = [];
  messages = [];
  fresh = true;
  retain = None;
  updates = [];
}

-- all predicates that have a definition, in an order in which these can be evaluated
pub record AreAllDefined (p : ProgramForm) (order : List ℕ) : Type 0 where
  pub members : (q : ℕ) → Contains order q ↔ IsDefined (kind_at p q)
  pub ordered : IsOrdered p order

-- t is s, in which each predicate that has a definition has its values in t itself
pub record IsRedefined (p : ProgramForm) (s t : StructureForm) : Type 0 where
  pub like : IsLike s t
  pub core : (q : ℕ) (tuple : List ℕ) → kind_at p q ≡ KCore → value_at t q tuple ≡ value_at s q tuple
  pub defined : (q : ℕ) (vars : List ℕ) (body : Form) → kind_at p q ≡ KDefined vars body
      → (tuple : List ℕ) → AreIndividuals s.size tuple
      → value_at t q tuple ≡ defined_value (structure_of t) vars body tuple
