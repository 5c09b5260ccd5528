-- Values of freely updated predicates.
use Rattle.std.specs.Prelude.{ℕ, ◌≡◌, ◌≢◌, ◌<◌, List, length, Option, Some, None, Contains}
use Rattle.std.specs.List.{AllByRecursion}
use Rattle.tv_kleene.specs.declared.K3.TheVariants.{Half}
use Rattle.tv_model.specs.Program.{UpdateForm, ProgramForm, CFree}
use Rattle.tv_structure_form.specs.TableForm.{AreIndividuals}
use Rattle.tv_structure_form.specs.StructureForm.{StructureForm, IsStructure, arities_of, value_at}
use Rattle.tv_update.specs.Redefined.{IsRedefined}

-- the update leaves its predicate free
abbrev pub IsFree : UpdateForm → Type 0
IsFree w = w.change ≡ CFree

-- no value of the predicate is unknown
abbrev pub IsDefinite : StructureForm → (q : ℕ) → Type 0
IsDefinite s q = (tuple : List ℕ) → value_at s q tuple ≢ Half

-- there is a structure of that size in which the predicate has no unknown value
abbrev pub GivesValues : (size : ℕ) → Option StructureForm → (q : ℕ) → Type 0
GivesValues size None q = ⊥
GivesValues size (Some values) q = (values.size ≡ size) × IsDefinite values q

-- so it is for each predicate that the updates leave free
abbrev pub GivesAll : (size : ℕ) → Option StructureForm → List UpdateForm → Type 0
GivesAll size values updates = AllByRecursion (λ w. IsFree w → GivesValues size values w.pred) updates

-- both have the same individuals, summaries, predicates and mark
pub record IsShaped (s t : StructureForm) : Type 0 where
  pub size : t.size ≡ s.size
  pub summaries : t.summaries ≡ s.summaries
  pub over : arities_of t ≡ arities_of s
  pub fresh : t.fresh ≡ s.fresh

-- t is s with the values of the other structure for the predicate
pub record HasCopied (values s t : StructureForm) (q : ℕ) : Type 0 where
  pub shaped : IsShaped s t
  pub copied : (tuple : List ℕ) → AreIndividuals s.size tuple → value_at t q tuple ≡ value_at values q tuple
  pub others : (r : ℕ) (tuple : List ℕ) → r ≢ q → value_at t r tuple ≡ value_at s r tuple

-- no update of the list leaves the predicate free
abbrev pub IsntFree : List UpdateForm → (q : ℕ) → Type 0
IsntFree updates q = (w : UpdateForm) → Contains updates w → IsFree w → w.pred ≢ q

-- t is s with the values of the other structure for each predicate that the updates leave free
pub record HasFree (values : StructureForm) (updates : List UpdateForm) (s t : StructureForm) : Type 0 where
  pub shaped : IsShaped s t
  pub free : (w : UpdateForm) → Contains updates w → IsFree w → (tuple : List ℕ) → AreIndividuals s.size tuple
      → value_at t w.pred tuple ≡ value_at values w.pred tuple
  pub others : (q : ℕ) (tuple : List ℕ) → IsntFree updates q → value_at t q tuple ≡ value_at s q tuple

-- the same where there may be no such structure, as there need be none where nothing is left free
abbrev pub HasFreeIn : Option StructureForm → List UpdateForm → (s t : StructureForm) → Type 0
HasFreeIn None updates s t = t ≡ s
HasFreeIn (Some values) updates s t = HasFree values updates s t

-- t is the given structure with the values for what is left free, and with each definition evaluated
pub record IsFinished (p : ProgramForm) (updates : List UpdateForm) (values : Option StructureForm)
    (given t : StructureForm)
    : Type 0 where
  pub between : StructureForm
  pub has_free : HasFreeIn values updates given between
  pub redefined : IsRedefined p between t
  pub is : IsStructure t

-- the structure can give values for the predicate of s
pub record CanCopy (values s : StructureForm) (q : ℕ) : Type 0 where
  pub over : arities_of values ≡ arities_of s
  pub size : values.size ≡ s.size
  pub pred : q < length (arities_of s)
