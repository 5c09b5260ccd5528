-- Which individuals may be picked, as a row of the precondition tells.
use Rattle.std.proofs.Common.{ℕ, ◌≡◌, ◌≢◌, ◌∙◌, ◌<◌, ◌⊎◌, false, true, List, [], ◌∷◌, length, map, replicate}
use Rattle.std.proofs.Common.{Option, None, Some, ⊎_elim, refl, sym, ap, subst, arith, get_or, slice_get}
use Rattle.std.proofs.Common.{Contains}
use Rattle.std.specs.List.{range_with_len}
use Rattle.std.proofs.lemmas.List.{get_or-replicate, length-replicate}
use Rattle.std.proofs.lemmas.List.FromFn.{fill_by_all, get_or-map-range_with_len, length-map-range_with_len}
use Rattle.tv_kleene.specs.declared.K3.{K3}
use Rattle.tv_kleene.specs.declared.K3.TheVariants.{No, Yes}
use Rattle.tv_model.specs.Form.{Form, FExists}
use Rattle.tv_model.specs.Program.{ProgramForm, ActionForm}
use Rattle.tv_model.specs.Truth.{Assignment, put}
use Rattle.tv_model.specs.Valid.{IsValid, IsFormulaOver, IsVariable, free_occurrences}
use Rattle.tv_model.proofs.Lists.{Contains-cases, Contains-none}
use Rattle.tv_model.proofs.Parts.{first-occurs}
use Rattle.tv_update_laws.specs.Picks.{isnt_no, precondition_value}
use Rattle.tv_update_laws.proofs.Preconditions.{free-occurs}
use Rattle.tv_eval.specs.Along.{values_along}
use Rattle.tv_eval.specs.AssignmentForm.{IsAssigned}
use Rattle.tv_eval.specs.Formulas.{AreAssigned}
use Rattle.tv_structure_form.specs.StructureForm.{StructureForm, structure_of, arities_of}
use Rattle.tv_update_laws.proofs.Picks.{isnt-no}
use Rattle.tv_step_laws.specs.Shaped.{IsShaped}
use Rattle.tv_step.specs.Allowed.{precondition_values}
use Rattle.tv_step.specs.Steps.{passes}
use Rattle.tv_step.proofs.Picking.{precondition-is}

-- ---- rows of the precondition

pub row-of-none : (action : ActionForm) (s : StructureForm) (a : Assignment) (v : ℕ) (row : List K3)
    → action.pre ≡ None → row ≡ replicate s.size Yes → row ≡ precondition_values action s a v
row-of-none action s a v row none is =
    is
    ∙ fill_by_all (λ u. Yes) (replicate s.size Yes) s.size No (length-replicate s.size Yes)
    (λ k lt. get_or-replicate s.size k Yes No lt)
    ∙ ap (λ pre. map (λ u. precondition_value (structure_of s) (put a v u) pre) (range_with_len 0 s.size))
    (sym none)

pub row-of-some : (action : ActionForm) (s : StructureForm) (a : Assignment) (v : ℕ) (row : List K3) (f : Form)
    → action.pre ≡ Some f → row ≡ values_along s a v f → row ≡ precondition_values action s a v
row-of-some action s a v row f some is =
    is
    ∙ ap (λ pre. map (λ u. precondition_value (structure_of s) (put a v u) pre) (range_with_len 0 s.size))
    (sym some)

-- the precondition has its place among formulas that can be valued
pub precondition-over : (p : ProgramForm) → IsValid p → (n : ℕ) (action : ActionForm)
    → slice_get p.actions n ≡ Some action
    → (f : Form) → action.pre ≡ Some f → (s : StructureForm) → IsShaped p s → (v : ℕ) → IsVariable v
    → IsFormulaOver (arities_of s) (FExists v f)
precondition-over p valid n action there f is s shaped v variable = (
  variable,
  subst (λ arities. IsFormulaOver arities f) (sym shaped.over)
      (precondition-is p valid n action there f is).0.0,
)

-- all its variables but v stand for individuals
pub precondition-assigned-but : (p : ProgramForm) → IsValid p → (n : ℕ) (action : ActionForm)
    → slice_get p.actions n ≡ Some action
    → (f : Form) → action.pre ≡ Some f → (size : ℕ) (places : List (Option ℕ)) (v : ℕ)
    → ((w : ℕ) → Contains action.picks w → Contains (v ∷ []) w ⊎ IsAssigned size places w)
    → AreAssigned size places (FExists v f)
precondition-assigned-but p valid n action there f is size places v picked w (other, free) =
    ⊎_elim
    (λ at. absurd (⊎_elim (λ same. other (sym same)) (λ none. Contains-none w none) (Contains-cases v w [] at)))
    (λ assigned. assigned)
    (picked w (subst (λ vars. Contains vars w) (sym (precondition-is p valid n action there f is).1)
    (first-occurs (free_occurrences f) w (free-occurs f w free))))

-- ---- one row tells which individuals pass

pub row-length : (action : ActionForm) (s : StructureForm) (a : Assignment) (v : ℕ) (row : List K3)
    → row ≡ precondition_values action s a v → length row ≡ s.size
row-length action s a v row is =
    ap length is
    ∙ length-map-range_with_len (λ u. precondition_value (structure_of s) (put a v u) action.pre) 0 s.size

row-tells : (action : ActionForm) (s : StructureForm) (a b : Assignment) (v u : ℕ) (row : List K3) (k : K3)
    → row ≡ precondition_values action s a v → u < s.size → b ≡ put a v u → k ≡ get_or row u No
    → k ≡ precondition_value (structure_of s) b action.pre
row-tells action s a b v u row k is lt same at =
    at ∙ ap (λ r. get_or r u No) is
    ∙ get_or-map-range_with_len (λ w. precondition_value (structure_of s) (put a v w) action.pre) 0 s.size u u No
    lt (omega arith)
    ∙ ap (λ c. precondition_value (structure_of s) c action.pre) (sym same)

no-fails : (action : ActionForm) (s : StructureForm) (a : Assignment) (k : K3)
    → k ≡ precondition_value (structure_of s) a action.pre → k ≡ No → passes action s a ≡ false
no-fails action s a k is none = ap isnt_no (sym is ∙ none)

pub row-fails : (action : ActionForm) (s : StructureForm) (a : Assignment) (v u : ℕ) (row : List K3)
    → row ≡ precondition_values action s a v → u < s.size → get_or row u No ≡ No
    → passes action s (put a v u) ≡ false
row-fails action s a v u row is lt none =
    no-fails action s (put a v u) (get_or row u No)
    (row-tells action s a (put a v u) v u row (get_or row u No) is lt refl refl) none

pub row-passes : (action : ActionForm) (s : StructureForm) (a b : Assignment) (v u : ℕ) (row : List K3)
    → row ≡ precondition_values action s a v → u < s.size → b ≡ put a v u → get_or row u No ≢ No
    → passes action s b ≡ true
row-passes action s a b v u row is lt same ne =
    ap isnt_no (sym (row-tells action s a b v u row (get_or row u No) is lt same refl)) ∙ isnt-no (get_or row u No) ne
