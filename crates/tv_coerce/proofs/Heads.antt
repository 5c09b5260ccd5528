-- What the head of a rule needs.
use Rattle.std.proofs.Common.{ℕ, ◌≡◌, ◌≢◌, ◌<◌, ◌⊎◌, inl, inr, Bool, true, false, true≢false, List, [], ◌∷◌}
use Rattle.std.proofs.Common.{map, Option, Some, None, refl, sym, ap, subst, ◌∙◌}
use Rattle.std.specs.Prelude.{All, Contains, IsSomeAnd, unwrap_or}
use Rattle.tv_kleene.specs.declared.K3.{K3}
use Rattle.tv_kleene.specs.declared.K3.TheVariants.{Half, Yes}
use Rattle.tv_kleene.specs.Kleene.{LiesUnder}
use Rattle.tv_model.specs.declared.formula.PredId.{PredId}
use Rattle.tv_model.specs.Form.{FAtom, FSame}
use Rattle.tv_model.specs.Program.{HAtom, HSame}
use Rattle.tv_model.specs.Rules.{signed_form}
use Rattle.tv_model.specs.Truth.{Assignment}
use Rattle.tv_model.proofs.Lists.{Contains-here, Contains-there}
use Rattle.tv_embedding_laws.specs.LogicalStructure.{LogicalStructure}
use Rattle.tv_embedding_laws.specs.Embedding.{IsBelow, IsBelowByValues}
use Rattle.tv_embedding_laws.proofs.EmbeddingLaws.{IsBelow-values}
use Rattle.tv_eval_laws.specs.Value.{value}
use Rattle.tv_stable_laws.specs.Stable.{IsHeadMet}
use Rattle.tv_stable_laws.proofs.Heads.{wanted, wanted-definite, signed-wanted, signed-half, met-value}
use Rattle.tv_stable_laws.proofs.Heads.{same-no, same-half}
use Rattle.tv_eval.specs.AssignmentForm.{IsAssigned, assignment_of, individual_for}
use Rattle.tv_structure_form.specs.StructureForm.{StructureForm, structure_of, summary_at, value_at}
use Rattle.tv_structure_form.specs.TableForm.{AreIndividuals}
use Rattle.tv_struct.specs.declared.table.Tuple.{Tuple}
use Rattle.tv_structure_form.proofs.Library.{All-individuals, Contains-range}
use Rattle.tv_coerce.specs.Touched.{IsChangeOf}
use Rattle.tv_coerce.specs.Trying.{IsOnSummary}
use Rattle.tv_coerce.specs.declared.change.Change.TheVariants.{Value}

pub placed : (size : ℕ) (place : Option ℕ) → IsSomeAnd place (λ u. u < size) → unwrap_or place 0 < size
placed size (Some u) within = within
placed size None within = absurd within

-- variables that stand for individuals make tuples of these
pub placed-tuple : (size : ℕ) (places : List (Option ℕ)) (vars : List ℕ) → ((v : ℕ) → Contains vars v → IsAssigned size places v)
    → AreIndividuals size (map (assignment_of places) vars)
placed-tuple size places [] each = tt
placed-tuple size places (v ∷ vars) each =
    (placed size (individual_for places v) (each v (Contains-here v vars)), placed-tuple size places vars (λ w has. each w (Contains-there v w vars has)))

module _ (s : StructureForm) (u : LogicalStructure) (below : IsBelow u (structure_of s)) where
  by : IsBelowByValues u (structure_of s)
  by = (IsBelow-values u (structure_of s)).0 below

  pub under : (pred : ℕ) (tuple : List ℕ) → AreIndividuals s.size tuple → LiesUnder (u.value pred tuple) (value_at s pred tuple)
  under pred tuple all = by.values pred tuple (subst (λ us. All (Contains us) tuple) (sym by.individuals) (All-individuals s.size tuple all))

-- an atom that has the wanted value is met
pub atom_met : (s : StructureForm) (a : Assignment) (flag : Bool) (pred : ℕ) (vars : List ℕ)
    → value_at s pred (map a vars) ≡ wanted flag → IsHeadMet (structure_of s) a (HAtom flag pred vars)
atom_met s a flag pred vars e = inl ((signed-wanted flag (structure_of s) a (FAtom pred vars)).1 e)

-- one that has the other value can't be
pub atom_never : (s : StructureForm) (a : Assignment) (flag : Bool) (pred : ℕ) (vars : List ℕ)
    → AreIndividuals s.size (map a vars) → value_at s pred (map a vars) ≢ wanted flag → value_at s pred (map a vars) ≢ Half
    → (u : LogicalStructure) → IsBelow u (structure_of s) → ¬ IsHeadMet u a (HAtom flag pred vars)
atom_never s a flag pred vars all other known u below met =
    at (under s u below pred (map a vars) all) (met-value u a (HAtom flag pred vars) met)
  where
    at : LiesUnder (u.value pred (map a vars)) (value_at s pred (map a vars))
        → (value u a (signed_form flag (FAtom pred vars)) ≡ Yes) ⊎ (value u a (signed_form flag (FAtom pred vars)) ≡ Half) → ⊥
    at (inr half) m = known half
    at (inl same) (inl y) = other (sym same ∙ (signed-wanted flag u a (FAtom pred vars)).0 y)
    at (inl same) (inr h) = known (sym same ∙ signed-half flag u a (FAtom pred vars) h)

-- on a summary it may stay unknown
pub atom_half : (s : StructureForm) (a : Assignment) (flag : Bool) (pred : ℕ) (vars : List ℕ)
    → value_at s pred (map a vars) ≡ Half → IsOnSummary s a vars → IsHeadMet (structure_of s) a (HAtom flag pred vars)
atom_half s a flag pred vars half (v, twice, on) = inr (record {
  var = v;
  twice = twice;
  summary = on;
  half = halved flag;
})
  where
    halved : (b : Bool) → value (structure_of s) a (signed_form b (FAtom pred vars)) ≡ Half
    halved true = half
    halved false = rw half refl

-- elsewhere each structure below has the wanted value in which it is met
pub atom_put : (s : StructureForm) (a : Assignment) (flag : Bool) (pred : ℕ) (vars : List ℕ)
    → AreIndividuals s.size (map a vars) → ¬ IsOnSummary s a vars
    → (u : LogicalStructure) → IsBelow u (structure_of s) → IsHeadMet u a (HAtom flag pred vars) → u.value pred (map a vars) ≡ wanted flag
atom_put s a flag pred vars all apart u below (inl y) = (signed-wanted flag u a (FAtom pred vars)).0 y
atom_put s a flag pred vars all apart u below (inr may) = absurd (apart (may.var, may.twice, on))
  where
    member : AreIndividuals s.size (a may.var ∷ a may.var ∷ [])
    member = subst (AreIndividuals s.size) (ap (map a) may.twice) all

    on : summary_at s (a may.var) ≡ true
    on = (by s u below).summaries (a may.var) (subst (λ us. Contains us (a may.var)) (sym (by s u below).individuals) (Contains-range s.size (a may.var) member.0)) may.summary

-- and that is a change which the head may ask for
pub change_of_atom : (flag : Bool) (p : PredId) (vars : List ℕ) (tuple : Tuple) (k : K3) → k ≡ wanted flag
    → IsChangeOf (HAtom flag p.0 vars) (Value p tuple k)
change_of_atom true p vars tuple k is = (refl, is)
change_of_atom false p vars tuple k is = (refl, is)

-- ---- equalities

-- two variables on one individual can't differ
pub same_never : (a : Assignment) (v w : ℕ) → a v ≡ a w → v ≢ w
    → (u : LogicalStructure) → ¬ IsHeadMet u a (HSame false v w)
same_never a v w same differ u (inl y) = same-no u (a v) (a w) ((signed-wanted false u a (FSame v w)).0 y) same
same_never a v w same differ u (inr may) = differ (may.twice.0 ∙ sym may.twice.1)

pub wanted_is_known : (flag : Bool) → wanted flag ≢ Half
wanted_is_known = wanted-definite

-- and on one that is no summary they don't
pub same-plain : (s : StructureForm) (a : Assignment) (v w : ℕ) → a v < s.size → a v ≡ a w → summary_at s (a v) ≡ false
    → (u : LogicalStructure) → IsBelow u (structure_of s) → ¬ IsHeadMet u a (HSame false v w)
same-plain s a v w within same plain u below (inl y) = same-no u (a v) (a w) ((signed-wanted false u a (FSame v w)).0 y) same
same-plain s a v w within same plain u below (inr may) =
    let on : u.is_summary (a v) ≡ true = same-half u (a v) (a w) (signed-half false u a (FSame v w) may.half)
    in true≢false (sym ((by s u below).summaries (a v) (subst (λ us. Contains us (a v)) (sym (by s u below).individuals) (Contains-range s.size (a v) within)) on) ∙ plain)
