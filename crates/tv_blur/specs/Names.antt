-- Names of individuals: what the abstraction predicates say of them.
use Rattle.std.specs.Prelude.{ℕ, ◌&&◌, ◌==◌, Bool, List, [], ◌∷◌, map}
use Rattle.std.specs.declared.cmp.Ordering.{Ordering}
use Rattle.std.specs.Cmp.{IsTotalOrder, nat_cmp_total, on_total}
use Rattle.std.specs.Cmp.Lexicographic.{slice_cmp, lists_total}
use Rattle.tv_kleene.specs.declared.K3.{K3}
use Rattle.tv_model.specs.declared.program.Pred.{Pred}
use Rattle.tv_model.specs.declared.program.Vocab.{Vocab}
use Rattle.tv_embedding_laws.specs.LogicalStructure.{LogicalStructure}
use Rattle.tv_row.specs.Bits.{rank, value_cmp}
use Rattle.tv_structure_form.specs.StructureForm.{kept_from}

-- the abstraction tells individuals apart by this predicate
abbrev pub is_abstraction : Pred → Bool
is_abstraction pred = pred.arity == 1 && pred.abs

-- the unary abstraction predicates, by number, in declaration order
abbrev pub abstraction_preds : Vocab → List ℕ
abstraction_preds vocab = kept_from 0 (map is_abstraction vocab.preds)

-- the name of an individual: its values of the predicates (the canonical name of Sagiv, Reps and Wilhelm
-- 2002, section 4.3, which here tells all three values apart)
abbrev pub canonical_name : (preds : List ℕ) → LogicalStructure → ℕ → List K3
canonical_name preds s u = map (λ pred. s.value pred (u ∷ [])) preds

-- names in lexicographic order, with No below Half below Yes
abbrev pub name_cmp : List K3 → List K3 → Ordering
name_cmp = slice_cmp value_cmp

-- the order of names is total
pub name_cmp_total : IsTotalOrder name_cmp
name_cmp_total = lists_total (on_total rank nat_cmp_total)
