-- What a structure coerces to is one, and a stable structure coerces to itself.
use Rattle.std.proofs.Common.{◌≡◌, ◌∙◌, Bool, true, false, List, length, Option, Some, None, All, Contains}
use Rattle.std.proofs.Common.{IsTrue, ⊎_elim, refl, sym, ap, subst}
use Rattle.std.proofs.lemmas.List.FromFn.{length-range_with_len}
use Rattle.std.specs.List.{range_with_len}
use Rattle.tv_kleene.specs.declared.K3.{K3}
use Rattle.tv_kleene.specs.Kleene.{LiesUnder}
use Rattle.tv_model.specs.Program.{RuleForm}
use Rattle.tv_embedding_laws.specs.Embedding.{IsBelow, IsBelowByValues}
use Rattle.tv_embedding_laws.specs.LogicalStructure.{LogicalStructure}
use Rattle.tv_embedding_laws.proofs.EmbeddingLaws.{EmbedsOn-id, IsBelow-values}
use Rattle.tv_stable_laws.specs.Stable.{IsStable}
use Rattle.tv_structure_form.specs.StructureForm.{StructureForm, IsStructure, structure_of, arities_of}
use Rattle.tv_structure_form.specs.StructureForm.{summary_at}
use Rattle.tv_structure_form.proofs.Library.{Contains-range, All-individuals}
use Rattle.tv_structure_form.proofs.StructureLaws.{same_structure}
use Rattle.tv_coerce.specs.Coerced.{CoercesTo}
use Rattle.tv_coerce.specs.Laws.{CoercingIsDetermined}

same_value : (x y : K3) → LiesUnder x y → LiesUnder y x → x ≡ y
same_value x y down up = ⊎_elim (λ e. e) (λ half. ⊎_elim (λ e. sym e) (λ other. other ∙ sym half) up) down

same_flag : (a b : Bool) → (IsTrue a → IsTrue b) → (IsTrue b → IsTrue a) → a ≡ b
same_flag false false to from = refl
same_flag false true to from = absurd (cc (from refl))
same_flag true false to from = absurd (cc (to refl))
same_flag true true to from = refl

-- structures that lie below one another are equal
pub both_below : (t u : StructureForm) → IsStructure t → IsStructure u → arities_of t ≡ arities_of u → t.fresh ≡ u.fresh
    → IsBelow (structure_of t) (structure_of u) → IsBelow (structure_of u) (structure_of t) → t ≡ u
both_below t u is_t is_u over mark down up =
    let below : IsBelowByValues (structure_of t) (structure_of u) = (IsBelow-values (structure_of t) (structure_of u)).0 down
    in let above : IsBelowByValues (structure_of u) (structure_of t) = (IsBelow-values (structure_of u) (structure_of t)).0 up
    in let size : t.size ≡ u.size
    = sym (length-range_with_len 0 t.size) ∙ ap length below.individuals ∙ length-range_with_len 0 u.size
    in same_structure t u is_t is_u size over
    (λ pred tuple at.
    let all : All (Contains (range_with_len 0 t.size)) tuple = All-individuals t.size tuple at.individuals
    in same_value _ _ (below.values pred tuple all)
    (above.values pred tuple (subst (λ us. All (Contains us) tuple) below.individuals all)))
    (λ x lt.
    let at : Contains (range_with_len 0 t.size) x = Contains-range t.size x lt
    in same_flag (summary_at t x) (summary_at u x) (below.summaries x at)
    (above.summaries x (subst (λ us. Contains us x) below.individuals at)))
    mark

itself_below : (s : LogicalStructure) → IsBelow s s
itself_below s = (refl, EmbedsOn-id _ s)

one : (rules : List RuleForm) (s : StructureForm) (found other : Option StructureForm)
    → CoercesTo rules s found → CoercesTo rules s other → found ≡ other
one rules s None None to same = refl
one rules s None (Some u) to same = absurd (to (structure_of u) same.greatest.below same.greatest.stable)
one rules s (Some t) None to same = absurd (same (structure_of t) to.greatest.below to.greatest.stable)
one rules s (Some t) (Some u) to same =
    ap (λ r. Some r)
    (both_below t u to.is same.is (to.over ∙ sym same.over) (to.mark ∙ sym same.mark)
    (same.greatest.greatest (structure_of t) to.greatest.below to.greatest.stable)
    (to.greatest.greatest (structure_of u) same.greatest.below same.greatest.stable))

pub again : (rules : List RuleForm) (s : StructureForm) → IsStable rules (structure_of s) → IsStructure s
    → (found : Option StructureForm) → CoercesTo rules s found → found ≡ Some s
again rules s stable is None to = absurd (to (structure_of s) (itself_below (structure_of s)) stable)
again rules s stable is (Some t) to =
    ap (λ r. Some r)
    (both_below t s to.is is to.over to.mark to.greatest.below
    (to.greatest.greatest (structure_of s) (itself_below (structure_of s)) stable))

pub coercing_is_determined : CoercingIsDetermined
coercing_is_determined rules s = record {
  one = one rules s;
  again = again rules s;
}
