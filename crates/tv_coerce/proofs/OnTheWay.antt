-- How coerce goes on, and why it ends.
use Rattle.std.proofs.Common.{ℕ, ◌≡◌, ◌<◌, ◌∙◌, Bool, true, false, List, length, None, Some, slice_get}
use Rattle.std.proofs.Common.{get_or, All, refl, sym, subst, inl, inr, ⊎_elim}
use Rattle.std.proofs.lemmas.Bool.{cases_eq}
use Rattle.std.proofs.lemmas.List.Elements.{All-contains}
use Rattle.std.proofs.lemmas.Option.{slice_get-get_or}
use Rattle.tv_model.specs.Form.{FZero}
use Rattle.tv_model.specs.Program.{HNever, RuleForm}
use Rattle.tv_model.proofs.Lists.{slice_get-contains}
use Rattle.tv_embedding_laws.specs.LogicalStructure.{LogicalStructure}
use Rattle.tv_embedding_laws.specs.Embedding.{IsBelow}
use Rattle.tv_embedding_laws.proofs.EmbeddingLaws.{EmbedsOn-id, EmbedsOn-compose}
use Rattle.tv_stable_laws.specs.Laws.{IsPlainRule}
use Rattle.tv_stable_laws.specs.Stable.{IsStableUnder, IsStable, HasNoStable}
use Rattle.tv_structure_form.specs.StructureForm.{StructureForm, IsStructure, structure_of}
use Rattle.tv_eval.specs.ScratchForm.{ScratchForm, HasScratchFor}
use Rattle.tv_coerce.specs.Attempts.{AreAsked, IsSharper, IsOnTheWay, IsEnd}
use Rattle.tv_coerce.specs.Coerced.{IsCoercedTable, CoercesTo}
use Rattle.tv_coerce.specs.Ready.{IsRuleOver, CanCoerce}
use Rattle.tv_coerce.specs.RuleSets.{HasAtLeast, HasMore, IsRuleThat, IsStableBut, SeesSome}
use Rattle.tv_coerce.specs.declared.noted.Ask.{Ask}

pub below-below : (r s t : LogicalStructure) → IsBelow r s → IsBelow s t → IsBelow r t
below-below r s t first second =
    (first.0 ∙ second.0, EmbedsOn-compose (λ pred. Unit {0}) (λ u. u) (λ u. u) r s t first.1 second.1)

-- a rule of that number
pub rule-at : (rules : List RuleForm) (n : ℕ) → n < length rules → (rule : RuleForm) × (slice_get rules n ≡ Some rule)
rule-at rules n below =
    let none : RuleForm = record { body = FZero; head = HNever }
    in (get_or rules n none, slice_get-get_or rules n none below)

pub stable-at : (rules : List RuleForm) (u : LogicalStructure) (n : ℕ) (rule : RuleForm) → slice_get rules n ≡ Some rule → IsStable rules u
    → IsStableUnder u rule
stable-at rules u n rule found stable = All-contains (IsStableUnder u) rules rule stable (slice_get-contains rules n rule found)

-- ---- the beginning

pub way-begins : (rules : List RuleForm) (waiting : List Bool) (s : StructureForm) → length waiting ≡ length rules → IsStructure s
    → IsStableBut rules waiting s → IsOnTheWay rules waiting s s
way-begins rules waiting s count is rest = record {
  count = count;
  kept = is;
  size = refl;
  arities = refl;
  mark = refl;
  below = (refl, EmbedsOn-id (λ pred. Unit {0}) (structure_of s));
  loses_none = λ u stable below. below;
  rest = rest;
}

-- ---- a step

pub ready-on : (rules : List RuleForm) (waiting : List Bool) (s t : StructureForm) (scratch : ScratchForm) → CanCoerce rules s scratch
    → IsOnTheWay rules waiting s t → CanCoerce rules t scratch
ready-on rules waiting s t scratch ready way = record {
  over = subst (λ ns. All (IsRuleOver ns) rules) (sym way.arities) ready.over;
  plain = ready.plain;
  fits = subst (λ n. All (λ rule. HasScratchFor scratch rule.body n) rules) (sym way.size) ready.fits;
}

pub way-asked : (rules : List RuleForm) (tried : ℕ) (old mid more again : List Bool) (s t new : StructureForm)
    (asks : List Ask) → All IsPlainRule rules → IsOnTheWay rules old s t → AreAsked rules t mid tried asks
    → IsSharper rules asks t new
    → HasAtLeast (IsRuleThat (SeesSome rules asks) rules) mid more → HasMore (λ m. m ≡ tried) more again → IsOnTheWay rules again s new
way-asked rules tried old mid more again s t new asks plain way asked sharp seeing itself = record {
  count = itself.count ∙ seeing.count ∙ asked.count;
  kept = sharp.kept;
  size = sharp.size ∙ way.size;
  arities = sharp.arities ∙ way.arities;
  mark = sharp.mark ∙ way.mark;
  below = below-below (structure_of new) (structure_of t) (structure_of s) sharp.below way.below;
  loses_none = λ u stable low. sharp.loses_none u stable (way.loses_none u stable low);
  rest = λ m other found out. ⊎_elim
      (λ e. absurd (out ((itself.exact m).1 (inr e))))
      (λ ne. sharp.unseen other
      (All-contains IsPlainRule rules other plain (slice_get-contains rules m other found))
      (λ sees. out ((itself.exact m).1 (inl (seeing.those m (other, found, sees)))))
      (asked.others m other found ne (λ was. out ((itself.exact m).1 (inl (seeing.kept m was))))))
      (cases_eq m tried);
}

-- ---- the end

pub way-hopeless : (rules : List RuleForm) (old : List Bool) (s t : StructureForm) → IsOnTheWay rules old s t
    → HasNoStable rules (structure_of t) → HasNoStable rules (structure_of s)
way-hopeless rules old s t way none u low stable = none u (way.loses_none u stable low) stable

pub way-ends : (rules : List RuleForm) (waiting : List Bool) (s t : StructureForm) → IsOnTheWay rules waiting s t
    → IsStable rules (structure_of t) → IsCoercedTable rules s t
way-ends rules waiting s t way stable = record {
  greatest = record {
    below = way.below;
    stable = stable;
    greatest = λ u low is. way.loses_none u is low;
  };
  over = way.arities;
  mark = way.mark;
  is = way.kept;
}

pub end-found : (rules : List RuleForm) (s begun t : StructureForm) (some : Bool) → IsEnd rules begun t some → begun ≡ s → some ≡ true
    → CoercesTo rules s (Some t)
end-found rules s begun t some is same e =
    subst (λ r. IsCoercedTable rules r t) same (subst (IsEnd rules begun t) e is)

pub end-none : (rules : List RuleForm) (s begun t : StructureForm) (some : Bool) → IsEnd rules begun t some → begun ≡ s → some ≡ false
    → CoercesTo rules s None
end-none rules s begun t some is same e =
    subst (λ r. HasNoStable rules (structure_of r)) same (subst (IsEnd rules begun t) e is)
