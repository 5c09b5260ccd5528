-- The closed rules of one declaration are some of the program's.
use Rattle.std.proofs.Common.{ℕ, ◌+◌, ◌≡◌, List, [], ◌∷◌, map, Option, None, Some, refl, sym, ap}
use Rattle.std.proofs.Common.{subst, arith, All, slice_get, true, false, Bool, IsTrue, ◌↔◌, true≢false}
use Rattle.std.specs.Prelude.{suc, zero, is_some, not}
use Rattle.std.specs.List.{flat_map}
use Rattle.std.proofs.lemmas.List.Elements.{All-nil, All-cons, All-head, All-tail, All-append, All-map}
use Rattle.tv_lemmas.proofs.Lists.{All-right}
use Rattle.tv_coerce.proofs.Lowering.{below-itself}
use Rattle.tv_coerce.specs.Coerced.{CoercesTo}
use Rattle.tv_model.specs.Program.{ProgramForm, PredForm, RuleForm}
use Rattle.tv_rules.specs.Closing.{base_rules, closed_rules, closed_set, dropped_rule, further_rules}
use Rattle.tv_rules.specs.Closing.{pred_rules}
use Rattle.tv_rules.specs.Closing.{rules_from}
use Rattle.tv_rules.proofs.MetByHeaps.{All-first, All-flat_map, All-found, All-mapped}
use Rattle.tv_stable_laws.specs.Stable.{HasNoStable, IsStable, IsStableUnder}
use Rattle.tv_structure_form.specs.StructureForm.{StructureForm, structure_of}
use Rattle.tv_losses_unmet.specs.Alone.{alone}
use Rattle.tv_losses_unmet.specs.Unmet.{IsUnmet, UnmetLeavesNone, closed_alone, listed, rules_of_claim}
use Rattle.tv_losses_unmet.specs.Unmet.{rules_of_pred}
use Rattle.tv_losses_unmet.specs.declared.claim.Claim.{Claim}
use Rattle.tv_losses_unmet.specs.declared.claim.Claim.TheVariants.{Predicate, Rule}
use Rattle.tv_losses_unmet.proofs.Claims.{base-alone}

pub closed-alone : (claim : Claim) (p : ProgramForm) → closed_rules (alone claim p) ≡ closed_alone p claim
closed-alone claim p = ap (λ rules. closed_set (map dropped_rule rules)) (base-alone claim p)

-- ---- what holds of all closed rules

apart : (P : RuleForm → Type 0) (bases : List RuleForm) → All P bases → All P (flat_map further_rules bases)
    → All (λ rule. P rule × All P (further_rules rule)) bases
apart P [] all further = All-nil (λ rule. P rule × All P (further_rules rule))
apart P (rule ∷ bases) all further =
    All-cons (λ r. P r × All P (further_rules r)) rule bases
    (All-head P rule bases all, All-first P (further_rules rule) (flat_map further_rules bases) further)
    (apart P bases (All-tail P rule bases all)
    (All-right P (further_rules rule) (flat_map further_rules bases) further))

of-closed : (P : RuleForm → Type 0) (bases : List RuleForm) → All P (closed_set bases)
    → All (λ rule. P rule × All P (further_rules rule)) bases
of-closed P bases all =
    apart P bases (All-first P bases (flat_map further_rules bases) all)
    (All-right P bases (flat_map further_rules bases) all)

to-closed : (P : RuleForm → Type 0) (bases : List RuleForm)
    → All (λ rule. P rule × All P (further_rules rule)) bases → All P (closed_set bases)
to-closed P bases all =
    All-append P bases (flat_map further_rules bases)
    (λ k d within. (all k d within).0)
    (All-flat_map P further_rules bases (λ k d within. (all k d within).1))

-- ---- the base rules of a declaration

of-pred : (P : RuleForm → Type 0) (n q j : ℕ) (preds : List PredForm) → n ≡ q + j → All P (rules_from q preds)
    → All P (rules_of_pred n (slice_get preds j))
of-pred P n q j [] is all = All-nil P
of-pred P n q zero (d ∷ preds) is all =
    subst (λ k. All P (pred_rules k d)) here (All-first P (pred_rules q d) (rules_from (suc q) preds) all)
  where
    here : q ≡ n
    here = omega (arith, is)
of-pred P n q (suc j) (d ∷ preds) is all =
    of-pred P n (suc q) j preds (omega (arith, is)) (All-right P (pred_rules q d) (rules_from (suc q) preds) all)

of-rule : (P : RuleForm → Type 0) (rule : Option RuleForm) → ((r : RuleForm) → rule ≡ Some r → P r)
    → All P (listed rule)
of-rule P None is = All-nil P
of-rule P (Some rule) is = All-cons P rule [] (is rule refl) (All-nil P)

pub of-claim : (P : RuleForm → Type 0) (p : ProgramForm) (claim : Claim) → All P (base_rules p)
    → All P (rules_of_claim p claim)
of-claim P p (Predicate q) all =
    of-pred P q.0 0 q.0 p.preds (omega arith) (All-first P (rules_from 0 p.preds) p.rules all)
of-claim P p (Rule number) all =
    of-rule P (slice_get p.rules number)
    (λ r found. All-found P p.rules number r (All-right P (rules_from 0 p.preds) p.rules all) found)

pub also-alone : (P : RuleForm → Type 0) (p : ProgramForm) (claim : Claim) → All P (closed_rules p)
    → All P (closed_alone p claim)
also-alone P p claim all =
    to-closed P (map dropped_rule (rules_of_claim p claim))
    (All-map (λ rule. P rule × All P (further_rules rule)) dropped_rule (rules_of_claim p claim)
    (of-claim (λ rule. P (dropped_rule rule) × All P (further_rules (dropped_rule rule))) p claim
    (All-mapped (λ rule. P rule × All P (further_rules rule)) dropped_rule (base_rules p)
    (of-closed P (map dropped_rule (base_rules p)) all))))

pub unmet-leaves_none : UnmetLeavesNone
unmet-leaves_none p s claim unmet =
    λ u below stable. unmet u below (also-alone (IsStableUnder u) p claim stable)

-- ---- what coerce tells

pub unmet-is : (rules : List RuleForm) (s : StructureForm) (found : Option StructureForm) (r : Bool)
    → CoercesTo rules s found → is_some found ≡ not r → IsTrue r ↔ HasNoStable rules (structure_of s)
unmet-is rules s None true to is = (λ t. to, λ h. refl)
unmet-is rules s None false to is = absurd (true≢false (sym is))
unmet-is rules s (Some t) true to is = absurd (true≢false is)
unmet-is rules s (Some t) false to is = (
  λ e. absurd (true≢false (sym e)),
  λ h. absurd (h (structure_of t) to.greatest.below to.greatest.stable),
)

-- where there are no rules there is nothing to contradict
pub no-rules : (p : ProgramForm) (s : StructureForm) (claim : Claim) → rules_of_claim p claim ≡ []
    → ¬ IsUnmet p s claim
no-rules p s claim none unmet =
    unmet (structure_of s) (below-itself (structure_of s))
    (subst (λ rules. IsStable (closed_set (map dropped_rule rules)) (structure_of s)) (sym none)
    (All-nil (IsStableUnder (structure_of s))))
