-- All rules by which a heap is judged are the program's.
use Rattle.std.proofs.Common.{ℕ, zero, suc, ◌≡◌, ◌+◌, [], ◌∷◌, List, Some, refl, sym, subst, arith}
use Rattle.std.specs.Prelude.{All, slice_get}
use Rattle.std.proofs.lemmas.List.Elements.{All-append, All-nil}
use Rattle.tv_lemmas.proofs.Lists.{All-right, All-left}
use Rattle.tv_model.specs.Heap.{Heap}
use Rattle.tv_model.specs.Program.{PredForm}
use Rattle.tv_model.specs.Rules.{MeetsRule, property_rules}
use Rattle.tv_replay_laws.specs.JudgedRules.{rules_of_properties}
use Rattle.tv_replay_laws.specs.Laws.{JudgedRulesAreTheProgram}

properties-met : (h : Heap) (q : ℕ) (preds : List PredForm) → All (MeetsRule h) (rules_of_properties q preds)
    → (k : ℕ) (d : PredForm) → slice_get preds k ≡ Some d → All (MeetsRule h) (property_rules (q + k) d.props)
properties-met h q [] all k d is = absurd (none is)
  where
    none : slice_get [] k ≡ Some d → ⊥
    none e = cc
properties-met h q (p ∷ preds) all zero d is =
    let here : All (MeetsRule h) (property_rules q p.props) = All-left (MeetsRule h) (property_rules q p.props) (rules_of_properties (suc q) preds) all
    in subst (λ (e : PredForm). All (MeetsRule h) (property_rules (q + 0) e.props)) (some_same p d is)
    (subst (λ n. All (MeetsRule h) (property_rules n p.props)) (whole q) here)
  where
    whole : (n : ℕ) → n ≡ n + 0
    whole n = omega arith

    some_same : (x y : PredForm) → Some x ≡ Some y → x ≡ y
    some_same x y e = cc
properties-met h q (p ∷ preds) all (suc k) d is =
    let others = All-right (MeetsRule h) (property_rules q p.props) (rules_of_properties (suc q) preds) all
    in subst (λ n. All (MeetsRule h) (property_rules n d.props)) (next q k) (properties-met h (suc q) preds others k d is)
  where
    next : (q k : ℕ) → suc q + k ≡ q + suc k
    next q k = omega arith

met-properties : (h : Heap) (q : ℕ) (preds : List PredForm)
    → ((k : ℕ) (d : PredForm) → slice_get preds k ≡ Some d → All (MeetsRule h) (property_rules (q + k) d.props))
    → All (MeetsRule h) (rules_of_properties q preds)
met-properties h q [] each = All-nil (MeetsRule h)
met-properties h q (p ∷ preds) each =
    All-append (MeetsRule h) (property_rules q p.props) (rules_of_properties (suc q) preds)
    (subst (λ n. All (MeetsRule h) (property_rules n p.props)) (whole q) (each 0 p refl))
    (met-properties h (suc q) preds (λ k d is. subst (λ n. All (MeetsRule h) (property_rules n d.props)) (next q k) (each (suc k) d is)))
  where
    whole : (n : ℕ) → n + 0 ≡ n
    whole n = omega arith

    next : (q k : ℕ) → q + suc k ≡ suc q + k
    next q k = omega arith

pub judged_are_all : JudgedRulesAreTheProgram
judged_are_all p h = (
  λ all. record {
    rules = All-right (MeetsRule h) (rules_of_properties 0 p.preds) p.rules all;
    properties = λ q d found.
        subst (λ n. All (MeetsRule h) (property_rules n d.props)) (from_zero q)
        (properties-met h 0 p.preds (All-left (MeetsRule h) (rules_of_properties 0 p.preds) p.rules all) q d found);
  },
  λ met. All-append (MeetsRule h) (rules_of_properties 0 p.preds) p.rules
      (met-properties h 0 p.preds (λ k d found. subst (λ n. All (MeetsRule h) (property_rules n d.props)) (sym (from_zero k)) (met.properties k d found)))
      met.rules,
)
  where
    from_zero : (n : ℕ) → 0 + n ≡ n
    from_zero n = omega arith
