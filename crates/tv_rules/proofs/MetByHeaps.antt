-- The closed rules of a program are met wherever its base rules are, and these by its concrete heaps.
use Rattle.std.proofs.Common.{ℕ, zero, suc, ◌+◌, ◌≡◌, true, false, List, [], ◌∷◌, ◌++◌, map, Some, slice_get}
use Rattle.std.proofs.Common.{inr, refl, sym, subst, ◌∙◌, All, Contains, arith}
use Rattle.std.specs.List.{flat_map}
use Rattle.std.proofs.lemmas.List.{length-map}
use Rattle.std.proofs.lemmas.List.Elements.{All-nil, All-cons, All-head, All-tail, All-append, All-map}
use Rattle.std.proofs.lemmas.List.Elements.{All-weaker, All-contains_itself}
use Rattle.tv_model.specs.Form.{FNot, IsFree}
use Rattle.tv_model.specs.Heap.{Heap, IsTuple}
use Rattle.tv_model.specs.Program.{ProgramForm, PredForm, KindForm, KCore, KDefined, HAtom, RuleForm}
use Rattle.tv_model.specs.Rules.{MeetsRule, MeetsDefinition, blank, property_rules}
use Rattle.tv_model.specs.Truth.{Assignment, put_all}
use Rattle.tv_model.specs.Valid.{IsKind, IsPred}
use Rattle.tv_rules.specs.Closing.{rule_of_parts, definition_rules, pred_rules, rules_from, base_rules}
use Rattle.tv_rules.specs.Closing.{dropped_rule, further_rules, closed_rules}
use Rattle.tv_rules.specs.Laws.{BaseRulesAreMet, ClosingKeepsMeaning, ClosedRulesAreMet}
use Rattle.tv_rules.proofs.Free.{Truth-agreed, put_all-gives}
use Rattle.tv_rules.proofs.Dropping.{dropping_keeps_meaning}
use Rattle.tv_rules.proofs.Further.{further_rules_follow}

pub All-found : {X : Type 0} (P : X → Type 0) (xs : List X) (q : ℕ) (d : X) → All P xs → slice_get xs q ≡ Some d → P d
All-found P [] q d all found = absurd (cc)
All-found P (x ∷ xs) zero d all found = let same : x ≡ d = cc in subst P same (All-head P x xs all)
All-found P (x ∷ xs) (suc q) d all found = All-found P xs q d (All-tail P x xs all) found

pub All-flat_map : {X Y : Type 0} (P : Y → Type 0) (f : X → List Y) (xs : List X) → All (λ x. All P (f x)) xs → All P (flat_map f xs)
All-flat_map P f [] all = All-nil P
All-flat_map P f (x ∷ xs) all =
    All-append P (f x) (flat_map f xs) (All-head (λ y. All P (f y)) x xs all)
    (All-flat_map P f xs (All-tail (λ y. All P (f y)) x xs all))

pub All-mapped : {X Y : Type 0} (P : Y → Type 0) (f : X → Y) (xs : List X) → All P (map f xs) → All (λ x. P (f x)) xs
All-mapped P f [] all = All-nil (λ x. P (f x))
All-mapped P f (x ∷ xs) all =
    All-cons (λ y. P (f y)) x xs (All-head P (f x) (map f xs) all) (All-mapped P f xs (All-tail P (f x) (map f xs) all))

pub All-first : {X : Type 0} (P : X → Type 0) (xs ys : List X) → All P (xs ++ ys) → All P xs
All-first P [] ys all = All-nil P
All-first P (x ∷ xs) ys all =
    All-cons P x xs (All-head P x (xs ++ ys) all) (All-first P xs ys (All-tail P x (xs ++ ys) all))

-- the two rules of a definition
definition-met : (p : ProgramForm) (h : Heap) (q arity : ℕ) (kind : KindForm) → IsKind p arity kind
    → ((tuple : List ℕ) → IsTuple h arity tuple → MeetsDefinition h q kind tuple) → All (MeetsRule h) (definition_rules q kind)
definition-met p h q arity KCore valid defines = All-nil (MeetsRule h)
definition-met p h q arity (KDefined vars body) valid defines =
    All-cons (MeetsRule h) (rule_of_parts body (HAtom true q vars)) (rule_of_parts (FNot body) (HAtom false q vars) ∷ []) there
    (All-cons (MeetsRule h) (rule_of_parts (FNot body) (HAtom false q vars)) [] back (All-nil (MeetsRule h)))
  where
    is_tuple : (a : Assignment) → ((v : ℕ) → Contains vars v → Contains h.individuals (a v)) → IsTuple h arity (map a vars)
    is_tuple a inside = (
      length-map vars a ∙ valid.0.0,
      All-map (Contains h.individuals) a vars
          (All-weaker (Contains vars) (λ v. Contains h.individuals (a v)) inside vars (All-contains_itself vars)),
    )

    gives : (a : Assignment) (v : ℕ) → IsFree v body → put_all blank vars (map a vars) v ≡ a v
    gives a v free = put_all-gives blank a vars v (valid.2 v free)

    there : MeetsRule h (rule_of_parts body (HAtom true q vars))
    there a inside t =
        (defines (map a vars) (is_tuple a (λ v k. inside v (inr k)))).1
        (Truth-agreed h body a (put_all blank vars (map a vars)) (λ v free. sym (gives a v free)) t)

    back : MeetsRule h (rule_of_parts (FNot body) (HAtom false q vars))
    back a inside n holds =
        n (Truth-agreed h body (put_all blank vars (map a vars)) a
        (gives a)
        ((defines (map a vars) (is_tuple a (λ v k. inside v (inr k)))).0 holds))

pub rules_from-each : (P : RuleForm → Type 0) (q : ℕ) (preds : List PredForm)
    → ((k : ℕ) (d : PredForm) → slice_get preds k ≡ Some d → All P (pred_rules (k + q) d))
    → All P (rules_from q preds)
rules_from-each P q [] each = All-nil P
rules_from-each P q (d ∷ preds) each =
    All-append P (pred_rules q d) (rules_from (suc q) preds)
    (subst (λ n. All P (pred_rules n d)) first (each 0 d refl))
    (rules_from-each P (suc q) preds
    (λ k x found. subst (λ n. All P (pred_rules n x)) (shift k) (each (suc k) x found)))
  where
    first : 0 + q ≡ q
    first = omega arith

    shift : (k : ℕ) → suc k + q ≡ k + suc q
    shift k = omega arith

pub base_rules_are_met : BaseRulesAreMet
base_rules_are_met p h valid concrete meets =
    All-append (MeetsRule h) (rules_from 0 p.preds) p.rules (rules_from-each (MeetsRule h) 0 p.preds each) meets.rules
  where
    plain : (k : ℕ) → k ≡ k + 0
    plain k = omega arith

    each : (k : ℕ) (d : PredForm) → slice_get p.preds k ≡ Some d → All (MeetsRule h) (pred_rules (k + 0) d)
    each k d found =
        let is : IsPred p d = All-found (IsPred p) p.preds k d valid.preds found
        in subst (λ n. All (MeetsRule h) (pred_rules n d)) (plain k)
        (All-append (MeetsRule h) (property_rules k d.props) (definition_rules k d.kind) (meets.properties k d found)
        (definition-met p h k d.arity d.kind is.kind (concrete k d found)))

pub closing_keeps_meaning : ClosingKeepsMeaning
closing_keeps_meaning p h = (to, from)
  where
    to : All (MeetsRule h) (base_rules p) → All (MeetsRule h) (closed_rules p)
    to all =
        let dropped : All (MeetsRule h) (map dropped_rule (base_rules p))
        = All-map (MeetsRule h) dropped_rule (base_rules p)
        (All-weaker (MeetsRule h) (λ rule. MeetsRule h (dropped_rule rule)) (λ rule m. (dropping_keeps_meaning h rule).0 m) (base_rules p) all)
        in All-append (MeetsRule h) (map dropped_rule (base_rules p)) (flat_map further_rules (map dropped_rule (base_rules p))) dropped
        (All-flat_map (MeetsRule h) further_rules (map dropped_rule (base_rules p))
        (All-weaker (MeetsRule h) (λ rule. All (MeetsRule h) (further_rules rule)) (further_rules_follow h)
        (map dropped_rule (base_rules p)) dropped))

    from : All (MeetsRule h) (closed_rules p) → All (MeetsRule h) (base_rules p)
    from all =
        All-weaker (λ rule. MeetsRule h (dropped_rule rule)) (MeetsRule h) (λ rule m. (dropping_keeps_meaning h rule).1 m) (base_rules p)
        (All-mapped (MeetsRule h) dropped_rule (base_rules p)
        (All-first (MeetsRule h) (map dropped_rule (base_rules p)) (flat_map further_rules (map dropped_rule (base_rules p))) all))

pub closed_rules_are_met : ClosedRulesAreMet
closed_rules_are_met p h valid concrete meets = (closing_keeps_meaning p h).0 (base_rules_are_met p h valid concrete meets)
