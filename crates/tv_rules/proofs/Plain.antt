-- The closed rules of a valid program are valid rules.
use Rattle.std.proofs.Common.{ℕ, ◌+◌, ◌≡◌, Bool, true, false, List, [], ◌∷◌, ◌++◌, length, map, Option, None}
use Rattle.std.proofs.Common.{Some, IfSome, IsTrue, slice_get, inl, inr, ⊎_elim, refl, sym, ap, subst, ◌∙◌}
use Rattle.std.proofs.Common.{All, arith, if◌then◌else◌}
use Rattle.std.specs.List.{flat_map}
use Rattle.std.specs.Option.{option_map}
use Rattle.std.proofs.lemmas.List.Elements.{All-nil, All-cons, All-append, All-map, All-weaker}
use Rattle.std.proofs.lemmas.Option.{slice_get-map}
use Rattle.tv_model.specs.declared.program.Props.{Props}
use Rattle.tv_model.specs.Form.{Form, FZero, FOne, FAtom, FIsNew, FSame, FNot, FAnd, FOr, FIff, FCond}
use Rattle.tv_model.specs.Form.{FExists, FForall, FClosure}
use Rattle.tv_model.specs.Program.{ProgramForm, PredForm, KindForm, KCore, KDefined, HeadForm, HNever, HAtom}
use Rattle.tv_model.specs.Program.{HSame, RuleForm}
use Rattle.tv_model.specs.Rules.{property_rules, declared_rule, unique_rule, function_rule, invfunction_rule}
use Rattle.tv_model.specs.Rules.{transitive_rule, reflexive_rule, symmetric_rule}
use Rattle.tv_model.specs.Valid.{IsValid, IsRule, IsHead, IsFormula, IsPlainFormula, IsVariable, IsKind}
use Rattle.tv_model.specs.Valid.{IsPred, arity_of}
use Rattle.tv_rules.specs.Closing.{rule_of_parts, Swap, swap_left, swap_right, swaps, signed_head, negated}
use Rattle.tv_rules.specs.Closing.{negated_head, rule_with, may_drop, dropped, dropped_rule, further_rules}
use Rattle.tv_rules.specs.Closing.{definition_rules, pred_rules, rules_from, base_rules}
use Rattle.tv_rules.specs.Laws.{ClosedRulesAreRules}
use Rattle.tv_rules.proofs.MetByHeaps.{All-found, All-flat_map, rules_from-each}
use Rattle.tv_rules.proofs.Further.{All-filter_map}

negated_head-plain : (p : ProgramForm) (head : HeadForm) → IsHead p head → IsPlainFormula p (negated_head head)
negated_head-plain p HNever k = (tt, λ n. n)
negated_head-plain p (HAtom true q vars) k = (k, λ n. n)
negated_head-plain p (HAtom false q vars) k = (k, λ n. n)
negated_head-plain p (HSame true v w) k = (k, λ n. n)
negated_head-plain p (HSame false v w) k = (k, λ n. n)

signed-is : (p : ProgramForm) (flag : Bool) (f : Form) → IsFormula p f → IfSome (signed_head flag f) (IsHead p)
signed-is p flag FZero k = tt
signed-is p flag FOne k = tt
signed-is p flag (FAtom q vars) k = k
signed-is p flag (FIsNew v) k = tt
signed-is p flag (FSame v w) k = k
signed-is p flag (FNot f) k = tt
signed-is p flag (FAnd f g) k = tt
signed-is p flag (FOr f g) k = tt
signed-is p flag (FIff f g) k = tt
signed-is p flag (FCond c f g) k = tt
signed-is p flag (FExists v f) k = tt
signed-is p flag (FForall v f) k = tt
signed-is p flag (FClosure from to left right f) k = tt

negated-is : (p : ProgramForm) (f : Form) → IsFormula p f → IfSome (negated f) (IsHead p)
negated-is p (FNot f) k = signed-is p true f k
negated-is p FZero k = tt
negated-is p FOne k = tt
negated-is p (FAtom q vars) k = k
negated-is p (FIsNew v) k = tt
negated-is p (FSame v w) k = k
negated-is p (FAnd f g) k = tt
negated-is p (FOr f g) k = tt
negated-is p (FIff f g) k = tt
negated-is p (FCond c f g) k = tt
negated-is p (FExists v f) k = tt
negated-is p (FForall v f) k = tt
negated-is p (FClosure from to left right f) k = tt

record IsPlainSwap (p : ProgramForm) (s : Swap) : Type 0 where
  conjunct : IsFormula p s.conjunct
  body : IsPlainFormula p s.body

swap-whole : (p : ProgramForm) (x f : Form) → IsPlainFormula p x → IsPlainFormula p f
    → All (IsPlainSwap p) (record { conjunct = f; body = x } ∷ [])
swap-whole p x f kx k =
    All-cons (IsPlainSwap p) (record { conjunct = f; body = x }) [] (record { conjunct = k.0; body = kx }) (All-nil (IsPlainSwap p))

swap-left : (p : ProgramForm) (g : Form) → IsPlainFormula p g → (s : Swap) → IsPlainSwap p s → IsPlainSwap p (swap_left g s)
swap-left p g k s is = record {
  conjunct = is.conjunct;
  body = ((is.body.0, k.0), λ n. ⊎_elim is.body.1 k.1 n);
}

swap-right : (p : ProgramForm) (f : Form) → IsPlainFormula p f → (s : Swap) → IsPlainSwap p s → IsPlainSwap p (swap_right f s)
swap-right p f k s is = record {
  conjunct = is.conjunct;
  body = ((k.0, is.body.0), λ n. ⊎_elim k.1 is.body.1 n);
}

swaps-plain : (p : ProgramForm) (x f : Form) → IsPlainFormula p x → IsPlainFormula p f → All (IsPlainSwap p) (swaps x f)
swaps-plain p x FZero kx k = swap-whole p x FZero kx k
swaps-plain p x FOne kx k = swap-whole p x FOne kx k
swaps-plain p x (FAtom q vars) kx k = swap-whole p x (FAtom q vars) kx k
swaps-plain p x (FIsNew v) kx k = swap-whole p x (FIsNew v) kx k
swaps-plain p x (FSame v w) kx k = swap-whole p x (FSame v w) kx k
swaps-plain p x (FNot f) kx k = swap-whole p x (FNot f) kx k
swaps-plain p x (FAnd f g) kx k =
    let kf : IsPlainFormula p f = (k.0.0, λ n. k.1 (inl n))
    in let kg : IsPlainFormula p g = (k.0.1, λ n. k.1 (inr n))
    in All-append (IsPlainSwap p) (map (swap_left g) (swaps x f)) (map (swap_right f) (swaps x g))
    (All-map (IsPlainSwap p) (swap_left g) (swaps x f)
    (All-weaker (IsPlainSwap p) (λ s. IsPlainSwap p (swap_left g s)) (swap-left p g kg) (swaps x f) (swaps-plain p x f kx kf)))
    (All-map (IsPlainSwap p) (swap_right f) (swaps x g)
    (All-weaker (IsPlainSwap p) (λ s. IsPlainSwap p (swap_right f s)) (swap-right p f kf) (swaps x g) (swaps-plain p x g kx kg)))
swaps-plain p x (FOr f g) kx k = swap-whole p x (FOr f g) kx k
swaps-plain p x (FIff f g) kx k = swap-whole p x (FIff f g) kx k
swaps-plain p x (FCond c f g) kx k = swap-whole p x (FCond c f g) kx k
swaps-plain p x (FExists v f) kx k = swap-whole p x (FExists v f) kx k
swaps-plain p x (FForall v f) kx k = swap-whole p x (FForall v f) kx k
swaps-plain p x (FClosure from to left right f) kx k = swap-whole p x (FClosure from to left right f) kx k

rule_with-is : (p : ProgramForm) (body : Form) (o : Option HeadForm) → IsPlainFormula p body → IfSome o (IsHead p)
    → IfSome (rule_with body o) (IsRule p)
rule_with-is p body None k none = tt
rule_with-is p body (Some head) k is = (k, is)

further-are : (p : ProgramForm) (rule : RuleForm) → IsRule p rule → All (IsRule p) (further_rules rule)
further-are p rule k =
    All-filter_map (IsRule p) (λ s. rule_with s.body (negated s.conjunct)) (swaps (negated_head rule.head) rule.body)
    (All-weaker (IsPlainSwap p) (λ s. IfSome (rule_with s.body (negated s.conjunct)) (IsRule p))
    (λ s is. rule_with-is p s.body (negated s.conjunct) is.body (negated-is p s.conjunct is.conjunct))
    (swaps (negated_head rule.head) rule.body)
    (swaps-plain p (negated_head rule.head) rule.body (negated_head-plain p rule.head k.1) k.0))

dropped-plain : (p : ProgramForm) (head : HeadForm) (f : Form) → IsPlainFormula p f → IsPlainFormula p (dropped head f)
dropped-plain p head (FExists v f) k = go (may_drop v head f) (dropped-plain p head f (k.0.1, k.1))
  where
    go : (b : Bool) → IsPlainFormula p (dropped head f) → IsPlainFormula p (if b then dropped head f else FExists v f)
    go false rest = k
    go true rest = rest
dropped-plain p head FZero k = k
dropped-plain p head FOne k = k
dropped-plain p head (FAtom q vars) k = k
dropped-plain p head (FIsNew v) k = k
dropped-plain p head (FSame v w) k = k
dropped-plain p head (FNot f) k = k
dropped-plain p head (FAnd f g) k = k
dropped-plain p head (FOr f g) k = k
dropped-plain p head (FIff f g) k = k
dropped-plain p head (FCond c f g) k = k
dropped-plain p head (FForall v f) k = k
dropped-plain p head (FClosure from to left right f) k = k

declared-each : (P : RuleForm → Type 0) (flag : Bool) (rule : RuleForm) → (IsTrue flag → P rule) → All P (declared_rule flag rule)
declared-each P false rule is = All-nil P
declared-each P true rule is = All-cons P rule [] (is refl) (All-nil P)

zeroth : IsVariable 0
zeroth = omega arith

first : IsVariable 1
first = omega arith

second : IsVariable 2
second = omega arith

one-fits : (p : ProgramForm) (q v : ℕ) → arity_of p q ≡ Some 1 → IsVariable v → IsFormula p (FAtom q (v ∷ []))
one-fits p q v e k = (e, All-cons IsVariable v [] k (All-nil IsVariable))

two-fit : (p : ProgramForm) (q v w : ℕ) → arity_of p q ≡ Some 2 → IsVariable v → IsVariable w → IsFormula p (FAtom q (v ∷ w ∷ []))
two-fit p q v w e k l = (e, All-cons IsVariable v (w ∷ []) k (All-cons IsVariable w [] l (All-nil IsVariable)))

both-plain : (p : ProgramForm) (q r : ℕ) (vs ws : List ℕ) → IsFormula p (FAtom q vs) → IsFormula p (FAtom r ws)
    → IsPlainFormula p (FAnd (FAtom q vs) (FAtom r ws))
both-plain p q r vs ws k l = ((k, l), λ n. ⊎_elim (λ m. m) (λ m. m) n)

-- what holds of the rule of each declared property holds of all rules of properties
pub properties-each : (P : RuleForm → Type 0) (q : ℕ) (props : Props)
    → (IsTrue props.unique → P (unique_rule q)) → (IsTrue props.function → P (function_rule q))
    → (IsTrue props.invfunction → P (invfunction_rule q)) → (IsTrue props.transitive → P (transitive_rule q))
    → (IsTrue props.reflexive → P (reflexive_rule q)) → (IsTrue props.symmetric → P (symmetric_rule q))
    → All P (property_rules q props)
properties-each P q props unique function invfunction transitive reflexive symmetric =
    All-append P five (declared_rule props.symmetric (symmetric_rule q))
    (All-append P four (declared_rule props.reflexive (reflexive_rule q))
    (All-append P three (declared_rule props.transitive (transitive_rule q))
    (All-append P two (declared_rule props.invfunction (invfunction_rule q))
    (All-append P one (declared_rule props.function (function_rule q))
    (declared-each P props.unique (unique_rule q) unique)
    (declared-each P props.function (function_rule q) function))
    (declared-each P props.invfunction (invfunction_rule q) invfunction))
    (declared-each P props.transitive (transitive_rule q) transitive))
    (declared-each P props.reflexive (reflexive_rule q) reflexive))
    (declared-each P props.symmetric (symmetric_rule q) symmetric)
  where
    one : List RuleForm
    one = declared_rule props.unique (unique_rule q)

    two : List RuleForm
    two = one ++ declared_rule props.function (function_rule q)

    three : List RuleForm
    three = two ++ declared_rule props.invfunction (invfunction_rule q)

    four : List RuleForm
    four = three ++ declared_rule props.transitive (transitive_rule q)

    five : List RuleForm
    five = four ++ declared_rule props.reflexive (reflexive_rule q)

properties-are : (p : ProgramForm) (q : ℕ) (d : PredForm) → arity_of p q ≡ Some d.arity → IsPred p d → All (IsRule p) (property_rules q d.props)
properties-are p q d e is =
    properties-each (IsRule p) q d.props
    (λ t. let a : arity_of p q ≡ Some 1 = at 1 (is.props.unique t) in (both-plain p q q (0 ∷ []) (1 ∷ []) (one-fits p q 0 a zeroth) (one-fits p q 1 a first), (zeroth, first)))
    (λ t. let a : arity_of p q ≡ Some 2 = at 2 (is.props.function t) in (both-plain p q q (0 ∷ 1 ∷ []) (0 ∷ 2 ∷ []) (two-fit p q 0 1 a zeroth first) (two-fit p q 0 2 a zeroth second), (first, second)))
    (λ t. let a : arity_of p q ≡ Some 2 = at 2 (is.props.invfunction t) in (both-plain p q q (1 ∷ 0 ∷ []) (2 ∷ 0 ∷ []) (two-fit p q 1 0 a first zeroth) (two-fit p q 2 0 a second zeroth), (first, second)))
    (λ t. let a : arity_of p q ≡ Some 2 = at 2 (is.props.transitive t) in (both-plain p q q (0 ∷ 1 ∷ []) (1 ∷ 2 ∷ []) (two-fit p q 0 1 a zeroth first) (two-fit p q 1 2 a first second), two-fit p q 0 2 a zeroth second))
    (λ t. let a : arity_of p q ≡ Some 2 = at 2 (is.props.reflexive t) in ((tt, λ n. n), two-fit p q 0 0 a zeroth zeroth))
    (λ t. let a : arity_of p q ≡ Some 2 = at 2 (is.props.symmetric t) in ((two-fit p q 0 1 a zeroth first, λ n. n), two-fit p q 1 0 a first zeroth))
  where
    at : (n : ℕ) → d.arity ≡ n → arity_of p q ≡ Some n
    at n same = e ∙ ap (λ m. Some m) same

definition-are : (p : ProgramForm) (q arity : ℕ) (kind : KindForm) → arity_of p q ≡ Some arity → IsKind p arity kind
    → All (IsRule p) (definition_rules q kind)
definition-are p q arity KCore e is = All-nil (IsRule p)
definition-are p q arity (KDefined vars body) e is =
    let fits : (arity_of p q ≡ Some (length vars)) × All IsVariable vars = (e ∙ ap (λ m. Some m) (sym is.0.0), is.0.1)
    in All-cons (IsRule p) (rule_of_parts body (HAtom true q vars)) (rule_of_parts (FNot body) (HAtom false q vars) ∷ []) (is.1, fits)
    (All-cons (IsRule p) (rule_of_parts (FNot body) (HAtom false q vars)) [] (is.1, fits) (All-nil (IsRule p)))

base-are : (p : ProgramForm) → IsValid p → All (IsRule p) (base_rules p)
base-are p valid = All-append (IsRule p) (rules_from 0 p.preds) p.rules (rules_from-each (IsRule p) 0 p.preds each) valid.rules
  where
    plain : (k : ℕ) → k ≡ k + 0
    plain k = omega arith

    each : (k : ℕ) (d : PredForm) → slice_get p.preds k ≡ Some d → All (IsRule p) (pred_rules (k + 0) d)
    each k d found =
        let is : IsPred p d = All-found (IsPred p) p.preds k d valid.preds found
        in let e : arity_of p k ≡ Some d.arity = slice_get-map (λ (x : PredForm). x.arity) p.preds k ∙ ap (option_map (λ (x : PredForm). x.arity)) found
        in subst (λ n. All (IsRule p) (pred_rules n d)) (plain k)
        (All-append (IsRule p) (property_rules k d.props) (definition_rules k d.kind) (properties-are p k d e is)
        (definition-are p k d.arity d.kind e is.kind))

-- the base rules after the dropping are valid
pub dropped_are : (p : ProgramForm) → IsValid p → All (IsRule p) (map dropped_rule (base_rules p))
dropped_are p valid =
    All-map (IsRule p) dropped_rule (base_rules p)
    (All-weaker (IsRule p) (λ rule. IsRule p (dropped_rule rule)) (λ rule k. (dropped-plain p rule.head rule.body k.0, k.1)) (base_rules p)
    (base-are p valid))

pub closed_rules_are_rules : ClosedRulesAreRules
closed_rules_are_rules p valid =
    All-append (IsRule p) (map dropped_rule (base_rules p)) (flat_map further_rules (map dropped_rule (base_rules p))) (dropped_are p valid)
    (All-flat_map (IsRule p) further_rules (map dropped_rule (base_rules p))
    (All-weaker (IsRule p) (λ rule. All (IsRule p) (further_rules rule)) (further-are p) (map dropped_rule (base_rules p)) (dropped_are p valid)))
