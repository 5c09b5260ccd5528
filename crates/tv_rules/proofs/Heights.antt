-- How high the closed rules are.
use Rattle.std.proofs.Common.{ℕ, ◌≡◌, ◌≤◌, ◌+◌, true, false, List, [], ◌∷◌, map, Option, None, Some, IfSome}
use Rattle.std.proofs.Common.{slice_get, All, Bool, arith, if◌then◌else◌, refl}
use Rattle.std.specs.List.{flat_map}
use Rattle.std.proofs.lemmas.List.Elements.{All-nil, All-cons, All-append, All-map, All-weaker}
use Rattle.tv_model.specs.Form.{Form, FZero, FOne, FAtom, FIsNew, FSame, FNot, FAnd, FOr, FIff, FCond}
use Rattle.tv_model.specs.Form.{FExists, FForall, FClosure, height}
use Rattle.tv_model.specs.Program.{ProgramForm, PredForm, KindForm, KCore, KDefined, HeadForm, HNever, HAtom}
use Rattle.tv_model.specs.Program.{HSame, RuleForm}
use Rattle.tv_model.specs.Rules.{property_rules}
use Rattle.tv_model.proofs.Lists.{All-from_contains, slice_get-contains}
use Rattle.tv_rules.specs.Closing.{Swap, swap_left, swap_right, swaps, negated, negated_head, rule_with}
use Rattle.tv_rules.specs.Closing.{rule_of_parts, may_drop, dropped, dropped_rule, further_rules}
use Rattle.tv_rules.specs.Closing.{definition_rules, pred_rules, rules_from, base_rules, closed_rules}
use Rattle.tv_rules.specs.Laws.{IsNoHigher}
use Rattle.tv_rules.proofs.Further.{All-filter_map}
use Rattle.tv_rules.proofs.MetByHeaps.{All-flat_map, rules_from-each}
use Rattle.tv_rules.proofs.Plain.{properties-each}

abbrev IsUpTo : ℕ → RuleForm → Type 0
IsUpTo n rule = height rule.body ≤ n

some-height : (f : Form) → 1 ≤ height f
some-height FZero = omega arith
some-height FOne = omega arith
some-height (FAtom p vars) = omega arith
some-height (FIsNew v) = omega arith
some-height (FSame v w) = omega arith
some-height (FNot f) = omega arith
some-height (FAnd f g) = omega arith
some-height (FOr f g) = omega arith
some-height (FIff f g) = omega arith
some-height (FCond c f g) = omega arith
some-height (FExists v f) = omega arith
some-height (FForall v f) = omega arith
some-height (FClosure from to left right f) = omega arith

abbrev IsLittleHigher : Form → Swap → Type 0
IsLittleHigher f s = height s.body ≤ height f + 1

swap-whole : (x f : Form) → height x ≤ 2 → All (IsLittleHigher f) (record { conjunct = f; body = x } ∷ [])
swap-whole x f low =
    All-cons (IsLittleHigher f) (record { conjunct = f; body = x }) [] (omega (arith, some-height f, low)) (All-nil (IsLittleHigher f))

swaps-low : (x f : Form) → height x ≤ 2 → All (IsLittleHigher f) (swaps x f)
swaps-low x (FAnd f g) low =
    All-append (IsLittleHigher (FAnd f g)) (map (swap_left g) (swaps x f)) (map (swap_right f) (swaps x g))
    (All-map (IsLittleHigher (FAnd f g)) (swap_left g) (swaps x f)
    (All-weaker (IsLittleHigher f) (λ s. IsLittleHigher (FAnd f g) (swap_left g s)) (λ s is. left s is) (swaps x f) (swaps-low x f low)))
    (All-map (IsLittleHigher (FAnd f g)) (swap_right f) (swaps x g)
    (All-weaker (IsLittleHigher g) (λ s. IsLittleHigher (FAnd f g) (swap_right f s)) (λ s is. right s is) (swaps x g) (swaps-low x g low)))
  where
    left : (s : Swap) → IsLittleHigher f s → IsLittleHigher (FAnd f g) (swap_left g s)
    left s is = omega (arith, is)

    right : (s : Swap) → IsLittleHigher g s → IsLittleHigher (FAnd f g) (swap_right f s)
    right s is = omega (arith, is)
swaps-low x FZero low = swap-whole x FZero low
swaps-low x FOne low = swap-whole x FOne low
swaps-low x (FAtom p vars) low = swap-whole x (FAtom p vars) low
swaps-low x (FIsNew v) low = swap-whole x (FIsNew v) low
swaps-low x (FSame v w) low = swap-whole x (FSame v w) low
swaps-low x (FNot f) low = swap-whole x (FNot f) low
swaps-low x (FOr f g) low = swap-whole x (FOr f g) low
swaps-low x (FIff f g) low = swap-whole x (FIff f g) low
swaps-low x (FCond c f g) low = swap-whole x (FCond c f g) low
swaps-low x (FExists v f) low = swap-whole x (FExists v f) low
swaps-low x (FForall v f) low = swap-whole x (FForall v f) low
swaps-low x (FClosure from to left right f) low = swap-whole x (FClosure from to left right f) low

negated_head-low : (head : HeadForm) → height (negated_head head) ≤ 2
negated_head-low HNever = omega arith
negated_head-low (HAtom true p vars) = omega arith
negated_head-low (HAtom false p vars) = omega arith
negated_head-low (HSame true v w) = omega arith
negated_head-low (HSame false v w) = omega arith

dropped-low : (head : HeadForm) (f : Form) → height (dropped head f) ≤ height f
dropped-low head (FExists v f) = go (may_drop v head f) (dropped-low head f)
  where
    go : (b : Bool) → height (dropped head f) ≤ height f → height (if b then dropped head f else FExists v f) ≤ height f + 1
    go true low = omega (arith, low)
    go false low = omega arith
dropped-low head FZero = omega arith
dropped-low head FOne = omega arith
dropped-low head (FAtom p vars) = omega arith
dropped-low head (FIsNew v) = omega arith
dropped-low head (FSame v w) = omega arith
dropped-low head (FNot f) = omega arith
dropped-low head (FAnd f g) = omega arith
dropped-low head (FOr f g) = omega arith
dropped-low head (FIff f g) = omega arith
dropped-low head (FCond c f g) = omega arith
dropped-low head (FForall v f) = omega arith
dropped-low head (FClosure from to left right f) = omega arith

further-low : (n : ℕ) (rule : RuleForm) → IsUpTo n rule → All (IsUpTo (n + 1)) (further_rules rule)
further-low n rule low =
    All-filter_map (IsUpTo (n + 1)) (λ s. rule_with s.body (negated s.conjunct)) (swaps (negated_head rule.head) rule.body)
    (All-weaker (IsLittleHigher rule.body) (λ s. IfSome (rule_with s.body (negated s.conjunct)) (IsUpTo (n + 1)))
    (λ s is. some s (negated s.conjunct) is)
    (swaps (negated_head rule.head) rule.body) (swaps-low (negated_head rule.head) rule.body (negated_head-low rule.head)))
  where
    some : (s : Swap) (o : Option HeadForm) → IsLittleHigher rule.body s → IfSome (rule_with s.body o) (IsUpTo (n + 1))
    some s None is = tt
    some s (Some head) is = omega (arith, is, low)

definition-low : (n q : ℕ) (kind : KindForm) → ((vars : List ℕ) (body : Form) → kind ≡ KDefined vars body → height body ≤ n)
    → All (IsUpTo (n + 2)) (definition_rules q kind)
definition-low n q KCore low = All-nil (IsUpTo (n + 2))
definition-low n q (KDefined vars body) low =
    All-cons (IsUpTo (n + 2)) (rule_of_parts body (HAtom true q vars)) (rule_of_parts (FNot body) (HAtom false q vars) ∷ [])
    (omega (arith, low vars body refl))
    (All-cons (IsUpTo (n + 2)) (rule_of_parts (FNot body) (HAtom false q vars)) [] (omega (arith, low vars body refl)) (All-nil (IsUpTo (n + 2))))

base-low : (p : ProgramForm) (n : ℕ) → IsNoHigher p n → All (IsUpTo (n + 2)) (base_rules p)
base-low p n low =
    All-append (IsUpTo (n + 2)) (rules_from 0 p.preds) p.rules (rules_from-each (IsUpTo (n + 2)) 0 p.preds each)
    (All-from_contains (IsUpTo (n + 2)) p.rules (λ rule at. two n rule (low.rules rule at)))
  where
    two : (m : ℕ) (rule : RuleForm) → height rule.body ≤ m → height rule.body ≤ m + 2
    two m rule is = omega (arith, is)

    each : (k : ℕ) (d : PredForm) → slice_get p.preds k ≡ Some d → All (IsUpTo (n + 2)) (pred_rules (k + 0) d)
    each k d found =
        All-append (IsUpTo (n + 2)) (property_rules (k + 0) d.props) (definition_rules (k + 0) d.kind)
        (properties-each (IsUpTo (n + 2)) (k + 0) d.props (λ _. omega arith) (λ _. omega arith) (λ _. omega arith)
        (λ _. omega arith) (λ _. omega arith) (λ _. omega arith))
        (definition-low n (k + 0) d.kind (λ vars body is. low.definitions d vars body (slice_get-contains p.preds k d found) is))

pub closed-low : (p : ProgramForm) (n : ℕ) → IsNoHigher p n → All (λ rule. height rule.body ≤ n + 4) (closed_rules p)
closed-low p n low =
    let bases : List RuleForm = map dropped_rule (base_rules p)
    in let are : All (IsUpTo (n + 2)) bases
    = All-map (IsUpTo (n + 2)) dropped_rule (base_rules p)
    (All-weaker (IsUpTo (n + 2)) (λ rule. IsUpTo (n + 2) (dropped_rule rule)) (λ rule is. omega (arith, is, dropped-low rule.head rule.body))
    (base_rules p) (base-low p n low))
    in All-append (IsUpTo (n + 4)) bases (flat_map further_rules bases)
    (All-weaker (IsUpTo (n + 2)) (IsUpTo (n + 4)) (λ rule is. omega (arith, is)) bases are)
    (All-flat_map (IsUpTo (n + 4)) further_rules bases
    (All-weaker (IsUpTo (n + 2)) (λ rule. All (IsUpTo (n + 4)) (further_rules rule))
    (λ rule is. All-weaker (IsUpTo (n + 2 + 1)) (IsUpTo (n + 4)) (λ r low_one. omega (arith, low_one)) (further_rules rule) (further-low (n + 2) rule is))
    bases are))
