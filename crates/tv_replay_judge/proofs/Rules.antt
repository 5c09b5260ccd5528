-- The first of some rules that a heap breaks.
use Rattle.std.proofs.Common.{ℕ, zero, suc, ◌≡◌, ◌<◌, ◌≤◌, ◌+◌, ◌*◌, ◌++◌, ◌∷◌, [], Bool, true, false, IsTrue}
use Rattle.std.proofs.Common.{◌↔◌, List, length, map, take, take_all, get_or, Option, Some, None, refl, sym}
use Rattle.std.proofs.Common.{ap, subst, ◌∙◌, arith}
use Rattle.std.specs.Prelude.{All, slice_get}
use Rattle.std.specs.Option.{option_map}
use Rattle.std.proofs.Math.Seq.{take-append-add}
use Rattle.std.proofs.lemmas.List.{length-append, take-map, take_more, take-append-le}
use Rattle.std.proofs.lemmas.List.Elements.{All-append, All-map, All-nil, All-push}
use Rattle.std.proofs.lemmas.Option.{slice_get-map, slice_get-get_or, slice_get_within}
use Rattle.tv_model.specs.Heap.{Heap}
use Rattle.tv_model.specs.Program.{PredForm, RuleForm, rule_of}
use Rattle.tv_model.specs.Rules.{MeetsRule, declared_rule, property_rules, unique_rule, function_rule}
use Rattle.tv_model.specs.Rules.{invfunction_rule, transitive_rule, reflexive_rule, symmetric_rule}
use Rattle.tv_model.specs.declared.program.Props.{Props}
use Rattle.tv_model.specs.declared.program.Rule.{Rule}
use Rattle.tv_replay_laws.specs.JudgedRules.{IsFirstUnmet, rules_of_properties}

-- the first n of the rules are met
abbrev pub MeetsFirst : Heap → List Rule → ℕ → Type 0
MeetsFirst h rules n = All (λ (rule : Rule). MeetsRule h (rule_of rule)) (take n rules)

pub first-more : (h : Heap) (rules : List Rule) (n : ℕ) (rule : Rule) → n < length rules → rule ≡ get_or rules n rule → MeetsFirst h rules n
    → IsTrue true ↔ MeetsRule h (rule_of rule) → MeetsFirst h rules (n + 1)
first-more h rules n rule below is before met =
    let P : Rule → Type 0 = λ r. MeetsRule h (rule_of r)
    in subst (All P) (sym (take_more rules n rule below)) (All-push P (take n rules) (get_or rules n rule) before (subst P is (met.0 refl)))

pub first-all : (h : Heap) (rules : List Rule) (n : ℕ) → length rules ≤ n → MeetsFirst h rules n → IsFirstUnmet h (map rule_of rules) None
first-all h rules n done before =
    let P : Rule → Type 0 = λ r. MeetsRule h (rule_of r)
    in All-map (MeetsRule h) rule_of rules (subst (All P) (take_all n rules done) before)

pub first-broken : (h : Heap) (rules : List Rule) (n : ℕ) (rule : Rule) → n < length rules → rule ≡ get_or rules n rule → MeetsFirst h rules n
    → IsTrue false ↔ MeetsRule h (rule_of rule) → IsFirstUnmet h (map rule_of rules) (Some n)
first-broken h rules n rule below is before fails =
    let there : slice_get rules n ≡ Some rule = slice_get-get_or rules n rule below ∙ ap Some (sym is)
    in (
      (rule_of rule, slice_get-map rule_of rules n ∙ ap (option_map rule_of) there, λ met. false_true (fails.1 met)),
      subst (All (MeetsRule h)) (sym (take-map rule_of n rules)) (All-map (MeetsRule h) rule_of (take n rules) before),
    )
  where
    false_true : IsTrue false → ⊥
    false_true e = cc

-- ---- two lists of rules, one behind the other

found-left : (xs ys : List RuleForm) (n : ℕ) (x : RuleForm) → slice_get xs n ≡ Some x → slice_get (xs ++ ys) n ≡ Some x
found-left [] ys n x is = absurd (none n x is)
  where
    none : (n : ℕ) (x : RuleForm) → slice_get [] n ≡ Some x → ⊥
    none n x e = cc
found-left (y ∷ xs) ys zero x is = is
found-left (y ∷ xs) ys (suc n) x is = found-left xs ys n x is

found-right : (xs ys : List RuleForm) (n : ℕ) → slice_get (xs ++ ys) (length xs + n) ≡ slice_get ys n
found-right [] ys n = ap (slice_get ys) (from_zero n)
  where
    from_zero : (n : ℕ) → 0 + n ≡ n
    from_zero n = omega arith
found-right (x ∷ xs) ys n = ap (slice_get (x ∷ xs ++ ys)) (one_more (length xs) n) ∙ found-right xs ys n
  where
    one_more : (k n : ℕ) → suc k + n ≡ suc (k + n)
    one_more k n = omega arith

pub both-met : (h : Heap) (xs ys : List RuleForm) → IsFirstUnmet h xs None → IsFirstUnmet h ys None → IsFirstUnmet h (xs ++ ys) None
both-met h xs ys left right = All-append (MeetsRule h) xs ys left right

pub left-broken : (h : Heap) (xs ys : List RuleForm) (n : ℕ) → IsFirstUnmet h xs (Some n) → IsFirstUnmet h (xs ++ ys) (Some n)
left-broken h xs ys n first =
    let within : n < length xs = slice_get_within xs n first.0.0 first.0.1
    in (
      (first.0.0, found-left xs ys n first.0.0 first.0.1, first.0.2),
      subst (All (MeetsRule h)) (sym (take-append-le n xs ys (omega (arith, within)))) first.1,
    )

pub right-broken : (h : Heap) (xs ys : List RuleForm) (n : ℕ) → IsFirstUnmet h xs None → IsFirstUnmet h ys (Some n)
    → IsFirstUnmet h (xs ++ ys) (Some (length xs + n))
right-broken h xs ys n left first = (
  (first.0.0, found-right xs ys n ∙ first.0.1, first.0.2),
  subst (All (MeetsRule h)) (sym (take-append-add xs ys n)) (All-append (MeetsRule h) xs (take n ys) left first.1),
)

-- ---- how many rules there are

pub unmet-within : (h : Heap) (rules : List RuleForm) (n : ℕ) → IsFirstUnmet h rules (Some n) → n < length rules
unmet-within h rules n first = slice_get_within rules n first.0.0 first.0.1

declared-count : (b : Bool) (rule : RuleForm) → length (declared_rule b rule) ≤ 1
declared-count true rule = omega arith
declared-count false rule = omega arith

joined-count : (xs ys : List RuleForm) (m n : ℕ) → length xs ≤ m → length ys ≤ n → length (xs ++ ys) ≤ m + n
joined-count xs ys m n left right = omega (arith, left, right, length-append xs ys)

property-count : (q : ℕ) (props : Props) → length (property_rules q props) ≤ 6
property-count q props =
    joined-count _ (declared_rule props.symmetric (symmetric_rule q)) 5 1
    (joined-count _ (declared_rule props.reflexive (reflexive_rule q)) 4 1
    (joined-count _ (declared_rule props.transitive (transitive_rule q)) 3 1
    (joined-count _ (declared_rule props.invfunction (invfunction_rule q)) 2 1
    (joined-count _ (declared_rule props.function (function_rule q)) 1 1
    (declared-count props.unique (unique_rule q)) (declared-count props.function (function_rule q)))
    (declared-count props.invfunction (invfunction_rule q))) (declared-count props.transitive (transitive_rule q)))
    (declared-count props.reflexive (reflexive_rule q))) (declared-count props.symmetric (symmetric_rule q))

pub properties-count : (q : ℕ) (preds : List PredForm) → length (rules_of_properties q preds) ≤ 6 * length preds
properties-count q [] = omega arith
properties-count q (d ∷ preds) =
    let all = joined-count (property_rules q d.props) (rules_of_properties (suc q) preds) 6 (6 * length preds) (property-count q d.props)
    (properties-count (suc q) preds)
    in more (length (rules_of_properties q (d ∷ preds))) (length preds) all
  where
    more : (n k : ℕ) → n ≤ 6 + 6 * k → n ≤ 6 * suc k
    more n k le = omega (arith, le)

-- what is found of a list is found of an equal one
pub carried : (h : Heap) (rules forms : List RuleForm) (o q : Option ℕ) → rules ≡ forms → o ≡ q → IsFirstUnmet h rules o
    → IsFirstUnmet h forms q
carried h rules forms o q same is first = subst (λ fs. IsFirstUnmet h fs q) same (subst (IsFirstUnmet h rules) is first)
