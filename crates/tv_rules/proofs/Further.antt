-- A further rule follows from its base rule.
use Rattle.std.proofs.Common.{ℕ, ◌⊎◌, true, false, List, [], ◌∷◌, map, Option, None, Some, IfSome, inl, inr}
use Rattle.std.proofs.Common.{⊎_elim, All, Contains}
use Rattle.std.specs.List.{filter_map, cons_option}
use Rattle.std.proofs.lemmas.List.Elements.{All-nil, All-cons, All-head, All-tail, All-append, All-map}
use Rattle.std.proofs.lemmas.List.Elements.{All-weaker}
use Rattle.tv_model.specs.Form.{Form, FZero, FOne, FAtom, FIsNew, FSame, FNot, FAnd, FOr, FIff, FCond}
use Rattle.tv_model.specs.Form.{FExists, FForall, FClosure, IsFree}
use Rattle.tv_model.specs.Heap.{Heap}
use Rattle.tv_model.specs.Program.{HeadForm, HNever, HAtom, HSame, RuleForm}
use Rattle.tv_model.specs.Rules.{IsInHead, MeetsRule, head_formula}
use Rattle.tv_model.specs.Truth.{Assignment, Truth}
use Rattle.tv_eval_laws.proofs.InHeaps.{heaps_tell_truth}
use Rattle.tv_rules.specs.Closing.{rule_of_parts, Swap, swap_left, swap_right, swaps, signed_head, negated}
use Rattle.tv_rules.specs.Closing.{negated_head, rule_with}
use Rattle.tv_rules.specs.Laws.{FurtherRulesFollow}

-- what the body with x at a conjunct's place says of f, the body itself
record IsSwap (x f : Form) (s : Swap) : Type 0 where
  truth : (h : Heap) (a : Assignment) → Truth h a s.body → Truth h a s.conjunct → Truth h a f
  put_truth : (h : Heap) (a : Assignment) → Truth h a s.body → Truth h a x
  free : (v : ℕ) → IsFree v f → IsFree v s.body ⊎ IsFree v s.conjunct
  put_free : (v : ℕ) → IsFree v x → IsFree v s.body

swap-whole : (x f : Form) → All (IsSwap x f) (record { conjunct = f; body = x } ∷ [])
swap-whole x f =
    All-cons (IsSwap x f) (record { conjunct = f; body = x }) []
    (record { truth = λ h a t c. c; put_truth = λ h a t. t; free = λ v k. inr k; put_free = λ v k. k })
    (All-nil (IsSwap x f))

swap-left : (x f g : Form) (s : Swap) → IsSwap x f s → IsSwap x (FAnd f g) (swap_left g s)
swap-left x f g s is = record {
  truth = λ h a t c. (is.truth h a t.0 c, t.1);
  put_truth = λ h a t. is.put_truth h a t.0;
  free = λ v k. ⊎_elim (λ l. ⊎_elim (λ b. inl (inl b)) (λ c. inr c) (is.free v l)) (λ r. inl (inr r)) k;
  put_free = λ v k. inl (is.put_free v k);
}

swap-right : (x f g : Form) (s : Swap) → IsSwap x g s → IsSwap x (FAnd f g) (swap_right f s)
swap-right x f g s is = record {
  truth = λ h a t c. (t.0, is.truth h a t.1 c);
  put_truth = λ h a t. is.put_truth h a t.1;
  free = λ v k. ⊎_elim (λ l. inl (inl l)) (λ r. ⊎_elim (λ b. inl (inr b)) (λ c. inr c) (is.free v r)) k;
  put_free = λ v k. inr (is.put_free v k);
}

swaps-right : (x f : Form) → All (IsSwap x f) (swaps x f)
swaps-right x FZero = swap-whole x FZero
swaps-right x FOne = swap-whole x FOne
swaps-right x (FAtom p vars) = swap-whole x (FAtom p vars)
swaps-right x (FIsNew v) = swap-whole x (FIsNew v)
swaps-right x (FSame v w) = swap-whole x (FSame v w)
swaps-right x (FNot f) = swap-whole x (FNot f)
swaps-right x (FAnd f g) =
    All-append (IsSwap x (FAnd f g)) (map (swap_left g) (swaps x f)) (map (swap_right f) (swaps x g))
    (All-map (IsSwap x (FAnd f g)) (swap_left g) (swaps x f)
    (All-weaker (IsSwap x f) (λ s. IsSwap x (FAnd f g) (swap_left g s)) (swap-left x f g) (swaps x f) (swaps-right x f)))
    (All-map (IsSwap x (FAnd f g)) (swap_right f) (swaps x g)
    (All-weaker (IsSwap x g) (λ s. IsSwap x (FAnd f g) (swap_right f s)) (swap-right x f g) (swaps x g) (swaps-right x g)))
swaps-right x (FOr f g) = swap-whole x (FOr f g)
swaps-right x (FIff f g) = swap-whole x (FIff f g)
swaps-right x (FCond c f g) = swap-whole x (FCond c f g)
swaps-right x (FExists v f) = swap-whole x (FExists v f)
swaps-right x (FForall v f) = swap-whole x (FForall v f)
swaps-right x (FClosure from to left right f) = swap-whole x (FClosure from to left right f)

-- where the literal is false, the head is true; and it has the literal's variables
record Denies (literal : Form) (head : HeadForm) : Type 0 where
  truth : (h : Heap) (a : Assignment) → ((v : ℕ) → IsFree v literal → Contains h.individuals (a v))
      → (¬ Truth h a literal) → Truth h a (head_formula head)
  free : (v : ℕ) → IsFree v literal → IsInHead v head

-- what isn't false is true
stands : (h : Heap) (a : Assignment) (f : Form) → ((v : ℕ) → IsFree v f → Contains h.individuals (a v))
    → (¬ ¬ Truth h a f) → Truth h a f
stands h a f inside n = ⊎_elim (λ t. t) (λ m. absurd (n m)) ((heaps_tell_truth h a f inside).decided)

signed-denies : (f : Form) → IfSome (signed_head true f) (Denies (FNot f))
signed-denies FZero = tt
signed-denies FOne = tt
signed-denies (FAtom p vars) = record { truth = λ h a inside n. stands h a (FAtom p vars) inside n; free = λ u k. k }
signed-denies (FIsNew v) = tt
signed-denies (FSame v w) = record { truth = λ h a inside n. stands h a (FSame v w) inside n; free = λ u k. k }
signed-denies (FNot f) = tt
signed-denies (FAnd f g) = tt
signed-denies (FOr f g) = tt
signed-denies (FIff f g) = tt
signed-denies (FCond c f g) = tt
signed-denies (FExists v f) = tt
signed-denies (FForall v f) = tt
signed-denies (FClosure from to left right f) = tt

negated-denies : (f : Form) → IfSome (negated f) (Denies f)
negated-denies (FNot f) = signed-denies f
negated-denies FZero = tt
negated-denies FOne = tt
negated-denies (FAtom p vars) = record { truth = λ h a inside n. n; free = λ u k. k }
negated-denies (FIsNew v) = tt
negated-denies (FSame v w) = record { truth = λ h a inside n. n; free = λ u k. k }
negated-denies (FAnd f g) = tt
negated-denies (FOr f g) = tt
negated-denies (FIff f g) = tt
negated-denies (FCond c f g) = tt
negated-denies (FExists v f) = tt
negated-denies (FForall v f) = tt
negated-denies (FClosure from to left right f) = tt

-- a head and its negation aren't both true
heads-differ : (h : Heap) (a : Assignment) (head : HeadForm) → Truth h a (head_formula head) → Truth h a (negated_head head) → ⊥
heads-differ h a HNever k t = k
heads-differ h a (HAtom true p vars) k t = t k
heads-differ h a (HAtom false p vars) k t = k t
heads-differ h a (HSame true v w) k t = t k
heads-differ h a (HSame false v w) k t = k t

head-free : (v : ℕ) (head : HeadForm) → IsInHead v head → IsFree v (negated_head head)
head-free v HNever k = k
head-free v (HAtom true p vars) k = k
head-free v (HAtom false p vars) k = k
head-free v (HSame true u w) k = k
head-free v (HSame false u w) k = k

meets-one : (h : Heap) (rule : RuleForm) (s : Swap) (head : HeadForm) → MeetsRule h rule
    → IsSwap (negated_head rule.head) rule.body s → Denies s.conjunct head → MeetsRule h (rule_of_parts s.body head)
meets-one h rule s head meets is denies a inside t =
    denies.truth h a (λ v free. inside v (inr (denies.free v free)))
    (λ c. heads-differ h a rule.head (meets a within (is.truth h a t c)) (is.put_truth h a t))
  where
    within : (v : ℕ) → IsFree v rule.body ⊎ IsInHead v rule.head → Contains h.individuals (a v)
    within v k =
        inside v
        (⊎_elim
        (λ free. ⊎_elim (λ b. inl b) (λ c. inr (denies.free v c)) (is.free v free))
        (λ top. inl (is.put_free v (head-free v rule.head top)))
        k)

meets-some : (h : Heap) (rule : RuleForm) (s : Swap) (o : Option HeadForm) → MeetsRule h rule
    → IsSwap (negated_head rule.head) rule.body s → IfSome o (Denies s.conjunct) → IfSome (rule_with s.body o) (MeetsRule h)
meets-some h rule s None meets is none = tt
meets-some h rule s (Some head) meets is denies = meets-one h rule s head meets is denies

pub All-filter_map : {X Y : Type 0} (P : Y → Type 0) (k : X → Option Y) (xs : List X) → All (λ x. IfSome (k x) P) xs
    → All P (filter_map k xs)
All-filter_map P k [] all = All-nil P
All-filter_map {X} {Y} P k (x ∷ xs) all =
    go (k x) (All-head (λ y. IfSome (k y) P) x xs all) (filter_map k xs)
    (All-filter_map P k xs (All-tail (λ y. IfSome (k y) P) x xs all))
  where
    go : (o : Option Y) → IfSome o P → (ys : List Y) → All P ys → All P (cons_option o ys)
    go None none ys later = later
    go (Some y) here ys later = All-cons P y ys here later

pub further_rules_follow : FurtherRulesFollow
further_rules_follow h rule meets =
    All-filter_map (MeetsRule h) (λ s. rule_with s.body (negated s.conjunct)) (swaps (negated_head rule.head) rule.body)
    (All-weaker (IsSwap (negated_head rule.head) rule.body) (λ s. IfSome (rule_with s.body (negated s.conjunct)) (MeetsRule h))
    (λ s is. meets-some h rule s (negated s.conjunct) meets is (negated-denies s.conjunct))
    (swaps (negated_head rule.head) rule.body) (swaps-right (negated_head rule.head) rule.body))
