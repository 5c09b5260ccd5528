-- Each entry stands for the closed rule of its number.
use Rattle.std.proofs.Common.{ℕ, suc, ◌≡◌, ◌+◌, List, [], ◌∷◌, ◌++◌, map, Option, None, Some, slice_get, refl}
use Rattle.std.proofs.Common.{ap, subst, arith}
use Rattle.std.specs.List.{AllZip, cons_option, filter_map, flat_map}
use Rattle.tv_model.specs.Form.{Form}
use Rattle.tv_model.specs.Program.{HeadForm, RuleForm}
use Rattle.tv_model.specs.declared.program.Head.TheVariants.{Never}
use Rattle.tv_rules.specs.declared.entries.Entry.{Entry}
use Rattle.tv_rules.specs.Closing.{Swap, swaps, conjuncts, negated, negated_head, rule_with, further_rules}
use Rattle.tv_rules.specs.Closing.{closed_set}
use Rattle.tv_rules.specs.Decoded.{IsEntry}
use Rattle.tv_rules.specs.EntryForms.{EntryForm, base_entries, literal_entry, literal_entries}
use Rattle.tv_rules.specs.EntryForms.{further_entries, closed_entries}
use Rattle.tv_rules.proofs.Written.{swaps_are_of_conjuncts}

pub AllZip-append : {X Y : Type 0} (R : X → Y → Type 0) (xs us : List X) (ys vs : List Y)
    → AllZip R xs ys → AllZip R us vs → AllZip R (xs ++ us) (ys ++ vs)
AllZip-append R [] us [] vs all later = later
AllZip-append R [] us (y ∷ ys) vs all later = absurd all
AllZip-append R (x ∷ xs) us [] vs all later = absurd all
AllZip-append R (x ∷ xs) us (y ∷ ys) vs all later = (all.0, AllZip-append R xs us ys vs all.1 later)

bases-kept : (all : List RuleForm) (n : ℕ) (rules : List RuleForm)
    → ((k m : ℕ) → m ≡ k + n → slice_get all m ≡ slice_get rules k) → AllZip (IsEntry all) rules (base_entries n rules)
bases-kept all n [] from = tt
bases-kept all n (rule ∷ rules) from = (
  record { base = rule; there = from 0 n (omega arith); about = refl; head = refl },
  bases-kept all (suc n) rules (λ k m e. from (suc k) m (omega (arith, e))),
)

literals-kept : (all : List RuleForm) (b : ℕ) (base : RuleForm) → slice_get all b ≡ Some base → (k : ℕ) (ss : List Swap)
    → ((j m : ℕ) → m ≡ j + k → slice_get (swaps (negated_head base.head) base.body) m ≡ slice_get ss j)
    → AllZip (IsEntry all) (filter_map (λ s. rule_with s.body (negated s.conjunct)) ss)
    (literal_entries b k (map (λ s. s.conjunct) ss))
literals-kept all b base there k [] from = tt
literals-kept all b base there k (s ∷ ss) from =
    go (negated s.conjunct) refl
    (filter_map (λ x. rule_with x.body (negated x.conjunct)) ss)
    (literal_entries b (suc k) (map (λ x. x.conjunct) ss))
    (literals-kept all b base there (suc k) ss (λ j m e. from (suc j) m (omega (arith, e))))
  where
    go : (o : Option HeadForm) → negated s.conjunct ≡ o → (rules : List RuleForm) (entries : List EntryForm)
        → AllZip (IsEntry all) rules entries
        → AllZip (IsEntry all) (cons_option (rule_with s.body o) rules) (cons_option (literal_entry b k o) entries)
    go None e rules entries later = later
    go (Some head) e rules entries later = (
      record { base = base; there = there; about = (s, from 0 k (omega arith), refl, e); head = refl },
      later,
    )

further-kept : (all : List RuleForm) (n : ℕ) (rules : List RuleForm)
    → ((k m : ℕ) → m ≡ k + n → slice_get all m ≡ slice_get rules k)
    → AllZip (IsEntry all) (flat_map further_rules rules) (further_entries n rules)
further-kept all n [] from = tt
further-kept all n (rule ∷ rules) from =
    AllZip-append (IsEntry all) (further_rules rule) (flat_map further_rules rules)
    (literal_entries n 0 (conjuncts rule.body)) (further_entries (suc n) rules)
    (subst Of ((swaps_are_of_conjuncts (negated_head rule.head) rule.body).each)
    (literals-kept all n rule (from 0 n (omega arith)) 0 (swaps (negated_head rule.head) rule.body) whole))
    (further-kept all (suc n) rules (λ k m e. from (suc k) m (omega (arith, e))))
  where
    Of : List Form → Type 0
    Of fs = AllZip (IsEntry all) (further_rules rule) (literal_entries n 0 fs)

    whole : (j m : ℕ) → m ≡ j + 0 → slice_get (swaps (negated_head rule.head) rule.body) m ≡ slice_get (swaps (negated_head rule.head) rule.body) j
    whole j m e = let same : m ≡ j = omega (arith, e) in ap (λ i. slice_get (swaps (negated_head rule.head) rule.body) i) same

pub entries-kept : (bases : List RuleForm) → AllZip (IsEntry bases) (closed_set bases) (closed_entries bases)
entries-kept bases =
    AllZip-append (IsEntry bases) bases (flat_map further_rules bases) (base_entries 0 bases) (further_entries 0 bases)
    (bases-kept bases 0 bases whole) (further-kept bases 0 bases whole)
  where
    whole : (k m : ℕ) → m ≡ k + 0 → slice_get bases m ≡ slice_get bases k
    whole k m e = let same : m ≡ k = omega (arith, e) in ap (λ i. slice_get bases i) same

-- what a read of an element of no entries would give
abbrev pub unread : Entry
unread = record { base = 0; conjunct = None; head = Never }
