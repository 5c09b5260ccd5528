-- The closed rules that came of one base rule.
use Rattle.std.proofs.Common.{ℕ, ◌≡◌, ◌<◌, ◌≤◌, ◌+◌, ◌-◌, ◌↔◌, ⊎_elim, ◌∙◌, List, [], length, map, Option}
use Rattle.std.proofs.Common.{None, Some, Contains}
use Rattle.std.proofs.Common.{slice_get, unwrap_or, get_or, refl, sym, ap, subst, arith}
use Rattle.std.specs.Prelude.{slice_index_or}
use Rattle.std.specs.Option.{option_map}
use Rattle.std.proofs.lemmas.List.{length-map}
use Rattle.std.proofs.lemmas.Option.{slice_get-get_or, slice_get-map, slice_get_within, same_Some}
use Rattle.tv_model.proofs.Lists.{slice_get-none}
use Rattle.tv_model.specs.declared.program.Rule.{Rule}
use Rattle.tv_model.specs.Program.{KindForm, RuleForm, rule_of}
use Rattle.tv_coerce_members.specs.Members.{IsLaidOut}
use Rattle.tv_coerce_members.specs.declared.shapes.Shape.{Shape}
use Rattle.tv_coerce_moves.specs.Occurrences.{OccurrenceLists}
use Rattle.tv_rules.specs.declared.entries.Entry.{Entry}
use Rattle.tv_rules.specs.Closing.{conjuncts, definition_rules, dropped_rule}
use Rattle.tv_rules.specs.Decoded.{IsEntry}
use Rattle.tv_rules.specs.Defining.{IsOfDefinition}
use Rattle.tv_rules.specs.EntryForms.{EntryForm, closed_entries, entry_of, rules_of}
use Rattle.tv_rules.specs.Kept.{AreRuleLists}
use Rattle.tv_rules.specs.Kin.{IsKin, IsTriedBy, base_in, base_of, conjunct_count, skip_in, skip_of}
use Rattle.tv_rules.specs.Moved.{AreMovedBy}
use Rattle.tv_rules.specs.Waiting.{IsShape}
use Rattle.tv_rules.proofs.KeptLemmas.{entries-below, entry-is, members-counted, shape-is, some-at}
use Rattle.tv_rules.proofs.KeptLemmas.{variables-are, waits-are}
use Rattle.tv_rules.proofs.MovedLaws.{entry-count, less-or-last}

module _ (bases : List Rule) (shapes : List Shape) (entries : List Entry)
    (by_pred : List (List ℕ)) (by_sm : List ℕ) (is : AreRuleLists bases shapes entries by_pred by_sm)
    (rules : List Rule) (view : bases ≡ rules) where
  -- the entry of a rule
  entry-form : (n : ℕ) (e : Entry) → slice_get entries n ≡ Some e → slice_get (closed_entries (map rule_of bases)) n ≡ Some (entry_of e)
  entry-form n e at = ap (λ es. slice_get es n) (sym is.kept) ∙ slice_get-map entry_of entries n ∙ ap (option_map entry_of) at

  pub base-is-of : (n : ℕ) (e : Entry) → slice_get entries n ≡ Some e → base_of rules n ≡ e.base
  base-is-of n e at = subst (λ rs. base_of rs n ≡ e.base) view (ap base_in (entry-form n e at))

  pub skip-is : (n : ℕ) (e : Entry) (shape : Shape) → n < length (rules_of rules) → slice_get entries n ≡ Some e
      → slice_get shapes e.base ≡ Some shape → (skip : ℕ) → skip ≡ unwrap_or e.conjunct (length shape.members - 1)
      → skip ≡ skip_of rules n
  skip-is n e shape below at found skip skips =
      let rule : (r : RuleForm) × (slice_get (rules_of bases) n ≡ Some r)
      = some-at (rules_of bases) n (subst (λ rs. n < length (rules_of rs)) (sym view) below)
      in let entry : IsEntry (map rule_of bases) rule.0 (entry_of e) = entry-is bases shapes entries by_pred by_sm is n rule.0 e rule.1 at
      in let shaped : IsShape entry.base shape = shape-is bases shapes entries by_pred by_sm is n rule.0 e shape rule.1 at found
      in let count : length (conjuncts entry.base.body) ≡ length shape.members - 1 = omega (arith, members-counted entry.base shape shaped)
      in let read : conjunct_count (slice_get (map rule_of bases) e.base) ≡ length shape.members - 1
      = ap conjunct_count entry.there ∙ count
      in skips ∙ ap (unwrap_or e.conjunct) (sym read)
      ∙ sym (ap (skip_in (map rule_of bases)) (entry-form n e at))
      ∙ ap (λ rs. skip_of rs n) view

  pub laid-out : (n : ℕ) (e : Entry) (shape : Shape) → n < length (rules_of rules) → slice_get entries n ≡ Some e
      → slice_get shapes e.base ≡ Some shape → IsLaidOut shape
  laid-out n e shape below at found =
      let rule : (r : RuleForm) × (slice_get (rules_of bases) n ≡ Some r)
      = some-at (rules_of bases) n (subst (λ rs. n < length (rules_of rs)) (sym view) below)
      in (shape-is bases shapes entries by_pred by_sm is n rule.0 e shape rule.1 at found).laid

  pub kin-tried : (number : ℕ) (e : Entry) (shape : Shape) → slice_get entries number ≡ Some e
      → slice_get shapes e.base ≡ Some shape → (n : ℕ) (rule : RuleForm) → IsKin rules number n
      → slice_get (rules_of rules) n ≡ Some rule → IsTriedBy shape (skip_of rules n) rule
  kin-tried number e shape at found n rule kin there =
      let below : n < length entries = entries-below bases shapes entries by_pred by_sm is rules view n kin.within
      in let own : (x : Entry) × (slice_get entries n ≡ Some x) = some-at entries n below
      in let same : own.0.base ≡ e.base = sym (base-is-of n own.0 own.1) ∙ kin.base ∙ base-is-of number e at
      in let here : slice_get shapes own.0.base ≡ Some shape = ap (slice_get shapes) same ∙ found
      in let rule-there : slice_get (rules_of bases) n ≡ Some rule = ap (λ rs. slice_get (rules_of rs) n) view ∙ there
      in let skips : skip_of rules n ≡ unwrap_or own.0.conjunct (length shape.members - 1)
      = sym (skip-is n own.0 shape kin.within own.1 here (unwrap_or own.0.conjunct (length shape.members - 1)) refl)
      in record {
        free = variables-are bases shapes entries by_pred by_sm is n rule own.0 shape rule-there own.1 here;
        but = (waits-are bases shapes entries by_pred by_sm is n rule own.0 shape (skip_of rules n) rule-there own.1 here skips).0;
      }

  -- a rule's base rule is there
  pub base-there : (n : ℕ) (e : Entry) → n < length (rules_of rules) → slice_get entries n ≡ Some e
      → (base : RuleForm) × (slice_get (map rule_of bases) e.base ≡ Some base)
  base-there n e below at =
      let rule : (r : RuleForm) × (slice_get (rules_of bases) n ≡ Some r)
      = some-at (rules_of bases) n (subst (λ rs. n < length (rules_of rs)) (sym view) below)
      in let entry : IsEntry (map rule_of bases) rule.0 (entry_of e) = entry-is bases shapes entries by_pred by_sm is n rule.0 e rule.1 at
      in (entry.base, entry.there)

  pub base-below : (n : ℕ) (e : Entry) → n < length (rules_of rules) → slice_get entries n ≡ Some e → e.base < length bases
  base-below n e below at =
      let base : (b : RuleForm) × (slice_get (map rule_of bases) e.base ≡ Some b) = base-there n e below at
      in omega (arith, slice_get_within (map rule_of bases) e.base base.0 base.1, length-map bases rule_of)

  pub of-definition : (q : ℕ) (kind : KindForm) (n : ℕ) (e : Entry) → n < length (rules_of rules) → slice_get entries n ≡ Some e
      → (base : Rule) → slice_get bases e.base ≡ Some base
      → Contains (map dropped_rule (definition_rules q kind)) (rule_of base) → IsOfDefinition rules q kind n
  of-definition q kind n e below at base there of = record {
    within = below;
    base = rule_of base;
    there = ap (slice_get (map rule_of rules)) (base-is-of n e at) ∙ slice_get-map rule_of rules e.base
        ∙ ap (option_map rule_of) (ap (λ rs. slice_get rs e.base) (sym view) ∙ there);
    of = of;
  }

-- ---- a list is gone through

-- P holds of none of the first so many
abbrev pub HasNone : List ℕ → (P : ℕ → Type 0) → ℕ → Type 0
HasNone ns P count = (k n : ℕ) → k < count → slice_get ns k ≡ Some n → ¬ P n

pub one-more : (ns : List ℕ) (P : ℕ → Type 0) (k n : ℕ) → slice_get ns k ≡ Some n → ¬ P n → HasNone ns P k
    → HasNone ns P (k + 1)
one-more ns P k n there other so_far j m below found =
    ⊎_elim (λ less. so_far j m less found)
    (λ same. subst (λ x. ¬ P x) (same_Some n m (sym there ∙ ap (slice_get ns) (sym same) ∙ found)) other) (less-or-last j k below)

pub none-there : (ns : List ℕ) (P : ℕ → Type 0) (count : ℕ) → length ns ≤ count → HasNone ns P count → (n : ℕ)
    → Contains ns n → ¬ P n
none-there ns P count all none n has =
    none has.0 n (omega (arith, all, has.1)) (slice_get-get_or ns has.0 n has.1 ∙ ap Some has.2)

-- the list of a base rule has the numbers of its closed rules
pub kin-are : (bases : List Rule) (lists : OccurrenceLists) (families : List (List ℕ)) → AreMovedBy bases lists families
    → (rules : List Rule) → bases ≡ rules → (number : ℕ) (entries : List Entry)
    → map entry_of entries ≡ closed_entries (map rule_of bases) → (e : Entry) → slice_get entries number ≡ Some e
    → (found : List ℕ) → found ≡ get_or families e.base [] → (n : ℕ) → Contains found n ↔ IsKin rules number n
kin-are bases lists families by rules view number entries kept e at found same n = (
  λ has. let there : (n < length (rules_of bases)) × (base_in (slice_get (closed_entries (map rule_of bases)) n) ≡ e.base)
      = by.grouped.within e.base n (subst (λ ns. Contains ns n) same has)
      in subst (λ rs. IsKin rs number n) view (record { within = there.0; base = there.1 ∙ sym own }),
  λ kin. let here : IsKin bases number n = subst (λ rs. IsKin rs number n) (sym view) kin
      in subst (λ ns. Contains ns n) (sym same) (listed here (slice_get (closed_entries (map rule_of bases)) n) refl),
)
  where
    own : base_of bases number ≡ e.base
    own = ap base_in (ap (λ es. slice_get es number) (sym kept) ∙ slice_get-map entry_of entries number ∙ ap (option_map entry_of) at)

    listed : IsKin bases number n → (o : Option EntryForm) → slice_get (closed_entries (map rule_of bases)) n ≡ o
        → Contains (get_or families e.base []) n
    listed kin None none =
        absurd (omega (arith, kin.within, entry-count (map rule_of bases), slice_get-none (closed_entries (map rule_of bases)) n none))
    listed kin (Some x) some =
        subst (λ b. Contains (slice_index_or families b []) n) (sym (ap base_in some) ∙ kin.base ∙ own)
        (by.grouped.there n x kin.within some)
