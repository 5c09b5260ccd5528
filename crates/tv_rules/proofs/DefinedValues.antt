-- A structure is stable under the rules of a definition where the predicate has the values of its definition.
use Rattle.std.proofs.Common.{ℕ, zero, suc, ◌≡◌, ◌≢◌, ◌<◌, ◌⊎◌, ◌∙◌, Bool, true, false, not, List, [], ◌∷◌}
use Rattle.std.proofs.Common.{◌++◌}
use Rattle.std.proofs.Common.{map, length, Option, None, Some, slice_get, slice_index_or, inl, inr, ⊎_elim}
use Rattle.std.proofs.Common.{refl, sym, ap, subst, All, Contains, arith, if◌then◌else◌, unwrap_or}
use Rattle.std.specs.List.{AllZip}
use Rattle.std.proofs.lemmas.Bool.{cases_eq}
use Rattle.std.proofs.lemmas.List.Elements.{All-contains, All-map}
use Rattle.std.proofs.lemmas.List.{length-map}
use Rattle.std.proofs.lemmas.Option.{same_Some, slice_get-get_or, slice_get_within}
use Rattle.tv_kleene.specs.declared.K3.{K3}
use Rattle.tv_kleene.specs.declared.K3.TheVariants.{No, Half, Yes}
use Rattle.tv_kleene.specs.Kleene.{negation_of}
use Rattle.tv_kleene.proofs.Thresholds.{Must, May, must_threshold, may_threshold}
use Rattle.tv_model.specs.Form.{Form, FZero, FOne, FAtom, FIsNew, FSame, FNot, FAnd, FOr, FIff, FCond}
use Rattle.tv_model.specs.Form.{FExists, FForall, FClosure, IsFree}
use Rattle.tv_model.specs.Program.{HeadForm, HNever, HAtom, HSame, KindForm, KCore, KDefined, RuleForm}
use Rattle.tv_model.specs.Program.{rule_of}
use Rattle.tv_model.specs.declared.program.Rule.{Rule}
use Rattle.tv_model.specs.Rules.{IsInHead, blank, head_formula}
use Rattle.tv_model.specs.Truth.{Assignment, put, put_all}
use Rattle.tv_embedding_laws.specs.LogicalStructure.{LogicalStructure}
use Rattle.tv_eval_laws.specs.Value.{value}
use Rattle.tv_eval_laws.proofs.Agreed.{only_free_variables_matter}
use Rattle.tv_eval_laws.proofs.Folds.{greatest-threshold}
use Rattle.tv_stable_laws.specs.Stable.{IsHeadMet, IsStableUnder}
use Rattle.tv_model.specs.Free.{is_free}
use Rattle.tv_rules.specs.Closing.{conjuncts, definition_rules, dropped, dropped_rule, is_in_head}
use Rattle.tv_rules.specs.Closing.{may_drop}
use Rattle.tv_rules.specs.Closing.{closed_set, negated_head}
use Rattle.tv_rules.specs.Decoded.{IsEntry, IsRuleAbout}
use Rattle.tv_rules.specs.Defining.{DefinedValuesAreStable, HasDefinedValues, IsOfDefinition}
use Rattle.tv_rules.specs.EntryForms.{EntryForm, closed_entries, rules_of}
use Rattle.tv_rules.specs.Kin.{base_in, base_of}
use Rattle.tv_rules.specs.Waiting.{IsAllBut}
use Rattle.tv_rules.proofs.AllBut.{before-all, behind-all, contains-at}
use Rattle.tv_rules.proofs.Carried.{conjuncts_carry_formulas, from-conjuncts}
use Rattle.tv_rules.proofs.EntryLemmas.{entries-kept}
use Rattle.tv_rules.proofs.Family.{free-alike, zip-at, zip-length}
use Rattle.tv_model.proofs.FreeTests.{and-parts, free-from}
use Rattle.tv_rules.proofs.Free.{put-itself, put_all-gives}
use Rattle.tv_rules.proofs.KeptLemmas.{but-about, some-at}

must-yes : (k : K3) → k ≡ Yes → Must k
must-yes k e = subst Must (sym e) tt

yes-must : (k : K3) → Must k → k ≡ Yes
yes-must No h = absurd h
yes-must Half h = absurd h
yes-must Yes h = refl

may-or-no : (k : K3) → May k ⊎ (k ≡ No)
may-or-no No = inr refl
may-or-no Half = inl tt
may-or-no Yes = inl tt

must-may : (k : K3) → Must k → May k
must-may No h = absurd h
must-may Half h = absurd h
must-may Yes h = tt

no-may : (k : K3) → k ≡ No → ¬ May k
no-may k e = subst (λ x. ¬ May x) (sym e) (λ h. h)

twice-negated : (k : K3) → k ≡ negation_of (negation_of k)
twice-negated No = refl
twice-negated Half = refl
twice-negated Yes = refl

-- ---- the head

module _ (s : LogicalStructure) (a : Assignment) where
  -- a head has the negated value of its negation
  head-denied : (head : HeadForm) → value s a (head_formula head) ≡ negation_of (value s a (negated_head head))
  head-denied HNever = refl
  head-denied (HAtom true p vars) = twice-negated (value s a (FAtom p vars))
  head-denied (HAtom false p vars) = refl
  head-denied (HSame true v w) = twice-negated (value s a (FSame v w))
  head-denied (HSame false v w) = refl

  denied-head : (head : HeadForm) → Must (value s a (negated_head head)) → ¬ May (value s a (head_formula head))
  denied-head head is =
      no-may (value s a (head_formula head))
      (head-denied head ∙ ap negation_of (yes-must (value s a (negated_head head)) is))

-- ---- values of the body and of the head

module _ (s : LogicalStructure) (head : HeadForm) where
  abbrev Inside : Form → Assignment → Type 0
  Inside f a = (v : ℕ) → IsFree v f ⊎ IsInHead v head → Contains s.individuals (a v)

  -- the formula isn't truer than the head
  abbrev Below : Form → Type 0
  Below f = (a : Assignment) → Inside f a
      → (Must (value s a f) → Must (value s a (head_formula head)))
      × (May (value s a f) → May (value s a (head_formula head)))

  under : (v : ℕ) (f : Form) → IsFree v f → Below (FExists v f) → Below f
  under v f free below a inside = (
    λ is. both.0 ((greatest-threshold Must must_threshold here s.individuals).1 (a v, inside v (inl free), subst Must (sym own) is)),
    λ is. both.1 ((greatest-threshold May may_threshold here s.individuals).1 (a v, inside v (inl free), subst May (sym own) is)),
  )
    where
      here : ℕ → K3
      here u = value s (put a v u) f

      own : here (a v) ≡ value s a f
      own = only_free_variables_matter s f (put a v (a v)) a (λ w k. put-itself a v w)

      both : (Must (value s a (FExists v f)) → Must (value s a (head_formula head)))
          × (May (value s a (FExists v f)) → May (value s a (head_formula head)))
      both = below a (λ w at. ⊎_elim (λ k. inside w (inl k.1)) (λ k. inside w (inr k)) at)

  below-dropped : (f : Form) → Below f → Below (dropped head f)
  below-dropped (FExists v f) below = go (below-dropped f) (may_drop v head f) refl
    where
      go : (Below f → Below (dropped head f)) → (b : Bool) → may_drop v head f ≡ b
          → Below (if b then dropped head f else FExists v f)
      go rest false e = below
      go rest true e = rest
          (under v f (free-from v f (and-parts (not (is_in_head v head)) (is_free v f) e).1) below)
  below-dropped FZero below = below
  below-dropped FOne below = below
  below-dropped (FAtom p vars) below = below
  below-dropped (FIsNew v) below = below
  below-dropped (FSame v w) below = below
  below-dropped (FNot f) below = below
  below-dropped (FAnd f g) below = below
  below-dropped (FOr f g) below = below
  below-dropped (FIff f g) below = below
  below-dropped (FCond c f g) below = below
  below-dropped (FForall v f) below = below
  below-dropped (FClosure from to left right f) below = below

-- ---- the closed rules of a base rule whose body isn't truer than its head

module _ (s : LogicalStructure) (base rule : RuleForm) (below : Below s base.head base.body) (skip : ℕ)
    (but : IsAllBut (conjuncts base.body ++ negated_head base.head ∷ []) skip rule) where
  abbrev fs : List Form
  fs = conjuncts base.body

  abbrev x : Form
  x = negated_head base.head

  module _ (a : Assignment) (inside : Inside s base.head base.body a) (is : value s a rule.body ≡ Yes) where
    other-yes : (k : ℕ) (f : Form) → k ≢ skip → slice_get (fs ++ x ∷ []) k ≡ Some f → Must (value s a f)
    other-yes k f apart there =
        must-yes (value s a f) (All-contains (λ g. value s a g ≡ Yes) (conjuncts rule.body) f
        (((conjuncts_carry_formulas rule.body).yes s a).0 is) ((but.others f).1 (k, apart, there)))

    met : value s a (negated_head rule.head) ≡ No → IsHeadMet s a rule.head
    met none = inl (head-denied s a rule.head ∙ ap negation_of none)

    -- the head of the base rule is denied
    last : skip ≡ length fs → IsHeadMet s a rule.head
    last whole = inl (head-denied s a rule.head ∙ ap (λ g. negation_of (value s a g)) same
        ∙ sym (head-denied s a base.head) ∙ yes-must (value s a (head_formula base.head)) ((below a inside).0 body))
      where
        same : negated_head rule.head ≡ x
        same = same_Some (negated_head rule.head) x
            (sym but.denied ∙ ap (slice_get (fs ++ x ∷ [])) whole ∙ behind-all fs x)

        body : Must (value s a base.body)
        body = from-conjuncts (λ g. Must (value s a g))
            (λ g h k l. (must_threshold.smaller (value s a g) (value s a h)).1 (k, l)) base.body
            (λ k d lt. other-yes k (slice_index_or fs k d) (λ e. absurd (omega (arith, e, whole, lt)))
            (before-all fs x (slice_index_or fs k d) k (slice_get-get_or fs k d lt)))

    -- another conjunct is
    further : skip ≢ length fs → IsHeadMet s a rule.head
    further apart = go (may-or-no (value s a (negated_head rule.head)))
      where
        denied : ¬ May (value s a (head_formula base.head))
        denied = denied-head s a base.head
            (other-yes (length fs) x (λ e. apart (sym e)) (behind-all fs x))

        go : May (value s a (negated_head rule.head)) ⊎ (value s a (negated_head rule.head) ≡ No) → IsHeadMet s a rule.head
        go (inr none) = met none
        go (inl may) = absurd (denied ((below a inside).1 body))
          where
            each : (k : ℕ) (f : Form) → slice_get fs k ≡ Some f → (k ≡ skip) ⊎ (k ≢ skip) → May (value s a f)
            each k f there (inl own) =
                subst (λ g. May (value s a g)) (same_Some (negated_head rule.head) f
                (sym but.denied ∙ ap (slice_get (fs ++ x ∷ [])) (sym own) ∙ before-all fs x f k there)) may
            each k f there (inr other) =
                must-may (value s a f) (other-yes k f other (before-all fs x f k there))

            body : May (value s a base.body)
            body = from-conjuncts (λ g. May (value s a g))
                (λ g h k l. (may_threshold.smaller (value s a g) (value s a h)).1 (k, l)) base.body
                (λ k d lt. each k (slice_index_or fs k d) (slice_get-get_or fs k d lt) (cases_eq k skip))

    head-met : IsHeadMet s a rule.head
    head-met = ⊎_elim last further (cases_eq skip (length fs))

-- ---- definitions

-- the arguments of the head are individuals
args-inside : (s : LogicalStructure) (flag : Bool) (q : ℕ) (vars : List ℕ) (f : Form) (a : Assignment)
    → Inside s (HAtom flag q vars) f a → All (λ v. Contains s.individuals (a v)) vars
args-inside s flag q vars f a inside k d lt =
    inside (slice_index_or vars k d) (inr (contains-at vars k (slice_index_or vars k d) (slice_get-get_or vars k d lt)))

defined-below : (s : LogicalStructure) (q : ℕ) (kind : KindForm) → HasDefinedValues s q kind → (base : RuleForm)
    → Contains (map dropped_rule (definition_rules q kind)) base → Below s base.head base.body
defined-below s q KCore has base (n, lt, e) = absurd (omega (arith, lt))
defined-below s q (KDefined vars body) has base (zero, lt, e) =
    subst (λ (r : RuleForm). Below s r.head r.body) e
    (below-dropped s (HAtom true q vars) body
    (λ a inside. let same : value s a (FAtom q vars) ≡ value s a body = has a (args-inside s true q vars body a inside)
    in (λ is. subst Must (sym same) is, λ is. subst May (sym same) is)))
defined-below s q (KDefined vars body) has base (suc zero, lt, e) =
    subst (λ (r : RuleForm). Below s r.head r.body) e
    (λ a inside. let same : negation_of (value s a (FAtom q vars)) ≡ negation_of (value s a body)
    = ap negation_of (has a (args-inside s false q vars (FNot body) a inside))
    in (λ is. subst Must (sym same) is, λ is. subst May (sym same) is))
defined-below s q (KDefined vars body) has base (suc (suc n), lt, e) = absurd (omega (arith, lt))

pub defined_values_are_stable : DefinedValuesAreStable
defined_values_are_stable bases q kind n is s has rule there = go (some-at (closed_entries (map rule_of bases)) n below)
  where
    kept : AllZip (IsEntry (map rule_of bases)) (rules_of bases) (closed_entries (map rule_of bases))
    kept = entries-kept (map rule_of bases)

    below : n < length (closed_entries (map rule_of bases))
    below = omega (arith, is.within, zip-length (IsEntry (map rule_of bases)) (rules_of bases) (closed_entries (map rule_of bases)) kept)

    go : (e : EntryForm) × (slice_get (closed_entries (map rule_of bases)) n ≡ Some e) → IsStableUnder s rule
    go (e, at) a inside body =
        let entry : IsEntry (map rule_of bases) rule e
        = zip-at (IsEntry (map rule_of bases)) (rules_of bases) (closed_entries (map rule_of bases)) kept n rule e there at
        in let same : is.base ≡ entry.base
        = same_Some is.base entry.base (sym is.there ∙ ap (slice_get (map rule_of bases)) (ap base_in at) ∙ entry.there)
        in let lies : Below s entry.base.head entry.base.body
        = subst (λ (r : RuleForm). Below s r.head r.body) same (defined-below s q kind has is.base is.of)
        in head-met s entry.base rule lies (unwrap_or e.conjunct (length (conjuncts entry.base.body)))
        (but-about e.conjunct entry.base rule entry.about) a
        (λ v k. inside v ((free-alike v e.conjunct entry.base rule entry.about).1 k)) body

-- values of a definition at all tuples of individuals are its values for any individuals
pub defined-everywhere : (s : LogicalStructure) (q : ℕ) (vars : List ℕ) (body : Form) → ((v : ℕ) → IsFree v body → Contains vars v)
    → ((tuple : List ℕ) → All (Contains s.individuals) tuple → length tuple ≡ length vars
    → s.value q tuple ≡ value s (put_all blank vars tuple) body)
    → HasDefinedValues s q (KDefined vars body)
defined-everywhere s q vars body over values a inside =
    values (map a vars) (All-map (Contains s.individuals) a vars inside) (length-map vars a)
    ∙ only_free_variables_matter s body (put_all blank vars (map a vars)) a (λ v free. put_all-gives blank a vars v (over v free))
