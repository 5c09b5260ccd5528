-- A choice of focus on a stable structure is stable under the rules about other predicates.
use Rattle.std.proofs.Common.{ℕ, ◌≡◌, ◌≢◌, ◌∙◌, ◌<◌, List, [], ◌∷◌, ◌++◌, length, map, Bool, Some, inl, inr}
use Rattle.std.proofs.Common.{⊎_elim, refl, sym, ap, subst, ne_eqb, slice_get, All, Contains}
use Rattle.std.specs.Prelude.{◌==◌}
use Rattle.std.specs.List.{AllZip}
use Rattle.std.proofs.lemmas.Bool.{cond-false}
use Rattle.std.proofs.lemmas.List.{length-map, map-id}
use Rattle.std.proofs.lemmas.List.Elements.{All-nil, All-cons, All-append, All-contains}
use Rattle.std.proofs.lemmas.Option.{slice_get_within}
use Rattle.tv_lemmas.proofs.Zips.{zip_found}
use Rattle.tv_kleene.specs.declared.K3.{K3}
use Rattle.tv_model.specs.Form.{Form, FZero, FOne, FAtom, FIsNew, FSame, FNot, FAnd, FOr, FIff, FCond}
use Rattle.tv_model.specs.Form.{FExists, FForall, FClosure, Mentions}
use Rattle.tv_model.specs.Program.{ProgramForm, RuleForm}
use Rattle.tv_model.specs.Valid.{IsValid}
use Rattle.tv_model.proofs.Lists.{All-from_contains, Contains-cases}
use Rattle.tv_model.proofs.Lists.{Contains-map_back, Contains-none, slice_get-contains}
use Rattle.tv_embedding_laws.specs.LogicalStructure.{LogicalStructure}
use Rattle.tv_stable_laws.specs.Laws.{IsPlainRule}
use Rattle.tv_stable_laws.specs.Stable.{IsStableUnder}
use Rattle.tv_rules.specs.Closing.{closed_rules}
use Rattle.tv_rules.specs.Standing.{StandsIn, SeesSummaries}
use Rattle.tv_rules.proofs.Ranges.{rules_are_plain}
use Rattle.tv_coerce_laws.specs.Split.{KeepsValues, IsRuleOfTuples}
use Rattle.tv_coerce_laws.proofs.Splits.{splits_are_stable}
use Rattle.tv_structure_form.specs.StructureForm.{StructureForm, structure_of, arities_of, value_at}
use Rattle.tv_structure_form.proofs.Library.{AreIndividuals-range, Contains-range, below-range}
use Rattle.tv_focus_laws.specs.FocusAtoms.{AtomForm, focus_atoms}
use Rattle.tv_focus_laws.specs.Choices.{AimForm, ChoiceForm, MemberForm, SplitForm, Nothing, Whole, Each}
use Rattle.tv_focus_laws.specs.Choices.{choices, chosen, definite, focused_value, member_at, members}
use Rattle.tv_focus_laws.specs.Choices.{copy_of}
use Rattle.tv_focus_laws.specs.Stages.{atom_at, no_atom, split_at, split_structures, whole_value, with_whole}
use Rattle.tv_focus_laws.specs.Tables.{Shows}
use Rattle.tv_focus_laws.proofs.ChosenTables.{Copies, copies-are}
use Rattle.tv_focus_laws.proofs.Tables.{Fits, fits-or_No}
use Rattle.tv_focus_laws.proofs.Members.{members-inside}
use Rattle.tv_focus.specs.Anchored.{AreAtomsOver}
use Rattle.tv_coerce.specs.RuleSets.{IsStableBut}
use Rattle.tv_step_laws.specs.Shaped.{IsShaped}
use Rattle.tv_step_laws.specs.Transfer.{FocusPlace, choices_at, IsTableOf}
use Rattle.tv_step.specs.Setting.{IsStableIn}
use Rattle.tv_step.specs.Waiting.{WaitsAt}

-- ---- the atoms of a formula

atoms-mentioned : (f : Form) → All (λ (a : AtomForm). Mentions a.pred f) (focus_atoms f)
atoms-mentioned FZero = All-nil (λ (a : AtomForm). Mentions a.pred FZero)
atoms-mentioned FOne = All-nil (λ (a : AtomForm). Mentions a.pred FOne)
atoms-mentioned (FAtom q vars) =
    All-cons (λ (a : AtomForm). Mentions a.pred (FAtom q vars)) (record { pred = q; vars = vars }) [] refl
    (All-nil (λ (a : AtomForm). Mentions a.pred (FAtom q vars)))
atoms-mentioned (FIsNew v) = All-nil (λ (a : AtomForm). Mentions a.pred (FIsNew v))
atoms-mentioned (FSame v w) = All-nil (λ (a : AtomForm). Mentions a.pred (FSame v w))
atoms-mentioned (FNot f) = atoms-mentioned f
atoms-mentioned (FAnd f g) =
    All-append (λ (a : AtomForm). Mentions a.pred (FAnd f g)) (focus_atoms f) (focus_atoms g)
    (λ k d lt. inl (atoms-mentioned f k d lt)) (λ k d lt. inr (atoms-mentioned g k d lt))
atoms-mentioned (FOr f g) =
    All-append (λ (a : AtomForm). Mentions a.pred (FOr f g)) (focus_atoms f) (focus_atoms g)
    (λ k d lt. inl (atoms-mentioned f k d lt)) (λ k d lt. inr (atoms-mentioned g k d lt))
atoms-mentioned (FIff f g) =
    All-append (λ (a : AtomForm). Mentions a.pred (FIff f g)) (focus_atoms f) (focus_atoms g)
    (λ k d lt. inl (atoms-mentioned f k d lt)) (λ k d lt. inr (atoms-mentioned g k d lt))
atoms-mentioned (FCond c f g) =
    All-append (λ (a : AtomForm). Mentions a.pred (FCond c f g)) (focus_atoms c)
    (focus_atoms f ++ focus_atoms g) (λ k d lt. inl (atoms-mentioned c k d lt))
    (All-append (λ (a : AtomForm). Mentions a.pred (FCond c f g)) (focus_atoms f) (focus_atoms g)
    (λ k d lt. inr (inl (atoms-mentioned f k d lt))) (λ k d lt. inr (inr (atoms-mentioned g k d lt))))
atoms-mentioned (FExists v f) = atoms-mentioned f
atoms-mentioned (FForall v f) = atoms-mentioned f
atoms-mentioned (FClosure from to left right f) =
    All-nil (λ (a : AtomForm). Mentions a.pred (FClosure from to left right f))

-- ---- what a choice keeps

-- l is split from s, with the values of all predicates but one
abbrev pub IsSplitOf : LogicalStructure → (pred : ℕ) → LogicalStructure → Type 0
IsSplitOf s pred l = (m : ℕ → ℕ) × KeepsValues (λ q. q ≢ pred) m l s

itself : (s : LogicalStructure) (pred : ℕ) → IsSplitOf s pred s
itself s pred = (
  λ u. u,
  record {
    into = λ u at. at;
    onto = λ w at. (w, at, refl);
    values = λ q ne tuple all. ap (s.value q) (sym (map-id tuple));
  },
)

whole-kept : (s : LogicalStructure) (pred : ℕ) (k : K3) (q : ℕ) → q ≢ pred → (tuple : List ℕ)
    → whole_value s pred k q tuple ≡ s.value q tuple
whole-kept s pred k q ne [] = cond-false (q == pred) k (s.value q []) (ne_eqb q pred ne)
whole-kept s pred k q ne (u ∷ tuple) = refl

made-whole : (s : LogicalStructure) (pred : ℕ) (k : K3) → IsSplitOf s pred (with_whole s pred k)
made-whole s pred k = (
  λ u. u,
  record {
    into = λ u at. at;
    onto = λ w at. (w, at, refl);
    values = λ q ne tuple all. whole-kept s pred k q ne tuple ∙ ap (s.value q) (sym (map-id tuple));
  },
)

chosen-split : (s : StructureForm) (pred : ℕ) (aim : AimForm) (choice : ChoiceForm)
    → Contains (choices (structure_of s) pred aim) choice
    → IsSplitOf (structure_of s) pred (chosen (structure_of s) pred aim choice)
chosen-split s pred aim choice at = (
  λ x. (member_at ms x).origin,
  record {
    into = λ x there.
        members-inside (structure_of s).individuals choice x _ (below-range (length ms) x there);
    onto = λ w there. let lt : w < s.size = below-range s.size w there in (
      copy_of ms w,
      Contains-range (length ms) (copy_of ms w) (copies.inside w lt),
      copies.origin w lt,
    );
    values = λ q ne tuple all.
        cond-false (q == pred) (focused_value (structure_of s) pred aim ms tuple)
        (value_at s q (map (λ x. (member_at ms x).origin) tuple)) (ne_eqb q pred ne);
  },
)
  where
    ms : List MemberForm
    ms = members (structure_of s).individuals choice

    copies : Copies s ms
    copies = copies-are s pred aim choice at

split-of : (s : StructureForm) (pred : ℕ) (split : SplitForm) (l : LogicalStructure)
    → Contains (split_structures (structure_of s) pred split) l → IsSplitOf (structure_of s) pred l
split-of s pred Nothing l at =
    ⊎_elim (λ same. subst (IsSplitOf (structure_of s) pred) same (itself (structure_of s) pred))
    (λ none. absurd (Contains-none l none)) (Contains-cases (structure_of s) l [] at)
split-of s pred Whole l at =
    let found = Contains-map_back (with_whole (structure_of s) pred) (definite (value_at s pred [])) l at
    in subst (IsSplitOf (structure_of s) pred) found.2 (made-whole (structure_of s) pred found.0)
split-of s pred (Each aim) l at =
    let found = Contains-map_back (chosen (structure_of s) pred aim) (choices (structure_of s) pred aim) l at
    in subst (IsSplitOf (structure_of s) pred) found.2 (chosen-split s pred aim found.0 found.1)

-- ---- in tables

table-value : (s t : StructureForm) (l : LogicalStructure) (m : ℕ → ℕ) (q : ℕ) (tuple : List ℕ)
    → arities_of t ≡ arities_of s → Shows t l → All (Contains (structure_of t).individuals) tuple
    → l.value q tuple ≡ value_at s q (map m tuple) → value_at t q tuple ≡ value_at s q (map m tuple)
table-value s t l m q tuple over shows all same =
    ⊎_elim (λ fits. shown fits)
    (λ none. ⊎_elim
    (λ fits. shown (ap (λ ns. slice_get ns q) over ∙ fits ∙ ap Some (length-map tuple m)))
    (λ also. none ∙ sym also) (fits-or_No s q (map m tuple)))
    (fits-or_No t q tuple)
  where
    shown : Fits t q tuple → value_at t q tuple ≡ value_at s q (map m tuple)
    shown fits =
        shows.values q tuple (record { arity = fits; individuals = AreIndividuals-range t.size tuple all })
        ∙ same

table-split : (s t : StructureForm) (pred : ℕ) (l : LogicalStructure) → arities_of t ≡ arities_of s
    → Shows t l
    → IsSplitOf (structure_of s) pred l → IsSplitOf (structure_of s) pred (structure_of t)
table-split s t pred l over shows (m, keeps) = (
  m,
  record {
    into = λ u at. keeps.into u (subst (λ us. Contains us u) shows.individuals at);
    onto = λ w at. let found = keeps.onto w at
        in (found.0, subst (λ us. Contains us found.0) (sym shows.individuals) found.1, found.2);
    values = λ q ne tuple all. table-value s t l m q tuple over shows all
        (keeps.values q ne tuple (subst (λ us. All (Contains us) tuple) shows.individuals all));
  },
)

choice-stable : (s t : StructureForm) (pred : ℕ) (rule : RuleForm) → IsPlainRule rule → ¬ SeesSummaries rule
    → ¬ StandsIn pred rule → IsSplitOf (structure_of s) pred (structure_of t)
    → IsStableUnder (structure_of s) rule → IsStableUnder (structure_of t) rule
choice-stable s t pred rule plain blind apart (m, keeps) stable =
    splits_are_stable m (structure_of t) (structure_of s) rule
    (record {
      into = keeps.into;
      onto = keeps.onto;
      values = λ q stands. keeps.values q (λ same. apart (subst (λ r. StandsIn r rule) same stands));
    })
    tuples stable
  where
    tuples : IsRuleOfTuples rule
    tuples = record {
      of_atoms = record { atoms = λ has. blind (inl has); unmarked = plain.unmarked };
      differ = λ twice. blind (inr twice);
    }

-- only the rules that wait may be unmet in a choice
pub focus-rest : (p : ProgramForm) → IsValid p → (s : StructureForm) (place : FocusPlace)
    (ts : List StructureForm) (n : ℕ) (rules : List RuleForm) (set : List Bool)
    → rules ≡ closed_rules p → IsShaped p s → IsStableIn p s
    → AllZip (IsTableOf p) ts (choices_at s place) → AreAtomsOver (arities_of s) place.formula
    → place.atom < length (focus_atoms place.formula) → length (arities_of s) ≡ n
    → WaitsAt n place.formula rules set → All (IsStableBut rules set) ts
focus-rest p valid s place ts n rules set same shaped stable zip over lt count waits =
    All-from_contains (IsStableBut rules set) ts each
  where
    pred : ℕ
    pred = (atom_at place.formula place.atom).pred

    below : pred < n
    below = subst (λ k. pred < k) count
        (slice_get_within (arities_of s) pred (length (atom_at place.formula place.atom).vars)
        (over place.atom no_atom lt))

    each : (t : StructureForm) → Contains ts t → IsStableBut rules set t
    each t at k rule there out =
        let found = zip_found (IsTableOf p) ts (choices_at s place) zip t at
        in let in_closed : Contains (closed_rules p) rule
        = slice_get-contains (closed_rules p) k rule (subst (λ rs. slice_get rs k ≡ Some rule) same there)
        in choice-stable s t pred rule
        (All-contains IsPlainRule (closed_rules p) rule (rules_are_plain p valid) in_closed)
        (waits.blind k rule there out)
        (waits.apart k pred rule there out below (atoms-mentioned place.formula place.atom no_atom lt))
        (table-split s t pred found.0 (found.2.0.over ∙ sym shaped.over) found.2.1
        (split-of s pred (split_at (structure_of s) place.formula place.atom) found.0 found.1))
        (All-contains (IsStableUnder (structure_of s)) (closed_rules p) rule stable in_closed)
