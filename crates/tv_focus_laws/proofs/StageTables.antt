-- The tables of a stage show its structures.
use Rattle.std.proofs.Common.{ℕ, ◌≡◌, ◌≢◌, ◌<◌, ◌≤◌, ◌+◌, zero, suc, Bool, true, false, cond, eqb, List, []}
use Rattle.std.proofs.Common.{◌∷◌, ◌⊎◌, inl, inr, ⊎_elim, Option, Some, None, length, get_or, map, refl, sym}
use Rattle.std.proofs.Common.{ap, subst, ◌∙◌, arith, All, Contains, eq-eqb, ne_eqb}
use Rattle.std.specs.Prelude.{slice_get, AllPairs}
use Rattle.std.specs.List.{range_with_len, AllZip}
use Rattle.std.proofs.lemmas.Bool.{cases_eq, cond-true, cond-false, cond_both}
use Rattle.std.proofs.lemmas.List.Kept.{AllPairs-filter}
use Rattle.std.proofs.lemmas.List.Elements.{All-head, All-tail, Contains-get_or}
use Rattle.tv_lemmas.proofs.Lists.{range_differs}
use Rattle.tv_kleene.specs.declared.K3.{K3}
use Rattle.tv_model.proofs.Lists.{Contains-here, Contains-there}
use Rattle.tv_model.specs.Form.{Form}
use Rattle.tv_embedding_laws.specs.LogicalStructure.{LogicalStructure}
use Rattle.tv_structure_form.specs.TableForm.{HasEntry}
use Rattle.tv_structure_form.specs.StructureForm.{StructureForm, IsStructure, with_value, table_of, value_at}
use Rattle.tv_structure_form.specs.StructureForm.{structure_of, arities_of}
use Rattle.tv_structure_form.specs.Laws.{WritesOneEntry}
use Rattle.tv_structure_form.proofs.StructureLaws.{writes_one_entry}
use Rattle.tv_focus_laws.specs.FocusAtoms.{AnchorsForm, focus_atoms, anchors_in, ordinary}
use Rattle.tv_focus_laws.specs.Choices.{AimForm, Alone, Before, Behind, SplitForm, Nothing, Whole, Each}
use Rattle.tv_focus_laws.specs.Choices.{split_of, split_by, definite, choices, chosen, members}
use Rattle.tv_focus_laws.specs.Stages.{with_whole, whole_value, split_structures, atom_at, split_at, stage}
use Rattle.tv_focus_laws.specs.Counts.{largest_size, AreCounted}
use Rattle.tv_focus_laws.specs.Laws.{AreAnchors, AreSplitAnchors}
use Rattle.tv_focus_laws.specs.Tables.{Shows, ShowsOver, AreStage}
use Rattle.tv_focus_laws.specs.Written.{chosen_table, places_of, AreApart, split_tables, AreSmall}
use Rattle.tv_focus_laws.specs.Written.{stage_tables, StageTablesAreStage}
use Rattle.tv_focus_laws.proofs.Counts.{choices_are_counted}
use Rattle.tv_focus_laws.proofs.Stages.{anchors-are, split_of-are, split-anchors}
use Rattle.tv_focus_laws.proofs.Writes.{IsStructure-with_value}
use Rattle.tv_focus_laws.proofs.ChosenTables.{chosen_tables_show}

-- ---- anchors stand once

abbrev pub AreSplitApart : SplitForm → Type 0
AreSplitApart Nothing = Unit {0}
AreSplitApart Whole = Unit {0}
AreSplitApart (Each aim) = AreApart aim

pub split-apart : (s : LogicalStructure) → AllPairs ◌≢◌ s.individuals → (f : Form) (k : ℕ) → AreSplitApart (split_at s f k)
split-apart s differ f k =
    split_of-are (λ one. AllPairs ◌≢◌ one.anchors) AreSplitApart
    (record { nothing = tt; whole = tt; alone = tt; before = λ one is. is; behind = λ one is. is })
    (anchors_in s (focus_atoms f)) (atom_at f k).vars
    (anchors-are (λ one. AllPairs ◌≢◌ one.anchors) s (λ v test. AllPairs-filter ◌≢◌ _ s.individuals differ) (focus_atoms f))

-- a split by one predicate of an atom has the atom's places
abbrev pub HasPlaces : ℕ → SplitForm → Type 0
HasPlaces n Nothing = Unit {0}
HasPlaces n Whole = n ≡ 0
HasPlaces n (Each aim) = n ≡ places_of aim

by-places : (given : List AnchorsForm) (v w : ℕ) → HasPlaces 2 (split_by given v w)
by-places [] v w = tt
by-places (one ∷ given) v w =
    let later : HasPlaces 2 (split_by given v w) = by-places given v w
    in cond_both (eqb one.var v) (Each (Behind one.anchors)) (cond (eqb one.var w) (Each (Before one.anchors)) (split_by given v w))
    (HasPlaces 2) (λ e. refl)
    (λ e. cond_both (eqb one.var w) (Each (Before one.anchors)) (split_by given v w) (HasPlaces 2) (λ d. refl) (λ d. later))

pub split-places : (given : List AnchorsForm) (vars : List ℕ) → HasPlaces (length vars) (split_of given vars)
split-places given [] = refl
split-places given (v ∷ []) = refl
split-places given (v ∷ w ∷ []) =
    cond_both (eqb v w) Nothing (split_by given v w) (HasPlaces 2) (λ e. tt) (λ e. by-places given v w)
split-places given (v ∷ w ∷ x ∷ more) = tt

-- ---- one table

itself-shows : (s : StructureForm) → IsStructure s → ShowsOver s s (structure_of s)
itself-shows s is = record {
  is = is;
  over = refl;
  shows = record { individuals = refl; values = λ pred tuple has. refl; summaries = λ u lt. refl; fresh = refl };
}

whole-shows : (s : StructureForm) (pred : ℕ) (k : K3) → IsStructure s → HasEntry (table_of s) pred []
    → ShowsOver s (with_value s pred [] k) (with_whole (structure_of s) pred k)
whole-shows s pred k is has = record {
  is = IsStructure-with_value s pred [] k is has;
  over = w.arities;
  shows = record {
    individuals = refl;
    values = λ q tuple at. value q tuple;
    summaries = λ u lt. refl;
    fresh = refl;
  };
}
  where
    w : WritesOneEntry s pred [] k
    w = writes_one_entry s pred [] k is has

    value : (q : ℕ) (tuple : List ℕ) → value_at (with_value s pred [] k) q tuple ≡ whole_value (structure_of s) pred k q tuple
    value q [] =
        ⊎_elim
        (λ e. ap (λ p. value_at (with_value s pred [] k) p []) e ∙ w.written ∙ sym (cond-true (eqb q pred) k (value_at s q []) (eq-eqb q pred e)))
        (λ ne. w.others q [] (λ both. ne both.0) ∙ sym (cond-false (eqb q pred) k (value_at s q []) (ne_eqb q pred ne)))
        (cases_eq q pred)
    value q (u ∷ more) = w.others q (u ∷ more) (λ both. cc both.1)

-- ---- all tables

zip-maps : {X : Type 0} (s : StructureForm) (g : X → StructureForm) (l : X → LogicalStructure) (xs : List X)
    → ((x : X) → Contains xs x → ShowsOver s (g x) (l x)) → AllZip (ShowsOver s) (map g xs) (map l xs)
zip-maps s g l [] each = tt
zip-maps {X} s g l (x ∷ xs) each = (
  each x (Contains-here x xs),
  zip-maps s g l xs (λ y at. each y (Contains-there x y xs at)),
)

split-shows : (s : StructureForm) (pred : ℕ) (split : SplitForm) (n : ℕ) → IsStructure s → slice_get (arities_of s) pred ≡ Some n
    → HasPlaces n split → AreSplitAnchors (structure_of s) split → AreSplitApart split → AreSmall s pred split
    → AllZip (ShowsOver s) (split_tables s pred split) (split_structures (structure_of s) pred split)
split-shows s pred Nothing n is knows places are apart small = (itself-shows s is, tt)
split-shows s pred Whole n is knows places are apart small =
    zip-maps s (with_value s pred []) (with_whole (structure_of s) pred) (definite (value_at s pred []))
    (λ k at. whole-shows s pred k is (record { arity = knows ∙ ap Some places; individuals = tt }))
split-shows s pred (Each aim) n is knows places are apart small =
    zip-maps s (chosen_table s pred aim) (chosen (structure_of s) pred aim) (choices (structure_of s) pred aim)
    (λ choice at.
    let counted : AreCounted (structure_of s) pred aim = choices_are_counted (structure_of s) pred aim
    in chosen_tables_show s pred aim choice is (knows ∙ ap Some places) are apart at (omega (arith, counted.most choice at, small)))

pub stage_tables_are_stage : StageTablesAreStage
stage_tables_are_stage s f k is knows small =
    split-shows s (atom_at f k).pred (split_at (structure_of s) f k) (length (atom_at f k).vars) is knows
    (split-places (anchors_in (structure_of s) (focus_atoms f)) (atom_at f k).vars)
    (split-anchors (structure_of s) f k) (split-apart (structure_of s) (range_differs s.size) f k) small
