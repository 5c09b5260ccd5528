-- The limits of a stage, by the numbers of choices and of copies.
use Rattle.std.proofs.Common.{ℕ, ◌≡◌, ◌<◌, ◌≤◌, ◌+◌, zero, suc, List, [], ◌∷◌, Some, refl, sym, ap, subst}
use Rattle.std.proofs.Common.{◌∙◌, arith, All, Contains, length, map, get_or}
use Rattle.std.specs.Prelude.{Any, slice_get}
use Rattle.std.proofs.lemmas.List.{length-map, get_or-map}
use Rattle.std.proofs.lemmas.List.FromFn.{length-range_with_len}
use Rattle.std.proofs.lemmas.List.Elements.{All-nil, All-cons, All-map, Contains-get_or}
use Rattle.tv_lemmas.proofs.Lists.{range_differs}
use Rattle.tv_kleene.specs.declared.K3.{K3}
use Rattle.tv_kleene.specs.declared.K3.TheVariants.{No, Half, Yes}
use Rattle.tv_model.specs.Form.{Form, FZero, FOne, FAtom, FIsNew, FSame, FNot, FAnd, FOr, FIff, FCond}
use Rattle.tv_model.specs.Form.{FExists, FForall, FClosure}
use Rattle.tv_model.specs.Valid.{IsFormulaOver}
use Rattle.tv_embedding_laws.specs.LogicalStructure.{LogicalStructure}
use Rattle.tv_structure_form.specs.StructureForm.{StructureForm, IsStructure, arities_of, structure_of}
use Rattle.tv_structure_form.specs.StructureForm.{value_at}
use Rattle.tv_struct.specs.declared.analysis.StageError.{StageError}
use Rattle.tv_struct.specs.declared.analysis.StageError.TheVariants.{Splits, Individuals, Memory}
use Rattle.tv_structure_form.proofs.Library.{below-range}
use Rattle.tv_focus_laws.specs.FocusAtoms.{AtomForm, focus_atoms, anchors_in}
use Rattle.tv_focus_laws.specs.Choices.{AimForm, Alone, Before, Behind, SplitForm, Nothing, Whole, Each}
use Rattle.tv_focus_laws.specs.Choices.{ChoiceForm, MemberForm, members, members_of, definite, choices}
use Rattle.tv_focus_laws.specs.Choices.{chosen}
use Rattle.tv_focus_laws.specs.Counts.{AreCounted, choice_count, largest_size, few_choices}
use Rattle.tv_focus_laws.specs.Laws.{AreSplitAnchors}
use Rattle.tv_focus_laws.specs.Stages.{with_whole, split_structures, atom_at, split_at, stage, no_atom}
use Rattle.tv_focus_laws.specs.Tables.{AreStage}
use Rattle.tv_focus_laws.specs.Written.{AreSmall, stage_tables}
use Rattle.tv_focus_laws.proofs.Counts.{choices_are_counted}
use Rattle.tv_focus_laws.proofs.Splits.{IsWhole, choice-whole}
use Rattle.tv_focus_laws.proofs.Stages.{split-anchors}
use Rattle.tv_focus_laws.proofs.StageTables.{AreSplitApart, HasPlaces, split-apart, split-places}
use Rattle.tv_focus_laws.proofs.StageTables.{stage_tables_are_stage}
use Rattle.tv_focus_laws.proofs.Tables.{tables_lose_no_heap}
use Rattle.tv_focus.specs.Anchored.{IsAtomOver, AreAtomsOver, IsSplitOver}
use Rattle.tv_focus.specs.Focused.{IsSplitAim}
use Rattle.tv_focus.specs.Puts.{copies_in, IsChoiceOf}
use Rattle.tv_focus.specs.Stage.{AreLimitsKept, AreSplitLimitsKept, IsSplitCause, IsStageCause}
use Rattle.tv_focus.specs.Stage.{IsWithinLimits, KeepsHeaps}
use Rattle.tv_focus.proofs.Puts.{copies_more}

-- ---- choices that are not too large

members-count : (us : List ℕ) (choice : ChoiceForm) → length us ≡ length choice → length (members us choice) ≡ copies_in choice
members-count [] [] same = refl
members-count [] (set ∷ choice) same = absurd (omega (arith, same))
members-count (u ∷ us) [] same = absurd (omega (arith, same))
members-count (u ∷ us) (set ∷ choice) same =
    let rest : length (members us choice) ≡ copies_in choice = members-count us choice (omega (arith, same))
    in omega (
      arith,
      Rattle.std.proofs.Common.length-append (members_of u set) (members us choice),
      length-map {B = MemberForm} set (λ vector. record { origin = u; vector = vector }),
      copies_more set choice,
      rest,
    )

pub choice-is : (s : StructureForm) (pred : ℕ) (aim : AimForm) (choice : ChoiceForm)
    → largest_size (structure_of s) pred aim ≤ 256 → Contains (choices (structure_of s) pred aim) choice
    → IsChoiceOf s pred aim choice
choice-is s pred aim choice small at =
    let counted : AreCounted (structure_of s) pred aim = choices_are_counted (structure_of s) pred aim
    in let whole : IsWhole (structure_of s).individuals choice = choice-whole (structure_of s) pred aim choice at
    in record {
      listed = at;
      few = omega (
        arith,
        counted.most choice at,
        members-count (structure_of s).individuals choice (sym whole.count),
        small,
      );
    }

-- ---- numbers

pub too_many : (s : StructureForm) (pred : ℕ) (aim : AimForm) → 4096 < few_choices (structure_of s) pred aim
    → 4096 < choice_count (structure_of s) pred aim
too_many s pred aim many =
    let counted : AreCounted (structure_of s) pred aim = choices_are_counted (structure_of s) pred aim
    in omega (arith, counted.limited, many)

pub limits_kept : (s : StructureForm) (pred : ℕ) (aim : AimForm) → few_choices (structure_of s) pred aim ≤ 4096
    → largest_size (structure_of s) pred aim ≤ 256 → AreLimitsKept s pred aim
limits_kept s pred aim few small =
    let counted : AreCounted (structure_of s) pred aim = choices_are_counted (structure_of s) pred aim
    in record { few = omega (arith, counted.limited, few); small = small }

pub too_large : (s : StructureForm) (pred : ℕ) (aim : AimForm) → few_choices (structure_of s) pred aim ≤ 4096
    → 256 < largest_size (structure_of s) pred aim
    → (choice_count (structure_of s) pred aim ≤ 4096) × (256 < largest_size (structure_of s) pred aim)
too_large s pred aim few large =
    let counted : AreCounted (structure_of s) pred aim = choices_are_counted (structure_of s) pred aim
    in (omega (arith, counted.limited, few), large)

-- ---- splits

pub split-over : (s : StructureForm) (pred n : ℕ) (split : SplitForm) → slice_get (arities_of s) pred ≡ Some n
    → HasPlaces n split → AreSplitAnchors (structure_of s) split → IsSplitOver s pred split
split-over s pred n Nothing knows places are = tt
split-over s pred n Whole knows places are = knows ∙ ap Some places
split-over s pred n (Each Alone) knows places are = knows ∙ ap Some places
split-over s pred n (Each (Before anchors)) knows places are =
    (knows ∙ ap Some places, λ k d lt. below-range s.size (get_or anchors k d) (are k d lt).0)
split-over s pred n (Each (Behind anchors)) knows places are =
    (knows ∙ ap Some places, λ k d lt. below-range s.size (get_or anchors k d) (are k d lt).0)

pub split-small : (s : StructureForm) (pred : ℕ) (split : SplitForm) → AreSplitLimitsKept s pred split → AreSmall s pred split
split-small s pred Nothing kept = tt
split-small s pred Whole kept = tt
split-small s pred (Each aim) kept = kept.small

-- ---- limits

-- at most so many structures, and none with more individuals
pub record AreFew (ts : List LogicalStructure) : Type 0 where
  pub few : length ts ≤ 4096
  pub small : All (λ t. length t.individuals ≤ 256) ts

whole-few : (s : LogicalStructure) (pred : ℕ) (k : K3) → length s.individuals ≤ 256 → AreFew (map (with_whole s pred) (definite k))
whole-few s pred No small = record {
  few = omega arith;
  small = All-cons (λ t. length t.individuals ≤ 256) (with_whole s pred No) [] small (All-nil (λ t. length t.individuals ≤ 256));
}
whole-few s pred Half small = record {
  few = omega arith;
  small = All-cons (λ t. length t.individuals ≤ 256) (with_whole s pred No) (with_whole s pred Yes ∷ []) small
      (All-cons (λ t. length t.individuals ≤ 256) (with_whole s pred Yes) [] small (All-nil (λ t. length t.individuals ≤ 256)));
}
whole-few s pred Yes small = record {
  few = omega arith;
  small = All-cons (λ t. length t.individuals ≤ 256) (with_whole s pred Yes) [] small (All-nil (λ t. length t.individuals ≤ 256));
}

size-small : (s : StructureForm) → IsStructure s → length (structure_of s).individuals ≤ 256
size-small s is = omega (arith, length-range_with_len 0 s.size, is.table.size)

pub split-few : (s : StructureForm) (pred : ℕ) (split : SplitForm) → IsStructure s → AreSplitLimitsKept s pred split
    → AreFew (split_structures (structure_of s) pred split)
split-few s pred Nothing is kept = record {
  few = omega arith;
  small = All-cons (λ t. length t.individuals ≤ 256) (structure_of s) [] (size-small s is) (All-nil (λ t. length t.individuals ≤ 256));
}
split-few s pred Whole is kept = whole-few (structure_of s) pred (value_at s pred []) (size-small s is)
split-few s pred (Each aim) is kept =
    let counted : AreCounted (structure_of s) pred aim = choices_are_counted (structure_of s) pred aim
    in let all : List ChoiceForm = choices (structure_of s) pred aim
    in record {
      few = omega (arith, length-map all (chosen (structure_of s) pred aim), counted.number, kept.few);
      small = All-map (λ t. length t.individuals ≤ 256) (chosen (structure_of s) pred aim) all
          (λ k d lt. omega (
            arith,
            length-range_with_len 0 (length (members (structure_of s).individuals (get_or all k d))),
            counted.most (get_or all k d) (Contains-get_or all k d lt),
            kept.small,
          ));
    }

-- ---- causes

any-chosen : (s : LogicalStructure) (pred : ℕ) (aim : AimForm) → 256 < largest_size s pred aim
    → Any (λ t. 256 < length t.individuals) (map (chosen s pred aim) (choices s pred aim))
any-chosen s pred aim large =
    let counted : AreCounted s pred aim = choices_are_counted s pred aim
    in let choice : ChoiceForm = counted.reached.0
    in let at : Contains (choices s pred aim) choice = counted.reached.1
    in let t : LogicalStructure = chosen s pred aim choice
    in (
      at.0,
      t,
      omega (arith, at.1, length-map (choices s pred aim) (chosen s pred aim)),
      get_or-map (chosen s pred aim) (choices s pred aim) at.0 choice t (omega (arith, at.1)) ∙ ap (chosen s pred aim) at.2,
      omega (arith, length-range_with_len 0 (length (members s.individuals choice)), counted.reached.2, large),
    )

pub stage-is : (s : StructureForm) (f : Form) (k : ℕ) (pred : ℕ) (split : SplitForm) → pred ≡ (atom_at f k).pred
    → split ≡ split_at (structure_of s) f k → split_structures (structure_of s) pred split ≡ stage (structure_of s) f k
stage-is s f k pred split same_pred same_split =
    ap (λ q. split_structures (structure_of s) q split) same_pred
    ∙ ap (split_structures (structure_of s) (atom_at f k).pred) same_split

pub split-cause : (s : StructureForm) (f : Form) (k : ℕ) (pred : ℕ) (split : SplitForm) (fault : StageError)
    → pred ≡ (atom_at f k).pred → split ≡ split_at (structure_of s) f k → IsSplitCause s pred split fault
    → IsStageCause s f k fault
split-cause s f k pred split Memory same_pred same_split cause = tt
split-cause s f k pred Nothing Splits same_pred same_split cause = absurd (cc cause)
split-cause s f k pred Nothing Individuals same_pred same_split cause = absurd (cc cause)
split-cause s f k pred Whole Splits same_pred same_split cause = absurd (cc cause)
split-cause s f k pred Whole Individuals same_pred same_split cause = absurd (cc cause)
split-cause s f k pred (Each aim) Splits same_pred same_split cause =
    let Many : List LogicalStructure → Type 0 = λ ts. 4096 < length ts
    in let counted : AreCounted (structure_of s) pred aim = choices_are_counted (structure_of s) pred aim
    in subst Many (stage-is s f k pred (Each aim) same_pred same_split)
    (omega (arith, length-map (choices (structure_of s) pred aim) (chosen (structure_of s) pred aim), counted.number, cause))
split-cause s f k pred (Each aim) Individuals same_pred same_split cause =
    let Large : List LogicalStructure → Type 0 = λ ts. (length ts ≤ 4096) × Any (λ t. 256 < length t.individuals) ts
    in let counted : AreCounted (structure_of s) pred aim = choices_are_counted (structure_of s) pred aim
    in subst Large (stage-is s f k pred (Each aim) same_pred same_split) (
      omega (arith, length-map (choices (structure_of s) pred aim) (chosen (structure_of s) pred aim), counted.number, cause.0),
      any-chosen (structure_of s) pred aim cause.1,
    )

-- ---- atoms of a formula over a vocabulary

all-append : (P : AtomForm → Type 0) (xs ys : List AtomForm) → All P xs → All P ys → All P (Rattle.std.proofs.Common.◌++◌ xs ys)
all-append P xs ys = Rattle.std.proofs.lemmas.List.Elements.All-append P xs ys

pub atoms-over : (arities : List ℕ) (f : Form) → IsFormulaOver arities f → AreAtomsOver arities f
atoms-over arities FZero over = All-nil (IsAtomOver arities)
atoms-over arities FOne over = All-nil (IsAtomOver arities)
atoms-over arities (FAtom pred vars) over =
    All-cons (IsAtomOver arities) (record { pred = pred; vars = vars }) [] over.0 (All-nil (IsAtomOver arities))
atoms-over arities (FIsNew v) over = All-nil (IsAtomOver arities)
atoms-over arities (FSame v w) over = All-nil (IsAtomOver arities)
atoms-over arities (FNot f) over = atoms-over arities f over
atoms-over arities (FAnd f g) over =
    all-append (IsAtomOver arities) (focus_atoms f) (focus_atoms g) (atoms-over arities f over.0) (atoms-over arities g over.1)
atoms-over arities (FOr f g) over =
    all-append (IsAtomOver arities) (focus_atoms f) (focus_atoms g) (atoms-over arities f over.0) (atoms-over arities g over.1)
atoms-over arities (FIff f g) over =
    all-append (IsAtomOver arities) (focus_atoms f) (focus_atoms g) (atoms-over arities f over.0) (atoms-over arities g over.1)
atoms-over arities (FCond c f g) over =
    all-append (IsAtomOver arities) (focus_atoms c) (Rattle.std.proofs.Common.◌++◌ (focus_atoms f) (focus_atoms g)) (atoms-over arities c over.0)
    (all-append (IsAtomOver arities) (focus_atoms f) (focus_atoms g) (atoms-over arities f over.1) (atoms-over arities g over.2))
atoms-over arities (FExists v f) over = atoms-over arities f over.1
atoms-over arities (FForall v f) over = atoms-over arities f over.1
atoms-over arities (FClosure from to left right f) over = All-nil (IsAtomOver arities)

-- what a focus atom's split is over
pub stage-over : (s : StructureForm) (f : Form) (k : ℕ) → AreAtomsOver (arities_of s) f → k < length (focus_atoms f)
    → IsSplitOver s (atom_at f k).pred (split_at (structure_of s) f k)
stage-over s f k over lt =
    split-over s (atom_at f k).pred (length (atom_at f k).vars) (split_at (structure_of s) f k)
    (over k no_atom lt)
    (split-places (anchors_in (structure_of s) (focus_atoms f)) (atom_at f k).vars) (split-anchors (structure_of s) f k)

-- ---- a stage

pub stage-within : (s : StructureForm) (f : Form) (k : ℕ) (pred : ℕ) (split : SplitForm) → IsStructure s
    → pred ≡ (atom_at f k).pred → split ≡ split_at (structure_of s) f k → AreSplitLimitsKept s pred split
    → IsWithinLimits s f k
stage-within s f k pred split is same_pred same_split kept =
    let few : AreFew (split_structures (structure_of s) pred split) = split-few s pred split is kept
    in let Few : List LogicalStructure → Type 0 = λ ts. length ts ≤ 4096
    in let Small : List LogicalStructure → Type 0 = λ ts. All (λ t. length t.individuals ≤ 256) ts
    in record {
      few = subst Few (stage-is s f k pred split same_pred same_split) few.few;
      small = subst Small (stage-is s f k pred split same_pred same_split) few.small;
    }

pub tables-are-stage : (s : StructureForm) (f : Form) (k : ℕ) (pred : ℕ) (split : SplitForm) → IsStructure s
    → AreAtomsOver (arities_of s) f → k < length (focus_atoms f)
    → pred ≡ (atom_at f k).pred → split ≡ split_at (structure_of s) f k → AreSplitLimitsKept s pred split
    → AreStage s f k (stage_tables s f k)
tables-are-stage s f k pred split is over lt same_pred same_split kept =
    let Small : ℕ → Type 0 = λ q. AreSmall s q split
    in let Of : SplitForm → Type 0 = λ one. AreSmall s (atom_at f k).pred one
    in stage_tables_are_stage s f k is (over k no_atom lt)
    (subst Of same_split (subst Small same_pred (split-small s pred split kept)))

pub tables-keep-heaps : (s : StructureForm) (f : Form) (k : ℕ) → AreStage s f k (stage_tables s f k)
    → KeepsHeaps s (stage_tables s f k)
tables-keep-heaps s f k are = (tables_lose_no_heap s f k (stage_tables s f k) are).heaps

-- ---- aims of stages

split-aim : (s : StructureForm) (pred n : ℕ) (split : SplitForm) → IsStructure s → slice_get (arities_of s) pred ≡ Some n
    → HasPlaces n split → AreSplitAnchors (structure_of s) split → AreSplitApart split → IsSplitAim s pred split
split-aim s pred n Nothing is knows places are apart = tt
split-aim s pred n Whole is knows places are apart = tt
split-aim s pred n (Each aim) is knows places are apart =
    record { is = is; arity = knows ∙ ap Some places; anchors = are; apart = apart }

pub stage-aim : (s : StructureForm) (f : Form) (k : ℕ) → IsStructure s → AreAtomsOver (arities_of s) f
    → k < length (focus_atoms f) → IsSplitAim s (atom_at f k).pred (split_at (structure_of s) f k)
stage-aim s f k is over lt =
    split-aim s (atom_at f k).pred (length (atom_at f k).vars) (split_at (structure_of s) f k) is
    (over k no_atom lt)
    (split-places (anchors_in (structure_of s) (focus_atoms f)) (atom_at f k).vars)
    (split-anchors (structure_of s) f k) (split-apart (structure_of s) (range_differs s.size) f k)
