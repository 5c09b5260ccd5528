-- What holds of all choices that begin so, and what comes of them.
use Rattle.std.proofs.Common.{◌≡◌, ◌≤◌, List, [], ◌∷◌, ◌++◌, length, inl, refl, sym, ap, subst, ◌∙◌, arith}
use Rattle.std.proofs.Common.{All}
use Rattle.std.proofs.Common.{append_assoc}
use Rattle.std.specs.Prelude.{Result, Ok, Err, OnOk, is_ok, if◌then◌else◌}
use Rattle.std.specs.List.{flat_map, AllByRecursion}
use Rattle.std.proofs.lemmas.List.{append-nil}
use Rattle.std.proofs.lemmas.List.Elements.{All-head, All-tail}
use Rattle.tv_structure_form.specs.StructureForm.{StructureForm}
use Rattle.tv_focus_laws.specs.Choices.{ChoiceForm, VectorSet}
use Rattle.tv_focus.specs.Puts.{AreChosen, chosen_tables}
use Rattle.tv_focus_step_laws.specs.Above.{IsBegun}
use Rattle.tv_step_laws.specs.Parts.{AreFrom}
use Rattle.tv_step_laws.specs.Transfer.{Coerces}
use Rattle.tv_step_laws.proofs.From.{from-append}
use Rattle.tv_focus_walk.specs.declared.walk.Walk.{Walk}
use Rattle.tv_focus_walk.specs.Walk.{AddsCoerced, AreRefuted, IsAbove, IsRefuted, LeadsOn, walk_program}
use Rattle.tv_focus_walk.specs.Walk.{walk_table}

-- ---- choices

every : (A B : VectorSet → Type 0) → ((set : VectorSet) → A set → B set) → (sets : List VectorSet)
    → AllByRecursion A sets → AllByRecursion B sets
every A B each [] all = tt
every A B each (set ∷ sets) all = (each set all.0, every A B each sets all.1)

pub all-where : (P Q : ChoiceForm → Type 0) (begun : ChoiceForm) (sets : List (List VectorSet))
    → AreChosen P begun sets → ((choice : ChoiceForm) → IsBegun begun choice → P choice → Q choice)
    → AreChosen Q begun sets
all-where P Q begun [] holds each = each begun ([], sym (append-nil begun)) holds
all-where P Q begun (first ∷ rest) holds each =
    every (λ set. AreChosen P (begun ++ set ∷ []) rest) (λ set. AreChosen Q (begun ++ set ∷ []) rest)
    (λ set those. all-where P Q (begun ++ set ∷ []) rest those
    (λ choice begins. each choice (set ∷ begins.0, begins.1 ∙ append_assoc begun (set ∷ []) begins.0)))
    first holds

-- where each list of sets has one, there is a choice
pub some-choice : (P : ChoiceForm → Type 0) (begun : ChoiceForm) (sets : List (List VectorSet))
    → AreChosen P begun sets → All (λ those. 1 ≤ length those) sets
    → (choice : ChoiceForm) × ((tail : ChoiceForm) × (choice ≡ begun ++ tail) × (length tail ≡ length sets)) × P choice
some-choice P begun [] holds some = (begun, ([], sym (append-nil begun), refl), holds)
some-choice P begun ([] ∷ rest) holds some =
    let few : 1 ≤ 0 = All-head (λ (those : List VectorSet). 1 ≤ length those) [] rest some in absurd (omega (arith, few))
some-choice P begun ((set ∷ more) ∷ rest) holds some =
    let found = some-choice P (begun ++ set ∷ []) rest holds.0
    (All-tail (λ (those : List VectorSet). 1 ≤ length those) (set ∷ more) rest some)
    in (
      found.0,
      (
        set ∷ found.1.0,
        found.1.1 ∙ append_assoc begun (set ∷ []) found.1.0,
        omega (arith, found.1.2),
      ),
      found.2,
    )

-- ---- what comes of them

none-of-any : (R : StructureForm → List StructureForm → Type 0) (f : VectorSet → List StructureForm)
    (sets : List VectorSet) → AllByRecursion (λ set. AreFrom R (f set) []) sets → AreFrom R (flat_map f sets) []
none-of-any R f [] all = refl
none-of-any R f (set ∷ sets) all = from-append R (f set) (flat_map f sets) [] [] all.0 (none-of-any R f sets all.1)

-- nothing comes of choices below which nothing is stable
pub none-of : (w : Walk) (begun : ChoiceForm) (sets : List (List VectorSet))
    → AreChosen (IsRefuted w) begun sets
    → AreFrom (Coerces (walk_program w)) (chosen_tables (walk_table w) begun sets) []
none-of w begun [] refuted = ([], [], inl (refuted, refl), refl, refl)
none-of w begun (first ∷ rest) all =
    none-of-any (Coerces (walk_program w)) (λ set. chosen_tables (walk_table w) (begun ++ set ∷ []) rest) first
    (every (λ set. AreChosen (IsRefuted w) (begun ++ set ∷ []) rest)
    (λ set. AreFrom (Coerces (walk_program w)) (chosen_tables (walk_table w) (begun ++ set ∷ []) rest) [])
    (λ set refuted. none-of w (begun ++ set ∷ []) rest refuted) first all)

pub adds-none : (w : Walk) (ts old : List StructureForm) → AreFrom (Coerces (walk_program w)) ts []
    → AddsCoerced w ts old old
adds-none w ts old from = ([], from, sym (append-nil old))

pub adds-both : (w : Walk) (ts us old mid new : List StructureForm) → AddsCoerced w ts old mid
    → AddsCoerced w us mid new → AddsCoerced w (ts ++ us) old new
adds-both w ts us old mid new (own, from, is) (more, later, same) = (
  own ++ more,
  from-append (Coerces (walk_program w)) ts us own more from later,
  same ∙ ap (λ xs. xs ++ more) is ∙ append_assoc old own more,
)

pub adds-one : (w : Walk) (t : StructureForm) (own old new : List StructureForm)
    → Coerces (walk_program w) t own → new ≡ old ++ own → AddsCoerced w (t ∷ []) old new
adds-one w t own old new made is = (own, (own, [], made, refl, sym (append-nil own)), is)

-- what is pushed is put behind the others
pub push-adds : {U E : Type 0} (w : Walk) (t : StructureForm) (r : Result U E) (old new : List StructureForm)
    (own : StructureForm) → Coerces (walk_program w) t (own ∷ [])
    → new ≡ (if is_ok r then old ++ own ∷ [] else old) → OnOk r (AddsCoerced w (t ∷ []) old new)
push-adds w t (Ok u) old new own made is = adds-one w t (own ∷ []) old new made is
push-adds w t (Err e) old new own made is = tt

-- ---- one more set

-- where nothing is to come of a set, nothing is put
pub nothing-adds : (w : Walk) (begun : ChoiceForm) (c : StructureForm) (set : VectorSet)
    (rest : List (List VectorSet)) (old : List StructureForm)
    → AreChosen (IsAbove w begun c) (begun ++ set ∷ []) rest → AreRefuted w begun c (begun ++ set ∷ [])
    → AddsCoerced w (chosen_tables (walk_table w) (begun ++ set ∷ []) rest) old old
nothing-adds w begun c set rest old above refuted =
    adds-none w (chosen_tables (walk_table w) (begun ++ set ∷ []) rest) old
    (none-of w (begun ++ set ∷ []) rest
    (all-where (IsAbove w begun c) (IsRefuted w) (begun ++ set ∷ []) rest above
    (λ choice begins is. refuted choice begins is)))

pub leads-above : (w : Walk) (begun : ChoiceForm) (c d : StructureForm) (set : VectorSet)
    (rest : List (List VectorSet)) → AreChosen (IsAbove w begun c) (begun ++ set ∷ []) rest
    → LeadsOn w begun c (begun ++ set ∷ []) d → AreChosen (IsAbove w (begun ++ set ∷ []) d) (begun ++ set ∷ []) rest
leads-above w begun c d set rest above leads =
    all-where (IsAbove w begun c) (IsAbove w (begun ++ set ∷ []) d) (begun ++ set ∷ []) rest above leads

-- what comes of one set, and then of those behind it
pub one-more : (w : Walk) (begun now : ChoiceForm) (rest : List (List VectorSet)) (set : VectorSet)
    (later : List VectorSet) (old mid new : List StructureForm) → now ≡ begun
    → AddsCoerced w (chosen_tables (walk_table w) (begun ++ set ∷ []) rest) old mid
    → AddsCoerced w (flat_map (λ one. chosen_tables (walk_table w) (now ++ one ∷ []) rest) later) mid new
    → AddsCoerced w (flat_map (λ one. chosen_tables (walk_table w) (begun ++ one ∷ []) rest) (set ∷ later)) old new
one-more w begun now rest set later old mid new same first second =
    adds-both w (chosen_tables (walk_table w) (begun ++ set ∷ []) rest)
    (flat_map (λ one. chosen_tables (walk_table w) (begun ++ one ∷ []) rest) later) old mid new first
    (subst (λ b. AddsCoerced w (flat_map (λ one. chosen_tables (walk_table w) (b ++ one ∷ []) rest) later) mid new)
    same second)
