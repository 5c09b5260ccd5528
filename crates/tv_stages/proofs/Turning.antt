-- The turns of focus atoms, one after the other.
use Rattle.std.proofs.Common.{ℕ, zero, suc, ◌≡◌, ◌∙◌, ◌<◌, ◌+◌, List, [], ◌∷◌, ◌++◌, length, map, take, drop}
use Rattle.std.proofs.Common.{get_or, refl}
use Rattle.std.proofs.Common.{sym, ap, subst, arith, add-one, append_assoc, All, Contains}
use Rattle.std.specs.Prelude.{Any}
use Rattle.std.specs.List.{AllZip, range_with_len}
use Rattle.std.proofs.lemmas.List.{append-nil, get_or-map, length-map, length-take-le, map-append}
use Rattle.std.proofs.lemmas.List.{take-append-drop}
use Rattle.std.proofs.lemmas.List.Elements.{All-contains, All-cons, All-nil}
use Rattle.std.proofs.lemmas.List.FromFn.{get_or-range_with_len, length-range_with_len}
use Rattle.std.proofs.Math.Seq.{drop-cons, take-suc}
use Rattle.tv_lemmas.proofs.Lists.{All-flat_map}
use Rattle.tv_focus.proofs.Limits.{atoms-over}
use Rattle.tv_focus.specs.Anchored.{AreAtomsOver}
use Rattle.tv_focus.specs.Stage.{IsStageCause}
use Rattle.tv_focus_laws.specs.FocusAtoms.{focus_atoms}
use Rattle.tv_model.specs.Valid.{IsFormula}
use Rattle.tv_model.specs.declared.formula.Formula.{Formula}
use Rattle.tv_model.specs.Form.{Form, form_of}
use Rattle.tv_model.specs.Program.{ProgramForm}
use Rattle.tv_model.proofs.Lists.{All-from_contains}
use Rattle.tv_structure_form.specs.StructureForm.{StructureForm, arities_of}
use Rattle.tv_struct.specs.declared.analysis.StageError.{StageError}
use Rattle.tv_struct.specs.declared.analysis.StageError.TheVariants.{Splits, Individuals, Memory}
use Rattle.tv_step_laws.specs.Shaped.{IsShaped}
use Rattle.tv_step_laws.specs.Transfer.{FocusPlace, choices_at, IsTableOf, places_in}
use Rattle.tv_step.specs.Steps.{IsFocusCause}
use Rattle.tv_stages_laws.specs.declared.record.Choice.{Choice}
use Rattle.tv_stages_laws.specs.declared.record.Fate.{Fate}
use Rattle.tv_stages_laws.specs.declared.record.Fate.TheVariants.{Kept, Dropped}
use Rattle.tv_stages_laws.specs.declared.record.FocusRow.{FocusRow}
use Rattle.tv_stages_laws.specs.declared.record.FocusedAt.{FocusedAt}
use Rattle.tv_stages_laws.specs.Stages.{IsFate, kept_by, NumberedPlace, places_from, IsFocusedAt, kept_at}
use Rattle.tv_stages_laws.specs.Stages.{IsFocusRow, kept_behind, AreFocusRows}
use Rattle.tv_stages.specs.declared.turn.Progress.{Progress}
use Rattle.tv_stages.specs.Turns.{StopsAt, StopsFocus, Turned, numbered_places}

-- ---- what is at hand stays over the program

all-so : {X : Type 0} (P Q : X → Type 0) → ((x : X) → P x → Q x) → (xs : List X) → All P xs → All Q xs
all-so P Q so xs all = All-from_contains Q xs (λ x at. so x (All-contains P xs x all at))

pub kept-shaped : (p : ProgramForm) (s : StructureForm) (fate : Fate) → IsFate p s fate
    → All (IsShaped p) (kept_by fate)
kept-shaped p s (Kept t) is = All-cons (IsShaped p) t [] is.shaped (All-nil (IsShaped p))
kept-shaped p s (Dropped claim) is = All-nil (IsShaped p)

at-shaped : (p : ProgramForm) (place : FocusPlace) (x : FocusedAt) → IsFocusedAt p place x
    → All (IsShaped p) (kept_at x)
at-shaped p place x is =
    All-flat_map (IsShaped p) (λ (c : Choice). kept_by c.fate) x.choices
    (all-so (λ (c : Choice). IsFate p c.structure c.fate) (λ (c : Choice). All (IsShaped p) (kept_by c.fate))
    (λ c. kept-shaped p c.structure c.fate) x.choices is.fates)

row-shaped : (p : ProgramForm) (turn : NumberedPlace) (ss : List StructureForm) (row : FocusRow)
    → IsFocusRow p turn ss row → All (IsShaped p) (kept_behind row)
row-shaped p turn ss row is =
    All-flat_map (IsShaped p) kept_at row.at_hand
    (all-so (IsFocusedAt p turn.place) (λ (x : FocusedAt). All (IsShaped p) (kept_at x)) (at-shaped p turn.place)
    row.at_hand is.each)

pub rows-shaped : (p : ProgramForm) (turns : List NumberedPlace) (ss : List StructureForm) (rows : List FocusRow)
    (ts : List StructureForm) → AreFocusRows p turns ss rows ts → All (IsShaped p) ss → All (IsShaped p) ts
rows-shaped p [] ss rows ts are all = subst (All (IsShaped p)) (sym are.1) all
rows-shaped p (turn ∷ turns) ss [] ts are all = absurd are
rows-shaped p (turn ∷ turns) ss (row ∷ rows) ts are all =
    rows-shaped p turns (kept_behind row) rows ts are.1 (row-shaped p turn ss row are.0)

pub turned-shaped : (p : ProgramForm) (turns : List NumberedPlace) (old new : Progress) → Turned p turns old new
    → All (IsShaped p) old.at_hand → All (IsShaped p) new.at_hand
turned-shaped p turns old new (rows, is, are) = rows-shaped p turns old.at_hand rows new.at_hand are

-- ---- turns that are taken

rows-append : (p : ProgramForm) (turns more : List NumberedPlace) (ss us ts : List StructureForm)
    (rows others : List FocusRow) → AreFocusRows p turns ss rows us → AreFocusRows p more us others ts
    → AreFocusRows p (turns ++ more) ss (rows ++ others) ts
rows-append p [] more ss us ts rows others a b =
    subst (λ (rs : List FocusRow). AreFocusRows p more ss (rs ++ others) ts) (sym a.0)
    (subst (λ (xs : List StructureForm). AreFocusRows p more xs others ts) a.1 b)
rows-append p (turn ∷ turns) more ss us ts [] others a b = absurd a
rows-append p (turn ∷ turns) more ss us ts (row ∷ rows) others a b =
    (a.0, rows-append p turns more (kept_behind row) us ts rows others a.1 b)

pub turned-none : (p : ProgramForm) (x : Progress) → Turned p [] x x
turned-none p x = ([], sym (append-nil x.rows), (refl, refl))

pub turned-one : (p : ProgramForm) (turn : NumberedPlace) (old new : Progress) (row : FocusRow)
    → IsFocusRow p turn old.at_hand row → new.rows ≡ old.rows ++ row ∷ [] → new.at_hand ≡ kept_behind row
    → Turned p (turn ∷ []) old new
turned-one p turn old new row is pushed behind = (row ∷ [], pushed, (is, (refl, behind)))

pub turned-more : (p : ProgramForm) (turns more : List NumberedPlace) (a b c : Progress) → Turned p turns a b
    → Turned p more b c → Turned p (turns ++ more) a c
turned-more p turns more a b c (rows, is, are) (others, also, too) = (
  rows ++ others,
  also ∙ ap (λ (rs : List FocusRow). rs ++ others) is ∙ append_assoc a.rows rows others,
  rows-append p turns more a.at_hand b.at_hand c.at_hand rows others are too,
)

pub turned-next : (p : ProgramForm) (turns : List NumberedPlace) (k : ℕ) (turn : NumberedPlace) (a b c : Progress)
    → k < length turns → get_or turns k turn ≡ turn → Turned p (take k turns) a b → Turned p (turn ∷ []) b c
    → Turned p (take (k + 1) turns) a c
turned-next p turns k turn a b c lt is before own =
    rw (add-one, take-suc turns k turn lt, is) (turned-more p (take k turns) (turn ∷ []) a b c before own)

-- ---- turns that can't be taken

split-at : {X : Type 0} (xs : List X) (k : ℕ) (x : X) → k < length xs → get_or xs k x ≡ x
    → xs ≡ take k xs ++ x ∷ drop (k + 1) xs
split-at xs k x lt is =
    let rest : drop k xs ≡ x ∷ drop (k + 1) xs
    = rw (add-one) (drop-cons xs k x lt ∙ ap (λ y. y ∷ drop (suc k) xs) is)
    in sym (take-append-drop k xs) ∙ ap (λ ys. take k xs ++ ys) rest

pub stops-later : (p : ProgramForm) (turns more : List NumberedPlace) (a b : Progress) (e : StageError)
    → Turned p turns a b → StopsFocus p more b.at_hand e → StopsFocus p (turns ++ more) a.at_hand e
stops-later p turns more a b e (rows, is, are) = by e
  where
    at : (d : StageError) → StopsAt p more b.at_hand d → StopsAt p (turns ++ more) a.at_hand d
    at d stops = record {
      before = turns ++ stops.before;
      turn = stops.turn;
      after = stops.after;
      comes = ap (λ xs. turns ++ xs) stops.comes ∙ sym (append_assoc turns stops.before (stops.turn ∷ stops.after));
      rows = rows ++ stops.rows;
      at_hand = stops.at_hand;
      are = rows-append p turns stops.before a.at_hand b.at_hand stops.at_hand rows stops.rows are stops.are;
      is_cause = stops.is_cause;
    }

    by : (d : StageError) → StopsFocus p more b.at_hand d → StopsFocus p (turns ++ more) a.at_hand d
    by Splits stops = at Splits stops
    by Individuals stops = at Individuals stops
    by Memory stops = tt

pub stops-sooner : (p : ProgramForm) (turns more : List NumberedPlace) (ss : List StructureForm) (e : StageError)
    → StopsFocus p turns ss e → StopsFocus p (turns ++ more) ss e
stops-sooner p turns more ss e = by e
  where
    at : (d : StageError) → StopsAt p turns ss d → StopsAt p (turns ++ more) ss d
    at d stops = record {
      before = stops.before;
      turn = stops.turn;
      after = stops.after ++ more;
      comes = ap (λ xs. xs ++ more) stops.comes ∙ append_assoc stops.before (stops.turn ∷ stops.after) more;
      rows = stops.rows;
      at_hand = stops.at_hand;
      are = stops.are;
      is_cause = stops.is_cause;
    }

    by : (d : StageError) → StopsFocus p turns ss d → StopsFocus p (turns ++ more) ss d
    by Splits stops = at Splits stops
    by Individuals stops = at Individuals stops
    by Memory stops = tt

stops-here : (p : ProgramForm) (turn : NumberedPlace) (after : List NumberedPlace) (ss : List StructureForm)
    (e : StageError) → IsFocusCause turn.place ss e → StopsFocus p (turn ∷ after) ss e
stops-here p turn after ss e = by e
  where
    at : (d : StageError) → IsFocusCause turn.place ss d → StopsAt p (turn ∷ after) ss d
    at d cause = record {
      before = [];
      turn = turn;
      after = after;
      comes = refl;
      rows = [];
      at_hand = ss;
      are = (refl, refl);
      is_cause = cause;
    }

    by : (d : StageError) → IsFocusCause turn.place ss d → StopsFocus p (turn ∷ after) ss d
    by Splits cause = at Splits cause
    by Individuals cause = at Individuals cause
    by Memory cause = tt

pub stops-next : (p : ProgramForm) (turns : List NumberedPlace) (k : ℕ) (turn : NumberedPlace) (a b : Progress)
    (e : StageError) → k < length turns → get_or turns k turn ≡ turn → Turned p (take k turns) a b
    → IsFocusCause turn.place b.at_hand e → StopsFocus p turns a.at_hand e
stops-next p turns k turn a b e lt is before cause =
    subst (λ (xs : List NumberedPlace). StopsFocus p xs a.at_hand e) (sym (split-at turns k turn lt is))
    (stops-later p (take k turns) (turn ∷ drop (k + 1) turns) a b e before
    (stops-here p turn (drop (k + 1) turns) b.at_hand e cause))

-- ---- the list of places

pub places-count : (n : ℕ) (f : Form) → length (numbered_places n f) ≡ length (focus_atoms f)
places-count n f =
    length-map (places_in f) (λ place. record { number = n; place = place })
    ∙ length-map (range_with_len 0 (length (focus_atoms f))) (λ k. record { formula = f; atom = k })
    ∙ length-range_with_len 0 (length (focus_atoms f))

pub place-at : (n : ℕ) (f : Form) (k : ℕ) (turn : NumberedPlace) → k < length (focus_atoms f)
    → get_or (numbered_places n f) k turn ≡ record { number = n; place = record { formula = f; atom = k } }
place-at n f k turn lt =
    let count : ℕ = length (focus_atoms f)
    in let at : ℕ → FocusPlace = λ j. record { formula = f; atom = j }
    in let num : FocusPlace → NumberedPlace = λ place. record { number = n; place = place }
    in let ranged : length (range_with_len 0 count) ≡ count = length-range_with_len 0 count
    in let placed : length (map at (range_with_len 0 count)) ≡ length (range_with_len 0 count)
    = length-map (range_with_len 0 count) at
    in get_or-map num (map at (range_with_len 0 count)) k (at 0) turn (omega (arith, lt, ranged, placed))
    ∙ ap num (get_or-map at (range_with_len 0 count) k 0 (at 0) (omega (arith, lt, ranged))
    ∙ ap at (get_or-range_with_len 0 count k 0 lt ∙ omega arith))

places-append : (n : ℕ) (fs gs : List Form)
    → places_from n (fs ++ gs) ≡ places_from n fs ++ places_from (n + length fs) gs
places-append n [] gs = ap (λ k. places_from k gs) (omega arith)
places-append n (f ∷ fs) gs =
    ap (λ xs. numbered_places n f ++ xs)
    (places-append (suc n) fs gs
    ∙ ap (λ k. places_from (suc n) fs ++ places_from k gs) (omega arith))
    ∙ sym (append_assoc (numbered_places n f) (places_from (suc n) fs) (places_from (n + length (f ∷ fs)) gs))

-- the places of one formula more
pub formulas-next : (fs : List Formula) (i : ℕ) (f : Formula) → i < length fs → get_or fs i f ≡ f
    → places_from 0 (map form_of (take (i + 1) fs))
    ≡ places_from 0 (map form_of (take i fs)) ++ numbered_places i (form_of f)
formulas-next fs i f lt is =
    let before : List Form = map form_of (take i fs)
    in let count : length before ≡ i = length-map (take i fs) form_of ∙ length-take-le i fs (omega (arith, lt))
    in rw (add-one, take-suc fs i f lt, is)
    (ap (places_from 0) (map-append form_of (take i fs) (f ∷ []))
    ∙ places-append 0 before (form_of f ∷ [])
    ∙ ap (λ xs. places_from 0 before ++ xs)
    (append-nil (numbered_places (0 + length before) (form_of f))
    ∙ ap (λ k. numbered_places k (form_of f)) (omega (arith, count))))

-- all places, around those of a formula
pub formulas-split : (fs : List Formula) (i : ℕ) (f : Formula) → i < length fs → get_or fs i f ≡ f
    → places_from 0 (map form_of fs)
    ≡ places_from 0 (map form_of (take i fs))
    ++ (numbered_places i (form_of f) ++ places_from (i + 1) (map form_of (drop (i + 1) fs)))
formulas-split fs i f lt is =
    let before : List Form = map form_of (take i fs)
    in let after : List Form = map form_of (drop (i + 1) fs)
    in let count : length before ≡ i = length-map (take i fs) form_of ∙ length-take-le i fs (omega (arith, lt))
    in ap (λ gs. places_from 0 (map form_of gs)) (split-at fs i f lt is)
    ∙ ap (places_from 0) (map-append form_of (take i fs) (f ∷ drop (i + 1) fs))
    ∙ places-append 0 before (form_of f ∷ after)
    ∙ ap (λ k. places_from 0 before ++ (numbered_places k (form_of f) ++ places_from (suc k) after))
    (omega (arith, count))
    ∙ ap (λ k. places_from 0 before ++ (numbered_places i (form_of f) ++ places_from k after)) (omega arith)

-- ---- one atom in a structure

pub atoms-fit : (p : ProgramForm) (s : StructureForm) (f : Form) → IsShaped p s → IsFormula p f
    → AreAtomsOver (arities_of s) f
atoms-fit p s f shaped is = subst (λ ns. AreAtomsOver ns f) (sym shaped.over) (atoms-over _ f is)

pub stage-cause : (s : StructureForm) (place : FocusPlace) (e : StageError)
    → IsStageCause s place.formula place.atom e → IsFocusCause place (s ∷ []) e
stage-cause s place Splits cause = (0, s, omega arith, refl, cause)
stage-cause s place Individuals cause = (0, s, omega arith, refl, cause.1)
stage-cause s place Memory cause = tt

any-in : {X : Type 0} (P : X → Type 0) (xs : List X) (x : X) → Contains xs x → Any P (x ∷ []) → Any P xs
any-in {X} P xs x at (zero, y, lt, is, holds) = (at.0, x, at.1, at.2, subst P (sym is) holds)
any-in P xs x at (suc k, y, lt, is, holds) = absurd (omega (arith, lt))

pub cause-in : (place : FocusPlace) (ss : List StructureForm) (s : StructureForm) (e : StageError)
    → Contains ss s
    → IsFocusCause place (s ∷ []) e → IsFocusCause place ss e
cause-in place ss s Splits at cause = any-in (λ t. 4096 < length (choices_at t place)) ss s at cause
cause-in place ss s Individuals at cause =
    any-in (λ t. Any (λ l. 256 < length l.individuals) (choices_at t place)) ss s at cause
cause-in place ss s Memory at cause = tt

-- a structure at hand and its choices
pub at-focused : (p : ProgramForm) (place : FocusPlace) (s : StructureForm) (x : FocusedAt)
    (ts : List StructureForm) → x.at_hand ≡ s → map (λ (c : Choice). c.structure) x.choices ≡ ts
    → AllZip (IsTableOf p) ts (choices_at s place) → All (λ (c : Choice). IsFate p c.structure c.fate) x.choices
    → IsFocusedAt p place x
at-focused p place s x ts same are zip fates = record {
  choices = subst (λ t. AllZip (IsTableOf p) (map (λ (c : Choice). c.structure) x.choices) (choices_at t place))
      (sym same) (subst (λ us. AllZip (IsTableOf p) us (choices_at s place)) (sym are) zip);
  fates = fates;
}
