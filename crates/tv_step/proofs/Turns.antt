-- Focus, atom by atom.
use Rattle.std.proofs.Common.{ℕ, ◌≡◌, ◌∙◌, ◌<◌, ◌+◌, zero, suc, List, [], ◌∷◌, ◌++◌, length, map, take}
use Rattle.std.proofs.Common.{drop, inl, inr, refl, sym, ap, subst, arith, add-one, append_assoc, get_or}
use Rattle.std.proofs.Common.{All, Contains}
use Rattle.std.specs.Prelude.{Any}
use Rattle.std.specs.List.{AllZip, range_with_len}
use Rattle.std.proofs.lemmas.List.{append-nil, map-append, take-append-drop}
use Rattle.std.proofs.lemmas.List.Elements.{All-nil, All-cons}
use Rattle.std.proofs.lemmas.List.Concat.{flat_map-append}
use Rattle.std.proofs.lemmas.List.FromFn.{map-range_with_len_more}
use Rattle.std.proofs.Math.Seq.{drop-cons, take-suc}
use Rattle.tv_embedding_laws.specs.LogicalStructure.{LogicalStructure}
use Rattle.tv_focus_laws.specs.FocusAtoms.{focus_atoms}
use Rattle.tv_focus_laws.specs.Tables.{AreStage, ShowsOver}
use Rattle.tv_focus.specs.Anchored.{AreAtomsOver}
use Rattle.tv_focus.specs.Focused.{focused_from, structures_in}
use Rattle.tv_focus.specs.Stage.{IsStageCause}
use Rattle.tv_focus.specs.declared.focused.Focused.{Focused}
use Rattle.tv_focus.proofs.Limits.{atoms-over}
use Rattle.tv_model.specs.declared.formula.Formula.{Formula}
use Rattle.tv_model.specs.Form.{Form, form_of}
use Rattle.tv_model.specs.Program.{ProgramForm}
use Rattle.tv_model.specs.Valid.{IsFormula}
use Rattle.tv_structure_form.specs.StructureForm.{StructureForm, arities_of}
use Rattle.tv_step_laws.specs.Parts.{AreFrom}
use Rattle.tv_step_laws.specs.Shaped.{IsShaped}
use Rattle.tv_step_laws.specs.Transfer.{FocusPlace, places_in, focus_places, choices_at, IsTableOf, Coerces}
use Rattle.tv_step_laws.specs.Transfer.{Focuses, AreFocused}
use Rattle.tv_struct.specs.declared.analysis.StageError.{StageError}
use Rattle.tv_struct.specs.declared.analysis.StageError.TheVariants.{Splits, Individuals, Memory}
use Rattle.tv_step.specs.declared.focus.Turn.{Turn}
use Rattle.tv_step.specs.Places.{focus_place}
use Rattle.tv_step.specs.Setting.{IsStableIn}
use Rattle.tv_step.specs.Steps.{Adds, IsFocusCause, KeepsLimits, AreFocusedWithin, FailsAt, IsCauseOfFocus}
use Rattle.tv_step_laws.proofs.From.{from-all}
use Rattle.tv_step_laws.proofs.Settled.{stable-coerces}
use Rattle.tv_step.proofs.Adding.{each-unit, from-one}

-- ---- the list of places

abbrev pub at : Form → ℕ → FocusPlace
at f k = record { formula = f; atom = k }

pub places-more : (f : Form) (items old : List FocusPlace) (n : ℕ)
    → items ≡ old ++ map (at f) (range_with_len 0 n)
    → items ++ at f n ∷ [] ≡ old ++ map (at f) (range_with_len 0 (n + 1))
places-more f items old n is =
    ap (λ xs. xs ++ at f n ∷ []) is ∙ append_assoc old (map (at f) (range_with_len 0 n)) (at f n ∷ [])
    ∙ ap (λ xs. old ++ xs) (sym (map-range_with_len_more (at f) 0 n n (omega arith)))

pub places-all : (f : Form) (items old : List FocusPlace) (n : ℕ)
    → items ≡ old ++ map (at f) (range_with_len 0 n) → n ≡ length (focus_atoms f) → items ≡ old ++ places_in f
places-all f items old n is all = is ∙ ap (λ k. old ++ map (at f) (range_with_len 0 k)) all

formulas-more : (fs : List Form) (f : Form) → focus_places (fs ++ f ∷ []) ≡ focus_places fs ++ places_in f
formulas-more fs f = flat_map-append places_in fs (f ∷ [])
    ∙ ap (λ xs. focus_places fs ++ xs) (append-nil (places_in f))

-- those of one formula more
pub formulas-next : (fs : List Formula) (i : ℕ) (f : Formula) → i < length fs → f ≡ get_or fs i f
    → focus_places (map form_of (take (i + 1) fs)) ≡ focus_places (map form_of (take i fs)) ++ places_in (form_of f)
formulas-next fs i f lt is =
    rw (add-one, take-suc fs i f lt, ← is)
    (ap focus_places (map-append form_of (take i fs) (f ∷ [])) ∙ formulas-more (map form_of (take i fs)) (form_of f))

-- ---- one atom

pub atoms-fit : (p : ProgramForm) (s : StructureForm) (f : Form) → IsShaped p s → IsFormula p f
    → AreAtomsOver (arities_of s) f
atoms-fit p s f shaped is = subst (λ ns. AreAtomsOver ns f) (sym shaped.over) (atoms-over _ f is)

table-of : (p : ProgramForm) (s t : StructureForm) (l : LogicalStructure) → IsShaped p s → ShowsOver s t l
    → IsTableOf p t l
table-of p s t l shaped shows = (
  record {
    over = shows.over ∙ shaped.over;
    planes = shows.is.table.planes;
    summaries = shows.is.summaries;
  },
  shows.shows,
)

pub tables-of : (p : ProgramForm) (s : StructureForm) → IsShaped p s
    → (ts : List StructureForm) (ls : List LogicalStructure)
    → AllZip (ShowsOver s) ts ls → AllZip (IsTableOf p) ts ls
tables-of p s shaped [] [] zip = tt
tables-of p s shaped [] (l ∷ ls) zip = absurd zip
tables-of p s shaped (t ∷ ts) [] zip = absurd zip
tables-of p s shaped (t ∷ ts) (l ∷ ls) zip = (table-of p s t l shaped zip.0, tables-of p s shaped ts ls zip.1)

pub tables-shaped : (p : ProgramForm) (ts : List StructureForm) (ls : List LogicalStructure)
    → AllZip (IsTableOf p) ts ls
    → All (IsShaped p) ts
tables-shaped p [] [] zip = All-nil (IsShaped p)
tables-shaped p [] (l ∷ ls) zip = absurd zip
tables-shaped p (t ∷ ts) [] zip = absurd zip
tables-shaped p (t ∷ ts) (l ∷ ls) zip = All-cons (IsShaped p) t ts zip.0.0 (tables-shaped p ts ls zip.1)

pub focus-adds : (p : ProgramForm) (place : FocusPlace) (s : StructureForm) (ts old new : List StructureForm)
    → AllZip (IsTableOf p) ts (choices_at s place) → Adds (AreFrom (Coerces p)) ts old new
    → Adds (Focuses p place) s old new
focus-adds p place s ts old new zip (own, from, is) = (own, (ts, zip, from), is)

-- a structure whose atom is known is what focus makes of it, and a stable one is what coerce makes of it
pub focus-itself : (p : ProgramForm) (place : FocusPlace) (s t : StructureForm) (old new : List StructureForm)
    → IsShaped p s → IsStableIn p s → t ≡ s → AllZip (IsTableOf p) (t ∷ []) (choices_at s place)
    → new ≡ old ++ t ∷ [] → Adds (Focuses p place) s old new
focus-itself p place s t old new shaped stable same zip is = (
  t ∷ [],
  (
    t ∷ [],
    zip,
    from-one (Coerces p) t (t ∷ [])
        (stable-coerces p t (subst (IsShaped p) (sym same) shaped) (subst (IsStableIn p) (sym same) stable)),
  ),
  is,
)

pub known-itself : (p : ProgramForm) (place : FocusPlace) (s : StructureForm) → IsShaped p s → IsStableIn p s
    → AreStage s place.formula place.atom (s ∷ []) → Focuses p place s (s ∷ [])
known-itself p place s shaped stable are = (
  s ∷ [],
  tables-of p s shaped (s ∷ []) (choices_at s place) are,
  from-one (Coerces p) s (s ∷ []) (stable-coerces p s shaped stable),
)

-- what became of the structure, in the words of the turn
pub made-stage : (s : StructureForm) (f g : Formula) (k : ℕ) (focused m : Focused) → f ≡ g → focused ≡ m
    → AreStage s (form_of f) k (structures_in focused) → AreStage s (form_of g) k (structures_in m)
made-stage s f g k focused m same is are =
    subst (λ x. AreStage s (form_of g) k (structures_in x)) is
    (subst (λ h. AreStage s (form_of h) k (structures_in focused)) same are)

pub made-from : (s : StructureForm) (focused m : Focused) → focused ≡ m → focused_from focused ≡ s
    → focused_from m ≡ s
made-from s focused m is from = subst (λ x. focused_from x ≡ s) is from

pub focus-cause : (s : StructureForm) (place : FocusPlace) (e : StageError)
    → IsStageCause s place.formula place.atom e → IsFocusCause place (s ∷ []) e
focus-cause s place Splits cause = (0, s, omega arith, refl, cause)
focus-cause s place Individuals cause = (0, s, omega arith, refl, cause.1)
focus-cause s place Memory cause = tt

-- ---- all structures at hand

any-in : {X : Type 0} (P : X → Type 0) (xs : List X) (x : X) → Contains xs x → Any P (x ∷ []) → Any P xs
any-in {X} P xs x at (zero, y, lt, is, holds) = (at.0, x, at.1, at.2, subst P (sym is) holds)
any-in P xs x at (suc k, y, lt, is, holds) = absurd (omega (arith, lt))

pub cause-in : (place : FocusPlace) (ss : List StructureForm) (s : StructureForm) (e : StageError)
    → Contains ss s
    → IsFocusCause place (s ∷ []) e → IsFocusCause place ss e
cause-in place ss s Splits at cause = any-in (λ t. 4096 < length (choices_at t place)) ss s at cause
cause-in place ss s Individuals at cause =
    any-in (λ t. Any (λ l. 256 < length l.individuals) (choices_at t place)) ss s at cause
cause-in place ss s Memory at cause = tt

-- ---- one atom after the other

pub focused-next : (p : ProgramForm) (places : List FocusPlace) (place : FocusPlace)
    (ss ts us : List StructureForm)
    → AreFocusedWithin p places ss ts → AreFrom (Focuses p place) ts us → KeepsLimits place ts
    → AreFocusedWithin p (places ++ place ∷ []) ss us
focused-next p [] place ss ts us are from keeps =
    (us, subst (λ xs. AreFrom (Focuses p place) xs us) are from, subst (KeepsLimits place) are keeps, refl)
focused-next p (first ∷ places) place ss ts us (xs, made, kept, later) from keeps =
    (xs, made, kept, focused-next p places place xs ts us later from keeps)

pub focused-are : (p : ProgramForm) (places : List FocusPlace) (ss ts : List StructureForm)
    → AreFocusedWithin p places ss ts
    → AreFocused p places ss ts
focused-are p [] ss ts are = are
focused-are p (place ∷ places) ss ts (us, made, kept, later) = (us, made, focused-are p places us ts later)

pub coerces-shaped : (p : ProgramForm) (s : StructureForm) (ts : List StructureForm) → Coerces p s ts
    → All (IsShaped p) ts
coerces-shaped p s ts (inl (none, is)) = subst (All (IsShaped p)) (sym is) (All-nil (IsShaped p))
coerces-shaped p s ts (inr (t, coerced, is)) =
    subst (All (IsShaped p)) (sym is) (All-cons (IsShaped p) t [] coerced.shaped (All-nil (IsShaped p)))

pub focus-shaped : (p : ProgramForm) (place : FocusPlace) (ss ts : List StructureForm)
    → AreFrom (Focuses p place) ss ts
    → All (IsShaped p) ts
focus-shaped p place ss ts from =
    from-all (Focuses p place) (λ s. Unit {0}) (IsShaped p)
    (λ s own nothing (us, zip, made). from-all (Coerces p) (λ u. Unit {0}) (IsShaped p)
    (λ u parts none coerces. coerces-shaped p u parts coerces) us own made (each-unit us)) ss ts from
    (each-unit ss)

pub places-next : (places : List Turn) (i : ℕ) (place : Turn) → i < length places
    → place ≡ get_or places i place
    → map focus_place (take (i + 1) places) ≡ map focus_place (take i places) ++ focus_place place ∷ []
places-next places i place lt is =
    rw (add-one, take-suc places i place lt, ← is) (map-append focus_place (take i places) (place ∷ []))

pub places-split : (places : List Turn) (i : ℕ) (place : Turn) → i < length places
    → place ≡ get_or places i place
    → map focus_place places ≡ map focus_place (take i places) ++ focus_place place ∷ map focus_place
    (drop (i + 1) places)
places-split places i place lt is =
    let rest : drop i places ≡ place ∷ drop (i + 1) places
    = rw (add-one) (drop-cons places i place lt ∙ ap (λ x. x ∷ drop (suc i) places) (sym is))
    in sym (ap (map focus_place) (take-append-drop i places))
    ∙ map-append focus_place (take i places) (drop i places)
    ∙ ap (λ xs. map focus_place (take i places) ++ map focus_place xs) rest

fails-at : (p : ProgramForm) (places : List Turn) (i : ℕ) (place : Turn) (ss ts : List StructureForm)
    (Cause : FocusPlace → List StructureForm → Type 0)
    → i < length places → place ≡ get_or places i place
    → AreFocusedWithin p (map focus_place (take i places)) ss ts
    → Cause (focus_place place) ts → FailsAt p (map focus_place places) ss Cause
fails-at p places i place ss ts Cause lt is are cause = record {
  before = map focus_place (take i places);
  place = focus_place place;
  after = map focus_place (drop (i + 1) places);
  turn = places-split places i place lt is;
  at_hand = ts;
  are_focused = focused-are p (map focus_place (take i places)) ss ts are;
  is_cause = cause;
}

pub focus-fails : (p : ProgramForm) (places : List Turn) (i : ℕ) (place : Turn) (ss ts : List StructureForm)
    (e : StageError)
    → i < length places → place ≡ get_or places i place
    → AreFocusedWithin p (map focus_place (take i places)) ss ts
    → IsFocusCause (focus_place place) ts e → IsCauseOfFocus p (map focus_place places) ss e
focus-fails p places i place ss ts Splits lt is are cause = fails-at p places i place ss ts _ lt is are cause
focus-fails p places i place ss ts Individuals lt is are cause = fails-at p places i place ss ts _ lt is are cause
focus-fails p places i place ss ts Memory lt is are cause = tt
