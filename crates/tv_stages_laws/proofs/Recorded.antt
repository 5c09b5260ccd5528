-- What is recorded at each stage is what the stage gives.
use Rattle.std.proofs.Common.{ℕ, suc, ◌≡◌, ◌∙◌, true, false, List, [], ◌∷◌, ◌++◌, map, filter, inl, inr, refl}
use Rattle.std.proofs.Common.{sym}
use Rattle.std.proofs.Common.{ap, subst, All}
use Rattle.std.specs.List.{flat_map}
use Rattle.std.proofs.lemmas.Bool.{false≢true}
use Rattle.std.proofs.lemmas.List.{map-append, map-id}
use Rattle.std.proofs.lemmas.List.Elements.{All-head, All-tail}
use Rattle.tv_kleene.specs.declared.K3.{K3}
use Rattle.tv_kleene.specs.declared.K3.TheVariants.{No, Half, Yes}
use Rattle.tv_model.specs.declared.program.Mode.{Mode}
use Rattle.tv_model.specs.Form.{Form}
use Rattle.tv_model.specs.Program.{ProgramForm, ActionForm}
use Rattle.tv_model.proofs.Lists.{All-from_contains, map-compose}
use Rattle.std.proofs.lemmas.List.Elements.{All-contains}
use Rattle.tv_structure_form.specs.StructureForm.{StructureForm, structure_of}
use Rattle.tv_update_laws.specs.Picks.{isnt_no, picks_of, precondition_value}
use Rattle.tv_step_laws.specs.Parts.{AreFrom}
use Rattle.tv_step_laws.specs.Transfer.{Coerces, FocusPlace, places_in, focus_places, Focuses, AreFocused}
use Rattle.tv_step_laws.specs.Transfer.{AreAtHand, GivesStructures, Finishes, Steps}
use Rattle.tv_stages_laws.specs.declared.record.Choice.{Choice}
use Rattle.tv_stages_laws.specs.declared.record.End.{End}
use Rattle.tv_stages_laws.specs.declared.record.End.TheVariants.{Blurred, Lost}
use Rattle.tv_stages_laws.specs.declared.record.Fate.{Fate}
use Rattle.tv_stages_laws.specs.declared.record.Fate.TheVariants.{Kept, Dropped}
use Rattle.tv_stages_laws.specs.declared.record.FocusRow.{FocusRow}
use Rattle.tv_stages_laws.specs.declared.record.FocusedAt.{FocusedAt}
use Rattle.tv_stages_laws.specs.declared.record.Given.{Given}
use Rattle.tv_stages_laws.specs.declared.record.PickedUpdate.{PickedUpdate}
use Rattle.tv_stages_laws.specs.declared.record.UpdatedAt.{UpdatedAt}
use Rattle.tv_stages_laws.specs.Stages.{IsFate, kept_by, NumberedPlace, places_from, IsFocusedAt, kept_at}
use Rattle.tv_stages_laws.specs.Stages.{IsFocusRow, kept_behind, AreFocusRows, IsEndFrom, ended_by, GivesAt}
use Rattle.tv_stages_laws.specs.Stages.{IsPickedUpdate, IsUpdatedAt, ends_of}
use Rattle.tv_stages_laws.proofs.Parts.{from-told, from-lists, from-passed}

-- what follows of each element
all-so : {X : Type 0} (P Q : X → Type 0) → ((x : X) → P x → Q x) → (xs : List X) → All P xs → All Q xs
all-so P Q so xs all = All-from_contains Q xs (λ x at. so x (All-contains P xs x all at))

-- ---- coerce

pub fate-coerces : (p : ProgramForm) (s : StructureForm) (fate : Fate) → IsFate p s fate
    → Coerces p s (kept_by fate)
fate-coerces p s (Kept t) is = inr (t, is, refl)
fate-coerces p s (Dropped claim) is = inl (is.0, refl)

-- ---- focus

pub focused-at : (p : ProgramForm) (place : FocusPlace) (x : FocusedAt) → IsFocusedAt p place x
    → Focuses p place x.at_hand (kept_at x)
focused-at p place x is = (
  map (λ (c : Choice). c.structure) x.choices,
  is.choices,
  from-told (Coerces p) (λ (c : Choice). c.structure) (λ (c : Choice). kept_by c.fate) x.choices
      (all-so (λ (c : Choice). IsFate p c.structure c.fate)
      (λ (c : Choice). Coerces p c.structure (kept_by c.fate))
      (λ c. fate-coerces p c.structure c.fate) x.choices is.fates),
)

pub row-focuses : (p : ProgramForm) (turn : NumberedPlace) (ss : List StructureForm) (row : FocusRow)
    → IsFocusRow p turn ss row → AreFrom (Focuses p turn.place) ss (kept_behind row)
row-focuses p turn ss row is =
    subst (λ us. AreFrom (Focuses p turn.place) us (kept_behind row)) is.at_hand
    (from-told (Focuses p turn.place) (λ (x : FocusedAt). x.at_hand) kept_at row.at_hand
    (all-so (IsFocusedAt p turn.place) (λ (x : FocusedAt). Focuses p turn.place x.at_hand (kept_at x))
    (focused-at p turn.place) row.at_hand is.each))

pub rows-focused : (p : ProgramForm) (turns : List NumberedPlace) (ss : List StructureForm)
    (rows : List FocusRow) (ts : List StructureForm)
    → AreFocusRows p turns ss rows ts → AreFocused p (map (λ turn. turn.place) turns) ss ts
rows-focused p [] ss rows ts are = are.1
rows-focused p (turn ∷ turns) ss [] ts are = absurd are
rows-focused p (turn ∷ turns) ss (row ∷ rows) ts are =
    (kept_behind row, row-focuses p turn ss row are.0, rows-focused p turns (kept_behind row) rows ts are.1)

pub places-are : (n : ℕ) (fs : List Form) → map (λ turn. turn.place) (places_from n fs) ≡ focus_places fs
places-are n [] = refl
places-are n (f ∷ fs) =
    let numbered : FocusPlace → NumberedPlace = λ place. record { number = n; place = place }
    in let place : NumberedPlace → FocusPlace = λ turn. turn.place
    in map-append place (map numbered (places_in f)) (places_from (suc n) fs)
    ∙ ap (λ ps. ps ++ map place (places_from (suc n) fs))
    (map-compose numbered place (places_in f) ∙ map-id (places_in f))
    ∙ ap (λ ps. places_in f ++ ps) (places-are (suc n) fs)

pub rows-at-hand : (p : ProgramForm) (fs : List Form) (s : StructureForm) (fate : Fate) (rows : List FocusRow)
    (ts : List StructureForm) → IsFate p s fate → AreFocusRows p (places_from 0 fs) (kept_by fate) rows ts
    → AreAtHand p (focus_places fs) s ts
rows-at-hand p fs s fate rows ts is are = (
  kept_by fate,
  fate-coerces p s fate is,
  subst (λ places. AreFocused p places (kept_by fate) ts) (places-are 0 fs)
      (rows-focused p (places_from 0 fs) (kept_by fate) rows ts are),
)

-- ---- updates

abbrev structures_in : PickedUpdate → List StructureForm
structures_in u = map (λ (g : Given). g.structure) u.given

abbrev ends_in : PickedUpdate → List StructureForm
ends_in u = flat_map (λ (g : Given). ended_by g.end) u.given

gives-passed : (k : K3) (p : ProgramForm) (mode : Mode) (action : ActionForm) (s : StructureForm)
    (picked : List ℕ) (ts : List StructureForm)
    → GivesAt k p mode action s picked ts → isnt_no k ≡ true → GivesStructures p mode action s picked ts
gives-passed No p mode action s picked ts gives passes = absurd (false≢true passes)
gives-passed Half p mode action s picked ts gives passes = gives
gives-passed Yes p mode action s picked ts gives passes = gives

gives-none : (k : K3) (p : ProgramForm) (mode : Mode) (action : ActionForm) (s : StructureForm)
    (picked : List ℕ) (ts : List StructureForm)
    → GivesAt k p mode action s picked ts → isnt_no k ≡ false → ts ≡ []
gives-none No p mode action s picked ts gives fails = gives
gives-none Half p mode action s picked ts gives fails = absurd (false≢true (sym fails))
gives-none Yes p mode action s picked ts gives fails = absurd (false≢true (sym fails))

pub end-finishes : (p : ProgramForm) (s : StructureForm) (end : End) → IsEndFrom p s end
    → Finishes p s (ended_by end)
end-finishes p s (Blurred coerced blurred) is = (coerced ∷ [], inr (coerced, is.0, refl), (is.1, tt))
end-finishes p s (Lost claim) is = ([], inl (is.0, refl), tt)

module _ (p : ProgramForm) (mode : Mode) (action : ActionForm) (s : StructureForm) where
  pub picked-give : (us : List PickedUpdate) → All (IsPickedUpdate p mode action s) us
      → AreFrom (GivesStructures p mode action s)
      (filter (λ ws. isnt_no (precondition_value (structure_of s) (picks_of action ws) action.pre))
      (map (λ (u : PickedUpdate). u.individuals) us))
      (flat_map structures_in us)
  picked-give [] all = refl
  picked-give (u ∷ us) all =
      let is : IsPickedUpdate p mode action s u = All-head (IsPickedUpdate p mode action s) u us all
      in let same : isnt_no (precondition_value (structure_of s) (picks_of action u.individuals) action.pre)
      ≡ isnt_no u.value = ap isnt_no (sym is.value)
      in from-passed (GivesStructures p mode action s)
      (λ ws. isnt_no (precondition_value (structure_of s) (picks_of action ws) action.pre)) u.individuals
      (map (λ (w : PickedUpdate). w.individuals) us) (structures_in u) (flat_map structures_in us)
      (λ passes. gives-passed u.value p mode action s u.individuals (structures_in u) is.gives (sym same ∙ passes))
      (λ fails. gives-none u.value p mode action s u.individuals (structures_in u) is.gives (sym same ∙ fails))
      (picked-give us (All-tail (IsPickedUpdate p mode action s) u us all))

  picked-end : (u : PickedUpdate) → IsPickedUpdate p mode action s u
      → AreFrom (Finishes p) (structures_in u) (ends_in u)
  picked-end u is =
      from-told (Finishes p) (λ (g : Given). g.structure) (λ (g : Given). ended_by g.end) u.given
      (all-so (λ (g : Given). IsEndFrom p g.structure g.end)
      (λ (g : Given). Finishes p g.structure (ended_by g.end))
      (λ g. end-finishes p g.structure g.end) u.given is.ends)

  pub picked-ends : (us : List PickedUpdate) → All (IsPickedUpdate p mode action s) us
      → AreFrom (Finishes p) (flat_map structures_in us) (flat_map ends_in us)
  picked-ends us all =
      from-lists (Finishes p) structures_in ends_in us
      (all-so (IsPickedUpdate p mode action s)
      (λ (u : PickedUpdate). AreFrom (Finishes p) (structures_in u) (ends_in u)) picked-end us all)

-- the blurred structures at the end of what is recorded of a structure at hand
abbrev ends_at : UpdatedAt → List StructureForm
ends_at x = flat_map ends_in x.picks

pub updated-steps : (p : ProgramForm) (mode : Mode) (action : ActionForm) (x : UpdatedAt)
    → IsUpdatedAt p mode action x → Steps p mode action x.at_hand (ends_at x)
updated-steps p mode action x is = (
  flat_map structures_in x.picks,
  subst (λ all. AreFrom (GivesStructures p mode action x.at_hand)
      (filter (λ ws. isnt_no (precondition_value (structure_of x.at_hand) (picks_of action ws) action.pre)) all)
      (flat_map structures_in x.picks)) is.picks (picked-give p mode action x.at_hand x.picks is.each),
  picked-ends p mode action x.at_hand x.picks is.each,
)

pub updates-step : (p : ProgramForm) (mode : Mode) (action : ActionForm) (updates : List UpdatedAt)
    → All (IsUpdatedAt p mode action) updates
    → AreFrom (Steps p mode action) (map (λ (x : UpdatedAt). x.at_hand) updates) (ends_of updates)
updates-step p mode action updates all =
    from-told (Steps p mode action) (λ (x : UpdatedAt). x.at_hand) ends_at updates
    (all-so (IsUpdatedAt p mode action) (λ (x : UpdatedAt). Steps p mode action x.at_hand (ends_at x))
    (updated-steps p mode action) updates all)
