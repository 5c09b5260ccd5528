-- What recorded stages end in is what the step gives, and nothing else.
use Rattle.std.proofs.Common.{ℕ, ◌≡◌, ◌∙◌, ◌↔◌, List, [], ◌∷◌, refl, sym, ap, subst, All, Contains}
use Rattle.std.specs.List.{AllZip}
use Rattle.std.proofs.lemmas.List.Elements.{All-head, All-tail}
use Rattle.tv_lemmas.proofs.Zips.{same_partners}
use Rattle.tv_model.specs.declared.program.Mode.{Mode}
use Rattle.tv_model.specs.Program.{ProgramForm, ActionForm}
use Rattle.tv_model.specs.Valid.{IsValid}
use Rattle.tv_model.proofs.Lists.{slice_get-contains}
use Rattle.tv_structure_form.specs.StructureForm.{StructureForm, structure_of}
use Rattle.tv_structure_form.proofs.StructureLaws.{IsFull, same_full}
use Rattle.tv_update_laws.specs.Picks.{picks_of, passing_picks}
use Rattle.tv_update_laws.specs.Tables.{SaysSame}
use Rattle.tv_update_laws.proofs.OneTables.{given_tables_are_one}
use Rattle.tv_step_laws.specs.Parts.{AreFrom}
use Rattle.tv_step_laws.specs.Shaped.{IsShaped}
use Rattle.tv_step_laws.specs.Transfer.{AreAtHand, focus_places, GivesStructures, IsBlurOf, Finishes, Steps}
use Rattle.tv_step_laws.specs.Transfer.{AreResults}
use Rattle.tv_step_laws.proofs.Exact.{at_hand-once, blur-once, coerces-once}
use Rattle.tv_step_laws.proofs.From.{from-once}
use Rattle.tv_step_laws.proofs.Heaps.{action-once}
use Rattle.tv_step_laws.proofs.Picked.{passing-are, picked-inside}
use Rattle.tv_stages_laws.specs.declared.record.SlowStep.{SlowStep}
use Rattle.tv_stages_laws.specs.Stages.{AreStages, IsSlowStep, ends_of}
use Rattle.tv_stages_laws.proofs.Recorded.{rows-at-hand, updates-step}

module _ (p : ProgramForm) (mode : Mode) (edge : ℕ) (s : StructureForm) (step : SlowStep)
    (are : AreStages p mode edge s step) where
  recorded-at_hand : AreAtHand p (focus_places are.action.focus) s are.at_hand
  recorded-at_hand = rows-at-hand p are.action.focus s step.start step.focus are.at_hand are.begins are.focused

  recorded-ends : AreFrom (Steps p mode are.action) are.at_hand (ends_of step.updates)
  recorded-ends =
      subst (λ hands. AreFrom (Steps p mode are.action) hands (ends_of step.updates)) are.updated
      (updates-step p mode are.action step.updates are.each)

  pub recorded-results : IsSlowStep p mode edge s step → AreResults p mode edge s step.results
  recorded-results is = record {
    action = are.action;
    its_action = are.its_action;
    at_hand = are.at_hand;
    are_at_hand = recorded-at_hand;
    given = ends_of step.updates;
    are_given = recorded-ends;
    same = is.same;
    sorted = is.sorted;
  }

-- ---- what a structure at hand gives is one list

full : (p : ProgramForm) (s : StructureForm) → IsShaped p s → IsFull s
full p s shaped = record { planes = shaped.planes; summaries = shaped.summaries }

said-once : (p : ProgramForm) (ts us : List StructureForm) → All (IsShaped p) ts → All (IsShaped p) us
    → AllZip SaysSame ts us → AllZip (λ (t u : StructureForm). t ≡ u) ts us
said-once p [] [] a b zip = tt
said-once p [] (u ∷ us) a b zip = absurd zip
said-once p (t ∷ ts) [] a b zip = absurd zip
said-once p (t ∷ ts) (u ∷ us) a b zip =
    let is_t : IsShaped p t = All-head (IsShaped p) t ts a
    in let is_u : IsShaped p u = All-head (IsShaped p) u us b
    in (
      same_full t u (full p t is_t) (full p u is_u) zip.0.size (is_t.over ∙ sym is_u.over)
          (λ pred tuple has. zip.0.values pred tuple has.individuals) zip.0.summaries zip.0.fresh,
      said-once p ts us (All-tail (IsShaped p) t ts a) (All-tail (IsShaped p) u us b) zip.1,
    )

same-zipped : (ts us : List StructureForm) → AllZip (λ (t u : StructureForm). t ≡ u) ts us → ts ≡ us
same-zipped [] [] zip = refl
same-zipped [] (u ∷ us) zip = absurd zip
same-zipped (t ∷ ts) [] zip = absurd zip
same-zipped (t ∷ ts) (u ∷ us) zip =
    ap (λ (x : StructureForm). x ∷ ts) zip.0 ∙ ap (λ (xs : List StructureForm). u ∷ xs) (same-zipped ts us zip.1)

finished-once : (p : ProgramForm) (s : StructureForm) (ts us : List StructureForm) → Finishes p s ts
    → Finishes p s us → ts ≡ us
finished-once p s ts us (cs, coerces, zip) (ds, also, too) =
    same_partners (IsBlurOf p) (blur-once p) cs ts us zip
    (subst (λ zs. AllZip (IsBlurOf p) zs us) (coerces-once p s ds cs also coerces) too)

stepped-once : (p : ProgramForm) → IsValid p → (mode : Mode) (action : ActionForm) → Contains p.actions action
    → (s : StructureForm) (ts us : List StructureForm) → Steps p mode action s ts → Steps p mode action s us
    → ts ≡ us
stepped-once p valid mode action has s ts us (xs, are, ends) (ys, too, also) =
    from-once (Finishes p) xs (λ u at. finished-once p u) ts us ends
    (subst (λ zs. AreFrom (Finishes p) zs us)
    (from-once (GivesStructures p mode action s) (passing_picks action (structure_of s))
    (λ picked at vs ws a b. same-zipped vs ws (said-once p vs ws a.1 b.1
    (given_tables_are_one p valid mode action has (structure_of s) (picks_of action picked)
    (picked-inside action (structure_of s) picked (passing-are action (structure_of s) picked at)) vs ws a.0 b.0)))
    ys xs too are) also)

pub stages-end : (p : ProgramForm) → IsValid p → (mode : Mode) (edge : ℕ) (s : StructureForm) (step : SlowStep)
    → AreStages p mode edge s step → (results : List StructureForm) → AreResults p mode edge s results
    → (t : StructureForm) → Contains results t ↔ Contains (ends_of step.updates) t
stages-end p valid mode edge s step are results is t =
    subst (λ zs. Contains results t ↔ Contains zs t) given (is.same t)
  where
    action : is.action ≡ are.action
    action = action-once p edge is.action are.action is.its_action are.its_action

    at_hand : is.at_hand ≡ are.at_hand
    at_hand = at_hand-once p (focus_places are.action.focus) s is.at_hand are.at_hand
        (subst (λ a. AreAtHand p (focus_places a.focus) s is.at_hand) action is.are_at_hand)
        (recorded-at_hand p mode edge s step are)

    has : Contains p.actions are.action
    has = slice_get-contains p.actions are.its_action.taken.action are.action are.its_action.its_action

    given : is.given ≡ ends_of step.updates
    given = from-once (Steps p mode are.action) are.at_hand
        (λ u at. stepped-once p valid mode are.action has u) is.given (ends_of step.updates)
        (subst (λ a. AreFrom (Steps p mode a) are.at_hand is.given) action
        (subst (λ zs. AreFrom (Steps p mode is.action) zs is.given) at_hand is.are_given))
        (recorded-ends p mode edge s step are)
