-- Each case of a structure without results is lost.
use Rattle.std.proofs.Common.{◌≡◌, List, [], inl, inr, sym, ap, subst, Contains}
use Rattle.std.proofs.Common.{length}
use Rattle.tv_lemmas.proofs.Zips.{zip_found}
use Rattle.tv_model.specs.declared.program.Mode.{Mode}
use Rattle.tv_model.specs.Program.{ProgramForm, ActionForm}
use Rattle.tv_model.proofs.Lists.{All-from_contains, Contains-filter, Contains-here, Contains-none}
use Rattle.tv_structure_form.specs.StructureForm.{StructureForm, structure_of}
use Rattle.tv_update_laws.specs.Picks.{isnt_no, lists_of, passing_picks, picks_of, precondition_value}
use Rattle.tv_step_laws.specs.Transfer.{Coerces, Finishes, GivesStructures, HasNoOpening, IsBlurOf}
use Rattle.tv_step_laws.specs.Transfer.{Steps, focus_places}
use Rattle.tv_step_laws.proofs.Exact.{at_hand-once}
use Rattle.tv_step_laws.proofs.From.{HasPart, from-part}
use Rattle.tv_step_laws.proofs.Heaps.{action-once}
use Rattle.tv_losses_laws.specs.Cases.{CaseForm, IsSureCase, IsDroppedCase}
use Rattle.tv_losses_laws.specs.Laws.{NoResultsLoseCases}

-- where nothing is left, nothing was stable below
finishes-none : (p : ProgramForm) (s : StructureForm) (ts : List StructureForm) → Finishes p s ts
    → ((t : StructureForm) → ¬ Contains ts t) → HasNoOpening p s
finishes-none p s ts (cs, coerces, zip) nothing = by coerces
  where
    by : Coerces p s cs → HasNoOpening p s
    by (inl (none, is)) = none
    by (inr (t, coerced, is)) =
        let In : List StructureForm → Type 0 = λ us. Contains us t
        in let found : (u : StructureForm) × Contains ts u × IsBlurOf p t u
        = zip_found (IsBlurOf p) cs ts zip t (subst In (sym is) (Contains-here t []))
        in absurd (nothing found.0 found.1)

passing : (action : ActionForm) (s : StructureForm) (c : CaseForm) (p : ProgramForm) → IsSureCase p action s c
    → Contains (passing_picks action (structure_of c.at_hand)) c.picked
passing action s c p is =
    Contains-filter (λ us. isnt_no (precondition_value (structure_of c.at_hand) (picks_of action us) action.pre))
    (lists_of (structure_of c.at_hand).individuals (length action.picks)) c.picked is.listed
    (ap isnt_no is.enabled)

steps-dropped : (p : ProgramForm) (mode : Mode) (action : ActionForm) (s : StructureForm) (c : CaseForm)
    → IsSureCase p action s c
    → (own : List StructureForm) → Steps p mode action c.at_hand own
    → ((t : StructureForm) → ¬ Contains own t) → IsDroppedCase p mode action c
steps-dropped p mode action s c is own (us, updates, finishes) nothing =
    let part : HasPart (GivesStructures p mode action c.at_hand) us c.picked
    = from-part (GivesStructures p mode action c.at_hand) (passing_picks action (structure_of c.at_hand)) us
    updates c.picked (passing action s c p is)
    in record {
      given = part.own;
      are_given = part.made;
      none = All-from_contains (HasNoOpening p) part.own (λ u at.
          let last : HasPart (Finishes p) own u
          = from-part (Finishes p) us own finishes u (part.within u at)
          in finishes-none p u last.own last.made (λ t there. nothing t (last.within t there)));
    }

pub no-results_lose : NoResultsLoseCases
no-results_lose p valid mode edge s results action its c is =
    let same : results.action ≡ action = action-once p edge results.action action results.its_action its
    in record {
      action = action;
      its_action = its;
      is_case = is;
      dropped = subst (λ b. IsDroppedCase p mode b c) same
          (dropped (subst (λ b. IsSureCase p b s c) (sym same) is));
    }
  where
    dropped : IsSureCase p results.action s c → IsDroppedCase p mode results.action c
    dropped of =
        let hands : of.focused.0 ≡ results.at_hand
        = at_hand-once p (focus_places results.action.focus) s of.focused.0 results.at_hand of.focused.1
        results.are_at_hand
        in let In : List StructureForm → Type 0 = λ ts. Contains ts c.at_hand
        in let part : HasPart (Steps p mode results.action) results.given c.at_hand
        = from-part (Steps p mode results.action) results.at_hand results.given results.are_given c.at_hand
        (subst In hands of.focused.2)
        in steps-dropped p mode results.action s c of part.own part.made
        (λ t at. Contains-none t ((results.same t).1 (part.within t at)))
