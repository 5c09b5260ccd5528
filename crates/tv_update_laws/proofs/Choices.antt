-- The choice that a heap makes is one of the list.
use Rattle.std.proofs.Common.{ℕ, ◌≡◌, Bool, true, false, List, [], ◌∷◌, map, filter, refl, sym}
use Rattle.std.proofs.Common.{◌∙◌, Contains, cond}
use Rattle.std.proofs.lemmas.Bool.{false≢true}
use Rattle.std.proofs.lemmas.List.Elements.{Contains-append_left, Contains-append_right}
use Rattle.tv_lemmas.proofs.Zips.{zip_found}
use Rattle.tv_kleene.specs.declared.K3.{K3}
use Rattle.tv_kleene.specs.declared.K3.TheVariants.{No, Half, Yes}
use Rattle.tv_model.specs.declared.program.Mode.{Mode}
use Rattle.tv_model.specs.Program.{ProgramForm, ActionForm}
use Rattle.tv_model.specs.Truth.{Assignment}
use Rattle.tv_model.proofs.Lists.{Contains-here, Contains-there}
use Rattle.tv_model.proofs.Lists.{Contains-filter, Contains-filter_back, Contains-map}
use Rattle.tv_embedding_laws.specs.LogicalStructure.{LogicalStructure}
use Rattle.tv_update_laws.specs.Applied.{MayChoose, IsNew, keep_value}
use Rattle.tv_update_laws.specs.Choices.{with_choice, choices_of, stays_in}
use Rattle.tv_update_laws.specs.Laws.{HasChoice, UpdateLosesNoHeap}
use Rattle.tv_update_laws.proofs.Filters.{filter-alike}
use Rattle.tv_update_laws.proofs.Facts.{any-found, any-none}
use Rattle.tv_update_laws.proofs.News.{some_choice_has_heap}

one-choice : (k : K3) (keep : Bool) → MayChoose k keep → (u : ℕ) (later : List (List ℕ)) (us : List ℕ)
    → Contains later us → Contains (with_choice k u later) (cond keep (u ∷ us) us)
one-choice No true may u later us at = absurd (false≢true (sym may))
one-choice No false may u later us at = at
one-choice Half true may u later us at =
    Contains-append_right later (map (λ ws. u ∷ ws) later) (u ∷ us) (Contains-map (λ ws. u ∷ ws) us later at)
one-choice Half false may u later us at = Contains-append_left later (map (λ ws. u ∷ ws) later) us at
one-choice Yes true may u later us at = Contains-map (λ ws. u ∷ ws) us later at
one-choice Yes false may u later us at = absurd (false≢true may)

-- each choice is in the list of choices
pub choice-listed : (value : ℕ → K3) (keep : ℕ → Bool) (us : List ℕ)
    → ((u : ℕ) → Contains us u → MayChoose (value u) (keep u))
    → Contains (choices_of value us) (filter keep us)
choice-listed value keep [] may = Contains-here [] []
choice-listed value keep (u ∷ us) may =
    one-choice (value u) (keep u) (may u (Contains-here u us)) u (choices_of value us) (filter keep us)
    (choice-listed value keep us (λ w at. may w (Contains-there u w us at)))

stays-kept : (keep : ℕ → Bool) (us : List ℕ) (w : ℕ) → Contains us w → stays_in (filter keep us) w ≡ keep w
stays-kept keep us w at = go (keep w) refl
  where
    go : (b : Bool) → keep w ≡ b → stays_in (filter keep us) w ≡ keep w
    go true e = any-found w (filter keep us) (Contains-filter keep us w at e) ∙ sym e
    go false e = any-none w (filter keep us)
        (λ there. false≢true (sym e ∙ (Contains-filter_back keep us w there).1)) ∙ sym e

-- a choice counts only at the individuals
pub IsNew-same : (p : ProgramForm) (mode : Mode) (action : ActionForm) (picks : Assignment)
    (middle : LogicalStructure) (keep other : ℕ → Bool)
    → ((u : ℕ) → Contains middle.individuals u → keep u ≡ other u) → (t : LogicalStructure)
    → IsNew p mode action picks middle keep t → IsNew p mode action picks middle other t
IsNew-same p mode action picks middle keep other same t is = record {
  origin = is.origin;
  origins = is.origins ∙ filter-alike keep other middle.individuals same;
  differ = is.differ;
  changed = is.changed;
  are_changed = is.are_changed;
  values = is.values;
  summaries = is.summaries;
  no_mark = is.no_mark;
}

pub update_loses_no_heap : UpdateLosesNoHeap
update_loses_no_heap p valid mode action at s picks new from ts given =
    let middle : LogicalStructure = given.0
    in let has : HasChoice p mode action picks middle new =
    some_choice_has_heap p valid mode action at s picks new from middle given.1
    in let listed : Contains (choices_of (keep_value middle picks action.retain) middle.individuals)
    (filter has.keep middle.individuals)
    = choice-listed (keep_value middle picks action.retain) has.keep middle.individuals has.is_choice
    in let found : (t : LogicalStructure) × Contains ts t
    × IsNew p mode action picks middle (stays_in (filter has.keep middle.individuals)) t
    = zip_found (λ us t. IsNew p mode action picks middle (stays_in us) t)
    (choices_of (keep_value middle picks action.retain) middle.individuals) ts
    given.2 (filter has.keep middle.individuals) listed
    in (
      found.0,
      found.1,
      has.embeds found.0 (IsNew-same p mode action picks middle
          (stays_in (filter has.keep middle.individuals)) has.keep
          (stays-kept has.keep middle.individuals) found.0 found.2),
    )
