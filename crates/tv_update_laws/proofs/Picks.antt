-- What a step picks in a heap is picked in the structure too.
use Rattle.std.specs.Prelude.{IfSome}
use Rattle.std.proofs.Common.{ℕ, ◌≡◌, ◌≢◌, ◌⊎◌, true, List, [], ◌∷◌, length, map, Option, None, Some, inl}
use Rattle.std.proofs.Common.{inr, ⊎_elim, refl, sym, ap, subst, ◌∙◌, All, Contains, arith}
use Rattle.std.proofs.lemmas.Bool.{cases_eq}
use Rattle.std.proofs.lemmas.List.Elements.{All-tail, All-map}
use Rattle.std.proofs.lemmas.List.{length-map}
use Rattle.tv_kleene.specs.declared.K3.{K3}
use Rattle.tv_kleene.specs.declared.K3.TheVariants.{No, Half, Yes}
use Rattle.tv_model.specs.Form.{Form}
use Rattle.tv_model.specs.Rules.{blank}
use Rattle.tv_model.specs.Truth.{Assignment, put, put_all}
use Rattle.tv_model.proofs.Lists.{Contains-flat_map, Contains-here, Contains-none, Contains-cases}
use Rattle.tv_model.proofs.Lists.{Contains-filter, Contains-map}
use Rattle.tv_model.proofs.Assignments.{put-same, put-other}
use Rattle.tv_embedding_laws.specs.LogicalStructure.{LogicalStructure}
use Rattle.tv_eval_laws.specs.Value.{value}
use Rattle.tv_update_laws.specs.Picks.{lists_of, picks_of, precondition_value, isnt_no, passing_picks}
use Rattle.tv_update_laws.specs.Laws.{StepsFrom, ActionLosesNoHeap}
use Rattle.tv_update_laws.proofs.Choices.{update_loses_no_heap}
use Rattle.tv_update_laws.proofs.Preconditions.{precondition_passes}

pub list-found : (us ws : List ℕ) → All (Contains us) ws → Contains (lists_of us (length ws)) ws
list-found us [] all = Contains-here [] []
list-found us (w ∷ ws) all =
    Contains-flat_map (λ u. map (λ xs. u ∷ xs) (lists_of us (length ws))) us w (w ∷ ws)
    (all 0 w (omega arith))
    (Contains-map (λ xs. w ∷ xs) ws (lists_of us (length ws))
    (list-found us ws (All-tail (Contains us) w ws all)))

-- what is put for the variables is read again
pub put_all-reads : (f : ℕ → ℕ) (vars : List ℕ) (a : Assignment) (x : ℕ) → Contains vars x ⊎ (a x ≡ f x)
    → put_all a vars (map f vars) x ≡ f x
put_all-reads f [] a x either = ⊎_elim (λ at. absurd (Contains-none x at)) (λ e. e) either
put_all-reads f (v ∷ vars) a x either =
    put_all-reads f vars (put a v (f v)) x (⊎_elim
    (λ at. ⊎_elim (λ e. inr (put-same a v (f v) x (sym e) ∙ ap f e)) (λ later. inl later)
    (Contains-cases v x vars at))
    (λ e. inr (⊎_elim (λ is. put-same a v (f v) x is ∙ ap f (sym is)) (λ ne. put-other a v (f v) x ne
    ∙ e) (cases_eq x v)))
    either)

pub isnt-no : (k : K3) → k ≢ No → isnt_no k ≡ true
isnt-no No n = absurd (n refl)
isnt-no Half n = refl
isnt-no Yes n = refl

passes : (s : LogicalStructure) (a : Assignment) (pre : Option Form) → IfSome pre (λ f. value s a f ≢ No)
    → isnt_no (precondition_value s a pre) ≡ true
passes s a None holds = refl
passes s a (Some f) holds = isnt-no (value s a f) holds

pub action_loses_no_heap : ActionLosesNoHeap
action_loses_no_heap p valid mode action at old new s below concrete picked steps = (
  us,
  listed,
  λ ts given. update_loses_no_heap p valid mode action at s
      (picks_of action us) new from ts given,
)
  where
    m : ℕ → ℕ
    m = below.0

    us : List ℕ
    us = map (λ v. m (picked v)) action.picks

    from : StepsFrom p mode action s (picks_of action us) new
    from = record {
      m = m;
      old = old;
      picked = picked;
      embeds = below.1;
      concrete = concrete;
      takes = λ v free. sym (put_all-reads (λ x. m (picked x)) action.picks blank v (inl free));
      steps = steps;
    }

    inside : All (Contains s.individuals) us
    inside = All-map (Contains s.individuals) (λ v. m (picked v)) action.picks
        (λ k d lt. below.1.into _ (steps.1.step.picks_individuals k d lt))

    found : Contains (lists_of s.individuals (length action.picks)) us
    found = subst (λ n. Contains (lists_of s.individuals n) us) (length-map action.picks (λ v. m (picked v)))
        (list-found s.individuals us inside)

    listed : Contains (passing_picks action s) us
    listed = Contains-filter (λ ws. isnt_no (precondition_value s (picks_of action ws) action.pre))
        (lists_of s.individuals (length action.picks)) us found
        (passes s (picks_of action us) action.pre
        (precondition_passes p valid mode action at s (picks_of action us) new from))
