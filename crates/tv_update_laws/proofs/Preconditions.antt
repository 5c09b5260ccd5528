-- The precondition of a step isn't No.
use Rattle.std.specs.Prelude.{IfSome}
use Rattle.std.proofs.Common.{ℕ, ◌≡◌, ◌≢◌, ◌++◌, Bool, not, true, false, List, [], ◌∷◌, Option, None, Some}
use Rattle.std.proofs.Common.{⊎_elim, sym, ap, subst, ◌∙◌, Contains, cond, eqb, ne_eqb}
use Rattle.std.proofs.lemmas.Bool.{cond-true}
use Rattle.std.proofs.lemmas.List.Elements.{All-contains, Contains-append_left, Contains-append_right}
use Rattle.tv_kleene.specs.declared.K3.TheVariants.{No}
use Rattle.tv_model.specs.Form.{Form, FZero, FOne, FAtom, FIsNew, FSame, FNot, FAnd, FOr, FIff, FCond}
use Rattle.tv_model.specs.Form.{FExists, FForall, FClosure, IsFree}
use Rattle.tv_model.specs.Step.{StepsThrough}
use Rattle.tv_model.specs.Truth.{Truth}
use Rattle.tv_model.specs.Valid.{IsAction, IsPrecondition, free_occurrences, without}
use Rattle.tv_model.proofs.Lists.{Contains-here, Contains-there, Contains-cases}
use Rattle.tv_model.proofs.Parts.{first-occurs}
use Rattle.tv_embedding_laws.specs.LogicalStructure.{heap_structure}
use Rattle.tv_eval_laws.specs.Value.{value}
use Rattle.tv_eval_laws.specs.Laws.{TakesAlong, TellsOfHeap}
use Rattle.tv_eval_laws.proofs.Embedded.{embeds-for}
use Rattle.tv_eval_laws.proofs.InHeaps.{definite_values_are_sound}
use Rattle.tv_update_laws.specs.Laws.{PreconditionPasses}

-- what differs from the variable stays
without-keeps : (v u : ℕ) (xs : List ℕ) → u ≢ v → Contains xs u → Contains (without v xs) u
without-keeps v u [] ne at = at
without-keeps v u (x ∷ xs) ne at =
    ⊎_elim
    (λ e. let apart : eqb x v ≡ false = ne_eqb x v (λ d. ne (sym e ∙ d))
    in subst (λ ys. Contains ys u)
    (sym (cond-true (not (eqb x v)) (x ∷ without v xs) (without v xs) (ap not apart)))
    (subst (λ y. Contains (x ∷ without v xs) y) e (Contains-here x (without v xs))))
    (λ later. put_in (not (eqb x v)) (without-keeps v u xs ne later))
    (Contains-cases x u xs at)
  where
    put_in : (b : Bool) → Contains (without v xs) u → Contains (cond b (x ∷ without v xs) (without v xs)) u
    put_in true there = Contains-there x u (without v xs) there
    put_in false there = there

pub free-occurs : (f : Form) (v : ℕ) → IsFree v f → Contains (free_occurrences f) v
free-occurs FZero v free = absurd free
free-occurs FOne v free = absurd free
free-occurs (FAtom q vars) v free = free
free-occurs (FIsNew w) v free = subst (λ x. Contains (w ∷ []) x) (sym free) (Contains-here w [])
free-occurs (FSame w u) v free =
    ⊎_elim
    (λ e. subst (λ x. Contains (w ∷ u ∷ []) x) (sym e) (Contains-here w (u ∷ [])))
    (λ e. subst (λ x. Contains (w ∷ u ∷ []) x) (sym e) (Contains-there w u (u ∷ []) (Contains-here u [])))
    free
free-occurs (FNot f) v free = free-occurs f v free
free-occurs (FAnd f g) v free =
    ⊎_elim (λ h. Contains-append_left (free_occurrences f) (free_occurrences g) v (free-occurs f v h))
    (λ h. Contains-append_right (free_occurrences f) (free_occurrences g) v (free-occurs g v h)) free
free-occurs (FOr f g) v free =
    ⊎_elim (λ h. Contains-append_left (free_occurrences f) (free_occurrences g) v (free-occurs f v h))
    (λ h. Contains-append_right (free_occurrences f) (free_occurrences g) v (free-occurs g v h)) free
free-occurs (FIff f g) v free =
    ⊎_elim (λ h. Contains-append_left (free_occurrences f) (free_occurrences g) v (free-occurs f v h))
    (λ h. Contains-append_right (free_occurrences f) (free_occurrences g) v (free-occurs g v h)) free
free-occurs (FCond c f g) v free =
    ⊎_elim
    (λ h. Contains-append_left (free_occurrences c ++ free_occurrences f) (free_occurrences g) v
    (Contains-append_left (free_occurrences c) (free_occurrences f) v (free-occurs c v h)))
    (λ rest. ⊎_elim
    (λ h. Contains-append_left (free_occurrences c ++ free_occurrences f) (free_occurrences g) v
    (Contains-append_right (free_occurrences c) (free_occurrences f) v (free-occurs f v h)))
    (λ h. Contains-append_right (free_occurrences c ++ free_occurrences f) (free_occurrences g) v
    (free-occurs g v h))
    rest)
    free
free-occurs (FExists w f) v free = without-keeps w v (free_occurrences f) free.0 (free-occurs f v free.1)
free-occurs (FForall w f) v free = without-keeps w v (free_occurrences f) free.0 (free-occurs f v free.1)
free-occurs (FClosure from to left right f) v free =
    let rest : List ℕ = without left (without right (free_occurrences f))
    in ⊎_elim
    (λ e. subst (λ x. Contains (from ∷ to ∷ rest) x) (sym e) (Contains-here from (to ∷ rest)))
    (λ other. ⊎_elim
    (λ e. subst (λ x. Contains (from ∷ to ∷ rest) x) (sym e)
    (Contains-there from to (to ∷ rest) (Contains-here to rest)))
    (λ h. Contains-there from v (to ∷ rest) (Contains-there to v rest
    (without-keeps left v (without right (free_occurrences f)) h.0
    (without-keeps right v (free_occurrences f) h.1 (free-occurs f v h.2)))))
    other)
    free

pub precondition_passes : PreconditionPasses
precondition_passes p valid mode action at s picks new from =
    by_pre action.pre is.precondition step.precondition
  where
    open from use {m, old, picked, embeds, takes, steps}

    is : IsAction p action
    is = All-contains (IsAction p) p.actions action valid.actions at

    step : StepsThrough p action picked old steps.0 new
    step = steps.1.step

    by_pre : (pre : Option Form) → IsPrecondition p pre action.picks → IfSome pre (Truth old picked)
        → IfSome pre (λ f. value s picks f ≢ No)
    by_pre None plain holds = tt
    by_pre (Some f) plain holds =
        let along : TakesAlong m (heap_structure old) f picked picks
        = λ v free. let in_picks : Contains action.picks v
        = subst (λ xs. Contains xs v) (sym plain.1)
        (first-occurs (free_occurrences f) v (free-occurs f v free))
        in (
          All-contains (λ (x : ℕ). Contains old.individuals
              (picked x)) action.picks v step.picks_individuals in_picks,
          takes v in_picks,
        )
        in let tells : TellsOfHeap old picked f (value s picks f)
        = definite_values_are_sound f m old s picked picks
        (embeds-for f m (heap_structure old) s embeds (λ n. absurd (plain.0.1 n))) along
        in λ e. tells.no e holds
