-- The individuals that a step keeps.
use Rattle.std.proofs.Common.{ℕ, ◌≡◌, ◌<◌, ◌+◌, ◌↔◌, ◌⊎◌, Bool, true, false, List, [], ◌∷◌, get_or, filter}
use Rattle.std.proofs.Common.{Option, Some, None, inl, inr, refl, sym, ap, subst, ◌∙◌, arith, Contains}
use Rattle.std.proofs.Common.{AllPairs}
use Rattle.std.specs.List.{range_with_len}
use Rattle.std.proofs.lemmas.Bool.{cases_eq, false≢true}
use Rattle.std.proofs.lemmas.List.FromFn.{length-range_with_len, get_or-range_with_len}
use Rattle.std.proofs.lemmas.List.Kept.{AllPairs-filter}
use Rattle.tv_update_laws.specs.Applied.{keep_value}
use Rattle.tv_update_laws.specs.Choices.{choices_of, stays_in, with_choice}
use Rattle.tv_update_laws.specs.Tables.{middle_table}
use Rattle.tv_update_laws.proofs.Facts.{any-found, any-none}
use Rattle.tv_update_laws.proofs.Filters.{filter-alike}
use Rattle.tv_kleene.specs.declared.K3.{K3}
use Rattle.tv_kleene.specs.declared.K3.TheVariants.{No, Half, Yes}
use Rattle.tv_model.specs.Form.{FZero}
use Rattle.tv_model.specs.Heap.{Heap}
use Rattle.tv_model.specs.Program.{ProgramForm, ActionForm, RetainForm}
use Rattle.tv_model.specs.Step.{Keeps}
use Rattle.tv_model.specs.Truth.{Assignment, put}
use Rattle.tv_model.specs.Valid.{IsAction, IsRetain}
use Rattle.tv_model.proofs.Assignments.{put-same, put-other}
use Rattle.tv_model.proofs.Lists.{Contains-here, Contains-there, Contains-cases, Contains-filter}
use Rattle.tv_model.proofs.Lists.{Contains-filter_back, pushed-old}
use Rattle.tv_replay_laws.specs.Next.{AreRetained, middle_of}
use Rattle.tv_replay_laws.proofs.OneStep.{ascending-same}
use Rattle.tv_structure_form.specs.StructureForm.{StructureForm, IsStructure, structure_of}
use Rattle.tv_structure_form.proofs.Library.{Contains-range, below-range}
use Rattle.tv_two_valued.specs.TwoValued.{IsTwoValued, heap_of, is_yes}
use Rattle.tv_replay_step.specs.Updated.{kept_of}
use Rattle.tv_replay_step.proofs.Middle.{Tells, middle-tells, middle-alike}

range-ascending : (n : ℕ) → AllPairs ◌<◌ (range_with_len 0 n)
range-ascending n i j d lt within =
    let top : j < n = subst (λ k. j < k) (length-range_with_len 0 n) within
    in let a : get_or (range_with_len 0 n) i d ≡ 0 + i = get_or-range_with_len 0 n i d (omega (arith, lt, top))
    in let b : get_or (range_with_len 0 n) j d ≡ 0 + j = get_or-range_with_len 0 n j d top
    in omega (arith, a, b, lt)

-- ---- where no value is Half there is one choice

pub one-choice : (keep : ℕ → K3) (us : List ℕ) → ((u : ℕ) → Contains us u → keep u ≡ Half → ⊥)
    → choices_of keep us ≡ filter (λ u. is_yes (keep u)) us ∷ []
one-choice keep [] definite = refl
one-choice keep (u ∷ us) definite =
    ap (with_choice (keep u) u) (one-choice keep us (λ w at. definite w (Contains-there u w us at)))
    ∙ at_one (keep u) refl (definite u (Contains-here u us))
  where
    at_one : (k : K3) → keep u ≡ k → (keep u ≡ Half → ⊥) → with_choice (keep u) u (filter (λ w. is_yes (keep w)) us ∷ [])
        ≡ filter (λ w. is_yes (keep w)) (u ∷ us) ∷ []
    at_one No e d = rw e refl
    at_one Half e d = absurd (d e)
    at_one Yes e d = rw e refl

-- ---- what the retain formula says

module _ (p : ProgramForm) (action : ActionForm) (valid : IsAction p action) (s : StructureForm) (is : IsStructure s) (two : IsTwoValued s)
    (picked : Assignment) (inside : (v : ℕ) → Contains action.picks v → Contains (heap_of s).individuals (picked v)) where
  abbrev middle : Heap
  middle = middle_of action.fresh s

  abbrev m : StructureForm
  m = middle_table action.fresh s

  pub old-inside : (fresh : Bool) (u : ℕ) → Contains (heap_of s).individuals u → Contains (middle_of fresh s).individuals u
  old-inside false u at = at
  old-inside true u at = pushed-old (heap_of s).individuals s.size u at

  pub picks-inside : (v : ℕ) → Contains action.picks v → Contains middle.individuals (picked v)
  picks-inside v at = old-inside action.fresh (picked v) (inside v at)

  -- the middle structure has the individuals of the middle heap
  pub members : (u : ℕ) → Contains middle.individuals u ↔ (u < m.size)
  members u =
      let same = (middle-alike s is two FZero action.fresh).individuals u
      in (λ at. below-range m.size u (same.0 at), λ lt. same.1 (Contains-range m.size u lt))

  keep-tells_by : (retain : Option RetainForm) → IsRetain p action retain → (u : ℕ) → Contains middle.individuals u
      → Tells (keep_value (structure_of m) picked retain u) (Keeps middle picked retain u)
  keep-tells_by None valid_retain u at = record {
    yes = (λ t. tt, λ t. refl);
    no = (λ e. absurd (cc e), λ never. absurd (never tt));
    definite = λ e. absurd (cc e);
  }
  keep-tells_by (Some retain) valid_retain u at =
      middle-tells s is two action.fresh (put picked retain.var u) retain.keep (λ v free.
      inside_put v (Contains-cases retain.var v action.picks (valid_retain.1 v free)) (cases_eq v retain.var))
    where
      inside_put : (v : ℕ) → (retain.var ≡ v) ⊎ Contains action.picks v → (v ≡ retain.var) ⊎ (v ≡ retain.var → ⊥)
          → Contains middle.individuals (put picked retain.var u v)
      inside_put v which (inl e) = subst (Contains middle.individuals) (sym (put-same picked retain.var u v e)) at
      inside_put v (inl e) (inr ne) = absurd (ne (sym e))
      inside_put v (inr among) (inr ne) = subst (Contains middle.individuals) (sym (put-other picked retain.var u v ne)) (picks-inside v among)

  pub keep-tells : (u : ℕ) → Contains middle.individuals u
      → Tells (keep_value (structure_of m) picked action.retain u) (Keeps middle picked action.retain u)
  keep-tells u at = keep-tells_by action.retain valid.retain u at

  yes-is : (k : K3) → is_yes k ≡ true → k ≡ Yes
  yes-is No e = absurd cc
  yes-is Half e = absurd cc
  yes-is Yes e = refl

  pub kept : AreRetained action picked s (kept_of action picked s)
  kept = record {
    ascending = AllPairs-filter ◌<◌ (λ u. is_yes (keep_value (structure_of m) picked action.retain u)) (range_with_len 0 m.size) (range-ascending m.size);
    are = λ u. (
      λ at.
          let was = Contains-filter_back (λ w. is_yes (keep_value (structure_of m) picked action.retain w)) (range_with_len 0 m.size) u at
          in let there : Contains middle.individuals u = (members u).1 (below-range m.size u was.0)
          in (there, (keep-tells u there).yes.0 (yes-is _ was.1)),
      λ both.
          Contains-filter (λ w. is_yes (keep_value (structure_of m) picked action.retain w)) (range_with_len 0 m.size) u
          (Contains-range m.size u ((members u).0 both.0)) (ap is_yes ((keep-tells u both.0).yes.1 both.1)),
    );
  }

  -- no other individuals are kept
  pub kept-once : (us : List ℕ) → AreRetained action picked s us → us ≡ kept_of action picked s
  kept-once us are =
      ascending-same us (kept_of action picked s) are.ascending kept.ascending
      (λ u. (λ at. (kept.are u).1 ((are.are u).0 at), λ at. (are.are u).1 ((kept.are u).0 at)))

  pub choice : choices_of (keep_value (structure_of m) picked action.retain) (structure_of m).individuals ≡ kept_of action picked s ∷ []
  choice =
      one-choice (keep_value (structure_of m) picked action.retain) (range_with_len 0 m.size)
      (λ u at half. (keep-tells u ((members u).1 (below-range m.size u at))).definite half)

  -- those that stay in the choice
  pub stays : filter (stays_in (kept_of action picked s)) (range_with_len 0 m.size) ≡ kept_of action picked s
  stays =
      filter-alike (stays_in (kept_of action picked s)) (λ u. is_yes (keep_value (structure_of m) picked action.retain u)) (range_with_len 0 m.size)
      (λ u at. at_one u at (is_yes (keep_value (structure_of m) picked action.retain u)) refl)
    where
      at_one : (u : ℕ) → Contains (range_with_len 0 m.size) u → (b : Bool) → is_yes (keep_value (structure_of m) picked action.retain u) ≡ b
          → stays_in (kept_of action picked s) u ≡ is_yes (keep_value (structure_of m) picked action.retain u)
      at_one u at true e =
          any-found u (kept_of action picked s)
          (Contains-filter (λ w. is_yes (keep_value (structure_of m) picked action.retain w)) (range_with_len 0 m.size) u at e)
          ∙ sym e
      at_one u at false e =
          any-none u (kept_of action picked s)
          (λ among. false≢true (sym e
          ∙ (Contains-filter_back (λ w. is_yes (keep_value (structure_of m) picked action.retain w)) (range_with_len 0 m.size) u among).1))
          ∙ sym e
