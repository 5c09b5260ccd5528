-- All middle structures of one are alike: they differ in the name of the further individual.
use Rattle.std.proofs.Common.{ℕ, ◌≡◌, ◌⊎◌, ◌↔◌, ◌++◌, Bool, true, false, List, [], ◌∷◌, length, map, Some}
use Rattle.std.proofs.Common.{inl, inr, ⊎_elim, refl, sym, ap, subst, ◌∙◌, All, Contains}
use Rattle.std.proofs.lemmas.List.{map-id, map-append, length-map}
use Rattle.std.proofs.lemmas.List.Elements.{All-contains, All-map, Contains-append_cases}
use Rattle.tv_model.specs.declared.program.Mode.TheVariants.{Given}
use Rattle.tv_model.specs.Form.{Form}
use Rattle.tv_model.specs.Program.{ProgramForm, ActionForm}
use Rattle.tv_model.specs.Truth.{Assignment, put, put_all}
use Rattle.tv_model.specs.Valid.{IsAction}
use Rattle.tv_model.proofs.Lists.{map-agreed, Contains-map, pushed-cases, pushed-old, pushed-last}
use Rattle.tv_model.proofs.Lists.{All-from_contains}
use Rattle.tv_model.proofs.Decided.{Contains-decided}
use Rattle.tv_model.proofs.Assignments.{put-same, put-other}
use Rattle.tv_embedding_laws.specs.LogicalStructure.{LogicalStructure}
use Rattle.tv_eval_laws.specs.Laws.{Renames}
use Rattle.tv_eval_laws.proofs.Embedded.{GoesTo, values_are_kept}
use Rattle.tv_update_laws.specs.Applied.{IsGrown, IsMiddleOf, keep_value}
use Rattle.tv_update_laws.specs.Choices.{choices_of}
use Rattle.tv_update_laws.specs.Tables.{OneMiddleIsAsGood}
use Rattle.tv_update_laws.proofs.Alike.{Alike, choices-alike}
use Rattle.tv_update_laws.proofs.Facts.{tuple-agreed}
use Rattle.tv_update_laws.proofs.Picked.{itself}
use Rattle.tv_update_laws.proofs.Puts.{put_all-goes}

-- the map that renames individuals of the one to those of the other
pub record AreAlike (action : ActionForm) (m n : LogicalStructure) (picks : Assignment) : Type 0 where
  pub map_between : ℕ → ℕ
  pub alike : Alike action map_between m n picks picks

module _ (s m n : LogicalStructure) (a : IsGrown s m) (b : IsGrown s n) where
  abbrev r : ℕ → ℕ
  r = put (λ u. u) a.further b.further

  old-same : (u : ℕ) → Contains s.individuals u → r u ≡ u
  old-same u at = put-other (λ w. w) a.further b.further u
      (λ e. a.is_further (subst (Contains s.individuals) e at))

  new-same : (u : ℕ) → u ≡ a.further → r u ≡ b.further
  new-same u e = put-same (λ w. w) a.further b.further u e

  cases : (u : ℕ) → Contains m.individuals u → Contains s.individuals u ⊎ (u ≡ a.further)
  cases u at = pushed-cases s.individuals a.further u (subst (λ us. Contains us u) a.individuals at)

  old-above : (u : ℕ) → Contains s.individuals u → Contains n.individuals u
  old-above u at = subst (λ us. Contains us u) (sym b.individuals) (pushed-old s.individuals b.further u at)

  new-above : Contains n.individuals b.further
  new-above = subst (λ us. Contains us b.further) (sym b.individuals)
      (pushed-last s.individuals b.further b.further refl)

  renamed : map r m.individuals ≡ n.individuals
  renamed =
      ap (map r) a.individuals ∙ map-append r s.individuals (a.further ∷ [])
      ∙ ap (λ us. us ++ r a.further ∷ []) (map-agreed r (λ u. u) s.individuals old-same
      ∙ map-id s.individuals)
      ∙ ap (λ u. s.individuals ++ u ∷ []) (new-same a.further refl) ∙ sym b.individuals

  into : (u : ℕ) → Contains m.individuals u → Contains n.individuals (r u)
  into u at =
      ⊎_elim
      (λ there. subst (Contains n.individuals) (sym (old-same u there)) (old-above u there))
      (λ e. subst (Contains n.individuals) (sym (new-same u e)) new-above)
      (cases u at)

  onto : (w : ℕ) → Contains n.individuals w → (u : ℕ) × Contains m.individuals u × (r u ≡ w)
  onto w at =
      ⊎_elim
      (λ there. (
        w,
        subst (λ us. Contains us w) (sym a.individuals)
            (pushed-old s.individuals a.further w there),
        old-same w there,
      ))
      (λ e. (
        a.further,
        subst (λ us. Contains us a.further) (sym a.individuals)
            (pushed-last s.individuals a.further a.further refl),
        new-same a.further refl ∙ sym e,
      ))
      (pushed-cases s.individuals b.further w (subst (λ us. Contains us w) b.individuals at))

  injective : (u w : ℕ) → Contains m.individuals u → Contains m.individuals w → r u ≡ r w → u ≡ w
  injective u w hu hw same = go (cases u hu) (cases w hw)
    where
      go : Contains s.individuals u ⊎ (u ≡ a.further) → Contains s.individuals w ⊎ (w ≡ a.further) → u ≡ w
      go (inl p) (inl q) = sym (old-same u p) ∙ same ∙ old-same w q
      go (inl p) (inr e) =
          absurd (b.is_further (subst (Contains s.individuals) (sym (old-same u p) ∙ same ∙ new-same w e) p))
      go (inr e) (inl q) =
          absurd (b.is_further (subst (Contains s.individuals) (sym (old-same w q) ∙ sym same
          ∙ new-same u e) q))
      go (inr d) (inr e) = d ∙ sym e

  values : (q : ℕ) (tuple : List ℕ) → All (Contains m.individuals) tuple
      → m.value q tuple ≡ n.value q (map r tuple)
  values q tuple all = ⊎_elim new_there none_there (Contains-decided tuple a.further)
    where
      new_there : Contains tuple a.further → m.value q tuple ≡ n.value q (map r tuple)
      new_there at =
          let image : Contains (map r tuple) b.further
          = subst (Contains (map r tuple)) (new-same a.further refl) (Contains-map r a.further tuple at)
          in a.no_values q tuple all at
          ∙ sym (b.no_values q (map r tuple)
          (All-map (Contains n.individuals) r tuple (λ k d lt. into _ (all k d lt))) image)

      none_there : (¬ Contains tuple a.further) → m.value q tuple ≡ n.value q (map r tuple)
      none_there none =
          let olds : All (Contains s.individuals) tuple
          = All-from_contains (Contains s.individuals) tuple (λ u at.
          ⊎_elim (λ there. there) (λ e. absurd (none (subst (Contains tuple) e at)))
          (cases u (All-contains (Contains m.individuals) tuple u all at)))
          in a.values q tuple olds ∙ sym (b.values q tuple olds)
          ∙ ap (n.value q) (sym (tuple-agreed r (λ u. u) s.individuals tuple olds old-same ∙ map-id tuple))

  summaries : (u : ℕ) → Contains m.individuals u → m.is_summary u ≡ n.is_summary (r u)
  summaries u at =
      ⊎_elim
      (λ there. a.summaries u there ∙ sym (b.summaries u there) ∙ ap n.is_summary (sym (old-same u there)))
      (λ e. ap m.is_summary e ∙ a.ordinary ∙ sym b.ordinary ∙ ap n.is_summary (sym (new-same u e)))
      (cases u at)

  marks : (u : ℕ) → Contains m.individuals u → (m.fresh ≡ Some u) ↔ (n.fresh ≡ Some (r u))
  marks u at = (
    λ e. let both : Some a.further ≡ Some u = sym a.mark ∙ e in let same : a.further ≡ u = cc
        in b.mark ∙ ap (λ (w : ℕ). Some w) (sym (new-same u (sym same))),
    λ e. let both : Some b.further ≡ Some (r u) = sym b.mark ∙ e
        in let same : b.further ≡ r u = cc
        in ⊎_elim
        (λ there. absurd (b.is_further
        (subst (Contains s.individuals) (sym (old-same u there) ∙ sym same) there)))
        (λ is. a.mark ∙ ap (λ (w : ℕ). Some w) (sym is))
        (cases u at),
  )

  renames : (f : Form) → Renames f r m n
  renames f = record {
    into = into;
    onto = onto;
    injective = injective;
    values = λ q mention tuple all. values q tuple all;
    summaries = summaries;
    marks = λ named u at. marks u at;
  }

  grown-alike : (action : ActionForm) (picks : Assignment)
      → ((v : ℕ) → Contains action.picks v → Contains s.individuals (picks v))
      → Alike action r m n picks picks
  grown-alike action picks inside = record {
    individuals = renamed;
    injective = injective;
    values = values;
    summaries = summaries;
    formulas = λ f vars tuple over fits all.
        values_are_kept f r m n (put_all picks vars tuple) (put_all picks vars (map r tuple)) (renames f)
        (λ v free.
        put_all-goes (GoesTo r m) r vars tuple fits (λ k x lt. (all k x lt, refl))
        (Contains action.picks) picks picks
        (λ x at. (
          subst (λ us. Contains us (picks x)) (sym a.individuals)
              (pushed-old s.individuals a.further (picks x) (inside x at)),
          old-same (picks x) (inside x at),
        ))
        v (Contains-append_cases vars action.picks v (over v free)));
  }

-- the map is the one above, or moves nothing
pub middles-alike : (p : ProgramForm) (action : ActionForm) → IsAction p action
    → (s : LogicalStructure) (picks : Assignment)
    → ((v : ℕ) → Contains action.picks v → Contains s.individuals (picks v))
    → (m n : LogicalStructure) → IsMiddleOf action.fresh s m → IsMiddleOf action.fresh s n
    → AreAlike action m n picks
middles-alike p action is s picks inside m n = by_fresh action.fresh
  where
    by_fresh : (b : Bool) → IsMiddleOf b s m → IsMiddleOf b s n → AreAlike action m n picks
    by_fresh true a b = record
        { map_between = r s m n a b; alike = grown-alike s m n a b action picks inside }
    by_fresh false a b =
        let same : m ≡ n = a ∙ sym b
        in record {
          map_between = λ u. u;
          alike = subst (λ t. Alike action (λ u. u) m t picks picks) same
              (itself action picks picks (λ v at. refl) m);
        }

pub one_middle_is_as_good : OneMiddleIsAsGood
one_middle_is_as_good p valid action at s picks inside m n a b =
    let is : IsAction p action = All-contains (IsAction p) p.actions action valid.actions at
    in let both : AreAlike action m n picks
    = middles-alike p action is s picks
    (λ v there. All-contains
    (λ (x : ℕ). Contains s.individuals (picks x)) action.picks v inside there) m n a b
    in record {
      individuals = sym (length-map m.individuals both.map_between) ∙ ap length both.alike.individuals;
      choices = sym (length-map (choices_of (keep_value m picks action.retain) m.individuals)
          (map both.map_between))
          ∙ ap length (sym (choices-alike p Given action is both.map_between m n picks picks both.alike));
    }
