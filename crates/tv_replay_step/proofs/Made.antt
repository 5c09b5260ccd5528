-- What the action makes of the middle structure, predicate by predicate.
use Rattle.std.proofs.Common.{ℕ, ◌≡◌, ◌<◌, ◌++◌, ◌↔◌, Bool, true, false, List, [], ◌∷◌, length, get_or, map}
use Rattle.std.proofs.Common.{Some, None, refl, sym, ap, subst, ◌∙◌, arith, Contains, All, cond, eq-eqb}
use Rattle.std.specs.List.{range_with_len, AllZip}
use Rattle.std.proofs.lemmas.Bool.{cond-true}
use Rattle.std.proofs.lemmas.List.{length-map, map-id}
use Rattle.std.proofs.lemmas.List.FromFn.{length-map-range_with_len, get_or-map-range_with_len}
use Rattle.std.proofs.lemmas.List.Elements.{All-contains, All-map, Contains-append_cases, Contains-get_or}
use Rattle.std.proofs.lemmas.List.Sums.{sum_by-cons}
use Rattle.tv_update_laws.specs.Applied.{IsNew, changed_value, keep_value, kind_at, new_value, updated_value}
use Rattle.tv_update_laws.specs.Choices.{stays_in}
use Rattle.tv_update_laws.specs.Tables.{middle_table}
use Rattle.tv_update_laws.proofs.Puts.{put_all-goes}
use Rattle.tv_embedding_laws.specs.LogicalStructure.{LogicalStructure, heap_structure}
use Rattle.tv_embedding_laws.proofs.EmbeddingLaws.{reads_heap}
use Rattle.tv_kleene.specs.declared.K3.{K3}
use Rattle.tv_kleene.specs.declared.K3.TheVariants.{No, Half, Yes}
use Rattle.tv_model.specs.Form.{Form, IsFree}
use Rattle.tv_model.specs.Heap.{Heap, Holds}
use Rattle.tv_model.specs.Program.{ProgramForm, KCore, ActionForm, UpdateForm, CTo}
use Rattle.tv_model.specs.Step.{update_for}
use Rattle.tv_model.specs.Truth.{Assignment, Truth, put_all}
use Rattle.tv_model.specs.Valid.{IsAction}
use Rattle.tv_model.specs.declared.program.Mode.TheVariants.{Given}
use Rattle.tv_model.proofs.Lists.{Contains-here, Contains-there, map-agreed}
use Rattle.tv_replay_laws.specs.Next.{middle_of}
use Rattle.tv_structure_form.specs.Halves.{half_of, row_halves}
use Rattle.tv_structure_form.specs.StructureForm.{StructureForm, IsStructure, structure_of, value_at}
use Rattle.tv_structure_form.proofs.Library.{below-range}
use Rattle.tv_two_valued.specs.TwoValued.{IsTwoValued, heap_of}
use Rattle.tv_update.specs.Update.{IsGivenOf}
use Rattle.tv_update.specs.Updated.{keep_values}
use Rattle.tv_eval_laws.specs.Value.{value}
use Rattle.tv_replay_step.specs.Updated.{IsUpdatedTo, kept_of}
use Rattle.tv_replay_step.proofs.Kept.{choice, keep-tells, kept, members, picks-inside, stays}
use Rattle.tv_replay_step.proofs.Middle.{Tells, middle-tells, middle-value}

-- ---- one structure

one-alone : (P : List ℕ → LogicalStructure → Type 0) (us : List ℕ) (ts : List StructureForm) → AllZip P (us ∷ []) (map structure_of ts)
    → length ts ≡ 1
one-alone P us [] zip = absurd zip
one-alone P us (t ∷ []) zip = refl
one-alone P us (t ∷ u ∷ ts) zip = absurd zip.1

halves-none : (g : ℕ → K3) (us : List ℕ) → ((u : ℕ) → Contains us u → g u ≡ Half → ⊥) → row_halves (map g us) ≡ 0
halves-none g [] definite = refl
halves-none g (u ∷ us) definite =
    let here : half_of (g u) ≡ 0 = none (g u) (definite u (Contains-here u us))
    in let later : row_halves (map g us) ≡ 0 = halves-none g us (λ w at. definite w (Contains-there u w us at))
    in sum_by-cons half_of (g u) (map g us) ∙ omega (arith, here, later)
  where
    none : (k : K3) → (k ≡ Half → ⊥) → half_of k ≡ 0
    none No d = refl
    none Half d = absurd (d refl)
    none Yes d = refl

module _ (p : ProgramForm) (action : ActionForm) (valid : IsAction p action) (s : StructureForm) (is : IsStructure s) (two : IsTwoValued s)
    (picked : Assignment) (inside : (v : ℕ) → Contains action.picks v → Contains (heap_of s).individuals (picked v)) where
  abbrev m : StructureForm
  m = middle_table action.fresh s

  abbrev middle : Heap
  middle = middle_of action.fresh s

  abbrev us : List ℕ
  us = kept_of action picked s

  -- nothing is unknown of who stays
  pub no-halves : row_halves (keep_values m picked action.retain) ≡ 0
  no-halves =
      halves-none (keep_value (structure_of m) picked action.retain) (range_with_len 0 m.size)
      (λ u at. (keep-tells p action valid s is two picked inside u ((members p action valid s is two picked inside u).1 (below-range m.size u at))).definite)

  only-choice : (ts : List StructureForm) → IsGivenOf p Given action picked m ts
      → AllZip (λ ws t. IsNew p Given action picked (structure_of m) (stays_in ws) t) (us ∷ []) (map structure_of ts)
  only-choice ts of =
      subst (λ wss. AllZip (λ ws t. IsNew p Given action picked (structure_of m) (stays_in ws) t) wss (map structure_of ts))
      (choice p action valid s is two picked inside) of.given

  pub one-given : (ts : List StructureForm) → IsGivenOf p Given action picked m ts → length ts ≡ 1
  one-given ts of = one-alone (λ ws t. IsNew p Given action picked (structure_of m) (stays_in ws) t) us ts (only-choice ts of)

  pub given-new : (t : StructureForm) → IsGivenOf p Given action picked m (t ∷ []) → IsNew p Given action picked (structure_of m) (stays_in us) (structure_of t)
  given-new t of = (only-choice (t ∷ []) of).0

  -- ---- its individuals

  module _ (t : StructureForm) (to : IsUpdatedTo p action picked s t) where
    abbrev new : IsNew p Given action picked (structure_of m) (stays_in us) (structure_of t)
    new = to.made

    origins : map new.origin (range_with_len 0 t.size) ≡ us
    origins = new.origins ∙ stays p action valid s is two picked inside

    pub size-kept : t.size ≡ length us
    size-kept = sym (length-map-range_with_len new.origin 0 t.size) ∙ ap length origins

    origin-kept : (k : ℕ) → k < t.size → new.origin k ≡ get_or us k 0
    origin-kept k lt =
        sym (get_or-map-range_with_len new.origin 0 t.size k k 0 lt (omega arith)) ∙ ap (λ ws. get_or ws k 0) origins

    pub origin-inside : (k : ℕ) → Contains (range_with_len 0 t.size) k → Contains middle.individuals (new.origin k)
    origin-inside k at =
        let lt : k < t.size = below-range t.size k at
        in subst (Contains middle.individuals) (sym (origin-kept k lt))
        (((kept p action valid s is two picked inside).are (get_or us k 0)).0 (Contains-get_or us k 0 (subst (λ n. k < n) size-kept lt))).0

    -- names of the kept individuals
    module _ (r : ℕ → ℕ) (names : (k : ℕ) → k < length us → r k ≡ get_or us k 0) where
      name-origin : (k : ℕ) → Contains (range_with_len 0 t.size) k → new.origin k ≡ r k
      name-origin k at =
          let lt : k < t.size = below-range t.size k at
          in origin-kept k lt ∙ sym (names k (subst (λ n. k < n) size-kept lt))

      pub name-inside : (k : ℕ) → Contains (range_with_len 0 t.size) k → Contains middle.individuals (r k)
      name-inside k at =
          let lt : k < length us = subst (λ n. k < n) size-kept (below-range t.size k at)
          in subst (Contains middle.individuals) (sym (names k lt))
          (((kept p action valid s is two picked inside).are (get_or us k 0)).0 (Contains-get_or us k 0 lt)).0

      -- in order they are the kept ones
      pub origins-named : map r (range_with_len 0 t.size) ≡ us
      origins-named = sym (map-agreed new.origin r (range_with_len 0 t.size) (λ k at. name-origin k at)) ∙ origins

      module _ (q : ℕ) (tuple : List ℕ) (all : All (Contains (range_with_len 0 t.size)) tuple) where
        same-origins : map new.origin tuple ≡ map r tuple
        same-origins = map-agreed new.origin r tuple (λ k at. name-origin k (All-contains (Contains (range_with_len 0 t.size)) tuple k all at))

        all-inside : All (Contains middle.individuals) (map r tuple)
        all-inside = All-map (Contains middle.individuals) r tuple (λ i d lt. name-inside _ (all i d lt))

        -- a core predicate without an update holds where it held
        pub value-kept : kind_at p q ≡ KCore → update_for q action.updates ≡ None
            → value_at t q tuple ≡ Yes ↔ Holds middle q (map r tuple)
        value-kept core none =
            let stood : value_at t q tuple ≡ value_at m q (map new.origin tuple)
            = new.values q tuple all
            ∙ ap (λ o. new_value (structure_of m) (structure_of t) picked (new.changed q) o (kind_at p q) q (map new.origin tuple) tuple) none
            ∙ ap (λ k. new_value (structure_of m) (structure_of t) picked (new.changed q) None k q (map new.origin tuple) tuple) core
            in let there : value_at t q tuple ≡ (heap_structure middle).value q (map r tuple)
            = stood ∙ ap (value_at m q) same-origins ∙ sym (middle-value s is two action.fresh q (map r tuple) all-inside)
            in let reads = (reads_heap middle).yes q (map r tuple)
            in (λ y. reads.0 (sym there ∙ y), λ h. there ∙ reads.1 h)

        pub definite-kept : kind_at p q ≡ KCore → update_for q action.updates ≡ None → value_at t q tuple ≡ Half → ⊥
        definite-kept core none half =
            let stood : value_at t q tuple ≡ value_at m q (map new.origin tuple)
            = new.values q tuple all
            ∙ ap (λ o. new_value (structure_of m) (structure_of t) picked (new.changed q) o (kind_at p q) q (map new.origin tuple) tuple) none
            ∙ ap (λ k. new_value (structure_of m) (structure_of t) picked (new.changed q) None k q (map new.origin tuple) tuple) core
            in let there : value_at t q tuple ≡ (heap_structure middle).value q (map r tuple)
            = stood ∙ ap (value_at m q) same-origins ∙ sym (middle-value s is two action.fresh q (map r tuple) all-inside)
            in heap-definite _ (sym there ∙ half)
          where
            heap-definite : (b : Bool) → cond b Yes No ≡ Half → ⊥
            heap-definite true e = cc
            heap-definite false e = cc

        -- what an update by a formula gives
        module _ (w : UpdateForm) (f : Form) (found : update_for q action.updates ≡ Some w) (to_f : w.change ≡ CTo f)
            (count : length tuple ≡ length w.vars) (over : (v : ℕ) → IsFree v f → Contains (w.vars ++ action.picks) v) where
          updated-value : value_at t q tuple ≡ value (structure_of m) (put_all picked w.vars (map r tuple)) f
          updated-value =
              new.values q tuple all
              ∙ ap (λ o. new_value (structure_of m) (structure_of t) picked (new.changed q) o (kind_at p q) q (map new.origin tuple) tuple) found
              ∙ ap (λ ws. updated_value (structure_of m) picked w ws) same-origins
              ∙ cond-true _ (changed_value (structure_of m) picked w.vars w.change (map r tuple)) No (eq-eqb _ _ (length-map tuple r ∙ count))
              ∙ ap (λ c. changed_value (structure_of m) picked w.vars c (map r tuple)) to_f

          gives : (v : ℕ) → IsFree v f → Contains middle.individuals (put_all picked w.vars (map r tuple) v)
          gives v free =
              subst (λ ws. Contains middle.individuals (put_all picked w.vars ws v)) (map-id (map r tuple))
              (put_all-goes (λ x y. Contains middle.individuals y) (λ x. x) w.vars (map r tuple) (length-map tuple r ∙ count) all-inside
              (Contains action.picks) picked picked (λ x at. picks-inside p action valid s is two picked inside x at) v
              (Contains-append_cases w.vars action.picks v (over v free)))

          pub value-updated : Tells (value_at t q tuple) (Truth middle (put_all picked w.vars (map r tuple)) f)
          value-updated =
              subst (λ k. Tells k (Truth middle (put_all picked w.vars (map r tuple)) f)) (sym updated-value)
              (middle-tells s is two action.fresh (put_all picked w.vars (map r tuple)) f gives)
