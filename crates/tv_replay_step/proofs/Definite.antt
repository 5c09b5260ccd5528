-- Structures all of whose definitions are evaluated are two-valued where their other predicates are, and stand for
-- concrete heaps.
use Rattle.std.proofs.Common.{ℕ, zero, suc, ◌≡◌, ◌<◌, ◌+◌, false, List, length, Some, inl, ⊎_elim, refl, sym}
use Rattle.std.proofs.Common.{subst, ◌∙◌, arith, Contains, eq-eqb, ne_eqb}
use Rattle.std.specs.List.{range_with_len}
use Rattle.std.proofs.lemmas.Bool.{cases_eq, cond-true, cond-false}
use Rattle.std.specs.Prelude.{slice_get}
use Rattle.std.proofs.lemmas.List.{map-id}
use Rattle.tv_update_laws.specs.Applied.{defined_value, kind_at}
use Rattle.tv_update_laws.proofs.Predicates.{defined-found, kind-found, valid-pred}
use Rattle.tv_update_laws.proofs.Puts.{put_all-goes}
use Rattle.tv_embedding_laws.specs.LogicalStructure.{heap_structure, ReadsHeap}
use Rattle.tv_embedding_laws.proofs.EmbeddingLaws.{reads_heap}
use Rattle.tv_kleene.specs.declared.K3.{K3}
use Rattle.tv_kleene.specs.declared.K3.TheVariants.{No, Half, Yes}
use Rattle.tv_model.specs.Form.{Form, IsFree, Mentions}
use Rattle.tv_model.specs.Heap.{Heap}
use Rattle.tv_model.specs.Program.{ProgramForm, PredForm, KindForm, KCore, KDefined}
use Rattle.tv_model.specs.Rules.{blank, IsConcrete, MeetsDefinition}
use Rattle.tv_model.specs.Truth.{put_all}
use Rattle.tv_model.specs.Valid.{IsValid, IsKind}
use Rattle.tv_structure_form.specs.StructureForm.{StructureForm, IsStructure, arities_of, structure_of}
use Rattle.tv_structure_form.specs.StructureForm.{summary_at}
use Rattle.tv_structure_form.specs.StructureForm.{value_at}
use Rattle.tv_structure_form.specs.TableForm.{AreIndividuals}
use Rattle.tv_structure_form.proofs.Library.{All-individuals, AreIndividuals-range, below-range, fits_or_No}
use Rattle.tv_structure_form.proofs.StructureLaws.{value_at-past}
use Rattle.tv_two_valued.specs.TwoValued.{IsTwoValued, heap_of}
use Rattle.tv_two_valued.proofs.Heaps.{heap-told}
use Rattle.tv_two_valued.proofs.Truths.{truth_is_told}
use Rattle.tv_eval_laws.specs.Laws.{GivesIndividuals, LooksAlike, TellsTruth}
use Rattle.tv_eval_laws.specs.Value.{value}
use Rattle.tv_eval_laws.proofs.Embedded.{values_are_local}
use Rattle.tv_eval_laws.proofs.InHeaps.{heaps_tell_truth}
use Rattle.tv_replay_step.specs.Free.{IsDefinite}

no-half : No ≡ Half → ⊥
no-half e = cc

yes-half : Yes ≡ Half → ⊥
yes-half e = cc

no-yes : No ≡ Yes → ⊥
no-yes e = cc

-- all tuples of the predicate's arity of individuals suffice
pub definite-where : (x : StructureForm) → IsStructure x → (q : ℕ)
    → ((tuple : List ℕ) → slice_get (arities_of x) q ≡ Some (length tuple) → AreIndividuals x.size tuple → value_at x q tuple ≡ Half → ⊥)
    → IsDefinite x q
definite-where x is q each tuple half =
    ⊎_elim
    (λ fits. no-half (sym (value_at-past x is q tuple (λ within. each tuple fits within half)) ∙ half))
    (λ none. no-half (sym none ∙ half))
    (fits_or_No x q tuple)

heap-value-at : (x : StructureForm) → IsStructure x → (q : ℕ) → IsDefinite x q → (tuple : List ℕ)
    → (heap_structure (heap_of x)).value q tuple ≡ value_at x q tuple
heap-value-at x is q definite tuple = at (value_at x q tuple) refl
  where
    reads : ReadsHeap (heap_of x)
    reads = reads_heap (heap_of x)

    at : (k : K3) → value_at x q tuple ≡ k → (heap_structure (heap_of x)).value q tuple ≡ value_at x q tuple
    at Yes e = (reads.yes q tuple).1 (((heap-told x is).holds q tuple).1 e) ∙ sym e
    at No e = (reads.no q tuple).1 (λ h. no-yes (sym e ∙ ((heap-told x is).holds q tuple).0 h)) ∙ sym e
    at Half e = absurd (definite tuple e)

module _ (p : ProgramForm) (valid : IsValid p) (x : StructureForm) (is : IsStructure x)
    (plain : (u : ℕ) → u < x.size → summary_at x u ≡ false)
    (core : (q : ℕ) → kind_at p q ≡ KCore → IsDefinite x q)
    (defined : (q : ℕ) (vars : List ℕ) (body : Form) → kind_at p q ≡ KDefined vars body → (tuple : List ℕ) → AreIndividuals x.size tuple
    → value_at x q tuple ≡ defined_value (structure_of x) vars body tuple) where
  gives : (vars tuple : List ℕ) (body : Form) → length tuple ≡ length vars → AreIndividuals x.size tuple
      → ((v : ℕ) → IsFree v body → Contains vars v) → GivesIndividuals (heap_of x).individuals body (put_all blank vars tuple)
  gives vars tuple body count within over v free =
      subst (λ ws. Contains (range_with_len 0 x.size) (put_all blank vars ws v)) (map-id tuple)
      (put_all-goes (λ u w. Contains (range_with_len 0 x.size) w) (λ u. u) vars tuple count (All-individuals x.size tuple within)
      (λ v. ⊥) blank blank (λ v never. absurd never) v (inl (over v free)))

  valid-kind : (q : ℕ) (vars : List ℕ) (body : Form) → kind_at p q ≡ KDefined vars body → (d : PredForm) × IsKind p d.arity (KDefined vars body)
      × ((r : ℕ) → Mentions r body → valid.rank r < valid.rank q)
  valid-kind q vars body kind =
      let found = defined-found p q vars body kind
      in (
        found.0,
        subst (IsKind p found.0.arity) found.2 (valid-pred p valid q found.0 found.1).kind,
        λ r mentions. valid.no_cycle.falls q found.0 found.1 vars body found.2 r mentions,
      )

  -- the value of a definition whose predicates are definite tells the truth
  value-told : (vars tuple : List ℕ) (body : Form) → ((v : ℕ) → IsFree v body → Contains vars v) → length tuple ≡ length vars
      → AreIndividuals x.size tuple → ((r : ℕ) → Mentions r body → IsDefinite x r)
      → value (structure_of x) (put_all blank vars tuple) body ≡ Half → ⊥
  value-told vars tuple body over count within definite half =
      let h : Heap = heap_of x
      in let gives_all : GivesIndividuals h.individuals body (put_all blank vars tuple) = gives vars tuple body count within over
      in let alike : LooksAlike body (heap_structure h) (structure_of x) = record {
        individuals = λ u. (λ a. a, λ a. a);
        values = λ q mentioned us all. heap-value-at x is q (definite q mentioned) us;
        summaries = λ u at. sym (plain u (below-range x.size u at));
        marks = λ named. refl;
      }
      in let same : value (heap_structure h) (put_all blank vars tuple) body ≡ value (structure_of x) (put_all blank vars tuple) body
      = values_are_local body (heap_structure h) (structure_of x) (put_all blank vars tuple) (put_all blank vars tuple) alike
      (λ v free. (gives_all v free, refl))
      in let tells : TellsTruth h (put_all blank vars tuple) body = heaps_tell_truth h (put_all blank vars tuple) body gives_all
      in ⊎_elim (λ t. yes-half (sym (tells.yes.1 t) ∙ same ∙ half)) (λ n. no-half (sym (tells.no.1 n) ∙ same ∙ half)) tells.decided

  definite-below : (n q : ℕ) → valid.rank q < n → IsDefinite x q
  definite-below zero q below = absurd (omega (arith, below))
  definite-below (suc n) q below = by_kind (λ r less. definite-below n r less) (kind_at p q) refl
    where
      by_kind : ((r : ℕ) → valid.rank r < n → IsDefinite x r) → (kind : KindForm) → kind_at p q ≡ kind → IsDefinite x q
      by_kind lower KCore k = core q k
      by_kind lower (KDefined vars body) k =
          let valid_one = valid-kind q vars body k
          in definite-where x is q (λ tuple fits within half.
          ⊎_elim
          (λ count. value-told vars tuple body valid_one.1.2 count within
          (λ r mentions. let less = valid_one.2 r mentions in lower r (omega (arith, below, less)))
          (sym (cond-true _ (value (structure_of x) (put_all blank vars tuple) body) No (eq-eqb _ _ count))
          ∙ sym (defined q vars body k tuple within) ∙ half))
          (λ ne. no-half (sym (cond-false _ (value (structure_of x) (put_all blank vars tuple) body) No (ne_eqb _ _ ne))
          ∙ sym (defined q vars body k tuple within) ∙ half))
          (cases_eq (length tuple) (length vars)))

  pub two-valued : IsTwoValued x
  two-valued = record {
    values = λ q tuple half. definite-below (valid.rank q + 1) q (omega arith) tuple half;
    summaries = plain;
  }

  pub concrete : IsConcrete p (heap_of x)
  concrete q d found tuple fits = by_kind d.kind refl
    where
      by_kind : (kind : KindForm) → d.kind ≡ kind → MeetsDefinition (heap_of x) q d.kind tuple
      by_kind KCore k = subst (λ c. MeetsDefinition (heap_of x) q c tuple) (sym k) tt
      by_kind (KDefined vars body) k =
          let known : kind_at p q ≡ KDefined vars body = kind-found p q d found ∙ k
          in let valid_one : IsKind p d.arity (KDefined vars body) = subst (IsKind p d.arity) k (valid-pred p valid q d found).kind
          in let count : length tuple ≡ length vars = fits.0 ∙ sym valid_one.0.0
          in let within : AreIndividuals x.size tuple = AreIndividuals-range x.size tuple fits.1
          in let same : value_at x q tuple ≡ value (structure_of x) (put_all blank vars tuple) body
          = defined q vars body known tuple within
          ∙ cond-true _ (value (structure_of x) (put_all blank vars tuple) body) No (eq-eqb _ _ count)
          in let told = (truth_is_told x (put_all blank vars tuple) body is two-valued (gives vars tuple body count within valid_one.2)).yes
          in let holds = (heap-told x is).holds q tuple
          in subst (λ c. MeetsDefinition (heap_of x) q c tuple) (sym k)
          (λ h. told.0 (sym same ∙ holds.0 h), λ t. holds.1 (same ∙ told.1 t))
