-- Heaps of structures under the names of the kept individuals.
use Rattle.std.proofs.Common.{ℕ, suc, ◌≡◌, ◌<◌, List, [], ◌∷◌, map, length, Option, Some, None, All, AllPairs}
use Rattle.std.proofs.Common.{Contains, ⊎_elim, refl, sym, ap, subst, ◌∙◌, arith}
use Rattle.std.specs.List.{range_with_len}
use Rattle.std.specs.Option.{option_map}
use Rattle.std.proofs.lemmas.Bool.{false≢true}
use Rattle.std.proofs.lemmas.List.Elements.{All-contains}
use Rattle.tv_embedding_laws.specs.Embedding.{Embeds, IsHeapOf}
use Rattle.tv_kleene.specs.Kleene.{LiesUnder}
use Rattle.tv_model.specs.Heap.{Heap}
use Rattle.tv_model.proofs.Lists.{Contains-none, Contains-cases, Contains-filter_back, map-compose}
use Rattle.tv_model.proofs.Lists.{map-agreed}
use Rattle.tv_renaming_laws.specs.Renamed.{renamed, IsRenaming}
use Rattle.tv_renaming_laws.proofs.Fronts.{fronts_are_renamings}
use Rattle.tv_structure_form.specs.StructureForm.{StructureForm, IsStructure, structure_of, arities_of}
use Rattle.tv_structure_form.specs.StructureForm.{value_at}
use Rattle.tv_structure_form.proofs.Library.{below-range}
use Rattle.tv_two_valued.specs.TwoValued.{IsTwoValued, heap_of, lists_of, is_yes, yes_tuples, extents_from}
use Rattle.tv_two_valued.proofs.Tuples.{list-fits}
use Rattle.tv_two_valued.proofs.Truths.{heap-value}
use Rattle.tv_replay_laws.specs.Next.{kept_individual}

-- the members of a structure's tuples are its individuals
extents-inside : (s : StructureForm) (p : ℕ) (arities : List ℕ) (tuples : List (List ℕ)) → Contains (extents_from s p arities) tuples
    → (tuple : List ℕ) → Contains tuples tuple → All (Contains (range_with_len 0 s.size)) tuple
extents-inside s p [] tuples at tuple there = absurd (Contains-none tuples at)
extents-inside s p (arity ∷ arities) tuples at tuple there =
    ⊎_elim
    (λ e. let among : Contains (yes_tuples s p arity) tuple = subst (λ (ts : List (List ℕ)). Contains ts tuple) (sym e) there
    in (list-fits (range_with_len 0 s.size) arity tuple
    (Contains-filter_back (λ t. is_yes (value_at s p t)) (lists_of (range_with_len 0 s.size) arity) tuple among).0).1)
    (λ later. extents-inside s (suc p) arities tuples later tuple there)
    (Contains-cases (yes_tuples s p arity) tuples (extents_from s (suc p) arities) at)

-- two names that agree on the individuals name the heap alike
pub same-names : (s : StructureForm) (f g : ℕ → ℕ) → s.fresh ≡ None → ((u : ℕ) → u < s.size → f u ≡ g u) → renamed f (heap_of s) ≡ renamed g (heap_of s)
same-names s f g unmarked agrees =
    ap (λ (us : List ℕ). record { individuals = us; extents = (renamed f (heap_of s)).extents; fresh = option_map f s.fresh }) individuals
    ∙ ap (λ (ts : List (List (List ℕ))). record { individuals = (renamed g (heap_of s)).individuals; extents = ts; fresh = option_map f s.fresh }) extents
    ∙ ap (λ (o : Option ℕ). record { individuals = (renamed g (heap_of s)).individuals; extents = (renamed g (heap_of s)).extents; fresh = o })
    (ap (option_map f) unmarked ∙ sym (ap (option_map g) unmarked))
  where
    on_tuple : (tuple : List ℕ) → All (Contains (range_with_len 0 s.size)) tuple → map f tuple ≡ map g tuple
    on_tuple tuple all =
        map-agreed f g tuple (λ u at. agrees u (below-range s.size u (All-contains (Contains (range_with_len 0 s.size)) tuple u all at)))

    individuals : map f (range_with_len 0 s.size) ≡ map g (range_with_len 0 s.size)
    individuals = map-agreed f g (range_with_len 0 s.size) (λ u at. agrees u (below-range s.size u at))

    extents : (renamed f (heap_of s)).extents ≡ (renamed g (heap_of s)).extents
    extents =
        map-agreed (λ (tuples : List (List ℕ)). map (λ tuple. map f tuple) tuples) (λ (tuples : List (List ℕ)). map (λ tuple. map g tuple) tuples)
        (extents_from s 0 (arities_of s))
        (λ tuples at. map-agreed (λ tuple. map f tuple) (λ tuple. map g tuple) tuples
        (λ tuple there. on_tuple tuple (extents-inside s 0 (arities_of s) tuples at tuple there)))

-- two renamings one after the other
pub renamed-twice : (f g : ℕ → ℕ) (h : Heap) → renamed g (renamed f h) ≡ renamed (λ u. g (f u)) h
renamed-twice f g h =
    ap (λ (us : List ℕ). record { individuals = us; extents = (renamed g (renamed f h)).extents; fresh = option_map g (option_map f h.fresh) })
    (map-compose f g h.individuals)
    ∙ ap (λ (ts : List (List (List ℕ))). record { individuals = map (λ u. g (f u)) h.individuals; extents = ts; fresh = option_map g (option_map f h.fresh) }) extents
    ∙ ap (λ (o : Option ℕ). record { individuals = map (λ u. g (f u)) h.individuals; extents = (renamed (λ u. g (f u)) h).extents; fresh = o }) (marks h.fresh)
  where
    marks : (o : Option ℕ) → option_map g (option_map f o) ≡ option_map (λ u. g (f u)) o
    marks None = refl
    marks (Some u) = refl

    on_tuples : (tuples : List (List ℕ)) → map (λ tuple. map g tuple) (map (λ tuple. map f tuple) tuples) ≡ map (λ tuple. map (λ u. g (f u)) tuple) tuples
    on_tuples tuples =
        map-compose (λ tuple. map f tuple) (λ tuple. map g tuple) tuples
        ∙ map-agreed (λ (tuple : List ℕ). map g (map f tuple)) (λ (tuple : List ℕ). map (λ u. g (f u)) tuple) tuples (λ tuple at. map-compose f g tuple)

    extents : (renamed g (renamed f h)).extents ≡ (renamed (λ u. g (f u)) h).extents
    extents =
        map-compose (λ (tuples : List (List ℕ)). map (λ tuple. map f tuple) tuples) (λ (tuples : List (List ℕ)). map (λ tuple. map g tuple) tuples) h.extents
        ∙ map-agreed (λ (tuples : List (List ℕ)). map (λ tuple. map g tuple) (map (λ tuple. map f tuple) tuples))
        (λ (tuples : List (List ℕ)). map (λ tuple. map (λ u. g (f u)) tuple) tuples) h.extents (λ tuples at. on_tuples tuples)

map-same : {X : Type 0} (xs : List X) (f : X → X) → ((x : X) → f x ≡ x) → map f xs ≡ xs
map-same [] f same = refl
map-same (x ∷ xs) f same = ap (λ y. y ∷ map f xs) (same x) ∙ ap (λ ys. x ∷ ys) (map-same xs f same)

-- the renaming that moves nothing
pub renamed-same : (h : Heap) → renamed (λ u. u) h ≡ h
renamed-same h =
    ap (λ (us : List ℕ). record { individuals = us; extents = (renamed (λ u. u) h).extents; fresh = option_map (λ u. u) h.fresh })
    (map-same h.individuals (λ u. u) (λ u. refl))
    ∙ ap (λ (ts : List (List (List ℕ))). record { individuals = h.individuals; extents = ts; fresh = option_map (λ u. u) h.fresh })
    (map-same h.extents (λ tuples. map (λ tuple. map (λ u. u) tuple) tuples)
    (λ tuples. map-same tuples (λ tuple. map (λ u. u) tuple) (λ tuple. map-same tuple (λ u. u) (λ u. refl))))
    ∙ ap (λ (o : Option ℕ). record { individuals = h.individuals; extents = h.extents; fresh = o }) (marks h.fresh)
  where
    marks : (o : Option ℕ) → option_map (λ u. u) o ≡ o
    marks None = refl
    marks (Some u) = refl

pub after : (f g r s : ℕ → ℕ) → IsRenaming f g → IsRenaming r s → IsRenaming (λ u. r (f u)) (λ w. g (s w))
after f g r s one two = record {
  back = λ u. ap g (two.back (f u)) ∙ one.back u;
  there = λ w. ap r (one.there (s w)) ∙ two.there w;
}

-- the names of the kept individuals belong to a renaming
pub kept-named : (s : StructureForm) (kept : List ℕ) → s.fresh ≡ None → s.size ≡ length kept → AllPairs ◌<◌ kept
    → (r t : ℕ → ℕ) × IsRenaming r t × (renamed (kept_individual kept) (heap_of s) ≡ renamed r (heap_of s))
kept-named s kept unmarked size ascending =
    let found = fronts_are_renamings kept (λ i j d lt within same. absurd (omega (arith, ascending i j d lt within, same)))
    in (
      found.0,
      found.1,
      found.2,
      same-names s (kept_individual kept) found.0 unmarked (λ u lt. sym (found.3 u (subst (λ n. u < n) size lt))),
    )

-- what embeds the structure embeds its heap
pub embeds-heap : (s t : StructureForm) (f : ℕ → ℕ) → IsStructure s → IsTwoValued s → Embeds f (structure_of s) (structure_of t)
    → IsHeapOf (heap_of s) (structure_of t)
embeds-heap s t f is two e = (
  f,
  record {
    into = e.into;
    onto = e.onto;
    values = λ q p tuple all. subst (λ k. LiesUnder k ((structure_of t).value q (map f tuple))) (sym (heap-value s is two q tuple)) (e.values q p tuple all);
    summaries = λ u at never. absurd (false≢true never);
    several = e.several;
  },
)
