-- A heap below a structure lies below one of its two branches, once it is renumbered.
use Rattle.std.proofs.Common.{ℕ, ◌≡◌, ◌⊎◌, List, [], ◌∷◌, map, All, Contains, inl, inr, refl, sym, ap, subst}
use Rattle.std.proofs.Common.{◌∙◌}
use Rattle.std.proofs.Common.{⊎_elim}
use Rattle.std.proofs.lemmas.Bool.{cases_eq, false≢true}
use Rattle.std.proofs.lemmas.List.{map-id}
use Rattle.std.proofs.lemmas.List.Elements.{All-contains, All-weaker}
use Rattle.tv_kleene.specs.declared.K3.{K3}
use Rattle.tv_kleene.specs.declared.K3.TheVariants.{No, Yes}
use Rattle.tv_kleene.specs.Kleene.{LiesUnder}
use Rattle.tv_model.specs.Heap.{Heap, Holds, extent}
use Rattle.tv_model.proofs.Assignments.{swap, swap-first, swap-second, swap-rest, swap-twice}
use Rattle.tv_model.proofs.Decided.{IsDecided, tuple-decided}
use Rattle.tv_model.proofs.Lists.{Contains-none, Contains-cases, Contains-here, Contains-there}
use Rattle.tv_embedding_laws.specs.LogicalStructure.{LogicalStructure, heap_structure}
use Rattle.tv_embedding_laws.proofs.EmbeddingLaws.{reads_heap}
use Rattle.tv_renaming_laws.specs.Renamed.{renamed, IsRenaming}
use Rattle.tv_renaming_laws.proofs.Names.{among-back, all-among_back, holds-back}
use Rattle.tv_start_laws.specs.Laws.{BranchesLoseNoHeap, ExchangesKeepStructures}
use Rattle.tv_start_laws.specs.Starts.{LiesBelow, FitsBelow, Exchange, KeepsStructure, images, IsSetTo}
use Rattle.tv_start_laws.proofs.Copying.{renaming-back, copy-renamed, copies-onward, value-of}

-- ---- what an exchange makes of a heap below

moved-below : (t : LogicalStructure) (e : Exchange) → KeepsStructure t e → (h : Heap) → LiesBelow h t
    → LiesBelow (renamed e.back h) t
moved-below t e keeps h below =
    let turned : IsRenaming e.back e.there = renaming-back e.there e.back keeps.renaming
    in let old : (w : ℕ) → Contains (map e.back h.individuals) w → Contains h.individuals (e.there w)
    = λ w at. (among-back e.back e.there turned h.individuals w).0 at
    in let inside : (w : ℕ) → Contains (map e.back h.individuals) w → Contains t.individuals w
    = λ w at. (keeps.individuals w).1 (below.into (e.there w) (old w at))
    in record {
      into = inside;
      onto = λ w at.
          let from = below.onto (e.there w) ((keeps.individuals w).0 at)
          in let here : Contains h.individuals (e.there w) = subst (Contains h.individuals) from.2 from.1
          in (w, (among-back e.back e.there turned h.individuals w).1 here, refl);
      values = λ q any ws all.
          let there : All (Contains h.individuals) (map e.there ws)
          = all-among_back e.back e.there turned h.individuals ws all
          in let fits : All (Contains t.individuals) ws
          = All-weaker (Contains (map e.back h.individuals)) (Contains t.individuals) inside ws all
          in let both = holds-back e.back e.there turned h q ws
          in let same : (heap_structure h).value q (map e.there ws) ≡ (heap_structure (renamed e.back h)).value q ws
          =
          value-of h (renamed e.back h) q (map e.there ws) ws (both.1, both.0)
          (tuple-decided (extent h q) (map e.there ws))
          in let above : t.value q (map (λ u. u) (map e.there ws)) ≡ t.value q (map (λ u. u) ws)
          = ap (t.value q) (map-id (map e.there ws)) ∙ keeps.values q ws fits ∙ ap (t.value q) (sym (map-id ws))
          in subst (λ x. LiesUnder x (t.value q (map (λ u. u) ws))) same
          (subst (λ y. LiesUnder ((heap_structure h).value q (map e.there ws)) y) above
          (below.values q tt (map e.there ws) there));
      summaries = λ w at summary. absurd (false≢true summary);
      several = λ u w one two differ same. absurd (differ same);
    }

-- ---- two individuals exchanged

stays-inside : (us : List ℕ) (u w : ℕ) → Contains us u → Contains us w → (x : ℕ) → Contains us x
    → Contains us (swap u w x)
stays-inside us u w one two x at = by (cases_eq x u) (cases_eq x w)
  where
    by : (x ≡ u) ⊎ (x ≡ u → ⊥) → (x ≡ w) ⊎ (x ≡ w → ⊥) → Contains us (swap u w x)
    by (inl e) other = subst (Contains us) (sym (swap-first u w x e)) two
    by (inr ne) (inl e) = subst (Contains us) (sym (swap-second u w x e)) one
    by (inr ne) (inr d) = subst (Contains us) (sym (swap-rest u w x ne d)) at

pub exchanges_keep_structures : ExchangesKeepStructures
exchanges_keep_structures t u w one two values = record {
  renaming = record { back = λ x. swap-twice u w x; there = λ x. swap-twice u w x };
  individuals = λ x. (
    λ at. stays-inside t.individuals u w one two x at,
    λ at. subst (Contains t.individuals) (swap-twice u w x) (stays-inside t.individuals u w one two (swap u w x) at),
  );
  values = values;
}

-- ---- what is set

pub set-below : (k : Heap) (t : LogicalStructure) → LiesBelow k t → (pred : ℕ) (tuples : List (List ℕ)) (x : K3)
    → ((tuple : List ℕ) → Contains tuples tuple → (heap_structure k).value pred tuple ≡ x)
    → (s : LogicalStructure) → IsSetTo t pred tuples x s → LiesBelow k s
set-below k t below pred tuples x tells s set = record {
  into = λ w at. subst (λ us. Contains us w) (sym set.individuals) (below.into w at);
  onto = λ w at. below.onto w (subst (λ us. Contains us w) set.individuals at);
  values = λ q any ws all. at q ws all (cases_eq q pred) (tuple-decided tuples ws);
  summaries = λ w at summary. absurd (false≢true summary);
  several = λ u w one two differ same. absurd (differ same);
}
  where
    other : (q : ℕ) (ws : List ℕ) → All (Contains k.individuals) ws → ¬ ((q ≡ pred) × Contains tuples ws)
        → LiesUnder ((heap_structure k).value q ws) (s.value q (map (λ u. u) ws))
    other q ws all not =
        subst (λ y. LiesUnder ((heap_structure k).value q ws) y)
        (ap (t.value q) (map-id ws) ∙ sym (set.elsewhere q ws not) ∙ ap (s.value q) (sym (map-id ws)))
        (below.values q tt ws all)

    at : (q : ℕ) (ws : List ℕ) → All (Contains k.individuals) ws → (q ≡ pred) ⊎ (q ≡ pred → ⊥)
        → IsDecided (Contains tuples ws)
        → LiesUnder ((heap_structure k).value q ws) (s.value q (map (λ u. u) ws))
    at q ws all (inl is) (inl has) =
        inl (ap (λ p. (heap_structure k).value p ws) is ∙ tells ws has ∙ sym (set.there ws has)
        ∙ ap (λ p. s.value p ws) (sym is)
        ∙ ap (s.value q) (sym (map-id ws)))
    at q ws all (inl is) (inr none) = other q ws all (λ both. none both.1)
    at q ws all (inr ne) has = other q ws all (λ both. ne both.0)

-- ---- the branches

-- one of the exchanges takes the tuple to where the predicate holds, or it holds at no image
first-image : (h : Heap) (pred : ℕ) (tuple : List ℕ) (exchanges : List Exchange)
    → ((e : Exchange) × Contains exchanges e × Holds h pred (map e.there tuple))
    ⊎ ((ws : List ℕ) → Contains (images exchanges tuple) ws → ¬ Holds h pred ws)
first-image h pred tuple [] = inr (λ ws at. absurd (Contains-none ws at))
first-image h pred tuple (e ∷ exchanges) =
    at (tuple-decided (extent h pred) (map e.there tuple)) (first-image h pred tuple exchanges)
  where
    at : IsDecided (Holds h pred (map e.there tuple))
        → ((x : Exchange) × Contains exchanges x × Holds h pred (map x.there tuple))
        ⊎ ((ws : List ℕ) → Contains (images exchanges tuple) ws → ¬ Holds h pred ws)
        → ((x : Exchange) × Contains (e ∷ exchanges) x × Holds h pred (map x.there tuple))
        ⊎ ((ws : List ℕ) → Contains (images (e ∷ exchanges) tuple) ws → ¬ Holds h pred ws)
    at (inl has) later = inl (e, Contains-here e exchanges, has)
    at (inr not) (inl (x, there, has)) = inl (x, Contains-there e x exchanges there, has)
    at (inr not) (inr none) = inr (λ ws found.
        ⊎_elim (λ same has. not (subst (Holds h pred) (sym same) has)) (λ there. none ws there)
        (Contains-cases (map e.there tuple) ws (images exchanges tuple) found))

abbrev plain : Exchange
plain = record { there = λ u. u; back = λ u. u }

plain-keeps : (t : LogicalStructure) → KeepsStructure t plain
plain-keeps t = record {
  renaming = record { back = λ u. refl; there = λ w. refl };
  individuals = λ u. (λ at. at, λ at. at);
  values = λ q ws all. ap (t.value q) (map-id ws);
}

yes-branch : (t one : LogicalStructure) (pred : ℕ) (tuple : List ℕ) (e : Exchange) → KeepsStructure t e
    → IsSetTo t pred (tuple ∷ []) Yes one
    → (h : Heap) → LiesBelow h t → Holds h pred (map e.there tuple) → FitsBelow h one
yes-branch t one pred tuple e keeps set h below has =
    let turned : IsRenaming e.back e.there = renaming-back e.there e.back keeps.renaming
    in let holds : Holds (renamed e.back h) pred tuple = (holds-back e.back e.there turned h pred tuple).1 has
    in (
      renamed e.back h,
      (e.back, e.there, copy-renamed e.back e.there turned h),
      set-below (renamed e.back h) t (moved-below t e keeps h below) pred (tuple ∷ []) Yes
          (λ ws at. ⊎_elim
          (λ same. ((reads_heap (renamed e.back h)).yes pred ws).1 (subst (Holds (renamed e.back h) pred) same holds))
          (λ none. absurd (Contains-none ws none)) (Contains-cases tuple ws [] at))
          one set,
    )

branched : (t one none : LogicalStructure) (pred : ℕ) (tuple : List ℕ) (exchanges : List Exchange)
    → All (KeepsStructure t) exchanges
    → IsSetTo t pred (tuple ∷ []) Yes one → IsSetTo t pred (tuple ∷ images exchanges tuple) No none
    → (h : Heap) → LiesBelow h t → FitsBelow h one ⊎ LiesBelow h none
branched t one none pred tuple exchanges all set cleared h below =
    at (tuple-decided (extent h pred) tuple) (first-image h pred tuple exchanges)
  where
    at : IsDecided (Holds h pred tuple)
        → ((e : Exchange) × Contains exchanges e × Holds h pred (map e.there tuple))
        ⊎ ((ws : List ℕ) → Contains (images exchanges tuple) ws → ¬ Holds h pred ws)
        → FitsBelow h one ⊎ LiesBelow h none
    at (inl has) images_ =
        inl (yes-branch t one pred tuple plain (plain-keeps t) set h below
        (subst (Holds h pred) (sym (map-id tuple)) has))
    at (inr not) (inl (e, there, has)) =
        inl (yes-branch t one pred tuple e (All-contains (KeepsStructure t) exchanges e all there) set h below has)
    at (inr not) (inr no_image) =
        inr (set-below h t below pred (tuple ∷ images exchanges tuple) No
        (λ ws found. ⊎_elim
        (λ same. ((reads_heap h).no pred ws).1 (λ has. not (subst (Holds h pred) (sym same) has)))
        (λ there. ((reads_heap h).no pred ws).1 (no_image ws there))
        (Contains-cases tuple ws (images exchanges tuple) found))
        none cleared)

pub branches_lose_no_heap : BranchesLoseNoHeap
branches_lose_no_heap t one none pred tuple exchanges all set cleared h (k, is, below) =
    ⊎_elim (λ (l, more, lies). inl (l, copies-onward h k l is more, lies)) (λ lies. inr (k, is, lies))
    (branched t one none pred tuple exchanges all set cleared k below)
