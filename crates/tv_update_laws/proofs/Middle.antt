-- A heap with a further individual embeds, with marks, in the structure with one.
use Rattle.std.specs.Prelude.{IsSome}
use Rattle.std.proofs.Common.{ℕ, ◌≡◌, ◌≢◌, ◌⊎◌, ◌↔◌, ◌++◌, List, [], ◌∷◌, map, Some, inl, inr, ⊎_elim, refl}
use Rattle.std.proofs.Common.{sym, ap, subst, ◌∙◌, All, Contains, IsTrue}
use Rattle.std.proofs.lemmas.Bool.{false≢true}
use Rattle.std.proofs.lemmas.List.Elements.{All-map, All-contains, All-contains_itself, Contains-push}
use Rattle.std.proofs.lemmas.List.Elements.{Contains-push_cases, Contains-append_left}
use Rattle.tv_model.proofs.Lists.{Contains-map}
use Rattle.tv_kleene.specs.Kleene.{LiesUnder}
use Rattle.tv_model.specs.Heap.{Heap}
use Rattle.tv_model.specs.Program.{ProgramForm}
use Rattle.tv_model.specs.Rules.{IsHeap}
use Rattle.tv_model.specs.Step.{with_new}
use Rattle.tv_model.specs.Truth.{put}
use Rattle.tv_model.proofs.Programs.{holds-individuals}
use Rattle.tv_model.proofs.Decided.{Contains-decided}
use Rattle.tv_model.proofs.Assignments.{put-same, put-other}
use Rattle.tv_embedding_laws.specs.LogicalStructure.{LogicalStructure, ReadsHeap, heap_structure}
use Rattle.tv_embedding_laws.specs.Embedding.{Embeds, EmbedsWithMarks}
use Rattle.tv_embedding_laws.proofs.EmbeddingLaws.{reads_heap}
use Rattle.tv_update_laws.specs.Applied.{IsGrown}
use Rattle.tv_update_laws.proofs.Facts.{tuple-agreed}

-- m embeds the old heap in s, x is a further individual, and t is s with one
pub record Growing (p : ProgramForm) (m : ℕ → ℕ) (old : Heap) (x : ℕ) (s t : LogicalStructure) : Type 0 where
  pub is_heap : IsHeap p old
  pub embeds : Embeds m (heap_structure old) s
  pub new_below : ¬ Contains old.individuals x
  pub grown : IsGrown s t

module _ (p : ProgramForm) (m : ℕ → ℕ) (old : Heap) (x : ℕ) (s t : LogicalStructure)
    (c : Growing p m old x s t) where
  abbrev u : ℕ
  u = c.grown.further

  abbrev g : ℕ → ℕ
  g = put m x u

  above : (w : ℕ) → Contains (s.individuals ++ u ∷ []) w → Contains t.individuals w
  above w at = subst (λ us. Contains us w) (sym c.grown.individuals) at

  old-image : (w : ℕ) → Contains old.individuals w → g w ≡ m w
  old-image w at = put-other m x u w (λ e. c.new_below (subst (λ y. Contains old.individuals y) e at))

  new-image : (w : ℕ) → x ≡ w → g w ≡ u
  new-image w e = put-same m x u w (sym e)

  -- an old individual doesn't go where the new one goes
  apart : (w : ℕ) → Contains old.individuals w → m w ≢ u
  apart w at e = c.grown.is_further (subst (λ z. Contains s.individuals z) e (c.embeds.into w at))

  into : (w : ℕ) → Contains (old.individuals ++ x ∷ []) w → Contains t.individuals (g w)
  into w at =
      let In : ℕ → Type 0 = λ y. Contains t.individuals y
      in ⊎_elim
      (λ there. subst In (sym (old-image w there))
      (above (m w) (Contains-append_left s.individuals (u ∷ []) (m w) (c.embeds.into w there))))
      (λ e. subst In (sym (new-image w e)) (above u (Contains-push s.individuals u)))
      (Contains-push_cases old.individuals x w at)

  onto : (w : ℕ) → Contains t.individuals w → (y : ℕ) × Contains (old.individuals ++ x ∷ []) y × (g y ≡ w)
  onto w at =
      ⊎_elim
      (λ there. let d : (y : ℕ) × Contains old.individuals y × (m y ≡ w) = c.embeds.onto w there
      in (d.0, Contains-append_left old.individuals (x ∷ []) d.0 d.1, old-image d.0 d.1 ∙ d.2))
      (λ e. (x, Contains-push old.individuals x, new-image x refl ∙ e))
      (Contains-push_cases s.individuals u w (subst (λ us. Contains us w) c.grown.individuals at))

  -- the new individual stands in no tuple, below and above
  values : (q : ℕ) (tuple : List ℕ) → All (Contains (old.individuals ++ x ∷ [])) tuple
      → LiesUnder ((heap_structure old).value q tuple) (t.value q (map g tuple))
  values q tuple all = ⊎_elim new_there none_there (Contains-decided tuple x)
    where
      reads : ReadsHeap old
      reads = reads_heap old

      new_there : Contains tuple x → LiesUnder ((heap_structure old).value q tuple) (t.value q (map g tuple))
      new_there at =
          let image : Contains (map g tuple) u =
          subst (λ y. Contains (map g tuple) y) (new-image x refl) (Contains-map g x tuple at)
          in inl ((reads.no q tuple).1
          (λ h. c.new_below (All-contains (Contains old.individuals) tuple x
          (holds-individuals p old c.is_heap q tuple h) at))
          ∙ sym (c.grown.no_values q (map g tuple)
          (All-map (Contains t.individuals) g tuple (λ k d lt. into _ (all k d lt))) image))

      none_there : (¬ Contains tuple x)
          → LiesUnder ((heap_structure old).value q tuple) (t.value q (map g tuple))
      none_there none =
          let olds : All (Contains old.individuals) tuple
          = λ k d lt. ⊎_elim (λ there. there)
          (λ e. absurd (none (subst (λ y. Contains tuple y) (sym e) (All-contains_itself tuple k d lt))))
          (Contains-push_cases old.individuals x _ (all k d lt))
          in let images : All (Contains s.individuals) (map m tuple) =
          All-map (Contains s.individuals) m tuple (λ k d lt. c.embeds.into _ (olds k d lt))
          in subst (λ us. LiesUnder ((heap_structure old).value q tuple) (t.value q us))
          (sym (tuple-agreed g m old.individuals tuple olds old-image))
          (subst (λ y. LiesUnder ((heap_structure old).value q tuple) y)
          (sym (c.grown.values q (map m tuple) images)) (c.embeds.values q tt tuple olds))

  several : (v w : ℕ) → Contains (old.individuals ++ x ∷ []) v → Contains (old.individuals ++ x ∷ []) w
      → v ≢ w → g v ≡ g w → IsTrue (t.is_summary (g v))
  several v w hv hw differ same =
      go (Contains-push_cases old.individuals x v hv) (Contains-push_cases old.individuals x w hw)
    where
      go : Contains old.individuals v ⊎ (x ≡ v) → Contains old.individuals w ⊎ (x ≡ w)
          → IsTrue (t.is_summary (g v))
      go (inl a) (inl b) =
          ap t.is_summary (old-image v a) ∙ c.grown.summaries (m v) (c.embeds.into v a)
          ∙ c.embeds.several v w a b differ (sym (old-image v a) ∙ same ∙ old-image w b)
      go (inl a) (inr e) = absurd (apart v a (sym (old-image v a) ∙ same ∙ new-image w e))
      go (inr e) (inl b) = absurd (apart w b (sym (old-image w b) ∙ sym same ∙ new-image v e))
      go (inr e) (inr f) = absurd (differ (sym e ∙ f))

  marked : (w : ℕ) → Contains (old.individuals ++ x ∷ []) w → (Some x ≡ Some w) ↔ (t.fresh ≡ Some (g w))
  marked w at = (to, from)
    where
      to : Some x ≡ Some w → t.fresh ≡ Some (g w)
      to e = let same : x ≡ w = cc in c.grown.mark ∙ ap (λ (z : ℕ). Some z) (sym (new-image w same))

      from : t.fresh ≡ Some (g w) → Some x ≡ Some w
      from e =
          let both : Some u ≡ Some (g w) = sym c.grown.mark ∙ e
          in let same : u ≡ g w = cc
          in ⊎_elim
          (λ there. absurd (apart w there (sym (old-image w there) ∙ sym same)))
          (λ is. ap (λ (z : ℕ). Some z) is)
          (Contains-push_cases old.individuals x w at)

  pub fresh-embeds : EmbedsWithMarks g (heap_structure (with_new old x)) t
  fresh-embeds = (
    record {
      into = into;
      onto = onto;
      values = λ q any tuple all. values q tuple all;
      summaries = λ w at sm.
          absurd (false≢true sm);
      several = several;
    },
    record { marked = marked; both = (λ i. subst (λ o. IsSome o) (sym c.grown.mark) refl, λ i. refl) },
  )
