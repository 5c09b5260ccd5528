-- Copies of heaps: an equivalence, and what it keeps.
use Rattle.std.proofs.Common.{ℕ, ◌≡◌, ◌↔◌, List, map, Option, Some, None, All, Contains, inl, inr}
use Rattle.std.proofs.Common.{refl, sym, ap, subst, ◌∙◌}
use Rattle.std.specs.Option.{option_map}
use Rattle.std.proofs.lemmas.List.{map-id}
use Rattle.std.proofs.lemmas.List.Elements.{All-weaker}
use Rattle.tv_kleene.specs.Kleene.{LiesUnder}
use Rattle.tv_model.specs.Heap.{Heap, Holds, extent}
use Rattle.tv_model.specs.Program.{ProgramForm}
use Rattle.tv_model.specs.Rules.{IsHeap}
use Rattle.tv_model.specs.Step.{FairStep}
use Rattle.tv_model.specs.Valid.{IsValid}
use Rattle.tv_model.specs.declared.program.Edge.{Edge}
use Rattle.tv_model.specs.declared.program.Mode.{Mode}
use Rattle.tv_model.proofs.Decided.{IsDecided, tuple-decided}
use Rattle.tv_model.proofs.Lists.{map-compose}
use Rattle.tv_embedding_laws.specs.LogicalStructure.{LogicalStructure, heap_structure}
use Rattle.tv_embedding_laws.specs.Embedding.{Embeds, IsHeapOf}
use Rattle.tv_embedding_laws.proofs.EmbeddingLaws.{reads_heap}
use Rattle.tv_renaming_laws.specs.Renamed.{renamed, IsRenaming, IsRenumbered}
use Rattle.tv_renaming_laws.proofs.Names.{among, among-back, all-among_back, holds-renamed, holds-back}
use Rattle.tv_renaming_laws.proofs.Steps.{fair-renamed}
use Rattle.tv_start_laws.specs.Copies.{IsCopyBy, IsHeapCopy}
use Rattle.tv_start_laws.specs.Laws.{CopiesAreAlike}
use Rattle.tv_start_laws.proofs.Alike.{alike-same, fair-alike}

-- ---- an equivalence

pub renaming-back : (r s : ℕ → ℕ) → IsRenaming r s → IsRenaming s r
renaming-back r s is = record { back = is.there; there = is.back }

pub renaming-onward : (r s f g : ℕ → ℕ) → IsRenaming r s → IsRenaming f g → IsRenaming (λ u. f (r u)) (λ w. s (g w))
renaming-onward r s f g is also = record {
  back = λ u. ap s (also.back (r u)) ∙ is.back u;
  there = λ w. ap f (is.there (g w)) ∙ also.there w;
}

fresh-onward : (r f : ℕ → ℕ) (fresh : Option ℕ) → option_map (λ u. f (r u)) fresh ≡ option_map f (option_map r fresh)
fresh-onward r f None = refl
fresh-onward r f (Some u) = refl

fresh-back : (r s : ℕ → ℕ) → IsRenaming r s → (fresh : Option ℕ) → option_map s (option_map r fresh) ≡ fresh
fresh-back r s is None = refl
fresh-back r s is (Some u) = ap Some (is.back u)

fresh-itself : (fresh : Option ℕ) → option_map (λ u. u) fresh ≡ fresh
fresh-itself None = refl
fresh-itself (Some u) = refl

pub copy-itself : (h : Heap) → IsCopyBy (λ u. u) (λ u. u) h h
copy-itself h =
    let plain : IsRenaming (λ u. u) (λ u. u) = record { back = λ u. refl; there = λ w. refl }
    in record {
      renaming = plain;
      alike = record {
        individuals = λ w. among-back (λ u. u) (λ u. u) plain h.individuals w;
        holds = λ q us. holds-itself q us plain;
        fresh = fresh-itself h.fresh;
      };
    }
  where
    holds-itself : (q : ℕ) (us : List ℕ) → IsRenaming (λ u. u) (λ u. u) → Holds (renamed (λ u. u) h) q us
        ↔ Holds h q us
    holds-itself q us plain =
        subst (λ ws. Holds (renamed (λ u. u) h) q us ↔ Holds h q ws) (map-id us)
        (holds-back (λ u. u) (λ u. u) plain h q us)

pub copy-back : (r s : ℕ → ℕ) (h k : Heap) → IsCopyBy r s h k → IsCopyBy s r k h
copy-back r s h k copy =
    let is = copy.renaming
    in let e = copy.alike
    in let turned : IsRenaming s r = renaming-back r s is
    in record {
      renaming = turned;
      alike = record {
        individuals = λ u.
            let one = among-back s r turned k.individuals u
            in let two = among r s is h.individuals u
            in (
              λ at. two.1 ((e.individuals (r u)).1 (one.0 at)),
              λ at. one.1 ((e.individuals (r u)).0 (two.0 at)),
            );
        holds = λ q us.
            let one = holds-back s r turned k q us
            in let two = holds-renamed r s is h q us
            in (
              λ at. two.1 ((e.holds q (map r us)).1 (one.0 at)),
              λ at. one.1 ((e.holds q (map r us)).0 (two.0 at)),
            );
        fresh = ap (option_map s) (sym e.fresh) ∙ fresh-back r s is h.fresh;
      };
    }

pub copy-onward : (r s f g : ℕ → ℕ) (h k l : Heap) → IsCopyBy r s h k → IsCopyBy f g k l
    → IsCopyBy (λ u. f (r u)) (λ w. s (g w)) h l
copy-onward r s f g h k l copy next =
    let is = copy.renaming
    in let also = next.renaming
    in let both : IsRenaming (λ u. f (r u)) (λ w. s (g w)) = renaming-onward r s f g is also
    in record {
      renaming = both;
      alike = record {
        individuals = λ w.
            let one = among-back (λ u. f (r u)) (λ x. s (g x)) both h.individuals w
            in let two = among-back r s is h.individuals (g w)
            in let three = among-back f g also k.individuals w
            in (
              λ at. (next.alike.individuals w).0 (three.1 ((copy.alike.individuals (g w)).0 (two.1 (one.0 at)))),
              λ at. one.1 (two.0 ((copy.alike.individuals (g w)).1 (three.0 ((next.alike.individuals w).1 at)))),
            );
        holds = λ q ws.
            let one : Holds (renamed (λ u. f (r u)) h) q ws ↔ Holds h q (map s (map g ws))
            = subst (λ us. Holds (renamed (λ u. f (r u)) h) q ws ↔ Holds h q us) (sym (map-compose g s ws))
            (holds-back (λ u. f (r u)) (λ x. s (g x)) both h q ws)
            in let two = holds-back r s is h q (map g ws)
            in let three = holds-back f g also k q ws
            in (
              λ at. (next.alike.holds q ws).0 (three.1 ((copy.alike.holds q (map g ws)).0 (two.1 (one.0 at)))),
              λ at. one.1 (two.0 ((copy.alike.holds q (map g ws)).1 (three.0 ((next.alike.holds q ws).1 at)))),
            );
        fresh = fresh-onward r f h.fresh ∙ ap (option_map f) copy.alike.fresh ∙ next.alike.fresh;
      };
    }

-- a heap is a copy of what a renaming makes of it
pub copy-renamed : (r s : ℕ → ℕ) → IsRenaming r s → (h : Heap) → IsCopyBy r s h (renamed r h)
copy-renamed r s is h = record { renaming = is; alike = alike-same (renamed r h) }

pub copy-renumbered : (h k : Heap) → IsRenumbered h k → IsHeapCopy h k
copy-renumbered h k (r, s, is, e) = (r, s, subst (IsCopyBy r s h) (sym e) (copy-renamed r s is h))

pub copies-onward : (h k l : Heap) → IsHeapCopy h k → IsHeapCopy k l → IsHeapCopy h l
copies-onward h k l (r, s, by) (f, g, next) = (λ u. f (r u), λ w. s (g w), copy-onward r s f g h k l by next)

-- ---- steps

pub copy-step : (p : ProgramForm) → IsValid p → (mode : Mode) (edge : Edge) (r s : ℕ → ℕ) (copy old new : Heap)
    → IsCopyBy r s copy old
    → IsHeap p copy → FairStep p mode edge old new → FairStep p mode edge copy (renamed s new)
copy-step p valid mode edge r s copy old new by heap step =
    let turned : IsCopyBy s r old copy = copy-back r s copy old by
    in fair-alike p mode edge (renamed s old) copy (renamed s new) turned.alike heap
    (fair-renamed p valid s r turned.renaming mode edge old new step)

pub copies_are_alike : CopiesAreAlike
copies_are_alike = record {
  itself = λ h. (λ u. u, λ u. u, copy-itself h);
  back = λ h k (r, s, by). (s, r, copy-back r s h k by);
  onward = copies-onward;
  renumbered = copy-renumbered;
  steps = λ p valid mode edge old copy new (r, s, by) heap step. (
    renamed s new,
    copy-step p valid mode edge r s copy old new by heap step,
    (r, s, copy-back s r new (renamed s new) (copy-renamed s r (renaming-back r s by.renaming) new)),
  );
}

-- ---- to lie in a structure

-- the value of a heap's tuple is told by whether its predicate holds
pub value-of : (h k : Heap) (q : ℕ) (us ws : List ℕ) → Holds h q us ↔ Holds k q ws → IsDecided (Holds h q us)
    → (heap_structure h).value q us ≡ (heap_structure k).value q ws
value-of h k q us ws both (inl has) = ((reads_heap h).yes q us).1 has ∙ sym (((reads_heap k).yes q ws).1 (both.0 has))
value-of h k q us ws both (inr not) =
    ((reads_heap h).no q us).1 not ∙ sym (((reads_heap k).no q ws).1 (λ has. not (both.1 has)))

pub embeds-copy : (r s : ℕ → ℕ) (h k : Heap) → IsCopyBy r s h k → (f : ℕ → ℕ) (t : LogicalStructure)
    → Embeds f (heap_structure h) t
    → Embeds (λ w. f (s w)) (heap_structure k) t
embeds-copy r s h k by f t e =
    let is = by.renaming
    in let old : (w : ℕ) → Contains k.individuals w → Contains h.individuals (s w)
    = λ w at. (among-back r s is h.individuals w).0 ((by.alike.individuals w).1 at)
    in record {
      into = λ w at. e.into (s w) (old w at);
      onto = λ x at.
          let from = e.onto x at
          in let moved : Contains k.individuals (r from.0)
          = (by.alike.individuals (r from.0)).0 ((among r s is h.individuals from.0).0 from.1)
          in (r from.0, moved, ap f (is.back from.0) ∙ from.2);
      values = λ q any ws all.
          let there : All (Contains h.individuals) (map s ws)
          = all-among_back r s is h.individuals ws
          (All-weaker (Contains k.individuals) (Contains (map r h.individuals))
          (λ w at. (by.alike.individuals w).1 at) ws all)
          in let back = holds-back r s is h q ws
          in let same : (heap_structure h).value q (map s ws) ≡ (heap_structure k).value q ws
          = value-of h k q (map s ws) ws
          (λ has. (by.alike.holds q ws).0 (back.1 has), λ has. back.0 ((by.alike.holds q ws).1 has))
          (tuple-decided (extent h q) (map s ws))
          in subst (λ x. LiesUnder x (t.value q (map (λ w. f (s w)) ws))) same
          (subst (λ us. LiesUnder ((heap_structure h).value q (map s ws)) (t.value q us)) (map-compose s f ws)
          (e.values q tt (map s ws) there));
      summaries = λ w at summary. e.summaries (s w) (old w at) summary;
      several = λ u w one two differ meet.
          e.several (s u) (s w) (old u one) (old w two)
          (λ same. differ (sym (is.there u) ∙ ap r same ∙ is.there w)) meet;
    }

pub lies-kept : (r s : ℕ → ℕ) (h k : Heap) → IsCopyBy r s h k → (t : LogicalStructure) → IsHeapOf h t → IsHeapOf k t
lies-kept r s h k by t (f, e) = (λ w. f (s w), embeds-copy r s h k by f t e)
