-- Lemmas on embeddings, for the crates above: identity, composition, predicates added up, what lies below,
-- and heaps read as structures.
use Rattle.std.proofs.Common.{ℕ, ◌≡◌, ◌≢◌, ◌⊎◌, inl, inr, Bool, true, false, List, get_or, map, refl, sym, ap}
use Rattle.std.proofs.Common.{subst, ◌∙◌, ◌↔◌, true≢false}
use Rattle.std.specs.Prelude.{All, Any, Contains, IsTrue, if◌then◌else◌, nat_eq}
use Rattle.std.specs.Cmp.Lexicographic.{pointwise, bytes_decides}
use Rattle.std.proofs.lemmas.Bool.{cases_eq}
use Rattle.std.proofs.lemmas.List.{map-id}
use Rattle.std.proofs.lemmas.List.Elements.{All-map}
use Rattle.std.proofs.lemmas.List.Folds.{Any-from_list_any, list_any-from_Any}
use Rattle.tv_kleene.specs.declared.K3.TheVariants.{No, Yes}
use Rattle.tv_kleene.specs.Kleene.{LiesUnder}
use Rattle.tv_model.specs.Heap.{Heap, Holds, extent}
use Rattle.tv_kleene.proofs.Lattice.{LiesUnder-trans}
use Rattle.tv_model.proofs.Lists.{map-compose}
use Rattle.tv_embedding_laws.specs.LogicalStructure.{LogicalStructure, ReadsHeap, holds}
use Rattle.tv_embedding_laws.specs.Embedding.{EmbedsOn, Embeds, KeepsMark, IsBelow, IsBelowByValues}

-- ---- identity and composition

pub EmbedsOn-id : (P : ℕ → Type 0) (s : LogicalStructure) → EmbedsOn P (λ u. u) s s
EmbedsOn-id P s = record {
  into = λ u h. h;
  onto = λ w h. (w, h, refl);
  values = λ pred p tuple all. inl (sym (ap (s.value pred) (map-id tuple)));
  summaries = λ u h sm. sm;
  several = λ u w hu hw differ same. absurd (differ same);
}

pub EmbedsOn-compose : (P : ℕ → Type 0) (f g : ℕ → ℕ) (r s t : LogicalStructure) → EmbedsOn P f r s → EmbedsOn P g s t
    → EmbedsOn P (λ u. g (f u)) r t
EmbedsOn-compose P f g r s t a b = record {
  into = λ u h. b.into (f u) (a.into u h);
  onto = λ w h. through w (b.onto w h);
  values = λ pred p tuple all.
      LiesUnder-trans (r.value pred tuple) (s.value pred (map f tuple)) (t.value pred (map (λ u. g (f u)) tuple))
      (a.values pred p tuple all)
      (subst (λ image. LiesUnder (s.value pred (map f tuple)) (t.value pred image)) (map-compose f g tuple)
      (b.values pred p (map f tuple)
      (All-map (Contains s.individuals) f tuple (λ k d lt. a.into (get_or tuple k d) (all k d lt)))));
  summaries = λ u h sm. b.summaries (f u) (a.into u h) (a.summaries u h sm);
  several = λ u w hu hw differ same. either u w hu hw differ same (cases_eq (f u) (f w));
}
  where
    through : (w : ℕ) → (x : ℕ) × Contains s.individuals x × (g x ≡ w) → (u : ℕ) × Contains r.individuals u
        × (g (f u) ≡ w)
    through w (x, has, e) = again w x e (a.onto x has)
      where
        again : (w x : ℕ) → g x ≡ w → (u : ℕ) × Contains r.individuals u × (f u ≡ x)
            → (u : ℕ) × Contains r.individuals u × (g (f u) ≡ w)
        again w x e (u, has, d) = (u, has, ap g d ∙ e)

    either : (u w : ℕ) → Contains r.individuals u → Contains r.individuals w → u ≢ w → g (f u) ≡ g (f w)
        → (f u ≡ f w) ⊎ (f u ≢ f w) → IsTrue (t.is_summary (g (f u)))
    either u w hu hw differ same (inl one) = b.summaries (f u) (a.into u hu) (a.several u w hu hw differ one)
    either u w hu hw differ same (inr two) = b.several (f u) (f w) (a.into u hu) (a.into w hw) two same

-- an embedding for some predicates is one for each that is among them
pub EmbedsOn-weaken : (P Q : ℕ → Type 0) (f : ℕ → ℕ) (s t : LogicalStructure) → ((pred : ℕ) → Q pred → P pred)
    → EmbedsOn P f s t → EmbedsOn Q f s t
EmbedsOn-weaken P Q f s t among e = record {
  into = e.into;
  onto = e.onto;
  values = λ pred q tuple all. e.values pred (among pred q) tuple all;
  summaries = e.summaries;
  several = e.several;
}

-- an embedding is one for any predicates
pub EmbedsOn-any : (P : ℕ → Type 0) (f : ℕ → ℕ) (s t : LogicalStructure) → Embeds f s t → EmbedsOn P f s t
EmbedsOn-any P f s t e = EmbedsOn-weaken (λ pred. Unit {0}) P f s t (λ pred p. tt) e

-- a map that embeds for some predicates, and for others, embeds for all of them
pub EmbedsOn-both : (P Q : ℕ → Type 0) (f : ℕ → ℕ) (s t : LogicalStructure) → EmbedsOn P f s t → EmbedsOn Q f s t
    → EmbedsOn (λ pred. P pred ⊎ Q pred) f s t
EmbedsOn-both P Q f s t a b = record {
  into = a.into;
  onto = a.onto;
  values = λ pred either tuple all. on pred either tuple all;
  summaries = a.summaries;
  several = a.several;
}
  where
    on : (pred : ℕ) → P pred ⊎ Q pred → (tuple : List ℕ) → All (Contains s.individuals) tuple
        → LiesUnder (s.value pred tuple) (t.value pred (map f tuple))
    on pred (inl p) tuple all = a.values pred p tuple all
    on pred (inr q) tuple all = b.values pred q tuple all

pub KeepsMark-id : (s : LogicalStructure) → KeepsMark (λ u. u) s s
KeepsMark-id s = record {
  marked = λ u h. (λ e. e, λ e. e);
  both = (λ e. e, λ e. e);
}

pub KeepsMark-compose : (f g : ℕ → ℕ) (r s t : LogicalStructure) → Embeds f r s → KeepsMark f r s → KeepsMark g s t
    → KeepsMark (λ u. g (f u)) r t
KeepsMark-compose f g r s t a m n = record {
  marked = λ u h. (
    λ e. (n.marked (f u) (a.into u h)).0 ((m.marked u h).0 e),
    λ e. (m.marked u h).1 ((n.marked (f u) (a.into u h)).1 e),
  );
  both = (λ e. n.both.0 (m.both.0 e), λ e. m.both.1 (n.both.1 e));
}

-- ---- below

pub IsBelow-values : (s t : LogicalStructure) → IsBelow s t ↔ IsBelowByValues s t
IsBelow-values s t = (to, from)
  where
    to : IsBelow s t → IsBelowByValues s t
    to (same, e) = record {
      individuals = same;
      values = λ pred tuple all.
          subst (λ image. LiesUnder (s.value pred tuple) (t.value pred image)) (map-id tuple)
          (e.values pred tt tuple all);
      summaries = e.summaries;
    }

    from : IsBelowByValues s t → IsBelow s t
    from v = (
      v.individuals,
      record {
        into = λ u h. subst (λ us. Contains us u) v.individuals h;
        onto = λ w h. (w, subst (λ us. Contains us w) (sym v.individuals) h, refl);
        values = λ pred p tuple all.
            subst (λ image. LiesUnder (s.value pred tuple) (t.value pred image)) (sym (map-id tuple))
            (v.values pred tuple all);
        summaries = v.summaries;
        several = λ u w hu hw differ same. absurd (differ same);
      },
    )

-- ---- heaps

holds-Holds : (h : Heap) (pred : ℕ) (tuple : List ℕ) → (holds h pred tuple ≡ true) ↔ Holds h pred tuple
holds-Holds h pred tuple = (to, from)
  where
    to : holds h pred tuple ≡ true → Holds h pred tuple
    to e =
        let hit : Any (λ member. pointwise nat_eq member tuple ≡ true) (extent h pred)
        = Any-from_list_any (λ member. pointwise nat_eq member tuple) (extent h pred) e
        in let same : hit.1 ≡ tuple = (bytes_decides hit.1 tuple).0 hit.4
        in let At : List ℕ → Type 0 = λ member. get_or (extent h pred) hit.0 member ≡ member
        in (hit.0, hit.2, subst At same hit.3)

    from : Holds h pred tuple → holds h pred tuple ≡ true
    from has =
        list_any-from_Any (λ member. pointwise nat_eq member tuple) (extent h pred)
        (has.0, tuple, has.1, has.2, (bytes_decides tuple tuple).1 refl)

value-true : (b : Bool) → ((if b then Yes else No) ≡ Yes) ↔ (b ≡ true)
value-true true = (λ e. refl, λ e. refl)
value-true false = (λ e. cc, λ e. cc)

value-false : (b : Bool) → ((if b then Yes else No) ≡ No) ↔ (b ≡ true → ⊥)
value-false true = (λ e. cc, λ e. absurd (e refl))
value-false false = (λ e. λ d. true≢false (sym d), λ e. refl)

pub reads_heap : (h : Heap) → ReadsHeap h
reads_heap h = record {
  yes = λ pred tuple. (
    λ e. (holds-Holds h pred tuple).0 ((value-true (holds h pred tuple)).0 e),
    λ has. (value-true (holds h pred tuple)).1 ((holds-Holds h pred tuple).1 has),
  );
  no = λ pred tuple. (
    λ e. λ has. (value-false (holds h pred tuple)).0 e ((holds-Holds h pred tuple).1 has),
    λ never. (value-false (holds h pred tuple)).1 (λ d. never ((holds-Holds h pred tuple).0 d)),
  );
}
