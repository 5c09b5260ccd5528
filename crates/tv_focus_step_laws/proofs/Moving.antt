-- Embeddings by maps that agree, and into a structure of which several individuals go to one.
use Rattle.std.proofs.Common.{ℕ, ◌≡◌, List, [], ◌∷◌, map, refl, sym, ap, subst, ◌∙◌, All}
use Rattle.std.proofs.Common.{Contains}
use Rattle.std.proofs.lemmas.List.Elements.{All-nil, All-cons, All-head, All-tail}
use Rattle.tv_kleene.specs.Kleene.{LiesUnder}
use Rattle.std.specs.Prelude.{IsTrue}
use Rattle.tv_embedding_laws.specs.LogicalStructure.{LogicalStructure}
use Rattle.tv_embedding_laws.specs.Embedding.{Embeds}

pub map-alike : (P : ℕ → Type 0) (f g : ℕ → ℕ) → ((x : ℕ) → P x → f x ≡ g x) → (tuple : List ℕ) → All P tuple
    → map f tuple ≡ map g tuple
map-alike P f g same [] all = refl
map-alike P f g same (x ∷ tuple) all =
    ap (λ y. y ∷ map f tuple) (same x (All-head P x tuple all))
    ∙ ap (λ ys. g x ∷ ys) (map-alike P f g same tuple (All-tail P x tuple all))

pub embeds-alike : (f g : ℕ → ℕ) (u c : LogicalStructure) → ((x : ℕ) → Contains u.individuals x → f x ≡ g x)
    → Embeds f u c → Embeds g u c
embeds-alike f g u c same e = record {
  into = λ x at. subst (Contains c.individuals) (same x at) (e.into x at);
  onto = λ w at. let there = e.onto w at in (there.0, there.1, sym (same there.0 there.1) ∙ there.2);
  values = λ q any tuple all. subst (λ us. LiesUnder (u.value q tuple) (c.value q us))
      (map-alike (Contains u.individuals) f g same tuple all) (e.values q any tuple all);
  summaries = λ x at summary. subst (λ y. IsTrue (c.is_summary y)) (same x at) (e.summaries x at summary);
  several = λ x y at there ne goes. subst (λ z. IsTrue (c.is_summary z)) (same x at)
      (e.several x y at there ne (same x at ∙ goes ∙ sym (same y there)));
}

pub map-both : (g back : ℕ → ℕ) (tuple : List ℕ) → map back (map g tuple) ≡ map (λ x. back (g x)) tuple
map-both g back [] = refl
map-both g back (x ∷ tuple) = ap (λ ys. back (g x) ∷ ys) (map-both g back tuple)

-- d comes of c by a map that keeps values and summaries, and g goes into it
pub record IsFinerAt (back f g : ℕ → ℕ) (u c d : LogicalStructure) : Type 0 where
  pub into : (x : ℕ) → Contains u.individuals x → Contains d.individuals (g x)
  pub onto : (w : ℕ) → Contains d.individuals w → (x : ℕ) × Contains u.individuals x × (g x ≡ w)
  pub same : (x : ℕ) → Contains u.individuals x → back (g x) ≡ f x
  pub values : (q : ℕ) (tuple : List ℕ) → All (Contains d.individuals) tuple
      → d.value q tuple ≡ c.value q (map back tuple)
  pub summaries : (w : ℕ) → Contains d.individuals w → d.is_summary w ≡ c.is_summary (back w)

pub all-into : (P Q : ℕ → Type 0) (g : ℕ → ℕ) → ((x : ℕ) → P x → Q (g x)) → (tuple : List ℕ) → All P tuple
    → All Q (map g tuple)
all-into P Q g each [] all = All-nil Q
all-into P Q g each (x ∷ tuple) all =
    All-cons Q (g x) (map g tuple) (each x (All-head P x tuple all))
    (all-into P Q g each tuple (All-tail P x tuple all))

pub finer-embeds : (back f g : ℕ → ℕ) (u c d : LogicalStructure) → IsFinerAt back f g u c d → Embeds f u c
    → Embeds g u d
finer-embeds back f g u c d finer e = record {
  into = finer.into;
  onto = finer.onto;
  values = λ q any tuple all. subst (λ k. LiesUnder (u.value q tuple) k)
      (ap (c.value q) (sym (map-alike (Contains u.individuals) (λ x. back (g x)) f finer.same tuple all)
      ∙ sym (map-both g back tuple))
      ∙ sym (finer.values q (map g tuple) (all-into (Contains u.individuals) (Contains d.individuals) g finer.into tuple all)))
      (e.values q any tuple all);
  summaries = λ x at summary. subst IsTrue (at-image x at) (e.summaries x at summary);
  several = λ x y at there ne goes. subst IsTrue (at-image x at)
      (e.several x y at there ne (sym (finer.same x at) ∙ ap back goes ∙ finer.same y there));
}
  where
    at-image : (x : ℕ) → Contains u.individuals x → c.is_summary (f x) ≡ d.is_summary (g x)
    at-image x at = ap c.is_summary (sym (finer.same x at)) ∙ sym (finer.summaries (g x) (finer.into x at))
