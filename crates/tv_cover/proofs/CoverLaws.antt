-- The first cover among places in ascending order.
use Rattle.std.proofs.Common.{ℕ, ◌≡◌, ◌<◌, ◌≤◌, ◌+◌, ◌⊎◌, inl, inr, List, length, get_or, map, refl, sym, ap}
use Rattle.std.proofs.Common.{subst, ◌∙◌, arith}
use Rattle.std.specs.Prelude.{All, Any, Contains, Option, None, Some, Result, Ok, Err, IfOk, OnOk}
use Rattle.std.specs.Prelude.{IfNone, IfSome, slice_get}
use Rattle.std.specs.List.{range_with_len}
use Rattle.std.specs.List.Sorted.{IsNonDecreasing}
use Rattle.std.proofs.lemmas.Bool.{cases_lt}
use Rattle.std.proofs.lemmas.List.{get_or_default}
use Rattle.std.proofs.lemmas.Option.{slice_get_within, slice_get-get_or, get_or_from_slice_get}
use Rattle.tv_lemmas.proofs.Lists.{All-found}
use Rattle.tv_lemmas.proofs.Orderings.{le_same}
use Rattle.tv_embed.specs.Maps.{IsEmbedding, IsLeastEmbedding}
use Rattle.tv_embed.proofs.SearchLaws.{embedding-list}
use Rattle.tv_embedding_laws.specs.Embedding.{IsEmbedded}
use Rattle.tv_structure_form.specs.StructureForm.{StructureForm, arities_of, structure_of}
use Rattle.tv_cover.specs.Covers.{IsFirstCover, IsCoverAt, HasNoCoverAt, HasCoversAmong}
use Rattle.tv_cover.specs.Indexed.{AreIndexed, glances_of}
use Rattle.tv_cover.specs.Glance.{GlanceForm, glance_of, AreKnown, MayEmbed, IsOnlyMap}
use Rattle.tv_cover.specs.Noted.{Finds}
use Rattle.tv_cover.specs.declared.noted.Noted.{Noted}
use Rattle.tv_kleene.specs.declared.K3.{K3}
use Rattle.tv_cover.proofs.GlanceLaws.{may-embed, same-map}
use Rattle.tv_cover.proofs.NotedLaws.{found-place}

pub covers-among : (noted : Noted) (targets : List StructureForm) (s : StructureForm)
    (glance : GlanceForm) (places : List ℕ) → glance ≡ glance_of s
    → All (λ t. arities_of s ≡ arities_of t) targets → AreIndexed noted (glances_of targets)
    → ((known : List K3) → Contains noted.known.items known → AreKnown glance known → Finds noted glance known places)
    → HasCoversAmong targets s places
covers-among noted targets s glance places is alike indexed each place t listed embedded =
    let Each : GlanceForm → Type 0 = λ g.
    (known : List K3) → Contains noted.known.items known → AreKnown g known → Finds noted g known places
    in found-place noted targets s places indexed (subst Each is each) place t listed
    (All-found (λ x. arities_of s ≡ arities_of x) targets place t alike listed) embedded

-- what says nothing that lies under what the target says doesn't embed in it
pub none-told : (s t : StructureForm) (below above : GlanceForm) → arities_of s ≡ arities_of t → below ≡ glance_of s
    → above ≡ glance_of t → ¬ MayEmbed below above → ¬ IsEmbedded (structure_of s) (structure_of t)
none-told s t below above same is at never embedded =
    let told : MayEmbed (glance_of s) (glance_of t) = may-embed s t same embedded
    in never (subst (λ g. MayEmbed g above) (sym is) (subst (MayEmbed (glance_of s)) (sym at) told))

-- no target at the first n places covers s
pub AreTried : (targets : List StructureForm) → StructureForm → (places : List ℕ) → (n : ℕ) → Type 0
AreTried targets s places n = (k : ℕ) → k < n → k < length places → HasNoCoverAt targets s (get_or places k 0)

pub tried-none : (targets : List StructureForm) (s : StructureForm) (places : List ℕ) → AreTried targets s places 0
unfolding AreTried
tried-none targets s places k lt within = absurd (omega arith)

pub tried-more : (targets : List StructureForm) (s : StructureForm) (places : List ℕ) (n place : ℕ)
    → place ≡ get_or places n 0 → HasNoCoverAt targets s place → AreTried targets s places n
    → AreTried targets s places (n + 1)
unfolding AreTried
tried-more targets s places n place is none before k lt within = at (cases_lt k n)
  where
    at : (k < n) ⊎ (n ≤ k) → HasNoCoverAt targets s (get_or places k 0)
    at (inl below) = before k below within
    at (inr from) =
        let here : n ≡ k = omega arith
        in subst (HasNoCoverAt targets s) (is ∙ ap (λ i. get_or places i 0) here) none

pub tried-first : (targets : List StructureForm) (s : StructureForm) (places : List ℕ) (n place : ℕ) (images : List ℕ)
    → HasCoversAmong targets s places → IsNonDecreasing places → AreTried targets s places n → n < length places
    → place ≡ get_or places n 0 → IsCoverAt targets s place images → IsFirstCover targets s place images
unfolding AreTried
tried-first targets s places n place images among order tried lt is cover = record {
  large = cover.large;
  listed = cover.listed;
  least = cover.least;
  first = first;
}
  where
    first : (earlier : ℕ) (other : StructureForm) → earlier < place → slice_get targets earlier ≡ Some other
        → ¬ IsEmbedded (structure_of s) (structure_of other)
    first earlier other before listed embedded = from (among earlier other listed embedded)
      where
        from : Contains places earlier → ⊥
        from (k, within, at) = side (cases_lt k n)
          where
            read : get_or places k 0 ≡ earlier
            read = get_or_default places k 0 earlier within ∙ at

            side : (k < n) ⊎ (n ≤ k) → ⊥
            side (inl below) =
                subst (HasNoCoverAt targets s) read (tried k below within) other listed embedded
            side (inr from) =
                let rises : get_or places n 0 ≤ get_or places k 0 = order n k 0 from within
                in omega (arith, rises, read, is, before)

pub tried-all : (targets : List StructureForm) (s : StructureForm) (places : List ℕ) (n : ℕ)
    → HasCoversAmong targets s places → length places ≤ n → AreTried targets s places n
    → ¬ Any (λ t. IsEmbedded (structure_of s) (structure_of t)) targets
unfolding AreTried
tried-all targets s places n among all tried (p, t, within, at, embedded) =
    from (among p t listed embedded)
  where
    listed : slice_get targets p ≡ Some t
    listed = slice_get-get_or targets p t within ∙ ap Some at

    from : Contains places p → ⊥
    from (k, lt, is) =
        subst (HasNoCoverAt targets s) (get_or_default places k 0 p lt ∙ is) (tried k (omega (arith, lt, all)) lt) t listed
        embedded

-- ---- where one map alone may be an embedding

pub only-least : (s t : StructureForm) (images : List ℕ) → arities_of s ≡ arities_of t
    → IsOnlyMap (glance_of s) (glance_of t) images → IsEmbedding s t images → IsLeastEmbedding s t images
only-least s t images same only embeds =
    (embeds, λ other e. le_same images other (sym (same-map s t images other same only e)))

pub only-none : (s t : StructureForm) (images : List ℕ) → arities_of s ≡ arities_of t
    → IsOnlyMap (glance_of s) (glance_of t) images → ¬ IsEmbedding s t images → ¬ IsEmbedded (structure_of s) (structure_of t)
only-none s t images same only never (f, e) =
    let list : List ℕ = map f (range_with_len 0 s.size)
    in let is : IsEmbedding s t list = embedding-list s t f e
    in never (subst (IsEmbedding s t) (same-map s t images list same only is) is)

-- past the end no target covers
pub none-past : (targets : List StructureForm) (s : StructureForm) (place : ℕ) → length targets ≤ place
    → HasNoCoverAt targets s place
none-past targets s place past large listed embedded =
    let within : place < length targets = slice_get_within targets place large listed
    in omega (arith, past, within)

pub none-here : (targets : List StructureForm) (s large : StructureForm) (place : ℕ) → slice_get targets place ≡ Some large
    → (¬ IsEmbedded (structure_of s) (structure_of large)) → HasNoCoverAt targets s place
none-here targets s large place is none other listed embedded =
    let same : other ≡ large
    = sym (get_or_from_slice_get targets place other other listed) ∙ get_or_from_slice_get targets place large other is
    in none (subst (λ x. IsEmbedded (structure_of s) (structure_of x)) same embedded)

pub place-fits : (targets : List StructureForm) (s : StructureForm) (place : ℕ) (images : List ℕ)
    → IsCoverAt targets s place images → place < length targets
place-fits targets s place images cover = slice_get_within targets place cover.large cover.listed

pub if_ok : {X E : Type 0} {P Q : X → Type 0} → (r : Result X E) → ((x : X) → P x → Q x) → IfOk r P → IfOk r Q
if_ok (Ok x) f h = f x h
if_ok (Err e) f h = tt

pub on_ok : {X E : Type 0} {P Q : Type 0} → (r : Result X E) → (P → Q) → OnOk r P → OnOk r Q
on_ok (Ok x) f h = f h
on_ok (Err e) f h = tt

pub from_none : {X : Type 0} {P : Type 0} → (o : Option X) → IfNone o P → ((x : X) → o ≡ Some x → ⊥) → P
from_none None h never = h
from_none (Some x) h never = absurd (never x refl)
