-- Where some target covers a structure, there is a first one, and a least embedding in it: whether a list is an
-- embedding is decided.
use Rattle.std.proofs.Common.{ℕ, ◌≡◌, ◌≢◌, ◌<◌, ◌≤◌, ◌+◌, ◌⊎◌, zero, suc, inl, inr, Bool, true, false, List}
use Rattle.std.proofs.Common.{[]}
use Rattle.std.proofs.Common.{◌∷◌, ◌++◌, length, get_or, map, take, refl, sym, ap, subst, ◌∙◌, arith}
use Rattle.std.specs.Prelude.{All, Contains, IsTrue, Some, slice_get}
use Rattle.std.specs.List.{range_with_len}
use Rattle.std.proofs.lemmas.Bool.{cases_lt, cases_eq}
use Rattle.std.proofs.lemmas.List.{take_all, length_push}
use Rattle.std.proofs.lemmas.List.Elements.{All-nil, All-weaker}
use Rattle.std.proofs.lemmas.Option.{slice_get_within, slice_get-get_or, get_or_from_slice_get}
use Rattle.tv_lemmas.proofs.Lists.{All-found}
use Rattle.tv_lemmas.proofs.Orderings.{le_same}
use Rattle.tv_kleene.specs.declared.K3.{K3}
use Rattle.tv_kleene.specs.declared.K3.TheVariants.{No, Half, Yes}
use Rattle.tv_kleene.specs.Kleene.{LiesUnder}
use Rattle.tv_model.proofs.Decided.{IsDecided, same-decided, and-decided, or-decided, implies-decided}
use Rattle.tv_model.proofs.Decided.{forall-decided, Contains-decided, mark-decided}
use Rattle.tv_embedding_laws.specs.Embedding.{IsEmbedded}
use Rattle.tv_structure_form.specs.StructureForm.{StructureForm, IsStructure, arities_of, structure_of}
use Rattle.tv_structure_form.specs.StructureForm.{summary_at}
use Rattle.tv_structure_form.specs.StructureForm.{value_at}
use Rattle.tv_structure_form.proofs.Library.{Contains-range, below-range}
use Rattle.tv_embed.specs.Fits.{ValueFits, TupleFits, IsCandidate, PairFits, FitsSoFar, IsOnto}
use Rattle.tv_embed.specs.Maps.{image_of, IsEmbedding, IsLeastEmbedding}
use Rattle.tv_embed.specs.Search.{AreCandidates, BeginsWith, HasNoneWith, IsLeastWith}
use Rattle.tv_embed.proofs.CandidateLaws.{candidates_push}
use Rattle.tv_embed.proofs.MapLaws.{Embeds-fits, FitsSoFar-embedding, IsOnto-embedding}
use Rattle.tv_embed.proofs.SearchLaws.{AreTried, embedding-list, tried_all, tried_found, tried_more}
use Rattle.tv_embed.proofs.SearchLaws.{tried_none}
use Rattle.tv_cover.specs.Covers.{IsFirstCover}

-- ---- decided facts

below-decided : (P : ℕ → Type 0) → ((u : ℕ) → IsDecided (P u)) → (n : ℕ) → IsDecided ((u : ℕ) → u < n → P u)
below-decided P each n =
    same-decided ((u : ℕ) → Contains (range_with_len 0 n) u → P u) ((u : ℕ) → u < n → P u)
    (λ all u lt. all u (Contains-range n u lt)) (λ all u has. all u (below-range n u has))
    (forall-decided P each (range_with_len 0 n))

less-decided : (m n : ℕ) → IsDecided (m < n)
less-decided m n = at (cases_lt m n)
  where
    at : (m < n) ⊎ (n ≤ m) → IsDecided (m < n)
    at (inl lt) = inl lt
    at (inr le) = inr (λ lt. omega (arith, lt, le))

bool-decided : (b : Bool) → IsDecided (IsTrue b)
bool-decided true = inl refl
bool-decided false = inr (λ e. absurd (cc e))

value-decided : (x y : K3) → IsDecided (x ≡ y)
value-decided No No = inl refl
value-decided No Half = inr (λ e. absurd (cc e))
value-decided No Yes = inr (λ e. absurd (cc e))
value-decided Half No = inr (λ e. absurd (cc e))
value-decided Half Half = inl refl
value-decided Half Yes = inr (λ e. absurd (cc e))
value-decided Yes No = inr (λ e. absurd (cc e))
value-decided Yes Half = inr (λ e. absurd (cc e))
value-decided Yes Yes = inl refl

lies-decided : (x y : K3) → IsDecided (LiesUnder x y)
lies-decided x y = or-decided (x ≡ y) (y ≡ Half) (value-decided x y) (value-decided y Half)

module _ (small large : StructureForm) where
  fits-decided : (pred : ℕ) (below above : List ℕ) → IsDecided (ValueFits small large pred below above)
  fits-decided pred below above =
      implies-decided (slice_get (arities_of small) pred ≡ Some (length below))
      (LiesUnder (value_at small pred below) (value_at large pred above))
      (mark-decided (slice_get (arities_of small) pred) (length below))
      (lies-decided (value_at small pred below) (value_at large pred above))

  tuple-decided : (below above : List ℕ) → IsDecided (TupleFits small large below above)
  tuple-decided below above =
      same-decided ((p : ℕ) → p < length (arities_of small) → ValueFits small large p below above)
      (TupleFits small large below above)
      (λ all p arity. all p (slice_get_within (arities_of small) p (length below) arity) arity) (λ all p lt. all p)
      (below-decided (λ p. ValueFits small large p below above) (λ p. fits-decided p below above) (length (arities_of small)))

  candidate-decided : (u w : ℕ) → IsDecided (IsCandidate small large u w)
  candidate-decided u w =
      let A : Type 0 = IsTrue (summary_at small u) → IsTrue (summary_at large w)
      in let B : Type 0 = TupleFits small large (u ∷ []) (w ∷ [])
      in let C : Type 0 = TupleFits small large (u ∷ u ∷ []) (w ∷ w ∷ [])
      in same-decided (A × (B × C)) (IsCandidate small large u w)
      (λ t. record { summary = t.0; values = t.1.0; loops = t.1.1 }) (λ c. (c.summary, (c.values, c.loops)))
      (and-decided A (B × C)
      (implies-decided (IsTrue (summary_at small u)) (IsTrue (summary_at large w)) (bool-decided (summary_at small u))
      (bool-decided (summary_at large w)))
      (and-decided B C (tuple-decided (u ∷ []) (w ∷ [])) (tuple-decided (u ∷ u ∷ []) (w ∷ w ∷ []))))

  pair-decided : (u w x y : ℕ) → IsDecided (PairFits small large u w x y)
  pair-decided u w x y =
      let A : Type 0 = w ≡ y → IsTrue (summary_at large w)
      in let B : Type 0 = TupleFits small large (u ∷ x ∷ []) (w ∷ y ∷ [])
      in let C : Type 0 = TupleFits small large (x ∷ u ∷ []) (y ∷ w ∷ [])
      in same-decided (A × (B × C)) (PairFits small large u w x y)
      (λ t. record { several = t.0; forth = t.1.0; back = t.1.1 }) (λ p. (p.several, (p.forth, p.back)))
      (and-decided A (B × C)
      (implies-decided (w ≡ y) (IsTrue (summary_at large w)) (cases_eq w y) (bool-decided (summary_at large w)))
      (and-decided B C (tuple-decided (u ∷ x ∷ []) (w ∷ y ∷ [])) (tuple-decided (x ∷ u ∷ []) (y ∷ w ∷ []))))

  Pairs : (images : List ℕ) → (u : ℕ) → Type 0
  Pairs images u = (x : ℕ) → x < u → PairFits small large u (image_of images u) x (image_of images x)

  so-far-decided : (images : List ℕ) → IsDecided (FitsSoFar small large images)
  unfolding Pairs
  so-far-decided images =
      let n : ℕ = length images
      in let A : Type 0 = TupleFits small large [] []
      in let B : Type 0 = (u : ℕ) → u < n → image_of images u < large.size
      in let C : Type 0 = (u : ℕ) → u < n → IsCandidate small large u (image_of images u)
      in let D : Type 0 = (u : ℕ) → u < n → Pairs images u
      in same-decided (A × (B × (C × D))) (FitsSoFar small large images)
      (λ t. record {
        nullary = t.0;
        within = t.1.0;
        candidates = t.1.1.0;
        pairs = λ u x lt before. t.1.1.1 u lt x before;
      })
      (λ f. (f.nullary, (f.within, (f.candidates, λ u lt x before. f.pairs u x lt before))))
      (and-decided A (B × (C × D)) (tuple-decided [] [])
      (and-decided B (C × D)
      (below-decided (λ u. image_of images u < large.size) (λ u. less-decided (image_of images u) large.size) n)
      (and-decided C D
      (below-decided (λ u. IsCandidate small large u (image_of images u)) (λ u. candidate-decided u (image_of images u)) n)
      (below-decided (Pairs images)
      (λ u.
      below-decided (λ x. PairFits small large u (image_of images u) x (image_of images x))
      (λ x. pair-decided u (image_of images u) x (image_of images x)) u) n))))

  onto-decided : (images : List ℕ) → IsDecided (IsOnto large images)
  onto-decided images = below-decided (Contains images) (Contains-decided images) large.size

  module _ (is : IsStructure small) (same : arities_of small ≡ arities_of large) where
    embedding-decided : (images : List ℕ) → IsDecided (IsEmbedding small large images)
    embedding-decided images =
        let A : Type 0 = length images ≡ small.size
        in let B : Type 0 = FitsSoFar small large images
        in let C : Type 0 = IsOnto large images
        in same-decided (A × (B × C)) (IsEmbedding small large images)
        (λ t. Embeds-fits small large images is same t.0 t.1.0 t.1.1)
        (λ e. (e.0, (FitsSoFar-embedding small large images e, IsOnto-embedding small large images e)))
        (and-decided A (B × C) (cases_eq (length images) small.size)
        (and-decided B C (so-far-decided images) (onto-decided images)))

    -- ---- the least embedding

    Listed : (u n : ℕ) → Type 0
    Listed u n = (list : List ℕ) × AreCandidates small large u n list

    listed-none : (u : ℕ) → Listed u 0
    unfolding Listed
    listed-none u = (
      [],
      record {
        each = λ w lt one. absurd (omega arith);
        within = All-nil (λ w. w < 0);
        only = All-nil (IsCandidate small large u);
        ascending = λ i j d less within. absurd (omega (arith, within));
      },
    )

    listed-more : (u n : ℕ) → IsDecided (IsCandidate small large u n) → Listed u n → Listed u (n + 1)
    unfolding Listed
    listed-more u n (inl one) (list, are) = (list ++ n ∷ [], candidates_push small large u n list are one)
    listed-more u n (inr not) (list, are) = (
      list,
      record {
        each = λ w lt one. each w one lt (cases_lt w n);
        within = All-weaker (λ w. w < n) (λ w. w < n + 1) (λ w lt. omega (arith, lt)) list are.within;
        only = are.only;
        ascending = are.ascending;
      },
    )
      where
        each : (w : ℕ) → IsCandidate small large u w → w < n + 1 → (w < n) ⊎ (n ≤ w) → Contains list w
        each w one lt (inl below) = are.each w below one
        each w one lt (inr from) =
            let here : w ≡ n = omega (arith, lt, from)
            in absurd (not (subst (IsCandidate small large u) here one))

    listed : (u n : ℕ) → Listed u n
    listed u zero = listed-none u
    listed u (suc n) =
        let up : n + 1 ≡ suc n = omega arith
        in subst (Listed u) up (listed-more u n (candidate-decided u n) (listed u n))

    -- the least of the embeddings that begin so, or none does
    Searched : (front : List ℕ) → Type 0
    Searched front = ((images : List ℕ) × IsLeastWith small large front images) ⊎ HasNoneWith small large front

    whole : (front : List ℕ) → length front ≡ small.size → IsDecided (IsEmbedding small large front) → Searched front
    unfolding Searched
    whole front count (inl embeds) = inl (
      front,
      record {
        embeds = embeds;
        begins = take_all (length front) front (omega arith);
        least = λ other e begins. le_same front other (sym begins ∙ take_all (length front) other (omega (arith, e.0, count)));
      },
    )
    whole front count (inr not) = inr (λ other e begins.
        not (subst (IsEmbedding small large) (sym (take_all (length front) other (omega (arith, e.0, count))) ∙ begins) e))

    module _ (front list : List ℕ) (few : length front < small.size)
        (are : AreCandidates small large (length front) large.size list) where
      tried-next : (n : ℕ) → n < length list → AreTried small large front list n → Searched (front ++ get_or list n 0 ∷ [])
          → (AreTried small large front list (n + 1) → Searched front) → Searched front
      unfolding Searched
      tried-next n lt tried (inl (images, found)) later =
          inl (images, tried_found small large front list images n (get_or list n 0) few are tried lt refl found)
      tried-next n lt tried (inr none) later =
          later (tried_more small large front list n (get_or list n 0) few tried lt refl none)

      tries : ((w : ℕ) → Searched (front ++ w ∷ [])) → (left n : ℕ) → n + left ≡ length list
          → AreTried small large front list n → Searched front
      unfolding Searched
      tries next zero n e tried = inr (tried_all small large front list n few are tried (omega (arith, e)))
      tries next (suc left) n e tried =
          tried-next n (omega (arith, e)) tried (next (get_or list n 0)) (λ more. tries next left (n + 1) (omega (arith, e)) more)

    search : (left : ℕ) (front : List ℕ) → length front + left ≡ small.size → Searched front
    unfolding Listed
    search zero front e = whole front (omega (arith, e)) (embedding-decided front)
    search (suc left) front e =
        let u : ℕ = length front
        in let few : u < small.size = omega (arith, e)
        in let candidates : Listed u large.size = listed u large.size
        in through candidates few (λ w. search left (front ++ w ∷ []) (omega (arith, e, length_push front w)))
      where
        through : Listed (length front) large.size → length front < small.size → ((w : ℕ) → Searched (front ++ w ∷ []))
            → Searched front
        through (list, are) few next =
            tries front list few are next (length list) 0 (omega arith) (tried_none small large front list)

    -- there is a least embedding, or none
    Least : Type 0
    Least = ((images : List ℕ) × IsLeastEmbedding small large images)
        ⊎ (IsEmbedded (structure_of small) (structure_of large) → ⊥)

    least : Least
    unfolding Least Searched
    least = from (search small.size [] (omega arith))
      where
        from : Searched [] → Least
        from (inl (images, found)) = inl (images, (found.embeds, λ other e. found.least other e refl))
        from (inr none) = inr (λ embedded.
            none (map embedded.0 (range_with_len 0 small.size)) (embedding-list small large embedded.0 embedded.1) refl)

-- ---- the first cover

module _ (targets : List StructureForm) (s : StructureForm) (is : IsStructure s)
    (alike : All (λ t. arities_of s ≡ arities_of t) targets) where
  Found : Type 0
  Found = (target : ℕ) × (images : List ℕ) × IsFirstCover targets s target images

  -- none of the first n targets covers it
  NoneTo : ℕ → Type 0
  NoneTo n = (place : ℕ) (t : StructureForm) → place < n → slice_get targets place ≡ Some t
      → IsEmbedded (structure_of s) (structure_of t) → ⊥

  found-here : (n : ℕ) (x : StructureForm) → slice_get targets n ≡ Some x → (same : arities_of s ≡ arities_of x)
      → Least s x is same → NoneTo n → (NoneTo (n + 1) → Found) → Found
  unfolding Found NoneTo Least
  found-here n x there same (inl (images, embeds)) none later =
      (n, images, record { large = x; listed = there; least = embeds; first = none })
  found-here n x there same (inr not) none later = later (λ place t lt listed embedded. at place t lt listed embedded (cases_lt place n))
    where
      at : (place : ℕ) (t : StructureForm) → place < n + 1 → slice_get targets place ≡ Some t
          → IsEmbedded (structure_of s) (structure_of t) → (place < n) ⊎ (n ≤ place) → ⊥
      at place t lt listed embedded (inl below) = none place t below listed embedded
      at place t lt listed embedded (inr from) =
          let here : place ≡ n = omega (arith, lt, from)
          in let one : t ≡ x
          = sym (get_or_from_slice_get targets place t t listed) ∙ ap (λ k. get_or targets k t) here
          ∙ get_or_from_slice_get targets n x t there
          in not (subst (λ y. IsEmbedded (structure_of s) (structure_of y)) one embedded)

  walk : (t : StructureForm) (left n : ℕ) → n + left ≡ length targets → NoneTo n
      → ((NoneTo (length targets)) → ⊥) → Found
  walk t zero n e none some = absurd (some (subst NoneTo (omega (arith, e)) none))
  walk t (suc left) n e none some =
      let within : n < length targets = omega (arith, e)
      in let there : slice_get targets n ≡ Some (get_or targets n t) = slice_get-get_or targets n t within
      in let same : arities_of s ≡ arities_of (get_or targets n t)
      = All-found (λ x. arities_of s ≡ arities_of x) targets n (get_or targets n t) alike there
      in found-here n (get_or targets n t) there same (least s (get_or targets n t) is same) none
      (λ more. walk t left (n + 1) (omega (arith, e)) more some)

  pub first-cover : (place : ℕ) (t : StructureForm) → slice_get targets place ≡ Some t
      → IsEmbedded (structure_of s) (structure_of t) → (target : ℕ) × (images : List ℕ) × IsFirstCover targets s target images
  unfolding Found NoneTo
  first-cover place t there embedded =
      walk t (length targets) 0 (omega arith) (λ p x lt. absurd (omega arith))
      (λ none. none place t (slice_get_within targets place t there) there embedded)
