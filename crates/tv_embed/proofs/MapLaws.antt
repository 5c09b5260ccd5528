-- A list is an embedding exactly where it fits and is onto.
use Rattle.std.proofs.Common.{ℕ, ◌≡◌, ◌≢◌, ◌<◌, ◌≤◌, ◌⊎◌, inl, inr, List, [], ◌∷◌, length, get_or, map, Some}
use Rattle.std.proofs.Common.{refl, sym, ap, subst, ◌∙◌, arith}
use Rattle.std.specs.Prelude.{All, Contains, IsTrue, slice_get}
use Rattle.std.specs.List.{range_with_len}
use Rattle.std.proofs.lemmas.Bool.{cases_order}
use Rattle.std.proofs.lemmas.List.{get_or_default, get_or-map, length-map}
use Rattle.std.proofs.lemmas.List.FromFn.{length-range_with_len, get_or-range_with_len}
use Rattle.std.proofs.lemmas.Option.{slice_get-get_or, slice_get_within}
use Rattle.std.proofs.lemmas.List.Elements.{All-nil, All-cons, All-head, All-tail}
use Rattle.tv_kleene.specs.declared.K3.TheVariants.{No}
use Rattle.tv_kleene.specs.Kleene.{LiesUnder}
use Rattle.tv_embedding_laws.specs.LogicalStructure.{heap_structure}
use Rattle.tv_embedding_laws.specs.Embedding.{Embeds}
use Rattle.tv_embedding_laws.proofs.EmbeddingLaws.{EmbedsOn-compose}
use Rattle.tv_structure_form.specs.TableForm.{AreIndividuals, no_plane}
use Rattle.tv_structure_form.specs.StructureForm.{StructureForm, IsStructure, structure_of, arities_of}
use Rattle.tv_structure_form.specs.StructureForm.{value_at}
use Rattle.tv_structure_form.specs.StructureForm.{summary_at}
use Rattle.tv_structure_form.proofs.Library.{Contains-range, below-range, AreIndividuals-range, fits_or_No}
use Rattle.tv_embed.specs.Maps.{image_of, IsEmbedding, HeapsStay}
use Rattle.tv_embed.specs.Laws.{StructuresEmbedInThemselves}
use Rattle.tv_embed.specs.Fits.{TupleFits, FitsSoFar, IsOnto}

-- ---- from what fits

-- arities are at most two
pub arity-small : (s : StructureForm) → IsStructure s → (pred n : ℕ) → slice_get (arities_of s) pred ≡ Some n → n ≤ 2
arity-small s is pred n e =
    let lt : pred < length s.planes = rw (← length-map s.planes (λ p. p.arity)) (slice_get_within (arities_of s) pred n e)
    in let same : Some (get_or s.planes pred no_plane).arity ≡ Some n
    = ap Some (sym (get_or-map (λ p. p.arity) s.planes pred no_plane 0 lt))
    ∙ sym (slice_get-get_or (arities_of s) pred 0 (rw (length-map s.planes (λ p. p.arity)) lt)) ∙ e
    in let arity : (get_or s.planes pred no_plane).arity ≡ n = cc
    in let small : (get_or s.planes pred no_plane).arity ≤ 2 = (is.table.planes pred no_plane lt).arity
    in omega (arith, small, arity)

-- each tuple of the predicate's arity
fits-tuple : (small large : StructureForm) (images : List ℕ) → FitsSoFar small large images → (tuple : List ℕ)
    → AreIndividuals (length images) tuple → length tuple ≤ 2 → TupleFits small large tuple (map (image_of images) tuple)
fits-tuple small large images fits [] within le = fits.nullary
fits-tuple small large images fits (u ∷ []) within le = (fits.candidates u within.0).values
fits-tuple small large images fits (u ∷ x ∷ []) within le = at (cases_order u x)
  where
    at : (u ≡ x) ⊎ ((u < x) ⊎ (x < u)) → TupleFits small large (u ∷ x ∷ []) (map (image_of images) (u ∷ x ∷ []))
    at (inl same) =
        let P : ℕ → Type 0 = λ y. TupleFits small large (u ∷ y ∷ []) (image_of images u ∷ image_of images y ∷ [])
        in subst P same (fits.candidates u within.0).loops
    at (inr (inl before)) = (fits.pairs x u within.1.0 before).back
    at (inr (inr after)) = (fits.pairs u x within.0 after).forth
fits-tuple small large images fits (u ∷ x ∷ y ∷ others) within le = absurd (omega arith)

fits-value : (small large : StructureForm) (images : List ℕ) → IsStructure small → arities_of small ≡ arities_of large
    → FitsSoFar small large images → (pred : ℕ) (tuple : List ℕ) → AreIndividuals (length images) tuple
    → LiesUnder (value_at small pred tuple) (value_at large pred (map (image_of images) tuple))
fits-value small large images is same fits pred tuple within =
    at (fits_or_No small pred tuple) (fits_or_No large pred (map (image_of images) tuple))
  where
    under : slice_get (arities_of small) pred ≡ Some (length tuple)
        → LiesUnder (value_at small pred tuple) (value_at large pred (map (image_of images) tuple))
    under arity = fits-tuple small large images fits tuple within (arity-small small is pred (length tuple) arity) pred arity

    at : (slice_get (arities_of small) pred ≡ Some (length tuple)) ⊎ (value_at small pred tuple ≡ No)
        → (slice_get (arities_of large) pred ≡ Some (length (map (image_of images) tuple)))
        ⊎ (value_at large pred (map (image_of images) tuple) ≡ No)
        → LiesUnder (value_at small pred tuple) (value_at large pred (map (image_of images) tuple))
    at (inl arity) above = under arity
    at (inr below) (inl arity) = under (rw same (arity ∙ ap Some (length-map tuple (image_of images))))
    at (inr below) (inr above) = inl (below ∙ sym above)

pub Embeds-fits : (small large : StructureForm) (images : List ℕ) → IsStructure small → arities_of small ≡ arities_of large
    → length images ≡ small.size → FitsSoFar small large images → IsOnto large images → IsEmbedding small large images
Embeds-fits small large images is same count fits onto = (
  count,
  record {
    into = λ u at. Contains-range large.size (image_of images u) (fits.within u (inside u at));
    onto = λ w at. found w (onto w (below-range large.size w at));
    values = λ pred p tuple all.
        fits-value small large images is same fits pred tuple
        (rw count (AreIndividuals-range small.size tuple all));
    summaries = λ u at summary. (fits.candidates u (inside u at)).summary summary;
    several = λ u x at other differ one. both u x (inside u at) (inside x other) one (cases_order u x) differ;
  },
)
  where
    inside : (u : ℕ) → Contains (range_with_len 0 small.size) u → u < length images
    inside u at = rw count (below-range small.size u at)

    found : (w : ℕ) → Contains images w
        → (u : ℕ) × Contains (range_with_len 0 small.size) u × (image_of images u ≡ w)
    found w (k, lt, at) = (k, Contains-range small.size k (rw (← count) lt), get_or_default images k 0 w lt ∙ at)

    both : (u x : ℕ) → u < length images → x < length images → image_of images u ≡ image_of images x
        → (u ≡ x) ⊎ ((u < x) ⊎ (x < u)) → u ≢ x → IsTrue (summary_at large (image_of images u))
    both u x lt other one (inl e) differ = absurd (differ e)
    both u x lt other one (inr (inl before)) differ =
        let P : ℕ → Type 0 = λ y. IsTrue (summary_at large y)
        in subst P (sym one) ((fits.pairs x u other before).several (sym one))
    both u x lt other one (inr (inr after)) differ = (fits.pairs u x lt after).several one

-- ---- to what fits

embeds-tuple : (small large : StructureForm) (images : List ℕ)
    → Embeds (image_of images) (structure_of small) (structure_of large) → (tuple : List ℕ)
    → All (Contains (range_with_len 0 small.size)) tuple → TupleFits small large tuple (map (image_of images) tuple)
embeds-tuple small large images e tuple all pred arity = e.values pred tt tuple all

pub FitsSoFar-embedding : (small large : StructureForm) (images : List ℕ) → IsEmbedding small large images
    → FitsSoFar small large images
FitsSoFar-embedding small large images (count, e) = record {
  nullary = embeds-tuple small large images e [] (All-nil (Contains (range_with_len 0 small.size)));
  within = λ u lt. below-range large.size (image_of images u) (e.into u (at u lt));
  candidates = λ u lt. record {
    summary = e.summaries u (at u lt);
    values = embeds-tuple small large images e (u ∷ []) (one u lt);
    loops = embeds-tuple small large images e (u ∷ u ∷ []) (two u u lt lt);
  };
  pairs = λ u x lt before. record {
    several = λ one. e.several u x (at u lt) (at x (omega arith)) (λ same. omega arith) one;
    forth = embeds-tuple small large images e (u ∷ x ∷ []) (two u x lt (omega arith));
    back = embeds-tuple small large images e (x ∷ u ∷ []) (two x u (omega arith) lt);
  };
}
  where
    at : (u : ℕ) → u < length images → Contains (range_with_len 0 small.size) u
    at u lt = Contains-range small.size u (rw (← count) lt)

    one : (u : ℕ) → u < length images → All (Contains (range_with_len 0 small.size)) (u ∷ [])
    one u lt =
        All-cons (Contains (range_with_len 0 small.size)) u [] (at u lt) (All-nil (Contains (range_with_len 0 small.size)))

    two : (u x : ℕ) → u < length images → x < length images → All (Contains (range_with_len 0 small.size)) (u ∷ x ∷ [])
    two u x lt other =
        All-cons (Contains (range_with_len 0 small.size)) u (x ∷ []) (at u lt) (one x other)

pub IsOnto-embedding : (small large : StructureForm) (images : List ℕ) → IsEmbedding small large images → IsOnto large images
IsOnto-embedding small large images (count, e) w lt = found (e.onto w (Contains-range large.size w lt))
  where
    found : (u : ℕ) × Contains (range_with_len 0 small.size) u × (image_of images u ≡ w) → Contains images w
    found (u, at, is) =
        let below : u < length images = rw count (below-range small.size u at)
        in (u, below, get_or_default images u w 0 below ∙ is)

-- ---- heaps

pub HeapsStay-embedding : (small large : StructureForm) (images : List ℕ) → IsEmbedding small large images → HeapsStay small large
HeapsStay-embedding small large images (count, e) h (f, below) =
    (λ u. image_of images (f u), EmbedsOn-compose (λ pred. Unit {0}) f (image_of images) (heap_structure h) (structure_of small) (structure_of large) below e)

-- ---- identity

image-own : (n u : ℕ) → u < n → image_of (range_with_len 0 n) u ≡ u
image-own n u lt = get_or-range_with_len 0 n u 0 lt ∙ omega arith

images-own : (n : ℕ) (tuple : List ℕ) → All (Contains (range_with_len 0 n)) tuple → map (image_of (range_with_len 0 n)) tuple ≡ tuple
images-own n [] all = refl
images-own n (u ∷ us) all =
    let head : image_of (range_with_len 0 n) u ≡ u
    = image-own n u (below-range n u (All-head (Contains (range_with_len 0 n)) u us all))
    in let tail : map (image_of (range_with_len 0 n)) us ≡ us = images-own n us (All-tail (Contains (range_with_len 0 n)) u us all)
    in λ i. head i ∷ tail i

pub identity_embeds : StructuresEmbedInThemselves
identity_embeds s = (
  length-range_with_len 0 s.size,
  record {
    into = λ u at. let P : ℕ → Type 0 = λ x. Contains (range_with_len 0 s.size) x in subst P (sym (own u at)) at;
    onto = λ w at. (w, at, own w at);
    values = λ pred p tuple all. inl (ap (value_at s pred) (sym (images-own s.size tuple all)));
    summaries = λ u at summary. let P : ℕ → Type 0 = λ x. IsTrue (summary_at s x) in subst P (sym (own u at)) summary;
    several = λ u w at other differ one. absurd (differ (sym (own u at) ∙ one ∙ own w other));
  },
)
  where
    own : (u : ℕ) → Contains (range_with_len 0 s.size) u → image_of (range_with_len 0 s.size) u ≡ u
    own u at = image-own s.size u (below-range s.size u at)
