-- A report is owed one list of maps, and has one verdict.
use Rattle.std.proofs.Common.{◌≡◌, ◌<◌, ◌≤◌, ◌⊎◌, ℕ, true, List, [], ◌∷◌, Option, None, Some, IsTrue, inl}
use Rattle.std.proofs.Common.{inr, sym}
use Rattle.std.proofs.Common.{ap, subst, ◌∙◌, arith, Less, Equal, Greater}
use Rattle.std.specs.Prelude.{Contains, slice_get}
use Rattle.std.specs.Cmp.Lexicographic.{slice_cmp}
use Rattle.std.specs.declared.cmp.Ordering.{Ordering}
use Rattle.std.specs.Ordering.{is_eq, is_le, nat_cmp, ordering_reverse}
use Rattle.std.proofs.lemmas.Bool.{cases_lt, false≢true}
use Rattle.std.proofs.lemmas.Cmp.{nat_list_cmp_total}
use Rattle.std.proofs.lemmas.List.Elements.{All-contains}
use Rattle.std.proofs.lemmas.Map.Text.{is_eq-slice_cmp}
use Rattle.std.proofs.lemmas.Option.{same_Some}
use Rattle.tv_model.proofs.Ordered.{ordered_same}
use Rattle.tv_cover.specs.Covers.{IsFirstCover}
use Rattle.tv_embed.specs.Maps.{IsLeastEmbedding, image_of}
use Rattle.tv_judge.specs.Judged.{AreMapsOf, Case, Covering, IsBefore, IsMapBy, IsMapLine, IsThere}
use Rattle.tv_judge.specs.Judged.{StandsBefore}
use Rattle.tv_judge.specs.Items.{own_line}
use Rattle.tv_judge.specs.declared.verdict.Verdict.TheVariants.{Accepted, Rejected}
use Rattle.tv_lemmas.proofs.Texts.{same_text}
use Rattle.tv_listing.specs.ListingForm.{at_node}
use Rattle.tv_listing.specs.declared.analysis.Item.{Item}
use Rattle.tv_listing.specs.declared.analysis.Item.TheVariants as item
use Rattle.tv_listing.specs.declared.analysis.MapLine.{MapLine}
use Rattle.tv_model.specs.Valid.{IsValid}
use Rattle.tv_model.specs.declared.program.Edge.{Edge}
use Rattle.tv_step_laws.specs.Laws.{StepsAreExact}
use Rattle.tv_step_laws.specs.Transfer.{AreResults, IsOpening}
use Rattle.tv_structure_form.specs.StructureForm.{StructureForm}
use Rattle.tv_top.proofs.Demands.{closed_unrejected, one_rejection}
use Rattle.tv_top.specs.Laws.{VerdictsAreOne}

-- ---- one map

-- lists of which neither comes behind the other are one
neither_behind : (o p : Ordering) → o ≡ ordering_reverse p → IsTrue (is_le o) → IsTrue (is_le p) → is_eq o ≡ true
neither_behind o Less e one two = absurd (false≢true (subst (λ r. IsTrue (is_le r)) e one))
neither_behind o Equal e one two = ap is_eq e
neither_behind o Greater e one two = absurd (false≢true two)

one_least : (s large : StructureForm) (xs ys : List ℕ) → IsLeastEmbedding s large xs → IsLeastEmbedding s large ys → xs ≡ ys
one_least s large xs ys h k = same_text xs ys (sym (is_eq-slice_cmp xs ys)
    ∙ neither_behind (slice_cmp nat_cmp xs ys) (slice_cmp nat_cmp ys xs) (nat_list_cmp_total.antisymm xs ys) (h.1 ys k.0) (k.1 xs h.0))

one_cover : (targets : List StructureForm) (s : StructureForm) (place other : ℕ) (xs ys : List ℕ) → IsFirstCover targets s place xs
    → IsFirstCover targets s other ys → (place ≡ other) × (xs ≡ ys)
one_cover targets s place other xs ys h k = by (cases_lt place other) (cases_lt other place)
  where
    by : (place < other) ⊎ (other ≤ place) → (other < place) ⊎ (place ≤ other) → (place ≡ other) × (xs ≡ ys)
    by (inl lt) later = absurd (k.first place h.large lt h.listed (image_of xs, h.least.0.1))
    by (inr le) (inl lt) = absurd (h.first other k.large lt k.listed (image_of ys, k.least.0.1))
    by (inr le) (inr ge) =
        let same : place ≡ other = omega (arith, le, ge) in
        let large : h.large ≡ k.large
        = same_Some h.large k.large (sym h.listed ∙ ap (slice_get targets) same ∙ k.listed) in
        (same, one_least s h.large xs ys h.least (subst (λ t. IsLeastEmbedding s t ys) (sym large) k.least))

-- ---- one line for an item

one_line : (own : Option MapLine) (targets : List StructureForm) (s : StructureForm) (l m : MapLine) → l.item ≡ m.item
    → IsMapBy own targets s l → IsMapBy own targets s m → l ≡ m
one_line (Some own) targets s l m e h k = h ∙ sym k
one_line None targets s l m e h k =
    let cover = one_cover targets s l.target m.target l.map m.map h k in
    λ i. record { item = e i; target = cover.0 i; map = cover.1 i }

-- the order of demands goes one way
one_way : (xs ys : List ℕ) → StandsBefore xs ys → StandsBefore ys xs → ⊥
one_way xs [] h k = h
one_way [] (y ∷ ys) h k = k
one_way (x ∷ xs) (y ∷ ys) h k = by (one_way xs ys) h k
  where
    by : (StandsBefore xs ys → StandsBefore ys xs → ⊥) → (x < y) ⊎ ((x ≡ y) × StandsBefore xs ys)
        → (y < x) ⊎ ((y ≡ x) × StandsBefore ys xs) → ⊥
    by on (inl a) (inl b) = omega (arith, a, b)
    by on (inl a) (inr b) = omega (arith, a, b.0)
    by on (inr a) (inl b) = omega (arith, a.0, b)
    by on (inr a) (inr b) = on a.1 b.1

module _ (exact : StepsAreExact) (c : Case) (valid : IsValid c.program) where
  -- an item has one structure, and the same targets
  one_item : (i : Item) (s t : StructureForm) (ss ts : List StructureForm) → IsThere c i s ss → IsThere c i t ts
      → (s ≡ t) × (ss ≡ ts)
  one_item (item.Initial number) s t ss ts h k =
      let first : h.first ≡ k.first = same_Some h.first k.first (sym h.is_initial ∙ k.is_initial) in (
        (exact c.program valid h.first).openings s t h.opening (subst (λ x. IsOpening c.program x t) (sym first) k.opening),
        h.targets_are ∙ sym k.targets_are,
      )
  one_item (item.Result edge structure result) s t ss ts h k =
      let taken : h.taken ≡ k.taken = same_Some h.taken k.taken (sym h.source.is_edge ∙ k.source.is_edge) in
      let from : h.from ≡ k.from = same_Some h.from k.from (sym h.source.listed
      ∙ ap (λ (e : Edge). slice_get (at_node c.analysis.listing e.from) structure) taken ∙ k.source.listed) in
      let results : h.results ≡ k.results = (exact c.program valid h.from).results c.mode edge h.results k.results h.are_results
      (subst (λ x. AreResults c.program c.mode edge x k.results) (sym from) k.are_results) in (
        same_Some s t (sym h.is_result ∙ ap (λ rs. slice_get rs result) results ∙ k.is_result),
        h.targets_are ∙ ap (λ (e : Edge). at_node c.analysis.listing e.to) taken ∙ sym k.targets_are,
      )

  same_line : (l m : MapLine) → IsMapLine c l → IsMapLine c m → l.item ≡ m.item → l ≡ m
  same_line l m h k e =
      let same = one_item l.item h.s k.s h.targets k.targets h.there (subst (λ i. IsThere c i k.s k.targets) (sym e) k.there) in
      one_line (own_line c.analysis.maps l.item) h.targets h.s l m e h.map
      (subst (λ i. IsMapBy (own_line c.analysis.maps i) h.targets h.s m) (sym e)
      (subst (λ ts. IsMapBy (own_line c.analysis.maps m.item) ts h.s m) (sym same.1)
      (subst (λ s. IsMapBy (own_line c.analysis.maps m.item) k.targets s m) (sym same.0) k.map)))

  also : (xs ys : List MapLine) → AreMapsOf c xs → AreMapsOf c ys → (line : MapLine) → Contains xs line → Contains ys line
  also xs ys h k line there =
      let is = All-contains (IsMapLine c) xs line h.only there in
      let other = k.each line.item is.s is.targets is.there in
      subst (Contains ys)
      (same_line other.0 line (All-contains (IsMapLine c) ys other.0 k.only other.1) is other.2) other.1

  pub one_maps : (xs ys : List MapLine) → AreMapsOf c xs → AreMapsOf c ys → xs ≡ ys
  one_maps xs ys h k = ordered_same (λ (a b : MapLine). IsBefore (Covering a.item) (Covering b.item))
      (λ a b before behind. one_way _ _ before behind) xs ys h.ordered k.ordered (also xs ys h k) (also ys xs k h)

pub one_verdict : StepsAreExact → VerdictsAreOne
one_verdict exact c valid (Accepted xs) (Accepted ys) h k = ap Accepted (one_maps exact c valid xs ys h.2 k.2)
one_verdict exact c valid (Accepted xs) (Rejected r) h k = absurd (closed_unrejected c r h.0 k)
one_verdict exact c valid (Rejected r) (Accepted ys) h k = absurd (closed_unrejected c r k.0 h)
one_verdict exact c valid (Rejected r) (Rejected s) h k = ap Rejected (one_rejection c r s h k)
