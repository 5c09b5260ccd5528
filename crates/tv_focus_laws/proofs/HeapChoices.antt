-- Each heap of a structure picks a choice: the set of an individual has the vectors of the cells that it
-- stands for.
use Rattle.std.proofs.Common.{ℕ, ◌≡◌, ◌≢◌, ◌<◌, ◌≤◌, ◌+◌, zero, suc, Bool, true, false, cond, eqb, List, []}
use Rattle.std.proofs.Common.{◌∷◌, ◌++◌, ◌⊎◌, inl, inr, ⊎_elim, length, get_or, map, refl, sym, ap, subst}
use Rattle.std.proofs.Common.{◌∙◌, arith, All, Contains, IsTrue, eq-eqb}
use Rattle.std.specs.Prelude.{AllPairs, Any, ◌&&◌}
use Rattle.std.specs.List.{filter, list_any}
use Rattle.std.proofs.lemmas.Bool.{cases_Bool, cases_eq, false≢true, eqb-true, and_parts, and_from}
use Rattle.std.proofs.lemmas.List.Elements.{All-head, All-tail, All-cons, All-nil, All-map, Contains-get_or}
use Rattle.std.proofs.lemmas.List.Folds.{Any-from_list_any, list_any-from_Any}
use Rattle.tv_kleene.specs.declared.K3.{K3}
use Rattle.tv_kleene.specs.declared.K3.TheVariants.{No, Half, Yes}
use Rattle.tv_model.specs.Heap.{Heap}
use Rattle.tv_model.proofs.Lists.{map-compose}
use Rattle.tv_embedding_laws.specs.LogicalStructure.{LogicalStructure, heap_structure, holds}
use Rattle.tv_embedding_laws.specs.Embedding.{Embeds, IsHeapOf}
use Rattle.tv_focus_laws.specs.Choices.{AimForm, Alone, Before, Behind, aimed, vectors, picks, sets_of}
use Rattle.tv_focus_laws.specs.Choices.{choices, chosen, MemberForm, members, member_at, nobody}
use Rattle.tv_focus_laws.specs.Laws.{IsAnchor, AreAnchors, IsHeapOfChoice, FocusLosesNoHeap}
use Rattle.tv_focus_laws.proofs.Membership.{Contains-filter, Contains-from_filter, length-filter_le}
use Rattle.tv_focus_laws.proofs.Membership.{some-from_Contains}
use Rattle.tv_focus_laws.proofs.Distinct.{Distinct, Distinct-from_pairs, Distinct-filter, Distinct-one}
use Rattle.tv_focus_laws.proofs.Distinct.{Distinct-place}
use Rattle.tv_focus_laws.proofs.Listed.{IsVectorOf, vectors-have, vectors-distinct, picks-filter}
use Rattle.tv_focus_laws.proofs.Listed.{picks_to-has, product-has}
use Rattle.tv_focus_laws.proofs.Places.{same_vector, vector-same, vector-own, place_of, IsPlace, place-found}
use Rattle.tv_focus_laws.proofs.Places.{members-have, IsMember, members-are, members-distinct}
use Rattle.tv_focus_laws.proofs.Embedded.{above, aimed-above, vector_of, member_of, AreAlone, Places}
use Rattle.tv_focus_laws.proofs.Embedded.{chosen-embeds}

-- ---- the anchors' cells

-- a is a cell of its own
abbrev pub IsSole : (ℕ → ℕ) → LogicalStructure → ℕ → Type 0
IsSole f r a = (w : ℕ) → Contains r.individuals w → f a ≡ f w → a ≡ w

pub record AnchorsBelow (f : ℕ → ℕ) (r : LogicalStructure) (anchors : List ℕ) : Type 0 where
  pub below : List ℕ
  pub goes : map f below ≡ anchors
  pub inside : All (Contains r.individuals) below
  pub sole : All (IsSole f r) below

sole-cell : (f : ℕ → ℕ) (r s : LogicalStructure) → Embeds f r s → (a u : ℕ) → s.is_summary a ≡ false → f u ≡ a
    → Contains r.individuals u → IsSole f r u
sole-cell f r s e a u plain goes at w hw same =
    ⊎_elim (λ is. is)
    (λ ne. let Summary : ℕ → Type 0 = λ z. IsTrue (s.is_summary z)
    in absurd (false≢true (sym plain ∙ subst Summary goes (e.several u w at hw ne same))))
    (cases_eq u w)

anchors-below : (f : ℕ → ℕ) (r s : LogicalStructure) → Embeds f r s → (anchors : List ℕ) → All (IsAnchor s) anchors
    → AnchorsBelow f r anchors
anchors-below f r s e [] all = record { below = []; goes = refl; inside = All-nil (Contains r.individuals); sole = All-nil (IsSole f r) }
anchors-below f r s e (a ∷ anchors) all =
    let rest : AnchorsBelow f r anchors = anchors-below f r s e anchors (All-tail (IsAnchor s) a anchors all)
    in let is : IsAnchor s a = All-head (IsAnchor s) a anchors all
    in let cell : (u : ℕ) × Contains r.individuals u × (f u ≡ a) = e.onto a is.0
    in record {
      below = cell.0 ∷ rest.below;
      goes = ap (λ x. x ∷ map f rest.below) cell.2 ∙ ap (λ xs. a ∷ xs) rest.goes;
      inside = All-cons (Contains r.individuals) cell.0 rest.below cell.1 rest.inside;
      sole = All-cons (IsSole f r) cell.0 rest.below (sole-cell f r s e a cell.0 is.1 cell.2 cell.1) rest.sole;
    }

pub record AimBelow (f : ℕ → ℕ) (r : LogicalStructure) (aim : AimForm) : Type 0 where
  pub below : AimForm
  pub goes : above f below ≡ aim
  pub inside : (u : ℕ) → Contains r.individuals u → All (All (Contains r.individuals)) (aimed below u)
  pub sole : AreAlone f r below

aim-below : (f : ℕ → ℕ) (r s : LogicalStructure) → Embeds f r s → (aim : AimForm) → AreAnchors s aim → AimBelow f r aim
aim-below f r s e Alone are = record {
  below = Alone;
  goes = refl;
  inside = λ u at. All-cons (All (Contains r.individuals)) (u ∷ []) []
      (All-cons (Contains r.individuals) u [] at (All-nil (Contains r.individuals))) (All-nil (All (Contains r.individuals)));
  sole = tt;
}
aim-below f r s e (Before anchors) are =
    let b : AnchorsBelow f r anchors = anchors-below f r s e anchors are
    in record {
      below = Before b.below;
      goes = ap Before b.goes;
      inside = λ u at. All-map (All (Contains r.individuals)) (λ a. u ∷ a ∷ []) b.below
          (λ k d lt. All-cons (Contains r.individuals) u (get_or b.below k d ∷ []) at
          (All-cons (Contains r.individuals) (get_or b.below k d) [] (b.inside k d lt) (All-nil (Contains r.individuals))));
      sole = b.sole;
    }
aim-below f r s e (Behind anchors) are =
    let b : AnchorsBelow f r anchors = anchors-below f r s e anchors are
    in record {
      below = Behind b.below;
      goes = ap Behind b.goes;
      inside = λ u at. All-map (All (Contains r.individuals)) (λ a. a ∷ u ∷ []) b.below
          (λ k d lt. All-cons (Contains r.individuals) (get_or b.below k d) (u ∷ []) (b.inside k d lt)
          (All-cons (Contains r.individuals) u [] at (All-nil (Contains r.individuals))));
      sole = b.sole;
    }

-- ---- the heap's set of an individual

pub heap-definite : (h : Heap) (pred : ℕ) (tuple : List ℕ) → (heap_structure h).value pred tuple ≢ Half
heap-definite h pred tuple = go (holds h pred tuple)
  where
    go : (b : Bool) → cond b Yes No ≢ Half
    go true e = cc
    go false e = cc

-- whether some cell of the individual has this vector
abbrev pub has_vector : (ℕ → ℕ) → LogicalStructure → (pred : ℕ) → AimForm → ℕ → List K3 → Bool
has_vector f r pred aim x v = list_any (λ u. eqb (f u) x && same_vector (vector_of r pred aim u) v) r.individuals

abbrev pub values_at : LogicalStructure → (pred : ℕ) → AimForm → ℕ → List K3
values_at s pred aim x = map (s.value pred) (aimed aim x)

abbrev pub set_of : (ℕ → ℕ) → (r s : LogicalStructure) → (pred : ℕ) → AimForm → ℕ → List (List K3)
set_of f r s pred aim x = filter (has_vector f r pred aim x) (vectors (values_at s pred (above f aim) x))

-- a cell of the individual with this vector
pub record HasCell (f : ℕ → ℕ) (r : LogicalStructure) (pred : ℕ) (aim : AimForm) (x : ℕ) (v : List K3) : Type 0 where
  pub cell : ℕ
  pub at : Contains r.individuals cell
  pub goes : f cell ≡ x
  pub is : vector_of r pred aim cell ≡ v

vector-listed : (f : ℕ → ℕ) (h : Heap) (s : LogicalStructure) → Embeds f (heap_structure h) s → (pred : ℕ) (aim : AimForm) (u : ℕ)
    → All (All (Contains h.individuals)) (aimed aim u)
    → Contains (vectors (values_at s pred (above f aim) (f u))) (vector_of (heap_structure h) pred aim u)
vector-listed f h s e pred aim u inside =
    let At : List K3 → Type 0 = λ ks. Contains (vectors ks) (vector_of (heap_structure h) pred aim u)
    in let same : values_at s pred (above f aim) (f u) ≡ map (λ t. s.value pred (map f t)) (aimed aim u)
    = ap (map (s.value pred)) (aimed-above f aim u) ∙ map-compose (map f) (s.value pred) (aimed aim u)
    in subst At (sym same)
    (vectors-have ((heap_structure h).value pred) (λ t. s.value pred (map f t)) (aimed aim u)
    (λ k d lt. (heap-definite h pred (get_or (aimed aim u) k d), e.values pred tt (get_or (aimed aim u) k d) (inside k d lt))))

set-has : (f : ℕ → ℕ) (h : Heap) (s : LogicalStructure) → Embeds f (heap_structure h) s → (pred : ℕ) (aim : AimForm) (u : ℕ)
    → All (All (Contains h.individuals)) (aimed aim u) → Contains h.individuals u
    → Contains (set_of f (heap_structure h) s pred aim (f u)) (vector_of (heap_structure h) pred aim u)
set-has f h s e pred aim u inside at =
    Contains-filter (has_vector f (heap_structure h) pred aim (f u)) (vector_of (heap_structure h) pred aim u)
    (vectors (values_at s pred (above f aim) (f u)))
    (vector-listed f h s e pred aim u inside)
    (list_any-from_Any
    (λ w. eqb (f w) (f u) && same_vector (vector_of (heap_structure h) pred aim w) (vector_of (heap_structure h) pred aim u))
    h.individuals (
      at.0,
      u,
      at.1,
      at.2,
      and_from (eqb (f u) (f u)) (same_vector (vector_of (heap_structure h) pred aim u) (vector_of (heap_structure h) pred aim u))
          (eq-eqb (f u) (f u) refl) (vector-own (vector_of (heap_structure h) pred aim u)),
    ))

set-from : (f : ℕ → ℕ) (r s : LogicalStructure) (pred : ℕ) (aim : AimForm) (x : ℕ) (v : List K3)
    → Contains (set_of f r s pred aim x) v → HasCell f r pred aim x v
set-from f r s pred aim x v has =
    let test : ℕ → Bool = λ u. eqb (f u) x && same_vector (vector_of r pred aim u) v
    in let kept : Contains (vectors (values_at s pred (above f aim) x)) v × (has_vector f r pred aim x v ≡ true)
    = Contains-from_filter (has_vector f r pred aim x) v (vectors (values_at s pred (above f aim) x)) has
    in let hit : Any (λ u. test u ≡ true) r.individuals = Any-from_list_any test r.individuals kept.1
    in let parts : (eqb (f hit.1) x ≡ true) × (same_vector (vector_of r pred aim hit.1) v ≡ true)
    = and_parts (eqb (f hit.1) x) (same_vector (vector_of r pred aim hit.1) v) hit.4
    in record {
      cell = hit.1;
      at = (hit.0, hit.2, hit.3);
      goes = eqb-true (f hit.1) x parts.0;
      is = vector-same (vector_of r pred aim hit.1) v parts.1;
    }

set-distinct : (f : ℕ → ℕ) (r s : LogicalStructure) (pred : ℕ) (aim : AimForm) (x : ℕ) → Distinct (set_of f r s pred aim x)
set-distinct f r s pred aim x =
    Distinct-filter (has_vector f r pred aim x) (vectors (values_at s pred (above f aim) x))
    (vectors-distinct (values_at s pred (above f aim) x))

-- an individual that is no summary has one cell, and so one vector
set-one : (f : ℕ → ℕ) (r s : LogicalStructure) → Embeds f r s → (pred : ℕ) (aim : AimForm) (x : ℕ) → s.is_summary x ≡ false
    → length (set_of f r s pred aim x) ≤ 1
set-one f r s e pred aim x plain = Distinct-one (set_of f r s pred aim x) (set-distinct f r s pred aim x) same
  where
    same : (v w : List K3) → Contains (set_of f r s pred aim x) v → Contains (set_of f r s pred aim x) w → v ≡ w
    same v w hv hw =
        let a : HasCell f r pred aim x v = set-from f r s pred aim x v hv
        in let b : HasCell f r pred aim x w = set-from f r s pred aim x w hw
        in let one : a.cell ≡ b.cell = sole-cell f r s e x a.cell plain a.goes a.at b.cell b.at (a.goes ∙ sym b.goes)
        in sym a.is ∙ ap (vector_of r pred aim) one ∙ b.is

set-listed : (f : ℕ → ℕ) (h : Heap) (s : LogicalStructure) → Embeds f (heap_structure h) s → (pred : ℕ) (aim : AimForm)
    → ((u : ℕ) → Contains h.individuals u → All (All (Contains h.individuals)) (aimed aim u))
    → (x : ℕ) → Contains s.individuals x
    → Contains (sets_of (s.is_summary x) (values_at s pred (above f aim) x)) (set_of f (heap_structure h) s pred aim x)
set-listed f h s e pred aim inside x at = go (s.is_summary x) refl
  where
    r : LogicalStructure
    r = heap_structure h

    some : 1 ≤ length (set_of f r s pred aim x)
    some =
        let cell : (u : ℕ) × Contains h.individuals u × (f u ≡ x) = e.onto x at
        in let Some : ℕ → Type 0 = λ y. 1 ≤ length (set_of f r s pred aim y)
        in subst Some cell.2 (some-from_Contains (vector_of r pred aim cell.0) (set_of f r s pred aim (f cell.0))
        (set-has f h s e pred aim cell.0 (inside cell.0 cell.1) cell.1))

    few : length (set_of f r s pred aim x) ≤ length (vectors (values_at s pred (above f aim) x))
    few = length-filter_le (has_vector f r pred aim x) (vectors (values_at s pred (above f aim) x))

    picked : (n : ℕ) → length (set_of f r s pred aim x) ≡ n
        → Contains (picks n (vectors (values_at s pred (above f aim) x))) (set_of f r s pred aim x)
    picked n is = picks-filter (has_vector f r pred aim x) (vectors (values_at s pred (above f aim) x)) n is

    Listed : Bool → Type 0
    Listed b = Contains (sets_of b (values_at s pred (above f aim) x)) (set_of f r s pred aim x)

    go : (b : Bool) → s.is_summary x ≡ b → Listed (s.is_summary x)
    go true is =
        subst Listed (sym is)
        (picks_to-has (length (set_of f r s pred aim x)) (length (vectors (values_at s pred (above f aim) x)))
        (vectors (values_at s pred (above f aim) x)) (set_of f r s pred aim x) some few
        (picked (length (set_of f r s pred aim x)) refl))
    go false is =
        let one : length (set_of f r s pred aim x) ≤ 1 = set-one f r s e pred aim x is
        in subst Listed (sym is) (picked 1 (omega (arith, some, one)))

-- ---- the law

-- the copies of the heap's choice
abbrev pub copies_of : (ℕ → ℕ) → (r s : LogicalStructure) → (pred : ℕ) → AimForm → List MemberForm
copies_of f r s pred aim = members s.individuals (map (set_of f r s pred aim) s.individuals)

heap-places : (f : ℕ → ℕ) (h : Heap) (s : LogicalStructure) → Embeds f (heap_structure h) s → (pred : ℕ) (aim : AimForm)
    → AllPairs ◌≢◌ s.individuals
    → ((u : ℕ) → Contains h.individuals u → All (All (Contains h.individuals)) (aimed aim u))
    → Places (heap_structure h) (member_of f (heap_structure h) pred aim) (copies_of f (heap_structure h) s pred aim)
    (λ u. place_of (member_of f (heap_structure h) pred aim u) (copies_of f (heap_structure h) s pred aim))
heap-places f h s e pred aim differ inside = record {
  inside = λ u at. (found u at).inside;
  is = λ u at. (found u at).is;
  onto = back;
}
  where
    r : LogicalStructure
    r = heap_structure h

    set : ℕ → List (List K3)
    set = set_of f r s pred aim

    ms : List MemberForm
    ms = copies_of f r s pred aim

    place : ℕ → ℕ
    place u = place_of (member_of f r pred aim u) ms

    found : (u : ℕ) → Contains h.individuals u → IsPlace (member_of f r pred aim u) ms (place u) nobody
    found u at =
        place-found (member_of f r pred aim u) ms nobody
        (members-have set s.individuals (f u) (vector_of r pred aim u) (e.into u at)
        (set-has f h s e pred aim u (inside u at) at))

    distinct : Distinct ms
    distinct =
        members-distinct set s.individuals (Distinct-from_pairs s.individuals differ)
        (λ x. set-distinct f r s pred aim x)

    back : (i : ℕ) → i < length ms → (u : ℕ) × Contains h.individuals u × (place u ≡ i)
    back i below =
        let m : IsMember set s.individuals (member_at ms i)
        = members-are set s.individuals (member_at ms i) (Contains-get_or ms i nobody below)
        in let c : HasCell f r pred aim (member_at ms i).origin (member_at ms i).vector
        = set-from f r s pred aim (member_at ms i).origin (member_at ms i).vector m.chosen
        in let same : member_of f r pred aim c.cell ≡ member_at ms i
        = ap (λ (u : ℕ). record { origin = u; vector = vector_of r pred aim c.cell }) c.goes
        ∙ ap (λ (v : List K3). record { origin = (member_at ms i).origin; vector = v }) c.is
        in let p : IsPlace (member_of f r pred aim c.cell) ms (place c.cell) nobody = found c.cell c.at
        in (c.cell, c.at, Distinct-place ms (place c.cell) i nobody distinct p.inside below (p.is ∙ same))

picks_choice : (f : ℕ → ℕ) (h : Heap) (s : LogicalStructure) → Embeds f (heap_structure h) s → (pred : ℕ)
    → AllPairs ◌≢◌ s.individuals → (aim : AimForm) → AimBelow f (heap_structure h) aim → IsHeapOfChoice h s pred aim
picks_choice f h s e pred differ aim b =
    let Of : AimForm → Type 0 = λ a. IsHeapOfChoice h s pred a
    in let r : LogicalStructure = heap_structure h
    in let set : ℕ → List (List K3) = set_of f r s pred b.below
    in let all : ℕ → List (List (List K3)) = λ x. sets_of (s.is_summary x) (values_at s pred (above f b.below) x)
    in subst Of b.goes (
      map set s.individuals,
      product-has all set s.individuals
          (λ k d lt. set-listed f h s e pred b.below b.inside (get_or s.individuals k d) (Contains-get_or s.individuals k d lt)),
      (
        λ u. place_of (member_of f r pred b.below u) (copies_of f r s pred b.below),
        chosen-embeds f h s e pred b.below b.sole (copies_of f r s pred b.below)
            (λ u. place_of (member_of f r pred b.below u) (copies_of f r s pred b.below))
            (heap-places f h s e pred b.below differ b.inside),
      ),
    )

pub focus_loses_no_heap : FocusLosesNoHeap
focus_loses_no_heap h s pred aim differ are (f, e) =
    picks_choice f h s e pred differ aim (aim-below f (heap_structure h) s e aim are)
