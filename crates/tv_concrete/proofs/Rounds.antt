-- A concrete heap for each choice of core predicates: definitions are evaluated again and again.
use Rattle.std.proofs.Common.{ℕ, ◌≡◌, ◌<◌, ◌+◌, ◌⊎◌, ◌↔◌, ◌∙◌, List, [], ◌∷◌, length, filter, max, Some, None}
use Rattle.std.proofs.Common.{unwrap_or, slice_get, inl, inr, ⊎_elim, refl, sym, ap, subst, All, Contains}
use Rattle.std.proofs.Common.{Bool, true, false, arith, zero, suc}
use Rattle.std.proofs.lemmas.Bool.{cases_lt, false≢true}
use Rattle.tv_model.specs.Form.{Form, Mentions}
use Rattle.tv_model.specs.Heap.{Heap, Holds, IsTuple, extent}
use Rattle.tv_model.specs.Program.{ProgramForm, PredForm, KindForm, KCore, KDefined}
use Rattle.tv_model.specs.Rules.{IsHeap, IsConcrete, MeetsDefinition, blank}
use Rattle.tv_model.specs.Truth.{Truth, put_all}
use Rattle.tv_model.specs.Valid.{IsValid, IsRank}
use Rattle.tv_model.proofs.Programs.{pred-cases, holds-nothing, kind-cases}
use Rattle.tv_model.proofs.Lists.{slice_get-past, Contains-filter, Contains-filter_back, All-from_contains}
use Rattle.tv_model.specs.Laws.{HeapsLookAlike}
use Rattle.tv_model.proofs.Decided.{IsDecided}
use Rattle.tv_model.proofs.Truths.{Truth-local}
use Rattle.tv_concrete.specs.Laws.{SameCore}
use Rattle.tv_concrete.specs.Tuples.{tuples_of}
use Rattle.tv_concrete.proofs.Decided.{Truth-decided}
use Rattle.tv_concrete.proofs.TupleLists.{tuple-fits, tuple-found}

-- whether a decided fact holds
abbrev pub answer_of : (P : Type 0) → IsDecided P → Bool
answer_of P (inl t) = true
answer_of P (inr n) = false

answer-right : (P : Type 0) (d : IsDecided P) → answer_of P d ≡ true → P
answer-right P (inl t) e = t
answer-right P (inr n) e = absurd (false≢true e)

answer-given : (P : Type 0) (d : IsDecided P) → P → answer_of P d ≡ true
answer-given P (inl t) p = refl
answer-given P (inr n) p = absurd (n p)

-- the tuples of a predicate after one evaluation of the definitions
abbrev pub extent_by : Heap → ℕ → (arity : ℕ) → KindForm → List (List ℕ)
extent_by h q n KCore = extent h q
extent_by h q n (KDefined vars body) =
    filter (λ us. answer_of (Truth h (put_all blank vars us) body) (Truth-decided h (put_all blank vars us) body))
    (tuples_of h.individuals n)

abbrev pub new_extents : Heap → ℕ → List PredForm → List (List (List ℕ))
new_extents h q [] = []
new_extents h q (d ∷ preds) = extent_by h q d.arity d.kind ∷ new_extents h (suc q) preds

abbrev pub refresh : ProgramForm → Heap → Heap
refresh p h = record { individuals = h.individuals; extents = new_extents h 0 p.preds; fresh = h.fresh }

length-new_extents : (h : Heap) (q : ℕ) (preds : List PredForm) → length (new_extents h q preds) ≡ length preds
length-new_extents h q [] = refl
length-new_extents h q (d ∷ preds) = ap suc (length-new_extents h (suc q) preds)

new_extents-at : (h : Heap) (q : ℕ) (preds : List PredForm) (k : ℕ) (d : PredForm) → slice_get preds k ≡ Some d
    → slice_get (new_extents h q preds) k ≡ Some (extent_by h (q + k) d.arity d.kind)
new_extents-at h q [] k d found = absurd (cc found)
new_extents-at h q (e ∷ preds) zero d found =
    let same : e ≡ d = cc found
    in let place : q ≡ q + 0 = omega arith
    in ap (λ c. Some (extent_by h q c.arity c.kind)) same ∙ ap (λ n. Some (extent_by h n d.arity d.kind)) place
new_extents-at h q (e ∷ preds) (suc k) d found =
    let place : suc q + k ≡ q + suc k = omega arith
    in new_extents-at h (suc q) preds k d found ∙ ap (λ n. Some (extent_by h n d.arity d.kind)) place

pub extent-refreshed : (p : ProgramForm) (h : Heap) (q : ℕ) (d : PredForm) → slice_get p.preds q ≡ Some d
    → extent (refresh p h) q ≡ extent_by h q d.arity d.kind
extent-refreshed p h q d found =
    let place : 0 + q ≡ q = omega arith
    in ap (λ o. unwrap_or o []) (new_extents-at h 0 p.preds q d found) ∙ ap (λ n. extent_by h n d.arity d.kind) place

-- a core predicate stays as it was
pub refreshed-core : (p : ProgramForm) (h : Heap) (q : ℕ) (d : PredForm) → slice_get p.preds q ≡ Some d → d.kind ≡ KCore
    → extent (refresh p h) q ≡ extent h q
refreshed-core p h q d found core = extent-refreshed p h q d found ∙ ap (λ kind. extent_by h q d.arity kind) core

-- a defined predicate holds of the tuples of which its definition was true
pub refreshed-defined : (p : ProgramForm) (h : Heap) (q : ℕ) (d : PredForm) → slice_get p.preds q ≡ Some d
    → (vars : List ℕ) (body : Form) → d.kind ≡ KDefined vars body → (us : List ℕ)
    → Holds (refresh p h) q us ↔ (IsTuple h d.arity us × Truth h (put_all blank vars us) body)
refreshed-defined p h q d found vars body defined us =
    let test : List ℕ → Bool = λ ts. answer_of (Truth h (put_all blank vars ts) body)
    (Truth-decided h (put_all blank vars ts) body)
    in let is : extent (refresh p h) q ≡ filter test (tuples_of h.individuals d.arity) =
    extent-refreshed p h q d found ∙ ap (λ kind. extent_by h q d.arity kind) defined
    in let In : List (List ℕ) → Type 0 = λ ts. Contains ts us
    in (
      λ at.
          let kept : Contains (tuples_of h.individuals d.arity) us × (test us ≡ true) =
          Contains-filter_back test (tuples_of h.individuals d.arity) us (subst In is at)
          in (
            tuple-fits h.individuals d.arity us kept.0,
            answer-right (Truth h (put_all blank vars us) body)
                (Truth-decided h (put_all blank vars us) body) kept.1,
          ),
      λ both. subst In (sym is) (Contains-filter test (tuples_of h.individuals d.arity) us
          (tuple-found h.individuals d.arity us both.0.0 both.0.1)
          (answer-given (Truth h (put_all blank vars us) body) (Truth-decided h (put_all blank vars us) body) both.1)),
    )

pub refreshed-heap : (p : ProgramForm) (h : Heap) → IsHeap p h → IsHeap p (refresh p h)
refreshed-heap p h is = record {
  individuals_differ = is.individuals_differ;
  one_extent_each = length-new_extents h 0 p.preds;
  tuples_fit = λ q d found. by_kind q d found (kind-cases d.kind);
  no_mark = is.no_mark;
}
  where
    by_kind : (q : ℕ) (d : PredForm) → slice_get p.preds q ≡ Some d
        → (d.kind ≡ KCore) ⊎ ((vars : List ℕ) × (body : Form) × (d.kind ≡ KDefined vars body))
        → All (IsTuple h d.arity) (extent (refresh p h) q)
    by_kind q d found (inl core) =
        let Of : List (List ℕ) → Type 0 = λ ts. All (IsTuple h d.arity) ts
        in subst Of (sym (refreshed-core p h q d found core)) (is.tuples_fit q d found)
    by_kind q d found (inr defined) =
        All-from_contains (IsTuple h d.arity) (extent (refresh p h) q)
        (λ us at. ((refreshed-defined p h q d found defined.0 defined.1 defined.2 us).0 at).0)

abbrev pub rounds : ProgramForm → Heap → ℕ → Heap
rounds p h zero = h
rounds p h (suc n) = refresh p (rounds p h n)

pub rounds-heap : (p : ProgramForm) (h : Heap) → IsHeap p h → (n : ℕ) → IsHeap p (rounds p h n)
rounds-heap p h is zero = is
rounds-heap p h is (suc n) = refreshed-heap p (rounds p h n) (rounds-heap p h is n)

pub rounds-same : (p : ProgramForm) (h : Heap) (n : ℕ) → SameCore p h (rounds p h n)
rounds-same p h zero = record {
  individuals = λ u. (λ t. t, λ t. t);
  core = λ q d found core us. (λ t. t, λ t. t);
}
rounds-same p h (suc n) =
    let before : SameCore p h (rounds p h n) = rounds-same p h n
    in record {
      individuals = before.individuals;
      core = λ q d found core us.
          let is : extent (refresh p (rounds p h n)) q ≡ extent (rounds p h n) q = refreshed-core p
          (rounds p h n) q d found core
          in let In : List (List ℕ) → Type 0 = λ ts. Contains ts us
          in (
            λ t. subst In (sym is) ((before.core q d found core us).0 t),
            λ t. (before.core q d found core us).1
                (subst In is t),
          );
    }

-- one more round looks alike to a formula if the predicates that it mentions stay
next-alike : (p : ProgramForm) (h : Heap) (n : ℕ) (f : Form)
    → ((q : ℕ) → Mentions q f → (us : List ℕ) → Holds (rounds p h (suc n)) q us ↔ Holds (rounds p h n) q us)
    → HeapsLookAlike f (rounds p h (suc n)) (rounds p h n)
next-alike p h n f stays = record { individuals = λ u. (λ t. t, λ t. t); holds = stays; marks = λ named. refl }

-- after n rounds the predicates of rank below n stay
pub rounds-stable : (p : ProgramForm) (rank : ℕ → ℕ) → IsRank p rank → (h : Heap) → IsHeap p h → (n q : ℕ)
    → rank q < n → (us : List ℕ)
    → Holds (rounds p h (suc n)) q us ↔ Holds (rounds p h n) q us
rounds-stable p rank ranks h is zero q below us = absurd (omega (arith, below))
rounds-stable p rank ranks h is (suc n) q below us =
    ⊎_elim
    (λ at. by_kind (rounds-stable p rank ranks h is n) at.0 at.1 (kind-cases at.0.kind))
    (λ none. (
      λ t. absurd (holds-nothing p (rounds p h (suc (suc n))) (rounds-heap p h is (suc (suc n))) q us none t),
      λ t. absurd (holds-nothing p (rounds p h (suc n)) (rounds-heap p h is (suc n)) q us none t),
    ))
    (pred-cases p q)
  where
    by_kind : ((r : ℕ) → rank r < n → (ts : List ℕ) → Holds (rounds p h (suc n)) r ts ↔ Holds (rounds p h n) r ts)
        → (d : PredForm) → slice_get p.preds q ≡ Some d → (d.kind ≡ KCore)
        ⊎ ((vars : List ℕ) × (body : Form) × (d.kind ≡ KDefined vars body))
        → Holds (rounds p h (suc (suc n))) q us ↔ Holds (rounds p h (suc n)) q us
    by_kind earlier d found (inl core) =
        let is_one : extent (refresh p (rounds p h (suc n))) q ≡ extent (rounds p h (suc n)) q = refreshed-core p
        (rounds p h (suc n)) q d found core
        in let In : List (List ℕ) → Type 0 = λ ts. Contains ts us
        in (λ t. subst In is_one t, λ t. subst In (sym is_one) t)
    by_kind earlier d found (inr defined) =
        let later : Holds (rounds p h (suc (suc n))) q us
        ↔ (IsTuple (rounds p h (suc n)) d.arity us
        × Truth (rounds p h (suc n)) (put_all blank defined.0 us) defined.1) =
        refreshed-defined p (rounds p h (suc n)) q d found defined.0 defined.1 defined.2 us
        in let before : Holds (rounds p h (suc n)) q us
        ↔ (IsTuple (rounds p h n) d.arity us × Truth (rounds p h n) (put_all blank defined.0 us) defined.1) =
        refreshed-defined p (rounds p h n) q d found defined.0 defined.1 defined.2 us
        in let less : (r : ℕ) → Mentions r defined.1
        → rank r < n = λ r m. omega (arith, below, ranks.falls q d found defined.0 defined.1 defined.2 r m)
        in let same : Truth (rounds p h (suc n)) (put_all blank defined.0 us) defined.1
        ↔ Truth (rounds p h n) (put_all blank defined.0 us) defined.1 =
        Truth-local defined.1 (rounds p h (suc n)) (rounds p h n) (put_all blank defined.0 us)
        (put_all blank defined.0 us)
        (next-alike p h n defined.1 (λ r m ts. earlier r (less r m) ts)) (λ v m. refl)
        in (λ t. before.1 ((later.0 t).0, same.0 (later.0 t).1), λ t. later.1 ((before.0 t).0, same.1 (before.0 t).1))

-- above the ranks of the first n predicates
abbrev pub rank_bound : (ℕ → ℕ) → ℕ → ℕ
rank_bound rank zero = 0
rank_bound rank (suc n) = max (rank_bound rank n) (suc (rank n))

below-bound : (rank : ℕ → ℕ) (n q : ℕ) → q < n → rank q < rank_bound rank n
below-bound rank zero q below = absurd (omega (arith, below))
below-bound rank (suc n) q below =
    ⊎_elim
    (λ less. let ih : rank q < rank_bound rank n = below-bound rank n q less in omega (arith, ih))
    (λ above. let e : q ≡ n = omega (arith, below, above)
    in let Of : ℕ → Type 0 = λ r. rank r < max (rank_bound rank n) (suc (rank n)) in subst Of (sym e) (omega arith))
    (cases_lt q n)

pub concrete-exists : (p : ProgramForm) → IsValid p → (h : Heap) → IsHeap p h → (k : Heap) × IsHeap p k
    × IsConcrete p k × SameCore p h k
concrete-exists p valid h is = (
  rounds p h (suc (rank_bound valid.rank (length p.preds))),
  rounds-heap p h is (suc (rank_bound valid.rank (length p.preds))),
  λ q d found us fits. by_kind q d found us fits (kind-cases d.kind),
  rounds-same p h (suc (rank_bound valid.rank (length p.preds))),
)
  where
    stays : (r : ℕ) (us : List ℕ) → Holds (rounds p h (suc (rank_bound valid.rank (length p.preds)))) r us
        ↔ Holds (rounds p h (rank_bound valid.rank (length p.preds))) r us
    stays r us =
        ⊎_elim
        (λ less. rounds-stable p valid.rank valid.no_cycle h is (rank_bound valid.rank (length p.preds)) r
        (below-bound valid.rank (length p.preds) r less) us)
        (λ past.
        let none : slice_get p.preds r ≡ None = slice_get-past p.preds r past
        in (
          λ t. absurd (holds-nothing p (rounds p h (suc (rank_bound valid.rank (length p.preds))))
              (rounds-heap p h is (suc (rank_bound valid.rank (length p.preds)))) r us none t),
          λ t. absurd (holds-nothing p (rounds p h (rank_bound valid.rank (length p.preds)))
              (rounds-heap p h is (rank_bound valid.rank (length p.preds))) r us none t),
        ))
        (cases_lt r (length p.preds))

    by_kind : (q : ℕ) (d : PredForm) → slice_get p.preds q ≡ Some d → (us : List ℕ)
        → IsTuple (rounds p h (suc (rank_bound valid.rank (length p.preds)))) d.arity us
        → (d.kind ≡ KCore) ⊎ ((vars : List ℕ) × (body : Form) × (d.kind ≡ KDefined vars body))
        → MeetsDefinition (rounds p h (suc (rank_bound valid.rank (length p.preds)))) q d.kind us
    by_kind q d found us fits (inl core) =
        let Of : KindForm → Type 0 = λ kind. MeetsDefinition
        (rounds p h (suc (rank_bound valid.rank (length p.preds)))) q kind us
        in subst Of (sym core) tt
    by_kind q d found us fits (inr defined) =
        let n : ℕ = rank_bound valid.rank (length p.preds)
        in let Of : KindForm → Type 0 = λ kind. MeetsDefinition (rounds p h (suc n)) q kind us
        in let later : Holds (rounds p h (suc n)) q us
        ↔ (IsTuple (rounds p h n) d.arity us × Truth (rounds p h n) (put_all blank defined.0 us) defined.1) =
        refreshed-defined p (rounds p h n) q d found defined.0 defined.1 defined.2 us
        in let same : Truth (rounds p h (suc n)) (put_all blank defined.0 us) defined.1
        ↔ Truth (rounds p h n) (put_all blank defined.0 us) defined.1 =
        Truth-local defined.1 (rounds p h (suc n)) (rounds p h n) (put_all blank defined.0 us)
        (put_all blank defined.0 us)
        (next-alike p h n defined.1 (λ r m ts. stays r ts)) (λ v m. refl)
        in subst Of (sym defined.2) (λ t. same.1 (later.0 t).1, λ t. later.1 (fits, same.0 t))
