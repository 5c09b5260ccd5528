-- Each choice of core predicates has exactly one concrete heap.
use Rattle.std.proofs.Common.{ℕ, ◌≡◌, ◌<◌, ◌⊎◌, ◌↔◌, ◌∙◌, List, Some, slice_get, inl, inr, ⊎_elim, refl, sym}
use Rattle.std.proofs.Common.{subst, Contains, arith, zero, suc}
use Rattle.tv_model.specs.Form.{Form, Mentions}
use Rattle.tv_model.specs.Heap.{Heap, Holds, IsTuple}
use Rattle.tv_model.specs.Program.{ProgramForm, PredForm, KindForm, KCore, KDefined}
use Rattle.tv_model.specs.Rules.{IsHeap, IsConcrete, MeetsDefinition, blank}
use Rattle.tv_model.specs.Truth.{Truth, put_all}
use Rattle.tv_model.specs.Valid.{IsValid, IsRank}
use Rattle.tv_model.specs.Laws.{HeapsLookAlike}
use Rattle.tv_model.proofs.Programs.{pred-cases, kind-cases, holds-fits, holds-nothing}
use Rattle.tv_model.proofs.Truths.{Truth-local}
use Rattle.tv_concrete.specs.Laws.{SameCore}

-- tuples of the one heap are tuples of the other
pub same-tuples : (h k : Heap) → ((u : ℕ) → Contains h.individuals u ↔ Contains k.individuals u)
    → (n : ℕ) (tuple : List ℕ) → IsTuple h n tuple → IsTuple k n tuple
same-tuples h k same n tuple fits = (fits.0, λ i d below. (same _).0 (fits.1 i d below))

pub flip-core : (p : ProgramForm) (h k : Heap) → SameCore p h k → SameCore p k h
flip-core p h k same = record {
  individuals = λ u. ((same.individuals u).1, (same.individuals u).0);
  core = λ q d found core tuple. ((same.core q d found core tuple).1, (same.core q d found core tuple).0);
}

-- concrete heaps agree on predicates of rank below n
pub agree-below : (p : ProgramForm) (rank : ℕ → ℕ) → IsRank p rank → (h k : Heap) → IsHeap p h → IsHeap p k
    → IsConcrete p h → IsConcrete p k
    → SameCore p h k → (n q : ℕ) → rank q < n → (tuple : List ℕ) → Holds h q tuple → Holds k q tuple
agree-below p rank ranks h k hh kh hc kc same zero q below tuple at = absurd (omega (arith, below))
agree-below p rank ranks h k hh kh hc kc same (suc n) q below tuple at =
    let there : (r : ℕ) → rank r < n → (us : List ℕ) → Holds h r us
    → Holds k r us = agree-below p rank ranks h k hh kh hc kc same n
    in let back : (r : ℕ) → rank r < n → (us : List ℕ) → Holds k r us
    → Holds h r us = agree-below p rank ranks k h kh hh kc hc (flip-core p h k same) n
    in ⊎_elim
    (λ at_pred. by_kind there back at_pred.0 at_pred.1 (kind-cases at_pred.0.kind))
    (λ none. absurd (holds-nothing p h hh q tuple none at))
    (pred-cases p q)
  where
    by_kind : ((r : ℕ) → rank r < n → (us : List ℕ) → Holds h r us → Holds k r us)
        → ((r : ℕ) → rank r < n → (us : List ℕ) → Holds k r us → Holds h r us)
        → (d : PredForm) → slice_get p.preds q ≡ Some d → (d.kind ≡ KCore)
        ⊎ ((vars : List ℕ) × (body : Form) × (d.kind ≡ KDefined vars body)) → Holds k q tuple
    by_kind there back d found (inl core) = (same.core q d found core tuple).0 at
    by_kind there back d found (inr defined) =
        let At : Heap → KindForm → Type 0 = λ g kind. MeetsDefinition g q kind tuple
        in let fits : IsTuple h d.arity tuple = holds-fits p h hh q d found tuple at
        in let first : Holds h q tuple ↔ Truth h (put_all blank defined.0 tuple) defined.1 = subst (At h) defined.2
        (hc q d found tuple fits)
        in let second : Holds k q tuple ↔ Truth k (put_all blank defined.0 tuple) defined.1 =
        subst (At k) defined.2 (kc q d found tuple (same-tuples h k same.individuals d.arity tuple fits))
        in let less : (r : ℕ) → Mentions r defined.1 → rank r < n =
        λ r m. omega (arith, below, ranks.falls q d found defined.0 defined.1 defined.2 r m)
        in let alike : HeapsLookAlike defined.1 h k = record {
          individuals = same.individuals;
          holds = λ r m us. (there r (less r m) us, back r (less r m) us);
          marks = λ named. hh.no_mark ∙ sym kh.no_mark;
        }
        in second.1 ((Truth-local defined.1 h k (put_all blank defined.0 tuple) (put_all blank defined.0 tuple) alike
        (λ v m. refl)).0 (first.0 at))

pub concretes-agree : (p : ProgramForm) → IsValid p → (h k : Heap) → IsHeap p h → IsHeap p k → IsConcrete p h
    → IsConcrete p k → SameCore p h k
    → (q : ℕ) (tuple : List ℕ) → Holds h q tuple ↔ Holds k q tuple
concretes-agree p valid h k hh kh hc kc same q tuple = (
  agree-below p valid.rank valid.no_cycle h k hh kh hc kc same (suc (valid.rank q)) q (omega arith) tuple,
  agree-below p valid.rank valid.no_cycle k h kh hh kc hc (flip-core p h k same) (suc (valid.rank q)) q
      (omega arith) tuple,
)
