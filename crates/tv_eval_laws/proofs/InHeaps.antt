-- Lemmas on heaps read as structures, for the crates above: their values tell the truth, and definite values
-- above tell it of heaps that embed.
use Rattle.std.proofs.Common.{ℕ, ◌≡◌, ◌≢◌, ◌⊎◌, ◌↔◌, Bool, true, false, List, [], ◌∷◌, map, Option, Some, inl}
use Rattle.std.proofs.Common.{inr, ⊎_elim, refl, sym, subst, All, Contains, cond}
use Rattle.std.proofs.lemmas.Bool.{cases_eq}
use Rattle.std.proofs.lemmas.List.Elements.{All-nil, All-cons, All-head, All-tail}
use Rattle.tv_kleene.specs.declared.K3.{K3}
use Rattle.tv_kleene.specs.declared.K3.TheVariants.{No, Yes}
use Rattle.tv_kleene.specs.Kleene.{LiesUnder, smaller_of, larger_of, negation_of}
use Rattle.tv_kleene.proofs.Thresholds.{Must, May, must_threshold, may_threshold, Must-is, May-is}
use Rattle.tv_kleene.proofs.Thresholds.{Must-negation, May-negation, May-from_Must, May-decided, Yes-below}
use Rattle.tv_kleene.proofs.Thresholds.{No-below}
use Rattle.tv_model.specs.Form.{Form, FZero, FOne, FAtom, FIsNew, FSame, FNot, FAnd, FOr, FIff, FCond}
use Rattle.tv_model.specs.Form.{FExists, FForall, FClosure, IsFree}
use Rattle.tv_model.specs.Heap.{Heap, Holds}
use Rattle.tv_model.specs.Truth.{Assignment, Truth, put, IsWalk}
use Rattle.tv_model.proofs.Walks.{WalksWithin}
use Rattle.tv_model.proofs.Assignments.{put-inside}
use Rattle.tv_embedding_laws.specs.LogicalStructure.{ReadsHeap, heap_structure, holds}
use Rattle.tv_embedding_laws.proofs.EmbeddingLaws.{reads_heap}
use Rattle.tv_eval_laws.specs.Value.{value, mark_value, same_value, greatest_of, least_of, best_walk}
use Rattle.tv_eval_laws.specs.Laws.{GivesIndividuals, TellsTruth, HeapsTellTruth, DefiniteValuesAreSound}
use Rattle.tv_eval_laws.proofs.Folds.{greatest-threshold, least-threshold}
use Rattle.tv_eval_laws.proofs.Walks.{best_walk-threshold}
use Rattle.tv_eval_laws.proofs.Entries.{mark-May, mark-Must, same-here, same-apart}
use Rattle.tv_eval_laws.proofs.Embedded.{embedding_theorem}

-- the value tells whether the fact holds: it is Yes where it does, and No where it doesn't
pub record Tells (x : K3) (P : Type 0) : Type 0 where
  pub yes : P → Must x
  pub holds : May x → P

tells-not : (x : K3) (P : Type 0) → Tells x P → Tells (negation_of x) (¬ P)
tells-not x P is = record {
  yes = λ n. (Must-negation x).1 (λ m. n (is.holds m));
  holds = λ m p. (May-negation x).0 m (is.yes p);
}

tells-and : (x y : K3) (P Q : Type 0) → Tells x P → Tells y Q → Tells (smaller_of x y) (P × Q)
tells-and x y P Q p q = record {
  yes = λ h. (must_threshold.smaller x y).1 (p.yes h.0, q.yes h.1);
  holds = λ m. let both : May x × May y = (may_threshold.smaller x y).0 m in (p.holds both.0, q.holds both.1);
}

tells-or : (x y : K3) (P Q : Type 0) → Tells x P → Tells y Q → Tells (larger_of x y) (P ⊎ Q)
tells-or x y P Q p q = record {
  yes = λ h. (must_threshold.larger x y).1 (⊎_elim (λ d. inl (p.yes d)) (λ d. inr (q.yes d)) h);
  holds = λ m. ⊎_elim (λ d. inl (p.holds d)) (λ d. inr (q.holds d)) ((may_threshold.larger x y).0 m);
}

tells-same : (x : K3) (P Q : Type 0) → (P → Q) → (Q → P) → Tells x P → Tells x Q
tells-same x P Q to from is = record { yes = λ q. is.yes (from q); holds = λ m. to (is.holds m) }

pub tells-decided : (x : K3) (P : Type 0) → Tells x P → P ⊎ (¬ P)
tells-decided x P is = ⊎_elim (λ m. inl (is.holds m)) (λ n. inr (λ p. n (May-from_Must x (is.yes p)))) (May-decided x)

tells-iff : (x y : K3) (P Q : Type 0) → Tells x P → Tells y Q
    → Tells (smaller_of (larger_of (negation_of x) y) (larger_of (negation_of y) x)) (P ↔ Q)
tells-iff x y P Q p q =
    tells-same (smaller_of (larger_of (negation_of x) y) (larger_of (negation_of y) x))
    (((¬ P) ⊎ Q) × ((¬ Q) ⊎ P)) (P ↔ Q) to from
    (tells-and (larger_of (negation_of x) y) (larger_of (negation_of y) x) ((¬ P) ⊎ Q) ((¬ Q) ⊎ P)
    (tells-or (negation_of x) y (¬ P) Q (tells-not x P p) q)
    (tells-or (negation_of y) x (¬ Q) P (tells-not y Q q) p))
  where
    to : ((¬ P) ⊎ Q) × ((¬ Q) ⊎ P) → P ↔ Q
    to h = (λ d. ⊎_elim (λ n. absurd (n d)) (λ e. e) h.0, λ d. ⊎_elim (λ n. absurd (n d)) (λ e. e) h.1)

    from : P ↔ Q → ((¬ P) ⊎ Q) × ((¬ Q) ⊎ P)
    from h = (
      ⊎_elim (λ d. inr (h.0 d)) (λ n. inl n) (tells-decided x P p),
      ⊎_elim (λ d. inr (h.1 d)) (λ n. inl n) (tells-decided y Q q),
    )

tells-exists : (g : ℕ → K3) (P : ℕ → Type 0) (xs : List ℕ) → ((u : ℕ) → Contains xs u → Tells (g u) (P u))
    → Tells (greatest_of g xs) ((u : ℕ) × Contains xs u × P u)
tells-exists g P xs each = record {
  yes = λ h. (greatest-threshold Must must_threshold g xs).1 (h.0, h.1, (each h.0 h.1).yes h.2);
  holds = λ m. let d : (u : ℕ) × Contains xs u × May (g u) = (greatest-threshold May may_threshold g xs).0 m
      in (d.0, d.1, (each d.0 d.1).holds d.2);
}

tells-forall : (g : ℕ → K3) (P : ℕ → Type 0) (xs : List ℕ) → ((u : ℕ) → Contains xs u → Tells (g u) (P u))
    → Tells (least_of g xs) ((u : ℕ) → Contains xs u → P u)
tells-forall g P xs each = record {
  yes = λ h. (least-threshold Must must_threshold g xs).1 (λ u at. (each u at).yes (h u at));
  holds = λ m u at. (each u at).holds ((least-threshold May may_threshold g xs).0 m u at);
}

-- the edges of a walk lie between individuals where its ends and its stops are individuals
walk-inside : (R S : ℕ → ℕ → Type 0) (xs : List ℕ) → ((u w : ℕ) → Contains xs u → Contains xs w → R u w → S u w)
    → (u : ℕ) (stops : List ℕ) (w : ℕ) → Contains xs u → Contains xs w → All (Contains xs) stops
    → IsWalk R u stops w → IsWalk (λ x y. Contains xs x × Contains xs y × S x y) u stops w
walk-inside R S xs keeps u [] w hu hw within edge = (hu, hw, keeps u w hu hw edge)
walk-inside R S xs keeps u (stop ∷ stops) w hu hw within walk =
    let at : Contains xs stop = All-head (Contains xs) stop stops within
    in (
      (hu, at, keeps u stop hu at walk.0),
      walk-inside R S xs keeps stop stops w at hw
          (All-tail (Contains xs) stop stops within) walk.1,
    )

walk-within : (R S : ℕ → ℕ → Type 0) (xs : List ℕ) → ((u w : ℕ) → Contains xs u → Contains xs w → R u w → S u w)
    → (u : ℕ) (stops : List ℕ) (w : ℕ) → IsWalk (λ x y. Contains xs x × Contains xs y × R x y) u stops w
    → All (Contains xs) stops × IsWalk S u stops w
walk-within R S xs keeps u [] w edge = (All-nil (Contains xs), keeps u w edge.0 edge.1 edge.2)
walk-within R S xs keeps u (stop ∷ stops) w walk =
    let rest : All (Contains xs) stops × IsWalk S stop stops w = walk-within R S xs keeps stop stops w walk.1
    in (All-cons (Contains xs) stop stops walk.0.1 rest.0, (keeps u stop walk.0.0 walk.0.1 walk.0.2, rest.1))

tells-walk : (edge : ℕ → ℕ → K3) (R : ℕ → ℕ → Type 0) (xs : List ℕ)
    → ((u w : ℕ) → Contains xs u → Contains xs w → Tells (edge u w) (R u w))
    → (u w : ℕ) → Contains xs u → Contains xs w
    → Tells (best_walk edge xs u w) ((stops : List ℕ) × IsWalk (λ x y. Contains xs x × Contains xs y × R x y) u stops w)
tells-walk edge R xs each u w hu hw = record {
  yes = λ h.
      let d : All (Contains xs) h.0 × IsWalk (λ x y. Must (edge x y)) u h.0 w
      = walk-within R (λ x y. Must (edge x y)) xs (λ x y hx hy r. (each x y hx hy).yes r) u h.0 w h.1
      in (best_walk-threshold Must must_threshold edge xs u w).1 (h.0, d.0, d.1);
  holds = λ m.
      let d : WalksWithin (λ x y. May (edge x y)) xs u w = (best_walk-threshold May may_threshold edge xs u w).0 m
      in (
        d.0,
        walk-inside (λ x y. May (edge x y)) R xs
            (λ x y hx hy e. (each x y hx hy).holds e) u d.0 w hu hw d.1 d.2,
      );
}

-- ---- what a heap's structure says of atoms

pub definite : (b : Bool) → May (cond b Yes No) → cond b Yes No ≡ Yes
definite true m = refl
definite false m = absurd m

pub tells-atom : (h : Heap) (pred : ℕ) (tuple : List ℕ)
    → Tells ((heap_structure h).value pred tuple) (Holds h pred tuple)
tells-atom h pred tuple =
    let reads : ReadsHeap h = reads_heap h
    in record {
      yes = λ is. (Must-is ((heap_structure h).value pred tuple)).1 ((reads.yes pred tuple).1 is);
      holds = λ m. (reads.yes pred tuple).0 (definite (holds h pred tuple) m);
    }

pub tells-mark : (fresh : Option ℕ) (u : ℕ) → Tells (mark_value fresh u) (fresh ≡ Some u)
tells-mark fresh u = record { yes = mark-Must fresh u; holds = mark-May fresh u }

pub tells-equality : (h : Heap) (u w : ℕ) → Tells (same_value (heap_structure h) u w) (u ≡ w)
tells-equality h u w = record {
  yes = λ e. subst Must (sym (same-here (heap_structure h) u w e)) tt;
  holds = λ m. ⊎_elim (λ e. e) (λ ne. absurd (subst May (same-apart (heap_structure h) u w ne) m)) (cases_eq u w);
}

-- ---- truth

pub tells-truth : (h : Heap) (a : Assignment) (f : Form) → GivesIndividuals h.individuals f a
    → Tells (value (heap_structure h) a f) (Truth h a f)
tells-truth h a FZero inside = record { yes = λ n. n; holds = λ m. m }
tells-truth h a FOne inside = record { yes = λ n. tt; holds = λ m. tt }
tells-truth h a (FAtom pred vars) inside = tells-atom h pred (map a vars)
tells-truth h a (FIsNew v) inside = tells-mark h.fresh (a v)
tells-truth h a (FSame v w) inside = tells-equality h (a v) (a w)
tells-truth h a (FNot f) inside = tells-not (value (heap_structure h) a f) (Truth h a f) (tells-truth h a f inside)
tells-truth h a (FAnd f g) inside =
    tells-and (value (heap_structure h) a f) (value (heap_structure h) a g) (Truth h a f) (Truth h a g)
    (tells-truth h a f (λ v m. inside v (inl m))) (tells-truth h a g (λ v m. inside v (inr m)))
tells-truth h a (FOr f g) inside =
    tells-or (value (heap_structure h) a f) (value (heap_structure h) a g) (Truth h a f) (Truth h a g)
    (tells-truth h a f (λ v m. inside v (inl m))) (tells-truth h a g (λ v m. inside v (inr m)))
tells-truth h a (FIff f g) inside =
    tells-iff (value (heap_structure h) a f) (value (heap_structure h) a g) (Truth h a f) (Truth h a g)
    (tells-truth h a f (λ v m. inside v (inl m))) (tells-truth h a g (λ v m. inside v (inr m)))
tells-truth h a (FCond c f g) inside =
    let guard : Tells (value (heap_structure h) a c) (Truth h a c) = tells-truth h a c (λ v m. inside v (inl m))
    in tells-or (smaller_of (value (heap_structure h) a c) (value (heap_structure h) a f))
    (smaller_of (negation_of (value (heap_structure h) a c)) (value (heap_structure h) a g))
    (Truth h a c × Truth h a f) ((¬ Truth h a c) × Truth h a g)
    (tells-and (value (heap_structure h) a c) (value (heap_structure h) a f) (Truth h a c) (Truth h a f)
    guard (tells-truth h a f (λ v m. inside v (inr (inl m)))))
    (tells-and (negation_of (value (heap_structure h) a c)) (value (heap_structure h) a g) (¬ Truth h a c) (Truth h a g)
    (tells-not (value (heap_structure h) a c) (Truth h a c) guard) (tells-truth h a g (λ v m. inside v (inr (inr m)))))
tells-truth h a (FExists v f) inside =
    tells-exists (λ u. value (heap_structure h) (put a v u) f) (λ u. Truth h (put a v u) f) h.individuals
    (λ u at. tells-truth h (put a v u) f (put-inside h.individuals (λ x. IsFree x f) a v u at inside))
tells-truth h a (FForall v f) inside =
    tells-forall (λ u. value (heap_structure h) (put a v u) f) (λ u. Truth h (put a v u) f) h.individuals
    (λ u at. tells-truth h (put a v u) f (put-inside h.individuals (λ x. IsFree x f) a v u at inside))
tells-truth h a (FClosure from to left right f) inside =
    tells-walk (λ u w. value (heap_structure h) (put (put a left u) right w) f)
    (λ u w. Truth h (put (put a left u) right w) f)
    h.individuals
    (λ u w hu hw. tells-truth h (put (put a left u) right w) f
    (put-inside h.individuals (λ x. IsFree x f) (put a left u) right w hw
    (put-inside h.individuals (λ x. (x ≢ right) × IsFree x f) a left u hu
    (λ x k. inside x (inr (inr (k.0, k.1.0, k.1.1)))))))
    (a from) (a to) (inside from (inl refl)) (inside to (inr (inl refl)))

pub heaps_tell_truth : HeapsTellTruth
heaps_tell_truth h a f inside =
    let is : Tells (value (heap_structure h) a f) (Truth h a f) = tells-truth h a f inside
    in record {
      yes = (
        λ e. is.holds (May-from_Must (value (heap_structure h) a f) ((Must-is (value (heap_structure h) a f)).1 e)),
        λ t. (Must-is (value (heap_structure h) a f)).0 (is.yes t),
      );
      no = (
        λ e t. (May-is (value (heap_structure h) a f)).1 e (May-from_Must (value (heap_structure h) a f) (is.yes t)),
        λ n. (May-is (value (heap_structure h) a f)).0 (λ m. n (is.holds m)),
      );
      decided = tells-decided (value (heap_structure h) a f) (Truth h a f) is;
    }

-- what the value above says of the heap
pub definite_values_are_sound : DefiniteValuesAreSound
definite_values_are_sound f m h t a b e takes =
    let lies : LiesUnder (value (heap_structure h) a f) (value t b f) = embedding_theorem f m
    (heap_structure h) t a b e takes
    in let tells : TellsTruth h a f = heaps_tell_truth h a f (λ v free. (takes v free).0)
    in record {
      yes = λ x. tells.yes.0 (Yes-below (value (heap_structure h) a f) (value t b f) lies x);
      no = λ x. tells.no.0 (No-below (value (heap_structure h) a f) (value t b f) lies x);
    }
