-- Truth in a heap is decided: its parts are, and individuals and tuples are finitely many.
use Rattle.std.proofs.Common.{ℕ, List, [], ◌∷◌, map, inl, inr, Contains}
use Rattle.std.proofs.lemmas.Bool.{cases_eq}
use Rattle.tv_model.specs.Form.{Form, FZero, FOne, FAtom, FIsNew, FSame, FNot, FAnd, FOr, FIff, FCond}
use Rattle.tv_model.specs.Form.{FExists, FForall, FClosure}
use Rattle.tv_model.specs.Heap.{Heap, extent}
use Rattle.tv_model.specs.Truth.{Assignment, Truth, put, ClosureEdge}
use Rattle.tv_model.proofs.Decided.{IsDecided, not-decided, and-decided, or-decided, iff-decided}
use Rattle.tv_model.proofs.Decided.{exists-decided, forall-decided, Contains-decided, tuple-decided}
use Rattle.tv_model.proofs.Decided.{mark-decided, same-decided}
use Rattle.tv_model.proofs.Walks.{Walks}
use Rattle.tv_concrete.specs.Reach.{Reaches}
use Rattle.tv_concrete.proofs.Walks.{Walks-from_Reaches, Reaches-from_Walks}

pub Reaches-decided : (R : ℕ → ℕ → Type 0) → ((u w : ℕ) → IsDecided (R u w)) → (allowed : List ℕ) (u w : ℕ)
    → IsDecided (Reaches R allowed u w)
Reaches-decided R each [] u w = each u w
Reaches-decided R each (x ∷ allowed) u w =
    or-decided (Reaches R allowed u w) (Reaches R allowed u x × Reaches R allowed x w)
    (Reaches-decided R each allowed u w)
    (and-decided (Reaches R allowed u x) (Reaches R allowed x w) (Reaches-decided R each allowed u x)
    (Reaches-decided R each allowed x w))

edge-decided : (h : Heap) (u w : ℕ) (P : Type 0) → IsDecided P
    → IsDecided (Contains h.individuals u × Contains h.individuals w × P)
edge-decided h u w P p =
    same-decided (Contains h.individuals u × (Contains h.individuals w × P))
    (Contains h.individuals u × Contains h.individuals w × P)
    (λ t. (t.0, t.1.0, t.1.1)) (λ t. (t.0, (t.1, t.2)))
    (and-decided (Contains h.individuals u) (Contains h.individuals w × P) (Contains-decided h.individuals u)
    (and-decided (Contains h.individuals w) P (Contains-decided h.individuals w) p))

pub Truth-decided : (h : Heap) (a : Assignment) (f : Form) → IsDecided (Truth h a f)
Truth-decided h a FZero = inr (λ t. t)
Truth-decided h a FOne = inl tt
Truth-decided h a (FAtom q vars) = tuple-decided (extent h q) (map a vars)
Truth-decided h a (FIsNew v) = mark-decided h.fresh (a v)
Truth-decided h a (FSame v w) = cases_eq (a v) (a w)
Truth-decided h a (FNot f) = not-decided (Truth h a f) (Truth-decided h a f)
Truth-decided h a (FAnd f g) = and-decided (Truth h a f) (Truth h a g) (Truth-decided h a f) (Truth-decided h a g)
Truth-decided h a (FOr f g) = or-decided (Truth h a f) (Truth h a g) (Truth-decided h a f) (Truth-decided h a g)
Truth-decided h a (FIff f g) = iff-decided (Truth h a f) (Truth h a g) (Truth-decided h a f) (Truth-decided h a g)
Truth-decided h a (FCond c f g) =
    or-decided (Truth h a c × Truth h a f) ((¬ Truth h a c) × Truth h a g)
    (and-decided (Truth h a c) (Truth h a f) (Truth-decided h a c) (Truth-decided h a f))
    (and-decided (¬ Truth h a c) (Truth h a g) (not-decided (Truth h a c) (Truth-decided h a c)) (Truth-decided h a g))
Truth-decided h a (FExists v f) = exists-decided (λ u. Truth h (put a v u) f)
    (λ u. Truth-decided h (put a v u) f) h.individuals
Truth-decided h a (FForall v f) = forall-decided (λ u. Truth h (put a v u) f)
    (λ u. Truth-decided h (put a v u) f) h.individuals
Truth-decided h a (FClosure from to left right f) =
    let R : ℕ → ℕ → Type 0 = ClosureEdge h a left right f
    in let edge : (u w : ℕ) → IsDecided (R u w) = λ u w. edge-decided h u w (Truth h (put (put a left u) right w) f)
    (Truth-decided h (put (put a left u) right w) f)
    in same-decided (Reaches R h.individuals (a from) (a to)) (Walks R (a from) (a to))
    (Walks-from_Reaches R h.individuals (a from) (a to))
    (Reaches-from_Walks R h.individuals (λ u w e. e.1) (a from) (a to))
    (Reaches-decided R edge h.individuals (a from) (a to))
