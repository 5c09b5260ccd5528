-- Lemmas on truth, for the crates above: it goes along a matching of individuals, and so depends only on
-- what the formula sees.
use Rattle.std.proofs.Common.{ℕ, ◌≡◌, ◌≢◌, ◌↔◌, List, map, Some, inl, inr, ⊎_elim, refl, sym, ap, subst, ◌∙◌}
use Rattle.std.proofs.Common.{Contains}
use Rattle.tv_model.specs.Form.{Form, FZero, FOne, FAtom, FIsNew, FSame, FNot, FAnd, FOr, FIff, FCond}
use Rattle.tv_model.specs.Form.{FExists, FForall, FClosure, IsFree, Mentions}
use Rattle.tv_model.specs.Heap.{Heap, Holds}
use Rattle.tv_model.specs.Laws.{TruthIsLocal, TruthIsKept}
use Rattle.tv_model.specs.Truth.{Assignment, Truth, ClosureEdge, put}
use Rattle.tv_model.specs.Valid.{NamesNew}
use Rattle.tv_model.proofs.Assignments.{put-matched, map-images, All-values}
use Rattle.tv_model.proofs.Lists.{map-agreed}
use Rattle.tv_model.proofs.Walks.{IsTotal, Walks-matched}

-- ---- truth

-- the individuals of h and of k are matched, so that what P and Marked ask for is alike in both
pub record Matched (P : ℕ → Type 0) (Marked : Type 0) (M : ℕ → ℕ → Type 0) (h k : Heap) : Type 0 where
  pub there : IsTotal M h.individuals k.individuals
  pub back : IsTotal (λ w u. M u w) k.individuals h.individuals
  pub members : (u w : ℕ) → M u w → Contains h.individuals u ↔ Contains k.individuals w
  pub atoms : (q : ℕ) → P q → (vars : List ℕ) (a b : Assignment) → ((v : ℕ) → Contains vars v → M (a v) (b v))
      → Holds h q (map a vars) ↔ Holds k q (map b vars)
  pub same : (u v x y : ℕ) → M u x → M v y → (u ≡ v) ↔ (x ≡ y)
  pub marks : Marked → (u w : ℕ) → M u w → (h.fresh ≡ Some u) ↔ (k.fresh ≡ Some w)

pub Truth-matched : (P : ℕ → Type 0) (Marked : Type 0) (M : ℕ → ℕ → Type 0) (h k : Heap) → Matched P Marked M h k
    → (a b : Assignment) (f : Form) → ((q : ℕ) → Mentions q f → P q) → (NamesNew f → Marked)
    → ((v : ℕ) → IsFree v f → M (a v) (b v)) → Truth h a f ↔ Truth k b f
Truth-matched P Marked M h k is a b FZero mentioned named free = (λ t. t, λ t. t)
Truth-matched P Marked M h k is a b FOne mentioned named free = (λ t. t, λ t. t)
Truth-matched P Marked M h k is a b (FAtom q vars) mentioned named free = is.atoms q (mentioned q refl) vars a b free
Truth-matched P Marked M h k is a b (FIsNew v) mentioned named free = is.marks (named tt) (a v) (b v) (free v refl)
Truth-matched P Marked M h k is a b (FSame v w) mentioned named free =
    is.same (a v) (a w) (b v) (b w) (free v (inl refl)) (free w (inr refl))
Truth-matched P Marked M h k is a b (FNot f) mentioned named free =
    let ih : Truth h a f ↔ Truth k b f = Truth-matched P Marked M h k is a b f mentioned named free
    in (λ t s. t (ih.1 s), λ t s. t (ih.0 s))
Truth-matched P Marked M h k is a b (FAnd f g) mentioned named free =
    let one : Truth h a f ↔ Truth k b f
    = Truth-matched P Marked M h k is a b f (λ q m. mentioned q (inl m)) (λ n. named (inl n)) (λ v m. free v (inl m))
    in let two : Truth h a g ↔ Truth k b g
    = Truth-matched P Marked M h k is a b g (λ q m. mentioned q (inr m)) (λ n. named (inr n)) (λ v m. free v (inr m))
    in (λ t. (one.0 t.0, two.0 t.1), λ t. (one.1 t.0, two.1 t.1))
Truth-matched P Marked M h k is a b (FOr f g) mentioned named free =
    let one : Truth h a f ↔ Truth k b f
    = Truth-matched P Marked M h k is a b f (λ q m. mentioned q (inl m)) (λ n. named (inl n)) (λ v m. free v (inl m))
    in let two : Truth h a g ↔ Truth k b g
    = Truth-matched P Marked M h k is a b g (λ q m. mentioned q (inr m)) (λ n. named (inr n)) (λ v m. free v (inr m))
    in (
      λ t. ⊎_elim (λ s. inl (one.0 s)) (λ s. inr (two.0 s)) t,
      λ t. ⊎_elim (λ s. inl (one.1 s))
          (λ s. inr (two.1 s)) t,
    )
Truth-matched P Marked M h k is a b (FIff f g) mentioned named free =
    let one : Truth h a f ↔ Truth k b f
    = Truth-matched P Marked M h k is a b f (λ q m. mentioned q (inl m)) (λ n. named (inl n)) (λ v m. free v (inl m))
    in let two : Truth h a g ↔ Truth k b g
    = Truth-matched P Marked M h k is a b g (λ q m. mentioned q (inr m)) (λ n. named (inr n)) (λ v m. free v (inr m))
    in (
      λ t. (λ s. two.0 (t.0 (one.1 s)), λ s. one.0 (t.1 (two.1 s))),
      λ t. (λ s. two.1 (t.0 (one.0 s)), λ s. one.1 (t.1 (two.0 s))),
    )
Truth-matched P Marked M h k is a b (FCond c f g) mentioned named free =
    let guard : Truth h a c ↔ Truth k b c
    = Truth-matched P Marked M h k is a b c (λ q m. mentioned q (inl m)) (λ n. named (inl n)) (λ v m. free v (inl m))
    in let one : Truth h a f ↔ Truth k b f
    = Truth-matched P Marked M h k is a b f (λ q m. mentioned q (inr (inl m))) (λ n. named (inr (inl n)))
    (λ v m. free v (inr (inl m)))
    in let two : Truth h a g ↔ Truth k b g
    = Truth-matched P Marked M h k is a b g (λ q m. mentioned q (inr (inr m))) (λ n. named (inr (inr n)))
    (λ v m. free v (inr (inr m)))
    in (
      λ t. ⊎_elim (λ s. inl (guard.0 s.0, one.0 s.1)) (λ s. inr ((λ d. s.0 (guard.1 d)), two.0 s.1)) t,
      λ t. ⊎_elim (λ s. inl (guard.1 s.0, one.1 s.1)) (λ s. inr ((λ d. s.0 (guard.0 d)), two.1 s.1)) t,
    )
Truth-matched P Marked M h k is a b (FExists v f) mentioned named free =
    let ih : (u w : ℕ) → M u w → Truth h (put a v u) f ↔ Truth k (put b v w) f
    = λ u w m. Truth-matched P Marked M h k is (put a v u) (put b v w) f mentioned named
    (put-matched (λ x. IsFree x f) M a b v u w m free)
    in (
      λ t. let image : (w : ℕ) × Contains k.individuals w × M t.0 w = is.there t.0 t.1
          in (image.0, image.1, (ih t.0 image.0 image.2).0 t.2),
      λ t. let from : (u : ℕ) × Contains h.individuals u × M u t.0 = is.back t.0 t.1
          in (from.0, from.1, (ih from.0 t.0 from.2).1 t.2),
    )
Truth-matched P Marked M h k is a b (FForall v f) mentioned named free =
    let ih : (u w : ℕ) → M u w → Truth h (put a v u) f ↔ Truth k (put b v w) f
    = λ u w m. Truth-matched P Marked M h k is (put a v u) (put b v w) f mentioned named
    (put-matched (λ x. IsFree x f) M a b v u w m free)
    in (
      λ t w at. let from : (u : ℕ) × Contains h.individuals u × M u w = is.back w at
          in (ih from.0 w from.2).0 (t from.0 from.1),
      λ t u at. let image : (w : ℕ) × Contains k.individuals w × M u w = is.there u at
          in (ih u image.0 image.2).1 (t image.0 image.1),
    )
Truth-matched P Marked M h k is a b (FClosure from to left right f) mentioned named free =
    let R : ℕ → ℕ → Type 0 = ClosureEdge h a left right f
    in let S : ℕ → ℕ → Type 0 = ClosureEdge k b left right f
    in let ih : (u v x y : ℕ) → M u x → M v y → Truth h (put (put a left u) right v) f
    ↔ Truth k (put (put b left x) right y) f
    = λ u v x y m n. Truth-matched P Marked M h k is (put (put a left u) right v)
    (put (put b left x) right y) f mentioned named
    (put-matched (λ z. IsFree z f) M (put a left u) (put b left x) right v y n
    (put-matched (λ z. (z ≢ right) × IsFree z f) M a b left u x m (λ z d. free z (inr (inr (d.0, d.1.0, d.1.1))))))
    in let there : (u v x y : ℕ) → M u x → M v y → R u v → S x y
    = λ u v x y m n e. ((is.members u x m).0 e.0, (is.members v y n).0 e.1, (ih u v x y m n).0 e.2)
    in let back : (x y u v : ℕ) → M u x → M v y → S x y → R u v
    = λ x y u v m n e. ((is.members u x m).1 e.0, (is.members v y n).1 e.1, (ih u v x y m n).1 e.2)
    in let begin : M (a from) (b from) = free from (inl refl)
    in let end : M (a to) (b to) = free to (inr (inl refl))
    in (
      λ t. Walks-matched M h.individuals k.individuals is.there R S (λ u v e. e.1) there
          (a from) (a to) (b from) (b to) begin end t,
      λ t. Walks-matched (λ w u. M u w) k.individuals h.individuals is.back S R (λ u v e. e.1) back
          (b from) (b to) (a from) (a to) begin end t,
    )

-- ---- the laws

pub Truth-local : TruthIsLocal
Truth-local f h k a b alike agrees =
    Truth-matched (λ q. Mentions q f) (NamesNew f) (λ u w. u ≡ w) h k
    (record {
      there = λ u at. (u, (alike.individuals u).0 at, refl);
      back = λ w at. (w, (alike.individuals w).1 at, refl);
      members = λ u w e. subst (λ x. Contains h.individuals u ↔ Contains k.individuals x) e (alike.individuals u);
      atoms = λ q m vars c d same.
          subst (λ us. Holds h q (map c vars) ↔ Holds k q us) (map-agreed c d vars same) (alike.holds q m (map c vars));
      same = λ u v x y m n. (λ e. sym m ∙ e ∙ n, λ e. m ∙ e ∙ sym n);
      marks = λ named u w m. (
        λ t. sym (alike.marks named) ∙ t ∙ ap (λ x. Some x) m,
        λ t. alike.marks named ∙ t
            ∙ ap (λ x. Some x) (sym m),
      );
    })
    a b f (λ q m. m) (λ n. n) agrees

-- truth in one heap depends only on the free variables
pub truth-agreed : (h : Heap) (a b : Assignment) (f : Form) → ((v : ℕ) → IsFree v f → a v ≡ b v) → Truth h a f ↔ Truth h b f
truth-agreed h a b f agrees =
    Truth-local f h h a b
    (record { individuals = λ u. (λ t. t, λ t. t); holds = λ q m us. (λ t. t, λ t. t); marks = λ named. refl })
    agrees

-- w is the individual that r makes of u
abbrev pub IsRenamed : (ℕ → ℕ) → Heap → ℕ → ℕ → Type 0
IsRenamed r h u w = Contains h.individuals u × (r u ≡ w)

pub Truth-kept : TruthIsKept
Truth-kept f r h k a b is agrees =
    Truth-matched (λ q. Mentions q f) (NamesNew f) (IsRenamed r h) h k
    (record {
      there = λ u at. (r u, is.into u at, (at, refl));
      back = λ w at. let from : (u : ℕ) × Contains h.individuals u × (r u ≡ w) = is.onto w at
          in (from.0, from.1, (from.1, from.2));
      members = λ u w m. (λ at. subst (Contains k.individuals) m.1 (is.into u at), λ at. m.0);
      atoms = λ q m vars c d each.
          subst (λ us. Holds h q (map c vars) ↔ Holds k q us)
          (map-images r c d vars (λ v at. (each v at).1))
          (is.holds q m (map c vars) (All-values (Contains h.individuals) c vars (λ v at. (each v at).0)));
      same = λ u v x y m n. (λ e. sym m.1 ∙ ap r e ∙ n.1, λ e. is.injective u v m.0 n.0 (m.1 ∙ e ∙ sym n.1));
      marks = λ named u w m. subst (λ x. (h.fresh ≡ Some u) ↔ (k.fresh ≡ Some x)) m.1 (is.marks named u m.0);
    })
    a b f (λ q m. m) (λ n. n) agrees
