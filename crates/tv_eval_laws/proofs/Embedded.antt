-- Lemmas on embedded structures, for the crates above: the embedding theorem, and what follows from it.
use Rattle.std.proofs.Common.{ℕ, ◌≡◌, ◌≢◌, ◌⊎◌, ◌↔◌, Bool, true, false, List, map, Some, inl, inr, ⊎_elim}
use Rattle.std.proofs.Common.{refl, sym, ap, subst, ◌∙◌, Contains}
use Rattle.std.proofs.lemmas.Bool.{cases_eq, false≢true}
use Rattle.std.proofs.lemmas.List.{map-id}
use Rattle.tv_kleene.specs.declared.K3.{K3}
use Rattle.tv_kleene.specs.declared.K3.TheVariants.{No}
use Rattle.tv_kleene.specs.Kleene.{LiesUnder}
use Rattle.tv_kleene.proofs.Thresholds.{LiesUnder-from_Under}
use Rattle.tv_kleene.proofs.Lattice.{LiesUnder-antisym}
use Rattle.tv_model.specs.Form.{Form, Mentions}
use Rattle.tv_model.specs.Truth.{Assignment}
use Rattle.tv_model.specs.Valid.{NamesNew}
use Rattle.tv_model.proofs.Assignments.{map-images, All-values}
use Rattle.tv_embedding_laws.specs.LogicalStructure.{LogicalStructure}
use Rattle.tv_embedding_laws.specs.Embedding.{EmbedsOn, Embeds, KeepsMark}
use Rattle.tv_embedding_laws.proofs.EmbeddingLaws.{EmbedsOn-any}
use Rattle.tv_eval_laws.specs.Value.{value, mark_value, same_value}
use Rattle.tv_eval_laws.specs.Laws.{TakesAlong, EmbedsFor, EmbeddingTheorem, Renames, ValuesAreKept}
use Rattle.tv_eval_laws.specs.Laws.{LooksAlike, ValuesAreLocal, ValuesAreMonotone}
use Rattle.tv_eval_laws.proofs.Entries.{Under-mark, own_value, same-here, same-apart}
use Rattle.tv_eval_laws.proofs.Matched.{Matched, value-lies_under}

-- u is an individual of s, and w is its image
abbrev pub GoesTo : (ℕ → ℕ) → LogicalStructure → ℕ → ℕ → Type 0
GoesTo m s u w = Contains s.individuals u × (m u ≡ w)

-- an individual is the fresh one exactly where its image is
abbrev pub MarksAlike : (ℕ → ℕ) → LogicalStructure → LogicalStructure → Type 0
MarksAlike m s t = (u : ℕ) → Contains s.individuals u → (s.fresh ≡ Some u) ↔ (t.fresh ≡ Some (m u))

-- ---- embeddings

own-under : (p q : Bool) → (p ≡ true → q ≡ true) → LiesUnder (own_value p) (own_value q)
own-under true true grows = inl refl
own-under true false grows = absurd (false≢true (grows refl))
own-under false true grows = inr refl
own-under false false grows = inl refl

same-under : (P : ℕ → Type 0) (m : ℕ → ℕ) (s t : LogicalStructure) → EmbedsOn P m s t
    → (u w : ℕ) → Contains s.individuals u → Contains s.individuals w
    → LiesUnder (same_value s u w) (same_value t (m u) (m w))
same-under P m s t e u w hu hw =
    ⊎_elim
    (λ is. let Below : K3 → Type 0 = λ x. LiesUnder x (same_value t (m u) (m w))
    in let Above : K3 → Type 0 = λ y. LiesUnder (own_value (s.is_summary u)) y
    in subst Below (sym (same-here s u w is))
    (subst Above (sym (same-here t (m u) (m w) (ap m is)))
    (own-under (s.is_summary u) (t.is_summary (m u)) (e.summaries u hu))))
    (λ ne. let Below : K3 → Type 0 = λ x. LiesUnder x (same_value t (m u) (m w))
    in subst Below (sym (same-apart s u w ne)) (apart ne (cases_eq (m u) (m w))))
    (cases_eq u w)
  where
    apart : u ≢ w → (m u ≡ m w) ⊎ (m u ≢ m w) → LiesUnder No (same_value t (m u) (m w))
    apart ne (inl one) =
        inr (same-here t (m u) (m w) one ∙ ap own_value (e.several u w hu hw ne one))
    apart ne (inr two) = inl (sym (same-apart t (m u) (m w) two))

pub matched-embedding : (P : ℕ → Type 0) (m : ℕ → ℕ) (s t : LogicalStructure) → EmbedsOn P m s t
    → Matched P (MarksAlike m s t) (GoesTo m s) s t
matched-embedding P m s t e = record {
  there = λ u at. (m u, e.into u at, (at, refl));
  back = λ w at. let d : (u : ℕ) × Contains s.individuals u × (m u ≡ w) = e.onto w at in (d.0, d.1, (d.1, d.2));
  atoms = λ pred p vars a b goes.
      let Above : List ℕ → Type 0 = λ us. LiesUnder (s.value pred (map a vars)) (t.value pred us)
      in subst Above (map-images m a b vars (λ v at. (goes v at).1))
      (e.values pred p (map a vars) (All-values (Contains s.individuals) a vars (λ v at. (goes v at).0)));
  same = λ u w x y p q.
      let First : ℕ → Type 0 = λ z. LiesUnder (same_value s u w) (same_value t z y)
      in let Second : ℕ → Type 0 = λ z. LiesUnder (same_value s u w) (same_value t (m u) z)
      in subst First p.1 (subst Second q.1 (same-under P m s t e u w p.0 q.0));
  marks = λ alike u w p.
      let Image : ℕ → Type 0 = λ z. LiesUnder (mark_value s.fresh u) (mark_value t.fresh z)
      in subst Image p.1
      (LiesUnder-from_Under (mark_value s.fresh u) (mark_value t.fresh (m u))
      (Under-mark s.fresh t.fresh u (m u) (alike u p.0)));
}

-- from an embedding on the predicates of P, which the formula's are among
pub embedded-value : (P : ℕ → Type 0) (m : ℕ → ℕ) (s t : LogicalStructure) → EmbedsOn P m s t
    → (f : Form) → ((q : ℕ) → Mentions q f → P q) → (NamesNew f → MarksAlike m s t)
    → (a b : Assignment) → TakesAlong m s f a b → LiesUnder (value s a f) (value t b f)
embedded-value P m s t e f mentioned marks a b takes =
    value-lies_under P (MarksAlike m s t) (GoesTo m s) s t (matched-embedding P m s t e) a b f mentioned marks takes

pub embedding_theorem : EmbeddingTheorem
embedding_theorem f m s t a b e takes =
    embedded-value (λ q. Mentions q f) m s t e.mentioned f (λ q h. h) (λ n. (e.marks n).marked) a b takes

-- an embedding of all predicates is one for each formula
pub embeds-for : (f : Form) (m : ℕ → ℕ) (s t : LogicalStructure) → Embeds m s t → (NamesNew f → KeepsMark m s t)
    → EmbedsFor f m s t
embeds-for f m s t e marks = record {
  mentioned = EmbedsOn-any (λ q. Mentions q f) m s t e;
  marks = marks;
}

pub values_are_monotone : ValuesAreMonotone
values_are_monotone f s t a below marks inside =
    embedded-value (λ q. Unit {0}) (λ u. u) s t below.1 f (λ q h. tt)
    (λ n u at. (λ e. sym (marks n) ∙ e, λ e. marks n ∙ e))
    a a (λ v free. (inside v free, refl))

-- ---- renamings

same-renamed : (f : Form) (r : ℕ → ℕ) (s t : LogicalStructure) → Renames f r s t
    → (u w : ℕ) → Contains s.individuals u → Contains s.individuals w → same_value s u w ≡ same_value t (r u) (r w)
same-renamed f r s t n u w hu hw =
    ⊎_elim
    (λ is. same-here s u w is ∙ ap own_value (n.summaries u hu) ∙ sym (same-here t (r u) (r w) (ap r is)))
    (λ ne. same-apart s u w ne ∙ sym (same-apart t (r u) (r w) (λ e. ne (n.injective u w hu hw e))))
    (cases_eq u w)

atoms-renamed : (f : Form) (r : ℕ → ℕ) (s t : LogicalStructure) → Renames f r s t
    → (pred : ℕ) → Mentions pred f → (vars : List ℕ) (a b : Assignment)
    → ((v : ℕ) → Contains vars v → GoesTo r s (a v) (b v))
    → s.value pred (map a vars) ≡ t.value pred (map b vars)
atoms-renamed f r s t n pred mentioned vars a b goes =
    n.values pred mentioned (map a vars) (All-values (Contains s.individuals) a vars (λ v at. (goes v at).0))
    ∙ ap (t.value pred) (map-images r a b vars (λ v at. (goes v at).1))

same-goes : (f : Form) (r : ℕ → ℕ) (s t : LogicalStructure) → Renames f r s t
    → (u w x y : ℕ) → GoesTo r s u x → GoesTo r s w y → same_value s u w ≡ same_value t x y
same-goes f r s t n u w x y p q =
    same-renamed f r s t n u w p.0 q.0 ∙ ap (λ z. same_value t z (r w)) p.1 ∙ ap (λ z. same_value t x z) q.1

marks-go : (f : Form) (r : ℕ → ℕ) (s t : LogicalStructure) → Renames f r s t
    → NamesNew f → (u w : ℕ) → GoesTo r s u w → (s.fresh ≡ Some u) ↔ (t.fresh ≡ Some w)
marks-go f r s t n named u w p =
    let Image : ℕ → Type 0 = λ z. (s.fresh ≡ Some u) ↔ (t.fresh ≡ Some z)
    in subst Image p.1 (n.marks named u p.0)

matched-renaming : (f : Form) (r : ℕ → ℕ) (s t : LogicalStructure) → Renames f r s t
    → Matched (λ q. Mentions q f) (NamesNew f) (GoesTo r s) s t
matched-renaming f r s t n = record {
  there = λ u at. (r u, n.into u at, (at, refl));
  back = λ w at. let d : (u : ℕ) × Contains s.individuals u × (r u ≡ w) = n.onto w at in (d.0, d.1, (d.1, d.2));
  atoms = λ pred mentioned vars a b goes. inl (atoms-renamed f r s t n pred mentioned vars a b goes);
  same = λ u w x y p q. inl (same-goes f r s t n u w x y p q);
  marks = λ named u w p.
      LiesUnder-from_Under (mark_value s.fresh u) (mark_value t.fresh w)
      (Under-mark s.fresh t.fresh u w (marks-go f r s t n named u w p));
}

matched-back : (f : Form) (r : ℕ → ℕ) (s t : LogicalStructure) → Renames f r s t
    → Matched (λ q. Mentions q f) (NamesNew f) (λ w u. GoesTo r s u w) t s
matched-back f r s t n = record {
  there = λ w at. let d : (u : ℕ) × Contains s.individuals u × (r u ≡ w) = n.onto w at in (d.0, d.1, (d.1, d.2));
  back = λ u at. (r u, n.into u at, (at, refl));
  atoms = λ pred mentioned vars b a goes. inl (sym (atoms-renamed f r s t n pred mentioned vars a b goes));
  same = λ x y u w p q. inl (sym (same-goes f r s t n u w x y p q));
  marks = λ named w u p.
      let alike : (s.fresh ≡ Some u) ↔ (t.fresh ≡ Some w) = marks-go f r s t n named u w p
      in LiesUnder-from_Under (mark_value t.fresh w) (mark_value s.fresh u)
      (Under-mark t.fresh s.fresh w u (alike.1, alike.0));
}

pub values_are_kept : ValuesAreKept
values_are_kept f r s t a b n takes =
    LiesUnder-antisym (value s a f) (value t b f)
    (value-lies_under (λ q. Mentions q f) (NamesNew f) (GoesTo r s) s t (matched-renaming f r s t n) a b f
    (λ q h. h) (λ h. h) takes)
    (value-lies_under (λ q. Mentions q f) (NamesNew f) (λ w u. GoesTo r s u w) t s (matched-back f r s t n) b a f
    (λ q h. h) (λ h. h) takes)

renames-nothing : (f : Form) (s t : LogicalStructure) → LooksAlike f s t → Renames f (λ u. u) s t
renames-nothing f s t alike = record {
  into = λ u at. (alike.individuals u).0 at;
  onto = λ w at. (w, (alike.individuals w).1 at, refl);
  injective = λ u w hu hw e. e;
  values = λ pred mentioned tuple all.
      alike.values pred mentioned tuple all ∙ ap (t.value pred) (sym (map-id tuple));
  summaries = λ u at. alike.summaries u at;
  marks = λ named u at. (λ e. sym (alike.marks named) ∙ e, λ e. alike.marks named ∙ e);
}

pub values_are_local : ValuesAreLocal
values_are_local f s t a b alike agrees =
    values_are_kept f (λ u. u) s t a b (renames-nothing f s t alike) agrees
