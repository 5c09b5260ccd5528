-- What is named as the first of its kind is one.
use Rattle.std.proofs.Common.{ℕ, zero, suc, ◌≡◌, ◌<◌, ◌≤◌, ◌⊎◌, inl, inr, List, [], ◌∷◌, take, Option, Some}
use Rattle.std.proofs.Common.{None, Contains, IsTrue, refl, sym, ap, subst, ◌∙◌, arith, Less, Equal, Greater}
use Rattle.std.specs.Prelude.{slice_get}
use Rattle.std.specs.Option.{option_map}
use Rattle.std.specs.Ordering.{nat_cmp, is_le, ordering_reverse, ordering_then}
use Rattle.std.specs.Cmp.Lexicographic.{slice_cmp}
use Rattle.std.specs.Cmp.{nat_cmp_total}
use Rattle.std.proofs.lemmas.Bool.{cases_lt, false≢true, lt-ltb}
use Rattle.std.proofs.lemmas.Cmp.{tied_itself}
use Rattle.std.proofs.lemmas.List.Elements.{All-contains}
use Rattle.std.proofs.lemmas.Option.{same_Some}
use Rattle.tv_embed.specs.Maps.{IsLeastEmbedding}
use Rattle.tv_embedding_laws.specs.Embedding.{IsHeapOf}
use Rattle.tv_model.specs.Heap.{Heap}
use Rattle.tv_model.specs.Program.{PredForm, RuleForm}
use Rattle.tv_model.specs.Rules.{MeetsRule}
use Rattle.tv_model.proofs.Lists.{Contains-here, Contains-there, slice_get-contains}
use Rattle.tv_structure_form.specs.StructureForm.{StructureForm, IsStructure, structure_of}
use Rattle.tv_two_valued.specs.TwoValued.{IsTwoValued, heap_of}
use Rattle.tv_replay_laws.specs.Above.{IsFirstAbove, IsNotAbove}
use Rattle.tv_replay_laws.specs.Judged.{IsFirst}
use Rattle.tv_replay_laws.specs.JudgedRules.{IsFirstUnmet}
use Rattle.tv_replay_laws.specs.declared.state.ListedCover.{ListedCover}
use Rattle.tv_replay_laws.proofs.Named.{embeds-heap}

-- the least number of which it holds; none where it holds of none
abbrev IsLeast : (ℕ → Type 0) → Option ℕ → Type 0
IsLeast Is None = (n : ℕ) → ¬ Is n
IsLeast Is (Some n) = Is n × ((k : ℕ) → k < n → ¬ Is k)

one-least : (Is : ℕ → Type 0) (a b : Option ℕ) → IsLeast Is a → IsLeast Is b → a ≡ b
one-least Is None None x y = refl
one-least Is None (Some n) x y = absurd (x n y.0)
one-least Is (Some n) None x y = absurd (y n x.0)
one-least Is (Some n) (Some m) x y = ap Some (at (cases_lt n m) (cases_lt m n))
  where
    at : (n < m) ⊎ (m ≤ n) → (m < n) ⊎ (n ≤ m) → n ≡ m
    at (inl lt) other = absurd (y.1 n lt x.0)
    at (inr le) (inl lt) = absurd (x.1 m lt y.0)
    at (inr le) (inr ge) = omega (arith, le, ge)

-- an element before place n is among the first n
early : {X : Type 0} (xs : List X) (n k : ℕ) (x : X) → k < n → slice_get xs k ≡ Some x → Contains (take n xs) x
early [] n k x lt found = absurd (none found)
  where
    none : None ≡ Some x → ⊥
    none e = cc
early (y ∷ xs) zero k x lt found = absurd (omega (arith, lt))
early (y ∷ xs) (suc n) zero x lt found = subst (Contains (y ∷ take n xs)) (same_Some y x found) (Contains-here y (take n xs))
early (y ∷ xs) (suc n) (suc k) x lt found = Contains-there y x (take n xs) (early xs n k x (omega (arith, lt)) found)

-- ---- predicates and rules

abbrev BreaksAt : List PredForm → (ℕ → PredForm → Type 0) → ℕ → Type 0
BreaksAt preds P q = (d : PredForm) × (slice_get preds q ≡ Some d) × (¬ P q d)

pub one-pred : (preds : List PredForm) (P : ℕ → PredForm → Type 0) (a b : Option ℕ) → IsFirst preds P a → IsFirst preds P b → a ≡ b
one-pred preds P a b x y = one-least (BreaksAt preds P) a b (least a x) (least b y)
  where
    least : (o : Option ℕ) → IsFirst preds P o → IsLeast (BreaksAt preds P) o
    least None each = λ q bad. bad.2 (each q bad.0 bad.1)
    least (Some q) first = (first.0, λ k lt bad. bad.2 (first.1 k bad.0 lt bad.1))

abbrev IsUnmet : Heap → List RuleForm → ℕ → Type 0
IsUnmet h rules n = (rule : RuleForm) × (slice_get rules n ≡ Some rule) × (¬ MeetsRule h rule)

pub one-rule : (h : Heap) (rules : List RuleForm) (a b : Option ℕ) → IsFirstUnmet h rules a → IsFirstUnmet h rules b → a ≡ b
one-rule h rules a b x y = one-least (IsUnmet h rules) a b (least a x) (least b y)
  where
    least : (o : Option ℕ) → IsFirstUnmet h rules o → IsLeast (IsUnmet h rules) o
    least None all = λ n bad. bad.2 (All-contains (MeetsRule h) rules bad.0 all (slice_get-contains rules n bad.0 bad.1))
    least (Some n) first =
        (first.0, λ k lt bad. bad.2 (All-contains (MeetsRule h) (take n rules) bad.0 first.1 (early rules n k bad.0 lt bad.1)))

-- ---- places

cmp-greater : (x y : ℕ) → x < y → nat_cmp y x ≡ Greater
cmp-greater x y lt =
    let less : nat_cmp x y ≡ Less = rw (lt-ltb x y lt) refl
    in nat_cmp_total.antisymm y x ∙ ap ordering_reverse less

cmp-equal : (x y : ℕ) → x ≡ y → nat_cmp x y ≡ Equal
cmp-equal x y same = rw same (tied_itself nat_cmp_total y)

-- lists of which neither comes behind the other are one
le-both : (xs ys : List ℕ) → IsTrue (is_le (slice_cmp nat_cmp xs ys)) → IsTrue (is_le (slice_cmp nat_cmp ys xs)) → xs ≡ ys
le-both [] [] one two = refl
le-both [] (y ∷ ys) one two = absurd (false≢true two)
le-both (x ∷ xs) [] one two = absurd (false≢true one)
le-both (x ∷ xs) (y ∷ ys) one two = at (le-both xs ys) (cases_lt x y) (cases_lt y x)
  where
    at : (IsTrue (is_le (slice_cmp nat_cmp xs ys)) → IsTrue (is_le (slice_cmp nat_cmp ys xs)) → xs ≡ ys) → (x < y) ⊎ (y ≤ x) → (y < x) ⊎ (x ≤ y)
        → x ∷ xs ≡ y ∷ ys
    at later (inl lt) other = absurd (false≢true (subst (λ o. IsTrue (is_le (ordering_then o (slice_cmp nat_cmp ys xs)))) (cmp-greater x y lt) two))
    at later (inr le) (inl lt) = absurd (false≢true (subst (λ o. IsTrue (is_le (ordering_then o (slice_cmp nat_cmp xs ys)))) (cmp-greater y x lt) one))
    at later (inr le) (inr ge) =
        let same : x ≡ y = omega (arith, le, ge)
        in let rest : xs ≡ ys
        = later
        (subst (λ o. IsTrue (is_le (ordering_then o (slice_cmp nat_cmp xs ys)))) (cmp-equal x y same) one)
        (subst (λ o. IsTrue (is_le (ordering_then o (slice_cmp nat_cmp ys xs)))) (cmp-equal y x (sym same)) two)
        in λ i. same i ∷ rest i

abbrev IsAboveAt : StructureForm → List StructureForm → ℕ → Type 0
IsAboveAt s ts n = (t : StructureForm) × (slice_get ts n ≡ Some t) × IsHeapOf (heap_of s) (structure_of t)

pub one-place : (s : StructureForm) (ts : List StructureForm) → IsStructure s → IsTwoValued s → (a b : Option ListedCover) → IsFirstAbove s ts a
    → IsFirstAbove s ts b → a ≡ b
one-place s ts is two a b x y = by_places a b x y (one-least (IsAboveAt s ts) (number a) (number b) (least a x) (least b y))
  where
    number : Option ListedCover → Option ℕ
    number o = option_map (λ (p : ListedCover). p.structure) o

    least : (o : Option ListedCover) → IsFirstAbove s ts o → IsLeast (IsAboveAt s ts) (option_map (λ (p : ListedCover). p.structure) o)
    least None all = λ n bad. All-contains (IsNotAbove s) ts bad.0 all (slice_get-contains ts n bad.0 bad.1) bad.2
    least (Some p) first = (
      (first.0.0, first.0.1, embeds-heap s first.0.0 _ is two first.0.2.0.1),
      λ k lt bad. All-contains (IsNotAbove s) (take p.structure ts) bad.0 first.1 (early ts p.structure k bad.0 lt bad.1) bad.2,
    )

    by_places : (a b : Option ListedCover) → IsFirstAbove s ts a → IsFirstAbove s ts b
        → option_map (λ (p : ListedCover). p.structure) a ≡ option_map (λ (p : ListedCover). p.structure) b → a ≡ b
    by_places None None x y e = refl
    by_places None (Some q) x y e = absurd cc
    by_places (Some p) None x y e = absurd cc
    by_places (Some p) (Some q) x y e =
        let numbers : p.structure ≡ q.structure = same_Some p.structure q.structure e
        in let same : x.0.0 ≡ y.0.0 = same_Some x.0.0 y.0.0 (sym x.0.1 ∙ ap (slice_get ts) numbers ∙ y.0.1)
        in let other : IsLeastEmbedding s x.0.0 q.map = subst (λ t. IsLeastEmbedding s t q.map) (sym same) y.0.2
        in let maps : p.map ≡ q.map = le-both p.map q.map (x.0.2.1 q.map other.0) (other.1 p.map x.0.2.0)
        in let place : p ≡ q = λ i. record { structure = numbers i; map = maps i }
        in ap Some place
