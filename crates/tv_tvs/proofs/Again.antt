-- What is written of a structure means that structure.
use Rattle.std.proofs.Common.{ℕ, zero, suc, ◌≡◌, ◌≢◌, ◌<◌, ◌≤◌, ◌+◌, ◌⊎◌, inl, inr, Bool, true, false, cond}
use Rattle.std.proofs.Common.{List, [], ◌∷◌, ◌++◌, length, map, Some, Ok, refl, sym, ap, subst, ◌∙◌, arith}
use Rattle.std.proofs.Common.{eqb}
use Rattle.std.specs.Prelude.{slice_get, slice_index}
use Rattle.std.specs.List.{flat_map, cons_option, range_with_len, AllByRecursion, list_all}
use Rattle.std.proofs.lemmas.Bool.{cases_eq}
use Rattle.tv_kleene.specs.declared.K3.{K3}
use Rattle.tv_kleene.specs.declared.K3.TheVariants.{No, Half, Yes}
use Rattle.tv_structure_form.specs.TableForm.{HasEntry, AreIndividuals}
use Rattle.tv_structure_form.specs.StructureForm.{StructureForm, table_of, arities_of, value_at, summary_at}
use Rattle.tv_structure_form.specs.StructureForm.{with_value, with_summary}
use Rattle.tv_tvs.specs.Tree.{ItemTree}
use Rattle.tv_tvs.specs.Canonical.{individuals, tuples, tuple_item, written_item, written_items}
use Rattle.tv_tvs.specs.Canonical.{summary_value}
use Rattle.tv_tvs.specs.Meaning.{Subject, Summaries, Predicate, item_arity, item_value, tuple_of_item}
use Rattle.tv_tvs.specs.Meaning.{item_put, items_put}
use Rattle.tv_tvs.proofs.WrittenNumbers.{number_of_individual}
use Rattle.tv_tvs.proofs.Filled.{IsPart, Grows, Grows-same, Grows-then, Step, value_put_again, mark_put_again}

-- a tuple of one individual or two
abbrev pub IsTuple : (arity size : ℕ) → List ℕ → Type 0
IsTuple arity size t = (length t ≡ arity) × AreIndividuals size t

-- ---- all tuples

over_map : (P : List ℕ → Type 0) (u : ℕ) (ts : List (List ℕ)) → AllByRecursion (λ t. P (u ∷ t)) ts → AllByRecursion P (map (λ t. u ∷ t) ts)
over_map P u [] all = tt
over_map P u (t ∷ ts) all = (all.0, over_map P u ts all.1)

over_append : (P : List ℕ → Type 0) (ts us : List (List ℕ)) → AllByRecursion P ts → AllByRecursion P us → AllByRecursion P (ts ++ us)
over_append P [] us all others = others
over_append P (t ∷ ts) us all others = (all.0, over_append P ts us all.1 others)

over_range : (P : List ℕ → Type 0) (f : ℕ → List (List ℕ)) (a n : ℕ) → ((u : ℕ) → a ≤ u → u < a + n → AllByRecursion P (f u)) → AllByRecursion P (flat_map f (range_with_len a n))
over_range P f a zero all = tt
over_range P f a (suc n) all =
    over_append P (f a) (flat_map f (range_with_len (a + 1) n)) (all a (omega arith) (omega arith))
    (over_range P f (a + 1) n (λ u low high. all u (omega (arith, low)) (omega (arith, high))))

-- the tuples of an arity are tuples
pub tuples_are : (arity size : ℕ) → AllByRecursion (IsTuple arity size) (tuples arity size)
tuples_are zero size = ((refl, tt), tt)
tuples_are (suc n) size =
    over_range (IsTuple (suc n) size) (λ u. map (λ t. u ∷ t) (tuples n size)) 0 size
    (λ u low high. over_map (IsTuple (suc n) size) u (tuples n size) (longer u (omega (arith, high)) (tuples n size) (tuples_are n size)))
  where
    longer : (u : ℕ) → u < size → (ts : List (List ℕ)) → AllByRecursion (IsTuple n size) ts → AllByRecursion (λ t. IsTuple (suc n) size (u ∷ t)) ts
    longer u lt [] all = tt
    longer u lt (t ∷ ts) all = ((omega (arith, all.0.0), (lt, all.0.1)), longer u lt ts all.1)

from_map : (P : List ℕ → Type 0) (u : ℕ) (ts : List (List ℕ)) → AllByRecursion P (map (λ t. u ∷ t) ts) → AllByRecursion (λ t. P (u ∷ t)) ts
from_map P u [] all = tt
from_map P u (t ∷ ts) all = (all.0, from_map P u ts all.1)

from_append : (P : List ℕ → Type 0) (ts us : List (List ℕ)) → AllByRecursion P (ts ++ us) → AllByRecursion P ts × AllByRecursion P us
from_append P [] us all = (tt, all)
from_append P (t ∷ ts) us all = let both = from_append P ts us all.1 in ((all.0, both.0), both.1)

from_range : (P : List ℕ → Type 0) (f : ℕ → List (List ℕ)) (a n : ℕ) → AllByRecursion P (flat_map f (range_with_len a n)) → (u : ℕ) → a ≤ u → u < a + n → AllByRecursion P (f u)
from_range P f a zero all u low high = absurd (omega (arith, low, high))
from_range P f a (suc n) all u low high =
    let both = from_append P (f a) (flat_map f (range_with_len (a + 1) n)) all
    in elim (cases u a) [
      | inl e ↦ subst (λ v. AllByRecursion P (f v)) (sym e) both.0
      | inr more ↦ from_range P f (a + 1) n both.1 u (omega (arith, low, more)) (omega (arith, high))
    ]
  where
    cases : (u a : ℕ) → (u ≡ a) ⊎ (u ≢ a)
    cases u a = cases_eq u a

-- and they are all
pub tuples_all : (arity size : ℕ) (P : List ℕ → Type 0) → AllByRecursion P (tuples arity size) → (t : List ℕ) → IsTuple arity size t → P t
tuples_all zero size P all [] is = all.0
tuples_all zero size P all (u ∷ t) is = absurd (omega (arith, is.0))
tuples_all (suc n) size P all [] is = absurd (omega (arith, is.0))
tuples_all (suc n) size P all (u ∷ t) is =
    tuples_all n size (λ r. P (u ∷ r))
    (from_map P u (tuples n size) (from_range P (λ v. map (λ r. v ∷ r) (tuples n size)) 0 size all u (omega arith) (omega (arith, is.1.0)))) t
    (omega (arith, is.0), is.1.1)

-- ---- items mean their tuples

-- the individuals of a written item are those of its tuple
item_again : (size : ℕ) (t : List ℕ) (k : K3) (arity : ℕ) → size ≤ 256 → 1 ≤ arity → arity ≤ 2 → IsTuple arity size t
    → (tuple_of_item (individuals size) (tuple_item t k) ≡ Ok t) × (eqb (item_arity (tuple_item t k)) arity ≡ true)
item_again size [] k arity small low high is = absurd (omega (arith, is.0))
item_again size (u ∷ []) k arity small low high is =
    (rw (number_of_individual size u is.1.0 small) refl, let e : 1 ≡ arity = omega (arith, is.0) in rw (← e) refl)
item_again size (u ∷ w ∷ []) k arity small low high is = (
  rw (number_of_individual size u is.1.0 small, number_of_individual size w is.1.1.0 small) refl,
  let e : 2 ≡ arity = omega (arith, is.0) in rw (← e) refl,
)
item_again size (u ∷ w ∷ v ∷ t) k arity small low high is = absurd (omega (arith, is.0))

item_value_again : (t : List ℕ) (k : K3) → item_value (tuple_item t k) ≡ k
item_value_again t No = refl
item_value_again t Half = refl
item_value_again t Yes = refl

pub items_fit : (size arity : ℕ) (value : List ℕ → K3) → size ≤ 256 → 1 ≤ arity → arity ≤ 2 → (ts : List (List ℕ)) → AllByRecursion (IsTuple arity size) ts
    → list_all (λ item. eqb (item_arity item) arity) (written_items value ts) ≡ true
items_fit size arity value small low high [] all = refl
items_fit size arity value small low high (t ∷ ts) all = at (value t) (items_fit size arity value small low high ts all.1)
  where
    at : (k : K3) → list_all (λ item. eqb (item_arity item) arity) (written_items value ts) ≡ true
        → list_all (λ item. eqb (item_arity item) arity) (cons_option (written_item t k) (written_items value ts)) ≡ true
    at No rest = rest
    at Half rest = rw ((item_again size t Half arity small low high all.0).1) rest
    at Yes rest = rw ((item_again size t Yes arity small low high all.0).1) rest

-- what putting items comes to
pub record Put (individuals : List (List ℕ)) (subject : Subject) (c s : StructureForm) (items : List ItemTree) (Done : StructureForm → Type 0) : Type 0 where
  pub to : StructureForm
  pub put : items_put individuals subject c items ≡ Ok to
  pub step : Step c to s
  pub done : Done to

-- the written items of tuples, put one after the other
module _ (s : StructureForm) (subject : Subject) (value : List ℕ → K3) (Fit : List ℕ → Type 0) (Done : StructureForm → List ℕ → Type 0) (grown : (c d : StructureForm) (t : List ℕ) → Grows c d s → Done c t → Done d t) (none : (d : StructureForm) (t : List ℕ) → IsPart d s → value t ≡ No → Done d t) (one : (c : StructureForm) (t : List ℕ) (k : K3) → IsPart c s → Fit t → value t ≡ k → (k ≡ No → ⊥) → (d : StructureForm) × (item_put (individuals s.size) subject c (tuple_item t k) ≡ Ok d) × Step c d s × Done d t) where
  pub items_again : (ts : List (List ℕ)) → AllByRecursion Fit ts → (c : StructureForm) → IsPart c s
      → Put (individuals s.size) subject c s (written_items value ts) (λ d. AllByRecursion (Done d) ts)
  items_again [] fit c part = record { to = c; put = refl; step = record { part = part; grows = Grows-same c s }; done = tt }
  items_again (t ∷ ts) fit c part = at (λ b is. items_again ts fit.1 b is) (value t) refl
    where
      written : ((b : StructureForm) → IsPart b s → Put (individuals s.size) subject b s (written_items value ts) (λ d. AllByRecursion (Done d) ts))
          → (k : K3) → value t ≡ k → (k ≡ No → ⊥)
          → Put (individuals s.size) subject c s (tuple_item t k ∷ written_items value ts) (λ d. AllByRecursion (Done d) (t ∷ ts))
      written again k e some =
          let first = one c t k part fit.0 e some
          in let later = again first.0 first.2.part
          in record {
            to = later.to;
            put = rw (first.1) later.put;
            step = record { part = later.step.part; grows = Grows-then c first.0 later.to s first.2.grows later.step.grows };
            done = (grown first.0 later.to t later.step.grows first.3, later.done);
          }

      at : ((b : StructureForm) → IsPart b s → Put (individuals s.size) subject b s (written_items value ts) (λ d. AllByRecursion (Done d) ts))
          → (k : K3) → value t ≡ k
          → Put (individuals s.size) subject c s (cons_option (written_item t k) (written_items value ts)) (λ d. AllByRecursion (Done d) (t ∷ ts))
      at again No e =
          let later = again c part
          in record { to = later.to; put = later.put; step = later.step; done = (none later.to t later.step.part e, later.done) }
      at again Half e = written again Half e (λ h. cc)
      at again Yes e = written again Yes e (λ h. cc)

-- ---- a predicate's values

pub part_no : (d s : StructureForm) (p : ℕ) (t : List ℕ) → IsPart d s → value_at s p t ≡ No → value_at d p t ≡ value_at s p t
part_no d s p t part e = elim (part.values p t) [ inl is_no ↦ is_no ∙ sym e | inr same ↦ same ]

part_unmarked : (d s : StructureForm) (u : ℕ) → IsPart d s → summary_at s u ≡ false → summary_at d u ≡ summary_at s u
part_unmarked d s u part e = elim (part.marks u) [ inl is_no ↦ is_no ∙ sym e | inr same ↦ same ]

-- an entry of s is an entry of each part of it
pub has_entry : (c s : StructureForm) (p : ℕ) (t : List ℕ) (arity : ℕ) → IsPart c s → slice_get (arities_of s) p ≡ Some arity
    → IsTuple arity s.size t → HasEntry (table_of c) p t
has_entry c s p t arity part known is = record {
  arity = ap (λ as'. slice_get as' p) part.arities ∙ known ∙ ap Some (sym is.0);
  individuals = subst (λ n. AreIndividuals n t) (sym part.size) is.1;
}

pub values_again : (s : StructureForm) (p arity : ℕ) → s.size ≤ 256 → slice_get (arities_of s) p ≡ Some arity → 1 ≤ arity → arity ≤ 2
    → (c : StructureForm) → IsPart c s
    → Put (individuals s.size) (Predicate p arity) c s (written_items (value_at s p) (tuples arity s.size)) (λ d. AllByRecursion (λ t. value_at d p t ≡ value_at s p t) (tuples arity s.size))
values_again s p arity small known low high c part =
    items_again s (Predicate p arity) (value_at s p) (IsTuple arity s.size) (λ d t. value_at d p t ≡ value_at s p t)
    (λ b d t grows done. grows.values p t done) (λ d t is e. part_no d s p t is e)
    (λ b t k is fit e some.
    let has : HasEntry (table_of b) p t = has_entry b s p t arity is known fit
    in let again = value_put_again b s p t k is has (sym e)
    in (with_value b p t k, rw ((item_again s.size t k arity small low high fit).0, item_value_again t k) refl, again.0, again.1))
    (tuples arity s.size) (tuples_are arity s.size) c part

-- ---- summaries

summary_cases : (b : Bool) (k : K3) → cond b Half No ≡ k → (k ≡ No → ⊥) → (b ≡ true) × (k ≡ Half)
summary_cases true k e some = (refl, sym e)
summary_cases false k e some = absurd (some (sym e))

summary_none : (b : Bool) → cond b Half No ≡ No → b ≡ false
summary_none true e = absurd cc
summary_none false e = refl

pub marks_again : (s : StructureForm) → s.size ≤ 256 → (c : StructureForm) → IsPart c s
    → Put (individuals s.size) Summaries c s (written_items (summary_value s) (tuples 1 s.size)) (λ d. AllByRecursion (λ t. summary_at d (slice_index t 0) ≡ summary_at s (slice_index t 0)) (tuples 1 s.size))
marks_again s small c part =
    items_again s Summaries (summary_value s) (IsTuple 1 s.size) (λ d t. summary_at d (slice_index t 0) ≡ summary_at s (slice_index t 0))
    (λ b d t grows done. grows.marks (slice_index t 0) done)
    (λ d t is e. part_unmarked d s (slice_index t 0) is (summary_none (summary_at s (slice_index t 0)) e))
    (λ b t k is fit e some.
    let mark = summary_cases (summary_at s (slice_index t 0)) k e some
    in let lt : slice_index t 0 < b.size = rw (is.size) (first_lt t fit)
    in let again = mark_put_again b s (slice_index t 0) is lt mark.0
    in (
      with_summary b (slice_index t 0) true,
      rw ((item_again s.size t k 1 small (omega arith) (omega arith) fit).0, item_value_again t k, mark.1) refl,
      again.0,
      again.1,
    ))
    (tuples 1 s.size) (tuples_are 1 s.size) c part
  where
    first_lt : (t : List ℕ) → IsTuple 1 s.size t → slice_index t 0 < s.size
    first_lt [] is = absurd (omega (arith, is.0))
    first_lt (u ∷ t) is = is.1.0
