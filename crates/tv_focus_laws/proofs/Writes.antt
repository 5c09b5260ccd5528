-- Tables with values put in one after the other.
use Rattle.std.proofs.Common.{ℕ, ◌≡◌, ◌≢◌, ◌<◌, ◌≤◌, ◌+◌, ◌-◌, zero, suc, Bool, true, false, cond, eqb, List}
use Rattle.std.proofs.Common.{[], ◌∷◌, ◌++◌, ◌⊎◌, inl, inr, ⊎_elim, Option, Some, None, length, get_or, map}
use Rattle.std.proofs.Common.{take, replicate, sum, refl, sym, ap, subst, ◌∙◌, arith, All, Contains, eq-eqb}
use Rattle.std.proofs.Common.{ne_eqb, length-append}
use Rattle.std.specs.Prelude.{fold, slice_get}
use Rattle.std.proofs.lemmas.Bool.{cases_lt}
use Rattle.std.proofs.lemmas.List.{get_or_append_left, get_or-append-add, get_or-replicate, length-replicate}
use Rattle.std.proofs.lemmas.List.{get_or_past}
use Rattle.std.proofs.lemmas.List.Sums.{sum_by-cons}
use Rattle.std.proofs.lemmas.List.Elements.{All-head, All-tail}
use Rattle.tv_kleene.specs.declared.K3.{K3}
use Rattle.tv_model.proofs.Lists.{Contains-here, Contains-there, Contains-none, Contains-cases}
use Rattle.tv_structure_form.specs.TableForm.{HasEntry, AreIndividuals}
use Rattle.tv_structure_form.specs.StructureForm.{StructureForm, IsStructure, IsMark, with_value, copies_from}
use Rattle.tv_structure_form.specs.StructureForm.{table_of, value_at, summary_at, arities_of}
use Rattle.tv_structure_form.specs.Laws.{WritesOneEntry}
use Rattle.tv_structure_form.proofs.StructureLaws.{writes_one_entry}
use Rattle.tv_structure_form.proofs.TableLaws.{IsTable-with_entry}
use Rattle.tv_structure_form.proofs.HalfLaws.{tuples_decided}
use Rattle.tv_focus_laws.specs.Written.{WriteForm, written}

-- what two lists write, one after the other
pub written_append : (t : StructureForm) (p : ℕ) (xs ys : List WriteForm)
    → written t p (xs ++ ys) ≡ written (written t p xs) p ys
written_append t p [] ys = refl
written_append t p (x ∷ xs) ys = written_append (with_value t p x.tuple x.value) p xs ys

-- ---- one value

mark-with_value : (s : StructureForm) (pred : ℕ) (tuple : List ℕ) (k : K3) (fresh : Option ℕ) → IsMark s fresh
    → IsMark (with_value s pred tuple k) fresh
mark-with_value s pred tuple k None is = tt
mark-with_value s pred tuple k (Some u) is = is

pub IsStructure-with_value : (s : StructureForm) (pred : ℕ) (tuple : List ℕ) (k : K3) → IsStructure s
    → HasEntry (table_of s) pred tuple → IsStructure (with_value s pred tuple k)
IsStructure-with_value s pred tuple k is has = record {
  table = IsTable-with_entry (table_of s) pred tuple k is.table has;
  summaries = is.summaries;
  fresh = mark-with_value s pred tuple k s.fresh is.fresh;
}

pub HasEntry-with_value : (s : StructureForm) (pred : ℕ) (tuple : List ℕ) (k : K3) → IsStructure s → HasEntry (table_of s) pred tuple
    → (q : ℕ) (other : List ℕ) → HasEntry (table_of s) q other → HasEntry (table_of (with_value s pred tuple k)) q other
HasEntry-with_value s pred tuple k is has q other at =
    let w : WritesOneEntry s pred tuple k = writes_one_entry s pred tuple k is has
    in record { arity = ap (λ xs. slice_get xs q) w.arities ∙ at.arity; individuals = at.individuals }

-- ---- several values

-- the value put at the tuple last, or k where none is put there
abbrev pub told : List WriteForm → List ℕ → K3 → K3 → Type 0
told writes tuple k x = (((w : WriteForm) → Contains writes w → w.tuple ≡ tuple → w.value ≡ x))
    × (((w : WriteForm) × Contains writes w × (w.tuple ≡ tuple)) ⊎ (k ≡ x))

-- what stays and what changes
pub record IsWritten (s t : StructureForm) (pred : ℕ) (writes : List WriteForm) : Type 0 where
  pub is : IsStructure t
  pub size : t.size ≡ s.size
  pub over : arities_of t ≡ arities_of s
  pub summaries : t.summaries ≡ s.summaries
  pub fresh : t.fresh ≡ s.fresh
  pub others : (q : ℕ) (tuple : List ℕ) → q ≢ pred → value_at t q tuple ≡ value_at s q tuple
  pub values : (tuple : List ℕ) (x : K3) → told writes tuple (value_at s pred tuple) x → value_at t pred tuple ≡ x

abbrev pub Fit : StructureForm → (pred : ℕ) → List WriteForm → Type 0
Fit s pred writes = All (λ w. HasEntry (table_of s) pred w.tuple) writes

pub is_written : (s : StructureForm) (pred : ℕ) (writes : List WriteForm) → IsStructure s → Fit s pred writes
    → IsWritten s (written s pred writes) pred writes
is_written s pred [] is fit = record {
  is = is;
  size = refl;
  over = refl;
  summaries = refl;
  fresh = refl;
  others = λ q tuple ne. refl;
  values = λ tuple x (each, some). ⊎_elim (λ (w, at, e). absurd (Contains-none w at)) (λ same. same) some;
}
is_written s pred (w ∷ writes) is fit =
    let has : HasEntry (table_of s) pred w.tuple = All-head (λ v. HasEntry (table_of s) pred v.tuple) w writes fit
    in let one : WritesOneEntry s pred w.tuple w.value = writes_one_entry s pred w.tuple w.value is has
    in let next : StructureForm = with_value s pred w.tuple w.value
    in let rest : IsWritten next (written next pred writes) pred writes
    = is_written next pred writes (IsStructure-with_value s pred w.tuple w.value is has)
    (λ k d lt. HasEntry-with_value s pred w.tuple w.value is has pred (get_or writes k d).tuple
    (All-tail (λ v. HasEntry (table_of s) pred v.tuple) w writes fit k d lt))
    in record {
      is = rest.is;
      size = rest.size;
      over = rest.over ∙ one.arities;
      summaries = rest.summaries;
      fresh = rest.fresh;
      others = λ q tuple ne. rest.others q tuple ne ∙ one.others q tuple (λ both. ne both.0);
      values = λ tuple x (each, some).
          ⊎_elim
          (λ e. let At : List ℕ → Type 0 = λ us. value_at next pred us ≡ x
          in rest.values tuple x (
            λ v at same. each v (Contains-there w v writes at) same,
            inr (subst At e (one.written ∙ each w (Contains-here w writes) e)),
          ))
          (λ ne. let kept : value_at next pred tuple ≡ value_at s pred tuple = one.others pred tuple (λ both. ne (sym both.1))
          in rest.values tuple x (
            λ v at same. each v (Contains-there w v writes at) same,
            ⊎_elim
                (λ (v, at, same). ⊎_elim
                (λ here. let Of : WriteForm → Type 0 = λ y. y.tuple ≡ tuple in absurd (ne (subst Of (sym here) same)))
                (λ there. inl (v, there, same))
                (Contains-cases w v writes at))
                (λ same. inr (kept ∙ same))
                some,
          ))
          (tuples_decided w.tuple tuple);
    }

-- ---- copies

-- a copy of the first individual
of-first : (n part : ℕ) (parts : List ℕ) (l : ℕ) → l < part → get_or (copies_from n (part ∷ parts)) l 0 ≡ n
of-first n part parts l first =
    get_or_append_left (replicate part n) (copies_from (n + 1) parts) 0 l (omega (arith, length-replicate part n, first))
    ∙ get_or-replicate part l n 0 first

-- a copy behind those of the first individual is one of the others'
behind-first : (n part : ℕ) (parts : List ℕ) (l : ℕ) → part ≤ l → l < length (copies_from n (part ∷ parts))
    → (l - part < length (copies_from (n + 1) parts))
    × (get_or (copies_from n (part ∷ parts)) l 0 ≡ get_or (copies_from (n + 1) parts) (l - part) 0)
behind-first n part parts l later lt =
    let place : length (replicate part n) + (l - part) ≡ l = omega (arith, length-replicate part n, later)
    in (
      omega (arith, lt, later, length-append (replicate part n) (copies_from (n + 1) parts), length-replicate part n),
      ap (λ k. get_or (replicate part n ++ copies_from (n + 1) parts) k 0) (sym place)
          ∙ get_or-append-add (replicate part n) (copies_from (n + 1) parts) (l - part) 0,
    )

-- the numbers of copies begin at n
copies-above : (n : ℕ) (parts : List ℕ) (l : ℕ) → l < length (copies_from n parts) → n ≤ get_or (copies_from n parts) l 0
copies-above n [] l lt = absurd (omega (arith, lt))
copies-above n (part ∷ parts) l lt =
    ⊎_elim
    (λ first. let e = of-first n part parts l first
    in omega arith)
    (λ later. let behind = behind-first n part parts l later lt
    in let e = behind.1
    in omega (arith, e, copies-above (n + 1) parts (l - part) behind.0))
    (cases_lt l part)

-- an individual with one copy has it at one place
pub sole-copy : (n : ℕ) (parts : List ℕ) (l u w : ℕ) → n + u ≡ w → l < length (copies_from n parts) → get_or (copies_from n parts) l 0 ≡ w
    → u < length parts → get_or parts u 0 ≡ 1 → l ≡ sum (take u parts)
sole-copy n [] l u w sum_is lt is inside one = absurd (omega (arith, inside))
sole-copy n (part ∷ parts) l zero w sum_is lt is inside one =
    ⊎_elim
    (λ first. omega (arith, first, one))
    (λ later. let behind = behind-first n part parts l later lt
    in let e = behind.1
    in absurd (omega (arith, e, is, sum_is, copies-above (n + 1) parts (l - part) behind.0)))
    (cases_lt l part)
sole-copy n (part ∷ parts) l (suc u) w sum_is lt is inside one =
    ⊎_elim
    (λ first. let e = of-first n part parts l first
    in absurd (omega (arith, e, is, sum_is)))
    (λ later. let behind = behind-first n part parts l later lt
    in let e = behind.1
    in let rest : l - part ≡ sum (take u parts)
    = sole-copy (n + 1) parts (l - part) u w (omega (arith, sum_is)) behind.0 (sym e ∙ is) (omega (arith, inside)) one
    in omega (arith, rest, later, sum_by-cons (λ x. x) part (take u parts)))
    (cases_lt l part)
