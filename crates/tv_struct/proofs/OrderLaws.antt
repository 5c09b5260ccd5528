-- What compares as equal is equal.
use Rattle.std.proofs.Common.{ℕ, ◌≡◌, ◌<◌, ◌≤◌, ◌⊎◌, inl, inr, ◌∙◌, length, drop, min, arith, ne_eqb, true}
use Rattle.std.proofs.Common.{false, List, [], ◌∷◌, None, refl, sym, subst, Less, Equal, Greater}
use Rattle.std.specs.Prelude.{◌↔◌}
use Rattle.std.specs.declared.cmp.Ordering.{Ordering}
use Rattle.std.specs.Ordering.{nat_cmp, bool_cmp, ordering_then}
use Rattle.std.proofs.lemmas.Cmp.{ranked, tied_itself}
use Rattle.std.specs.Cmp.{nat_cmp_total}
use Rattle.std.specs.Cmp.Lexicographic.{slice_cmp}
use Rattle.std.proofs.lemmas.Bool.{cases_lt, lt-ltb, le-ltb}
use Rattle.std.proofs.lemmas.List.{drop_all, drop_more}
use Rattle.tv_lemmas.proofs.Orderings.{then_equal}
use Rattle.tv_kleene.specs.declared.K3.TheVariants.{No, Half, Yes}
use Rattle.tv_row.specs.Bits.{value_cmp}
use Rattle.tv_struct.specs.Order.{plane_cmp, planes_cmp, structure_cmp, structure_cmp_total}
use Rattle.tv_structure_form.specs.StructureForm.{StructureForm, unmarked}
use Rattle.tv_structure_form.specs.TableForm.{PlaneForm, no_plane}

-- ---- what compares as equal is equal

abbrev IsExact : {X : Type 0} → (X → X → Ordering) → Type 0
IsExact {X} R = (x y : X) → R x y ≡ Equal → x ≡ y

nat_exact : IsExact nat_cmp
nat_exact x y e = ranked x y Equal (sym e)

bool_exact : IsExact bool_cmp
bool_exact false false e = refl
bool_exact false true e = cc
bool_exact true false e = cc
bool_exact true true e = refl

value_exact : IsExact value_cmp
value_exact No No e = refl
value_exact No Half e = cc
value_exact No Yes e = cc
value_exact Half No e = cc
value_exact Half Half e = refl
value_exact Half Yes e = cc
value_exact Yes No e = cc
value_exact Yes Half e = cc
value_exact Yes Yes e = refl

lists_exact : {X : Type 0} (R : X → X → Ordering) → IsExact R → IsExact (slice_cmp R)
lists_exact R exact [] [] e = refl
lists_exact R exact [] (y ∷ ys) e = cc
lists_exact R exact (x ∷ xs) [] e = cc
lists_exact R exact (x ∷ xs) (y ∷ ys) e =
    let both : (R x y ≡ Equal) × (slice_cmp R xs ys ≡ Equal) = then_equal (R x y) (slice_cmp R xs ys) e
    in let head : x ≡ y = exact x y both.0
    in let tail : xs ≡ ys = lists_exact R exact xs ys both.1
    in λ i. head i ∷ tail i

plane_exact : IsExact plane_cmp
plane_exact p q e =
    let both : (nat_cmp p.arity q.arity ≡ Equal) × (slice_cmp (slice_cmp value_cmp) p.rows q.rows ≡ Equal) = then_equal _ _ e
    in let arity : p.arity ≡ q.arity = nat_exact _ _ both.0
    in let rows : p.rows ≡ q.rows
    = lists_exact (slice_cmp value_cmp) (lists_exact value_cmp value_exact) p.rows q.rows both.1
    in λ i. record { arity = arity i; rows = rows i }

pub structure_cmp-Equal : (a b : StructureForm) → structure_cmp a b ≡ Equal → unmarked a ≡ unmarked b
structure_cmp-Equal a b e =
    let both : (nat_cmp a.size b.size ≡ Equal)
    × (ordering_then (slice_cmp bool_cmp a.summaries b.summaries) (planes_cmp a.planes b.planes) ≡ Equal)
    = then_equal _ _ e
    in let later : (slice_cmp bool_cmp a.summaries b.summaries ≡ Equal) × (planes_cmp a.planes b.planes ≡ Equal)
    = then_equal _ _ both.1
    in let size : a.size ≡ b.size = nat_exact _ _ both.0
    in let summaries : a.summaries ≡ b.summaries = lists_exact bool_cmp bool_exact a.summaries b.summaries later.0
    in let planes : a.planes ≡ b.planes = lists_exact plane_cmp plane_exact a.planes b.planes later.1
    in λ i. record { size = size i; summaries = summaries i; planes = planes i; fresh = None }

pub Equal-from_unmarked : (a b : StructureForm) → unmarked a ≡ unmarked b → structure_cmp a b ≡ Equal
Equal-from_unmarked a b e =
    let P : StructureForm → Type 0 = λ s. structure_cmp (unmarked a) s ≡ Equal
    in subst P e (tied_itself structure_cmp_total (unmarked a))

-- an answer of `compare` tells whether two structures are the same
pub same_from_order : (a b : StructureForm) (r : Ordering) → r ≡ structure_cmp a b
    → (r ≡ Equal) ↔ (unmarked a ≡ unmarked b)
same_from_order a b r e =
    (λ equal. structure_cmp-Equal a b (sym e ∙ equal), λ same. e ∙ Equal-from_unmarked a b same)

-- ---- what is left to compare at the end of the shorter list

lt_less : (m n : ℕ) → m < n → nat_cmp m n ≡ Less
lt_less m n lt = rw (lt-ltb m n lt) refl

lt_greater : (m n : ℕ) → n < m → nat_cmp m n ≡ Greater
lt_greater m n lt = rw (le-ltb m n (omega arith), ne_eqb m n (λ e. omega arith)) refl

pub planes_cmp-rest : (xs ys : List PlaneForm) (i : ℕ) → i ≡ min (length xs) (length ys)
    → planes_cmp (drop i xs) (drop i ys) ≡ nat_cmp (length xs) (length ys)
planes_cmp-rest xs ys i e = at (cases_lt (length xs) (length ys)) (cases_lt (length ys) (length xs))
  where
    at : (length xs < length ys) ⊎ (length ys ≤ length xs) → (length ys < length xs) ⊎ (length xs ≤ length ys)
        → planes_cmp (drop i xs) (drop i ys) ≡ nat_cmp (length xs) (length ys)
    at (inl shorter) other =
        rw (drop_all i xs (omega (arith, e)), drop_more ys i no_plane (omega (arith, e))) (sym (lt_less (length xs) (length ys) shorter))
    at (inr le) (inl longer) =
        rw (drop_more xs i no_plane (omega (arith, e)), drop_all i ys (omega (arith, e))) (sym (lt_greater (length xs) (length ys) longer))
    at (inr le) (inr ge) =
        let same : length xs ≡ length ys = omega arith
        in rw (drop_all i xs (omega (arith, e)), drop_all i ys (omega (arith, e)), same) (sym (tied_itself nat_cmp_total (length ys)))
