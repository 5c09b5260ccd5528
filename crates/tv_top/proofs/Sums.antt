-- Structures at one node and at all of them, and texts one behind the other.
use Rattle.std.proofs.Common.{◌≡◌, ◌≤◌, ◌<◌, ◌^◌, ◌++◌, ℕ, zero, suc, List, [], ◌∷◌, length, get_or, ap, ◌∙◌}
use Rattle.std.proofs.Common.{append_assoc, arith}
use Rattle.std.specs.Prelude.{sum_by, All}
use Rattle.std.proofs.lemmas.List.Sums.{sum_by-cons}
use Rattle.tv_structure_form.specs.StructureForm.{StructureForm}

one_of_all : (xs : List (List StructureForm)) (k : ℕ) (d : List StructureForm) → k < length xs
    → length (get_or xs k d) ≤ sum_by length xs
one_of_all [] k d lt = absurd (omega arith)
one_of_all (x ∷ xs) zero d lt = omega (arith, sum_by-cons length x xs)
one_of_all (x ∷ xs) (suc k) d lt =
    let inside : k < length xs = omega (arith, lt) in omega (arith, one_of_all xs k d inside, sum_by-cons length x xs)

pub each_few : (xs : List (List StructureForm)) (max : ℕ) → sum_by length xs ≤ max → max ≤ 100000
    → All (λ ss. length ss < 2 ^ 32) xs
each_few xs max within few = λ k d lt. omega (arith, one_of_all xs k d lt, within, few)

-- what stands behind two numbers with labels
pub behind_pair : (old new a n b m more : List ℕ) → new ≡ old ++ (a ++ (n ++ (b ++ m)))
    → new ++ more ≡ old ++ (a ++ (n ++ (b ++ (m ++ more))))
behind_pair old new a n b m more e = ap (λ xs. xs ++ more) e
    ∙ append_assoc old (a ++ (n ++ (b ++ m))) more
    ∙ ap (λ xs. old ++ xs) (append_assoc a (n ++ (b ++ m)) more
    ∙ ap (λ xs. a ++ xs) (append_assoc n (b ++ m) more ∙ ap (λ xs. n ++ xs) (append_assoc b m more)))
