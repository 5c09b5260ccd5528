-- At how many tuples the predicates of a structure are unknown, and at how many more in another one.
use Rattle.std.specs.Prelude.{ℕ, zero, suc, ◌+◌, ◌-◌, List, [], ◌∷◌, ◌++◌, flat_map, length, slice_index_or}
use Rattle.std.specs.List.{range_with_len}
use Rattle.tv_structure_form.specs.Halves.{half_of}
use Rattle.tv_structure_form.specs.StructureForm.{StructureForm, arities_of, value_at}
use Rattle.tv_unknown.specs.declared.rise.Rise.{Rise}

-- the sum of f over the numbers below n
abbrev pub total : (f : ℕ → ℕ) → (n : ℕ) → ℕ
total f zero = 0
total f (suc n) = total f n + f n

-- at how many tuples that begin with these individuals, and have so many more, the predicate is unknown
abbrev pub unknown_from : StructureForm → (q : ℕ) → (first : List ℕ) → (more : ℕ) → ℕ
unknown_from s q first zero = half_of (value_at s q first)
unknown_from s q first (suc more) = total (λ u. unknown_from s q (first ++ u ∷ []) more) s.size

-- at how many tuples of its arity it is
abbrev pub unknown_count : StructureForm → (q : ℕ) → ℕ
unknown_count s q = unknown_from s q [] (slice_index_or (arities_of s) q 0)

-- the predicate with the number, where this isn't 0
abbrev pub rise_by : (q : ℕ) → (more : ℕ) → List Rise
rise_by q zero = []
rise_by q (suc n) = record { pred = q; more = suc n } ∷ []

-- the predicates that are unknown at more tuples in the second structure, in their order, with how many more
abbrev pub rises : (before after : StructureForm) → List Rise
rises before after = flat_map (λ q. rise_by q (unknown_count after q - unknown_count before q))
    (range_with_len 0 (length (arities_of before)))
