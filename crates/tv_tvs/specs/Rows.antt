-- What is written of a row of values, and of the rows of a predicate one after the other.
use Rattle.std.specs.Prelude.{ℕ, ◌≡◌, ◌+◌, List, [], ◌++◌, length, take}
use Rattle.std.specs.Prelude.{Some, None, slice_index_or, codes}
use Rattle.std.specs.List.{flat_map, range_with_len}
use Rattle.tv_kleene.specs.declared.K3.{K3}
use Rattle.tv_kleene.specs.declared.K3.TheVariants.{No, Half, Yes}
use Rattle.tv_tvs.specs.Tree.{ItemTree}
use Rattle.tv_tvs.specs.Canonical.{individual, written_one}

-- the text stands in the room behind the first `at` bytes, which stay, and ends at `end`
pub record IsPlaced (old new : List ℕ) (at : ℕ) (text : List ℕ) (end : ℕ) : Type 0 where
  pub bytes : take end new ≡ take at old ++ text
  pub moved : end ≡ at + length text
  pub length : length new ≡ length old

-- the name of an individual that ends an item, with the comma and the blank that part it from the next one
abbrev pub listed_name : ℕ → List ℕ
listed_name u = individual u ++ codes ", "

-- what is written of an individual with a value, behind a prefix
abbrev pub behind : (prefix : List ℕ) → ℕ → K3 → List ℕ
behind prefix u No = []
behind prefix u Half = prefix ++ (individual u ++ codes ":1/2, ")
behind prefix u Yes = prefix ++ listed_name u

-- the same of individuals with these values, and of those of a word of values, from the first one on
abbrev pub row_text : (prefix : List ℕ) → List K3 → List ℕ
row_text prefix values =
    flat_map (λ u. behind prefix u (slice_index_or values u No)) (range_with_len 0 (length values))

abbrev pub word_text : (prefix : List ℕ) → (first : ℕ) → List K3 → List ℕ
word_text prefix first values =
    flat_map (λ i. behind prefix (first + i) (slice_index_or values i No)) (range_with_len 0 64)

-- the prefix of the pairs that begin with an individual
abbrev pub pair_prefix : ℕ → List ℕ
pair_prefix u = individual u ++ codes "->"

-- texts, each with a comma and a blank behind it
abbrev pub ended_texts : List (List ℕ) → List ℕ
ended_texts texts = flat_map (λ text. text ++ codes ", ") texts

-- the items of a unary predicate with these values, and of the pairs that begin with an individual
abbrev pub single_items : List K3 → List ItemTree
single_items values =
    flat_map (λ u. written_one u None (slice_index_or values u No)) (range_with_len 0 (length values))

abbrev pub pair_items : ℕ → List K3 → List ItemTree
pair_items u values =
    flat_map (λ w. written_one u (Some w) (slice_index_or values w No)) (range_with_len 0 (length values))

-- the front of a predicate's line
abbrev pub line_front : (name : List ℕ) → List ℕ
line_front name = codes "  " ++ (name ++ codes " = {")
