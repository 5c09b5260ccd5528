-- Sets of identifiers, as lists in order of first sight.
use Rattle.std.specs.Prelude.{ℕ, not, List, [], ◌∷◌, ◌++◌, Option, Some, None, Result, Ok, Err, if◌then◌else◌}
use Rattle.std.specs.Prelude.{fold, filter, map}
use Rattle.std.specs.Str.{bytes_eq}
use Rattle.std.specs.Map.{lookup}
use Rattle.tv_tree.specs.Forms.{SetForm, SNamed, SMembers, SParen, SPlus, SMinus}
use Rattle.tv_tree.specs.Names.{is_among}
use Rattle.tv_flat.specs.Replaced.{Binding, replaced}
use Rattle.tv_expand.specs.declared.error.ExpandError.{ExpandError}
use Rattle.tv_expand.specs.declared.error.ExpandError.TheVariants.{NameUnknown, NameTwice}
use Rattle.tv_expand.specs.Outcome.{◌>>=◌}

-- a word stands once in the list, where it was first seen
abbrev pub sight : List (List ℕ) → List ℕ → List (List ℕ)
sight seen x = if is_among seen x then seen else seen ++ x ∷ []

abbrev pub with_members : List (List ℕ) → List (List ℕ) → List (List ℕ)
with_members xs ys = fold sight xs ys

abbrev pub without_members : List (List ℕ) → List (List ℕ) → List (List ℕ)
without_members xs ys = with_members [] (filter (λ x. not (is_among ys x)) xs)

-- the sets that are declared so far, each with its members
abbrev pub Sets : Type 0
Sets = List (List ℕ × List (List ℕ))

abbrev pub find_set : Sets → List ℕ → Option (List (List ℕ))
find_set sets name = lookup (bytes_eq name) sets

abbrev pub known : {X : Type 0} → Option X → Result X ExpandError
known None = Err NameUnknown
known (Some x) = Ok x

-- The members of an expression for a set. The identifiers in its braces are replaced, and the names of sets
-- are not.
abbrev pub members_of : Sets → Binding → SetForm → Result (List (List ℕ)) ExpandError
members_of sets binding (SNamed name) = known (find_set sets name)
members_of sets binding (SMembers xs) = Ok (with_members [] (map (replaced binding) xs))
members_of sets binding (SParen s) = members_of sets binding s
members_of sets binding (SPlus s t) =
    members_of sets binding s >>= λ xs. members_of sets binding t >>= λ ys. Ok (with_members xs ys)
members_of sets binding (SMinus s t) =
    members_of sets binding s >>= λ xs. members_of sets binding t >>= λ ys. Ok (without_members xs ys)

-- a name that must not have been seen before
abbrev pub once : List ℕ → List (List ℕ) → Result (List (List ℕ)) ExpandError
once name seen = if is_among seen name then Err NameTwice else Ok (seen ++ name ∷ [])
