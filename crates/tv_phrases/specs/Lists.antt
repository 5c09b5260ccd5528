-- Phrases of several tokens: comma lists, what stands in brackets, and names.
use Rattle.std.specs.Prelude.{ℕ, List, [], ◌∷◌, ◌++◌, Bool, true, false, Option, Some, None, is_some}
use Rattle.std.specs.Prelude.{if◌then◌else◌, codes}
use Rattle.tv_lex.specs.Token.{SpecToken}
use Rattle.tv_phrases.specs.declared.kinds.Brackets.{Brackets}
use Rattle.tv_phrases.specs.declared.kinds.Brackets.TheVariants.{Round, Square, Curly}
use Rattle.tv_phrases.specs.declared.kinds.Item.{Item}
use Rattle.tv_phrases.specs.Reading.{Reading, ◌>>=◌, choose}
use Rattle.tv_phrases.specs.Tokens.{after, first, item_of, identifier_item}

-- a list with items before it
unfoldable pub with_front : {X : Type 0} → List X → Reading (List X) → Reading (List X)
with_front xs read = read >>= λ more. Some (xs ++ more.0, more.1)

-- the items of a comma list from an item on, or, where the flag is false, from behind an item on
unfoldable pub items_from : {X : Type 0} → (SpecToken → Option X) → Bool → List SpecToken → Reading (List X)
items_from item true [] = None
items_from item true (t ∷ ts) = item t >>= λ x. with_front (x ∷ []) (items_from item false ts)
items_from item false [] = Some ([], [])
items_from item false (t ∷ ts) =
    choose (after (codes ",") (t ∷ ts)) (Some ([], t ∷ ts)) (λ us. items_from item true ts)

-- one item or more, with commas between them
abbrev pub comma_list : {X : Type 0} → (SpecToken → Option X) → List SpecToken → Reading (List X)
comma_list item ts = items_from item true ts

-- a comma list, taken exactly where the first token can begin it
unfoldable pub optional_list : {X : Type 0} → (SpecToken → Option X) → List SpecToken → Reading (List X)
optional_list item ts = if is_some (first item ts) then comma_list item ts else Some ([], ts)

-- a phrase between two marks
unfoldable pub between : {X : Type 0} → List ℕ → List ℕ → (List SpecToken → Reading X) → List SpecToken
    → Reading X
between open_mark close_mark read ts = do
  us ← after open_mark ts
  x ← read us
  rest ← after close_mark x.1
  Some (x.0, rest)

abbrev pub opening : Brackets → List ℕ
opening Round = codes "("
opening Square = codes "["
opening Curly = codes "{"

abbrev pub closing : Brackets → List ℕ
closing Round = codes ")"
closing Square = codes "]"
closing Curly = codes "}"

-- one item or more between brackets
abbrev pub list_in : Brackets → Item → List SpecToken → Reading (List (List ℕ))
list_in brackets item ts = between (opening brackets) (closing brackets) (comma_list (item_of item)) ts

-- any number of items between brackets
abbrev pub optional_list_in : Brackets → Item → List SpecToken → Reading (List (List ℕ))
optional_list_in brackets item ts =
    between (opening brackets) (closing brackets) (optional_list (item_of item)) ts

-- parameters: identifiers between parentheses, or none
abbrev pub params : List SpecToken → Reading (List (List ℕ))
params ts = between (codes "(") (codes ")") (optional_list identifier_item) ts

-- variables: one identifier or more between parentheses
abbrev pub variables : List SpecToken → Reading (List (List ℕ))
variables ts = between (codes "(") (codes ")") (comma_list identifier_item) ts

-- identifiers in brackets, taken exactly where `[` stands
unfoldable pub optional_brackets : List SpecToken → Reading (List (List ℕ))
optional_brackets ts =
    choose (after (codes "[") ts) (Some ([], ts))
    (λ us. between (codes "[") (codes "]") (comma_list identifier_item) ts)

-- an identifier, and those in brackets behind it
unfoldable pub name : List SpecToken → Reading (List ℕ × List (List ℕ))
name ts = do
  word ← first identifier_item ts
  brackets ← optional_brackets word.1
  Some ((word.0, brackets.0), brackets.1)

-- two identifiers with a comma between them
unfoldable pub two_items : List SpecToken → Reading (List ℕ × List ℕ)
two_items ts = do
  left ← first identifier_item ts
  us ← after (codes ",") left.1
  right ← first identifier_item us
  Some ((left.0, right.0), right.1)

-- two identifiers between parentheses
abbrev pub pair : List SpecToken → Reading (List ℕ × List ℕ)
pair ts = between (codes "(") (codes ")") two_items ts
