-- The reader of what a text of structures names, as functions on lists of tokens: it passes over values and
-- items. That it reads what the grammar says is proved.
use Rattle.std.specs.Prelude.{List, Option, None, Some, ℕ, if◌then◌else◌, codes}
use Rattle.tv_lex.specs.Token.{SpecToken}
use Rattle.tv_phrases.specs.Reading.{Reading, ◌>>=◌, choose}
use Rattle.tv_phrases.specs.Tokens.{after, first, word_item}
use Rattle.tv_phrases.specs.Repeated.{all_of}
use Rattle.tv_phrases.specs.Lists.{name}
use Rattle.tv_tvs.specs.Grammar.{value_item, begins_comma, begins_word}
use Rattle.tv_tvs.specs.Tree.{NameTree}

-- the tokens behind a phrase
abbrev pub ends_of_reading : {X : Type 0} → Reading X → Option (List SpecToken)
ends_of_reading None = None
ends_of_reading (Some x) = Some x.1

unfoldable pub value_end : List SpecToken → Option (List SpecToken)
value_end ts = ends_of_reading (first value_item ts)

unfoldable pub second_end : List SpecToken → Option (List SpecToken)
second_end ts = choose (after (codes "->") ts) (Some ts) (λ us. ends_of_reading (first word_item us))

unfoldable pub item_value_end : List SpecToken → Option (List SpecToken)
item_value_end ts = choose (after (codes ":") ts) (Some ts) value_end

-- the first word of an item
unfoldable pub item_word : List SpecToken → Reading (List ℕ)
item_word ts = do
  word ← first word_item ts
  us ← second_end word.1
  rest ← item_value_end us
  Some (word.0, rest)

unfoldable pub next_item_word : List SpecToken → Reading (List ℕ)
next_item_word ts = after (codes ",") ts >>= item_word

unfoldable pub some_items_end : List SpecToken → Option (List SpecToken)
some_items_end ts = item_word ts >>= λ word. ends_of_reading (all_of begins_comma next_item_word word.1)

unfoldable pub items_end : List SpecToken → Option (List SpecToken)
items_end ts = if begins_word ts then some_items_end ts else Some ts

unfoldable pub content_end : List SpecToken → Option (List SpecToken)
content_end ts = choose (after (codes "{") ts) (value_end ts) (λ us. items_end us >>= after (codes "}"))

-- the name of an entry
unfoldable pub entry_name : List SpecToken → Reading NameTree
entry_name ts = do
  n ← name ts
  us ← after (codes "=") n.1
  rest ← content_end us
  Some (n.0, rest)
