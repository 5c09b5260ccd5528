-- The reader of structures, as functions on lists of tokens. That they read what the grammar says is proved.
use Rattle.std.specs.Prelude.{ℕ, List, [], ◌∷◌, Option, Some, None, length, ◌==◌}
use Rattle.std.specs.Prelude.{if◌then◌else◌, codes}
use Rattle.std.specs.Result.{result_ok}
use Rattle.tv_kleene.specs.declared.K3.{K3}
use Rattle.tv_lex.specs.Token.{SpecToken}
use Rattle.tv_phrases.specs.Reading.{Reading, ◌>>=◌, choose}
use Rattle.tv_phrases.specs.Tokens.{after, first, word_item}
use Rattle.tv_phrases.specs.Repeated.{all_of}
use Rattle.tv_phrases.specs.Lists.{optional_list, name}
use Rattle.tv_tvs.specs.Tree.{ItemTree, ContentTree, OneValue, Listed, EntryTree, StructTree}
use Rattle.tv_model.specs.declared.program.Vocab.{Vocab}
use Rattle.tv_structure_form.specs.StructureForm.{StructureForm}
use Rattle.tv_tvs.specs.Meaning.{struct_meant}
use Rattle.tv_tvs.specs.Grammar.{value_item, begins_comma, begins_word, begins_name, begins_struct}

unfoldable pub second_at : List SpecToken → Reading (Option (List ℕ))
second_at ts =
    choose (after (codes "->") ts) (Some (None, ts)) (λ us. first word_item us >>= λ w. Some (Some w.0, w.1))

unfoldable pub item_value_at : List SpecToken → Reading (Option K3)
item_value_at ts =
    choose (after (codes ":") ts) (Some (None, ts)) (λ us. first value_item us >>= λ k. Some (Some k.0, k.1))

unfoldable pub item_at : List SpecToken → Reading ItemTree
item_at ts = do
  word ← first word_item ts
  second ← second_at word.1
  value ← item_value_at second.1
  Some (record { first = word.0; second = second.0; value = value.0 }, value.1)

unfoldable pub next_item_at : List SpecToken → Reading ItemTree
next_item_at ts = after (codes ",") ts >>= item_at

abbrev pub next_items_at : List SpecToken → Reading (List ItemTree)
next_items_at ts = all_of begins_comma next_item_at ts

unfoldable pub one_or_more_at : List SpecToken → Reading (List ItemTree)
one_or_more_at ts = do
  item ← item_at ts
  items ← next_items_at item.1
  Some (item.0 ∷ items.0, items.1)

unfoldable pub items_at : List SpecToken → Reading (List ItemTree)
items_at ts = if begins_word ts then one_or_more_at ts else Some ([], ts)

unfoldable pub one_value_at : List SpecToken → Reading ContentTree
one_value_at ts = first value_item ts >>= λ k. Some (OneValue k.0, k.1)

unfoldable pub braces_at : List SpecToken → Reading ContentTree
braces_at ts = do
  items ← items_at ts
  rest ← after (codes "}") items.1
  Some (Listed items.0, rest)

unfoldable pub content_at : List SpecToken → Reading ContentTree
content_at ts = choose (after (codes "{") ts) (one_value_at ts) braces_at

unfoldable pub entry_at : List SpecToken → Reading EntryTree
entry_at ts = do
  n ← name ts
  us ← after (codes "=") n.1
  content ← content_at us
  Some (record { name = n.0; content = content.0 }, content.1)

abbrev pub entries_at : List SpecToken → Reading (List EntryTree)
entries_at ts = all_of begins_name entry_at ts

unfoldable pub opening_at : List ℕ → List SpecToken → Option (List SpecToken)
opening_at directive ts = do
  us ← after directive ts
  vs ← after (codes "=") us
  after (codes "{") vs

unfoldable pub struct_at : List SpecToken → Reading StructTree
struct_at ts = do
  us ← opening_at (codes "%n") ts
  individuals ← optional_list word_item us
  vs ← after (codes "}") individuals.1
  ws ← opening_at (codes "%p") vs
  entries ← entries_at ws
  rest ← after (codes "}") entries.1
  Some (record { individuals = individuals.0; entries = entries.0 }, rest)

abbrev pub structs_at : List SpecToken → Reading (List StructTree)
structs_at ts = all_of begins_struct struct_at ts

-- the tokens behind a structure
unfoldable pub struct_end : List SpecToken → Option (List SpecToken)
struct_end ts = struct_at ts >>= λ x. Some x.1

-- the structure that the first tokens mean
unfoldable pub structure_at : Vocab → List SpecToken → Reading StructureForm
structure_at vocab ts = struct_at ts >>= λ x. result_ok (struct_meant vocab.preds x.0) >>= λ s. Some (s, x.1)

-- all the tokens
unfoldable pub text_of_structs : List SpecToken → Option (List StructTree)
text_of_structs ts = structs_at ts >>= λ x. if length x.1 == 0 then Some x.0 else None
