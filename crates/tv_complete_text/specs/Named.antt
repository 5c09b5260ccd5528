-- What is told of a structure in a text.
use Rattle.std.specs.Prelude.{ℕ, ◌≡◌, ◌==◌, List, [], ◌∷◌, Option, Some, None, map, length, codes}
use Rattle.std.specs.Prelude.{if◌then◌else◌}
use Rattle.tv_lex.specs.Token.{SpecToken, text_of}
use Rattle.tv_phrases.specs.Reading.{Reading, ◌>>=◌}
use Rattle.tv_phrases.specs.Tokens.{after, word_item}
use Rattle.tv_phrases.specs.Lists.{optional_list}
use Rattle.tv_phrases.specs.Repeated.{Repeated, all_of}
use Rattle.tv_tvs.specs.Grammar.{IsStruct, begins_name, begins_struct}
use Rattle.tv_tvs.specs.Reading.{opening_at}
use Rattle.tv_tvs.specs.Tree.{NameTree, StructTree, name_text}
use Rattle.tv_tvs.specs.Views.{name_tree}
use Rattle.tv_complete_text.specs.Ends.{entry_name}
use Rattle.tv_complete_text.specs.declared.named.EntryName.{EntryName}
use Rattle.tv_complete_text.specs.declared.named.NamedText.{NamedText}

-- the names of its individuals, the predicates that it names, and how many tokens stand behind it
pub record NamedForm : Type 0 where
  pub individuals : List (List ℕ)
  pub names : List (List ℕ)
  pub behind : ℕ

abbrev pub named_with : List (List ℕ) → List NameTree → (rest : List SpecToken) → NamedForm
named_with individuals names rest =
    record { individuals = individuals; names = map name_text names; behind = length rest }

abbrev pub named_of : StructTree → (rest : List SpecToken) → NamedForm
named_of tree rest = named_with tree.individuals (map (λ entry. entry.name) tree.entries) rest

-- the tokens begin with a structure of which this is told
abbrev pub IsNamed : List SpecToken → NamedForm → List SpecToken → Type 0
IsNamed ts x rest = (tree : StructTree) × IsStruct ts tree rest × (x ≡ named_of tree rest)

-- all the tokens are structures of which this is told, one after the other
abbrev pub AreNamed : List SpecToken → List NamedForm → Type 0
AreNamed ts xs = Repeated begins_struct IsNamed ts xs []

-- ---- as it is read

unfoldable pub named_at : List SpecToken → Reading NamedForm
named_at ts = do
  us ← opening_at (codes "%n") ts
  individuals ← optional_list word_item us
  vs ← after (codes "}") individuals.1
  ws ← opening_at (codes "%p") vs
  names ← all_of begins_name entry_name ws
  rest ← after (codes "}") names.1
  Some (named_with individuals.0 names.0 rest, rest)

-- all the tokens
unfoldable pub text_of_named : List SpecToken → Option (List NamedForm)
text_of_named ts = all_of begins_struct named_at ts >>= λ x. if length x.1 == 0 then Some x.0 else None

abbrev pub entry_name_tree : (bytes : List ℕ) → EntryName → NameTree
entry_name_tree bytes x = name_tree bytes x.name

abbrev pub named_form : (bytes : List ℕ) → NamedText → NamedForm
named_form bytes x = record {
  individuals = map (text_of bytes) x.individuals.items;
  names = x.names.items;
  behind = x.behind;
}
