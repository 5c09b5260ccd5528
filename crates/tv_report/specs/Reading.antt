-- The reader of reports, as functions on lists of tokens. Structures are passed over at first, and their
-- tokens kept. That the functions read what the grammar says is proved.
use Rattle.std.specs.Prelude.{ℕ, zero, suc, List, [], ◌∷◌, Bool, true, false, Option, Some, None, length}
use Rattle.std.specs.Prelude.{◌==◌, if◌then◌else◌, codes}
use Rattle.tv_lex.specs.Token.{SpecToken}
use Rattle.tv_model.specs.declared.program.Vocab.{Vocab}
use Rattle.tv_phrases.specs.Reading.{Reading, ◌>>=◌, choose}
use Rattle.tv_phrases.specs.Tokens.{after, first, word_item, text_item, number_item}
use Rattle.tv_phrases.specs.Lists.{optional_list}
use Rattle.tv_phrases.specs.Repeated.{begins_with, all_of}
use Rattle.tv_structure_form.specs.StructureForm.{StructureForm}
use Rattle.tv_listing.specs.declared.analysis.Item.{Item}
use Rattle.tv_listing.specs.declared.analysis.Item.TheVariants as item
use Rattle.tv_listing.specs.declared.analysis.MapLine.{MapLine}
use Rattle.tv_listing.specs.declared.analysis.MessageLine.{MessageLine}
use Rattle.tv_tvs.specs.Reading.{struct_end, structure_at}
use Rattle.tv_report.specs.Grammar.{message_value}
use Rattle.tv_report.specs.Meaning.{NamedNode}

-- a node whose structures weren't read yet: their number, and the tokens from the first one on
pub record NodeMark : Type 0 where
  pub name : List ℕ
  pub count : ℕ
  pub structures : List SpecToken

-- a report whose structures weren't read yet
pub record ReportMarks : Type 0 where
  pub nodes : List NodeMark
  pub messages : List MessageLine
  pub maps : List MapLine

-- ---- the grammar

-- the tokens behind that many structures
unfoldable pub structures_end : ℕ → List SpecToken → Option (List SpecToken)
structures_end zero ts = Some ts
structures_end (suc n) ts = struct_end ts >>= λ us. structures_end n us

unfoldable pub node_at : List SpecToken → Reading NodeMark
node_at ts = do
  us ← after (codes "node") ts
  name ← first word_item us
  vs ← after (codes "structures") name.1
  count ← first number_item vs
  rest ← structures_end count.0 count.1
  Some (record { name = name.0; count = count.0; structures = count.1 }, rest)

unfoldable pub line_at : List SpecToken → Reading MessageLine
line_at ts = do
  us ← after (codes "message") ts
  edge ← first number_item us
  number ← first number_item edge.1
  value ← first message_value number.1
  text ← first text_item value.1
  Some (record { edge = edge.0; number = number.0; value = value.0 }, text.1)

unfoldable pub initial_at : List SpecToken → Reading Item
initial_at ts = first number_item ts >>= λ n. Some (item.Initial n.0, n.1)

unfoldable pub result_at : List SpecToken → Reading Item
result_at ts = do
  us ← after (codes "edge") ts
  edge ← first number_item us
  structure ← first number_item edge.1
  number ← first number_item structure.1
  Some (item.Result edge.0 structure.0 number.0, number.1)

unfoldable pub item_at : List SpecToken → Reading Item
item_at ts = choose (after (codes "initial") ts) (result_at ts) initial_at

unfoldable pub braces_at : List SpecToken → Reading (List ℕ)
braces_at ts = do
  us ← after (codes "{") ts
  numbers ← optional_list number_item us
  rest ← after (codes "}") numbers.1
  Some (numbers.0, rest)

unfoldable pub map_at : List SpecToken → Reading MapLine
map_at ts = do
  us ← after (codes "map") ts
  thing ← item_at us
  vs ← after (codes "to") thing.1
  target ← first number_item vs
  numbers ← braces_at target.1
  Some (record { item = thing.0; target = target.0; map = numbers.0 }, numbers.1)

abbrev pub nodes_at : List SpecToken → Reading (List NodeMark)
nodes_at ts = all_of (begins_with (codes "node")) node_at ts

abbrev pub lines_at : List SpecToken → Reading (List MessageLine)
lines_at ts = all_of (begins_with (codes "message")) line_at ts

abbrev pub maps_at : List SpecToken → Reading (List MapLine)
maps_at ts = all_of (begins_with (codes "map")) map_at ts

-- whether there may be maps, by the version
unfoldable pub version_at : List SpecToken → Reading Bool
version_at ts =
    choose (after (codes "1") ts) (after (codes "2") ts >>= λ us. Some (true, us)) (λ us. Some (false, us))

unfoldable pub head_at : List SpecToken → Reading Bool
head_at ts = after (codes "tvla") ts >>= λ us. after (codes "report") us >>= λ vs. version_at vs

unfoldable pub maps_if : Bool → List SpecToken → Reading (List MapLine)
maps_if mapped ts = if mapped then maps_at ts else Some ([], ts)

-- `end`, and nothing behind it
unfoldable pub end_at : List SpecToken → Option (List SpecToken)
end_at ts = after (codes "end") ts >>= λ us. if length us == 0 then Some [] else None

-- all the tokens
unfoldable pub report_at : List SpecToken → Option ReportMarks
report_at ts = do
  mapped ← head_at ts
  nodes ← nodes_at mapped.1
  messages ← lines_at nodes.1
  maps ← maps_if mapped.0 messages.1
  rest ← end_at maps.1
  Some (record { nodes = nodes.0; messages = messages.0; maps = maps.0 })

-- ---- structures

-- the structures that so many texts mean
unfoldable pub structures_at : Vocab → ℕ → List SpecToken → Option (List StructureForm)
structures_at vocab zero ts = Some []
structures_at vocab (suc n) ts =
    structure_at vocab ts >>= λ x. structures_at vocab n x.1 >>= λ ss. Some (x.0 ∷ ss)

abbrev pub marked_node : Vocab → NodeMark → NamedNode
marked_node vocab m = record { name = m.name; structures = structures_at vocab m.count m.structures }
