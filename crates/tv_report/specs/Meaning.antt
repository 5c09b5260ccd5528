-- What a report means: an analysis of a program.
use Rattle.std.specs.Prelude.{ℕ, ◌≡◌, List, [], map, length, Ok, Option, Some, All, Contains, slice_get}
use Rattle.std.specs.Result.{result_ok}
use Rattle.tv_lex.specs.Pieces.{Reads}
use Rattle.tv_lex.specs.Token.{SpecToken, spec_tokens}
use Rattle.tv_lex.specs.declared.token.Token.{Token}
use Rattle.tv_model.specs.Program.{program_of}
use Rattle.tv_model.specs.declared.program.Program.{Program}
use Rattle.tv_model.specs.declared.program.Vocab.{Vocab}
use Rattle.tv_listing.specs.ListingForm.{at_node}
use Rattle.tv_structure_form.specs.StructureForm.{StructureForm}
use Rattle.tv_listing.specs.declared.analysis.Analysis.{Analysis}
use Rattle.tv_tvs.specs.Meaning.{structs_meant}
use Rattle.tv_report.specs.Tree.{NodeTree, ReportTree}
use Rattle.tv_report.specs.Grammar.{IsReport}
use Rattle.tv_report.specs.Lines.{AreMessageLines, AreMapLines}
use Rattle.tv_report.specs.Once.{AreOnce}

-- a node that a report names, and its structures, where each of them means one
pub record NamedNode : Type 0 where
  pub name : List ℕ
  pub structures : Option (List StructureForm)

abbrev pub named_node : Vocab → NodeTree → NamedNode
named_node vocab node =
    record { name = node.name; structures = result_ok (structs_meant vocab.preds node.structures) }

abbrev pub node_name : NamedNode → List ℕ
node_name node = node.name

-- each named node is one of the program's, and is named once; it has the structures that are meant, and a
-- node that isn't named has none
pub record ListsNodes (program : Program) (nodes : List NamedNode)
    (listing : List (List StructureForm)) : Type 0 where
  pub names : AreOnce (λ node. Contains program.nodes node.name) node_name nodes
  pub count : length listing ≡ length program.nodes
  pub named : (number : ℕ) → All (λ node. slice_get program.nodes number ≡ Some node.name
      → node.structures ≡ Some (at_node listing number)) nodes
  pub others : (number : ℕ) (name : List ℕ) → slice_get program.nodes number ≡ Some name
      → ¬ Contains (map node_name nodes) name
      → at_node listing number ≡ []

-- the tokens are a report on the program, and this is what it means
pub record MeansReport (program : Program) (tokens : List SpecToken) (a : Analysis) : Type 0 where
  pub tree : ReportTree
  pub is : IsReport tokens tree
  pub listing : ListsNodes program (map (named_node program.vocab) tree.nodes) a.listing
  pub messages : AreMessageLines (program_of program) a.messages
  pub maps : AreMapLines (program_of program) a.listing a.maps
  pub same_messages : a.messages ≡ tree.messages
  pub same_maps : a.maps ≡ tree.maps

-- the text is a report on the program, and this is what it means
abbrev pub IsReportText : Program → (text : List ℕ) → Analysis → Type 0
IsReportText program text a =
    (tokens : List Token) × Reads text (Ok tokens) × MeansReport program (spec_tokens text tokens) a

-- the tokens are no report on the program
abbrev pub IsNoReport : Program → List SpecToken → Type 0
IsNoReport program tokens = (a : Analysis) → ¬ MeansReport program tokens a
