-- The written text of a report.
use Rattle.std.specs.Prelude.{ℕ, List, [], ◌++◌, map, length, Option, Some, None, codes, decimal}
use Rattle.std.specs.List.{flat_map, zip}
use Rattle.tv_model.specs.Program.{ProgramForm, MessageForm, program_of}
use Rattle.tv_model.specs.declared.program.Program.{Program}
use Rattle.tv_model.specs.declared.program.Vocab.{Vocab}
use Rattle.tv_structure_form.specs.StructureForm.{StructureForm}
use Rattle.tv_listing.specs.declared.analysis.Analysis.{Analysis}
use Rattle.tv_listing.specs.declared.analysis.Item.{Item}
use Rattle.tv_listing.specs.declared.analysis.Item.TheVariants as item
use Rattle.tv_listing.specs.declared.analysis.MapLine.{MapLine}
use Rattle.tv_listing.specs.declared.analysis.MessageLine.{MessageLine}
use Rattle.tv_tvs.specs.Canonical.{canonical_text, comma_text, value_text}
use Rattle.tv_report.specs.Lines.{message_at}

-- `node NAME structures COUNT`
abbrev pub node_line : (name : List ℕ) → (count : ℕ) → List ℕ
node_line name count = codes "node " ++ (name ++ (codes " structures " ++ (decimal count ++ codes "\n")))

-- a node's line and the canonical texts of its structures
abbrev pub node_text : Vocab → (name : List ℕ) → List StructureForm → List ℕ
node_text vocab name structures =
    node_line name (length structures) ++ flat_map (canonical_text vocab) structures

-- the nodes by number
abbrev pub nodes_text : Vocab → (names : List (List ℕ)) → (listing : List (List StructureForm)) → List ℕ
nodes_text vocab names listing = flat_map (λ node. node_text vocab node.0 node.1) (zip names listing)

abbrev pub said : Option MessageForm → List ℕ
said None = []
said (Some m) = m.text

-- `message EDGE NUMBER VALUE "TEXT"`
abbrev pub message_text : ProgramForm → MessageLine → List ℕ
message_text p line =
    codes "message "
    ++ (decimal line.edge ++ (codes " " ++ (decimal line.number ++ (codes " " ++ (value_text line.value
    ++ (codes " \"" ++ (said (message_at p line.edge line.number) ++ codes "\"\n")))))))

abbrev pub item_text : Item → List ℕ
item_text (item.Initial n) = codes "initial " ++ decimal n
item_text (item.Result edge structure result) =
    codes "edge " ++ (decimal edge ++ (codes " " ++ (decimal structure ++ (codes " " ++ decimal result))))

-- `map ITEM to TARGET {..}`, with commas between the numbers
abbrev pub map_text : MapLine → List ℕ
map_text line =
    codes "map " ++ (item_text line.item ++ (codes " to " ++ (decimal line.target
    ++ (codes " {" ++ (comma_text (map decimal line.map) ++ codes "}\n")))))

-- the report: the nodes by number, then the messages and the maps in the analysis's order
abbrev pub report_text : Program → Analysis → List ℕ
report_text program a =
    codes "tvla report 2\n" ++ (nodes_text program.vocab program.nodes a.listing
    ++ (flat_map (message_text (program_of program)) a.messages
    ++ (flat_map map_text a.maps ++ codes "end\n")))
