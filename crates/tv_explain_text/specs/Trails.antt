-- The texts of trails: the structures that an abstract run goes through, each in one line.
use Rattle.std.specs.Prelude.{ℕ, List, [], ◌∷◌, ◌++◌, codes}
use Rattle.tv_edge_heads.specs.Heads.{head_at}
use Rattle.tv_file_lines.specs.Numbered.{numbered}
use Rattle.tv_kleene.specs.declared.K3.{K3}
use Rattle.tv_kleene.specs.declared.K3.TheVariants.{No, Half, Yes}
use Rattle.tv_model.specs.declared.program.Vocab.{Vocab}
use Rattle.tv_show.specs.Line.{line_of}
use Rattle.tv_structure_form.specs.StructureForm.{StructureForm}
use Rattle.tv_trail_laws.specs.declared.trail.Link.{Link}
use Rattle.tv_trail_laws.specs.declared.trail.Trail.{Trail}
use Rattle.tv_explain_text.specs.Texts.{numbered_edge}

-- `initial NUMBER`, and the opening
abbrev pub opening_line : Vocab → (number : ℕ) → StructureForm → List ℕ
opening_line vocab number s = numbered (codes "initial ") number ++ (line_of vocab s ++ codes "\n")

-- the edge that is taken, by its head among these, and the structure that comes of it
abbrev pub link_line : Vocab → (heads : List (List ℕ)) → Link → List ℕ
link_line vocab heads link =
    numbered_edge link.edge (head_at heads link.edge) ++ (line_of vocab link.structure ++ codes "\n")

abbrev pub link_lines : Vocab → (heads : List (List ℕ)) → List Link → List ℕ
link_lines vocab heads [] = []
link_lines vocab heads (link ∷ links) = link_line vocab heads link ++ link_lines vocab heads links

-- the opening, and step by step what is taken and what comes of it
abbrev pub trail_text : Vocab → (heads : List (List ℕ)) → Trail → List ℕ
trail_text vocab heads trail =
    opening_line vocab trail.initial trail.opening ++ link_lines vocab heads trail.links

-- a value as reports have it
abbrev pub value_text : K3 → List ℕ
value_text No = codes "0"
value_text Half = codes "1/2"
value_text Yes = codes "1"

-- ` is VALUE: "`
abbrev pub is_text : K3 → List ℕ
is_text value = codes " is " ++ (value_text value ++ codes ": \"")

-- `at hand`, and a structure that coerce and focus leave
abbrev pub at_hand_line : Vocab → StructureForm → List ℕ
at_hand_line vocab s = codes "at hand" ++ (line_of vocab s ++ codes "\n")

-- the edge whose message it is, and behind it `message NUMBER is VALUE: "TEXT"`
abbrev pub raised_line : (heads : List (List ℕ)) → (edge number : ℕ) → K3 → (text : List ℕ) → List ℕ
raised_line heads edge number value text =
    numbered_edge edge (head_at heads edge) ++ (numbered (codes "  message ") number
    ++ (is_text value ++ (text ++ codes "\"\n")))
