-- The heads of control edges: where an edge stands, and the edge as it is printed.
use Rattle.std.specs.Prelude.{◌≡◌, ℕ, List, [], ◌∷◌, ◌++◌, Ok, codes, get_or}
use Rattle.tv_edge_heads.specs.EdgePlaces.{HasEdgesAt}
use Rattle.tv_file_lines.specs.FileLines.{StandsInFile, file_line_text}
use Rattle.tv_lex.specs.Pieces.{Reads}
use Rattle.tv_lex.specs.Traced.{Traced, bytes_of}
use Rattle.tv_lex.specs.declared.token.Token.{Token}
use Rattle.tv_tree.specs.Forms.{EdgeForm, ProgramForm}
use Rattle.tv_tree.specs.Printed.{edge_lines, text_of_lines}

-- with a line feed behind it, the head is `NAME:LINE`, two spaces and the line of the printed edge
abbrev pub IsHeadOf : EdgeForm → (name : List ℕ) → (line : ℕ) → (head : List ℕ) → Type 0
IsHeadOf edge name line head =
    head ++ codes "\n" ≡ file_line_text name line ++ (codes "  " ++ text_of_lines (edge_lines edge))

-- the head of the edge, with the file and the line of which the byte at the place is
abbrev pub IsHead : List Traced → EdgeForm → (place : ℕ) → (head : List ℕ) → Type 0
IsHead traced edge place head = (name : List ℕ) × (line : ℕ) × StandsInFile traced place name line
    × IsHeadOf edge name line head

-- the heads of these edges, each at its place
abbrev pub AreHeadsAt : List Traced → List EdgeForm → (places : List ℕ) → (heads : List (List ℕ)) → Type 0
AreHeadsAt traced [] [] [] = Unit {0}
AreHeadsAt traced (edge ∷ edges) (place ∷ places) (head ∷ heads) =
    IsHead traced edge place head × AreHeadsAt traced edges places heads
AreHeadsAt traced edges places heads = ⊥

-- the heads of the tree's edges, in their order, at the places where they stand in the text, whose bytes
-- come from these files and lines
pub record AreHeads (traced : List Traced) (text : List ℕ) (tree : ProgramForm) (heads : List (List ℕ))
    : Type 0 where
  pub bytes : bytes_of traced ≡ text
  pub tokens : List Token
  pub reads : Reads text (Ok tokens)
  pub places : List ℕ
  pub stand : HasEdgesAt text tokens tree places
  pub are : AreHeadsAt traced tree.edges places heads

-- the head of the edge of this number; nothing where there is none
abbrev pub head_at : (heads : List (List ℕ)) → (number : ℕ) → List ℕ
head_at heads number = get_or heads number []
