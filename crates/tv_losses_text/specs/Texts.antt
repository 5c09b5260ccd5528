-- The text of losses.
use Rattle.std.specs.Prelude.{ℕ, suc, List, [], ◌∷◌, ◌++◌, Option, None, Some, slice_get, codes}
use Rattle.tv_claim_text.specs.Claims.{claim_written}
use Rattle.tv_edge_heads.specs.Heads.{head_at}
use Rattle.tv_file_lines.specs.Numbered.{numbered}
use Rattle.tv_losses.specs.declared.told.EdgeLoss.{EdgeLoss}
use Rattle.tv_losses.specs.declared.told.Losses.{Losses}
use Rattle.tv_model.specs.Program.{ProgramForm}
use Rattle.tv_losses_unmet.specs.declared.claim.Claim.{Claim}

abbrev pub name_of : Option (List ℕ) → List ℕ
name_of None = []
name_of (Some name) = name

-- `initial NUMBER has no opening, by `, what it contradicts, and a line feed
abbrev pub initial_loss : ProgramForm → (number : ℕ) → Option Claim → List ℕ
initial_loss p number claim =
    numbered (codes "initial ") number
    ++ (codes " has no opening, by " ++ (claim_written p claim ++ codes "\n"))

-- the claim in this place, none where there is no such place
abbrev pub claim_in : Option (Option Claim) → Option Claim
claim_in None = None
claim_in (Some claim) = claim

-- so of each number, with the claim in the same place, from this place on
abbrev pub initial_losses : ProgramForm → (claims : List (Option Claim)) → (place : ℕ) → List ℕ → List ℕ
initial_losses p claims place [] = []
initial_losses p claims place (number ∷ numbers) =
    initial_loss p number (claim_in (slice_get claims place)) ++ initial_losses p claims (suc place) numbers

-- the name of the node of this number
abbrev pub name_written : (names : List (List ℕ)) → (node : ℕ) → List ℕ
name_written names node = name_of (slice_get names node)

-- `node NAME lists nothing`
abbrev pub node_loss : (names : List (List ℕ)) → (node : ℕ) → List ℕ
node_loss names node = codes "node " ++ (name_written names node ++ codes " lists nothing\n")

abbrev pub node_losses : (names : List (List ℕ)) → List ℕ → List ℕ
node_losses names [] = []
node_losses names (node ∷ nodes) = node_loss names node ++ node_losses names nodes

-- the head of the edge of this number, with a line feed behind it
abbrev pub head_line : (heads : List (List ℕ)) → (number : ℕ) → List ℕ
head_line heads number = head_at heads number ++ codes "\n"

-- `edge NUMBER loses LOST of LISTED structures, first PLACE`, and the head of the edge
abbrev pub edge_loss : (heads : List (List ℕ)) → EdgeLoss → List ℕ
edge_loss heads loss =
    numbered (codes "edge ") loss.edge ++ (numbered (codes " loses ") loss.lost
    ++ (numbered (codes " of ") loss.listed ++ (numbered (codes " structures, first ") loss.first
    ++ (codes "  " ++ head_line heads loss.edge))))

abbrev pub edge_losses : (heads : List (List ℕ)) → List EdgeLoss → List ℕ
edge_losses heads [] = []
edge_losses heads (loss ∷ losses) = edge_loss heads loss ++ edge_losses heads losses

-- a line for each loss: initial structures, nodes, edges
abbrev pub lost_lines : ProgramForm → (heads : List (List ℕ)) → (claims : List (Option Claim)) → Losses
    → List ℕ
lost_lines p heads claims losses =
    initial_losses p claims 0 losses.initial ++ (node_losses p.nodes losses.nodes
    ++ edge_losses heads losses.edges)

-- `nothing is lost` in place of no lines
abbrev pub said_of : (lines : List ℕ) → List ℕ
said_of [] = codes "nothing is lost\n"
said_of (byte ∷ bytes) = byte ∷ bytes

abbrev pub losses_text : ProgramForm → (heads : List (List ℕ)) → (claims : List (Option Claim)) → Losses
    → List ℕ
losses_text p heads claims losses = said_of (lost_lines p heads claims losses)
