-- What has to be covered where a report is closed, and by what.
use Rattle.std.specs.Prelude.{ℕ, ◌≡◌, ◌==◌, ◌&&◌, Bool, false, if◌then◌else◌, List, [], ◌∷◌, Option, None}
use Rattle.std.specs.Prelude.{Some, slice_get}
use Rattle.tv_model.specs.declared.program.Edge.{Edge}
use Rattle.tv_model.specs.declared.program.Mode.{Mode}
use Rattle.tv_model.specs.Program.{ProgramForm}
use Rattle.tv_listing.specs.ListingForm.{at_node}
use Rattle.tv_listing.specs.declared.analysis.Item.{Item}
use Rattle.tv_listing.specs.declared.analysis.Item.TheVariants.{Initial, Result}
use Rattle.tv_listing.specs.declared.analysis.MapLine.{MapLine}
use Rattle.tv_structure_form.specs.StructureForm.{StructureForm}
use Rattle.tv_embed.specs.Maps.{IsEmbedding}
use Rattle.tv_step_laws.specs.Closed.{IsCovered}
use Rattle.tv_step_laws.specs.Transfer.{IsOpening, AreResults}

-- the structure stands at this place among those that are listed at the edge's source
pub record IsSource (p : ProgramForm) (listing : List (List StructureForm)) (edge : ℕ) (taken : Edge)
    (place : ℕ) (s : StructureForm) : Type 0 where
  pub is_edge : slice_get p.edges edge ≡ Some taken
  pub listed : slice_get (at_node listing taken.from) place ≡ Some s

-- s is the opening of the initial structure of this number, and the targets are listed at the start node
pub record IsInitialItem (p : ProgramForm) (initial : List StructureForm)
    (listing : List (List StructureForm)) (number : ℕ) (s : StructureForm)
    (targets : List StructureForm) : Type 0 where
  pub first : StructureForm
  pub is_initial : slice_get initial number ≡ Some first
  pub opening : IsOpening p first s
  pub targets_are : targets ≡ at_node listing 0

-- s is that result of the listed structure of this place along the edge, and the targets are listed at the
-- edge's target
pub record IsResultItem (p : ProgramForm) (mode : Mode) (listing : List (List StructureForm))
    (edge structure result : ℕ) (s : StructureForm) (targets : List StructureForm) : Type 0 where
  pub taken : Edge
  pub from : StructureForm
  pub source : IsSource p listing edge taken structure from
  pub results : List StructureForm
  pub are_results : AreResults p mode edge from results
  pub is_result : slice_get results result ≡ Some s
  pub targets_are : targets ≡ at_node listing taken.to

-- the item is there: s is its structure, and may be covered by these targets
abbrev pub IsItem : ProgramForm → Mode → (initial : List StructureForm)
    → (listing : List (List StructureForm)) → Item → (s : StructureForm) → (targets : List StructureForm)
    → Type 0
IsItem p mode initial listing (Initial number) s targets = IsInitialItem p initial listing number s targets
IsItem p mode initial listing (Result edge structure result) s targets =
    IsResultItem p mode listing edge structure result s targets

-- ---- map lines

-- whether both are the same item
abbrev pub is_same_item : Item → Item → Bool
is_same_item (Initial m) (Initial n) = m == n
is_same_item (Initial m) (Result edge structure result) = false
is_same_item (Result edge structure result) (Initial n) = false
is_same_item (Result edge structure result) (Result e s r) = edge == e && (structure == s && result == r)

-- the item's own line: the first one for it, if there is any
abbrev pub own_line : List MapLine → Item → Option MapLine
own_line [] item = None
own_line (line ∷ lines) item = if is_same_item item line.item then Some line else own_line lines item

-- the map embeds s in the target of this place
pub record Covers (targets : List StructureForm) (s : StructureForm) (target : ℕ) (images : List ℕ)
    : Type 0 where
  pub large : StructureForm
  pub listed : slice_get targets target ≡ Some large
  pub embeds : IsEmbedding s large images

-- s is covered by its line, or, where it has none, by any embedding in a target
abbrev pub IsMetBy : Option MapLine → (targets : List StructureForm) → (s : StructureForm) → Type 0
IsMetBy (Some line) targets s = Covers targets s line.target line.map
IsMetBy None targets s = IsCovered targets s

-- the item with this structure and these targets is met
abbrev pub IsMet : List MapLine → Item → (targets : List StructureForm) → (s : StructureForm) → Type 0
IsMet lines item targets s = IsMetBy (own_line lines item) targets s
