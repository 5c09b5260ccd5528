-- What a report may list and say of a program.
use Rattle.std.specs.Prelude.{ℕ, ◌≡◌, ◌≢◌, ◌<◌, List, length, Option, Some, IsSome, slice_get}
use Rattle.std.specs.Option.{option_and_then}
use Rattle.tv_kleene.specs.declared.K3.TheVariants.{No}
use Rattle.tv_model.specs.Program.{ProgramForm, MessageForm}
use Rattle.tv_model.specs.declared.program.Edge.{Edge}
use Rattle.tv_listing.specs.ListingForm.{at_node}
use Rattle.tv_structure_form.specs.StructureForm.{StructureForm}
use Rattle.tv_listing.specs.declared.analysis.Item.{Item}
use Rattle.tv_listing.specs.declared.analysis.Item.TheVariants as item
use Rattle.tv_listing.specs.declared.analysis.MapLine.{MapLine}
use Rattle.tv_listing.specs.declared.analysis.MessageLine.{MessageLine}
use Rattle.tv_report.specs.Once.{AreOnce}

-- the message of an edge's action, by both numbers
abbrev pub message_at : ProgramForm → (edge number : ℕ) → Option MessageForm
message_at p edge number =
    option_and_then (λ (e : Edge). option_and_then (λ action. slice_get action.messages number)
    (slice_get p.actions e.action)) (slice_get p.edges edge)

-- the line names a message of an edge
abbrev pub NamesMessage : ProgramForm → MessageLine → Type 0
NamesMessage p line = IsSome (message_at p line.edge line.number)

-- and tells that it may be true
abbrev pub IsMessageLine : ProgramForm → MessageLine → Type 0
IsMessageLine p line = NamesMessage p line × (line.value ≢ No)

-- which message a line tells of
abbrev pub message_key : MessageLine → ℕ × ℕ
message_key line = (line.edge, line.number)

-- the structure that a result comes from is listed at the edge's source, and the target where the item leads
-- to
abbrev pub LeadsTo : ProgramForm → (listing : List (List StructureForm)) → Item → (target : ℕ) → Type 0
LeadsTo p listing (item.Initial n) target = target < length (at_node listing 0)
LeadsTo p listing (item.Result edge structure result) target =
    (taken : Edge) × (slice_get p.edges edge ≡ Some taken)
    × (structure < length (at_node listing taken.from)) × (target < length (at_node listing taken.to))

abbrev pub IsMapLine : ProgramForm → (listing : List (List StructureForm)) → MapLine → Type 0
IsMapLine p listing line = LeadsTo p listing line.item line.target

-- which item a line tells of
abbrev pub map_key : MapLine → Item
map_key line = line.item

-- each message in one line at most
abbrev pub AreMessageLines : ProgramForm → List MessageLine → Type 0
AreMessageLines p lines = AreOnce (NamesMessage p) message_key lines

-- each item in one line at most
abbrev pub AreMapLines : ProgramForm → (listing : List (List StructureForm)) → List MapLine → Type 0
AreMapLines p listing lines = AreOnce (IsMapLine p listing) map_key lines
