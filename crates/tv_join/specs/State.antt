-- What is listed between two rounds.
use Rattle.std.specs.Prelude.{ℕ, ◌≡◌, ◌<◌, ◌+◌, zero, suc, Bool, List, [], length, sum_by, map, Option}
use Rattle.std.specs.Prelude.{Some, None, Contains, slice_get, slice_set, slice_index_or}
use Rattle.tv_model.specs.Program.{ProgramForm}
use Rattle.tv_structure_form.specs.StructureForm.{StructureForm}
use Rattle.tv_step.specs.Setting.{IsStableIn}
use Rattle.tv_work.specs.Reach.{Point, IsListed}
use Rattle.tv_work.specs.Task.{TaskForm}
use Rattle.tv_join.specs.Members.{MembersForm, IsIndexed, Puts}
use Rattle.tv_join.specs.Pairwise.{IsUnder}
use Rattle.tv_join.specs.declared.members.Put.{Put}
use Rattle.tv_join.specs.declared.members.Put.TheVariants.{Known, Raised, Added}
use Rattle.tv_join.specs.Flags.{key_flags, IsPlain}
use Rattle.tv_join.specs.Keys.{key_of}
use Rattle.tv_join.specs.Places.{member_place, Notes}
use Rattle.tv_join.specs.Rounds.{point}
use Rattle.tv_join.specs.declared.joins.Found.{Found}
use Rattle.tv_join.specs.declared.places.Place.{Place}

-- ---- nodes

-- what stands for the structures of a node that isn't there
abbrev pub no_members : MembersForm
no_members = record { structures = []; places = [] }

abbrev pub members_at : List MembersForm → ℕ → MembersForm
members_at nodes k = slice_index_or nodes k no_members

-- no two of the structures have one key
pub record IsNode (p : ProgramForm) (m : MembersForm) : Type 0 where
  pub indexed : IsIndexed (key_flags p) m
  pub plain : (s : StructureForm) → Contains m.structures s → IsPlain p s
  pub own : (i j : ℕ) (s t : StructureForm) → slice_get m.structures i ≡ Some s
      → slice_get m.structures j ≡ Some t
      → key_of p s ≡ key_of p t → i ≡ j

-- what is listed
abbrev pub listing_of : List MembersForm → List (List StructureForm)
listing_of nodes = map (λ m. m.structures) nodes

-- the point's structure stands at its node
abbrev pub IsIn : List MembersForm → Point → Type 0
IsIn nodes = IsListed (listing_of nodes)

-- how many structures there are
abbrev pub total_of : List MembersForm → ℕ
total_of nodes = sum_by length (listing_of nodes)

-- the structure stands at the place
abbrev pub StandsAt : List MembersForm → Place → StructureForm → Type 0
StandsAt nodes w s = slice_get (members_at nodes w.node).structures w.at ≡ Some s

-- the structures of the nodes, how many more may be listed, nothing where there are too many, and the places
-- of what changed
pub record JoinsForm : Type 0 where
  pub nodes : List MembersForm
  pub room : Option ℕ
  pub changed : List Place

-- so many more may be listed
abbrev pub HasRoom : (max total : ℕ) → Option ℕ → Type 0
HasRoom max total (Some more) = total + more ≡ max
HasRoom max total None = max < total

pub record IsJoinState (t : TaskForm) (j : JoinsForm) : Type 0 where
  pub nodes : length j.nodes ≡ length t.program.nodes
  pub each : (k : ℕ) → IsNode t.program (members_at j.nodes k)
  pub room : HasRoom t.max (total_of j.nodes) j.room
  pub places : (w : Place) → Contains j.changed w → w.at < length (members_at j.nodes w.node).structures
  pub stable : (w : Place) (s : StructureForm) → StandsAt j.nodes w s → IsStableIn t.program s

-- ---- structures are put

-- one less
abbrev pub less : Option ℕ → Option ℕ
less None = None
less (Some zero) = None
less (Some (suc more)) = Some more

abbrev pub room_after : Put → Option ℕ → Option ℕ
room_after Known room = room
room_after (Raised place) room = room
room_after Added room = less room

-- what became of a structure that was put at the node, which had so many, is noted
abbrev pub NotesPut : (node count : ℕ) → Put → (old new : List Place) → Type 0
NotesPut node count Known old new = new ≡ old
NotesPut node count (Raised at) old new = Notes (member_place node at) old new
NotesPut node count Added old new = Notes (member_place node count) old new

-- the structure is put at the node, and this comes of it
pub record IsPut (counted : List Bool) (old : JoinsForm) (k : ℕ) (s : StructureForm) (new : JoinsForm)
    (put : Put) : Type
    0 where
  pub node : MembersForm
  pub set : new.nodes ≡ slice_set old.nodes k node
  pub puts : Puts counted (members_at old.nodes k).structures s node.structures put
  pub indexed : IsIndexed counted node
  pub room : new.room ≡ old.room
  pub changed : new.changed ≡ old.changed

-- and that is noted
pub record IsMet (counted : List Bool) (old : JoinsForm) (k : ℕ) (s : StructureForm)
    (new : JoinsForm) : Type 0
  where
    pub node : MembersForm
    pub put : Put
    pub set : new.nodes ≡ slice_set old.nodes k node
    pub puts : Puts counted (members_at old.nodes k).structures s node.structures put
    pub indexed : IsIndexed counted node
    pub room : new.room ≡ room_after put old.room
    pub changed : NotesPut k (length (members_at old.nodes k).structures) put old.changed new.changed

-- ---- what was found

-- it is among what was found
abbrev pub IsAmongFound : List Found → Point → Type 0
IsAmongFound found x = Contains found (record { node = x.node; structure = x.structure })

-- a listed structure of its key lies above it
abbrev pub IsAbsorbed : ProgramForm → List MembersForm → Point → Type 0
IsAbsorbed p nodes x = (s : StructureForm) × IsIn nodes (point x.node s) × (key_of p x.structure ≡ key_of p s)
    × IsUnder x.structure s
