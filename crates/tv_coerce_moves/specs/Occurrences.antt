-- Lists of members of rules that changes move.
use Rattle.std.specs.Prelude.{ℕ, ◌≡◌, ◌≢◌, ◌<◌, ◌↔◌, true, false, List, [], length, Option, Some, slice_get}
use Rattle.std.specs.Prelude.{slice_index_or}
use Rattle.tv_model.specs.Program.{HeadForm, HNever, HAtom, HSame}
use Rattle.tv_coerce_moves.specs.declared.list.Member.{Member}
use Rattle.tv_coerce_moves.specs.declared.list.Occurrence.{Occurrence}
use Rattle.tv_coerce_moves.specs.declared.list.Moving.{Moving}
use Rattle.tv_coerce_moves.specs.declared.list.Moving.TheVariants.{Alone, Several}

-- the member at the place may be one of those that are moved
abbrev pub IsAmong : Option ℕ → Moving → Type 0
IsAmong place (Alone other) = other ≡ place
IsAmong place Several = Unit {0}

-- members at other places than this one may be moved
abbrev pub MovesOther : Option ℕ → Moving → Type 0
MovesOther place (Alone other) = other ≢ place
MovesOther place Several = Unit {0}

-- one of the occurrences has the member
pub record HasMember (member : Member) (occurrences : List Occurrence) : Type 0 where
  pub at : ℕ
  pub occurrence : Occurrence
  pub there : slice_get occurrences at ≡ Some occurrence
  pub rule : occurrence.rule ≡ member.rule
  pub among : IsAmong member.place occurrence.moving

-- the new list has all members of the old one, and this one
pub record IsNoted (member : Member) (old new : List Occurrence) : Type 0 where
  pub kept : (other : Member) → HasMember other old → HasMember other new
  pub there : HasMember member new

-- lists for changes to Yes and to No by predicate, and for summaries that become ordinary individuals
pub record OccurrenceLists : Type 0 where
  pub to_yes : List (List Occurrence)
  pub to_no : List (List Occurrence)
  pub ordinary : List Occurrence

abbrev pub lists_of : (to_yes to_no : List (List Occurrence)) (ordinary : List Occurrence) → OccurrenceLists
lists_of to_yes to_no ordinary = record { to_yes = to_yes; to_no = to_no; ordinary = ordinary }

-- the list for the changes that a head asks for
abbrev pub list_for : OccurrenceLists → HeadForm → List Occurrence
list_for lists HNever = []
list_for lists (HAtom true pred vars) = slice_index_or lists.to_yes pred []
list_for lists (HAtom false pred vars) = slice_index_or lists.to_no pred []
list_for lists (HSame flag v w) = lists.ordinary

-- there are lists for so many predicates
pub record HasPlaces (preds : ℕ) (lists : OccurrenceLists) : Type 0 where
  pub to_yes : length lists.to_yes ≡ preds
  pub to_no : length lists.to_no ≡ preds

-- there is a list for the changes that the head asks for
abbrev pub IsListed : HeadForm → OccurrenceLists → Type 0
IsListed HNever lists = ⊥
IsListed (HAtom true pred vars) lists = pred < length lists.to_yes
IsListed (HAtom false pred vars) lists = pred < length lists.to_no
IsListed (HSame flag v w) lists = Unit {0}

-- the new lists have all members of the old ones
pub record KeepsMembers (old new : OccurrenceLists) : Type 0 where
  pub members : (head : HeadForm) (member : Member) → HasMember member (list_for old head)
      → HasMember member (list_for new head)
  pub listed : (head : HeadForm) → IsListed head old ↔ IsListed head new

-- and this one for each of such changes for which there is a list
pub record AreNoted (IsSuch : HeadForm → Type 0) (member : Member) (old new : OccurrenceLists) : Type 0 where
  pub kept : KeepsMembers old new
  pub there : (head : HeadForm) → IsListed head old → IsSuch head → HasMember member (list_for new head)
