-- Places that are noted for what structures say at a glance.
use Rattle.std.specs.Prelude.{ℕ, ◌≡◌, List, [], Contains, unwrap_or}
use Rattle.std.specs.BTreeMap.{get}
use Rattle.std.specs.Ordering.{nat_cmp}
use Rattle.tv_kleene.specs.declared.K3.{K3}
use Rattle.tv_cover.specs.Glance.{GlanceForm, AreKnown, AreSummaries, AreWithin, glance_number}
use Rattle.tv_cover.specs.declared.noted.Noted.{Noted}
use Rattle.tv_cover.specs.declared.noted.Noting.{Noting}

-- what is noted for a number
abbrev pub noted_for : Noted → (number : ℕ) → List Noting
noted_for noted number = unwrap_or (get nat_cmp noted.places number) []

-- the place of a structure that says this at a glance is noted, for the predicates that are known in it, with
-- its summaries
pub record IsNoted (noted : Noted) (glance : GlanceForm) (place : ℕ) : Type 0 where
  pub known : List K3
  pub row : Contains noted.known.items known
  pub are_known : AreKnown glance known
  pub noting : Noting
  pub summaries : AreSummaries known glance.unary noting.summaries
  pub place_is : noting.place ≡ place
  pub there : Contains (noted_for noted (glance_number known glance)) noting

-- it may be that of a structure above one that says this at a glance, as far as this is known in it: where
-- that has summaries, it has some too
abbrev pub MayCover : (known : List K3) → GlanceForm → Noting → Type 0
MayCover known glance noting =
    (slots : List K3) → AreSummaries known glance.unary slots → AreWithin slots noting.summaries

-- the places of all such structures are among these
abbrev pub Finds : Noted → GlanceForm → (known : List K3) → (found : List ℕ) → Type 0
Finds noted glance known found = (noting : Noting)
    → Contains (noted_for noted (glance_number known glance)) noting → MayCover known glance noting
    → Contains found noting.place

-- the place is noted, and all that were noted still are
pub record Notes (old new : Noted) (glance : GlanceForm) (place : ℕ) : Type 0 where
  pub kept : (other : GlanceForm) (at : ℕ) → IsNoted old other at → IsNoted new other at
  pub noted : IsNoted new glance place
