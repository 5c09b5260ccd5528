-- The search for the least embedding: maps of the first individuals, and what follows from them.
use Rattle.std.specs.Prelude.{ℕ, ◌≡◌, ◌<◌, ◌≤◌, ◌+◌, zero, suc, Bool, ◌==◌, if◌then◌else◌, List, All}
use Rattle.std.specs.Prelude.{AllPairs, Contains, length, take, IsTrue, MatchBool, slice_index}
use Rattle.std.specs.Prelude.{slice_index_or, ◌≢◌, []}
use Rattle.std.specs.List.{list_any}
use Rattle.std.specs.Ordering.{nat_cmp, is_le}
use Rattle.std.specs.Cmp.Lexicographic.{slice_cmp}
use Rattle.tv_kleene.specs.declared.K3.{K3}
use Rattle.tv_kleene.specs.declared.K3.TheVariants.{No}
use Rattle.tv_structure_form.specs.StructureForm.{StructureForm}
use Rattle.tv_embed.specs.Maps.{IsEmbedding}
use Rattle.tv_embed.specs.Fits.{IsCandidate}

-- the map begins with these images
abbrev pub BeginsWith : (front images : List ℕ) → Type 0
BeginsWith front images = take (length front) images ≡ front

-- the map is the least of the embeddings that begin so
pub record IsLeastWith (small large : StructureForm) (front images : List ℕ) : Type 0 where
  pub embeds : IsEmbedding small large images
  pub begins : BeginsWith front images
  pub least : (other : List ℕ) → IsEmbedding small large other → BeginsWith front other
      → IsTrue (is_le (slice_cmp nat_cmp images other))

-- no embedding begins so
abbrev pub HasNoneWith : (small large : StructureForm) → (front : List ℕ) → Type 0
HasNoneWith small large front = (other : List ℕ) → IsEmbedding small large other → ¬ BeginsWith front other

-- what a search among the embeddings that begin so leaves: the least, or the images that it began with
-- where there is none
abbrev pub IsSearched : (small large : StructureForm) → (front old : List ℕ) → (found : Bool) → (new : List ℕ)
    → Type 0
IsSearched small large front old found new =
    MatchBool found (IsLeastWith small large front new) (HasNoneWith small large front × (new ≡ old))

-- the row has a value for each individual of large, and none of the candidates of u has No
pub record AllowsAll (small large : StructureForm) (u : ℕ) (row : List K3) : Type 0 where
  pub long : length row ≡ large.size
  pub each : (w : ℕ) → w < large.size → IsCandidate small large u w → slice_index_or row w No ≢ No

-- the candidates of u among the first n individuals of large, in ascending order
pub record AreCandidates (small large : StructureForm) (u n : ℕ) (list : List ℕ) : Type 0 where
  pub each : (w : ℕ) → w < n → IsCandidate small large u w → Contains list w
  pub within : All (λ w. w < n) list
  pub only : All (IsCandidate small large u) list
  pub ascending : AllPairs ◌<◌ list

-- the candidates of the first n individuals of small
pub record AreAllCandidates (small large : StructureForm) (n : ℕ) (lists : List (List ℕ)) : Type 0 where
  pub count : length lists ≡ n
  pub each : (u : ℕ) → u < n → AreCandidates small large u large.size (slice_index_or lists u [])

-- how many of the first n individuals of large are no images
abbrev pub missing_below : (images : List ℕ) → ℕ → ℕ
missing_below images zero = 0
missing_below images (suc w) = missing_below images w + (if list_any (λ y. y == w) images then 0 else 1)

-- for each individual of large a number that lies above all of the first n individuals of small that may go
-- to it
pub record AreBounds (small large : StructureForm) (n : ℕ) (bounds : List ℕ) : Type 0 where
  pub count : length bounds ≡ large.size
  pub each : (u w : ℕ) → u < n → w < large.size → IsCandidate small large u w → u < slice_index bounds w

-- the individual is no image, and none behind the first ones may go to it
pub record IsOutOfReach (bounds images : List ℕ) (w : ℕ) : Type 0 where
  pub bound : slice_index bounds w ≤ length images
  pub missing : ¬ Contains images w

-- some individual is out of reach
abbrev pub LeavesOne : (bounds images : List ℕ) → Type 0
LeavesOne bounds images = (w : ℕ) × (w < length bounds) × IsOutOfReach bounds images w
