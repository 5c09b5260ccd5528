-- What is noted as stable is.
use Rattle.std.proofs.Common.{ℕ, ◌≡◌, ◌&&◌, ◌==◌, Bool, true, false, List, [], ◌∷◌, ◌++◌, refl, sym, subst}
use Rattle.std.proofs.Common.{◌∙◌}
use Rattle.std.specs.Prelude.{All, None, Some, slice_get, if◌then◌else◌}
use Rattle.std.proofs.lemmas.Bool.{eqb-true, and_parts}
use Rattle.std.proofs.lemmas.List.Elements.{All-nil, All-head, All-tail, All-push, All-weaker}
use Rattle.tv_listing.specs.ListingForm.{at_node}
use Rattle.tv_structure_form.specs.StructureForm.{StructureForm, unmarked}
use Rattle.tv_step_laws.specs.Settled.{IsSettled}
use Rattle.tv_judge.specs.Found.{IsStableIn, IsStableAt, IsTestedTo}
use Rattle.tv_judge.specs.Index.{is_said}
use Rattle.tv_judge.specs.Judged.{Case}
use Rattle.tv_judge.specs.declared.found.Found.{Found}
use Rattle.tv_judge.proofs.Progressing.{done-none}
use Rattle.tv_judge.proofs.Reports.{one-there}

-- ---- notes

at-noted : (P : ℕ × ℕ → Type 0) (keys : List (ℕ × ℕ)) (a b : ℕ) → All P keys → is_said keys a b ≡ true → P (a, b)
at-noted P [] a b all is = absurd (cc)
at-noted P (key ∷ keys) a b all is =
    at (a == key.0 && b == key.1) refl (λ rest. at-noted P keys a b (All-tail P key keys all) rest)
  where
    at : (t : Bool) → (a == key.0 && b == key.1) ≡ t → (is_said keys a b ≡ true → P (a, b)) → P (a, b)
    at true here later =
        let both = and_parts (a == key.0) (b == key.1) here
        in let first : key.0 ≡ a = sym (eqb-true a key.0 both.0)
        in let second : key.1 ≡ b = sym (eqb-true b key.1 both.1)
        in subst P (λ i. (first i, second i)) (All-head P key keys all)
    at false other later = later (rw other at is)

-- what is noted is stable
pub stable-noted : (c : Case) (keys : List (ℕ × ℕ)) (node place : ℕ) (s : StructureForm)
    → All (λ key. IsStableAt c key.0 key.1) keys → is_said keys node place ≡ true
    → slice_get (at_node c.analysis.listing node) place ≡ Some s → IsStableIn c s
stable-noted c keys node place s all is listed =
    at-noted (λ key. IsStableAt c key.0 key.1) keys node place all is s listed

-- a listed structure is the only one at its place
pub stable-there : (c : Case) (node place : ℕ) (s : StructureForm)
    → slice_get (at_node c.analysis.listing node) place ≡ Some s → IsStableIn c s → IsStableAt c node place
stable-there c node place s listed stable t is =
    let structures : List StructureForm = at_node c.analysis.listing node
    in subst (IsStableIn c) (one-there structures structures place s t listed is refl) stable

noted-if : (P : ℕ × ℕ → Type 0) (keys : List (ℕ × ℕ)) (key : ℕ × ℕ) (b : Bool) → All P keys → P key
    → All P (if b then keys else keys ++ key ∷ [])
noted-if P keys key true all one = all
noted-if P keys key false all one = All-push P keys key all one

-- one note more
pub noted-more : (c : Case) (keys new : List (ℕ × ℕ)) (node place : ℕ) (b : Bool)
    → new ≡ (if b then keys else keys ++ (node, place) ∷ [])
    → All (λ key. IsStableAt c key.0 key.1) keys → IsStableAt c node place → All (λ key. IsStableAt c key.0 key.1) new
noted-more c keys new node place b put all one =
    let P : ℕ × ℕ → Type 0 = λ key. IsStableAt c key.0 key.1
    in subst (All P) (sym put) (noted-if P keys (node, place) b all one)

-- ---- results, and nothing

pub settled-stable : (c : Case) (results : List StructureForm) → All (IsSettled c.program) results → All (IsStableIn c) results
settled-stable c results all =
    All-weaker (IsSettled c.program) (IsStableIn c) (λ s settled. settled.stable) results all

-- structures that are equal but for their marks are equal where none has one
pub same-unmarked : (s t : StructureForm) → s.fresh ≡ None → t.fresh ≡ None → unmarked s ≡ unmarked t → s ≡ t
same-unmarked s t one other same =
    let fresh : s.fresh ≡ t.fresh = one ∙ sym other
    in λ i. record (same i) { fresh = fresh i }

pub tested-none : (c : Case) (asked : Bool) (found : Found) → found.maps ≡ [] → found.stable.keys ≡ []
    → IsTestedTo c asked (0 ∷ 0 ∷ []) found
tested-none c asked found maps stable = record {
  lines = [];
  done = done-none c;
  kept = λ _. maps;
  stable =
      let P : ℕ × ℕ → Type 0 = λ key. IsStableAt c key.0 key.1
      in subst (All P) (sym stable) (All-nil P);
}
