-- Texts part by part, and what is said of no losses.
use Rattle.std.proofs.Common.{ℕ, ◌≡◌, ◌∙◌, ◌↔◌, Bool, true, false, true≢false, IsTrue, List, [], ◌∷◌, ◌++◌}
use Rattle.std.proofs.Common.{◌<◌, ◌+◌, refl, All, Option, Some, arith, drop, get_or, length, slice_get}
use Rattle.std.specs.Prelude.{suc, zero}
use Rattle.std.proofs.lemmas.List.Elements.{Contains-get_or}
use Rattle.std.proofs.lemmas.Option.{none-some, same_Some, slice_get_within}
use Rattle.tv_model.specs.Program.{ProgramForm}
use Rattle.tv_structure_form.specs.StructureForm.{StructureForm}
use Rattle.tv_losses_unmet.specs.declared.claim.Claim.{Claim}
use Rattle.tv_losses.specs.Losses.{AreExactly, HasNoOpeningAt}
use Rattle.std.proofs.Common.{sym, ap, append_assoc}
use Rattle.std.specs.Prelude.{Result, Ok, Err, OnOk, is_ok, not, if◌then◌else◌}
use Rattle.tv_losses.specs.declared.told.EdgeLoss.{EdgeLoss}
use Rattle.tv_losses.specs.declared.told.Losses.{Losses}
use Rattle.tv_losses_text.specs.Reports.{AreNone}
use Rattle.tv_losses_text.specs.Texts.{claim_in, edge_losses, initial_loss, initial_losses, lost_lines}
use Rattle.tv_losses_text.specs.Texts.{node_losses, said_of}

-- the last part of a text
pub ended : {U E : Type 0} (r : Result U E) (old mid new a b : List ℕ) → mid ≡ old ++ a
    → new ≡ (if is_ok r then mid ++ b else mid) → OnOk r (new ≡ old ++ (a ++ b))
ended (Ok u) old mid new a b before is = is ∙ ap (λ xs. xs ++ b) before ∙ append_assoc old a b
ended (Err e) old mid new a b before is = tt

-- four parts, the last of which may fail
pub closed : {U E : Type 0} (r : Result U E) (old one two three new a b c d : List ℕ) → one ≡ old ++ a
    → two ≡ one ++ b → three ≡ two ++ c → new ≡ (if is_ok r then three ++ d else three)
    → OnOk r (new ≡ old ++ (a ++ (b ++ (c ++ d))))
closed (Ok u) old one two three new a b c d first second third is =
    is ∙ ap (λ xs. xs ++ d) third ∙ ap (λ xs. (xs ++ c) ++ d) second ∙ ap (λ xs. ((xs ++ b) ++ c) ++ d) first
    ∙ append_assoc ((old ++ a) ++ b) c d ∙ append_assoc (old ++ a) b (c ++ d) ∙ append_assoc old a (b ++ (c ++ d))
closed (Err e) old one two three new a b c d first second third is = tt

-- a last part that may fail
pub rest : {U E : Type 0} (r : Result U E) (old mid new a b : List ℕ) → mid ≡ old ++ a → OnOk r (new ≡ mid ++ b)
    → OnOk r (new ≡ old ++ (a ++ b))
rest (Ok u) old mid new a b before is = is ∙ ap (λ xs. xs ++ b) before ∙ append_assoc old a b
rest (Err e) old mid new a b before is = tt

dropped : (xs : List ℕ) (k x : ℕ) → slice_get xs k ≡ Some x → drop k xs ≡ x ∷ drop (suc k) xs
dropped [] k x at = absurd (none-some x at)
dropped (y ∷ ys) zero x at = ap (λ z. z ∷ ys) (same_Some y x at)
dropped (y ∷ ys) (suc k) x at = dropped ys k x at

-- the line of one more number
pub losses-next : (p : ProgramForm) (claims : List (Option Claim)) (numbers : List ℕ) (place number : ℕ)
    (claim : Option Claim) (out new all : List ℕ) → slice_get numbers place ≡ Some number
    → claim ≡ claim_in (slice_get claims place) → new ≡ out ++ initial_loss p number claim
    → out ++ initial_losses p claims place (drop place numbers) ≡ all
    → new ++ initial_losses p claims (place + 1) (drop (place + 1) numbers) ≡ all
losses-next p claims numbers place number claim out new all at of is before =
    ap (λ k. new ++ initial_losses p claims k (drop k numbers)) one
    ∙ ap (λ xs. xs ++ rest_of) is
    ∙ append_assoc out (initial_loss p number claim) rest_of
    ∙ ap (λ c. out ++ (initial_loss p number c ++ rest_of)) of
    ∙ ap (λ ns. out ++ initial_losses p claims place ns) (sym (dropped numbers place number at))
    ∙ before
  where
    one : place + 1 ≡ suc place
    one = omega arith

    rest_of : List ℕ
    rest_of = initial_losses p claims (suc place) (drop (suc place) numbers)

said-lines : (p : ProgramForm) (heads : List (List ℕ)) (claims : List (Option Claim)) (initial nodes : List ℕ)
    (losses : List EdgeLoss) → ¬ ((initial ≡ []) × (nodes ≡ []) × (losses ≡ []))
    → said_of (initial_losses p claims 0 initial ++ (node_losses p.nodes nodes ++ edge_losses heads losses))
    ≡ initial_losses p claims 0 initial ++ (node_losses p.nodes nodes ++ edge_losses heads losses)
said-lines p heads claims (n ∷ ns) nodes losses some = refl
said-lines p heads claims [] (n ∷ ns) losses some = refl
said-lines p heads claims [] [] (l ∷ ls) some = refl
said-lines p heads claims [] [] [] some = absurd (some (refl, refl, refl))

-- where something is lost, the lines of it are said
pub said-some : (p : ProgramForm) (heads : List (List ℕ)) (claims : List (Option Claim)) (losses : Losses)
    (r : Bool) → IsTrue r ↔ ((losses.initial ≡ []) × (losses.nodes ≡ []) × (losses.edges ≡ [])) → r ≡ false
    → said_of (lost_lines p heads claims losses) ≡ lost_lines p heads claims losses
said-some p heads claims losses r tells isnt =
    said-lines p heads claims losses.initial losses.nodes losses.edges
    (λ none. true≢false (sym (tells.1 none) ∙ isnt))

-- numbers of initial structures without an opening are within
pub all-within : (p : ProgramForm) (initial : List StructureForm) (numbers : List ℕ)
    → AreExactly (HasNoOpeningAt p initial) numbers → All (λ number. number < length initial) numbers
all-within p initial numbers are k d lt =
    let at = (are.each (get_or numbers k d)).0 (Contains-get_or numbers k d lt)
    in slice_get_within initial (get_or numbers k d) at.0 at.1

pub any-is : (losses : Losses) (r : Bool)
    → IsTrue r ↔ ((losses.initial ≡ []) × (losses.nodes ≡ []) × (losses.edges ≡ []))
    → IsTrue (not r) ↔ (¬ AreNone losses)
any-is losses true tells = (
  λ e. absurd (true≢false (sym e)),
  λ some. let all = tells.0 refl in absurd (some (record {
    no_initial = all.0;
    no_nodes = all.1;
    no_edges = all.2;
  })),
)
any-is losses false tells = (
  λ e none. true≢false (sym (tells.1 (none.no_initial, none.no_nodes, none.no_edges))),
  λ some. refl,
)
