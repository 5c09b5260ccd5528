-- Where the readers stop, and what they hand on of structures.
use Rattle.std.proofs.Common.{ℕ, ◌+◌, ◌==◌, ◌≡◌, List, take, length, get_or, min, Some, Result, Ok, Err, ap}
use Rattle.std.proofs.Common.{subst, ◌∙◌, inl}
use Rattle.std.specs.Prelude.{slice_get, IfErr, IfOk, All, None}
use Rattle.std.proofs.lemmas.List.{take_min}
use Rattle.std.proofs.lemmas.Option.{slice_get_within, get_or_from_slice_get}
use Rattle.std.proofs.Math.Nat.{min_comm}
use Rattle.std.specs.List.{count_by, suffix_len}
use Rattle.tv_lex.specs.Bytes.{stays_on_line}
use Rattle.tv_lex.specs.Places.{place_at, IsTokenPlace, StopsAtToken}
use Rattle.tv_lex.specs.declared.token.Place.{Place}
use Rattle.tv_lex.specs.declared.token.Token.{Token}
use Rattle.tv_model.specs.declared.program.Vocab.{Vocab}
use Rattle.tv_structure_form.specs.StructureForm.{StructureForm, IsStructure, IsOver}
use Rattle.tv_tvs.specs.Targets.{IsRead}
use Rattle.tv_tvs.specs.declared.error.TvsError.{TvsError}
use Rattle.tv_tvs.specs.declared.error.TvsError.TheVariants.{Syntax}
use Rattle.tv_tvs.specs.Meaning.{Answers, RefusesStructures, structures_place}

-- the place behind these bytes
place_behind : List ℕ → Place
place_behind before = record { line = count_by (λ b. b == 10) before + 1; column = suffix_len stays_on_line before + 1 }

pub start_place : (text : List ℕ) (tokens : List Token) (t : Token) (i : ℕ) (place : Place) → slice_get tokens i ≡ Some t
    → place ≡ place_at text (min (length text) t.start) → IsTokenPlace text tokens place
unfolding place_behind
start_place text tokens t i place is there =
    let within : take (min (length text) t.start) text ≡ take t.start text = ap (λ n. take n text) (min_comm (length text) t.start) ∙ take_min t.start text
    in inl (i, t, slice_get_within tokens i t is, get_or_from_slice_get tokens i t t is, there ∙ ap (place_behind) within)

-- a refusal that is told of a tree has no place
pub told_stops : {X : Type 0} (text : List ℕ) (tokens : List Token) (e : TvsError) (meaning : Result X TvsError) → RefusesStructures e meaning
    → StopsAtToken structures_place text tokens e
told_stops text tokens (Syntax place) meaning fails = absurd fails
told_stops text tokens other meaning fails = tt

pub answer_stops : {R X : Type 0} (view : R → X) (text : List ℕ) (tokens : List Token) (r : Result R TvsError) (meaning : Result X TvsError)
    → Answers view r meaning → IfErr r (StopsAtToken structures_place text tokens)
answer_stops view text tokens (Ok x) meaning answers = tt
answer_stops view text tokens (Err e) meaning answers = told_stops text tokens e meaning answers

-- the structures that were read over a vocabulary, as its reader sees it
pub read_over : (vocab seen : Vocab) → seen ≡ vocab → (r : Result (List StructureForm) TvsError) → IfOk r (All (IsRead seen))
    → IfOk r (All (λ s. IsOver vocab s × (s.fresh ≡ None)))
read_over vocab seen same (Ok ss) all = λ k d lt. let one = subst (λ v. IsRead v (get_or ss k d)) same (all k d lt) in (one.over, one.fresh)
read_over vocab seen same (Err e) all = tt

pub read_kept : (seen : Vocab) (r : Result (List StructureForm) TvsError) → IfOk r (All (IsRead seen)) → IfOk r (All IsStructure)
read_kept seen (Ok ss) all = λ k d lt. (all k d lt).structure
read_kept seen (Err e) all = tt
