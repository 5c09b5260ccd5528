-- The rooms of an evaluator.
use Rattle.std.proofs.Common.{ℕ, ◌≡◌, ◌<◌, ◌≤◌, ◌+◌, ◌-◌, ◌*◌, List, [], ◌∷◌, ◌++◌, Option, suc, length, take}
use Rattle.std.proofs.Common.{drop, replicate, get_or, refl, sym, ap}
use Rattle.std.specs.Prelude.{All}
use Rattle.std.proofs.lemmas.List.Elements.{All-cons, All-nil}
use Rattle.std.proofs.Common.{subst, ◌∙◌, arith}
use Rattle.std.proofs.lemmas.List.{get_or-replicate, length-replicate}
use Rattle.tv_kleene.specs.declared.K3.{K3}
use Rattle.tv_model.specs.Form.{Form}
use Rattle.tv_model.specs.Truth.{Assignment}
use Rattle.tv_structure_form.specs.StructureForm.{structure_of}
use Rattle.tv_eval_laws.specs.Value.{value}
use Rattle.tv_eval.specs.Along.{IsWordAlong}
use Rattle.tv_eval.specs.CanEvaluate.{CanEvaluate}
use Rattle.tv_eval.specs.EvaluatorForm.{EvaluatorForm, sizes_in, with_one_back, with_one_out}
use Rattle.tv_eval.specs.Formulas.{HasRooms, nesting, sizes_of}
use Rattle.tv_eval.specs.ScratchForm.{ScratchForm, HasScratchFor}

rooms-of : (n k levels size : ℕ) → k ≤ levels → n ≤ size → HasRooms n k (replicate levels size)
rooms-of n k levels size le wide =
    let long : length (replicate levels size) ≡ levels = length-replicate levels size
    in record {
      count = omega arith;
      each = λ j d lt. subst (λ m. n ≤ m) (sym (get_or-replicate levels j size d (omega arith))) wide;
    }

-- where a formula fits, there are rooms for it
pub rooms_for : (e : EvaluatorForm) (f : Form) (n : ℕ) → HasScratchFor e.room f n → HasRooms n (nesting f) (sizes_in e)
rooms_for e f n fits = rooms-of n (nesting f) e.room.levels e.room.size fits.closures fits.individuals

-- where there is room for one closure more: there is a room, it is large enough, and the others have room for
-- the rest
pub record SplitsRooms (n k : ℕ) (e : EvaluatorForm) : Type 0 where
  pub some : 0 < e.room.levels
  pub first : n ≤ e.room.size
  pub behind : HasRooms n k (sizes_in (with_one_out e))

pub rooms-split : (n k : ℕ) (e : EvaluatorForm) → HasRooms n (k + 1) (sizes_in e) → SplitsRooms n k e
rooms-split n k e h =
    let long : length (replicate e.room.levels e.room.size) ≡ e.room.levels =
    length-replicate e.room.levels e.room.size
    in let count : k + 1 ≤ length (replicate e.room.levels e.room.size) = h.count
    in let some : 0 < e.room.levels = omega arith
    in let wide : n ≤ e.room.size =
    subst (λ m. n ≤ m) (get_or-replicate e.room.levels 0 e.room.size 0 some) (h.each 0 0 (omega arith))
    in record {
      some = some;
      first = wide;
      behind = rooms-of n k (e.room.levels - 1) e.room.size (omega arith) wide;
    }

abbrev made : EvaluatorForm → ℕ → ℕ → EvaluatorForm
made e levels spare = record {
  structure = e.structure;
  room = record { levels = levels; size = e.room.size };
  spare = spare;
}

-- a room was taken out and put back
pub back-again : (e : EvaluatorForm) → 0 < e.room.levels → with_one_back (with_one_out e) ≡ e
back-again e some =
    let levels : e.room.levels - 1 + 1 ≡ e.room.levels = omega arith
    in let spare : e.spare + 1 - 1 ≡ e.spare = omega arith
    in ap (λ (n : ℕ). made e n (e.spare + 1 - 1)) levels ∙ ap (λ (n : ℕ). made e e.room.levels n) spare

-- ---- what is told of an evaluator is told of one that it equals

pub can-same : {e e' : EvaluatorForm} → e ≡ e' → (places : List (Option ℕ)) (f : Form)
    → CanEvaluate e.structure places (sizes_in e) f → CanEvaluate e'.structure places (sizes_in e') f
can-same same places f can = subst (λ e. CanEvaluate e.structure places (sizes_in e) f) same can

pub word-same : {e e' : EvaluatorForm} → e ≡ e' → (a : Assignment) (v chunk : ℕ) (f : Form) (word : List K3)
    → IsWordAlong e.structure a v chunk f word → IsWordAlong e'.structure a v chunk f word
word-same same a v chunk f word is = subst (λ e. IsWordAlong e.structure a v chunk f word) same is

pub chunk-same : {e e' : EvaluatorForm} → e ≡ e' → (chunk : ℕ) → 64 * chunk < e.structure.size → 64 * chunk < e'.structure.size
chunk-same same chunk lt = subst (λ e. 64 * chunk < e.structure.size) same lt

pub value-same : {e e' : EvaluatorForm} → e ≡ e' → (a : Assignment) (f : Form)
    → value (structure_of e.structure) a f ≡ value (structure_of e'.structure) a f
value-same same a f = ap (λ e. value (structure_of e.structure) a f) same

-- ---- rooms written back

written : {X : Type 0} (new items : List X) → length new ≡ length items → take (length items)
    (new ++ drop (length new) items) ≡ new
written [] [] e = refl
written [] (y ∷ items) e = absurd (omega arith)
written (x ∷ new) [] e = absurd (omega arith)
written (x ∷ new) (y ∷ items) e = ap (λ xs. x ∷ xs) (written new items (omega arith))

pub written_items : {X : Type 0} (n : ℕ) (new items : List X) → n ≡ length items → length new ≡ length items
    → take n (new ++ drop (length new) items) ≡ new
written_items n new items e len = rw e (written new items len)

-- ---- rooms of one size

first-size : (size n : ℕ) (ns : List ℕ) → All (λ room. room ≡ size) (n ∷ ns)
    → (n ≡ size) × All (λ room. room ≡ size) ns
first-size size n ns h = (h 0 0 (omega arith), λ k d lt. h (suc k) d (omega arith))

pub front-sizes : (size : ℕ) (xs ys : List (List (List K3))) → All (λ room. room ≡ size) (sizes_of (xs ++ ys))
    → All (λ room. room ≡ size) (sizes_of xs)
front-sizes size [] ys h = All-nil (λ room. room ≡ size)
front-sizes size (x ∷ xs) ys h =
    let parts : (length x ≡ size) × All (λ room. room ≡ size) (sizes_of (xs ++ ys)) =
    first-size size (length x) (sizes_of (xs ++ ys)) h
    in All-cons (λ room. room ≡ size) (length x) (sizes_of xs) parts.0 (front-sizes size xs ys parts.1)

pub last-size : (size : ℕ) (xs : List (List (List K3))) (x : List (List K3))
    → All (λ room. room ≡ size) (sizes_of (xs ++ x ∷ [])) → length x ≡ size
last-size size [] x h = (first-size size (length x) [] h).0
last-size size (y ∷ xs) x h = last-size size xs x (first-size size (length y) (sizes_of (xs ++ x ∷ [])) h).1

pub one-more-size : (size : ℕ) (xs : List (List (List K3))) (x : List (List K3))
    → All (λ room. room ≡ size) (sizes_of xs) → length x ≡ size
    → All (λ room. room ≡ size) (sizes_of (xs ++ x ∷ []))
one-more-size size [] x h e =
    All-cons (λ room. room ≡ size) (length x) [] e (All-nil (λ room. room ≡ size))
one-more-size size (y ∷ xs) x h e =
    let parts : (length y ≡ size) × All (λ room. room ≡ size) (sizes_of xs) =
    first-size size (length y) (sizes_of xs) h
    in All-cons (λ room. room ≡ size) (length y) (sizes_of (xs ++ x ∷ [])) parts.0
    (one-more-size size xs x parts.1 e)
