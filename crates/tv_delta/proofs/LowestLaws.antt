-- How definitions wait for those inside them.
use Rattle.std.proofs.Common.{ℕ, ◌≡◌, ◌∙◌, ◌+◌, ◌*◌, ◌-◌, ◌<◌, ◌≤◌, zero, suc, List, [], ◌∷◌, ◌++◌}
use Rattle.std.proofs.Common.{length, All, sym, ap, subst, arith}
use Rattle.std.specs.Prelude.{option_and_then}
use Rattle.std.proofs.lemmas.List.Elements.{All-contains, All-push, Contains-append_left}
use Rattle.std.proofs.lemmas.List.Elements.{Contains-append_right}
use Rattle.tv_model.proofs.Lists.{All-from_contains, Contains-here}
use Rattle.tv_model.specs.Form.{FAtom, form_of, vars_of}
use Rattle.tv_model.specs.Program.{ProgramForm, program_of}
use Rattle.tv_model.specs.Valid.{IsValid}
use Rattle.tv_delta_laws.specs.Simple.{nodes}
use Rattle.tv_delta_laws.specs.Deltas.{delta_of_defined}
use Rattle.tv_delta.specs.Opening.{atom_at, delta_at, EndsWithin, Starts}
use Rattle.tv_delta.specs.Lowest.{IsWaiting, power, weight}
use Rattle.tv_delta.specs.declared.opening.Opening.{Opening}
use Rattle.tv_delta.specs.declared.atoms.Start.TheVariants.{Inside}
use Rattle.tv_delta.specs.declared.lowest.Waiting.{Waiting}
use Rattle.tv_delta.proofs.Depth.{count-fewer}

-- no chain of definitions that begins at an atom is longer than the vocabulary
pub atom_ends : (p : ProgramForm) → IsValid p → (q : ℕ) (args : List ℕ) → q < length p.preds
    → EndsWithin p (length p.preds) (FAtom q args)
atom_ends p valid q args below =
    let le : valid.rank q ≤ valid.rank q = omega arith
    in (valid, (below, count-fewer valid.rank (valid.rank q) (length p.preds) q below le))

pub waits : (o : Opening) (w : Waiting) → IsValid (program_of o.program.now)
    → w.atom.pred.0 < length (program_of o.program.now).preds
    → ((depth : ℕ) → EndsWithin (program_of o.program.now) depth (FAtom w.atom.pred.0 (vars_of w.atom.args))
    → Starts o depth w.atom.pred.0 (vars_of w.atom.args) (Inside w.opened))
    → length w.left.items ≤ nodes (form_of w.opened) → IsWaiting o w
waits o w valid below starts fewer =
    let its : Starts o (length (program_of o.program.now).preds) w.atom.pred.0 (vars_of w.atom.args) (Inside w.opened)
    = starts (length (program_of o.program.now).preds)
    (atom_ends (program_of o.program.now) valid w.atom.pred.0 (vars_of w.atom.args) below)
    in record { starts = its; few = omega (arith, fewer, its.2) }

-- the same with fewer atoms left
pub waits_on : (o : Opening) (w v : Waiting) → IsWaiting o w → v.atom ≡ w.atom → v.opened ≡ w.opened
    → length v.left.items ≤ length w.left.items → IsWaiting o v
waits_on o w v is atom opened fewer = record {
  starts =
      subst (λ a. Starts o (length (program_of o.program.now).preds) a.pred.0 (vars_of a.args) (Inside v.opened)) (sym atom)
      (subst (λ x. Starts o (length (program_of o.program.now).preds) w.atom.pred.0 (vars_of w.atom.args) (Inside x))
      (sym opened) is.starts);
  few = omega (arith, fewer, is.few);
}

-- inside it chains of definitions are shorter
pub rest_ends : (o : Opening) (w : Waiting) (n depth : ℕ) → IsWaiting o w
    → n ≡ length (program_of o.program.now).preds → depth ≡ n - 1
    → EndsWithin (program_of o.program.now) depth (form_of w.opened)
rest_ends o w n depth is all one =
    let less : is.starts.0 ≡ depth = omega (arith, is.starts.1, all, one)
    in subst (λ m. EndsWithin (program_of o.program.now) m (form_of w.opened)) less is.starts.3

pub concluded : (o : Opening) (w : Waiting) → IsWaiting o w
    → atom_at o w.atom.pred.0 (vars_of w.atom.args)
    ≡ option_and_then (delta_of_defined (FAtom w.atom.pred.0 (vars_of w.atom.args))) (delta_at o (form_of w.opened))
concluded o w is = is.starts.4

-- ---- the stack

pub all_pushed : (o : Opening) (old new : List Waiting) (w : Waiting) → new ≡ old ++ w ∷ [] → All (IsWaiting o) old
    → IsWaiting o w → All (IsWaiting o) new
all_pushed o old new w is all one = subst (All (IsWaiting o)) (sym is) (All-push (IsWaiting o) old w all one)

pub rest_popped : (o : Opening) (old new : List Waiting) (w : Waiting) → old ≡ new ++ w ∷ [] → All (IsWaiting o) old
    → All (IsWaiting o) new
rest_popped o old new w is all =
    All-from_contains (IsWaiting o) new
    (λ x at. All-contains (IsWaiting o) (new ++ w ∷ []) x (subst (All (IsWaiting o)) is all)
    (Contains-append_left new (w ∷ []) x at))

pub last_popped : (o : Opening) (old new : List Waiting) (w : Waiting) → old ≡ new ++ w ∷ [] → All (IsWaiting o) old
    → IsWaiting o w
last_popped o old new w is all =
    All-contains (IsWaiting o) (new ++ w ∷ []) w (subst (All (IsWaiting o)) is all)
    (Contains-append_right new (w ∷ []) w (Contains-here w []))

pub lighter : (old middle new : List Waiting) (w : Waiting) → old ≡ middle ++ w ∷ [] → weight new < weight (middle ++ w ∷ [])
    → weight new < weight old
lighter old middle new w is less = subst (λ ws. weight new < weight ws) (sym is) less

-- ---- what is left becomes less

pub power-positive : (n : ℕ) → 1 ≤ power n
power-positive zero = omega arith
power-positive (suc n) = omega (arith, power-positive n)

weight-append : (stack : List Waiting) (w : Waiting)
    → weight (stack ++ w ∷ []) ≡ weight stack + (length w.left.items + 1) * power w.room
weight-append [] w = omega arith
weight-append (v ∷ stack) w = omega (arith, weight-append stack w)

times-le : (a b n : ℕ) → a ≤ b → a * n ≤ b * n
times-le a b n le = grind arith

-- a definition with less room weighs less than one atom that is left in the one around it
child-lighter : (w : Waiting) (n : ℕ) → length w.left.items ≤ 65536 → w.room ≡ n
    → (length w.left.items + 1) * power w.room < power (suc n)
child-lighter w n few is =
    let le : (length w.left.items + 1) * power w.room ≤ 65537 * power w.room
    = times-le (length w.left.items + 1) 65537 (power w.room) (omega (arith, few))
    in let some : 1 ≤ power w.room = power-positive w.room
    in let less : (length w.left.items + 1) * power w.room < 65538 * power w.room = omega (arith, le, some)
    in subst (λ m. (length w.left.items + 1) * power w.room < 65538 * power m) is less

-- without a definition inside
pub weighs_alone : (old new : List Waiting) (w : Waiting) → new ≡ old ++ w ∷ []
    → weight new < weight (old ++ w ∷ []) + power w.room
weighs_alone old new w is =
    let some : 1 ≤ power w.room = power-positive w.room
    in let same : weight new ≡ weight (old ++ w ∷ []) = ap weight is
    in omega (arith, some, same)

-- with one inside
pub weighs_inside : (o : Opening) (old middle new : List Waiting) (w child : Waiting) (room : ℕ)
    → middle ≡ old ++ w ∷ [] → new ≡ middle ++ child ∷ [] → IsWaiting o child → child.room ≡ room - 1 → w.room ≡ room
    → 0 < room → weight new < weight (old ++ w ∷ []) + power w.room
weighs_inside o old middle new w child zero pushed more is its same some = absurd (omega (arith, some))
weighs_inside o old middle new w child (suc n) pushed more is its same some =
    let inside : child.room ≡ n = omega (arith, its)
    in let light : (length child.left.items + 1) * power child.room < power (suc n) = child-lighter child n is.few inside
    in let here : power w.room ≡ power (suc n) = ap power same
    in let all : weight new ≡ weight middle + (length child.left.items + 1) * power child.room
    = ap weight more ∙ weight-append middle child
    in let before : weight middle ≡ weight (old ++ w ∷ []) = ap weight pushed
    in omega (arith, light, here, all, before)

-- a definition that is worked out is gone
pub weighs_without : (stack : List Waiting) (w : Waiting) → weight stack < weight (stack ++ w ∷ [])
weighs_without stack w =
    let all : weight (stack ++ w ∷ []) ≡ weight stack + (length w.left.items + 1) * power w.room = weight-append stack w
    in let some : 1 ≤ power w.room = power-positive w.room
    in let le : 1 * power w.room ≤ (length w.left.items + 1) * power w.room
    = times-le 1 (length w.left.items + 1) (power w.room) (omega arith)
    in omega (arith, all, some, le)

-- one atom less is left
pub weighs_less : (stack : List Waiting) (old new : Waiting) → new.room ≡ old.room
    → length new.left.items + 1 ≡ length old.left.items
    → weight (stack ++ new ∷ []) + power new.room ≡ weight (stack ++ old ∷ [])
weighs_less stack old new room fewer =
    let one : weight (stack ++ new ∷ []) ≡ weight stack + (length new.left.items + 1) * power new.room
    = weight-append stack new
    in let two : weight (stack ++ old ∷ []) ≡ weight stack + (length old.left.items + 1) * power old.room
    = weight-append stack old
    in let same : (length old.left.items + 1) * power old.room ≡ (length new.left.items + 1 + 1) * power new.room
    = ap (λ n. (n + 1) * power old.room) (sym fewer) ∙ ap (λ r. (length new.left.items + 1 + 1) * power r) (sym room)
    in let more : (length new.left.items + 1 + 1) * power new.room ≡ (length new.left.items + 1) * power new.room + power new.room
    = grind arith
    in omega (arith, one, two, same, more)

pub goes_on : (stack final : List Waiting) (old new : Waiting) → new.room ≡ old.room
    → length new.left.items + 1 ≡ length old.left.items
    → weight final < weight (stack ++ new ∷ []) + power new.room → weight final < weight (stack ++ old ∷ [])
goes_on stack final old new room fewer less = omega (arith, less, weighs_less stack old new room fewer)
