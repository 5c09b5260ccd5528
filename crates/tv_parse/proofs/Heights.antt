-- The stack of what is open, which the code has with the innermost entry last.
use Rattle.std.proofs.Common.{◌≡◌, ◌<◌, ◌≤◌, List, [], ◌∷◌, ◌++◌, true, false, length, reverse, refl, sym}
use Rattle.std.proofs.Common.{◌∙◌, ap, arith}
use Rattle.std.specs.Prelude.{nat_lt}
use Rattle.std.proofs.lemmas.List.{reverse-append}
use Rattle.tv_lex.specs.Token.{SpecToken}
use Rattle.tv_parse.specs.declared.height.Open.{Open}
use Rattle.tv_parse.specs.declared.height.Open.TheVariants.{Bracket}
use Rattle.tv_parse.specs.Height.{effect, changed, without_marks, without_first, passes_height}

pub reverse_push : (old new : List Open) (x : Open) → new ≡ old ++ x ∷ [] → reverse new ≡ x ∷ reverse old
reverse_push old new x e = ap reverse e ∙ reverse-append old (x ∷ [])

-- the last one is taken
pub reverse_pop : (old new : List Open) (x : Open) → old ≡ new ++ x ∷ [] → reverse new ≡ without_first (reverse old)
reverse_pop old new x e = sym (ap without_first (reverse_push new old x e))

pub no_mark : (old new : List Open) → old ≡ new ++ Bracket ∷ [] → without_marks (reverse old) ≡ reverse old
no_mark old new e = ap without_marks (reverse_push new old Bracket e) ∙ sym (reverse_push new old Bracket e)

pub further : (stack : List Open) (t : SpecToken) (ts : List SpecToken) → length (changed (effect t ts) stack) ≤ 200 → passes_height stack (t ∷ ts) ≡ passes_height (changed (effect t ts) stack) ts
further stack t ts low =
    let e : nat_lt 200 (length (changed (effect t ts) stack)) ≡ false = grind arith in
    rw e refl

pub past : (stack : List Open) (t : SpecToken) (ts : List SpecToken) → 200 < length (changed (effect t ts) stack) → passes_height stack (t ∷ ts) ≡ true
past stack t ts high =
    let e : nat_lt 200 (length (changed (effect t ts) stack)) ≡ true = grind arith in
    rw e refl
