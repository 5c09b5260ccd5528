-- How many are open, token by token.
use Rattle.std.proofs.Common.{◌≡◌, ℕ, ◌<◌, ◌≤◌, List, ◌∷◌, true, false, refl, arith}
use Rattle.std.specs.Prelude.{nat_lt}
use Rattle.tv_lex.specs.Token.{SpecToken}
use Rattle.tv_source_syntax.specs.Depth.{open_after, passes_depth}

pub further : (depth : ℕ) (t : SpecToken) (ts : List SpecToken) → open_after depth t ≤ 200 → passes_depth depth (t ∷ ts) ≡ passes_depth (open_after depth t) ts
further depth t ts low =
    let e : nat_lt 200 (open_after depth t) ≡ false = grind arith in
    rw e refl

pub past : (depth : ℕ) (t : SpecToken) (ts : List SpecToken) → 200 < open_after depth t → passes_depth depth (t ∷ ts) ≡ true
past depth t ts high =
    let e : nat_lt 200 (open_after depth t) ≡ true = grind arith in
    rw e refl
