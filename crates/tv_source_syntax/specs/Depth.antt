-- How many parentheses and braces are open at once. One that closes closes the last one that is open, of
-- either kind, if there is one.
use Rattle.std.specs.Prelude.{ℕ, ◌+◌, ◌-◌, List, [], ◌∷◌, Bool, false, ◌||◌, nat_lt, codes, if◌then◌else◌}
use Rattle.std.specs.Prelude.{IsTrue}
use Rattle.std.specs.Str.{bytes_eq}
use Rattle.tv_lex.specs.Token.{SpecToken}

abbrev pub opens : List ℕ → Bool
opens w = bytes_eq w (codes "(") || bytes_eq w (codes "{")

abbrev pub closes : List ℕ → Bool
closes w = bytes_eq w (codes ")") || bytes_eq w (codes "}")

-- how many are open behind the token
abbrev pub open_after : ℕ → SpecToken → ℕ
open_after depth t = if opens t.bytes then depth + 1 else (if closes t.bytes then depth - 1 else depth)

-- over 200 are open after some of the tokens
abbrev pub passes_depth : ℕ → List SpecToken → Bool
passes_depth depth [] = false
passes_depth depth (t ∷ ts) = nat_lt 200 (open_after depth t) || passes_depth (open_after depth t) ts

abbrev pub IsTooDeep : List SpecToken → Type 0
IsTooDeep ts = IsTrue (passes_depth 0 ts)
