-- The grammar of traces. `{ }` is any number of times, `[ ]` is optional; a comma list of X is X, then any
-- number of `,` X. What is optional or repeated is taken exactly where the token at its place can begin it.
-- (Structures: `tv_tvs`.)
--
--   Trace = {Step}
--   Step  = `step` number [`(` [comma list of numbers] `)`] [`free` structure]
--
-- Each relation says that the tokens `ts` begin with the phrase of a tree, and that `rest` stands behind it.
use Rattle.std.specs.Prelude.{◌≡◌, ℕ, List, [], ◌⊎◌, Option, Some, None, codes}
use Rattle.tv_lex.specs.Token.{SpecToken}
use Rattle.tv_phrases.specs.Reading.{taken}
use Rattle.tv_phrases.specs.Tokens.{after, first, number_item}
use Rattle.tv_phrases.specs.Lists.{optional_list}
use Rattle.tv_phrases.specs.Repeated.{Repeated, begins_with}
use Rattle.tv_tvs.specs.Grammar.{IsStruct}
use Rattle.tv_tvs.specs.Tree.{StructTree}
use Rattle.tv_trace.specs.Tree.{StepTree}

-- nothing where no `(` stands, else numbers in parentheses
abbrev pub ArePicks : List SpecToken → List ℕ → List SpecToken → Type 0
ArePicks ts picks rest =
    ((after (codes "(") ts ≡ None) × (picks ≡ []) × (rest ≡ ts))
    ⊎ ((us vs : List SpecToken) × (after (codes "(") ts ≡ Some us)
    × (optional_list number_item us ≡ taken picks vs)
    × (after (codes ")") vs ≡ Some rest))

-- nothing where no `free` stands, else `free` and a structure
abbrev pub AreValues : List SpecToken → Option StructTree → List SpecToken → Type 0
AreValues ts None rest = (after (codes "free") ts ≡ None) × (rest ≡ ts)
AreValues ts (Some t) rest = (us : List SpecToken) × (after (codes "free") ts ≡ Some us) × IsStruct us t rest

abbrev pub IsStep : List SpecToken → StepTree → List SpecToken → Type 0
IsStep ts step rest = (us vs ws : List SpecToken)
    × (after (codes "step") ts ≡ Some us) × (first number_item us ≡ taken step.edge vs)
    × ArePicks vs step.picks ws × AreValues ws step.values rest

-- the tokens are those of these steps
abbrev pub IsTrace : List SpecToken → List StepTree → Type 0
IsTrace tokens steps = Repeated (begins_with (codes "step")) IsStep tokens steps []
