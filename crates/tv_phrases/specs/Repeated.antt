-- Items one after the other: any number of them, or with a mark between them. The relations say it of the
-- grammar, the readings take them off the front of the tokens, with a bound on the turns; that both agree is
-- proved.
use Rattle.std.specs.Prelude.{◌≡◌, ℕ, zero, suc, ◌+◌, List, [], ◌∷◌, Bool, length, Option, Some, None}
use Rattle.std.specs.Prelude.{is_some, IsTrue, IsFalse, if◌then◌else◌}
use Rattle.tv_lex.specs.Token.{SpecToken}
use Rattle.tv_phrases.specs.Reading.{Reading, taken, ◌>>=◌}
use Rattle.tv_phrases.specs.Tokens.{after}

-- the first token is spelled like the mark
abbrev pub begins_with : List ℕ → List SpecToken → Bool
begins_with mark ts = is_some (after mark ts)

-- from any place there is one such phrase at most: one tree and one end
abbrev pub HasOne : {X : Type 0} → (List SpecToken → X → List SpecToken → Type 0) → Type 0
HasOne {X} Item = (ts us vs : List SpecToken) (x y : X) → Item ts x us → Item ts y vs → (x ≡ y) × (us ≡ vs)

-- any number of items: a further one is taken exactly where the first token can begin it
abbrev pub Repeated : {X : Type 0} → (List SpecToken → Bool) → (List SpecToken → X → List SpecToken → Type 0)
    → List SpecToken → List X → List SpecToken → Type 0
Repeated begins Item ts [] rest = IsFalse (begins ts) × (rest ≡ ts)
Repeated begins Item ts (x ∷ xs) rest =
    (us : List SpecToken) × IsTrue (begins ts) × Item ts x us × Repeated begins Item us xs rest

-- an item behind a mark
abbrev pub Behind : {X : Type 0} → List ℕ → (List SpecToken → X → List SpecToken → Type 0) → List SpecToken
    → X → List SpecToken → Type 0
Behind mark Item ts x rest = (us : List SpecToken) × after mark ts ≡ Some us × Item us x rest

-- items with a mark between them
abbrev pub Joined : {X : Type 0} → List ℕ → (List SpecToken → X → List SpecToken → Type 0) → List SpecToken
    → List X → List SpecToken → Type 0
Joined mark Item ts [] rest = ⊥
Joined mark Item ts (x ∷ xs) rest =
    (us : List SpecToken) × Item ts x us × Repeated (begins_with mark) (Behind mark Item) us xs rest

-- ---- readings

-- one level of depth less, if there is one
abbrev pub below : ℕ → Option ℕ
below zero = None
below (suc n) = Some n

-- an item in front of those that are read behind it
unfoldable pub with_first : {X : Type 0} → X → Reading (List X) → Reading (List X)
with_first x read = read >>= λ more. taken (x ∷ more.0) more.1

-- one turn: an item where one begins, and what the reader gives behind it
unfoldable pub turn : {X : Type 0} → (List SpecToken → Bool) → (List SpecToken → Reading X)
    → (List SpecToken → Reading (List X)) → List SpecToken → Reading (List X)
turn begins item read ts = if begins ts then (item ts >>= λ x. with_first x.0 (read x.1)) else taken [] ts

-- items, for as long as one begins
unfoldable pub many : {X : Type 0} → (List SpecToken → Bool) → (List SpecToken → Reading X) → ℕ
    → List SpecToken → Reading (List X)
many begins item zero ts = None
many begins item (suc n) ts = turn begins item (many begins item n) ts

-- as many turns as suffice
abbrev pub all_of : {X : Type 0} → (List SpecToken → Bool) → (List SpecToken → Reading X) → List SpecToken
    → Reading (List X)
all_of begins item ts = many begins item (length ts + 1) ts

unfoldable pub behind : {X : Type 0} → List ℕ → (List SpecToken → Reading X) → List SpecToken → Reading X
behind mark item ts = after mark ts >>= item

-- items with a mark between them
unfoldable pub separated : {X : Type 0} → List ℕ → (List SpecToken → Reading X) → List SpecToken
    → Reading (List X)
separated mark item ts = item ts >>= λ x. with_first x.0 (all_of (begins_with mark) (behind mark item) x.1)
