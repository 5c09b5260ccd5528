-- The height of a text: how many constructs are open at once. A stack is kept along the tokens.
use Rattle.std.specs.Prelude.{ℕ, List, [], ◌∷◌, Bool, true, false, ◌||◌, nat_lt, length, codes, if◌then◌else◌}
use Rattle.std.specs.Prelude.{IsTrue}
use Rattle.std.specs.List.{list_any}
use Rattle.std.specs.Str.{bytes_eq}
use Rattle.tv_lex.specs.Token.{SpecToken}
use Rattle.tv_lex.specs.declared.token.TokenKind.{TokenKind}
use Rattle.tv_lex.specs.declared.token.TokenKind.TheVariants as kind
use Rattle.tv_parse.specs.declared.height.Open.{Open}
use Rattle.tv_parse.specs.declared.height.Open.TheVariants.{Bracket, Mark}
use Rattle.tv_parse.specs.declared.height.Effect.{Effect}
use Rattle.tv_parse.specs.declared.height.Effect.TheVariants.{OpensBracket, OpensMark, ClosesBracket}
use Rattle.tv_parse.specs.declared.height.Effect.TheVariants.{ClosesMarks, Nothing}
use Rattle.tv_phrases.specs.Repeated.{begins_with}

abbrev pub is_one_of : List (List ℕ) → List ℕ → Bool
is_one_of marks w = list_any (bytes_eq w) marks

abbrev pub opening_brackets : List (List ℕ)
opening_brackets = codes "(" ∷ codes "{" ∷ codes "[" ∷ []

abbrev pub closing_brackets : List (List ℕ)
closing_brackets = codes ")" ∷ codes "}" ∷ codes "]" ∷ []

-- they stay open up to the end of what stands behind them
abbrev pub connectives : List (List ℕ)
connectives = codes "!" ∷ codes "&" ∷ codes "|" ∷ codes "->" ∷ codes "<->" ∷ codes "?" ∷ []

-- they do so where a `(` follows
abbrev pub quantifiers : List (List ℕ)
quantifiers = codes "E" ∷ codes "A" ∷ codes "TC" ∷ []

abbrev pub separators : List (List ℕ)
separators = codes "," ∷ codes "=" ∷ codes "==>" ∷ codes "%%" ∷ []

abbrev pub is_directive : TokenKind → Bool
is_directive kind.Word = false
is_directive kind.Half = false
is_directive kind.Text = false
is_directive kind.Directive = true
is_directive kind.Parts = false
is_directive kind.Punct = false

-- what the token does, in front of these tokens
abbrev pub effect : SpecToken → List SpecToken → Effect
effect t ts =
    if is_one_of opening_brackets t.bytes then OpensBracket
    else (if is_one_of connectives t.bytes then OpensMark
    else (if is_one_of quantifiers t.bytes then (if begins_with (codes "(") ts then OpensMark else Nothing)
    else (if is_one_of closing_brackets t.bytes then ClosesBracket
    else (if is_one_of separators t.bytes || is_directive t.kind then ClosesMarks else Nothing))))

-- the innermost entry of a stack comes first: without the marks in front of the innermost bracket
abbrev pub without_marks : List Open → List Open
without_marks [] = []
without_marks (Bracket ∷ stack) = Bracket ∷ stack
without_marks (Mark ∷ stack) = without_marks stack

abbrev pub without_first : List Open → List Open
without_first [] = []
without_first (entry ∷ stack) = stack

abbrev pub changed : Effect → List Open → List Open
changed OpensBracket stack = Bracket ∷ stack
changed OpensMark stack = Mark ∷ stack
changed ClosesBracket stack = without_first (without_marks stack)
changed ClosesMarks stack = without_marks stack
changed Nothing stack = stack

-- the stack holds over 200 entries after some of the tokens
abbrev pub passes_height : List Open → List SpecToken → Bool
passes_height stack [] = false
passes_height stack (t ∷ ts) =
    nat_lt 200 (length (changed (effect t ts) stack)) || passes_height (changed (effect t ts) stack) ts

-- the constructs that are open at one place are more than 200
abbrev pub IsTooDeep : List SpecToken → Type 0
IsTooDeep ts = IsTrue (passes_height [] ts)
