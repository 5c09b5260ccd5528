-- Why a whole text isn't read, and the place that is told.
use Rattle.std.specs.Prelude.{List, Option, Some, None, ⊤}
use Rattle.tv_lex.specs.Token.{SpecToken}
use Rattle.tv_lex.specs.declared.token.Place.{Place}
use Rattle.tv_phrases.specs.declared.error.FormError.{FormError}
use Rattle.tv_phrases.specs.declared.error.FormError.TheVariants as form
use Rattle.tv_phrases.specs.declared.error.SyntaxError.{SyntaxError}
use Rattle.tv_phrases.specs.declared.error.SyntaxError.TheVariants.{Syntax, TooDeep, Memory}

-- why tokens have no tree: they nest too deep, or, if they don't, are not of the grammar
abbrev pub HaveNoTree : {X : Type 0} → (List SpecToken → Type 0) → (List SpecToken → X → Type 0)
    → List SpecToken → SyntaxError → Type 0
HaveNoTree {X} IsDeep Is ts (Syntax place) = ¬ IsDeep ts × ((tree : X) → ¬ Is ts tree)
HaveNoTree {X} IsDeep Is ts TooDeep = IsDeep ts
HaveNoTree {X} IsDeep Is ts Memory = ⊤

abbrev pub syntax_place : SyntaxError → Option Place
syntax_place (Syntax place) = Some place
syntax_place other = None

-- why a text isn't read: it has no meaning, or there was no memory
abbrev pub IsUnread : Type 0 → FormError → Type 0
IsUnread none (form.Form place) = none
IsUnread none form.Memory = ⊤

abbrev pub form_place : FormError → Option Place
form_place (form.Form place) = Some place
form_place form.Memory = None
