-- What a text means, and why it is refused.
use Rattle.std.specs.Prelude.{◌≡◌, List, Option, Some, None, Ok, Err, ⊤}
use Rattle.tv_lex.specs.Token.{SpecToken}
use Rattle.tv_lex.specs.declared.token.Place.{Place}
use Rattle.tv_source.specs.Forms.{SourceForm}
use Rattle.tv_source_syntax.specs.Depth.{IsTooDeep}
use Rattle.tv_source_syntax.specs.Forms.{SourceText}
use Rattle.tv_source_syntax.specs.Grammar.{IsSource}
use Rattle.tv_source_names.specs.Meaning.{source_meant}
use Rattle.tv_source_names.specs.declared.error.SourceReadError.{SourceReadError}
use Rattle.tv_source_names.specs.declared.error.SourceReadError.TheVariants.{TooDeep, Syntax, Reserved}
use Rattle.tv_source_names.specs.declared.error.SourceReadError.TheVariants.{NameTwice, NameUnknown, Memory}

-- the tokens are those of a source program, not too deep, and this is what it means
pub record MeansSource (ts : List SpecToken) (source : SourceForm) : Type 0 where
  pub text : SourceText
  pub low : ¬ IsTooDeep ts
  pub is : IsSource ts text
  pub meant : source_meant text ≡ Ok source

-- the tokens are those of a source program, not too deep, and a name of it is refused so
pub record IsRefused (ts : List SpecToken) (fault : SourceReadError) : Type 0 where
  pub text : SourceText
  pub low : ¬ IsTooDeep ts
  pub is : IsSource ts text
  pub refused : source_meant text ≡ Err fault

-- why tokens mean no source program
abbrev pub IsReadCause : List SpecToken → SourceReadError → Type 0
IsReadCause ts TooDeep = IsTooDeep ts
IsReadCause ts (Syntax place) = ¬ IsTooDeep ts × ((s : SourceText) → ¬ IsSource ts s)
IsReadCause ts Reserved = IsRefused ts Reserved
IsReadCause ts NameTwice = IsRefused ts NameTwice
IsReadCause ts NameUnknown = IsRefused ts NameUnknown
IsReadCause ts Memory = ⊤

-- the place that the error tells
abbrev pub reading_place : SourceReadError → Option Place
reading_place (Syntax place) = Some place
reading_place other = None
