-- Source programs are read as the grammar says.
use Rattle.std.proofs.Common.{◌≡◌, List, Some, None, sym, ◌∙◌}
use Rattle.std.proofs.lemmas.Option.{same_Some}
use Rattle.tv_lex.specs.Token.{SpecToken}
use Rattle.tv_source_syntax.specs.Forms.{SourceText}
use Rattle.tv_source_syntax.specs.Grammar.{IsSource}
use Rattle.tv_source_syntax.specs.Reading.{source_at}
use Rattle.tv_source_syntax.proofs.Sound.{source_sound}
use Rattle.tv_source_syntax.proofs.Complete.{source_read}

pub read_is_source : (ts : List SpecToken) (s : SourceText) → source_at ts ≡ Some s → IsSource ts s
read_is_source ts s e = source_sound ts s e

pub unread_is_none : (ts : List SpecToken) → source_at ts ≡ None → (s : SourceText) → ¬ IsSource ts s
unread_is_none ts none s h = let e : None ≡ Some s = sym none ∙ source_read ts s h in absurd cc

pub one_source : (ts : List SpecToken) (a b : SourceText) → IsSource ts a → IsSource ts b → a ≡ b
one_source ts a b h k = same_Some a b (sym (source_read ts a h) ∙ source_read ts b k)
