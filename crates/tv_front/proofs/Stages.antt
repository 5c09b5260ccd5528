-- What each stage gives or refuses, as a fact about the text.
use Rattle.std.proofs.Common.{◌≡◌, ℕ, Bool, true, false, List, Ok, refl}
use Rattle.tv_lex.specs.Token.{spec_tokens}
use Rattle.tv_lex.specs.Places.{StopsAtToken}
use Rattle.tv_lex.specs.Pieces.{Reads, Cause as LexCause}
use Rattle.tv_lex.specs.declared.token.Token.{Token}
use Rattle.tv_lex.specs.declared.token.LexError.{LexError}
use Rattle.tv_lex.specs.declared.token.LexError.TheVariants as lexing
use Rattle.tv_parse.specs.Height.{IsTooDeep}
use Rattle.tv_parse.specs.Grammar.{IsProgram}
use Rattle.tv_phrases.specs.Refused.{HaveNoTree, syntax_place}
use Rattle.tv_parse.specs.Grammar.{IsProgram}
use Rattle.tv_phrases.specs.declared.error.SyntaxError.{SyntaxError}
use Rattle.tv_phrases.specs.declared.error.SyntaxError.TheVariants as parsing
use Rattle.tv_tree.specs.Forms.{ProgramForm as TreeForm}
use Rattle.tv_flat.specs.FlatForm.{FlatForm}
use Rattle.tv_expand.specs.Expansion.{expansion}
use Rattle.tv_tree.specs.Steps.{Unless}
use Rattle.tv_expand.specs.Outcome.{FailsExpansion, is_memory as expansion_memory}
use Rattle.tv_expand.specs.declared.error.ExpandError.{ExpandError}
use Rattle.tv_model.specs.Program.{ProgramForm}
use Rattle.tv_names.specs.Refusal.{Refuses, is_memory as resolution_memory}
use Rattle.tv_names.specs.declared.refusal.ResolveError.{ResolveError}
use Rattle.tv_vocab.specs.Resolution.{program}
use Rattle.tv_front.specs.Meaning.{HasTree, HasFlatForm, Means, IsProgramCause, StopsInText}
use Rattle.tv_front.specs.declared.fault.ProgramFault.TheVariants.{Lexing, Parsing, Expansion, Resolution}

pub lexing_refused : (text : List ℕ) (e : LexError) → LexCause text e → IsProgramCause text (Lexing e)
lexing_refused text lexing.BadByte h = h
lexing_refused text lexing.Unended h = h
lexing_refused text lexing.Memory h = tt

pub parsing_refused : (text : List ℕ) (tokens : List Token) (e : SyntaxError) → Reads text (Ok tokens) → HaveNoTree IsTooDeep IsProgram (spec_tokens text tokens) e → IsProgramCause text (Parsing e)
parsing_refused text tokens (parsing.Syntax place) reads h = (spec_tokens text tokens, (tokens, reads, refl), h.0, h.1)
parsing_refused text tokens parsing.TooDeep reads h = (spec_tokens text tokens, (tokens, reads, refl), h)
parsing_refused text tokens parsing.Memory reads h = tt

pub parsing_stopped : (text : List ℕ) (tokens : List Token) (e : SyntaxError) → Reads text (Ok tokens) → StopsAtToken syntax_place text tokens e
    → StopsInText text (Parsing e)
parsing_stopped text tokens (parsing.Syntax place) reads h = (tokens, reads, h)
parsing_stopped text tokens parsing.TooDeep reads h = tt
parsing_stopped text tokens parsing.Memory reads h = tt

pub tree_read : (text : List ℕ) (tokens : List Token) (t : TreeForm) → Reads text (Ok tokens) → (¬ IsTooDeep (spec_tokens text tokens)) → IsProgram (spec_tokens text tokens) t → HasTree text t
tree_read text tokens t reads low is = (spec_tokens text tokens, (tokens, reads, refl), low, is)

unless : {P Q : Type 0} (memory : Bool) → (P → Q) → Unless memory P → Unless memory Q
unless true f h = tt
unless false f h = f h

pub expansion_refused : (text : List ℕ) (t : TreeForm) (e : ExpandError) → HasTree text t → FailsExpansion e (expansion t) → IsProgramCause text (Expansion e)
expansion_refused text t e has h = unless (expansion_memory e) (λ is. (t, has, is)) h

pub resolution_refused : (text : List ℕ) (f : FlatForm) (e : ResolveError) → HasFlatForm text f → Refuses e (program f) → IsProgramCause text (Resolution e)
resolution_refused text f e has h = unless (resolution_memory e) (λ is. (f, has, is)) h

pub flat_form_given : (text : List ℕ) (t : TreeForm) (f : FlatForm) → HasTree text t → expansion t ≡ Ok f → HasFlatForm text f
flat_form_given text t f has e = (t, has, e)

pub program_given : (text : List ℕ) (f : FlatForm) (p : ProgramForm) → HasFlatForm text f → program f ≡ Ok p → Means text p
program_given text f p has e = (f, has, e)
