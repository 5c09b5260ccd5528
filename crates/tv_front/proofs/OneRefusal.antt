-- A text is refused for one reason.
use Rattle.std.proofs.Common.{◌≡◌, ℕ, List, Result, Ok, Err, sym, refl, ap, ◌∙◌, subst}
use Rattle.tv_lex.specs.Token.{SpecToken}
use Rattle.tv_lex.specs.Pieces.{Reads}
use Rattle.tv_lex.specs.declared.token.Token.{Token}
use Rattle.tv_lex.specs.declared.token.LexError.{LexError}
use Rattle.tv_phrases.specs.declared.error.SyntaxError.{SyntaxError}
use Rattle.tv_phrases.specs.declared.error.SyntaxError.TheVariants as parsing
use Rattle.tv_parse.specs.Height.{IsTooDeep}
use Rattle.tv_parse.specs.Grammar.{IsProgram}
use Rattle.tv_tree.specs.Forms.{ProgramForm as TreeForm}
use Rattle.tv_flat.specs.FlatForm.{FlatForm}
use Rattle.tv_expand.specs.Expansion.{expansion}
use Rattle.tv_expand.specs.declared.error.ExpandError.{ExpandError}
use Rattle.tv_names.specs.declared.refusal.ResolveError.{ResolveError}
use Rattle.tv_vocab.specs.Resolution.{program}
use Rattle.tv_front.specs.Meaning.{HasTokens, HasTree, HasFlatForm, IsRefusedParsing, IsRefusedExpansion}
use Rattle.tv_front.specs.Meaning.{IsRefusedResolution, IsRefused, at_start, without_place}
use Rattle.tv_front.specs.declared.fault.ProgramFault.{ProgramFault}
use Rattle.tv_front.specs.declared.fault.ProgramFault.TheVariants.{Lexing, Parsing, Expansion, Resolution}
use Rattle.tv_front.proofs.OneMeaning.{one_tokens, one_tree, one_flat_form}
use Rattle.tv_lemmas.proofs.Options.{same_Err, Ok-Err}

module _
    (reading : (text : List ℕ) (a b : Result (List Token) LexError) → Reads text a → Reads text b → a ≡ b)
    (tree : (ts : List SpecToken) (t u : TreeForm) → IsProgram ts t → IsProgram ts u → t ≡ u)
  where
    lexed : (text : List ℕ) (e : LexError) (ts : List SpecToken) → Reads text (Err e) → HasTokens text ts → ⊥
    lexed text e ts h (a, is, c) = Ok-Err a e (reading text (Ok a) (Err e) is h)

    tree_tokens : (text : List ℕ) (t : TreeForm) → HasTree text t → (ts : List SpecToken) × HasTokens text ts
    tree_tokens text t (ts, has, low, is) = (ts, has)

    parsing_tokens : (text : List ℕ) (e : SyntaxError) → IsRefusedParsing text e → (ts : List SpecToken) × HasTokens text ts
    parsing_tokens text parsing.TooDeep (ts, has, deep) = (ts, has)
    parsing_tokens text (parsing.Syntax place) (ts, has, low, none) = (ts, has)
    parsing_tokens text parsing.Memory h = absurd h

    lexing_first : (text : List ℕ) (e : LexError) (fault : ProgramFault) → Reads text (Err e) → IsRefused text fault → Lexing e ≡ without_place fault
    lexing_first text e (Lexing d) h i = ap Lexing (same_Err e d (reading text (Err e) (Err d) h i))
    lexing_first text e (Parsing d) h i = let x = parsing_tokens text d i in absurd (lexed text e x.0 h x.1)
    lexing_first text e (Expansion d) h (t, is, i) = let x = tree_tokens text t is in absurd (lexed text e x.0 h x.1)
    lexing_first text e (Resolution d) h (f, (t, is, c), i) = let x = tree_tokens text t is in absurd (lexed text e x.0 h x.1)

    not_low : (text : List ℕ) (ts us : List SpecToken) → HasTokens text ts → HasTokens text us → IsTooDeep ts → (¬ IsTooDeep us) → ⊥
    not_low text ts us has have deep low = low (subst IsTooDeep (one_tokens reading tree text ts us has have) deep)

    no_refused_tree : (text : List ℕ) (e : SyntaxError) (t : TreeForm) → IsRefusedParsing text e → HasTree text t → ⊥
    no_refused_tree text parsing.TooDeep t (ts, has, deep) (us, have, low, is) = not_low text ts us has have deep low
    no_refused_tree text (parsing.Syntax place) t (ts, has, low, none) (us, have, flat, is) =
        none t (subst (λ xs. IsProgram xs t) (one_tokens reading tree text us ts have has) is)
    no_refused_tree text parsing.Memory t h is = h

    no_refused_flat_form : (text : List ℕ) (e : ExpandError) (f : FlatForm) → IsRefusedExpansion text e → HasFlatForm text f → ⊥
    no_refused_flat_form text e f (t, is, h) (u, are, d) = Ok-Err f e (sym d ∙ ap expansion (one_tree reading tree text u t are is) ∙ h)

    same_parsing : (text : List ℕ) (d e : SyntaxError) → IsRefusedParsing text d → IsRefusedParsing text e → at_start d ≡ at_start e
    same_parsing text parsing.TooDeep parsing.TooDeep h i = refl
    same_parsing text parsing.TooDeep (parsing.Syntax place) (ts, has, deep) (us, have, low, none) = absurd (not_low text ts us has have deep low)
    same_parsing text (parsing.Syntax place) parsing.TooDeep (us, have, low, none) (ts, has, deep) = absurd (not_low text ts us has have deep low)
    same_parsing text (parsing.Syntax place) (parsing.Syntax other) h i = refl
    same_parsing text parsing.Memory e h i = absurd h
    same_parsing text d parsing.Memory h i = absurd i

    same_expansion : (text : List ℕ) (d e : ExpandError) → IsRefusedExpansion text d → IsRefusedExpansion text e → d ≡ e
    same_expansion text d e (t, is, h) (u, are, i) = same_Err d e (sym h ∙ ap expansion (one_tree reading tree text t u is are) ∙ i)

    same_resolution : (text : List ℕ) (d e : ResolveError) → IsRefusedResolution text d → IsRefusedResolution text e → d ≡ e
    same_resolution text d e (f, is, h) (g, are, i) = same_Err d e (sym h ∙ ap program (one_flat_form reading tree text f g is are) ∙ i)

    pub one_refusal : (text : List ℕ) (d e : ProgramFault) → IsRefused text d → IsRefused text e → without_place d ≡ without_place e
    one_refusal text (Lexing d) e h i = lexing_first text d e h i
    one_refusal text d (Lexing e) h i = sym (lexing_first text e d i h)
    one_refusal text (Parsing d) (Parsing e) h i = ap Parsing (same_parsing text d e h i)
    one_refusal text (Parsing d) (Expansion e) h (t, is, j) = absurd (no_refused_tree text d t h is)
    one_refusal text (Parsing d) (Resolution e) h (f, (t, is, c), j) = absurd (no_refused_tree text d t h is)
    one_refusal text (Expansion d) (Parsing e) (t, is, j) i = absurd (no_refused_tree text e t i is)
    one_refusal text (Expansion d) (Expansion e) h i = ap Expansion (same_expansion text d e h i)
    one_refusal text (Expansion d) (Resolution e) h (f, has, j) = absurd (no_refused_flat_form text d f h has)
    one_refusal text (Resolution d) (Parsing e) (f, (t, is, c), j) i = absurd (no_refused_tree text e t i is)
    one_refusal text (Resolution d) (Expansion e) (f, has, j) i = absurd (no_refused_flat_form text e f i has)
    one_refusal text (Resolution d) (Resolution e) h i = ap Resolution (same_resolution text d e h i)
