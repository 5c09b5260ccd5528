-- A text means one program at most, and none that is refused.
use Rattle.std.proofs.Common.{◌≡◌, ℕ, List, Result, Ok, Err, sym, ap, ◌∙◌, subst}
use Rattle.tv_lex.specs.Token.{SpecToken, spec_tokens}
use Rattle.tv_lex.specs.Pieces.{Reads}
use Rattle.tv_lex.specs.declared.token.Token.{Token}
use Rattle.tv_lex.specs.declared.token.LexError.{LexError}
use Rattle.tv_phrases.specs.declared.error.SyntaxError.{SyntaxError}
use Rattle.tv_phrases.specs.declared.error.SyntaxError.TheVariants as parsing
use Rattle.tv_parse.specs.Height.{IsTooDeep}
use Rattle.tv_parse.specs.Grammar.{IsProgram}
use Rattle.tv_tree.specs.Forms.{ProgramForm as TreeForm}
use Rattle.tv_flat.specs.FlatForm.{FlatForm}
use Rattle.tv_expand.specs.Expansion.{expansion}
use Rattle.tv_expand.specs.declared.error.ExpandError.{ExpandError}
use Rattle.tv_model.specs.Program.{ProgramForm}
use Rattle.tv_names.specs.declared.refusal.ResolveError.{ResolveError}
use Rattle.tv_vocab.specs.Resolution.{program}
use Rattle.tv_front.specs.Meaning.{HasTokens, HasTree, HasFlatForm, Means, IsRefusedParsing}
use Rattle.tv_front.specs.Meaning.{IsRefusedExpansion, IsRefusedResolution, IsRefused}
use Rattle.tv_front.specs.declared.fault.ProgramFault.{ProgramFault}
use Rattle.tv_front.specs.declared.fault.ProgramFault.TheVariants.{Lexing, Parsing, Expansion, Resolution}
use Rattle.tv_lemmas.proofs.Options.{same_Ok, Ok-Err}

module _
    (reading : (text : List ℕ) (a b : Result (List Token) LexError) → Reads text a → Reads text b → a ≡ b)
    (tree : (ts : List SpecToken) (t u : TreeForm) → IsProgram ts t → IsProgram ts u → t ≡ u)
  where
    pub one_tokens : (text : List ℕ) (ts us : List SpecToken) → HasTokens text ts → HasTokens text us → ts ≡ us
    one_tokens text ts us (a, is, e) (b, are, d) = e ∙ ap (spec_tokens text) (same_Ok a b (reading text (Ok a) (Ok b) is are)) ∙ sym d

    pub one_tree : (text : List ℕ) (t u : TreeForm) → HasTree text t → HasTree text u → t ≡ u
    one_tree text t u (ts, has, low, is) (us, have, flat, are) =
        tree ts t u is (subst (λ xs. IsProgram xs u) (one_tokens text us ts have has) are)

    pub one_flat_form : (text : List ℕ) (f g : FlatForm) → HasFlatForm text f → HasFlatForm text g → f ≡ g
    one_flat_form text f g (t, is, e) (u, are, d) = same_Ok f g (sym e ∙ ap expansion (one_tree text t u is are) ∙ d)

    pub one_program : (text : List ℕ) (p q : ProgramForm) → Means text p → Means text q → p ≡ q
    one_program text p q (f, is, e) (g, are, d) = same_Ok p q (sym e ∙ ap program (one_flat_form text f g is are) ∙ d)

    has_tokens : (text : List ℕ) (p : ProgramForm) → Means text p → (ts : List SpecToken) × HasTokens text ts × (¬ IsTooDeep ts) × ((t : TreeForm) × IsProgram ts t)
    has_tokens text p (f, (t, (ts, has, low, is), e), d) = (ts, has, low, (t, is))

    lexing_unrefused : (text : List ℕ) (p : ProgramForm) (e : LexError) → Means text p → Reads text (Err e) → ⊥
    lexing_unrefused text p e (f, (t, (ts, (a, is, c), low, has), d), b) h = Ok-Err a e (reading text (Ok a) (Err e) is h)

    expansion_unrefused : (text : List ℕ) (p : ProgramForm) (e : ExpandError) → Means text p → IsRefusedExpansion text e → ⊥
    expansion_unrefused text p e (f, (t, is, d), c) (u, are, h) = Ok-Err f e (sym d ∙ ap expansion (one_tree text t u is are) ∙ h)

    resolution_unrefused : (text : List ℕ) (p : ProgramForm) (e : ResolveError) → Means text p → IsRefusedResolution text e → ⊥
    resolution_unrefused text p e (f, is, d) (g, are, h) = Ok-Err p e (sym d ∙ ap program (one_flat_form text f g is are) ∙ h)

    parsing_unrefused : (text : List ℕ) (p : ProgramForm) (e : SyntaxError) → Means text p → IsRefusedParsing text e → ⊥
    parsing_unrefused text p parsing.TooDeep m (us, have, deep) =
        let h = has_tokens text p m in h.2 (subst IsTooDeep (one_tokens text us h.0 have h.1) deep)
    parsing_unrefused text p (parsing.Syntax place) m (us, have, low, none) =
        let h = has_tokens text p m in none h.3.0 (subst (λ xs. IsProgram xs h.3.0) (one_tokens text h.0 us h.1 have) h.3.1)
    parsing_unrefused text p parsing.Memory m h = h

    pub unrefused : (text : List ℕ) (p : ProgramForm) (fault : ProgramFault) → Means text p → ¬ IsRefused text fault
    unrefused text p (Lexing e) m = lexing_unrefused text p e m
    unrefused text p (Parsing e) m = parsing_unrefused text p e m
    unrefused text p (Expansion e) m = expansion_unrefused text p e m
    unrefused text p (Resolution e) m = resolution_unrefused text p e m
