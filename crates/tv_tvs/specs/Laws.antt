-- Laws of texts of structures, as statements.
use Rattle.std.specs.Prelude.{ℕ, ◌≡◌, ◌≢◌, List, [], ◌∷◌, ◌++◌, Ok, All, codes}
use Rattle.tv_lex.specs.Token.{SpecToken, spec_tokens}
use Rattle.tv_lex.specs.Pieces.{Reads}
use Rattle.tv_lex.specs.declared.token.Token.{Token}
use Rattle.tv_model.specs.Program.{program_of}
use Rattle.tv_model.specs.Spelling.{IsName}
use Rattle.tv_model.specs.Valid.{IsValid}
use Rattle.tv_model.specs.declared.program.Program.{Program}
use Rattle.tv_model.specs.declared.program.Vocab.{Vocab}
use Rattle.tv_structure_form.specs.StructureForm.{StructureForm, IsStructure, IsOver, unmarked}
use Rattle.tv_tvs.specs.Tree.{StructTree}
use Rattle.tv_tvs.specs.Grammar.{IsStruct, AreStructs}
use Rattle.tv_tvs.specs.Meaning.{IsVocabulary, MeansStruct, MeansStructs}
use Rattle.tv_tvs.specs.Canonical.{canonical_text}

-- tokens are structures in one way at most
pub record HaveOneReading : Type 0 where
  pub texts : (tokens : List SpecToken) (a b : List StructTree) → AreStructs tokens a → AreStructs tokens b
      → a ≡ b
  pub structs : (tokens : List SpecToken) (t u : StructTree) (rest end : List SpecToken)
      → IsStruct tokens t rest → IsStruct tokens u end
      → (t ≡ u) × (rest ≡ end)

-- the predicates are named as in programs, and none is named `sm`
abbrev pub IsSpelled : Vocab → Type 0
IsSpelled vocab = All (λ pred. IsName pred.name × (pred.name ≢ codes "sm")) vocab.preds

-- What is written of a structure is read as that structure, without its mark: alone, and in front of any text
-- that has tokens, which are then the tokens behind it.
pub record IsReadAgain (vocab : Vocab) (s : StructureForm) : Type 0 where
  pub in_front : (behind : List ℕ) (rest : List Token) → Reads behind (Ok rest)
      → (tokens : List Token) × Reads (canonical_text vocab s ++ behind) (Ok tokens)
      × MeansStruct vocab (spec_tokens (canonical_text vocab s ++ behind) tokens) (spec_tokens behind rest)
      (Ok (unmarked s))
  pub alone : (tokens : List Token) × Reads (canonical_text vocab s) (Ok tokens)
      × MeansStructs vocab (spec_tokens (canonical_text vocab s) tokens) (Ok (unmarked s ∷ []))

abbrev pub StructuresAreReadAgain : Type 0
StructuresAreReadAgain =
    (vocab : Vocab) (s : StructureForm) → IsVocabulary vocab → IsSpelled vocab → IsStructure s
    → IsOver vocab s → IsReadAgain vocab s

-- the vocabulary of a valid program is one that is read and written
pub record IsWritable (vocab : Vocab) : Type 0 where
  pub vocabulary : IsVocabulary vocab
  pub spelled : IsSpelled vocab

abbrev pub ValidProgramsFit : Type 0
ValidProgramsFit = (p : Program) → IsValid (program_of p) → IsWritable p.vocab
