-- Whether what is read is what was written.
use Rattle.std.proofs.Common.{◌≡◌, ◌&&◌, ◌≢◌, ◌∙◌, ◌↔◌, ℕ, Bool, true, false, List, [], ◌∷◌, Option, None}
use Rattle.std.proofs.Common.{Result}
use Rattle.std.proofs.Common.{Ok, Err, refl, sym, ap}
use Rattle.std.proofs.Common.{subst, All, IsTrue, IsFalse, inl, inr}
use Rattle.std.specs.Prelude.{IfOk, IfErr}
use Rattle.std.specs.Cmp.{Equal-is}
use Rattle.std.specs.Cmp.Lexicographic.{pointwise}
use Rattle.std.specs.Ordering.{eq_by_cmp, is_eq}
use Rattle.std.proofs.lemmas.Bool.{false≢true}
use Rattle.std.proofs.lemmas.List.Elements.{All-head, All-tail}
use Rattle.tv_lemmas.proofs.Options.{same_Ok, Ok-Err}
use Rattle.tv_lex.specs.Pieces.{Reads, Cause}
use Rattle.tv_lex.specs.Token.{SpecToken, spec_tokens}
use Rattle.tv_lex.specs.declared.token.LexError.{LexError}
use Rattle.tv_lex.specs.declared.token.LexError.TheVariants as lexing
use Rattle.tv_lex.specs.declared.token.Token.{Token}
use Rattle.tv_model.specs.declared.program.Vocab.{Vocab}
use Rattle.tv_structure_form.specs.StructureForm.{StructureForm, unmarked}
use Rattle.tv_structure_form.proofs.Library.{unmarked-same}
use Rattle.tv_struct.specs.Order.{structure_cmp}
use Rattle.tv_struct.proofs.OrderLaws.{structure_cmp-Equal, Equal-from_unmarked}
use Rattle.tv_tvs.specs.Laws.{HaveOneReading}
use Rattle.tv_tvs.specs.Meaning.{MeansStructs, IsStructuresCause, structs_meant}
use Rattle.tv_tvs.specs.declared.error.TvsError.{TvsError}
use Rattle.tv_tvs.specs.declared.error.TvsError.TheVariants as refusal
use Rattle.tv_complete_text.specs.Text.{ReadsAsStructures, unlexed_answer}
use Rattle.tv_complete_text.specs.declared.error.CompletionError.TheVariants.{Memory}

-- ---- structures without marks

abbrev plain : StructureForm → Type 0
plain s = s.fresh ≡ None

one-same : (s t : StructureForm) → plain s → plain t → is_eq (structure_cmp s t) ≡ true → s ≡ t
one-same s t a b e =
    sym (unmarked-same s a) ∙ structure_cmp-Equal s t ((Equal-is (structure_cmp s t)).0 e) ∙ unmarked-same t b

one-compares : (s t : StructureForm) → s ≡ t → is_eq (structure_cmp s t) ≡ true
one-compares s t e = (Equal-is (structure_cmp s t)).1 (Equal-from_unmarked s t (ap unmarked e))

all-same : (ss ts : List StructureForm) → All plain ss → All plain ts → pointwise (eq_by_cmp structure_cmp) ss ts
    ≡ true → ss ≡ ts
all-same [] [] a b e = refl
all-same [] (t ∷ ts) a b e = absurd (false≢true e)
all-same (s ∷ ss) [] a b e = absurd (false≢true e)
all-same (s ∷ ss) (t ∷ ts) a b e =
    by (all-same ss ts (All-tail plain s ss a) (All-tail plain t ts b)) (is_eq (structure_cmp s t)) refl e
  where
    by : (pointwise (eq_by_cmp structure_cmp) ss ts ≡ true → ss ≡ ts) → (r : Bool) → is_eq (structure_cmp s t) ≡ r
        → (r && pointwise (eq_by_cmp structure_cmp) ss ts) ≡ true → s ∷ ss ≡ t ∷ ts
    by others true is rest =
        let first : s ≡ t = one-same s t (All-head plain s ss a) (All-head plain t ts b) is
        in let behind : ss ≡ ts = others rest
        in λ i. first i ∷ behind i
    by others false is rest = absurd (false≢true rest)

all-compare : (ss : List StructureForm) → pointwise (eq_by_cmp structure_cmp) ss ss ≡ true
all-compare [] = refl
all-compare (s ∷ ss) = rw (one-compares s s refl) (all-compare ss)

pub same-structures : (ss ts : List StructureForm) → All plain ss → All plain ts
    → IsTrue (pointwise (eq_by_cmp structure_cmp) ss ts) ↔ (ss ≡ ts)
same-structures ss ts a b = (
  all-same ss ts a b,
  λ e. subst (λ us. pointwise (eq_by_cmp structure_cmp) ss us ≡ true) e (all-compare ss),
)

-- ---- what tokens mean

module _ (one : HaveOneReading) (vocab : Vocab) (ts : List SpecToken) where
  one-meaning : (a b : Result (List StructureForm) TvsError) → MeansStructs vocab ts a → MeansStructs vocab ts b → a ≡ b
  one-meaning a b m n =
      sym m.meant ∙ ap (structs_meant vocab.preds) (one.texts ts m.trees n.trees m.are n.are) ∙ n.meant

  pub read-same : (read given : List StructureForm) → MeansStructs vocab ts (Ok read)
      → (read ≡ given) ↔ MeansStructs vocab ts (Ok given)
  read-same read given means = (
    λ e. subst (λ ss. MeansStructs vocab ts (Ok ss)) e means,
    λ other. same_Ok read given (one-meaning (Ok read) (Ok given) means other),
  )

  pub compared : (read given : List StructureForm) (r : Bool) → r ≡ pointwise (eq_by_cmp structure_cmp) read given
      → All plain read → All plain given → MeansStructs vocab ts (Ok read) → IsTrue r ↔ MeansStructs vocab ts (Ok given)
  compared read given r is a b means =
      let same : IsTrue (pointwise (eq_by_cmp structure_cmp) read given) ↔ (read ≡ given) = same-structures read given
      a b
      in let meant : (read ≡ given) ↔ MeansStructs vocab ts (Ok given) = read-same read given means
      in (λ yes. meant.0 (same.0 (sym is ∙ yes)), λ other. is ∙ same.1 (meant.1 other))

  refuses : (given : List StructureForm) (e : TvsError) → MeansStructs vocab ts (Err e) → ¬ MeansStructs vocab ts
      (Ok given)
  refuses given e means other = Ok-Err given e (one-meaning (Ok given) (Err e) other means)

  pub refused : (given : List StructureForm) (e : TvsError) → IsStructuresCause vocab ts e → e ≢ refusal.Memory
      → ¬ MeansStructs vocab ts (Ok given)
  refused given (refusal.Syntax place) cause known other = cause other.trees other.are
  refused given refusal.IndividualUnknown cause known other = refuses given refusal.IndividualUnknown cause other
  refused given refusal.IndividualTwice cause known other = refuses given refusal.IndividualTwice cause other
  refused given refusal.NameUnknown cause known other = refuses given refusal.NameUnknown cause other
  refused given refusal.ArityWrong cause known other = refuses given refusal.ArityWrong cause other
  refused given refusal.BadSm cause known other = refuses given refusal.BadSm cause other
  refused given refusal.TooManyIndividuals cause known other = refuses given refusal.TooManyIndividuals cause other
  refused given refusal.Memory cause known other = known refl

-- ---- what texts mean

abbrev HaveOneList : Type 0
HaveOneList = (text : List ℕ) (a b : Result (List Token) LexError) → Reads text a → Reads text b → a ≡ b

module _ (one : HaveOneList) (vocab : Vocab) (text : List ℕ) (given : List StructureForm) where
  pub read-text : (tokens : List Token) → Reads text (Ok tokens)
      → MeansStructs vocab (spec_tokens text tokens) (Ok given) ↔ ReadsAsStructures vocab text given
  read-text tokens reads = (
    λ means. (tokens, reads, means),
    λ read. subst (λ list. MeansStructs vocab (spec_tokens text list) (Ok given))
        (same_Ok read.0 tokens (one text (Ok read.0) (Ok tokens) read.1 reads)) read.2,
  )

  unread : (e : LexError) → Reads text (Err e) → ¬ ReadsAsStructures vocab text given
  unread e reads read = Ok-Err read.0 e (one text (Ok read.0) (Err e) read.1 reads)

  isnt : ¬ ReadsAsStructures vocab text given → IsTrue false ↔ ReadsAsStructures vocab text given
  isnt none = (λ no. absurd (false≢true no), λ read. absurd (none read))

  pub unlexed-value : (e : LexError) → Cause text e → IfOk (unlexed_answer e)
      (λ yes. IsTrue yes ↔ ReadsAsStructures vocab text given)
  unlexed-value lexing.BadByte cause = isnt (unread lexing.BadByte cause)
  unlexed-value lexing.Unended cause = isnt (unread lexing.Unended cause)
  unlexed-value lexing.Memory cause = tt

pub unlexed-fault : (e : LexError) → IfErr (unlexed_answer e) (λ fault. fault ≡ Memory)
unlexed-fault lexing.BadByte = tt
unlexed-fault lexing.Unended = tt
unlexed-fault lexing.Memory = refl
