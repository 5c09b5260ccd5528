-- Turns of the loops over the structures of a text.
use Rattle.std.proofs.Common.{◌≡◌, ◌∙◌, ℕ, ◌+◌, ◌<◌, ◌≤◌, List, [], ◌∷◌, ◌++◌, length, take, drop, map}
use Rattle.std.proofs.Common.{get_or, refl, sym}
use Rattle.std.proofs.Common.{ap, subst, append_assoc, arith, None, Ok, All}
use Rattle.std.proofs.lemmas.List.{drop_more, drop_all, append-nil}
use Rattle.std.proofs.lemmas.List.Elements.{All-nil}
use Rattle.tv_lex.specs.declared.token.Token.{Token}
use Rattle.tv_lex.specs.Gather.{longest_gathered}
use Rattle.tv_lex.specs.Token.{spec_tokens}
use Rattle.tv_model.specs.Program.{ProgramForm, PredForm, program_of}
use Rattle.tv_model.specs.declared.program.Program.{Program}
use Rattle.tv_tvs.specs.Meaning.{MeansStructs}
use Rattle.tv_complete_text.proofs.Counting.{meant-count}
use Rattle.tv_complete_text.proofs.Naming.{named-count}
use Rattle.tv_structure_form.specs.StructureForm.{StructureForm, IsOver}
use Rattle.tv_complete.specs.Completion.{Completes}
use Rattle.tv_complete_text.specs.Lines.{put_lines}
use Rattle.tv_complete_text.specs.Named.{NamedForm, AreNamed, named_form}
use Rattle.tv_complete_text.specs.Text.{front_of, place_in_rest, woven, AreCompleted, IsCompletion}
use Rattle.tv_complete_text.specs.Text.{ReadsAsStructures, IsCompletedText, IsCauseOfNone}
use Rattle.tv_complete_text.specs.declared.error.CompletionError.TheVariants.{TooLong, Differs}
use Rattle.tv_complete_text.specs.declared.named.NamedText.{NamedText}

rest-at : {T : Type 0} (xs : List T) (i : ℕ) (x : T) → i < length xs → x ≡ get_or xs i x → drop i xs ≡ x ∷ drop
    (i + 1) xs
rest-at xs i x below is = drop_more xs i x below ∙ ap (λ y. y ∷ drop (i + 1) xs) (sym is)

module _ (preds : List PredForm) (bytes : List ℕ) (tokens : List Token) where
  abbrev place : List ℕ → NamedText → ℕ
  place rest x = place_in_rest bytes rest (front_of bytes tokens x.behind)

  abbrev lines : NamedText → StructureForm → List ℕ
  lines x t = put_lines preds (front_of bytes tokens x.behind) (named_form bytes x) t

  abbrev left : List ℕ → List NamedText → List StructureForm → List ℕ
  left rest xs ts = woven preds bytes tokens rest (map (named_form bytes) xs) ts

  pub weave-step : (out rest : List ℕ) (xs : List NamedText) (ts : List StructureForm) (k : ℕ) (x : NamedText)
      (t : StructureForm)
      → k < length xs → x ≡ get_or xs k x → k < length ts → t ≡ get_or ts k t
      → (out ++ (take (place_in_rest bytes rest (front_of bytes tokens x.behind)) rest
      ++ put_lines preds (front_of bytes tokens x.behind) (named_form bytes x) t))
      ++ woven preds bytes tokens (drop (place_in_rest bytes rest (front_of bytes tokens x.behind)) rest)
      (map (named_form bytes) (drop (k + 1) xs)) (drop (k + 1) ts)
      ≡ out ++ woven preds bytes tokens rest (map (named_form bytes) (drop k xs)) (drop k ts)
  weave-step out rest xs ts k x t below_x is_x below_t is_t =
      append_assoc out (take (place rest x) rest ++ lines x t)
      (left (drop (place rest x) rest) (drop (k + 1) xs) (drop (k + 1) ts))
      ∙ ap (λ text. out ++ text)
      (append_assoc (take (place rest x) rest) (lines x t) (left (drop (place rest x) rest) (drop (k + 1) xs)
      (drop (k + 1) ts)))
      ∙ ap (λ ys. out ++ left rest ys (t ∷ drop (k + 1) ts)) (sym (rest-at xs k x below_x is_x))
      ∙ ap (λ us. out ++ left rest (drop k xs) us) (sym (rest-at ts k t below_t is_t))

  pub weave-done : (out rest : List ℕ) (xs : List NamedText) (ts : List StructureForm) (k : ℕ) → length xs ≤ k
      → out ++ woven preds bytes tokens rest (map (named_form bytes) (drop k xs)) (drop k ts) ≡ out ++ rest
  weave-done out rest xs ts k past = ap (λ ys. out ++ left rest ys (drop k ts)) (drop_all k xs past)

-- ---- completed structures

module _ (p : ProgramForm) (bytes : List ℕ) where
  -- what is completed and what is left
  pub record AreSoFar (xs : List NamedText) (given done : List StructureForm) (k : ℕ) : Type 0 where
    pub rest : (later : List StructureForm) → AreCompleted p (map (named_form bytes) (drop k xs)) (drop k given) later
        → AreCompleted p (map (named_form bytes) xs) given (done ++ later)

  pub completed-step : (xs : List NamedText) (given done more : List StructureForm) (k : ℕ) (x : NamedText)
      (s t : StructureForm)
      → k < length xs → x ≡ get_or xs k x → k < length given → s ≡ get_or given k s → Completes p x.names.items s t
      → more ≡ done ++ t ∷ [] → AreSoFar xs given done k → AreSoFar xs given more (k + 1)
  completed-step xs given done more k x s t below_x is_x below_s is_s completes pushed so_far = record {
    rest = λ later are.
        let all : AreCompleted p (map (named_form bytes) (drop k xs)) (drop k given) (t ∷ later)
        = subst (λ ys. AreCompleted p (map (named_form bytes) ys) (drop k given) (t ∷ later))
        (sym (rest-at xs k x below_x is_x))
        (subst (λ ss. AreCompleted p (named_form bytes x ∷ map (named_form bytes) (drop (k + 1) xs)) ss (t ∷ later))
        (sym (rest-at given k s below_s is_s)) (completes, are))
        in subst (AreCompleted p (map (named_form bytes) xs) given)
        (sym (append_assoc done (t ∷ []) later) ∙ ap (λ ts. ts ++ later) (sym pushed)) (so_far.rest (t ∷ later) all);
  }

  pub completed-done : (xs : List NamedText) (given done : List StructureForm) (k : ℕ) → length xs ≤ k → length given
      ≤ k
      → AreSoFar xs given done k → AreCompleted p (map (named_form bytes) xs) given done
  completed-done xs given done k past_x past_s so_far =
      subst (AreCompleted p (map (named_form bytes) xs) given) (append-nil done)
      (so_far.rest [] (subst (λ ys. AreCompleted p (map (named_form bytes) ys) (drop k given) [])
      (sym (drop_all k xs past_x))
      (subst (λ ss. AreCompleted p [] ss []) (sym (drop_all k given past_s)) tt)))

-- what comes of a structure is over the same vocabulary, and unmarked as it is
pub still-over : (program : Program) (given : List StructureForm) (k : ℕ) (s t : StructureForm) (names : List (List ℕ))
    → All (λ s. IsOver program.vocab s × (s.fresh ≡ None)) given → k < length given → s ≡ get_or given k s
    → Completes (program_of program) names s t → IsOver program.vocab t × (t.fresh ≡ None)
still-over program given k s t names over below is completes =
    let own : IsOver program.vocab s × (s.fresh ≡ None)
    = subst (λ (r : StructureForm). IsOver program.vocab r × (r.fresh ≡ None)) (sym is) (over k s below)
    in (completes.like.over ∙ own.0, completes.like.fresh ∙ own.1)

-- ---- the whole

module _ (program : Program) (bytes : List ℕ) (tokens : List Token) (given : List StructureForm)
    (means : MeansStructs program.vocab (spec_tokens bytes tokens) (Ok given)) where
  pub as-many : (xs : List NamedForm) → AreNamed (spec_tokens bytes tokens) xs → length xs ≡ length given
  as-many xs named =
      named-count (spec_tokens bytes tokens) means.trees xs means.are named
      ∙ meant-count program.vocab.preds means.trees given means.meant

module _ (program : Program) (bytes : List ℕ) (tokens : List Token) (given completed : List StructureForm)
    (text : List ℕ)
    (is : IsCompletion program bytes tokens given completed text) where
  pub given_text : length text ≤ longest_gathered → ReadsAsStructures program.vocab text completed
      → IsCompletedText program bytes tokens given text
  given_text fits means = record { completed = completed; is = is; fits = fits; means = means }

  pub too_long : longest_gathered < length text → IsCauseOfNone program bytes tokens given TooLong
  too_long long = (completed, text, is, long)

  pub differs : ¬ ReadsAsStructures program.vocab text completed → IsCauseOfNone program bytes tokens given Differs
  differs none = (completed, text, is, none)
