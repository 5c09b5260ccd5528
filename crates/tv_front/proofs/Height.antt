-- As many constructs are open in the printed tokens as in the text.
use Rattle.std.proofs.Common.{◌≡◌, ℕ, List, [], ◌∷◌, Bool, true, false, length, refl, sym, ◌∙◌, ap}
use Rattle.std.specs.Prelude.{codes, ◌||◌, nat_lt, if◌then◌else◌}
use Rattle.std.specs.List.{AllByRecursion}
use Rattle.std.specs.Str.{bytes_eq}
use Rattle.std.proofs.lemmas.Bool.{false_from_ne_true, false≢true}
use Rattle.std.proofs.lemmas.Slice.Eq.{bytes_eq-Decides}
use Rattle.tv_lex.specs.Token.{SpecToken}
use Rattle.tv_lex.specs.declared.token.TokenKind.{TokenKind}
use Rattle.tv_lex.specs.declared.token.TokenKind.TheVariants as kind
use Rattle.tv_phrases.specs.Tokens.{is_word, is_identifier}
use Rattle.tv_formula.specs.Spelled.{kind_of, spell}
use Rattle.tv_formula.proofs.Again.{ident_kind}
use Rattle.tv_parse.specs.declared.height.Open.{Open}
use Rattle.tv_parse.specs.declared.height.Open.TheVariants.{Bracket, Mark}
use Rattle.tv_parse.specs.declared.height.Effect.{Effect}
use Rattle.tv_parse.specs.declared.height.Effect.TheVariants.{OpensBracket, OpensMark, ClosesBracket}
use Rattle.tv_parse.specs.declared.height.Effect.TheVariants.{ClosesMarks, Nothing}
use Rattle.tv_phrases.specs.Repeated.{begins_with}
use Rattle.tv_parse.specs.Height.{is_one_of, opening_brackets, closing_brackets, connectives, quantifiers}
use Rattle.tv_parse.specs.Height.{separators, is_directive, effect, without_marks, changed, passes_height}
use Rattle.tv_front.specs.ReadAgain.{Kept, all_kept, one_kept, mark_left}
use Rattle.tv_front.proofs.Kept.{SameHead, kept_head, begins_head}

effect_alike : (t : SpecToken) (ts us : List SpecToken) → SameHead ts us → effect t ts ≡ effect t us
effect_alike t ts us same =
    ap (λ (opens : Bool).
    if is_one_of opening_brackets t.bytes then OpensBracket
    else (if is_one_of connectives t.bytes then OpensMark
    else (if is_one_of quantifiers t.bytes then (if opens then OpensMark else Nothing)
    else (if is_one_of closing_brackets t.bytes then ClosesBracket
    else (if is_one_of separators t.bytes || is_directive t.kind then ClosesMarks else Nothing))))) (begins_head (codes "(") ts us same)

-- ---- the tokens around the `=`

-- an identifier is none of these marks
none_of : (marks : List (List ℕ)) (w : List ℕ) → AllByRecursion (λ m. is_identifier m ≡ false) marks → is_identifier w ≡ true → is_one_of marks w ≡ false
none_of [] w all is = refl
none_of (m ∷ marks) w all is =
    let other : bytes_eq w m ≡ false = false_from_ne_true (bytes_eq w m) (λ e. false≢true (sym all.0 ∙ ap (λ v. is_identifier v) (sym ((bytes_eq-Decides w m).0 e)) ∙ is)) in
    rw other (none_of marks w all.1 is)

no_directive : (k : TokenKind) → is_word k ≡ true → is_directive k ≡ false
no_directive kind.Word e = refl
no_directive kind.Half e = refl
no_directive kind.Text e = refl
no_directive kind.Directive e = absurd (false≢true e)
no_directive kind.Parts e = refl
no_directive kind.Punct e = refl

identifier_quiet : (w : List ℕ) (ts : List SpecToken) → is_identifier w ≡ true → effect (spell w) ts ≡ Nothing
identifier_quiet w ts is =
    let a : is_one_of opening_brackets w ≡ false = none_of opening_brackets w (refl, (refl, (refl, tt))) is in
    let b : is_one_of connectives w ≡ false = none_of connectives w (refl, (refl, (refl, (refl, (refl, (refl, tt)))))) is in
    let c : is_one_of quantifiers w ≡ false = none_of quantifiers w (refl, (refl, (refl, tt))) is in
    let d : is_one_of closing_brackets w ≡ false = none_of closing_brackets w (refl, (refl, (refl, tt))) is in
    let e : is_one_of separators w ≡ false = none_of separators w (refl, (refl, (refl, (refl, tt)))) is in
    let f : is_directive (kind_of w) ≡ false = no_directive (kind_of w) (ident_kind w is) in
    quiet (is_one_of opening_brackets w) (is_one_of connectives w) (is_one_of quantifiers w) (is_one_of closing_brackets w) (is_one_of separators w) (is_directive (kind_of w)) (begins_with (codes "(") ts) a b c d e f
  where
    quiet : (a b c d e f g : Bool) → a ≡ false → b ≡ false → c ≡ false → d ≡ false → e ≡ false → f ≡ false
        → (if a then OpensBracket else (if b then OpensMark else (if c then (if g then OpensMark else Nothing) else (if d then ClosesBracket else (if e || f then ClosesMarks else Nothing))))) ≡ Nothing
    quiet a b c d e f g p q r s t u = rw (p, q, r, s, t, u) refl

set_closes : (ts : List SpecToken) → effect (spell (codes "%s")) ts ≡ ClosesMarks
unfolding kind_of
set_closes ts = refl

equals_closes : (ts : List SpecToken) → effect (spell (codes "=")) ts ≡ ClosesMarks
unfolding kind_of
equals_closes ts = refl

-- ---- the stack

passes_at : (e : Effect) (stack : List Open) (t : SpecToken) (ts : List SpecToken) → effect t ts ≡ e → passes_height stack (t ∷ ts) ≡ (nat_lt 200 (length (changed e stack)) || passes_height (changed e stack) ts)
passes_at e stack t ts is = ap (λ (x : Effect). nat_lt 200 (length (changed x stack)) || passes_height (changed x stack) ts) is

marks_gone : (stack : List Open) → without_marks (without_marks stack) ≡ without_marks stack
marks_gone [] = refl
marks_gone (Bracket ∷ stack) = refl
marks_gone (Mark ∷ stack) = marks_gone stack

thrice : (a p : Bool) → (a || (a || (a || p))) ≡ (a || (a || p))
thrice true p = refl
thrice false p = refl

-- behind a directive and an identifier a further separator changes nothing
pub kept_height : (ts us : List SpecToken) → Kept ts us → (stack : List Open) → passes_height stack ts ≡ passes_height stack us
kept_height _ _ (all_kept ts) stack = refl
kept_height _ _ (one_kept t ts us kept) stack =
    let e = effect t us in
    passes_at e stack t ts (effect_alike t ts us (kept_head ts us kept))
    ∙ ap (λ (p : Bool). nat_lt 200 (length (changed e stack)) || p) (kept_height ts us kept (changed e stack))
kept_height _ _ (mark_left w ts us is kept) stack =
    let low = without_marks stack in
    let n = nat_lt 200 (length low) in
    let second : passes_height low (spell (codes "=") ∷ ts) ≡ (n || passes_height low ts) =
    passes_at ClosesMarks low (spell (codes "=")) ts (equals_closes ts) ∙ ap (λ (s : List Open). nat_lt 200 (length s) || passes_height s ts) (marks_gone stack) in
    let old : passes_height stack (spell (codes "%s") ∷ spell w ∷ spell (codes "=") ∷ ts) ≡ (n || (n || (n || passes_height low ts))) =
    passes_at ClosesMarks stack (spell (codes "%s")) (spell w ∷ spell (codes "=") ∷ ts) (set_closes (spell w ∷ spell (codes "=") ∷ ts))
    ∙ ap (λ (p : Bool). n || p) (passes_at Nothing low (spell w) (spell (codes "=") ∷ ts) (identifier_quiet w (spell (codes "=") ∷ ts) is) ∙ ap (λ (p : Bool). n || p) second) in
    let new : passes_height stack (spell (codes "%s") ∷ spell w ∷ us) ≡ (n || (n || passes_height low us)) =
    passes_at ClosesMarks stack (spell (codes "%s")) (spell w ∷ us) (set_closes (spell w ∷ us))
    ∙ ap (λ (p : Bool). n || p) (passes_at Nothing low (spell w) us (identifier_quiet w us is)) in
    old ∙ thrice n (passes_height low ts) ∙ ap (λ (p : Bool). n || (n || p)) (kept_height ts us kept low) ∙ sym new
