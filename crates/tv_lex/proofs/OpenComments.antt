-- The automaton of include lines follows the block comments of a text that has tokens.
use Rattle.std.proofs.Common.{◌≡◌, ℕ, ◌+◌, ◌<◌, ◌≤◌, List, [], ◌∷◌, ◌++◌, Bool, true, false, Option, Some}
use Rattle.std.proofs.Common.{None, length, refl, sym, ◌∙◌, ap, subst, inl, inr, arith, append_assoc}
use Rattle.std.proofs.Common.{length-append}
use Rattle.std.specs.Prelude.{◌↔◌, ◌⊎◌, ◌&&◌, ◌==◌, not, if◌then◌else◌}
use Rattle.std.specs.List.{fold, list_all}
use Rattle.std.specs.Option.{option_map}
use Rattle.std.proofs.lemmas.Bool.{and_parts, and_from, and_right, cases_Bool, cases_lt, cond-true}
use Rattle.std.proofs.lemmas.Bool.{cond-false, false≢true, eqb-true, ne_eqb, not-true, not_from_false}
use Rattle.std.proofs.lemmas.List.{append-nil}
use Rattle.tv_lemmas.proofs.Lists.{list_all-weaker}
use Rattle.tv_lex.specs.Bytes.{is_blank, is_word_byte, is_letter, is_text_byte, stays_on_line}
use Rattle.tv_lex.specs.Pieces.{Piece, Stands, Fits, AllFit, joined_pieces, IsOneOf, IsBlockComment}
use Rattle.tv_lex.specs.Pieces.{IsLineComment, IsBlank, close_at, punctuations}
use Rattle.tv_lex.specs.Include.{lines_of, onto, next_scan, scan_start, is_in_block}
use Rattle.tv_lex.specs.Comments.{is_open_behind, IsWholeLines, IsInComment, CommentsAgree}
use Rattle.tv_lex.specs.declared.include.Scan.{Scan}
use Rattle.tv_lex.specs.declared.include.Scan.TheVariants.{Code, Slash, LineComment, BlockComment, Star}
use Rattle.tv_lex.specs.declared.include.Scan.TheVariants.{Quoted}
use Rattle.tv_lex.specs.declared.token.TokenKind.{TokenKind}
use Rattle.tv_lex.specs.declared.token.TokenKind.TheVariants.{Word, Half, Text, Directive, Parts, Punct}
use Rattle.tv_lex.proofs.Runs.{option_map-suc}

-- ---- the automaton over a whole text: a line feed begins a line

-- behind one more byte, a line feed included
abbrev step : Scan → ℕ → Scan
step s b = if b == 10 then scan_start (is_in_block (next_scan s b)) else next_scan s b

abbrev run : Scan → List ℕ → Scan
run s [] = s
run s (b ∷ bs) = run (step s b) bs

run-append : (s : Scan) (xs ys : List ℕ) → run s (xs ++ ys) ≡ run (run s xs) ys
run-append s [] ys = refl
run-append s (x ∷ xs) ys = run-append (step s x) xs ys

step_feed : (s : Scan) (b : ℕ) → b ≡ 10 → step s b ≡ scan_start (is_in_block (next_scan s 10))
step_feed s b e = subst (λ c. step s c ≡ scan_start (is_in_block (next_scan s 10))) (sym e) refl

step_on : (s : Scan) (b : ℕ) → (b == 10) ≡ false → step s b ≡ next_scan s b
step_on s b e = cond-false (b == 10) (scan_start (is_in_block (next_scan s b))) (next_scan s b) e

-- whether the lines behind a place within the first of them begin inside a comment
abbrev open_from : Scan → List (List ℕ) → Bool
open_from s [] = is_in_block s
open_from s (line ∷ lines) = is_open_behind (is_in_block (fold next_scan s line)) lines

from_start : (inside : Bool) (lines : List (List ℕ)) → open_from (scan_start inside) lines ≡ is_open_behind inside lines
from_start true [] = refl
from_start false [] = refl
from_start inside (line ∷ lines) = refl

onto_next : (s : Scan) (b c : ℕ) (cs : List ℕ) (lines : List (List ℕ)) → (l : List ℕ) (ls : List (List ℕ)) → lines ≡ l ∷ ls → open_from s (onto b lines) ≡ open_from (next_scan s b) lines
onto_next s b c cs lines l ls is = subst (λ k. open_from s (onto b k) ≡ open_from (next_scan s b) k) (sym is) refl

some_line : (b : ℕ) (bs : List ℕ) → (l : List ℕ) × (ls : List (List ℕ)) × (lines_of (b ∷ bs) ≡ l ∷ ls)
some_line b bs = elim (cases_Bool (b == 10)) [
  | inl e ↦ (10 ∷ [], lines_of bs, cond-true (b == 10) _ _ e)
  | inr e ↦ let more = onto_some b (lines_of bs) in (more.0, more.1, cond-false (b == 10) _ _ e ∙ more.2)
]
  where
    onto_some : (b : ℕ) (lines : List (List ℕ)) → (l : List ℕ) × (ls : List (List ℕ)) × (onto b lines ≡ l ∷ ls)
    onto_some b [] = (b ∷ [], [], refl)
    onto_some b (line ∷ lines) = (b ∷ line, lines, refl)

lines_run : (s : Scan) (front : List ℕ) → IsWholeLines front → open_from s (lines_of front) ≡ is_in_block (run s front)
lines_run s [] whole = refl
lines_run s (b ∷ []) whole = subst (λ c. open_from s (lines_of (c ∷ [])) ≡ is_in_block (run s (c ∷ []))) (sym whole) (block_start (is_in_block (next_scan s 10)))
  where
    block_start : (inside : Bool) → inside ≡ is_in_block (scan_start inside)
    block_start true = refl
    block_start false = refl
lines_run s (b ∷ c ∷ cs) whole = elim (cases_Bool (b == 10)) [
  | inl e ↦
      let feed : b ≡ 10 = eqb-true b 10 e in
      let inside = is_in_block (next_scan s 10) in
      subst (λ d. open_from s (lines_of (d ∷ c ∷ cs)) ≡ is_in_block (run s (d ∷ c ∷ cs))) (sym feed)
      (sym (from_start inside (lines_of (c ∷ cs))) ∙ lines_run (scan_start inside) (c ∷ cs) whole)
  | inr e ↦
      let more = some_line c cs in
      let cut : lines_of (b ∷ c ∷ cs) ≡ onto b (lines_of (c ∷ cs)) = cond-false (b == 10) _ _ e in
      ap (open_from s) cut ∙ onto_next s b c cs (lines_of (c ∷ cs)) more.0 more.1 more.2
      ∙ lines_run (next_scan s b) (c ∷ cs) whole ∙ ap (λ t. is_in_block (run t (c ∷ cs))) (sym (step_on s b e))
]

-- ---- pieces that are no block comments

-- no place of the bytes is inside a block comment
abbrev NeverOpen : Scan → List ℕ → Type 0
NeverOpen s [] = is_in_block s ≡ false
NeverOpen s (b ∷ bs) = (is_in_block s ≡ false) × NeverOpen (step s b) bs

never_front : (s : Scan) (front more : List ℕ) → NeverOpen s (front ++ more) → is_in_block (run s front) ≡ false
never_front s [] [] never = never
never_front s [] (m ∷ ms) never = never.0
never_front s (b ∷ front) more never = never_front (step s b) front more never.1

-- neither a slash nor a quote
abbrev is_plain : ℕ → Bool
is_plain b = not (b == 47) && not (b == 34)

plain_step : (b : ℕ) → is_plain b ≡ true → step Code b ≡ Code
plain_step b h =
    let both = and_parts (not (b == 47)) (not (b == 34)) h in
    let slash : (b == 47) ≡ false = not-true (b == 47) both.0 in
    let quote : (b == 34) ≡ false = not-true (b == 34) both.1 in
    elim (cases_Bool (b == 10)) [
      | inl e ↦ step_feed Code b (eqb-true b 10 e)
      | inr e ↦ step_on Code b e ∙ cond-false (b == 47) Slash _ slash ∙ cond-false (b == 34) Quoted Code quote
    ]

plain_run : (bytes : List ℕ) → list_all is_plain bytes ≡ true → (run Code bytes ≡ Code) × NeverOpen Code bytes
plain_run [] all = (refl, refl)
plain_run (b ∷ bs) all =
    let both = and_parts (is_plain b) (list_all is_plain bs) all in
    let inner = plain_run bs both.1 in
    let same = plain_step b both.0 in
    (ap (λ s. run s bs) same ∙ inner.0, (refl, subst (λ s. NeverOpen s bs) (sym same) inner.1))

-- a test that a slash and a quote don't pass
plain_if : (p : ℕ → Bool) → p 47 ≡ false → p 34 ≡ false → (b : ℕ) → p b ≡ true → is_plain b ≡ true
plain_if p slash quote b h =
    and_from (not (b == 47)) (not (b == 34))
    (not_from_false (b == 47) (ne_eqb b 47 (λ e. false≢true (sym slash ∙ subst (λ c. p c ≡ true) e h))))
    (not_from_false (b == 34) (ne_eqb b 34 (λ e. false≢true (sym quote ∙ subst (λ c. p c ≡ true) e h))))

plain_marks : (ms : List (List ℕ)) (bytes : List ℕ) → list_all (λ m. list_all is_plain m) ms ≡ true → IsOneOf ms bytes → list_all is_plain bytes ≡ true
plain_marks [] bytes all one = absurd one
plain_marks (m ∷ ms) bytes all one =
    let both = and_parts (list_all is_plain m) (list_all (λ m. list_all is_plain m) ms) all in
    elim one [ inl e ↦ subst (λ l. list_all is_plain l ≡ true) (sym e) both.0 | inr one ↦ plain_marks ms bytes both.1 one ]

quoted_step : (b : ℕ) → is_text_byte b ≡ true → step Quoted b ≡ Quoted
quoted_step b h =
    let both = and_parts _ (not (b == 34)) h in
    let quote : (b == 34) ≡ false = not-true (b == 34) both.1 in
    let feed : (b == 10) ≡ false = ne_eqb b 10 (λ e. false≢true (subst (λ c. is_text_byte c ≡ true) e h)) in
    step_on Quoted b feed ∙ cond-false (b == 34) Code Quoted quote

quoted_run : (inside : List ℕ) → list_all is_text_byte inside ≡ true → (run Quoted (inside ++ 34 ∷ []) ≡ Code) × NeverOpen Quoted (inside ++ 34 ∷ [])
quoted_run [] all = (refl, (refl, refl))
quoted_run (b ∷ bs) all =
    let both = and_parts (is_text_byte b) (list_all is_text_byte bs) all in
    let inner = quoted_run bs both.1 in
    let same = quoted_step b both.0 in
    (ap (λ s. run s (bs ++ 34 ∷ [])) same ∙ inner.0, (refl, subst (λ s. NeverOpen s (bs ++ 34 ∷ [])) (sym same) inner.1))

line_run : (inside : List ℕ) → list_all stays_on_line inside ≡ true → (run LineComment inside ≡ LineComment) × NeverOpen LineComment inside
line_run [] all = (refl, refl)
line_run (b ∷ bs) all =
    let both = and_parts (stays_on_line b) (list_all stays_on_line bs) all in
    let inner = line_run bs both.1 in
    let same : step LineComment b ≡ LineComment = step_on LineComment b (not-true (b == 10) both.0) in
    (ap (λ s. run s bs) same ∙ inner.0, (refl, subst (λ s. NeverOpen s bs) (sym same) inner.1))

-- ---- block comments

block_step : (b : ℕ) → (step BlockComment b ≡ BlockComment) ⊎ ((step BlockComment b ≡ Star) × (b ≡ 42))
block_step b = elim (cases_Bool (b == 10)) [
  | inl e ↦ inl (step_feed BlockComment b (eqb-true b 10 e))
  | inr e ↦ elim (cases_Bool (b == 42)) [
    | inl star ↦ inr (step_on BlockComment b e ∙ cond-true (b == 42) Star BlockComment star, eqb-true b 42 star)
    | inr other ↦ inl (step_on BlockComment b e ∙ cond-false (b == 42) Star BlockComment other)
  ]
]

star_step : (c : ℕ) → (c == 47) ≡ false → step Star c ≡ step BlockComment c
star_step c e = ap (λ t. if c == 10 then scan_start (is_in_block t) else t) (cond-false (c == 47) Code (if c == 42 then Star else BlockComment) e)

-- where no comment ends at a byte, it can be left out
block_skip : (b c : ℕ) (x : List ℕ) → (b == 42 && c == 47) ≡ false → run BlockComment (b ∷ c ∷ x) ≡ run BlockComment (c ∷ x)
block_skip b c x unclosed = elim (block_step b) [
  | inl e ↦ ap (λ s. run s (c ∷ x)) e
  | inr e ↦
      let slash : (c == 47) ≡ false = subst (λ d. (d == 42 && c == 47) ≡ false) e.1 unclosed in
      ap (λ s. run s (c ∷ x)) e.0 ∙ ap (λ s. run s x) (star_step c slash)
]

still_open : (b : ℕ) → is_in_block (step BlockComment b) ≡ true
still_open b = elim (block_step b) [ inl e ↦ ap is_in_block e | inr e ↦ ap is_in_block e.0 ]

close_none : (b : ℕ) → close_at (b ∷ []) ≡ None
close_none b = rw (and_right (b == 42) false refl) refl

-- the end of a comment: here, or further on
close_cases : (b c : ℕ) (cs : List ℕ) (n : ℕ) → close_at (b ∷ c ∷ cs) ≡ Some n → n + 2 ≡ length (b ∷ c ∷ cs) → ((b == 42 && c == 47) ≡ true) × (cs ≡ []) ⊎ (((b == 42 && c == 47) ≡ false) × ((m : ℕ) × (close_at (c ∷ cs) ≡ Some m) × (m + 2 ≡ length (c ∷ cs))))
close_cases b c cs n close end = elim (cases_Bool (b == 42 && c == 47)) [
  | inl e ↦
      let now : close_at (b ∷ c ∷ cs) ≡ Some 0 = cond-true (b == 42 && c == 47) _ _ e in
      let none : n ≡ 0 = cc in
      inl (e, no_more cs (omega (arith, end, none)))
  | inr e ↦
      let later : close_at (b ∷ c ∷ cs) ≡ option_map (λ n. n + 1) (close_at (c ∷ cs)) = cond-false (b == 42 && c == 47) _ _ e in
      let found = option_map-suc (close_at (c ∷ cs)) n (sym later ∙ close) in
      inr (e, (found.0, found.1, omega (arith, end, found.2)))
]
  where
    no_more : (cs : List ℕ) → length cs ≡ 0 → cs ≡ []
    no_more [] e = refl
    no_more (d ∷ ds) e = absurd (omega (arith, e))

comment_open : (inside x y : List ℕ) (n : ℕ) → close_at inside ≡ Some n → n + 2 ≡ length inside → inside ≡ x ++ y → 0 < length y → is_in_block (run BlockComment x) ≡ true
comment_open inside [] y n close end split some = refl
comment_open inside (a ∷ []) y n close end split some = still_open a
comment_open [] (a ∷ b ∷ x) y n close end split some = cc
comment_open (d ∷ []) (a ∷ b ∷ x) y n close end split some = cc
comment_open (d ∷ e ∷ cs) (a ∷ b ∷ x) y n close end split some =
    let first : d ≡ a = cc in
    let second : e ≡ b = cc in
    let rest : cs ≡ x ++ y = cc in
    elim (close_cases d e cs n close end) [
      | inl h ↦
          let len : length cs ≡ length x + length y = ap (λ (l : List ℕ). length l) rest ∙ length-append x y in
          let none : length cs ≡ 0 = ap (λ (l : List ℕ). length l) h.1 in
          absurd (omega (arith, len, none, some))
      | inr h ↦
          let unclosed : (a == 42 && b == 47) ≡ false = subst (λ k. (k == 42 && b == 47) ≡ false) first (subst (λ k. (d == 42 && k == 47) ≡ false) second h.0) in
          ap is_in_block (block_skip a b x unclosed)
          ∙ comment_open (e ∷ cs) (b ∷ x) y h.1.0 h.1.1 h.1.2 (λ i. second i ∷ rest i) some
    ]

comment_closed : (inside : List ℕ) (n : ℕ) → close_at inside ≡ Some n → n + 2 ≡ length inside → run BlockComment inside ≡ Code
comment_closed [] n close end = cc
comment_closed (d ∷ []) n close end = let none = close_none d in cc
comment_closed (d ∷ e ∷ cs) n close end = elim (close_cases d e cs n close end) [
  | inl h ↦
      let both = and_parts (d == 42) (e == 47) h.0 in
      let star : d ≡ 42 = eqb-true d 42 both.0 in
      let slash : e ≡ 47 = eqb-true e 47 both.1 in
      subst (λ l. run BlockComment l ≡ Code) (sym (λ i. star i ∷ slash i ∷ h.1 i)) refl
  | inr h ↦ block_skip d e cs h.0 ∙ comment_closed (e ∷ cs) h.1.0 h.1.1 h.1.2
]

-- ---- one piece

-- nothing, or a line feed in front
abbrev BeginsLine : List ℕ → Type 0
BeginsLine [] = Unit {0}
BeginsLine (b ∷ bs) = b ≡ 10

-- what a piece leaves: outside of everything, or in a line comment that goes to the end of its line
Leaves : List ℕ → List ℕ → Type 0
Leaves bytes behind = (run Code bytes ≡ Code) ⊎ ((run Code bytes ≡ LineComment) × BeginsLine behind)

blank_plain : (b : ℕ) → is_blank b ≡ true → is_plain b ≡ true
blank_plain = plain_if is_blank refl refl

word_plain : (bs : List ℕ) → list_all is_word_byte bs ≡ true → list_all is_plain bs ≡ true
word_plain = list_all-weaker is_word_byte is_plain (plain_if is_word_byte refl refl)

letter_plain : (bs : List ℕ) → list_all is_letter bs ≡ true → list_all is_plain bs ≡ true
letter_plain = list_all-weaker is_letter is_plain (plain_if is_letter refl refl)

-- a piece that is no block comment opens none
abbrev Quiet : List ℕ → Type 0
Quiet bytes = (run Code bytes ≡ Code) × NeverOpen Code bytes

token_quiet : (kind : TokenKind) (bytes behind : List ℕ) → Stands (Some kind) bytes behind → Quiet bytes
token_quiet Word bytes behind s = plain_run bytes (word_plain bytes s.1)
token_quiet Half bytes behind s = subst Quiet (sym s.0) (refl, (refl, (refl, (refl, refl))))
token_quiet Text bytes behind s = subst Quiet (sym s.1) (let inner = quoted_run s.0 s.2 in (inner.0, (refl, inner.1)))
token_quiet Directive bytes behind s = subst Quiet (sym s.1) (plain_run (37 ∷ s.0) (letter_plain_behind s.0 s.2.1))
  where
    letter_plain_behind : (name : List ℕ) → list_all is_letter name ≡ true → list_all is_plain (37 ∷ name) ≡ true
    letter_plain_behind name all = letter_plain name all
token_quiet Parts bytes behind s = subst Quiet (sym s) (plain_run (37 ∷ 37 ∷ []) refl)
token_quiet Punct bytes behind s = plain_run bytes (plain_marks punctuations bytes refl s)

blank_quiet : (bytes : List ℕ) → IsBlank bytes → Quiet bytes
blank_quiet bytes s = subst Quiet (sym s.1) (plain_run (s.0 ∷ []) (and_from (is_plain s.0) true (blank_plain s.0 s.2) refl))

line_never : (bytes : List ℕ) → IsLineComment bytes → (run Code bytes ≡ LineComment) × NeverOpen Code bytes
line_never bytes s =
    let inner = line_run s.0 s.2 in
    subst (λ l. (run Code l ≡ LineComment) × NeverOpen Code l) (sym s.1) (inner.0, (refl, (refl, inner.1)))

-- a line comment goes to the end of its line
line_ends : (bytes behind : List ℕ) → IsLineComment bytes → Fits (record { kind = None; bytes = bytes }) behind → BeginsLine behind
line_ends bytes [] s fits = tt
line_ends bytes (c ∷ cs) s fits = elim (cases_Bool (c == 10)) [
  | inl e ↦ eqb-true c 10 e
  | inr e ↦
      let stays : list_all stays_on_line (s.0 ++ c ∷ []) ≡ true = longer s.0 c s.2 (not_from_false (c == 10) e) in
      let more = fits.longest None (bytes ++ c ∷ []) cs (append_assoc bytes (c ∷ []) cs) (inr (inl (s.0 ++ c ∷ [], ap (λ l. l ++ c ∷ []) s.1, stays))) in
      absurd (omega (arith, more, length-append bytes (c ∷ [])))
]
  where
    longer : (xs : List ℕ) (c : ℕ) → list_all stays_on_line xs ≡ true → stays_on_line c ≡ true → list_all stays_on_line (xs ++ c ∷ []) ≡ true
    longer [] c all last = and_from (stays_on_line c) true last refl
    longer (x ∷ xs) c all last = let both = and_parts (stays_on_line x) (list_all stays_on_line xs) all in and_from (stays_on_line x) (list_all stays_on_line (xs ++ c ∷ [])) both.0 (longer xs c both.1 last)

comment_leaves : (bytes : List ℕ) → IsBlockComment bytes → run Code bytes ≡ Code
comment_leaves bytes s = ap (run Code) s.2 ∙ comment_closed s.0 s.1 s.3 s.4

piece_leaves : (kind : Option TokenKind) (bytes behind : List ℕ) → Fits (record { kind = kind; bytes = bytes }) behind → Leaves bytes behind
unfolding Leaves
piece_leaves (Some kind) bytes behind fits = inl (token_quiet kind bytes behind fits.stands).0
piece_leaves None bytes behind fits = elim fits.stands [
  | inl s ↦ inl (blank_quiet bytes s).0
  | inr s ↦ elim s [
    | inl s ↦ inr ((line_never bytes s).0, line_ends bytes behind s fits)
    | inr s ↦ inl (comment_leaves bytes s)
  ]
]

-- within a piece the automaton is inside a block comment exactly behind the `/*` of one
abbrev IsInPiece : Option TokenKind → List ℕ → List ℕ → Type 0
IsInPiece kind bytes front = ((kind ≡ None) × IsBlockComment bytes) × (2 ≤ length front)

in_comment : (bytes front more : List ℕ) → IsBlockComment bytes → bytes ≡ front ++ more → 0 < length more → 2 ≤ length front → is_in_block (run Code front) ≡ true
in_comment bytes [] more s split some behind = absurd (omega arith)
in_comment bytes (a ∷ []) more s split some behind = absurd (omega arith)
in_comment bytes (a ∷ b ∷ x) more s split some behind =
    let same : 47 ∷ 42 ∷ s.0 ≡ a ∷ b ∷ (x ++ more) = sym s.2 ∙ split in
    let first : 47 ≡ a = cc in
    let second : 42 ≡ b = cc in
    let rest : s.0 ≡ x ++ more = cc in
    subst (λ l. is_in_block (run Code l) ≡ true) (λ i. first i ∷ second i ∷ x) (comment_open s.0 x more s.1 s.3 s.4 rest some)

-- the opening itself isn't inside
not_yet : (bytes front more : List ℕ) → IsBlockComment bytes → bytes ≡ front ++ more → is_in_block (run Code front) ≡ true → 2 ≤ length front
not_yet bytes [] more s split inside = absurd (false≢true inside)
not_yet bytes (a ∷ []) more s split inside =
    let same : 47 ∷ 42 ∷ s.0 ≡ a ∷ more = sym s.2 ∙ split in
    let first : 47 ≡ a = cc in
    absurd (false≢true (subst (λ c. is_in_block (run Code (c ∷ [])) ≡ true) (sym first) inside))
not_yet bytes (a ∷ b ∷ x) more s split inside = omega arith

quiet_front : (bytes front more : List ℕ) → NeverOpen Code bytes → bytes ≡ front ++ more → is_in_block (run Code front) ≡ true → ⊥
quiet_front bytes front more never split inside = false≢true (sym (never_front Code front more (subst (NeverOpen Code) split never)) ∙ inside)

piece_inside : (kind : Option TokenKind) (bytes behind front more : List ℕ) → Stands kind bytes behind → bytes ≡ front ++ more → is_in_block (run Code front) ≡ true → IsInPiece kind bytes front
piece_inside (Some kind) bytes behind front more s split inside = absurd (quiet_front bytes front more (token_quiet kind bytes behind s).1 split inside)
piece_inside None bytes behind front more s split inside = elim s [
  | inl s ↦ absurd (quiet_front bytes front more (blank_quiet bytes s).1 split inside)
  | inr s ↦ elim s [
    | inl s ↦ absurd (quiet_front bytes front more (line_never bytes s).1 split inside)
    | inr s ↦ ((refl, s), not_yet bytes front more s split inside)
  ]
]

-- ---- all pieces

-- of two cuts of one text the nearer one is a front of the other's
cut_within : (a b c d : List ℕ) → a ++ b ≡ c ++ d → length c ≤ length a → (m : List ℕ) × (a ≡ c ++ m) × (d ≡ m ++ b)
cut_within a b [] d e le = (a, refl, sym e)
cut_within [] b (x ∷ c) d e le = absurd (omega (arith, le))
cut_within (y ∷ a) b (x ∷ c) d e le =
    let first : y ≡ x = cc in
    let rest : a ++ b ≡ c ++ d = cc in
    let inner = cut_within a b c d rest (omega (arith, le)) in
    (inner.0, (λ i. first i ∷ inner.1 i), inner.2)

-- behind a line comment a line begins, so that it is as if none was there
line_over : (s : Scan) (m : List ℕ) → s ≡ LineComment → BeginsLine m → is_in_block (run s m) ≡ is_in_block (run Code m)
line_over s [] is begins = ap is_in_block is
line_over s (b ∷ bs) is begins =
    ap (λ t. is_in_block (run (step t b) bs)) is
    ∙ subst (λ c. is_in_block (run (step LineComment c) bs) ≡ is_in_block (run (step Code c) bs)) (sym begins) refl

begins_front : (m back behind : List ℕ) → behind ≡ m ++ back → BeginsLine behind → BeginsLine m
begins_front [] back behind split begins = tt
begins_front (b ∷ bs) back [] split begins = cc
begins_front (b ∷ bs) back (c ∷ cs) split begins = let first : c ≡ b = cc in sym first ∙ begins

left_over : (bytes m back behind : List ℕ) → Leaves bytes behind → behind ≡ m ++ back → is_in_block (run (run Code bytes) m) ≡ is_in_block (run Code m)
unfolding Leaves
left_over bytes m back behind leaves split = elim leaves [
  | inl e ↦ ap (λ s. is_in_block (run s m)) e
  | inr e ↦ line_over (run Code bytes) m e.0 (begins_front m back behind split e.1)
]

-- a place within the first piece, and one behind it
in_first : (p : Piece) (ps : List Piece) (at : ℕ) → ((p.kind ≡ None) × IsBlockComment p.bytes) × (2 ≤ at) → at < length p.bytes → IsInComment (p ∷ ps) at
in_first p ps at h below = record {
  before = [];
  comment = p;
  after = ps;
  split = refl;
  is_comment = h.0;
  behind_opening = omega (arith, h.1);
  before_end = omega (arith, below);
}

in_later : (p : Piece) (ps : List Piece) (at : ℕ) → IsInComment ps at → IsInComment (p ∷ ps) (length p.bytes + at)
in_later p ps at h = record {
  before = p ∷ h.before;
  comment = h.comment;
  after = h.after;
  split = ap (λ qs. p ∷ qs) h.split;
  is_comment = h.is_comment;
  behind_opening = omega (arith, h.behind_opening, length-append p.bytes (joined_pieces h.before));
  before_end = omega (arith, h.before_end, length-append p.bytes (joined_pieces h.before));
}

of_first : (p : Piece) (ps : List Piece) (at : ℕ) → IsInComment (p ∷ ps) at → at < length p.bytes → ((p.kind ≡ None) × IsBlockComment p.bytes) × (2 ≤ at)
of_first p ps at h below = go h.before h.comment h.after h.split h.is_comment h.behind_opening
  where
    go : (before : List Piece) (comment : Piece) (after : List Piece) → p ∷ ps ≡ before ++ comment ∷ after → (comment.kind ≡ None) × IsBlockComment comment.bytes → length (joined_pieces before) + 2 ≤ at → ((p.kind ≡ None) × IsBlockComment p.bytes) × (2 ≤ at)
    go [] comment after split is opening = let same : comment ≡ p = cc in (subst (λ (q : Piece). (q.kind ≡ None) × IsBlockComment q.bytes) same is, omega (arith, opening))
    go (q ∷ before) comment after split is opening =
        let same : p ≡ q = cc in
        let len : length p.bytes ≡ length q.bytes = ap (λ (r : Piece). length r.bytes) same in
        absurd (omega (arith, below, opening, len, length-append q.bytes (joined_pieces before)))

of_later : (p : Piece) (ps : List Piece) (at : ℕ) → IsInComment (p ∷ ps) (length p.bytes + at) → IsInComment ps at
of_later p ps at h = go h.before h.comment h.after h.split h.is_comment h.behind_opening h.before_end
  where
    go : (before : List Piece) (comment : Piece) (after : List Piece) → p ∷ ps ≡ before ++ comment ∷ after → (comment.kind ≡ None) × IsBlockComment comment.bytes → length (joined_pieces before) + 2 ≤ length p.bytes + at → length p.bytes + at < length (joined_pieces before) + length comment.bytes → IsInComment ps at
    go [] comment after split is opening ends =
        let same : comment ≡ p = cc in
        let len : length comment.bytes ≡ length p.bytes = ap (λ (r : Piece). length r.bytes) same in
        absurd (omega (arith, ends, len))
    go (q ∷ before) comment after split is opening ends =
        let same : p ≡ q = cc in
        let rest : ps ≡ before ++ comment ∷ after = cc in
        let len : length p.bytes ≡ length q.bytes = ap (λ (r : Piece). length r.bytes) same in
        record {
          before = before;
          comment = comment;
          after = after;
          split = rest;
          is_comment = is;
          behind_opening = omega (arith, opening, len, length-append q.bytes (joined_pieces before));
          before_end = omega (arith, ends, len, length-append q.bytes (joined_pieces before));
        }

nothing_in : (at : ℕ) → IsInComment [] at → ⊥
nothing_in at h = go h.before h.comment h.after h.split
  where
    go : (before : List Piece) (comment : Piece) (after : List Piece) → [] ≡ before ++ comment ∷ after → ⊥
    go [] comment after split = cc
    go (q ∷ before) comment after split = cc

at_place : (pieces : List Piece) (front back : List ℕ) → AllFit pieces [] → joined_pieces pieces ≡ front ++ back → (is_in_block (run Code front) ≡ true) ↔ IsInComment pieces (length front)
at_place [] [] back fit whole = (λ inside. absurd (false≢true inside), λ h. absurd (nothing_in 0 h))
at_place [] (b ∷ bs) back fit whole = cc
at_place (p ∷ ps) front back fit whole = elim (cases_lt (length front) (length p.bytes)) [
  | inl below ↦
      let cut = cut_within p.bytes (joined_pieces ps) front back whole (omega (arith, below)) in
      let some : 0 < length cut.0 = omega (arith, below, ap (λ (l : List ℕ). length l) cut.1, length-append front cut.0) in (
        λ inside. in_first p ps (length front) (piece_inside p.kind p.bytes (joined_pieces ps ++ []) front cut.0 fit.0.stands cut.1 inside) below,
        λ h. let first = of_first p ps (length front) h below in in_comment p.bytes front cut.0 first.0.1 cut.1 some first.1,
      )
  | inr beyond ↦
      let cut = cut_within front back p.bytes (joined_pieces ps) (sym whole) beyond in
      let behind : joined_pieces ps ++ [] ≡ cut.0 ++ back = append-nil (joined_pieces ps) ∙ cut.2 in
      let over : is_in_block (run Code front) ≡ is_in_block (run Code cut.0) =
      ap (λ l. is_in_block (run Code l)) cut.1 ∙ ap is_in_block (run-append Code p.bytes cut.0) ∙ left_over p.bytes cut.0 back (joined_pieces ps ++ []) (piece_leaves p.kind p.bytes (joined_pieces ps ++ []) fit.0) behind in
      let inner = at_place ps cut.0 back fit.1 cut.2 in
      let len : length front ≡ length p.bytes + length cut.0 = ap (λ (l : List ℕ). length l) cut.1 ∙ length-append p.bytes cut.0 in (
        λ inside. subst (IsInComment (p ∷ ps)) (sym len) (in_later p ps (length cut.0) (inner.0 (sym over ∙ inside))),
        λ h. over ∙ inner.1 (of_later p ps (length cut.0) (subst (IsInComment (p ∷ ps)) len h)),
      )
]

pub comments_agree : CommentsAgree
comments_agree pieces front back fit whole lines =
    let same : is_open_behind false (lines_of front) ≡ is_in_block (run Code front) = sym (from_start false (lines_of front)) ∙ lines_run Code front lines in
    let there = at_place pieces front back fit whole in
    (λ inside. there.0 (sym same ∙ inside), λ h. same ∙ there.1 h)
