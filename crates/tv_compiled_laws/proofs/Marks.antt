-- A mark of an include line stands in no piece of a text, unless in a comment or a string.
use Rattle.std.proofs.Common.{◌≡◌, ◌∙◌, ℕ, ◌+◌, ◌<◌, ◌≤◌, List, [], ◌∷◌, ◌++◌, Bool, true, false, Option}
use Rattle.std.proofs.Common.{Some}
use Rattle.std.proofs.Common.{None, length, refl, sym, ap, subst, inl, inr, arith, append_assoc}
use Rattle.std.proofs.Common.{length-append}
use Rattle.std.specs.Prelude.{◌⊎◌, ◌==◌, not}
use Rattle.std.specs.List.{list_all}
use Rattle.std.proofs.lemmas.Bool.{and_parts, and_from, false≢true, not_from_false, ne_eqb}
use Rattle.std.proofs.lemmas.List.{append-nil}
use Rattle.tv_lemmas.proofs.Lists.{list_all-weaker}
use Rattle.tv_lex.specs.Bytes.{is_blank, is_word_byte, is_letter, is_text_byte, stays_on_line}
use Rattle.tv_lex.specs.Comments.{IsInComment, IsWholeLines}
use Rattle.tv_lex.specs.Include.{is_gap}
use Rattle.tv_lex.specs.Pieces.{AllFit, IsBlockComment, IsOneOf, Piece, Stands, joined_pieces, punctuations}
use Rattle.tv_lex.specs.declared.token.TokenKind.{TokenKind}
use Rattle.tv_lex.specs.declared.token.TokenKind.TheVariants.{Word, Half, Text, Directive, Parts, Punct}
use Rattle.tv_compiled_laws.proofs.Lines.{has_feed, whole_behind}

-- ---- the piece in which a mark stands

-- two cuts of one text, one of them nearer
pub cut : (a b c d : List ℕ) → a ++ b ≡ c ++ d
    → ((m : List ℕ) × (c ≡ a ++ m) × (b ≡ m ++ d)) ⊎ ((m : List ℕ) × (a ≡ c ++ m) × (d ≡ m ++ b))
cut [] b c d e = inl (c, refl, e)
cut (x ∷ a) b [] d e = inr (x ∷ a, refl, sym e)
cut (x ∷ a) b (y ∷ c) d e =
    let first : x ≡ y = cc in
    let rest : a ++ b ≡ c ++ d = cc in
    elim (cut a b c d rest) [
      | inl h ↦ inl (h.0, (λ i. sym first i ∷ h.1 i), h.2)
      | inr h ↦ inr (h.0, (λ i. first i ∷ h.1 i), h.2)
    ]

-- a mark behind these bytes stands in this piece, behind this front of it
record IsMarked (pieces : List Piece) (place : List ℕ) : Type 0 where
  before : List Piece
  piece : Piece
  after : List Piece
  front : List ℕ
  back : List ℕ
  behind : List ℕ
  split : pieces ≡ before ++ piece ∷ after
  bytes : piece.bytes ≡ front ++ 35 ∷ back
  there : place ≡ joined_pieces before ++ front
  stands : Stands piece.kind piece.bytes behind

later : (p : Piece) (ps : List Piece) (place m : List ℕ) → place ≡ p.bytes ++ m → IsMarked ps m → IsMarked (p ∷ ps) place
later p ps place m is h = record {
  before = p ∷ h.before;
  piece = h.piece;
  after = h.after;
  front = h.front;
  back = h.back;
  behind = h.behind;
  split = ap (λ qs. p ∷ qs) h.split;
  bytes = h.bytes;
  there = is ∙ ap (λ t. p.bytes ++ t) h.there ∙ sym (append_assoc p.bytes (joined_pieces h.before) h.front);
  stands = h.stands;
}

-- it stands in the first piece, or right behind it
here : (p : Piece) (ps : List Piece) (place q m behind : List ℕ) → Stands p.kind p.bytes behind
    → (joined_pieces ps ≡ 35 ∷ q → IsMarked ps []) → p.bytes ≡ place ++ m → 35 ∷ q ≡ m ++ joined_pieces ps
    → IsMarked (p ∷ ps) place
here p ps place q [] behind stands next is rest =
    later p ps place [] (sym (append-nil place) ∙ sym is ∙ sym (append-nil p.bytes)) (next (sym rest))
here p ps place q (b ∷ m) behind stands next is rest =
    let first : b ≡ 35 = cc in record {
      before = [];
      piece = p;
      after = ps;
      front = place;
      back = m;
      behind = behind;
      split = refl;
      bytes = is ∙ ap (λ c. place ++ c ∷ m) first;
      there = refl;
      stands = stands;
    }

marked : (pieces : List Piece) (place q : List ℕ) → AllFit pieces [] → joined_pieces pieces ≡ place ++ 35 ∷ q
    → IsMarked pieces place
marked [] [] q fit whole = cc
marked [] (b ∷ place) q fit whole = cc
marked (p ∷ ps) place q fit whole = elim (cut p.bytes (joined_pieces ps) place (35 ∷ q) whole) [
  | inl h ↦ later p ps place h.0 h.1 (marked ps h.0 q fit.1 h.2)
  | inr h ↦
      here p ps place q h.0 (joined_pieces ps ++ []) fit.0.stands (λ at. marked ps [] q fit.1 at) h.1 h.2
]

-- ---- which pieces have marks

-- whatever holds of all bytes holds of the mark among them
at_mark : (test : ℕ → Bool) (front back : List ℕ) → list_all test (front ++ 35 ∷ back) ≡ true → test 35 ≡ true
at_mark test [] back all = (and_parts (test 35) (list_all test back) all).0
at_mark test (b ∷ front) back all =
    at_mark test front back (and_parts (test b) (list_all test (front ++ 35 ∷ back)) all).1

-- bytes of which no mark has what they have
unmarked : (test : ℕ → Bool) (bytes front back : List ℕ) → test 35 ≡ false → list_all test bytes ≡ true
    → bytes ≡ front ++ 35 ∷ back → ⊥
unmarked test bytes front back fails all is =
    false≢true (sym fails ∙ at_mark test front back (subst (λ t. list_all test t ≡ true) is all))

all_append : (test : ℕ → Bool) (x y : List ℕ) → list_all test x ≡ true → list_all test y ≡ true
    → list_all test (x ++ y) ≡ true
all_append test [] y all more = more
all_append test (b ∷ x) y all more =
    let both = and_parts (test b) (list_all test x) all in
    and_from (test b) (list_all test (x ++ y)) both.0 (all_append test x y both.1 more)

pub all_behind : (test : ℕ → Bool) (x y : List ℕ) → list_all test (x ++ y) ≡ true → list_all test y ≡ true
all_behind test [] y all = all
all_behind test (b ∷ x) y all = all_behind test x y (and_parts (test b) (list_all test (x ++ y)) all).1

all_front : (test : ℕ → Bool) (x y : List ℕ) → list_all test (x ++ y) ≡ true → list_all test x ≡ true
all_front test [] y all = refl
all_front test (b ∷ x) y all =
    let both = and_parts (test b) (list_all test (x ++ y)) all in
    and_from (test b) (list_all test x) both.0 (all_front test x y both.1)

text_stays : (b : ℕ) → is_text_byte b ≡ true → stays_on_line b ≡ true
text_stays b h = not_from_false (b == 10) (ne_eqb b 10 (λ e. false≢true (subst (λ c. is_text_byte c ≡ true) e h)))

abbrev is_no_mark : ℕ → Bool
is_no_mark b = not (b == 35)

plain_mark : (ms : List (List ℕ)) (bytes : List ℕ) → list_all (λ m. list_all is_no_mark m) ms ≡ true
    → IsOneOf ms bytes → list_all is_no_mark bytes ≡ true
plain_mark [] bytes all one = absurd one
plain_mark (m ∷ ms) bytes all one =
    let both = and_parts (list_all is_no_mark m) (list_all (λ n. list_all is_no_mark n) ms) all in
    elim one [ inl e ↦ subst (λ l. list_all is_no_mark l ≡ true) (sym e) both.0 | inr one ↦ plain_mark ms bytes both.1 one ]

-- the bytes begin with one that isn't a gap, nor the mark
record BeginsApart (bytes : List ℕ) : Type 0 where
  byte : ℕ
  rest : List ℕ
  spelled : bytes ≡ byte ∷ rest
  gap : is_gap byte ≡ false
  mark : (byte == 35) ≡ false

-- a piece that may have a mark: one on a line, or a block comment
abbrev MayHave : Option TokenKind → List ℕ → Type 0
MayHave kind bytes = BeginsApart bytes
    × ((list_all stays_on_line bytes ≡ true) ⊎ ((kind ≡ None) × IsBlockComment bytes))

token_has : (kind : TokenKind) (bytes behind front back : List ℕ) → Stands (Some kind) bytes behind
    → bytes ≡ front ++ 35 ∷ back → MayHave (Some kind) bytes
token_has Word bytes behind front back s is = absurd (unmarked is_word_byte bytes front back refl s.1 is)
token_has Half bytes behind front back s is =
    absurd (unmarked is_no_mark bytes front back refl (subst (λ l. list_all is_no_mark l ≡ true) (sym s.0) refl) is)
token_has Text bytes behind front back s is = (
  record { byte = 34; rest = s.0 ++ 34 ∷ []; spelled = s.1; gap = refl; mark = refl },
  inl (subst (λ l. list_all stays_on_line l ≡ true) (sym s.1)
      (all_append stays_on_line s.0 (34 ∷ []) (list_all-weaker is_text_byte stays_on_line text_stays s.0 s.2) refl)),
)
token_has Directive bytes behind front back s is =
    absurd (unmarked is_no_mark bytes front back refl
    (subst (λ l. list_all is_no_mark l ≡ true) (sym s.1) (list_all-weaker is_letter is_no_mark letter_passes s.0 s.2.1)) is)
  where
    letter_passes : (b : ℕ) → is_letter b ≡ true → is_no_mark b ≡ true
    letter_passes b h =
        not_from_false (b == 35) (ne_eqb b 35 (λ e. false≢true (subst (λ c. is_letter c ≡ true) e h)))
token_has Parts bytes behind front back s is =
    absurd (unmarked is_no_mark bytes front back refl (subst (λ l. list_all is_no_mark l ≡ true) (sym s) refl) is)
token_has Punct bytes behind front back s is =
    absurd (unmarked is_no_mark bytes front back refl (plain_mark punctuations bytes refl s) is)

may_have : (kind : Option TokenKind) (bytes behind front back : List ℕ) → Stands kind bytes behind
    → bytes ≡ front ++ 35 ∷ back → MayHave kind bytes
may_have (Some kind) bytes behind front back s is = token_has kind bytes behind front back s is
may_have None bytes behind front back s is = elim s [
  | inl s ↦
      absurd (unmarked is_blank bytes front back refl
      (subst (λ l. list_all is_blank l ≡ true) (sym s.1) (and_from (is_blank s.0) true s.2 refl)) is)
  | inr (inl s) ↦ (
    record { byte = 47; rest = 47 ∷ s.0; spelled = s.1; gap = refl; mark = refl },
    inl (subst (λ l. list_all stays_on_line l ≡ true) (sym s.1) s.2),
  )
  | inr (inr s) ↦ (
    record { byte = 47; rest = 42 ∷ s.0; spelled = s.2; gap = refl; mark = refl },
    inr (refl, s),
  )
]

-- ---- a mark behind gaps at the front of a line

-- no such piece begins on that line
begins_before : (bytes gaps back : List ℕ) → BeginsApart bytes → bytes ≡ gaps ++ 35 ∷ back
    → list_all is_gap gaps ≡ true → ⊥
begins_before bytes [] back apart is all =
    let same : apart.byte ∷ apart.rest ≡ 35 ∷ back = sym apart.spelled ∙ is in
    let first : apart.byte ≡ 35 = cc in
    false≢true (sym apart.mark ∙ ap (λ b. b == 35) first)
begins_before bytes (g ∷ gaps) back apart is all =
    let same : apart.byte ∷ apart.rest ≡ g ∷ gaps ++ 35 ∷ back = sym apart.spelled ∙ is in
    let first : apart.byte ≡ g = cc in
    false≢true (sym apart.gap ∙ ap is_gap first ∙ (and_parts (is_gap g) (list_all is_gap gaps) all).0)

-- a comment that has a whole line in it has two bytes in front of what is behind that
two_before : (bytes x rest : List ℕ) → IsBlockComment bytes → bytes ≡ x ++ rest → IsWholeLines x → 0 < length x
    → 2 ≤ length x
two_before bytes [] rest s is whole some = absurd (omega (arith, some))
two_before bytes (b ∷ []) rest s is whole some =
    let same : 47 ∷ 42 ∷ s.0 ≡ b ∷ rest = sym s.2 ∙ is in
    let first : 47 ≡ b = cc in
    absurd (omega (arith, first, whole))
two_before bytes (b ∷ c ∷ cs) rest s is whole some = omega arith

pub in_comment : (pieces : List Piece) (front gaps back : List ℕ) → AllFit pieces []
    → joined_pieces pieces ≡ front ++ (gaps ++ 35 ∷ back) → IsWholeLines front → list_all is_gap gaps ≡ true
    → IsInComment pieces (length front)
in_comment pieces front gaps back fit whole lines all =
    let at = marked pieces (front ++ gaps) back fit (whole ∙ sym (append_assoc front gaps (35 ∷ back))) in
    let may = may_have at.piece.kind at.piece.bytes at.behind at.front at.back at.stands at.bytes in
    elim (cut front gaps (joined_pieces at.before) at.front at.there) [
      | inl h ↦
          absurd (begins_before at.piece.bytes at.front at.back may.0 at.bytes
          (all_behind is_gap h.0 at.front (subst (λ t. list_all is_gap t ≡ true) h.2 all)))
      | inr h ↦ within at may h.0 h.1 h.2
    ]
  where
    within : (at : IsMarked pieces (front ++ gaps)) → MayHave at.piece.kind at.piece.bytes → (m : List ℕ)
        → front ≡ joined_pieces at.before ++ m → at.front ≡ m ++ gaps → IsInComment pieces (length front)
    within at may [] cut_front cut_piece =
        absurd (begins_before at.piece.bytes gaps at.back may.0 (at.bytes ∙ ap (λ t. t ++ 35 ∷ at.back) cut_piece) all)
    within at may (b ∷ m) cut_front cut_piece =
        let x = b ∷ m in
        let whole_x = whole_behind (joined_pieces at.before) x (subst IsWholeLines cut_front lines) in
        let bytes : at.piece.bytes ≡ x ++ (gaps ++ 35 ∷ at.back)
        = at.bytes ∙ ap (λ t. t ++ 35 ∷ at.back) cut_piece ∙ append_assoc x gaps (35 ∷ at.back) in
        let long : length front ≡ length (joined_pieces at.before) + length x
        = ap (λ (l : List ℕ). length l) cut_front ∙ length-append (joined_pieces at.before) x in
        let more : length at.piece.bytes ≡ length x + length (gaps ++ 35 ∷ at.back)
        = ap (λ (l : List ℕ). length l) bytes ∙ length-append x (gaps ++ 35 ∷ at.back) in
        let some : length (gaps ++ 35 ∷ at.back) ≡ length gaps + length (35 ∷ at.back) = length-append gaps (35 ∷ at.back) in
        elim may.1 [
          | inl on_line ↦
              absurd (has_feed x whole_x (omega arith)
              (all_front stays_on_line x (gaps ++ 35 ∷ at.back) (subst (λ t. list_all stays_on_line t ≡ true) bytes on_line)))
          | inr is ↦
              let two = two_before at.piece.bytes x (gaps ++ 35 ∷ at.back) is.1 bytes whole_x (omega arith) in record {
                before = at.before;
                comment = at.piece;
                after = at.after;
                split = at.split;
                is_comment = is;
                behind_opening = omega (arith, long, two);
                before_end = omega (arith, long, more, some);
              }
        ]
