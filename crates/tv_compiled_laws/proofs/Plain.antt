-- What is gathered of a file that has no include lines.
use Rattle.std.proofs.Common.{◌≡◌, ◌∙◌, ℕ, ◌+◌, ◌≤◌, List, [], ◌∷◌, ◌++◌, Bool, true, false, Ok, Err}
use Rattle.std.proofs.Common.{length, take, refl, sym, ap, subst, inl, inr, arith, append_assoc}
use Rattle.std.proofs.Common.{length-append, take-append-drop}
use Rattle.std.specs.Prelude.{◌&&◌, not, slice_index}
use Rattle.std.specs.List.{list_all, prefix_len}
use Rattle.std.proofs.lemmas.Bool.{and_right, cases_Bool, cond-false, eqb-true, le-ltb}
use Rattle.std.proofs.lemmas.List.{append-nil}
use Rattle.tv_lex.specs.Comments.{CommentsAgree, IsInComment, IsWholeLines, is_open_behind}
use Rattle.tv_lex.specs.Gather.{Event, Give, content_events, file_events}
use Rattle.tv_lex.specs.Gather.{gathered, included, line_events, longest_gathered, one_line, opens}
use Rattle.tv_lex.specs.Include.{includes, is_gap, is_include, is_open_after, lines_of, without_gaps}
use Rattle.tv_lex.specs.Pieces.{AllFit, Piece, joined_pieces}
use Rattle.tv_lex.specs.declared.gatherer.GatherError.TheVariants.{TooLong}
use Rattle.tv_lex.proofs.Runs.{list_all-take-prefix_len}
use Rattle.tv_compiled_laws.specs.Gathered.{WholeTextsAreGathered}
use Rattle.tv_compiled_laws.proofs.Lines.{AreLines, are_also, are_lines, joined, joined_append, joined_lines}
use Rattle.tv_compiled_laws.proofs.Lines.{joined_whole, lines_again}
use Rattle.tv_compiled_laws.proofs.Marks.{in_comment}

-- none of the lines is an include line
abbrev IncludesNothing : (inside : Bool) → List (List ℕ) → Type 0
IncludesNothing inside [] = Unit {0}
IncludesNothing inside (line ∷ lines) = (includes inside line ≡ false) × IncludesNothing (is_open_after inside line) lines

-- ---- lines that include nothing are given as they stand

given : (include : List ℕ → List Event) (inside : Bool) (lines : List (List ℕ)) (old : List ℕ)
    → IncludesNothing inside lines → is_open_behind inside lines ≡ false
    → length (old ++ joined lines) ≤ longest_gathered
    → gathered old (line_events include inside lines) ≡ Ok (old ++ joined lines)
given include inside [] old none closed fits =
    ap (gathered old) (cond-false inside _ _ closed) ∙ ap Ok (sym (append-nil old))
given include inside (line ∷ lines) old none closed fits =
    let more = line_events include (opens inside line) lines in
    let one : one_line include inside line ≡ Give line ∷ [] = cond-false (includes inside line) _ _ none.0 in
    let next : opens inside line ≡ is_open_after inside line = cond-false (includes inside line) _ _ none.0 in
    let again : (old ++ line) ++ joined lines ≡ old ++ (line ++ joined lines) = append_assoc old line (joined lines) in
    let long : length ((old ++ line) ++ joined lines) ≤ longest_gathered
    = subst (λ (t : List ℕ). length t ≤ longest_gathered) (sym again) fits in
    let short : length (old ++ line) ≤ longest_gathered
    = omega (arith, long, length-append (old ++ line) (joined lines)) in
    ap (λ e. gathered old (e ++ more)) one
    ∙ cond-false _ (Err TooLong) (gathered (old ++ line) more) (le-ltb longest_gathered (length (old ++ line)) short)
    ∙ ap (λ b. gathered (old ++ line) (line_events include b lines)) next
    ∙ given include (is_open_after inside line) lines (old ++ line) none.1 closed long ∙ ap Ok again

-- ---- lines of a text that has tokens

-- an include line begins with its mark, behind gaps
mark_behind_gaps : (line : List ℕ) → is_include line ≡ true
    → (gaps back : List ℕ) × (line ≡ gaps ++ 35 ∷ back) × (list_all is_gap gaps ≡ true)
mark_behind_gaps line is =
    let n = prefix_len is_gap line in
    let first = eqb-true (slice_index (without_gaps line) 0) 35 is in
    let back = begins (without_gaps line) first in (
      take n line,
      back.0,
      sym (take-append-drop n line) ∙ ap (λ t. take n line ++ t) back.1,
      list_all-take-prefix_len is_gap line,
    )
  where
    begins : (text : List ℕ) → slice_index text 0 ≡ 35 → (back : List ℕ) × (text ≡ 35 ∷ back)
    begins [] e = cc
    begins (b ∷ bs) e = (bs, ap (λ c. c ∷ bs) e)

open_behind : (inside : Bool) (before : List (List ℕ)) (line : List ℕ)
    → is_open_behind inside (before ++ line ∷ []) ≡ is_open_after (is_open_behind inside before) line
open_behind inside [] line = refl
open_behind inside (l ∷ before) line = open_behind (is_open_after inside l) before line

pieces_append : (before after : List Piece)
    → joined_pieces (before ++ after) ≡ joined_pieces before ++ joined_pieces after
pieces_append [] after = refl
pieces_append (p ∷ before) after =
    ap (λ t. p.bytes ++ t) (pieces_append before after)
    ∙ sym (append_assoc p.bytes (joined_pieces before) (joined_pieces after))

module _ (agree : CommentsAgree) (pieces : List Piece) (fit : AllFit pieces []) where
  -- a line isn't an include line, as its mark would stand in a comment
  no_include : (before : List (List ℕ)) (line : List ℕ) (after : List ℕ)
      → joined_pieces pieces ≡ joined before ++ (line ++ after) → AreLines before
      → includes (is_open_behind false before) line ≡ false
  no_include before line after whole are = elim (cases_Bool (is_include line)) [
    | inr e ↦ and_right (not (is_open_behind false before)) (is_include line) e
    | inl e ↦
        let mark = mark_behind_gaps line e in
        let cut : line ++ after ≡ mark.0 ++ 35 ∷ (mark.1 ++ after)
        = ap (λ t. t ++ after) mark.2 ∙ append_assoc mark.0 (35 ∷ mark.1) after in
        let here = in_comment pieces (joined before) mark.0 (mark.1 ++ after) fit
        (whole ∙ ap (λ t. joined before ++ t) cut) (joined_whole before are) mark.3 in
        let inside : is_open_behind false (lines_of (joined before)) ≡ true =
        (agree pieces (joined before) (line ++ after) fit whole (joined_whole before are)).1 here in
        ap (λ b. not b && is_include line) (ap (is_open_behind false) (sym (lines_again before are)) ∙ inside)
  ]

  none_include : (before after : List (List ℕ)) → joined_pieces pieces ≡ joined before ++ joined after
      → AreLines before → AreLines after → IncludesNothing (is_open_behind false before) after
  none_include before [] whole are more = tt
  none_include before (line ∷ lines) whole are more =
      let further : joined before ++ (line ++ joined lines) ≡ joined (before ++ line ∷ []) ++ joined lines =
      sym (append_assoc (joined before) line (joined lines))
      ∙ ap (λ t. t ++ joined lines) (ap (λ l. joined before ++ l) (sym (append-nil line)) ∙ sym (joined_append before (line ∷ []))) in (
        no_include before line (joined lines) whole are,
        subst (λ b. IncludesNothing b lines) (open_behind false before line)
            (none_include (before ++ line ∷ []) lines (whole ∙ further)
            (are_also before (line ∷ []) are (more.0, tt)) more.1),
      )

  -- no comment is open at the end
  all_closed : (text : List ℕ) → joined_pieces pieces ≡ text → IsWholeLines text
      → is_open_behind false (lines_of text) ≡ false
  all_closed text whole lines = elim (cases_Bool (is_open_behind false (lines_of text))) [
    | inr e ↦ e
    | inl e ↦
        let at = (agree pieces text [] fit (whole ∙ sym (append-nil text)) lines).0 e in
        absurd (ended at)
  ]
    where
      ended : IsInComment pieces (length text) → ⊥
      ended at =
          let all : joined_pieces at.before ++ (at.comment.bytes ++ joined_pieces at.after) ≡ text
          = sym (pieces_append at.before (at.comment ∷ at.after)) ∙ ap joined_pieces (sym at.split) ∙ whole in
          let long : length (joined_pieces at.before) + length (at.comment.bytes ++ joined_pieces at.after) ≡ length text
          = sym (length-append (joined_pieces at.before) (at.comment.bytes ++ joined_pieces at.after))
          ∙ ap (λ (l : List ℕ). length l) all in
          omega (arith, at.before_end, long, length-append at.comment.bytes (joined_pieces at.after))

pub gathered_whole : CommentsAgree → WholeTextsAreGathered
unfolding file_events
gathered_whole agree held name text tokens content fits lines (pieces, fit, whole, placed) =
    let none = none_include agree pieces fit [] (lines_of text) (whole ∙ sym (joined_lines text)) tt (are_lines text lines) in
    let closed = all_closed agree pieces fit text whole lines in
    let long : length (joined (lines_of text)) ≤ longest_gathered
    = subst (λ (t : List ℕ). length t ≤ longest_gathered) (sym (joined_lines text)) fits in
    let include = included (file_events held 15) name in
    ap (λ c. gathered [] (content_events include c)) content
    ∙ ap (gathered []) (cond-false _ _ _ (le-ltb longest_gathered (length text) fits))
    ∙ given include false (lines_of text) [] none closed long ∙ ap Ok (joined_lines text)
