-- Block comments by the lines of a file, as include lines are looked for, and by the pieces of its text.
use Rattle.std.specs.Prelude.{◌≡◌, ℕ, ◌+◌, ◌<◌, ◌≤◌, List, [], ◌∷◌, ◌++◌, Bool, false, None, length, IsTrue}
use Rattle.std.specs.Prelude.{⊤, ◌↔◌}
use Rattle.tv_lex.specs.Pieces.{Piece, AllFit, joined_pieces, IsBlockComment}
use Rattle.tv_lex.specs.Include.{lines_of, is_open_after}

-- whether the line behind these begins inside a block comment, where it is told whether the first of them
-- does
abbrev pub is_open_behind : Bool → List (List ℕ) → Bool
is_open_behind inside [] = inside
is_open_behind inside (line ∷ lines) = is_open_behind (is_open_after inside line) lines

-- the text is nothing, or ends with a line feed
abbrev pub IsWholeLines : List ℕ → Type 0
IsWholeLines [] = ⊤
IsWholeLines (b ∷ []) = b ≡ 10
IsWholeLines (b ∷ c ∷ cs) = IsWholeLines (c ∷ cs)

-- the place stands inside a block comment: behind its `/*` and before its end
pub record IsInComment (pieces : List Piece) (at : ℕ) : Type 0 where
  pub before : List Piece
  pub comment : Piece
  pub after : List Piece
  pub split : pieces ≡ before ++ comment ∷ after
  pub is_comment : (comment.kind ≡ None) × IsBlockComment comment.bytes
  pub behind_opening : length (joined_pieces before) + 2 ≤ at
  pub before_end : at < length (joined_pieces before) + length comment.bytes

-- In a text that is cut into pieces as a whole, a line begins inside a block comment, as its lines tell,
-- exactly where the place at which it begins stands inside one of the pieces that are block comments.
abbrev pub CommentsAgree : Type 0
CommentsAgree =
    (pieces : List Piece) (front back : List ℕ) → AllFit pieces [] → joined_pieces pieces ≡ front ++ back
    → IsWholeLines front
    → (IsTrue (is_open_behind false (lines_of front)) ↔ IsInComment pieces (length front))
