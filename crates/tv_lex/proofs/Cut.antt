-- A text cut from its front on, piece by piece.
use Rattle.std.proofs.Common.{◌≡◌, ℕ, ◌+◌, ◌-◌, ◌<◌, ◌≤◌, List, [], ◌∷◌, ◌++◌, Option, Some, None, Ok, Err}
use Rattle.std.proofs.Common.{length, drop, ap, sym, ◌∙◌, subst, arith, append_assoc, length-append}
use Rattle.std.proofs.Common.{length-drop, take-append-drop}
use Rattle.std.proofs.lemmas.List.{append-nil, drop-drop, length-take-le}
use Rattle.tv_lex.specs.Pieces.{Piece, Fits, AllFit, joined_pieces, placed, placed_one, Cause, AreInOrder}
use Rattle.tv_lex.specs.Pieces.{IsRefused}
use Rattle.tv_lex.specs.Front.{front}
use Rattle.tv_lex.specs.declared.front.Front.{Front}
use Rattle.tv_lex.specs.declared.token.Token.{Token}
use Rattle.tv_lex.specs.declared.token.TokenKind.{TokenKind}
use Rattle.tv_lex.specs.declared.token.LexError.{LexError}
use Rattle.tv_lex.specs.declared.token.LexError.TheVariants.{BadByte, Unended, Memory}
use Rattle.tv_lex.proofs.Good.{taken, first_piece, refused}

joined-push : (ps : List Piece) (p : Piece) (after : List ℕ) → joined_pieces (ps ++ p ∷ []) ++ after ≡ joined_pieces ps ++ (p.bytes ++ after)
joined-push [] p after = ap (λ l. l ++ after) (append-nil p.bytes)
joined-push (q ∷ qs) p after =
    append_assoc q.bytes (joined_pieces (qs ++ p ∷ [])) after ∙ ap (λ l. q.bytes ++ l) (joined-push qs p after) ∙ sym (append_assoc q.bytes (joined_pieces qs) (p.bytes ++ after))

AllFit-push : (ps : List Piece) (p : Piece) (after : List ℕ) → AllFit ps (p.bytes ++ after) → Fits p after → AllFit (ps ++ p ∷ []) after
AllFit-push [] p after fit last = (last, tt)
AllFit-push (q ∷ qs) p after fit last = (subst (Fits q) (sym (joined-push qs p after)) fit.0, AllFit-push qs p after fit.1 last)

placed-push : (at : ℕ) (ps : List Piece) (p : Piece) → placed at (ps ++ p ∷ []) ≡ placed at ps ++ placed_one p.kind (at + length (joined_pieces ps)) (at + length (joined_pieces ps) + length p.bytes)
placed-push at [] p =
    let here : at ≡ at + 0 = omega arith in
    append-nil (placed_one p.kind at (at + length p.bytes)) ∙ ap (λ a. placed_one p.kind a (a + length p.bytes)) here
placed-push at (q ∷ qs) p =
    let there : at + length q.bytes + length (joined_pieces qs) ≡ at + length (q.bytes ++ joined_pieces qs) = omega (arith, length-append q.bytes (joined_pieces qs)) in
    let first = placed_one q.kind at (at + length q.bytes) in
    ap (λ l. first ++ l) (placed-push (at + length q.bytes) qs p ∙ ap (λ a. placed (at + length q.bytes) qs ++ placed_one p.kind a (a + length p.bytes)) there)
    ∙ sym (append_assoc first (placed (at + length q.bytes) qs) _)

AreInOrder-grow : (a : ℕ) (ts : List Token) (mid end : ℕ) → AreInOrder a ts mid → mid ≤ end → AreInOrder a ts end
AreInOrder-grow a [] mid end order more = omega arith
AreInOrder-grow a (t ∷ ts) mid end order more = (order.0, order.1, AreInOrder-grow t.end ts mid end order.2 more)

AreInOrder-placed : (a : ℕ) (ts : List Token) (mid end : ℕ) (kind : Option TokenKind) → AreInOrder a ts mid → mid < end → AreInOrder a (ts ++ placed_one kind mid end) end
AreInOrder-placed a ts mid end None order more = subst (λ l. AreInOrder a l end) (sym (append-nil ts)) (AreInOrder-grow a ts mid end order (omega arith))
AreInOrder-placed a [] mid end (Some kind) order more = (order, more, omega arith)
AreInOrder-placed a (t ∷ ts) mid end (Some kind) order more = (order.0, order.1, AreInOrder-placed t.end ts mid end (Some kind) order.2 more)

-- the text is cut up to a place, and these are its tokens there
pub record CutBefore (text : List ℕ) (at : ℕ) (tokens : List Token) : Type 0 where
  pub pieces : List Piece
  pub fit : AllFit pieces (drop at text)
  pub joins : joined_pieces pieces ++ drop at text ≡ text
  pub long : length (joined_pieces pieces) ≡ at
  pub spelled : tokens ≡ placed 0 pieces
  pub order : AreInOrder 0 tokens at
  pub bounded : at ≤ length text

-- what the reader takes next is the next piece
pub cut_more : (text : List ℕ) (at : ℕ) (tokens : List Token) (f : Front) → CutBefore text at tokens → at < length text → front (drop at text) ≡ Ok f → CutBefore text (at + f.len) (tokens ++ placed_one f.kind at (at + f.len))
cut_more text at tokens f cut more e =
    let rest = drop at text in
    let rest_len : length rest ≡ length text - at = length-drop at text in
    let first = first_piece rest f (omega arith) e in
    let p : Piece = taken f rest in
    let after : drop f.len rest ≡ drop (at + f.len) text = drop-drop f.len at text in
    let whole : p.bytes ++ drop (at + f.len) text ≡ rest = ap (λ l. p.bytes ++ l) (sym after) ∙ take-append-drop f.len rest in
    let p_len : length p.bytes ≡ f.len = length-take-le f.len rest first.bounded in
    let starts : at ≡ 0 + length (joined_pieces cut.pieces) = omega (arith, cut.long) in
    record {
      pieces = cut.pieces ++ p ∷ [];
      fit = AllFit-push cut.pieces p (drop (at + f.len) text) (subst (AllFit cut.pieces) (sym whole) cut.fit) (subst (Fits p) after first.fits);
      joins = joined-push cut.pieces p (drop (at + f.len) text) ∙ ap (λ l. joined_pieces cut.pieces ++ l) whole ∙ cut.joins;
      long =
          let both : length (joined_pieces (cut.pieces ++ p ∷ []) ++ []) ≡ length (joined_pieces cut.pieces ++ (p.bytes ++ [])) = ap length (joined-push cut.pieces p []) in
          let left : length (joined_pieces (cut.pieces ++ p ∷ []) ++ []) ≡ length (joined_pieces (cut.pieces ++ p ∷ [])) + 0 = length-append (joined_pieces (cut.pieces ++ p ∷ [])) [] in
          let right : length (joined_pieces cut.pieces ++ (p.bytes ++ [])) ≡ length (joined_pieces cut.pieces) + length (p.bytes ++ []) = length-append (joined_pieces cut.pieces) (p.bytes ++ []) in
          let last : length (p.bytes ++ []) ≡ length p.bytes + 0 = length-append p.bytes [] in
          omega (arith, cut.long);
      spelled = ap (λ l. l ++ placed_one f.kind at (at + f.len)) cut.spelled ∙ (λ i. placed 0 cut.pieces ++ placed_one f.kind (starts i) (starts i + sym p_len i)) ∙ sym (placed-push 0 cut.pieces p);
      order = AreInOrder-placed 0 tokens at (at + f.len) f.kind cut.order (omega (arith, first.positive));
      bounded = omega (arith, first.bounded, rest_len);
    }

pub cut_refused : (text : List ℕ) (at : ℕ) (tokens : List Token) (fault : LexError) → CutBefore text at tokens → at < length text → front (drop at text) ≡ Err fault → Cause text fault
cut_refused text at tokens fault cut more e = go fault (refused (drop at text) fault (let rest_len : length (drop at text) ≡ length text - at = length-drop at text in omega arith) e)
  where
    go : (fault : LexError) → IsRefused fault (drop at text) → Cause text fault
    go BadByte why = (cut.pieces, drop at text, cut.fit, cut.joins, why)
    go Unended why = (cut.pieces, drop at text, cut.fit, cut.joins, why)
    go Memory why = tt

pub cut_bounds : (text : List ℕ) (at : ℕ) (f : Front) → at < length text → front (drop at text) ≡ Ok f → (1 ≤ f.len) × (at + f.len ≤ length text)
cut_bounds text at f more e =
    let rest_len : length (drop at text) ≡ length text - at = length-drop at text in
    let first = first_piece (drop at text) f (omega arith) e in
    (first.positive, omega (arith, first.bounded))
