-- A text has one reading at most.
use Rattle.std.proofs.Common.{◌≡◌, ℕ, ◌<◌, ◌≤◌, List, [], ◌∷◌, ◌++◌, Result, Ok, Err, length, take, drop, ap}
use Rattle.std.proofs.Common.{sym, refl, ◌∙◌, subst, arith, append_assoc, take-append-drop}
use Rattle.std.proofs.lemmas.List.{append-nil, take_at, drop_at, length-take-le}
use Rattle.tv_lex.specs.Pieces.{Piece, Fits, AllFit, joined_pieces, placed, Reads, NothingFits, IsRefused}
use Rattle.tv_lex.specs.Front.{front}
use Rattle.tv_lex.specs.declared.front.Front.{Front}
use Rattle.tv_lex.specs.declared.token.Token.{Token}
use Rattle.tv_lex.specs.declared.token.LexError.{LexError}
use Rattle.tv_lex.specs.declared.token.LexError.TheVariants.{BadByte, Unended, Memory}
use Rattle.tv_lex.proofs.Taken.{Takes, front_takes}
use Rattle.tv_lex.proofs.Good.{first_piece}

-- nothing stands at the end of a text
nothing-nil : NothingFits []
unfolding front
nothing-nil kind bytes rest same stands = subst (λ text. Takes (front text) kind (length bytes)) same (front_takes kind bytes rest stands)

-- the piece that fits is the one that the reader takes
fits_kind : (p : Piece) (after text : List ℕ) (r : Result Front LexError) → Fits p after → p.bytes ++ after ≡ text → front text ≡ r → Takes r p.kind (length p.bytes) → (f : Front) × (r ≡ Ok f) × (f.kind ≡ p.kind)
fits_kind p after text (Err e) fits whole is takes = absurd takes
fits_kind p after text (Ok f) fits whole is takes = (f, refl, takes.1 (go p after text f fits whole is takes.0))
  where
    go : (p : Piece) (after text : List ℕ) (f : Front) → Fits p after → p.bytes ++ after ≡ text → front text ≡ Ok f → length p.bytes ≤ f.len → length p.bytes ≡ f.len
    go p after [] f fits whole is le = absurd (nothing-nil p.kind p.bytes after whole fits.stands)
    go p after (b ∷ t) f fits whole is le =
        let first = first_piece (b ∷ t) f (omega arith) is in
        let len : length (take f.len (b ∷ t)) ≡ f.len = length-take-le f.len (b ∷ t) first.bounded in
        let most : length (take f.len (b ∷ t)) ≤ length p.bytes = fits.longest f.kind (take f.len (b ∷ t)) (drop f.len (b ∷ t)) (take-append-drop f.len (b ∷ t) ∙ sym whole) first.fits.stands in
        omega arith

same_first : (p q : Piece) (after behind : List ℕ) → Fits p after → Fits q behind → p.bytes ++ after ≡ q.bytes ++ behind → (p ≡ q) × (after ≡ behind)
same_first p q after behind fits_p fits_q same =
    let le : length q.bytes ≤ length p.bytes = fits_p.longest q.kind q.bytes behind (sym same) fits_q.stands in
    let ge : length p.bytes ≤ length q.bytes = fits_q.longest p.kind p.bytes after same fits_p.stands in
    let n : length q.bytes ≡ length p.bytes = omega arith in
    let bytes : p.bytes ≡ q.bytes = sym (take_at p.bytes after (length p.bytes) refl) ∙ ap (take (length p.bytes)) same ∙ take_at q.bytes behind (length p.bytes) n in
    let rest : after ≡ behind = sym (drop_at p.bytes after (length p.bytes) refl) ∙ ap (drop (length p.bytes)) same ∙ drop_at q.bytes behind (length p.bytes) n in
    let text = p.bytes ++ after in
    let of_p = fits_kind p after text (front text) fits_p refl refl (front_takes p.kind p.bytes after fits_p.stands) in
    let of_q = fits_kind q behind text (front text) fits_q (sym same) refl (subst (λ t. Takes (front t) q.kind (length q.bytes)) (sym same) (front_takes q.kind q.bytes behind fits_q.stands)) in
    let one : Ok of_p.0 ≡ Ok of_q.0 = sym of_p.1 ∙ of_q.1 in
    let front_is : of_p.0 ≡ of_q.0 = cc in
    let kind : p.kind ≡ q.kind = sym of_p.2 ∙ ap (λ (f : Front). f.kind) front_is ∙ of_q.2 in
    ((λ i. record { kind = kind i; bytes = bytes i }), rest)

same_cut : (ps qs : List Piece) (r s : List ℕ) → AllFit ps r → AllFit qs s → NothingFits r → NothingFits s → joined_pieces ps ++ r ≡ joined_pieces qs ++ s → (ps ≡ qs) × (r ≡ s)
same_cut [] [] r s fit_p fit_q end_p end_q same = (refl, same)
same_cut [] (q ∷ qs) r s fit_p fit_q end_p end_q same =
    absurd (end_p q.kind q.bytes (joined_pieces qs ++ s) (sym (append_assoc q.bytes (joined_pieces qs) s) ∙ sym same) fit_q.0.stands)
same_cut (p ∷ ps) [] r s fit_p fit_q end_p end_q same =
    absurd (end_q p.kind p.bytes (joined_pieces ps ++ r) (sym (append_assoc p.bytes (joined_pieces ps) r) ∙ same) fit_p.0.stands)
same_cut (p ∷ ps) (q ∷ qs) r s fit_p fit_q end_p end_q same =
    let first = same_first p q (joined_pieces ps ++ r) (joined_pieces qs ++ s) fit_p.0 fit_q.0 (sym (append_assoc p.bytes (joined_pieces ps) r) ∙ same ∙ append_assoc q.bytes (joined_pieces qs) s) in
    let others = same_cut ps qs r s fit_p.1 fit_q.1 end_p end_q first.1 in
    ((λ i. first.0 i ∷ others.0 i), others.1)

refused_stops : (fault : LexError) (text : List ℕ) → IsRefused fault text → (0 < length text) × NothingFits text
refused_stops BadByte text why = (why.0, why.1)
refused_stops Unended text why = (why.0, why.1)
refused_stops Memory text why = absurd why

same_fault : (e f : LexError) (text : List ℕ) → IsRefused e text → IsRefused f text → e ≡ f
same_fault BadByte BadByte text a b = refl
same_fault BadByte Unended text a b = absurd (a.2 b.2)
same_fault BadByte Memory text a b = absurd b
same_fault Unended BadByte text a b = absurd (b.2 a.2)
same_fault Unended Unended text a b = refl
same_fault Unended Memory text a b = absurd b
same_fault Memory f text a b = absurd a

ends_not : (text : List ℕ) (tokens : List Token) (fault : LexError) → Reads text (Ok tokens) → Reads text (Err fault) → ⊥
ends_not text tokens fault a b =
    let stops = refused_stops fault b.1 b.4 in
    let same = same_cut a.0 b.0 [] b.1 a.1 b.2 nothing-nil stops.1 (append-nil (joined_pieces a.0) ∙ a.2 ∙ sym b.3) in
    let len : 0 ≡ length b.1 = ap (λ (l : List ℕ). length l) same.1 in
    omega (arith, stops.0)

pub one_reading : (text : List ℕ) (a b : Result (List Token) LexError) → Reads text a → Reads text b → a ≡ b
one_reading text (Ok ts) (Ok us) a b =
    let same = same_cut a.0 b.0 [] [] a.1 b.1 nothing-nil nothing-nil (append-nil (joined_pieces a.0) ∙ a.2 ∙ sym b.2 ∙ sym (append-nil (joined_pieces b.0))) in
    ap Ok (a.3 ∙ ap (placed 0) same.0 ∙ sym b.3)
one_reading text (Ok ts) (Err f) a b = absurd (ends_not text ts f a b)
one_reading text (Err e) (Ok us) a b = absurd (ends_not text us e b a)
one_reading text (Err e) (Err f) a b =
    let stops_a = refused_stops e a.1 a.4 in
    let stops_b = refused_stops f b.1 b.4 in
    let same = same_cut a.0 b.0 a.1 b.1 a.2 b.2 stops_a.1 stops_b.1 (a.3 ∙ sym b.3) in
    ap Err (same_fault e f b.1 (subst (IsRefused e) same.1 a.4) b.4)
