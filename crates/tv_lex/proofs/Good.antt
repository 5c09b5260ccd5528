-- What the reader takes from the front of a text is the longest piece that fits there; where it takes nothing, nothing fits.
use Rattle.std.proofs.Common.{◌≡◌, ℕ, zero, suc, ◌+◌, ◌<◌, ◌≤◌, List, [], ◌∷◌, ◌++◌, ◌⊎◌, Option, Some, None}
use Rattle.std.proofs.Common.{Result, Ok, Err, Bool, true, false, cond, ◌&&◌, ◌||◌, eqb, leb, length, get_or}
use Rattle.std.proofs.Common.{take, drop, map, ap, sym, refl, ◌∙◌, subst, inl, inr, add-zero, arith}
use Rattle.std.proofs.Common.{length-append, get_or-drop, take-append-drop}
use Rattle.std.specs.List.{prefix_len, list_all, list_any}
use Rattle.std.proofs.lemmas.Bool.{and_parts, or_cases, false≢true, cond-true, cond-false, cond_both}
use Rattle.std.proofs.lemmas.Bool.{eqb-true, leb-true, not-true, or_left, or_right, le-leb}
use Rattle.std.proofs.lemmas.List.{take_more, drop_all, get_or_past, length-take-le, get_or_at}
use Rattle.std.proofs.lemmas.List.Sums.{prefix_len-le-length}
use Rattle.tv_lex.specs.Bytes.{is_blank, is_word_byte, is_letter, is_text_byte, stays_on_line}
use Rattle.tv_lex.specs.Pieces.{Stands, Piece, Fits, IsOneOf, IsRunOf, punctuations, single_punctuations}
use Rattle.tv_lex.specs.Pieces.{close_at, IsOpen, NothingFits, IsRefused}
use Rattle.tv_lex.specs.Front.{front, gap, token, is_half, word_front, string_front, block_front}
use Rattle.tv_lex.specs.Front.{comment_front, percent_front, punct_front, is_triple, is_pair, is_single}
use Rattle.tv_lex.specs.declared.front.Front.{Front}
use Rattle.tv_lex.specs.declared.token.TokenKind.TheVariants.{Half, Text, Punct}
use Rattle.tv_lex.specs.declared.token.LexError.{LexError}
use Rattle.tv_lex.specs.declared.token.LexError.TheVariants.{BadByte, Unended, Memory}
use Rattle.tv_lex.proofs.Runs.{prefix_len-append-stop, list_all-take-prefix_len, closes_at}
use Rattle.tv_lex.proofs.Taken.{front_takes, Takes, front-quote, front-slash}

-- what was taken stands there
abbrev pub Good : List ℕ → Result Front LexError → Type 0
Good text (Ok f) = (1 ≤ f.len) × (f.len ≤ length text) × Stands f.kind (take f.len text) (drop f.len text)
Good text (Err BadByte) = Unit {0}
Good text (Err Unended) = IsOpen text
Good text (Err Memory) = ⊥

-- a byte that isn't 0 stands within the text
within : (xs : List ℕ) (i b : ℕ) → get_or xs i 0 ≡ suc b → i < length xs
within [] i b h = cc
within (x ∷ xs) zero b h = omega arith
within (x ∷ xs) (suc i) b h = let inner : i < length xs = within xs i b h in omega arith

good-blank : (b : ℕ) (t : List ℕ) → is_blank b ≡ true → Good (b ∷ t) (gap 1)
good-blank b t h = (omega arith, omega arith, inl (b, refl, h))

-- a run is not empty, and stops within the text
good-run : (p : ℕ → Bool) (b : ℕ) (t : List ℕ) → p b ≡ true → (1 ≤ prefix_len p (b ∷ t)) × IsRunOf p (take (prefix_len p (b ∷ t)) (b ∷ t))
good-run p b t h =
    let len : prefix_len p (b ∷ t) ≡ 1 + prefix_len p t = cond-true (p b) _ _ h in
    let positive : 1 ≤ prefix_len p (b ∷ t) = omega (arith, len) in
    (positive, (omega (arith, positive, length-take-le (prefix_len p (b ∷ t)) (b ∷ t) (prefix_len-le-length p (b ∷ t))), list_all-take-prefix_len p (b ∷ t)))

good-half : (b : ℕ) (t : List ℕ) → is_half (b ∷ t) ≡ true → Good (b ∷ t) (token Half 3)
good-half b t h =
    let parts = and_parts _ _ h in
    let ones = and_parts _ _ parts.0 in
    let rests = and_parts _ _ ones.1 in
    half_at b t (eqb-true b 49 ones.0) (eqb-true _ 47 rests.0) (eqb-true _ 50 rests.1) (not-true _ parts.1)
  where
    half_at : (b : ℕ) (t : List ℕ) → b ≡ 49 → get_or t 0 0 ≡ 47 → get_or t 1 0 ≡ 50 → is_word_byte (get_or t 2 0) ≡ false → Good (b ∷ t) (token Half 3)
    half_at b [] one slash two stop = cc
    half_at b (c ∷ []) one slash two stop = cc
    half_at b (c ∷ d ∷ r) one slash two stop =
        (omega arith, omega arith, ((λ i. one i ∷ (slash i ∷ (two i ∷ []))), stop))

good-word : (b : ℕ) (t : List ℕ) → is_word_byte b ≡ true → Good (b ∷ t) (word_front (b ∷ t))
good-word b t h =
    cond_both (is_half (b ∷ t)) _ _ (Good (b ∷ t)) (λ e. good-half b t e)
    (λ _. let run = good-run is_word_byte b t h in (run.0, prefix_len-le-length is_word_byte (b ∷ t), run.1))

good-string : (t : List ℕ) → Good (34 ∷ t) (string_front t)
good-string t =
    let n = prefix_len is_text_byte t in
    let bound : n ≤ length t = prefix_len-le-length is_text_byte t in
    let inside : list_all is_text_byte (take n t) ≡ true = list_all-take-prefix_len is_text_byte t in
    cond_both (eqb (get_or t n 0) 34) (token Text (n + 2)) _ (Good (34 ∷ t))
    (λ e.
    let quote : get_or t n 0 ≡ 34 = eqb-true (get_or t n 0) 34 e in
    let lt : n < length t = within t n 33 quote in
    let shift : n + 2 ≡ suc (n + 1) = omega arith in
    let cut : take (n + 2) (34 ∷ t) ≡ 34 ∷ take n t ++ 34 ∷ [] =
    ap (λ k. take k (34 ∷ t)) shift ∙ ap (λ l. 34 ∷ l) (take_more t n 0 lt ∙ ap (λ b. take n t ++ b ∷ []) quote) in
    (omega arith, omega arith, (take n t, cut, inside)))
    (λ _. cond_both (leb (length t) n || eqb (get_or t n 0) 10) (Err Unended) (Err BadByte) (Good (34 ∷ t))
    (λ e. inr (
      take n t,
      drop n t,
      ap (λ l. 34 ∷ l) (sym (take-append-drop n t)),
      inside,
      elim (or_cases _ _ e) [
        | inl long ↦ inl (drop_all n t (leb-true _ _ long))
        | inr feed ↦ inr (get_or-drop n t 0 0 ∙ ap (λ k. get_or t k 0) (add-zero n) ∙ eqb-true _ 10 feed)
      ],
    ))
    (λ _. tt))

good-block : (r : List ℕ) (o : Option ℕ) → close_at r ≡ o → Good (47 ∷ 42 ∷ r) (block_front o)
good-block r None h = inl (r, refl, h)
good-block r (Some n) h =
    let closes = closes_at r n h in
    let shift : n + 4 ≡ suc (suc (n + 2)) = omega arith in
    let cut : take (n + 4) (47 ∷ 42 ∷ r) ≡ 47 ∷ 42 ∷ take (n + 2) r = ap (λ k. take k (47 ∷ 42 ∷ r)) shift in
    (omega arith, omega (arith, closes.within), inr (inr (take (n + 2) r, n, cut, closes.same, sym (length-take-le (n + 2) r closes.within))))

good-comment : (t : List ℕ) → Good (47 ∷ t) (comment_front (47 ∷ t))
good-comment [] = tt
good-comment (c ∷ r) =
    cond_both (eqb c 47) _ _ (Good (47 ∷ c ∷ r))
    (λ e.
    let n = prefix_len stays_on_line r in
    let bound : n ≤ length r = prefix_len-le-length stays_on_line r in
    let shift : n + 2 ≡ suc (suc n) = omega arith in
    let cut : take (n + 2) (47 ∷ c ∷ r) ≡ 47 ∷ 47 ∷ take n r = ap (λ k. take k (47 ∷ c ∷ r)) shift ∙ ap (λ b. 47 ∷ b ∷ take n r) (eqb-true c 47 e) in
    (omega arith, omega arith, inr (inl (take n r, cut, list_all-take-prefix_len stays_on_line r))))
    (λ _. cond_both (eqb c 42) _ _ (Good (47 ∷ c ∷ r))
    (λ e. subst (λ b. Good (47 ∷ b ∷ r) (block_front (close_at r))) (sym (eqb-true c 42 e)) (good-block r (close_at r) refl))
    (λ _. tt))

good-percent : (t : List ℕ) → Good (37 ∷ t) (percent_front (37 ∷ t))
good-percent [] = tt
good-percent (c ∷ r) =
    cond_both (eqb c 37) _ _ (Good (37 ∷ c ∷ r))
    (λ e. (omega arith, omega arith, ap (λ b. 37 ∷ b ∷ []) (eqb-true c 37 e)))
    (λ _. cond_both (is_letter c) _ _ (Good (37 ∷ c ∷ r))
    (λ e.
    let run = good-run is_letter c r e in
    let n = prefix_len is_letter (c ∷ r) in
    let bound : n ≤ length (c ∷ r) = prefix_len-le-length is_letter (c ∷ r) in
    let shift : n + 1 ≡ suc n = omega arith in
    let cut : take (n + 1) (37 ∷ c ∷ r) ≡ 37 ∷ take n (c ∷ r) = ap (λ k. take k (37 ∷ c ∷ r)) shift in
    (omega arith, omega arith, (take n (c ∷ r), cut, run.1)))
    (λ _. tt))

one_of_singles : (bs : List ℕ) (a : ℕ) → list_any (λ b. eqb a b) bs ≡ true → IsOneOf (map (λ b. b ∷ []) bs) (a ∷ [])
one_of_singles [] a h = absurd (false≢true h)
one_of_singles (b ∷ bs) a h = elim (or_cases _ _ h) [
  | inl e ↦ inl (ap (λ c. c ∷ []) (eqb-true a b e))
  | inr later ↦ inr (one_of_singles bs a later)
]

three_bytes : (a b c x y z : ℕ) → (eqb a x && (eqb b y && eqb c z)) ≡ true → (a ≡ x) × (b ≡ y) × (c ≡ z)
three_bytes a b c x y z h =
    let first = and_parts (eqb a x) (eqb b y && eqb c z) h in
    let others = and_parts (eqb b y) (eqb c z) first.1 in
    (eqb-true a x first.0, eqb-true b y others.0, eqb-true c z others.1)

two_bytes : (a b x y : ℕ) → (eqb a x && eqb b y) ≡ true → (a ≡ x) × (b ≡ y)
two_bytes a b x y h = let both = and_parts (eqb a x) (eqb b y) h in (eqb-true a x both.0, eqb-true b y both.1)

good_three : (a : ℕ) (t : List ℕ) (x y z : ℕ) → (a ≡ x) × (get_or t 0 0 ≡ suc y) × (get_or t 1 0 ≡ suc z) → IsOneOf punctuations (x ∷ suc y ∷ suc z ∷ []) → Good (a ∷ t) (token Punct 3)
good_three a [] x y z h one = cc
good_three a (b ∷ []) x y z h one = cc
good_three a (b ∷ c ∷ r) x y z h one =
    (omega arith, omega arith, subst (IsOneOf punctuations) (λ i. sym h.0 i ∷ (sym h.1 i ∷ (sym h.2 i ∷ []))) one)

good_two : (a : ℕ) (t : List ℕ) (x y : ℕ) → (a ≡ x) × (get_or t 0 0 ≡ suc y) → IsOneOf punctuations (x ∷ suc y ∷ []) → Good (a ∷ t) (token Punct 2)
good_two a [] x y h one = cc
good_two a (b ∷ r) x y h one = (omega arith, omega arith, subst (IsOneOf punctuations) (λ i. sym h.0 i ∷ (sym h.1 i ∷ [])) one)

good-triple : (a : ℕ) (t : List ℕ) → is_triple a (get_or t 0 0) (get_or t 1 0) ≡ true → Good (a ∷ t) (token Punct 3)
good-triple a t h =
    let b = get_or t 0 0 in
    let c = get_or t 1 0 in
    elim (or_cases (eqb a 61 && (eqb b 61 && eqb c 62)) (eqb a 60 && (eqb b 45 && eqb c 62)) h) [
      | inl e ↦ good_three a t 61 60 61 (three_bytes a b c 61 61 62 e) (inl refl)
      | inr e ↦ good_three a t 60 44 61 (three_bytes a b c 60 45 62 e) (inr (inl refl))
    ]

good-pair : (a : ℕ) (t : List ℕ) → is_pair a (get_or t 0 0) ≡ true → Good (a ∷ t) (token Punct 2)
good-pair a t h =
    let b = get_or t 0 0 in
    elim (or_cases (eqb a 45 && eqb b 62) ((eqb a 61 && eqb b 61) || (eqb a 33 && eqb b 61)) h) [
      | inl e ↦ good_two a t 45 61 (two_bytes a b 45 62 e) (inr (inr (inl refl)))
      | inr e ↦ elim (or_cases (eqb a 61 && eqb b 61) (eqb a 33 && eqb b 61) e) [
        | inl e ↦ good_two a t 61 60 (two_bytes a b 61 61 e) (inr (inr (inr (inl refl))))
        | inr e ↦ good_two a t 33 60 (two_bytes a b 33 61 e) (inr (inr (inr (inr (inl refl)))))
      ]
    ]

good-punct : (a : ℕ) (t : List ℕ) → Good (a ∷ t) (punct_front (a ∷ t))
good-punct a t =
    cond_both (is_triple a (get_or t 0 0) (get_or t 1 0)) _ _ (Good (a ∷ t)) (λ e. good-triple a t e)
    (λ _. cond_both (is_pair a (get_or t 0 0)) _ _ (Good (a ∷ t)) (λ e. good-pair a t e)
    (λ _. cond_both (is_single a) _ _ (Good (a ∷ t))
    (λ e. (omega arith, omega arith, inr (inr (inr (inr (inr (one_of_singles single_punctuations a e)))))))
    (λ _. tt)))

front_good : (text : List ℕ) → 0 < length text → Good text (front text)
unfolding front
front_good [] h = absurd (omega arith)
front_good (b ∷ t) h =
    cond_both (is_blank b) _ _ (Good (b ∷ t)) (λ e. good-blank b t e)
    (λ _. cond_both (is_word_byte b) _ _ (Good (b ∷ t)) (λ e. good-word b t e)
    (λ _. cond_both (eqb b 34) _ _ (Good (b ∷ t)) (λ e. subst (λ c. Good (c ∷ t) (string_front t)) (sym (eqb-true b 34 e)) (good-string t))
    (λ _. cond_both (eqb b 47) _ _ (Good (b ∷ t)) (λ e. subst (λ c. Good (c ∷ t) (comment_front (c ∷ t))) (sym (eqb-true b 47 e)) (good-comment t))
    (λ _. cond_both (eqb b 37) _ _ (Good (b ∷ t)) (λ e. subst (λ c. Good (c ∷ t) (percent_front (c ∷ t))) (sym (eqb-true b 37 e)) (good-percent t))
    (λ _. good-punct b t)))))

-- ---- what the reader takes, as a piece

-- the piece that was taken from the front of a text
abbrev pub taken : Front → List ℕ → Piece
taken f text = record { kind = f.kind; bytes = take f.len text }

pub record IsFirstPiece (f : Front) (text : List ℕ) : Type 0 where
  pub positive : 1 ≤ f.len
  pub bounded : f.len ≤ length text
  pub fits : Fits (taken f text) (drop f.len text)

pub first_piece : (text : List ℕ) (f : Front) → 0 < length text → front text ≡ Ok f → IsFirstPiece f text
first_piece text f nonempty e =
    let good : Good text (Ok f) = subst (Good text) e (front_good text nonempty) in
    let len : length (take f.len text) ≡ f.len = length-take-le f.len text good.1 in
    record {
      positive = good.0;
      bounded = good.1;
      fits = record {
        stands = good.2;
        longest = λ kind bytes rest same stands.
            let whole : bytes ++ rest ≡ text = same ∙ take-append-drop f.len text in
            let takes : Takes (Ok f) kind (length bytes) = subst (λ r. Takes r kind (length bytes)) (ap front whole ∙ e) (front_takes kind bytes rest stands) in
            omega (arith, takes.0, len);
      };
    }

-- where a comment or a string is open the reader says so
string_stops : (xs : List ℕ) → eqb (get_or xs (prefix_len is_text_byte xs) 0) 34 ≡ false → (leb (length xs) (prefix_len is_text_byte xs) || eqb (get_or xs (prefix_len is_text_byte xs) 0) 10) ≡ true → string_front xs ≡ Err Unended
string_stops xs quote stops = cond-false (eqb (get_or xs (prefix_len is_text_byte xs) 0) 34) _ _ quote ∙ cond-true (leb (length xs) (prefix_len is_text_byte xs) || eqb (get_or xs (prefix_len is_text_byte xs) 0) 10) _ _ stops

string_front-open : (inside behind : List ℕ) → list_all is_text_byte inside ≡ true → (behind ≡ []) ⊎ (get_or behind 0 0 ≡ 10) → string_front (inside ++ behind) ≡ Err Unended
string_front-open inside [] all stops =
    let n : prefix_len is_text_byte (inside ++ []) ≡ length inside = prefix_len-append-stop is_text_byte inside [] all refl in
    let len : length (inside ++ []) ≡ length inside + 0 = length-append inside [] in
    let past : get_or (inside ++ []) (prefix_len is_text_byte (inside ++ [])) 0 ≡ 0 = get_or_past (inside ++ []) _ 0 (omega arith) in
    string_stops (inside ++ []) (ap (λ b. eqb b 34) past) (or_left (leb (length (inside ++ [])) _) _ (le-leb _ _ (omega arith)))
string_front-open inside (b ∷ bs) all stops = elim stops [
  | inl e ↦ cc
  | inr feed ↦
      let none : prefix_len is_text_byte (b ∷ bs) ≡ 0 = ap (λ c. cond (is_text_byte c) (1 + prefix_len is_text_byte bs) 0) feed in
      let n : prefix_len is_text_byte (inside ++ b ∷ bs) ≡ length inside = prefix_len-append-stop is_text_byte inside (b ∷ bs) all none in
      let next : get_or (inside ++ b ∷ bs) (prefix_len is_text_byte (inside ++ b ∷ bs)) 0 ≡ 10 = get_or_at inside b bs 0 _ (sym n) ∙ feed in
      string_stops (inside ++ b ∷ bs) (ap (λ c. eqb c 34) next) (or_right (leb (length (inside ++ b ∷ bs)) _) _ (ap (λ c. eqb c 10) next))
]

front-open : (text : List ℕ) → IsOpen text → front text ≡ Err Unended
front-open text unended = elim unended [
  | inl comment ↦ ap front comment.1 ∙ front-slash (42 ∷ comment.0) ∙ ap block_front comment.2
  | inr string ↦ ap front string.2 ∙ front-quote (string.0 ++ string.1) ∙ string_front-open string.0 string.1 string.3 string.4
]

pub refused : (text : List ℕ) (fault : LexError) → 0 < length text → front text ≡ Err fault → IsRefused fault text
refused text fault nonempty e = go fault e (subst (Good text) e (front_good text nonempty))
  where
    nothing : (fault : LexError) → front text ≡ Err fault → NothingFits text
    nothing fault e kind bytes rest same stands = subst (λ r. Takes r kind (length bytes)) (ap front same ∙ e) (front_takes kind bytes rest stands)

    go : (fault : LexError) → front text ≡ Err fault → Good text (Err fault) → IsRefused fault text
    go BadByte e good = (nonempty, nothing BadByte e, λ unended. let same : front text ≡ Err Unended = front-open text unended in cc)
    go Unended e good = (nonempty, nothing Unended e, good)
    go Memory e good = good
