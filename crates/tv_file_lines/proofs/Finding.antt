-- The part at a place, and the byte there.
use Rattle.std.proofs.Common.{◌≡◌, ℕ, zero, suc, ◌+◌, ◌-◌, ◌<◌, ◌≤◌, List, [], ◌∷◌, ◌++◌, Some, None}
use Rattle.std.proofs.Common.{Bool, true, false, cond, map}
use Rattle.std.proofs.Common.{length, take, drop, refl, sym, ◌∙◌, ap, subst, inl, inr, arith}
use Rattle.std.proofs.Common.{length-append, append_assoc}
use Rattle.std.specs.Prelude.{find, slice_get, slice_range, ◌==◌, ◌⊎◌, ◌&&◌, if◌then◌else◌}
use Rattle.std.specs.Prelude.{nat_le, nat_lt, IsTrue}
use Rattle.std.specs.List.{list_all}
use Rattle.std.proofs.lemmas.Bool.{and_parts, cases_Bool, cond-true, cond-false, leb-true}
use Rattle.std.proofs.lemmas.Bool.{leb-false, ltb-true, ltb-false}
use Rattle.std.proofs.lemmas.List.{append-nil, length-map, map-append, take-append-le}
use Rattle.std.proofs.lemmas.List.Sums.{sum_by-cons}
use Rattle.std.proofs.lemmas.Option.{same_Some}
use lib.Seq.{drop-append-add}
use Rattle.tv_lex.specs.Parts.{AreParts, IsMadeOf, is_added, line_feeds, part_name}
use Rattle.tv_lex.specs.Traced.{Traced, InLine, Added, byte_of, bytes_of, numbered_from}
use Rattle.tv_lex.specs.declared.gatherer.Gathered.{Gathered}
use Rattle.tv_lex.specs.declared.gatherer.Part.{Part}
use Rattle.tv_lex.proofs.Numbered.{bytes_numbered, next_line, numbered_len}
use Rattle.tv_file_lines.specs.FileLines.{StandsInFile, is_in}

-- ---- a byte of a part

-- behind some bytes the number of the line is greater by their line feeds
at_number : (name : List ℕ) (line : ℕ) (bytes : List ℕ) (rest : List Traced) (k : ℕ) → k < length bytes
    → StandsInFile (numbered_from name line bytes ++ rest) k name (line + line_feeds (take k bytes))
at_number name line [] rest k within = absurd (omega (arith, within))
at_number name line (b ∷ bs) rest zero within = (b, ap (λ n. Some (InLine name n b)) (omega arith))
at_number name line (b ∷ bs) rest (suc k) within =
    let next = if b == 10 then line + 1 else line in
    let more = at_number name next bs rest k (omega (arith, within)) in
    let count : next + line_feeds (take k bs) ≡ line + line_feeds (b ∷ take k bs) =
    next_line b line (line_feeds (take k bs)) ∙ ap (λ n. line + n) (sym (sum_by-cons (λ x. cond (x == 10) 1 0) b (take k bs))) in
    (more.0, more.1 ∙ ap (λ n. Some (InLine name n more.0)) count)

-- behind a front the places begin again
get_behind : (front rest : List Traced) (k : ℕ) → slice_get (front ++ rest) (length front + k) ≡ slice_get rest k
get_behind [] rest k = let none : 0 + k ≡ k = omega arith in ap (slice_get rest) none
get_behind (t ∷ front) rest k =
    let one : length (t ∷ front) + k ≡ suc (length front + k) = omega arith in
    ap (slice_get (t ∷ (front ++ rest))) one ∙ get_behind front rest k

-- a place in a part
here : (front : List Traced) (name : List ℕ) (line : ℕ) (bytes : List ℕ) (rest : List Traced) (start place : ℕ)
    → start ≡ length front → start ≤ place → place < start + length bytes
    → StandsInFile (front ++ (numbered_from name line bytes ++ rest)) place name
    (line + line_feeds (slice_range (bytes_of (front ++ (numbered_from name line bytes ++ rest))) start place))
here front name line bytes rest start place is low high =
    let own = numbered_from name line bytes in
    let whole = front ++ (own ++ rest) in
    let k = place - start in
    let at : place ≡ length front + k = omega (arith, is, low) in
    let within : k < length bytes = omega (arith, low, high) in
    let found = at_number name line bytes rest k within in
    let text : bytes_of whole ≡ bytes_of front ++ (bytes ++ bytes_of rest) =
    map-append byte_of front (own ++ rest)
    ∙ ap (λ l. bytes_of front ++ l) (map-append byte_of own rest ∙ ap (λ l. l ++ bytes_of rest) (bytes_numbered name line bytes)) in
    let begins : start ≡ length (bytes_of front) + 0 = omega (arith, is, length-map front byte_of) in
    let from : drop start (bytes_of whole) ≡ bytes ++ bytes_of rest =
    ap (drop start) text ∙ ap (λ n. drop n (bytes_of front ++ (bytes ++ bytes_of rest))) begins
    ∙ drop-append-add (bytes_of front) (bytes ++ bytes_of rest) 0 in
    let taken : slice_range (bytes_of whole) start place ≡ take k bytes =
    ap (take k) from ∙ take-append-le k bytes (bytes_of rest) (omega (arith, within)) in (
      found.0,
      ap (slice_get whole) at ∙ get_behind front (own ++ rest) k ∙ found.1
          ∙ ap (λ l. Some (InLine name (line + line_feeds l) found.0)) (sym taken),
    )

-- ---- the part at a place

joined_front : (front added own rest : List Traced) → front ++ (added ++ (own ++ rest)) ≡ (front ++ (added ++ own)) ++ rest
joined_front front added own rest =
    ap (λ l. front ++ l) (sym (append_assoc added own rest)) ∙ sym (append_assoc front (added ++ own) rest)

longer : (front added own : List Traced) (at start end : ℕ) → at ≡ length front → start ≡ at + length added
    → end ≡ start + length own → end ≡ length (front ++ (added ++ own))
longer front added own at start end is starts ends =
    omega (arith, is, starts, ends, length-append front (added ++ own), length-append added own)

-- so long are the bytes of a part
part_long : (part : Part) (bytes : List ℕ) → part.end ≡ part.start + length bytes
    → part.end ≡ part.start + length (numbered_from (part_name part) part.line bytes)
part_long part bytes is = is ∙ ap (λ n. part.start + n) (sym (numbered_len (part_name part) part.line bytes))

pub holds_place : (place : ℕ) (part : Part) → IsTrue (is_in place part) → (part.start ≤ place) × (place < part.end)
holds_place place part hit =
    let both = and_parts (nat_le part.start place) (nat_lt place part.end) hit in
    (leb-true part.start place both.0, ltb-true place part.end both.1)

abbrev IsFoundIn : (whole : List Traced) → (place : ℕ) → Part → Type 0
IsFoundIn whole place p =
    StandsInFile whole place (part_name p) (p.line + line_feeds (slice_range (bytes_of whole) p.start place))

found : (whole front traced : List Traced) (at place : ℕ) (parts : List Part) (number : ℕ) (p : Part)
    → whole ≡ front ++ traced → at ≡ length front → AreParts at parts traced → slice_get parts number ≡ Some p
    → IsTrue (is_in place p) → IsFoundIn whole place p
found whole front traced at place [] number p is len h there hit = cc
found whole front traced at place (part ∷ parts) zero p is len h there hit =
    let same : p ≡ part = sym (same_Some part p there) in
    let holds = holds_place place part (subst (λ (q : Part). IsTrue (is_in place q)) same hit) in
    let own = numbered_from (part_name part) part.line h.1 in
    let all : whole ≡ (front ++ h.0) ++ (own ++ h.2) = is ∙ ap (λ t. front ++ t) h.3 ∙ sym (append_assoc front h.0 (own ++ h.2)) in
    subst (λ (q : Part). IsFoundIn whole place q) (sym same)
    (subst (λ w. IsFoundIn w place part) (sym all)
    (here (front ++ h.0) (part_name part) part.line h.1 h.2 part.start place
    (omega (arith, len, h.5, length-append front h.0)) holds.0 (omega (arith, holds.1, h.6))))
found whole front traced at place (part ∷ parts) (suc number) p is len h there hit =
    let own = numbered_from (part_name part) part.line h.1 in
    found whole (front ++ (h.0 ++ own)) h.2 part.end place parts number p
    (is ∙ ap (λ t. front ++ t) h.3 ∙ joined_front front h.0 own h.2)
    (longer front h.0 own at part.start part.end len h.5 (part_long part h.1 h.6)) h.7 there hit

-- with the text's own bytes
pub found_at : (traced : List Traced) (gathered : Gathered) (place number : ℕ) (p : Part) → IsMadeOf traced gathered
    → slice_get gathered.parts.items number ≡ Some p → IsTrue (is_in place p)
    → StandsInFile traced place (part_name p) (p.line + line_feeds (slice_range gathered.bytes.items p.start place))
found_at traced gathered place number p made there hit =
    subst (λ text. StandsInFile traced place (part_name p) (p.line + line_feeds (slice_range text p.start place))) made.0
    (found traced [] traced 0 place gathered.parts.items number p refl refl made.1 there hit)

-- ---- a place in no part

added_in : (added rest : List Traced) (k : ℕ) → list_all is_added added ≡ true → k < length added
    → slice_get (added ++ rest) k ≡ Some Added
added_in [] rest k all within = absurd (omega (arith, within))
added_in (InLine name line byte ∷ added) rest k all within = cc
added_in (Added ∷ added) rest zero all within = refl
added_in (Added ∷ added) rest (suc k) all within = added_in added rest k all (omega (arith, within))

added_at : (whole front added rest : List Traced) (place : ℕ) → whole ≡ front ++ (added ++ rest)
    → list_all is_added added ≡ true → length front ≤ place → place < length front + length added
    → slice_get whole place ≡ Some Added
added_at whole front added rest place is all low high =
    let k = place - length front in
    let at : place ≡ length front + k = omega (arith, low) in
    ap (slice_get whole) at ∙ ap (λ l. slice_get l (length front + k)) is ∙ get_behind front (added ++ rest) k
    ∙ added_in added rest k all (omega (arith, low, high))

outside : (start end place : ℕ) → (nat_le start place && nat_lt place end) ≡ false → (place < start) ⊎ (end ≤ place)
outside start end place miss = by (nat_le start place) refl miss
  where
    by : (b : Bool) → nat_le start place ≡ b → (b && nat_lt place end) ≡ false → (place < start) ⊎ (end ≤ place)
    by true low miss = inr (ltb-false place end miss)
    by false low miss = inl (leb-false start place low)

missed : (whole front traced : List Traced) (at place : ℕ) (parts : List Part)
    → whole ≡ front ++ traced → at ≡ length front → AreParts at parts traced → find (is_in place) parts ≡ None
    → at ≤ place → place < length whole → slice_get whole place ≡ Some Added
missed whole front traced at place [] is len h none low high =
    let all : length whole ≡ length front + length traced =
    ap (λ (l : List Traced). length l) is ∙ length-append front traced in
    added_at whole front traced [] place (is ∙ ap (λ t. front ++ t) (sym (append-nil traced))) h (omega (arith, len, low)) (omega (arith, all, high))
missed whole front traced at place (part ∷ parts) is len h none low high =
    let own = numbered_from (part_name part) part.line h.1 in
    elim (cases_Bool (is_in place part)) [
      | inl hit ↦ absurd (some_none part (sym (cond-true (is_in place part) (Some part) (find (is_in place) parts) hit) ∙ none))
      | inr miss ↦ elim (outside part.start part.end place miss) [
        | inl before ↦
            added_at whole front h.0 (own ++ h.2) place (is ∙ ap (λ t. front ++ t) h.3) h.4 (omega (arith, len, low))
            (omega (arith, len, h.5, before))
        | inr behind ↦
            missed whole (front ++ (h.0 ++ own)) h.2 part.end place parts
            (is ∙ ap (λ t. front ++ t) h.3 ∙ joined_front front h.0 own h.2)
            (longer front h.0 own at part.start part.end len h.5 (part_long part h.1 h.6)) h.7
            (sym (cond-false (is_in place part) (Some part) (find (is_in place) parts) miss) ∙ none) behind high
      ]
    ]
  where
    some_none : (q : Part) → ¬ (Some q ≡ None)
    some_none q e = cc

pub missed_at : (traced : List Traced) (gathered : Gathered) (place : ℕ) → IsMadeOf traced gathered
    → find (is_in place) gathered.parts.items ≡ None → place < length gathered.bytes.items
    → slice_get traced place ≡ Some Added
missed_at traced gathered place made none high =
    let len : length gathered.bytes.items ≡ length traced =
    ap (λ (l : List ℕ). length l) (sym made.0) ∙ length-map traced byte_of in
    missed traced [] traced 0 place gathered.parts.items refl refl made.1 none (omega arith) (omega (arith, len, high))
