-- Parts of a gathered text, while it grows.
use Rattle.std.proofs.Common.{◌≡◌, ℕ, zero, suc, ◌+◌, ◌-◌, ◌<◌, ◌≤◌, List, [], ◌∷◌, ◌++◌, Option, Some, None}
use Rattle.std.proofs.Common.{Bool, true, false, cond, length, map}
use Rattle.std.proofs.Common.{take, drop, min, ap, sym, refl, ◌∙◌, subst, inl, inr, arith, zero-add}
use Rattle.std.proofs.Common.{length-append, append_assoc}
use Rattle.std.specs.Prelude.{◌⊎◌, ◌==◌, ◌&&◌, if◌then◌else◌}
use Rattle.std.specs.List.{list_all, prefix_len}
use Rattle.std.proofs.lemmas.List.{append-nil, take-append-drop, length-map, map-append}
use Rattle.std.proofs.lemmas.List.Sums.{sum_by-append, sum_by-cons}
use Rattle.std.proofs.lemmas.List.Folds.{list_all-append}
use Rattle.std.proofs.lemmas.Bool.{cases_Bool, cond-true, cond-false, not_from_true, not_from_false}
use Rattle.tv_outside.specs.Told.{Held, IsContent, content_of}
use Rattle.tv_lex.specs.Bytes.{stays_on_line}
use Rattle.tv_lex.specs.Gather.{longest_gathered, deepest_include, opens}
use Rattle.tv_lex.specs.Include.{lines_of, includes, include_name, inner_name}
use Rattle.tv_lex.specs.Parts.{line_feeds, is_added, AreParts, HasParts, IsLineBefore, IsMadeOf, IsOpen}
use Rattle.tv_lex.specs.Parts.{PutsTraced, part_name}
use Rattle.tv_lex.specs.Traced.{Traced, InLine, Added, ArePut, byte_of, bytes_of, in_line, numbered_from}
use Rattle.tv_lex.specs.Traced.{traced_below}
use Rattle.tv_lex.specs.Traced.{traced_content, traced_file, traced_include, traced_line, traced_lines}
use Rattle.tv_lex.specs.Traced.{traced_named}
use Rattle.tv_lex.proofs.Numbered.{bytes_in_line, numbered_append, numbered_len}
use Rattle.tv_lex.specs.declared.gatherer.Gathered.{Gathered}
use Rattle.tv_lex.specs.declared.gatherer.Part.{Part}
use Rattle.tv_lex.specs.declared.gatherer.Reading.{Reading}

-- ---- bytes behind a text

abbrev are_added : List Traced → Bool
are_added traced = list_all is_added traced

both_added : (a b : List Traced) → are_added a ≡ true → are_added b ≡ true → are_added (a ++ b) ≡ true
both_added a b at bt = list_all-append is_added a b ∙ (λ i. at i && bt i)

-- three lists, and one more at the end
regrouped : {T : Type 0} (a b c d : List T) → (a ++ (b ++ c)) ++ d ≡ a ++ (b ++ (c ++ d))
regrouped a b c d = append_assoc a (b ++ c) d ∙ ap (λ x. a ++ x) (append_assoc b c d)

feed_more : (at : ℕ) (parts : List Part) (traced : List Traced) → AreParts at parts traced
    → AreParts at parts (traced ++ Added ∷ [])
feed_more at [] traced all = both_added traced (Added ∷ []) all refl
feed_more at (part ∷ parts) traced h = (
  h.0,
  h.1,
  h.2 ++ Added ∷ [],
  ap (λ t. t ++ Added ∷ []) h.3
      ∙ regrouped h.0 (numbered_from (part_name part) part.line h.1) h.2 (Added ∷ []),
  h.4,
  h.5,
  h.6,
  feed_more part.end parts h.2 h.7,
)

part_more : (at : ℕ) (parts : List Part) (traced : List Traced) (part : Part) (bytes : List ℕ)
    → AreParts at parts traced → part.start ≡ at + length traced → part.end ≡ part.start + length bytes
    → AreParts at (parts ++ part ∷ []) (traced ++ numbered_from (part_name part) part.line bytes)
part_more at [] traced part bytes all start end =
    let own = numbered_from (part_name part) part.line bytes in
    (traced, bytes, [], ap (λ x. traced ++ x) (sym (append-nil own)), all, start, end, refl)
part_more at (first ∷ parts) traced part bytes h start end =
    let own = numbered_from (part_name first) first.line h.1 in
    let len : length traced ≡ length h.0 + (length own + length h.2) =
    ap (λ (l : List Traced). length l) h.3 ∙ length-append h.0 (own ++ h.2)
    ∙ ap (λ n. length h.0 + n) (length-append own h.2) in
    let many = numbered_len (part_name first) first.line h.1 in
    let more = numbered_from (part_name part) part.line bytes in (
      h.0,
      h.1,
      h.2 ++ more,
      ap (λ t. t ++ more) h.3 ∙ regrouped h.0 own h.2 more,
      h.4,
      h.5,
      h.6,
      part_more first.end parts h.2 part bytes h.7 (omega (arith, len, many, h.5, h.6, start)) end,
    )

-- ---- a file

no_more : {T : Type 0} (a b : List T) → a ++ b ≡ [] → length a + length b ≡ 0
no_more {T} a b none = sym (length-append a b) ∙ ap (λ (l : List T). length l) none

empty : {T : Type 0} (a : List T) → length a ≡ 0 → a ≡ []
empty [] none = refl
empty (x ∷ xs) none = absurd (omega (arith, none))

-- how long a text is of which the last lines are open
open_len : (name rest : List ℕ) (traced : List Traced) (out : Gathered) (reading : Reading)
    (its : IsOpen name rest traced out reading) → length out.bytes.items ≡ length its.closed + length its.open_lines
open_len name rest traced out reading its =
    let own = numbered_from name reading.first its.open_lines in
    ap (λ (l : List ℕ). length l) (sym its.bytes) ∙ length-map traced byte_of
    ∙ ap (λ (l : List Traced). length l) its.split ∙ length-append its.closed own
    ∙ ap (λ n. length its.closed + n) (numbered_len name reading.first its.open_lines)

pub closed_part : (name rest : List ℕ) (traced : List Traced) (out : Gathered) (reading : Reading) (part : Part)
    → IsOpen name rest traced out reading → part_name part ≡ name → part.line ≡ reading.first
    → part.start ≡ reading.start → part.end ≡ length out.bytes.items
    → AreParts 0 (out.parts.items ++ part ∷ []) traced
closed_part name rest traced out reading part its named line start end =
    let len = open_len name rest traced out reading its in
    let whole : its.closed ++ numbered_from (part_name part) part.line its.open_lines ≡ traced =
    (λ i. its.closed ++ numbered_from (named i) (line i) its.open_lines) ∙ sym its.split in
    subst (AreParts 0 (out.parts.items ++ part ∷ [])) whole
    (part_more 0 out.parts.items its.closed part its.open_lines its.parted (omega (arith, start, its.start))
    (omega (arith, len, end, start, its.start)))

pub nothing_open : (name rest : List ℕ) (traced : List Traced) (out : Gathered) (reading : Reading)
    → IsOpen name rest traced out reading → length out.bytes.items ≤ reading.start
    → AreParts 0 out.parts.items traced
nothing_open name rest traced out reading its le =
    let len = open_len name rest traced out reading its in
    let none : its.open_lines ≡ [] = empty its.open_lines (omega (arith, len, le, its.start)) in
    subst (AreParts 0 out.parts.items)
    (sym (its.split ∙ ap (λ l. its.closed ++ numbered_from name reading.first l) none ∙ append-nil its.closed)) its.parted

-- the number of an open line
here : (line behind : List ℕ) (number said : ℕ) → IsLineBefore behind line → (line ++ behind ≡ []) ⊎ (number ≡ said)
    → number ≡ said
here line behind number said is_line is = elim is [
  | inl none ↦ absurd (omega (arith, no_more line behind none, is_line.some))
  | inr same ↦ same
]

-- and of the line behind it
next_number : (open_lines line behind : List ℕ) (first number : ℕ) → IsLineBefore behind line
    → number ≡ first + line_feeds open_lines
    → (behind ≡ []) ⊎ (number + 1 ≡ first + line_feeds (open_lines ++ line))
next_number open_lines line behind first number is_line is = elim is_line.ends [
  | inl none ↦ inl none
  | inr one ↦
      let sum : line_feeds (open_lines ++ line) ≡ line_feeds open_lines + line_feeds line =
      sum_by-append _ open_lines line in
      inr (omega (arith, is, sum, one))
]

pub line_put : (name line behind : List ℕ) (traced : List Traced) (out more : Gathered) (reading next : Reading)
    → IsLineBefore behind line → IsOpen name (line ++ behind) traced out reading
    → more.bytes.items ≡ out.bytes.items ++ line → more.parts.items ≡ out.parts.items
    → next.start ≡ reading.start → next.first ≡ reading.first → next.number ≡ reading.number + 1
    → IsOpen name behind (traced ++ in_line name reading.number line) more next
line_put name line behind traced out more reading next is_line its grown parts start first number =
    let at = here line behind reading.number (reading.first + line_feeds its.open_lines) is_line its.number in
    let open_bytes = numbered_from name reading.first its.open_lines in
    let all : open_bytes ++ in_line name reading.number line
    ≡ numbered_from name next.first (its.open_lines ++ line) =
    ap (λ l. open_bytes ++ l) (sym (is_line.one name reading.number))
    ∙ ap (λ n. open_bytes ++ numbered_from name n line) at
    ∙ sym (numbered_append name reading.first its.open_lines line)
    ∙ ap (λ n. numbered_from name n (its.open_lines ++ line)) (sym first) in
    record {
      closed = its.closed;
      open_lines = its.open_lines ++ line;
      split = ap (λ t. t ++ in_line name reading.number line) its.split
          ∙ append_assoc its.closed open_bytes (in_line name reading.number line) ∙ ap (λ l. its.closed ++ l) all;
      bytes = map-append byte_of traced (in_line name reading.number line)
          ∙ (λ i. its.bytes i ++ bytes_in_line name reading.number line i) ∙ sym grown;
      parted = subst (λ ps. AreParts 0 ps its.closed) (sym parts) its.parted;
      start = start ∙ its.start;
      number = subst (λ n. (behind ≡ []) ⊎ (n ≡ next.first + line_feeds (its.open_lines ++ line))) (sym number)
          (next_number its.open_lines line behind next.first reading.number is_line
          (at ∙ ap (λ n. n + line_feeds its.open_lines) (sym first)));
    }

pub include_put : (name behind : List ℕ) (traced : List Traced) (more : Gathered) (next : Reading)
    → IsMadeOf traced more → next.start ≡ length more.bytes.items → next.number ≡ next.first
    → IsOpen name behind traced more next
include_put name behind traced more next made start number = record {
  closed = traced;
  open_lines = [];
  split = sym (append-nil traced);
  bytes = made.0;
  parted = made.1;
  start = start ∙ ap (λ (l : List ℕ). length l) (sym made.0) ∙ length-map traced byte_of;
  number = inr (omega (arith, number));
}

-- ---- a line

pub included_line : (held : Held) (name line : List ℕ) (left : ℕ) (reading : Reading) → includes reading.inside line ≡ true
    → traced_line (traced_include (traced_below held left) name) name reading.inside reading.number line
    ≡ traced_include (traced_below held left) name line
included_line held name line left reading hit = cond-true (includes reading.inside line) _ _ hit

pub plain_line : (held : Held) (name line : List ℕ) (left : ℕ) (reading : Reading) → includes reading.inside line ≡ false
    → traced_line (traced_include (traced_below held left) name) name reading.inside reading.number line
    ≡ in_line name reading.number line
plain_line held name line left reading miss = cond-false (includes reading.inside line) _ _ miss

-- ---- an include line

file_is : (held : Held) (left : ℕ) (name : List ℕ)
    → traced_file held left name ≡ traced_content (traced_include (traced_below held left) name) name (content_of held name)
unfolding traced_file
file_is held zero name = refl
file_is held (suc left) name = refl

below_positive : (held : Held) (left : ℕ) (inner : List ℕ) → 0 < left
    → traced_below held left inner ≡ traced_file held (left - 1) inner
below_positive held zero inner h = absurd (omega (arith, h))
below_positive held (suc left) inner h = let e : left ≡ suc left - 1 = omega arith in ap (λ n. traced_file held n inner) e

pub include_traced : (held : Held) (name line written inner : List ℕ) (left : ℕ) → include_name line ≡ Some written
    → 0 < left → inner ≡ inner_name name written
    → traced_include (traced_below held left) name line ≡ traced_file held (left - 1) inner ++ Added ∷ []
include_traced held name line written inner left is some named =
    ap (traced_named (traced_below held left) name) is
    ∙ ap (λ n. traced_below held left n ++ Added ∷ []) (sym named)
    ∙ ap (λ l. l ++ Added ∷ []) (below_positive held left inner some)

-- a line feed behind what was put
pub feed_put : (told : Option Held) (put whole : Held → List Traced) (old mid new : Gathered)
    → PutsTraced told put old mid → ((held : Held) → whole held ≡ put held ++ Added ∷ [])
    → new.bytes.items ≡ mid.bytes.items ++ 10 ∷ [] → new.parts.items ≡ mid.parts.items → PutsTraced told whole old new
feed_put told put whole old mid new puts is grown parts = λ traced made.
    let before = puts traced made in
    let all : traced ++ (before.0 ++ Added ∷ []) ≡ (traced ++ before.0) ++ Added ∷ [] =
    sym (append_assoc traced before.0 (Added ∷ [])) in (
      before.0 ++ Added ∷ [],
      λ held e. ap (λ l. l ++ Added ∷ []) (before.1 held e) ∙ sym (is held),
      (
        ap bytes_of all ∙ map-append byte_of (traced ++ before.0) (Added ∷ [])
            ∙ ap (λ l. l ++ 10 ∷ []) before.2.0 ∙ sym grown,
        subst (AreParts 0 new.parts.items) (sym all)
            (subst (λ ps. AreParts 0 ps ((traced ++ before.0) ++ Added ∷ [])) (sym parts)
            (feed_more 0 mid.parts.items (traced ++ before.0) before.2.1)),
      ),
    )

-- ---- lines of a file

-- some lines of the file stand behind what was there, and these bytes of it are left
pub record IsRead (told : Option Held) (name : List ℕ) (left : ℕ) (traced : List Traced) (rest : List ℕ) (out : Gathered)
    (reading : Reading) : Type 0 where
  pub more : List Traced
  pub whole : (held : Held) → (told ≡ Some held)
      → more ++ traced_lines (traced_include (traced_below held left) name) name reading.inside reading.number (lines_of rest)
      ≡ traced_file held left name
  pub its : IsOpen name rest (traced ++ more) out reading

abbrev pub Reads : Option Held → (name : List ℕ) → (left : ℕ) → (old : Gathered) → (rest : List ℕ) → (out : Gathered)
    → Reading → Type 0
Reads told name left old rest out reading = (traced : List Traced) → IsMadeOf traced old
    → IsRead told name left traced rest out reading

content_is : (told : Option Held) (held : Held) (name content : List ℕ) → told ≡ Some held → IsContent told name content
    → content_of held name ≡ Some content
content_is told held name content e is = subst (λ t. IsContent t name content) e is

pub file_begins : (told : Option Held) (name content : List ℕ) (left : ℕ) (out : Gathered) (reading : Reading)
    → IsContent told name content → reading.inside ≡ false → reading.start ≡ length out.bytes.items
    → reading.first ≡ 1 → reading.number ≡ 1 → Reads told name left out content out reading
file_begins told name content left out reading is inside start first number = λ traced made. record {
  more = [];
  whole = λ held e.
      let included = traced_include (traced_below held left) name in
      (λ i. traced_lines included name (inside i) (number i) (lines_of content))
      ∙ sym (file_is held left name ∙ ap (traced_content included name) (content_is told held name content e is));
  its = subst (λ t. IsOpen name content t out reading) (sym (append-nil traced))
      (include_put name content traced out reading made start (number ∙ sym first));
}

pub line_read : (told mid : Option Held) (name rest line behind : List ℕ) (left : ℕ) (old out more : Gathered)
    (reading next : Reading) → mid ≡ told → rest ≡ line ++ behind → lines_of rest ≡ line ∷ lines_of behind
    → IsLineBefore behind line → next.inside ≡ opens reading.inside line → next.number ≡ reading.number + 1
    → Reads told name left old rest out reading
    → ((b : List ℕ) (traced : List Traced) → IsLineBefore b line → IsOpen name (line ++ b) traced out reading
    → (put : List Traced)
    × ArePut mid (λ held. traced_line (traced_include (traced_below held left) name) name reading.inside reading.number line) put
    × IsOpen name b (traced ++ put) more next)
    → Reads told name left old behind more next
line_read told mid name rest line behind left old out more reading next same split cut is_line inside number before step = λ traced made.
    let was = before traced made in
    let put = step behind (traced ++ was.more) is_line (subst (λ l. IsOpen name l (traced ++ was.more) out reading) split was.its) in
    record {
      more = was.more ++ put.0;
      whole = λ held e.
          let included = traced_include (traced_below held left) name in
          let after = traced_lines included name (opens reading.inside line) (reading.number + 1) (lines_of behind) in
          (λ i. (was.more ++ put.0) ++ traced_lines included name (inside i) (number i) (lines_of behind))
          ∙ append_assoc was.more put.0 after
          ∙ ap (λ l. was.more ++ (l ++ after)) (put.1 held (same ∙ e))
          ∙ ap (λ ls. was.more ++ traced_lines included name reading.inside reading.number ls) (sym cut) ∙ was.whole held e;
      its = subst (λ t. IsOpen name behind t more next) (append_assoc traced was.more put.0) put.2;
    }

-- the whole file is read, and its last lines are put into a part
pub file_put : (told : Option Held) (name rest : List ℕ) (left : ℕ) (old out new : Gathered) (reading : Reading)
    → length rest ≡ 0 → Reads told name left old rest out reading
    → ((b : List ℕ) (traced : List Traced) → IsOpen name b traced out reading → IsMadeOf traced new)
    → PutsTraced told (λ held. traced_file held left name) old new
file_put told name rest left old out new reading zero_left read close = λ traced made.
    let none : rest ≡ [] = empty rest zero_left in
    let was = read traced made in (
      was.more,
      λ held e.
          sym (append-nil was.more)
          ∙ ap (λ l. was.more ++ traced_lines (traced_include (traced_below held left) name) name reading.inside reading.number (lines_of l)) (sym none)
          ∙ was.whole held e,
      close rest (traced ++ was.more) was.its,
    )

-- what a first file puts is the text
pub first_file : (told : Option Held) (name : List ℕ) (old new : Gathered) → IsMadeOf [] old
    → PutsTraced told (λ held. traced_file held deepest_include name) old new → HasParts told name new
first_file told name old new made puts = puts [] made

-- ---- the line in front

abbrev IsCut : List ℕ → ℕ → Type 0
IsCut rest n = (drop n rest ≡ []) ⊎ (line_feeds (take n rest) ≡ 1)

feed_first : (b : ℕ) (xs : List ℕ) (n : ℕ) → n ≡ min (prefix_len stays_on_line (b ∷ xs) + 1) (length (b ∷ xs))
    → (b == 10) ≡ true → IsCut (b ∷ xs) n
feed_first b xs n is feed =
    let none : prefix_len stays_on_line (b ∷ xs) ≡ 0 = cond-false (stays_on_line b) _ _ (not_from_true _ feed) in
    let one : n ≡ 1 = omega (arith, none, is) in
    subst (IsCut (b ∷ xs)) (sym one) (inr (rw feed refl))

one_feed : (b : ℕ) (xs : List ℕ) (n : ℕ) → n ≡ min (prefix_len stays_on_line (b ∷ xs) + 1) (length (b ∷ xs))
    → IsCut (b ∷ xs) n
one_feed b [] n is = elim (cases_Bool (b == 10)) [
  | inl feed ↦ feed_first b [] n is feed
  | inr other ↦
      let more : prefix_len stays_on_line (b ∷ []) ≡ 1 = cond-true (stays_on_line b) _ _ (not_from_false _ other) in
      let one : n ≡ 1 = omega (arith, is, more) in
      subst (IsCut (b ∷ [])) (sym one) (inl refl)
]
one_feed b (c ∷ cs) n is = elim (cases_Bool (b == 10)) [
  | inl feed ↦ feed_first b (c ∷ cs) n is feed
  | inr other ↦
      let more : prefix_len stays_on_line (b ∷ c ∷ cs) ≡ 1 + prefix_len stays_on_line (c ∷ cs) =
      cond-true (stays_on_line b) _ _ (not_from_false _ other) in
      let m = min (prefix_len stays_on_line (c ∷ cs) + 1) (length (c ∷ cs)) in
      let longer : n ≡ suc m = omega (arith, is, more) in
      subst (IsCut (b ∷ c ∷ cs)) (sym longer)
      (elim (one_feed c cs m refl) [
        | inl none ↦ inl none
        | inr one ↦ inr
            (sum_by-cons (λ x. cond (x == 10) 1 0) b (take m (c ∷ cs))
            ∙ ap (λ v. v + line_feeds (take m (c ∷ cs))) (cond-false (b == 10) 1 0 other)
            ∙ zero-add (line_feeds (take m (c ∷ cs))) ∙ one)
      ])
]

taken_some : (n b : ℕ) (xs : List ℕ) → 0 < n → 0 < length (take n (b ∷ xs))
taken_some zero b xs some = absurd (omega (arith, some))
taken_some (suc n) b xs some = omega arith

-- up to its line feed a line has one number
one_line : (name : List ℕ) (number b : ℕ) (xs : List ℕ) (n : ℕ)
    → n ≡ min (prefix_len stays_on_line (b ∷ xs) + 1) (length (b ∷ xs))
    → numbered_from name number (take n (b ∷ xs)) ≡ in_line name number (take n (b ∷ xs))
one_line name number b [] n is =
    let one : n ≡ 1 = omega (arith, is) in
    subst (λ k. numbered_from name number (take k (b ∷ [])) ≡ in_line name number (take k (b ∷ []))) (sym one) refl
one_line name number b (c ∷ cs) n is = elim (cases_Bool (b == 10)) [
  | inl feed ↦
      let none : prefix_len stays_on_line (b ∷ c ∷ cs) ≡ 0 = cond-false (stays_on_line b) _ _ (not_from_true _ feed) in
      let one : n ≡ 1 = omega (arith, none, is) in
      subst (λ k. numbered_from name number (take k (b ∷ c ∷ cs)) ≡ in_line name number (take k (b ∷ c ∷ cs))) (sym one) refl
  | inr other ↦
      let more : prefix_len stays_on_line (b ∷ c ∷ cs) ≡ 1 + prefix_len stays_on_line (c ∷ cs) =
      cond-true (stays_on_line b) _ _ (not_from_false _ other) in
      let m = min (prefix_len stays_on_line (c ∷ cs) + 1) (length (c ∷ cs)) in
      let longer : n ≡ suc m = omega (arith, is, more) in
      subst (λ k. numbered_from name number (take k (b ∷ c ∷ cs)) ≡ in_line name number (take k (b ∷ c ∷ cs))) (sym longer)
      (ap (λ k. InLine name number b ∷ numbered_from name k (take m (c ∷ cs))) (cond-false (b == 10) (number + 1) number other)
      ∙ ap (λ l. InLine name number b ∷ l) (one_line name number c cs m refl))
]

pub line_in_front : (rest line behind : List ℕ) (n : ℕ) → 0 < length rest
    → n ≡ min (prefix_len stays_on_line rest + 1) (length rest) → line ≡ take n rest → behind ≡ drop n rest
    → IsLineBefore behind line
line_in_front [] line behind n some is is_line is_behind = absurd (omega (arith, some))
line_in_front (b ∷ xs) line behind n some is is_line is_behind = record {
  some = subst (λ (l : List ℕ). 0 < length l) (sym is_line) (taken_some n b xs (omega (arith, is)));
  ends = elim (one_feed b xs n is) [
    | inl none ↦ inl (is_behind ∙ none)
    | inr one ↦ inr (ap line_feeds is_line ∙ one)
  ];
  one = λ name number. subst (λ l. numbered_from name number l ≡ in_line name number l) (sym is_line)
      (one_line name number b xs n is);
}

pub rest_is : (rest line behind : List ℕ) (n : ℕ) → line ≡ take n rest → behind ≡ drop n rest → rest ≡ line ++ behind
rest_is rest line behind n is_line is_behind = sym (take-append-drop n rest) ∙ (λ i. sym is_line i ++ sym is_behind i)

pub rest_shorter : (rest line behind : List ℕ) (number next : ℕ) → rest ≡ line ++ behind → 0 < length line
    → next ≡ number + 1 → number + length rest ≤ longest_gathered + 1 → next + length behind ≤ longest_gathered + 1
rest_shorter rest line behind number next split some is le =
    let len : length rest ≡ length line + length behind = ap (λ (l : List ℕ). length l) split ∙ length-append line behind in
    omega (arith, len, some, is, le)
