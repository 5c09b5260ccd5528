-- The text of a row is the texts of its items, joined.
use Rattle.std.proofs.Common.{ℕ, ◌≡◌, ◌≢◌, ◌<◌, ◌≤◌, ◌+◌, ◌-◌, ◌*◌, zero, suc, if◌then◌else◌, cond, ⊎_elim}
use Rattle.std.proofs.Common.{min}
use Rattle.std.proofs.Common.{List, [], ◌∷◌, ◌++◌, map, Some, None, refl, sym, ap, ◌∙◌, arith, length, take}
use Rattle.std.proofs.Common.{subst}
use Rattle.std.proofs.Common.{append_assoc}
use Rattle.std.specs.Prelude.{codes, slice_index_or}
use Rattle.std.specs.List.{flat_map, range_with_len}
use Rattle.std.proofs.lemmas.Bool.{cases_lt, lt-ltb, le-ltb}
use Rattle.std.proofs.lemmas.List.{append-nil, map-append, length-append, get_or_past}
use Rattle.std.proofs.Math.Seq.{take-append_seam}
use Rattle.std.proofs.lemmas.List.FromFn.{length-map-range_with_len, get_or-map-range_with_len}
use Rattle.std.proofs.lemmas.Grind.{flat_map-append}
use Rattle.std.proofs.lemmas.List.Folds.{flat_map-map}
use Rattle.tv_lemmas.proofs.Lists.{flat_map-range}
use Rattle.tv_kleene.specs.declared.K3.{K3}
use Rattle.tv_kleene.specs.declared.K3.TheVariants.{No, Half, Yes}
use Rattle.tv_tvs.specs.Tree.{ItemTree}
use Rattle.tv_tvs.specs.Canonical.{individual, individuals, written_one, written_items, row_items, tuples}
use Rattle.tv_tvs.specs.Canonical.{item_text}
use Rattle.tv_tvs.specs.Canonical.{comma_text, line_text, if_some}
use Rattle.tv_tvs.specs.Rows.{behind, listed_name, row_text, word_text, pair_prefix, single_items, pair_items}
use Rattle.tv_tvs.specs.Rows.{ended_texts, line_front}
use Rattle.tv_row.specs.Bits.{padded, is_certain}
use Rattle.tv_row.proofs.WordOps.{get_or-padded}
use Rattle.tv_tvs.proofs.Written.{turn, singles_written, row_written, rows_written}

-- ---- a walk over the individuals of which something is written

skipped : {X : Type 0} (f : ℕ → List X) (a n : ℕ) → ((c : ℕ) → a ≤ c → c < a + n → f c ≡ [])
    → flat_map f (range_with_len 0 (a + n)) ≡ flat_map f (range_with_len 0 a)
skipped f a zero none = let e : a + 0 ≡ a = omega arith in ap (λ m. flat_map f (range_with_len 0 m)) e
skipped f a (suc n) none =
    let e : a + suc n ≡ a + n + 1 = omega arith
    in ap (λ m. flat_map f (range_with_len 0 m)) e
    ∙ sym (turn f [] (flat_map f (range_with_len 0 (a + n))) 0 (a + n) (a + n) (omega arith) refl)
    ∙ ap (λ t. flat_map f (range_with_len 0 (a + n)) ++ t) (none (a + n) (omega arith) (omega arith))
    ∙ append-nil _ ∙ skipped f a n (λ c from less. none c from (omega (arith, less)))

-- nothing is written of the individuals up to an end
pub none_until : {X : Type 0} (f : ℕ → List X) (from end : ℕ) (text : List X) → from ≤ end
    → ((c : ℕ) → from ≤ c → c < end → f c ≡ []) → text ≡ flat_map f (range_with_len 0 from)
    → text ≡ flat_map f (range_with_len 0 end)
none_until f from end text le none so_far =
    let e : from + (end - from) ≡ end = omega (arith, le)
    in so_far ∙ sym (skipped f from (end - from) (λ c low less. none c low (omega (arith, less, le))))
    ∙ ap (λ m. flat_map f (range_with_len 0 m)) e

-- the next of which something is
pub one_further : {X : Type 0} (f : ℕ → List X) (from u : ℕ) (text : List X) → from ≤ u
    → ((c : ℕ) → from ≤ c → c < u → f c ≡ []) → text ≡ flat_map f (range_with_len 0 from)
    → text ++ f u ≡ flat_map f (range_with_len 0 (u + 1))
one_further f from u text le none so_far =
    turn f [] text 0 u u (omega arith) (none_until f from u text le none so_far)

-- what is written of a word stands behind what is of those before it
word_further : {X : Type 0} (f g : ℕ → List X) (base n : ℕ) → ((i : ℕ) → i < n → g i ≡ f (base + i))
    → flat_map f (range_with_len 0 base) ++ flat_map g (range_with_len 0 n) ≡ flat_map f (range_with_len 0 (base + n))
word_further f g base zero same =
    let e : base ≡ base + 0 = omega arith in append-nil _ ∙ ap (λ m. flat_map f (range_with_len 0 m)) e
word_further f g base (suc n) same =
    let e : suc n ≡ n + 1 = omega arith
    in let e2 : base + n + 1 ≡ base + suc n = omega arith
    in ap (λ m. flat_map f (range_with_len 0 base) ++ flat_map g (range_with_len 0 m)) e
    ∙ ap (λ t. flat_map f (range_with_len 0 base) ++ t) (sym (turn g [] (flat_map g (range_with_len 0 n)) 0 n n (omega arith) refl))
    ∙ sym (append_assoc (flat_map f (range_with_len 0 base)) (flat_map g (range_with_len 0 n)) (g n))
    ∙ ap (λ t. t ++ g n) (word_further f g base n (λ i less. same i (omega (arith, less))))
    ∙ ap (λ t. flat_map f (range_with_len 0 (base + n)) ++ t) (same n (omega arith))
    ∙ turn f [] (flat_map f (range_with_len 0 (base + n))) 0 (base + n) (base + n) (omega arith) refl
    ∙ ap (λ m. flat_map f (range_with_len 0 m)) e2

pub word_behind : (prefix : List ℕ) (values word : List K3) (chunk : ℕ) (initial before text : List ℕ)
    → ((i : ℕ) → i < 64 → slice_index_or word i No ≡ slice_index_or values (64 * chunk + i) No)
    → before ≡ initial ++ flat_map (λ u. behind prefix u (slice_index_or values u No)) (range_with_len 0 (64 * chunk))
    → text ≡ before ++ word_text prefix (64 * chunk) word
    → text ≡ initial ++ flat_map (λ u. behind prefix u (slice_index_or values u No)) (range_with_len 0 (64 * (chunk + 1)))
word_behind prefix values word chunk initial before text same so_far put =
    let f : ℕ → List ℕ = λ u. behind prefix u (slice_index_or values u No)
    in let further : 64 * chunk + 64 ≡ 64 * (chunk + 1) = omega arith
    in put ∙ ap (λ t. t ++ word_text prefix (64 * chunk) word) so_far
    ∙ append_assoc initial (flat_map f (range_with_len 0 (64 * chunk))) (word_text prefix (64 * chunk) word)
    ∙ ap (λ t. initial ++ t) (word_further f (λ i. behind prefix (64 * chunk + i) (slice_index_or word i No)) (64 * chunk) 64
    (λ i less. ap (behind prefix (64 * chunk + i)) (same i less))
    ∙ ap (λ m. flat_map f (range_with_len 0 m)) further)

-- behind the last value nothing is written
pub row_whole : (prefix : List ℕ) (values : List K3) (end : ℕ) (initial text : List ℕ) → length values ≤ end
    → text ≡ initial ++ flat_map (λ u. behind prefix u (slice_index_or values u No)) (range_with_len 0 end)
    → text ≡ initial ++ row_text prefix values
row_whole prefix values end initial text all so_far =
    let f : ℕ → List ℕ = λ u. behind prefix u (slice_index_or values u No)
    in let more : length values + (end - length values) ≡ end = omega (arith, all)
    in so_far ∙ ap (λ t. initial ++ t) (ap (λ m. flat_map f (range_with_len 0 m)) (sym more)
    ∙ skipped f (length values) (end - length values) (λ c low less. ap (behind prefix c) (get_or_past values c No low)))

-- the values of a word that is cut at the last one
pub word_cut : (values word cut : List K3) (first count : ℕ) → length word ≡ 64 → first < length values
    → count ≡ min (length values - first) 64 → cut ≡ padded count word
    → ((i : ℕ) → i < 64 → first + i < length values → slice_index_or word i No ≡ slice_index_or values (first + i) No)
    → (i : ℕ) → i < 64 → slice_index_or cut i No ≡ slice_index_or values (first + i) No
word_cut values word cut first count long some counted is same i low =
    let few : count ≤ 64 = omega (arith, counted)
    in ap (λ ks. slice_index_or ks i No) is ∙ get_or-padded count word i few long low
    ∙ ⊎_elim
    (λ before. ap (λ t. cond t (slice_index_or word i No) No) (lt-ltb i count before)
    ∙ same i low (omega (arith, before, counted, some)))
    (λ after. ap (λ t. cond t (slice_index_or word i No) No) (le-ltb i count after)
    ∙ sym (get_or_past values (first + i) No (omega (arith, after, counted, low))))
    (cases_lt i count)

-- an individual that is put down with its value
pub item_behind : (prefix : List ℕ) (u : ℕ) (k : K3) → k ≢ No
    → prefix ++ (if is_certain k then listed_name u else (individual u ++ codes ":1/2, ")) ≡ behind prefix u k
item_behind prefix u No other = absurd (other refl)
item_behind prefix u Half other = refl
item_behind prefix u Yes other = refl

-- ---- the texts of items

single_text : (u : ℕ) (k : K3) → ended_texts (map item_text (written_one u None k)) ≡ behind [] u k
single_text u No = refl
single_text u Half = append-nil _ ∙ append_assoc (individual u) (codes ":1/2") (codes ", ")
single_text u Yes = append-nil _ ∙ ap (λ t. t ++ codes ", ") (append-nil (individual u))

pair_parts : (a c v : List ℕ)
    → ((a ++ ((codes "->" ++ c) ++ v)) ++ codes ", ") ++ [] ≡ (a ++ codes "->") ++ (c ++ (v ++ codes ", "))
pair_parts a c v =
    append-nil _ ∙ append_assoc a (codes "->" ++ (c ++ v)) (codes ", ")
    ∙ ap (λ t. a ++ (codes "->" ++ t)) (append_assoc c v (codes ", "))
    ∙ sym (append_assoc a (codes "->") (c ++ (v ++ codes ", ")))

pair_text : (u w : ℕ) (k : K3) → ended_texts (map item_text (written_one u (Some w) k)) ≡ behind (pair_prefix u) w k
pair_text u w No = refl
pair_text u w Half = pair_parts (individual u) (individual w) (codes ":1/2")
pair_text u w Yes = pair_parts (individual u) (individual w) []

joined : (g : ℕ → List ItemTree) (f : ℕ → List ℕ) → ((u : ℕ) → ended_texts (map item_text (g u)) ≡ f u)
    → (us : List ℕ) → ended_texts (map item_text (flat_map g us)) ≡ flat_map f us
joined g f same [] = refl
joined g f same (u ∷ us) =
    ap ended_texts (map-append item_text (g u) (flat_map g us))
    ∙ flat_map-append (λ text. text ++ codes ", ") (map item_text (g u)) (map item_text (flat_map g us))
    ∙ (λ i. same u i ++ joined g f same us i)

pub singles_text : (values : List K3) → row_text [] values ≡ ended_texts (map item_text (single_items values))
singles_text values = sym (joined _ _ (λ u. single_text u (slice_index_or values u No)) (range_with_len 0 (length values)))

pub pairs_text : (u : ℕ) (values : List K3)
    → row_text (pair_prefix u) values ≡ ended_texts (map item_text (pair_items u values))
pairs_text u values = sym (joined _ _ (λ w. pair_text u w (slice_index_or values w No)) (range_with_len 0 (length values)))

-- ---- rows of values that are read off

read_back : {X : Type 0} (g : ℕ → K3 → List X) (v : ℕ → K3) (size : ℕ)
    → flat_map (λ u. g u (slice_index_or (map v (range_with_len 0 size)) u No)) (range_with_len 0 (length (map v (range_with_len 0 size))))
    ≡ flat_map (λ u. g u (v u)) (range_with_len 0 size)
read_back g v size =
    ap (λ n. flat_map (λ u. g u (slice_index_or (map v (range_with_len 0 size)) u No)) (range_with_len 0 n))
    (length-map-range_with_len v 0 size)
    ∙ flat_map-range _ _ 0 size (λ k low less. ap (g k) (get_or-map-range_with_len v 0 size k k No (omega (arith, less)) (omega arith)))

pub single_items_of : (value : List ℕ → K3) (size : ℕ)
    → single_items (map (λ u. value (u ∷ [])) (range_with_len 0 size)) ≡ written_items value (tuples 1 size)
single_items_of value size =
    read_back (λ u k. written_one u None k) (λ u. value (u ∷ [])) size ∙ singles_written value size

pub pair_items_of : (value : List ℕ → K3) (size u : ℕ)
    → pair_items u (map (λ w. value (u ∷ w ∷ [])) (range_with_len 0 size)) ≡ row_items value size u
pair_items_of value size u =
    read_back (λ w k. written_one u (Some w) k) (λ w. value (u ∷ w ∷ [])) size ∙ row_written value size u

-- ---- rows in which nothing is possible

none_of : (g : ℕ → K3 → List ItemTree) → ((u : ℕ) → g u No ≡ []) → (values : List K3)
    → ((u : ℕ) → u < length values → slice_index_or values u No ≡ No)
    → flat_map (λ u. g u (slice_index_or values u No)) (range_with_len 0 (length values)) ≡ []
none_of g empty values none =
    sym (none_until (λ u. g u (slice_index_or values u No)) 0 (length values) [] (omega arith)
    (λ c low less. ap (g c) (none c less) ∙ empty c) refl)

pub no_singles : (values : List K3) → ((u : ℕ) → u < length values → slice_index_or values u No ≡ No)
    → single_items values ≡ []
no_singles values none = none_of (λ u k. written_one u None k) (λ u. refl) values none

-- ---- lines

two : length (codes ", ") ≡ 2
two = refl

ended_of : (text : List ℕ) (texts : List (List ℕ)) → ended_texts (text ∷ texts) ≡ comma_text (text ∷ texts) ++ codes ", "
ended_of text [] = append-nil _ ∙ sym (ap (λ t. t ++ codes ", ") (append-nil text))
ended_of text (next ∷ texts) =
    ap (λ t. (text ++ codes ", ") ++ t) (ended_of next texts)
    ∙ append_assoc text (codes ", ") (comma_text (next ∷ texts) ++ codes ", ")
    ∙ sym (append_assoc text (codes ", " ++ comma_text (next ∷ texts)) (codes ", "))

-- the last comma and blank taken away
cut_two : (old text texts : List ℕ) → text ≡ old ++ (texts ++ codes ", ") → take (length text - 2) text ≡ old ++ texts
cut_two old text texts is =
    let whole : text ≡ (old ++ texts) ++ codes ", " = is ∙ sym (append_assoc old texts (codes ", "))
    in let less : length text - 2 ≡ length (old ++ texts)
    = omega (arith, ap length whole, length-append (old ++ texts) (codes ", "), two)
    in ap (λ n. take n text) less ∙ ap (take (length (old ++ texts))) whole ∙ take-append_seam (old ++ texts) (codes ", ")

line_parts : (old name texts : List ℕ) → ((old ++ line_front name) ++ texts) ++ codes "}\n"
    ≡ old ++ (codes "  " ++ (name ++ (codes " = {" ++ ((texts ++ codes "}") ++ codes "\n"))))
line_parts old name texts =
    append_assoc (old ++ line_front name) texts (codes "}\n") ∙ append_assoc old (line_front name) (texts ++ codes "}\n")
    ∙ ap (λ t. old ++ (codes "  " ++ t)) (append_assoc name (codes " = {") (texts ++ codes "}\n")
    ∙ ap (λ t. name ++ (codes " = {" ++ t)) (sym (append_assoc texts (codes "}") (codes "\n"))))

-- what a line is once it is ended, whatever is asked of it
pub line_ended : (old text name : List ℕ) (items : List ItemTree) (start from : ℕ) (Asked : List ℕ → Type 0)
    → start ≡ length old → from ≡ length (old ++ line_front name)
    → text ≡ (old ++ line_front name) ++ ended_texts (map item_text items)
    → (length text ≡ from → Asked (take start text))
    → (from + 2 ≤ length text → Asked (take (length text - 2) text ++ codes "}\n"))
    → Asked (old ++ line_text name (if_some items))
line_ended old text name [] start from Asked begun front_end whole none some =
    let bare : text ≡ old ++ line_front name = whole ∙ append-nil (old ++ line_front name)
    in subst Asked
    (ap (λ n. take n text) begun ∙ ap (take (length old)) bare ∙ take-append_seam old (line_front name) ∙ sym (append-nil old))
    (none (ap length bare ∙ sym front_end))
line_ended old text name (item ∷ items) start from Asked begun front_end whole none some =
    let texts = comma_text (map item_text (item ∷ items))
    in let parted : text ≡ (old ++ line_front name) ++ (texts ++ codes ", ")
    = whole ∙ ap (λ t. (old ++ line_front name) ++ t) (ended_of (item_text item) (map item_text items))
    in let long : from + 2 ≤ length text = omega (
      arith,
      front_end,
      ap length parted,
      length-append (old ++ line_front name) (texts ++ codes ", "),
      length-append texts (codes ", "),
      two,
    )
    in subst Asked (ap (λ t. t ++ codes "}\n") (cut_two (old ++ line_front name) text texts parted) ∙ line_parts old name texts)
    (some long)

-- ---- the names of individuals

pub names_told : (count : ℕ) → flat_map listed_name (range_with_len 0 count) ≡ ended_texts (individuals count)
names_told count = sym (flat_map-map (λ t. t ++ codes ", ") individual (range_with_len 0 count))

pub no_names : (count : ℕ) (old text : List ℕ) → count ≡ 0 → text ≡ old ++ flat_map listed_name (range_with_len 0 count)
    → text ≡ old ++ comma_text (individuals count)
no_names zero old text none is = is
no_names (suc n) old text none is = absurd (omega (arith, none))

pub names_cut : (count : ℕ) (old text : List ℕ) → 0 < count → text ≡ old ++ flat_map listed_name (range_with_len 0 count)
    → take (length text - 2) text ≡ old ++ comma_text (individuals count)
names_cut zero old text some is = absurd (omega (arith, some))
names_cut (suc n) old text some is =
    cut_two old text (comma_text (individuals (suc n)))
    (is ∙ ap (λ t. old ++ t) (names_told (suc n) ∙ ended_of (individual 0) (map individual (range_with_len 1 n))))

-- ---- the rows of a binary predicate, one after the other

abbrev pub rows_so_far : (value : List ℕ → K3) (size count : ℕ) → List ItemTree
rows_so_far value size count = flat_map (row_items value size) (range_with_len 0 count)

one_row_more : (value : List ℕ → K3) (size u : ℕ)
    → rows_so_far value size u ++ row_items value size u ≡ rows_so_far value size (u + 1)
one_row_more value size u = turn (row_items value size) [] (rows_so_far value size u) 0 u u (omega arith) refl

pub pairs_turn : (value : List ℕ → K3) (size u : ℕ) (before out : List ℕ) (row : List K3)
    → row ≡ map (λ w. value (u ∷ w ∷ [])) (range_with_len 0 size)
    → out ≡ before ++ ended_texts (map item_text (rows_so_far value size u))
    → out ++ row_text (pair_prefix u) row ≡ before ++ ended_texts (map item_text (rows_so_far value size (u + 1)))
pairs_turn value size u before out row same so_far =
    let texts : List ItemTree → List ℕ = λ items. ended_texts (map item_text items)
    in let earlier = rows_so_far value size u
    in let next = row_items value size u
    in ap (λ t. out ++ t) (pairs_text u row ∙ ap (λ r. texts (pair_items u r)) same ∙ ap texts (pair_items_of value size u))
    ∙ ap (λ t. t ++ texts next) so_far ∙ append_assoc before (texts earlier) (texts next)
    ∙ ap (λ t. before ++ t) (sym (flat_map-append (λ text. text ++ codes ", ") (map item_text earlier) (map item_text next))
    ∙ ap ended_texts (sym (map-append item_text earlier next)) ∙ ap texts (one_row_more value size u))

pub rows_end : (value : List ℕ → K3) (size count : ℕ) (before out : List ℕ) → count ≡ size
    → out ≡ before ++ ended_texts (map item_text (rows_so_far value size count))
    → out ≡ before ++ ended_texts (map item_text (written_items value (tuples 2 size)))
rows_end value size count before out all so_far =
    so_far ∙ ap (λ n. before ++ ended_texts (map item_text (rows_so_far value size n))) all
    ∙ ap (λ items. before ++ ended_texts (map item_text items)) (rows_written value size)
