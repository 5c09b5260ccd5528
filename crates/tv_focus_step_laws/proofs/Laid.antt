-- How the copies of a choice are laid: those of its first individuals stand first, in order.
use Rattle.std.proofs.Common.{ℕ, ◌≡◌, ◌<◌, ◌≤◌, ◌+◌, ◌-◌, suc, List, [], ◌∷◌, ◌++◌, length, get_or, map, refl}
use Rattle.std.proofs.Common.{sym}
use Rattle.std.proofs.Common.{ap, subst, ◌∙◌, ⊎_elim, arith, All, append_assoc, length-append, take, sum}
use Rattle.std.specs.List.{range_with_len}
use Rattle.std.proofs.lemmas.Bool.{cases_lt}
use Rattle.std.proofs.lemmas.List.{length-map, map-append, get_or-map, get_or_append_left}
use Rattle.std.proofs.lemmas.List.{get_or-append_right}
use Rattle.std.proofs.lemmas.List.{take-append-le, take_all}
use Rattle.std.proofs.lemmas.List.Sums.{sum_by-cons}
use Rattle.std.proofs.lemmas.List.FromFn.{length-range_with_len}
use Rattle.std.proofs.lemmas.List.Elements.{All-nil, All-append, All-map}
use Rattle.tv_kleene.specs.declared.K3.{K3}
use Rattle.tv_structure_form.specs.StructureForm.{StructureForm, structure_of}
use Rattle.tv_focus_laws.specs.Choices.{ChoiceForm, AimForm, MemberForm, VectorSet, members, members_of}
use Rattle.tv_focus_laws.specs.Choices.{member_at}
use Rattle.tv_focus_laws.specs.Choices.{nobody, copy_of}
use Rattle.tv_focus_laws.specs.Tables.{parts_of}
use Rattle.tv_focus_laws.proofs.ChosenTables.{Copies, copies-are}
use Rattle.tv_focus_laws.proofs.Splits.{IsWhole, choice-whole, mark-place}
use Rattle.tv_focus_step_laws.specs.Above.{IsSmallChoice, IsBegun, origin_in, copies_so_far, place_in}
use Rattle.tv_focus_step_laws.specs.Above.{anchor_place}

-- ---- lists

members-append : (n : ℕ) (begun tail : ChoiceForm)
    → members (range_with_len n (length (begun ++ tail))) (begun ++ tail)
    ≡ members (range_with_len n (length begun)) begun ++ members (range_with_len (n + length begun) (length tail)) tail
members-append n [] tail = ap (λ k. members (range_with_len k (length tail)) tail) (omega arith)
members-append n (set ∷ begun) tail =
    let own : List MemberForm = members_of n set
    in let first : List MemberForm = members (range_with_len (n + 1) (length begun)) begun
    in ap (λ ms. own ++ ms) (members-append (n + 1) begun tail)
    ∙ ap (λ k. own ++ (first ++ members (range_with_len k (length tail)) tail)) (omega arith)
    ∙ sym (append_assoc own first (members (range_with_len (n + suc (length begun)) (length tail)) tail))

pub own-count : (n : ℕ) (set : VectorSet) → length (members_of n set) ≡ length set
own-count n set = length-map set (λ (vector : List K3). record { origin = n; vector = vector })

members-count : (n : ℕ) (begun : ChoiceForm)
    → length (members (range_with_len n (length begun)) begun) ≡ copies_so_far begun
members-count n [] = refl
members-count n (set ∷ begun) =
    length-append (members_of n set) (members (range_with_len (n + 1) (length begun)) begun)
    ∙ ap (λ k. k + length (members (range_with_len (n + 1) (length begun)) begun))
    (own-count n set)
    ∙ ap (λ k. length set + k) (members-count (n + 1) begun)
    ∙ sym (sum_by-cons (λ x. x) (length set) (map length begun))

-- the copy is one of so many individuals from the number n on
abbrev pub IsFrom : (n count : ℕ) → MemberForm → Type 0
IsFrom n count m = (n ≤ m.origin) × (m.origin < n + count)

members-range : (n : ℕ) (begun : ChoiceForm)
    → All (IsFrom n (length begun)) (members (range_with_len n (length begun)) begun)
members-range n [] = All-nil (IsFrom n 0)
members-range n (set ∷ begun) =
    All-append (IsFrom n (suc (length begun))) (members_of n set) (members (range_with_len (n + 1) (length begun)) begun)
    (All-map (IsFrom n (suc (length begun))) (λ (vector : List K3). record { origin = n; vector = vector }) set
    (λ k d lt. (omega arith, omega arith)))
    (λ k d lt. let there = members-range (n + 1) begun k d lt in (omega (arith, there.0), omega (arith, there.1)))

-- ---- the copies of a choice

abbrev pub members_in : StructureForm → ChoiceForm → List MemberForm
members_in s choice = members (structure_of s).individuals choice

-- those of the first k individuals are the first m
pub record AreLaid (s : StructureForm) (choice : ChoiceForm) (k m : ℕ) : Type 0 where
  pub few : m ≤ length (members_in s choice)
  pub before : (i : ℕ) → i < m → origin_in s choice i < k
  pub behind : (i : ℕ) → m ≤ i → i < length (members_in s choice) → k ≤ origin_in s choice i

in-order : (s : StructureForm) (choice begun tail : ChoiceForm) → length choice ≡ s.size → choice ≡ begun ++ tail
    → members_in s choice ≡ members (range_with_len 0 (length begun)) begun
    ++ members (range_with_len (length begun) (length tail)) tail
in-order s choice begun tail count is =
    ap (λ n. members (range_with_len 0 n) choice) (sym count)
    ∙ ap (λ c. members (range_with_len 0 (length c)) c) is ∙ members-append 0 begun tail
    ∙ ap (λ n. members (range_with_len 0 (length begun)) begun ++ members (range_with_len n (length tail)) tail)
    (omega arith)

pub are-laid : (s : StructureForm) (choice begun : ChoiceForm) → length choice ≡ s.size → IsBegun begun choice
    → AreLaid s choice (length begun) (copies_so_far begun)
are-laid s choice begun count begins = record {
  few = omega (arith, ap length same, length-append xs ys, members-count 0 begun);
  before = λ i lt.
      let inside : i < length xs = omega (arith, lt, members-count 0 begun)
      in let is : origin_in s choice i ≡ (get_or xs i nobody).origin
      = ap (λ ms. (get_or ms i nobody).origin) same
      ∙ ap (λ (m : MemberForm). m.origin) (get_or_append_left xs ys nobody i inside)
      in omega (arith, is, (members-range 0 begun i nobody inside).1);
  behind = λ i le lt.
      let inside : i - copies_so_far begun < length ys
      = omega (arith, lt, le, ap length same, length-append xs ys, members-count 0 begun)
      in let is : origin_in s choice i ≡ (get_or ys (i - copies_so_far begun) nobody).origin
      = ap (λ ms. (get_or ms i nobody).origin) same
      ∙ ap (λ (m : MemberForm). m.origin)
      (get_or-append_right xs ys (copies_so_far begun) i nobody (members-count 0 begun) le)
      in omega (arith, is, (members-range (length begun) tail (i - copies_so_far begun) nobody inside).0);
}
  where
    tail : ChoiceForm
    tail = begins.0

    xs : List MemberForm
    xs = members (range_with_len 0 (length begun)) begun

    ys : List MemberForm
    ys = members (range_with_len (length begun) (length tail)) tail

    same : members_in s choice ≡ members (range_with_len 0 (length begun)) begun
        ++ members (range_with_len (length begun) (length begins.0)) begins.0
    same = in-order s choice begun tail count begins.1

-- the copies of the individual behind those that it begins with
pub copy-of_set : (s : StructureForm) (choice begun : ChoiceForm) (set : VectorSet) → length choice ≡ s.size
    → IsBegun (begun ++ set ∷ []) choice → (t : ℕ) → t < length set
    → member_at (members_in s choice) (copies_so_far begun + t) ≡ record { origin = length begun; vector = get_or set t [] }
copy-of_set s choice begun set count begins t lt =
    ap (λ ms. get_or ms (copies_so_far begun + t) nobody)
    (in-order s choice begun (set ∷ begins.0) count (begins.1 ∙ append_assoc begun (set ∷ []) begins.0))
    ∙ get_or-append_right xs (members_of (length begun) set ++ zs) (copies_so_far begun) (copies_so_far begun + t) nobody
    (members-count 0 begun) (omega arith)
    ∙ ap (λ i. get_or (members_of (length begun) set ++ zs) i nobody) (omega arith)
    ∙ get_or_append_left (members_of (length begun) set) zs nobody t
    (omega (arith, lt, own-count (length begun) set))
    ∙ get_or-map (λ (vector : List K3). record { origin = length begun; vector = vector }) set t [] nobody lt
  where
    xs : List MemberForm
    xs = members (range_with_len 0 (length begun)) begun

    zs : List MemberForm
    zs = members (range_with_len (length begun + 1) (length begins.0)) begins.0

pub more-copies : (begun : ChoiceForm) (set : VectorSet)
    → copies_so_far (begun ++ set ∷ []) ≡ copies_so_far begun + length set
more-copies [] set = sum_by-cons (λ x. x) (length set) [] ∙ omega arith
more-copies (own ∷ begun) set =
    sum_by-cons (λ x. x) (length own) (map length (begun ++ set ∷ []))
    ∙ ap (λ k. length own + k) (more-copies begun set)
    ∙ omega (arith, sum_by-cons (λ x. x) (length own) (map length begun))

-- ---- where they stand

pub counted : (s : StructureForm) (pred : ℕ) (aim : AimForm) (choice : ChoiceForm)
    → IsSmallChoice s pred aim choice → length choice ≡ s.size
counted s pred aim choice of =
    (choice-whole (structure_of s) pred aim choice of.listed).count ∙ length-range_with_len 0 s.size

pub stands-first : (s : StructureForm) (choice begun : ChoiceForm) (i : ℕ)
    → AreLaid s choice (length begun) (copies_so_far begun) → i < copies_so_far begun → place_in s choice begun i ≡ i
stands-first s choice begun i laid lt = omega (arith, lt, laid.before i lt)

pub stands-behind : (s : StructureForm) (choice begun : ChoiceForm) (i : ℕ)
    → AreLaid s choice (length begun) (copies_so_far begun) → copies_so_far begun ≤ i
    → place_in s choice begun i ≡ copies_so_far begun + (origin_in s choice i - length begun)
stands-behind s choice begun i laid le = omega (arith, le)

-- what is known of an individual's first copy
pub record IsFirst (s : StructureForm) (choice begun : ChoiceForm) (a : ℕ) : Type 0 where
  pub inside : copy_of (members_in s choice) a < length (members_in s choice)
  pub origin : origin_in s choice (copy_of (members_in s choice) a) ≡ a
  pub place : place_in s choice begun (copy_of (members_in s choice) a) ≡ anchor_place begun a
  pub early : a < length begun → anchor_place begun a ≡ copy_of (members_in s choice) a
  pub before : a < length begun → copy_of (members_in s choice) a < copies_so_far begun
  pub late : length begun ≤ a → anchor_place begun a ≡ copies_so_far begun + (a - length begun)

pub first-copy : (s : StructureForm) (pred : ℕ) (aim : AimForm) (choice begun : ChoiceForm)
    → IsSmallChoice s pred aim choice → IsBegun begun choice → (a : ℕ) → a < s.size → IsFirst s choice begun a
first-copy s pred aim choice begun of begins a lt = record {
  inside = copies.inside a lt;
  origin = copies.origin a lt;
  place = ⊎_elim
      (λ few. stands-first s choice begun q laid (soon few) ∙ sym (early few))
      (λ many. stands-behind s choice begun q laid (later many)
      ∙ ap (λ o. copies_so_far begun + (o - length begun)) (copies.origin a lt) ∙ sym (late many))
      (cases_lt a (length begun));
  early = early;
  before = soon;
  late = late;
}
  where
    q : ℕ
    q = copy_of (members_in s choice) a

    copies : Copies s (members_in s choice)
    copies = copies-are s pred aim choice of.listed

    whole : IsWhole (structure_of s).individuals choice
    whole = choice-whole (structure_of s) pred aim choice of.listed

    count : length choice ≡ s.size
    count = counted s pred aim choice of

    laid : AreLaid s choice (length begun) (copies_so_far begun)
    laid = are-laid s choice begun count begins

    soon : a < length begun → copy_of (members_in s choice) a < copies_so_far begun
    soon few = ⊎_elim (λ yes. yes)
        (λ no. absurd (omega (arith, few, laid.behind q no (copies.inside a lt), copies.origin a lt)))
        (cases_lt q (copies_so_far begun))

    later : length begun ≤ a → copies_so_far begun ≤ copy_of (members_in s choice) a
    later many = ⊎_elim
        (λ yes. absurd (omega (arith, many, laid.before q yes, copies.origin a lt)))
        (λ no. no)
        (cases_lt q (copies_so_far begun))

    at : copy_of (members_in s choice) a ≡ sum (take a (parts_of choice))
    at = subst (λ n. copy_of (members (range_with_len 0 n) choice) a ≡ sum (take a (parts_of choice))) count
        (mark-place choice 0 a a (omega arith) (omega (arith, count, lt)) whole.some)

    early : a < length begun → anchor_place begun a ≡ copy_of (members_in s choice) a
    early few =
        let parts : take a (parts_of choice) ≡ take a (parts_of begun)
        = ap (λ c. take a (parts_of c)) begins.1 ∙ ap (take a) (map-append length begun begins.0)
        ∙ take-append-le a (parts_of begun) (parts_of begins.0) (omega (arith, few, length-map begun length))
        in omega (arith, few, at, ap sum parts)

    late : length begun ≤ a → anchor_place begun a ≡ copies_so_far begun + (a - length begun)
    late many = ap (λ parts. sum parts + (a - length begun))
        (take_all a (parts_of begun) (omega (arith, many, length-map begun length)))

-- only copies of an individual stand where its first copy does
pub comes-back : (s : StructureForm) (pred : ℕ) (aim : AimForm) (choice begun : ChoiceForm)
    → IsSmallChoice s pred aim choice → IsBegun begun choice → (a : ℕ) → a < s.size → (j : ℕ)
    → j < length (members_in s choice) → place_in s choice begun j ≡ anchor_place begun a → origin_in s choice j ≡ a
comes-back s pred aim choice begun of begins a lt j inside goes =
    let laid : AreLaid s choice (length begun) (copies_so_far begun)
    = are-laid s choice begun (counted s pred aim choice of) begins
    in let first : IsFirst s choice begun a = first-copy s pred aim choice begun of begins a lt
    in ⊎_elim
    (λ soon. ⊎_elim
    (λ few. ap (origin_in s choice)
    (omega (arith, goes, stands-first s choice begun j laid soon, first.early few)) ∙ first.origin)
    (λ many. absurd (omega (arith, goes, soon, stands-first s choice begun j laid soon, first.late many)))
    (cases_lt a (length begun)))
    (λ later. ⊎_elim
    (λ few. absurd (omega (arith, goes, later, stands-behind s choice begun j laid later, first.early few, first.before few)))
    (λ many. omega (arith, goes, many, laid.behind j later inside, stands-behind s choice begun j laid later, first.late many))
    (cases_lt a (length begun)))
    (cases_lt j (copies_so_far begun))

-- ---- one set more

pub anchor-before : (begun : ChoiceForm) (set : VectorSet) (a : ℕ) → a ≤ length begun
    → anchor_place (begun ++ set ∷ []) a ≡ anchor_place begun a
anchor-before begun set a le =
    omega (
      arith,
      le,
      length-append begun (set ∷ []),
      ap sum (ap (take a) (map-append length begun (set ∷ []))
          ∙ take-append-le a (parts_of begun) (length set ∷ []) (omega (arith, le, length-map begun length))),
    )

pub anchor-behind : (begun : ChoiceForm) (set : VectorSet) (a : ℕ) → length begun < a
    → anchor_place (begun ++ set ∷ []) a + 1 ≡ anchor_place begun a + length set
anchor-behind begun set a lt =
    omega (
      arith,
      lt,
      length-append begun (set ∷ []),
      more-copies begun set,
      ap sum (take_all a (parts_of (begun ++ set ∷ [])) (omega (
        arith,
        lt,
        length-append begun (set ∷ []),
        length-map (begun ++ set ∷ []) length,
      ))),
      ap sum (take_all a (parts_of begun) (omega (arith, lt, length-map begun length))),
    )
