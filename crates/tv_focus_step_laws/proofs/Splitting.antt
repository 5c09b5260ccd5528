-- What lies above a choice, where one individual more has its set.
use Rattle.std.proofs.Common.{ℕ, ◌≡◌, ◌<◌, ◌≤◌, ◌+◌, ◌-◌, zero, suc, List, [], ◌∷◌, ◌++◌, length, get_or, map}
use Rattle.std.proofs.Common.{replicate, sym, ap, subst, ◌∙◌, ⊎_elim, arith, All, Contains}
use Rattle.std.proofs.Common.{append_assoc}
use Rattle.std.proofs.Common.{length-append}
use Rattle.std.specs.List.{range_with_len}
use Rattle.std.proofs.lemmas.Bool.{cases_lt}
use Rattle.std.proofs.lemmas.List.{append-nil, get_or-replicate, get_or_append_left, get_or-append_right}
use Rattle.std.proofs.lemmas.List.{length-replicate}
use Rattle.std.proofs.lemmas.List.FromFn.{length-range_with_len, get_or-range_with_len}
use Rattle.tv_model.specs.Program.{RuleForm}
use Rattle.tv_embedding_laws.specs.LogicalStructure.{LogicalStructure}
use Rattle.tv_embedding_laws.specs.Embedding.{IsBelow}
use Rattle.tv_structure_form.specs.StructureForm.{StructureForm, IsStructure, copies_from, split}
use Rattle.tv_structure_form.specs.StructureForm.{structure_of}
use Rattle.tv_structure_form.specs.StructureForm.{value_at}
use Rattle.tv_structure_form.specs.StructureForm.{summary_at}
use Rattle.tv_structure_form.proofs.StructureLaws.{drawn_reads}
use Rattle.tv_structure_form.proofs.Library.{AreIndividuals-range, Contains-range, below-range}
use Rattle.tv_focus_laws.specs.Choices.{ChoiceForm, AimForm, VectorSet, copy_of, nobody}
use Rattle.tv_focus_laws.specs.Written.{chosen_table}
use Rattle.tv_focus_laws.proofs.Members.{members-inside}
use Rattle.tv_focus_step_laws.specs.Above.{IsAim, IsSmallChoice, IsBegun, LiesAbove, copies_so_far}
use Rattle.tv_focus_step_laws.specs.Above.{origin_in, parts_at, place_in}
use Rattle.tv_focus_step_laws.proofs.Embedding.{choice-shows}
use Rattle.tv_focus_step_laws.proofs.Laid.{AreLaid, IsFirst, are-laid, counted, first-copy, members_in}
use Rattle.tv_focus_step_laws.proofs.Laid.{more-copies, stands-behind, stands-first}
use Rattle.tv_focus_step_laws.proofs.Moving.{embeds-alike, finer-embeds}

-- ---- what stands below a choice

pub below-inside : (s : StructureForm) (pred : ℕ) (aim : AimForm) (choice : ChoiceForm) → IsAim s pred aim
    → IsSmallChoice s pred aim choice → (u : LogicalStructure)
    → IsBelow u (structure_of (chosen_table s pred aim choice)) → (x : ℕ) → Contains u.individuals x
    → x < length (members_in s choice)
below-inside s pred aim choice is of u below x at =
    below-range (length (members_in s choice)) x
    (subst (λ us. Contains us x) (below.0 ∙ (choice-shows s pred aim choice is of).shows.individuals) at)

pub inside-below : (s : StructureForm) (pred : ℕ) (aim : AimForm) (choice : ChoiceForm) → IsAim s pred aim
    → IsSmallChoice s pred aim choice → (u : LogicalStructure)
    → IsBelow u (structure_of (chosen_table s pred aim choice)) → (x : ℕ) → x < length (members_in s choice)
    → Contains u.individuals x
inside-below s pred aim choice is of u below x lt =
    subst (λ us. Contains us x) (sym (below.0 ∙ (choice-shows s pred aim choice is of).shows.individuals))
    (Contains-range (length (members_in s choice)) x lt)

pub origin-inside : (s : StructureForm) (choice : ChoiceForm) (x : ℕ) → x < length (members_in s choice)
    → origin_in s choice x < s.size
origin-inside s choice x lt =
    below-range s.size (origin_in s choice x) (members-inside (structure_of s).individuals choice x nobody lt)

pub fewer : (begun choice : ChoiceForm) (set : VectorSet) → IsBegun (begun ++ set ∷ []) choice → IsBegun begun choice
fewer begun choice set begins = (set ∷ begins.0, begins.1 ∙ append_assoc begun (set ∷ []) begins.0)

pub one-longer : (begun : ChoiceForm) (set : VectorSet) → length (begun ++ set ∷ []) ≡ length begun + 1
one-longer begun set = length-append begun (set ∷ [])

-- ---- one vector

-- each copy stands where it stood
pub single-place : (s : StructureForm) (pred : ℕ) (aim : AimForm) (choice begun : ChoiceForm) (set : VectorSet)
    → IsSmallChoice s pred aim choice → IsBegun (begun ++ set ∷ []) choice → length set ≡ 1 → (x : ℕ)
    → x < length (members_in s choice) → place_in s choice begun x ≡ place_in s choice (begun ++ set ∷ []) x
single-place s pred aim choice begun set of begins one x lt = same x lt
  where
    laid : AreLaid s choice (length begun) (copies_so_far begun)
    laid = are-laid s choice begun (counted s pred aim choice of) (fewer begun choice set begins)

    next : AreLaid s choice (length (begun ++ set ∷ [])) (copies_so_far (begun ++ set ∷ []))
    next = are-laid s choice (begun ++ set ∷ []) (counted s pred aim choice of) begins

    same : (x : ℕ) → x < length (members_in s choice) → place_in s choice begun x ≡ place_in s choice (begun ++ set ∷ []) x
    same x lt = ⊎_elim
        (λ soon. stands-first s choice begun x laid soon
        ∙ sym (stands-first s choice (begun ++ set ∷ []) x next (omega (arith, soon, more-copies begun set))))
        (λ later. ⊎_elim
        (λ here. stands-behind s choice begun x laid later
        ∙ omega (arith, here, later, one, more-copies begun set, next.before x here, laid.behind x later lt, one-longer begun set)
        ∙ sym (stands-first s choice (begun ++ set ∷ []) x next here))
        (λ behind. stands-behind s choice begun x laid later
        ∙ omega (arith, one, more-copies begun set, next.behind x behind lt, one-longer begun set)
        ∙ sym (stands-behind s choice (begun ++ set ∷ []) x next behind))
        (cases_lt x (copies_so_far (begun ++ set ∷ []))))
        (cases_lt x (copies_so_far begun))

pub singles-above : (rules : List RuleForm) (s : StructureForm) (pred : ℕ) (aim : AimForm)
    (choice begun : ChoiceForm) (set : VectorSet) (c : StructureForm) → IsAim s pred aim
    → IsSmallChoice s pred aim choice → IsBegun (begun ++ set ∷ []) choice → length set ≡ 1
    → LiesAbove rules s pred aim choice begun c → LiesAbove rules s pred aim choice (begun ++ set ∷ []) c
singles-above rules s pred aim choice begun set c is of begins one above u below stable =
    embeds-alike (place_in s choice begun) (place_in s choice (begun ++ set ∷ [])) u (structure_of c)
    (λ x at. single-place s pred aim choice begun set of begins one x
    (below-inside s pred aim choice is of u below x at)) (above u below stable)

-- ---- the copies of a split

ones-copies : (n m : ℕ) (more : List ℕ)
    → copies_from n (replicate m 1 ++ more) ≡ range_with_len n m ++ copies_from (n + m) more
ones-copies n zero more = ap (λ k. copies_from k more) (omega arith)
ones-copies n (suc m) more =
    ap (λ us. n ∷ us) (ones-copies (n + 1) m more)
    ∙ ap (λ k. n ∷ (range_with_len (n + 1) m ++ copies_from k more)) (omega arith)

-- those before, those of the individual, and those behind
abbrev pub copies_at : (at count behind : ℕ) → List ℕ
copies_at at count behind = range_with_len 0 at ++ (replicate count at ++ range_with_len (at + 1) behind)

copies-at : (at count behind : ℕ) → copies_from 0 (parts_at at count behind) ≡ copies_at at count behind
copies-at at count behind =
    ones-copies 0 at (count ∷ replicate behind 1)
    ∙ ap (λ k. range_with_len 0 at ++ (replicate count k ++ copies_from (k + 1) (replicate behind 1))) (omega arith)
    ∙ ap (λ us. range_with_len 0 at ++ (replicate count at ++ us))
    (ap (copies_from (at + 1)) (sym (append-nil (replicate behind 1))) ∙ ones-copies (at + 1) behind []
    ∙ append-nil (range_with_len (at + 1) behind))

pub copies-count : (at count behind : ℕ) → length (copies_from 0 (parts_at at count behind)) ≡ at + count + behind
copies-count at count behind =
    ap length (copies-at at count behind)
    ∙ length-append (range_with_len 0 at) (replicate count at ++ range_with_len (at + 1) behind)
    ∙ omega (
      arith,
      length-range_with_len 0 at,
      length-append (replicate count at) (range_with_len (at + 1) behind),
      length-replicate count at,
      length-range_with_len (at + 1) behind,
    )

abbrev pub back_at : (at count behind : ℕ) → ℕ → ℕ
back_at at count behind j = get_or (copies_from 0 (parts_at at count behind)) j 0

pub back-before : (at count behind j : ℕ) → j < at → back_at at count behind j ≡ j
back-before at count behind j lt =
    ap (λ us. get_or us j 0) (copies-at at count behind)
    ∙ get_or_append_left (range_with_len 0 at) (replicate count at ++ range_with_len (at + 1) behind) 0 j
    (omega (arith, lt, length-range_with_len 0 at))
    ∙ get_or-range_with_len 0 at j 0 lt ∙ omega arith

pub back-on : (at count behind j : ℕ) → at ≤ j → j < at + count → back_at at count behind j ≡ at
back-on at count behind j le lt =
    ap (λ us. get_or us j 0) (copies-at at count behind)
    ∙ get_or-append_right (range_with_len 0 at) (replicate count at ++ range_with_len (at + 1) behind) at j 0
    (length-range_with_len 0 at) le
    ∙ get_or_append_left (replicate count at) (range_with_len (at + 1) behind) 0 (j - at)
    (omega (arith, le, lt, length-replicate count at))
    ∙ get_or-replicate count (j - at) at 0 (omega (arith, le, lt))

pub back-behind : (at count behind j : ℕ) → at + count ≤ j → j < at + count + behind
    → back_at at count behind j + count ≡ j + 1
back-behind at count behind j le lt =
    ap (λ k. k + count)
    (ap (λ us. get_or us j 0) (copies-at at count behind)
    ∙ get_or-append_right (range_with_len 0 at) (replicate count at ++ range_with_len (at + 1) behind) at j 0
    (length-range_with_len 0 at) (omega (arith, le))
    ∙ get_or-append_right (replicate count at) (range_with_len (at + 1) behind) count (j - at) 0
    (length-replicate count at) (omega (arith, le))
    ∙ get_or-range_with_len (at + 1) behind (j - at - count) 0 (omega (arith, le, lt)))
    ∙ omega (arith, le)

-- ---- the split

-- where copies stand in it, and what they come of
pub record IsSplitMore (s : StructureForm) (choice begun : ChoiceForm) (set : VectorSet) (behind : ℕ)
    (c : StructureForm) : Type 0 where
  pub whole : (split c (parts_at (copies_so_far begun) (length set) behind)).size
      ≡ copies_so_far begun + length set + behind
  pub into : (x : ℕ) → x < length (members_in s choice)
      → place_in s choice (begun ++ set ∷ []) x < copies_so_far begun + length set + behind
  pub same : (x : ℕ) → x < length (members_in s choice)
      → back_at (copies_so_far begun) (length set) behind (place_in s choice (begun ++ set ∷ []) x)
      ≡ place_in s choice begun x
  pub onto : (w : ℕ) → w < copies_so_far begun + length set + behind
      → (x : ℕ) × (x < length (members_in s choice)) × (place_in s choice (begun ++ set ∷ []) x ≡ w)

pub split-more : (s : StructureForm) (pred : ℕ) (aim : AimForm) (choice begun : ChoiceForm) (set : VectorSet)
    (behind : ℕ) (c : StructureForm) → IsSmallChoice s pred aim choice → IsBegun (begun ++ set ∷ []) choice
    → length begun + (behind + 1) ≡ s.size → IsSplitMore s choice begun set behind c
split-more s pred aim choice begun set behind c of begins size = record {
  whole = copies-count (copies_so_far begun) (length set) behind;
  into = into;
  same = same;
  onto = onto;
}
  where
    m : ℕ
    m = copies_so_far begun

    back : ℕ → ℕ
    back = back_at (copies_so_far begun) (length set) behind

    count : length choice ≡ s.size
    count = counted s pred aim choice of

    laid : AreLaid s choice (length begun) (copies_so_far begun)
    laid = are-laid s choice begun count (fewer begun choice set begins)

    next : AreLaid s choice (length (begun ++ set ∷ [])) (copies_so_far (begun ++ set ∷ []))
    next = are-laid s choice (begun ++ set ∷ []) count begins

    more : copies_so_far (begun ++ set ∷ []) ≡ copies_so_far begun + length set
    more = more-copies begun set

    longer : length (begun ++ set ∷ []) ≡ length begun + 1
    longer = one-longer begun set

    same : (x : ℕ) → x < length (members_in s choice)
        → back_at (copies_so_far begun) (length set) behind (place_in s choice (begun ++ set ∷ []) x)
        ≡ place_in s choice begun x
    same x lt = ⊎_elim
        (λ here. ap back (stands-first s choice (begun ++ set ∷ []) x next here)
        ∙ ⊎_elim
        (λ soon. back-before m (length set) behind x soon ∙ sym (stands-first s choice begun x laid soon))
        (λ later. back-on m (length set) behind x later (omega (arith, here, more))
        ∙ omega (
          arith,
          later,
          stands-behind s choice begun x laid later,
          next.before x here,
          longer,
          laid.behind x later lt,
        ))
        (cases_lt x (copies_so_far begun)))
        (λ after. let at : place_in s choice (begun ++ set ∷ []) x
        ≡ copies_so_far (begun ++ set ∷ []) + (origin_in s choice x - length (begun ++ set ∷ []))
        = stands-behind s choice (begun ++ set ∷ []) x next after
        in omega (
          arith,
          after,
          more,
          longer,
          at,
          size,
          next.behind x after lt,
          origin-inside s choice x lt,
          stands-behind s choice begun x laid (omega (arith, after, more)),
          back-behind m (length set) behind (place_in s choice (begun ++ set ∷ []) x)
              (omega (arith, at, more))
              (omega (arith, at, more, longer, size, next.behind x after lt, origin-inside s choice x lt)),
        ))
        (cases_lt x (copies_so_far (begun ++ set ∷ [])))

    into : (x : ℕ) → x < length (members_in s choice)
        → place_in s choice (begun ++ set ∷ []) x < copies_so_far begun + length set + behind
    into x lt = ⊎_elim
        (λ here. omega (arith, here, more, stands-first s choice (begun ++ set ∷ []) x next here))
        (λ after. omega (
          arith,
          more,
          longer,
          size,
          stands-behind s choice (begun ++ set ∷ []) x next after,
          next.behind x after lt,
          origin-inside s choice x lt,
        ))
        (cases_lt x (copies_so_far (begun ++ set ∷ [])))

    onto : (w : ℕ) → w < copies_so_far begun + length set + behind
        → (x : ℕ) × (x < length (members_in s choice)) × (place_in s choice (begun ++ set ∷ []) x ≡ w)
    onto w lt = ⊎_elim
        (λ here. (
          w,
          omega (arith, here, next.few),
          stands-first s choice (begun ++ set ∷ []) w next here,
        ))
        (λ after. let a : ℕ = length (begun ++ set ∷ []) + (w - copies_so_far (begun ++ set ∷ []))
        in let first : IsFirst s choice (begun ++ set ∷ []) a
        = first-copy s pred aim choice (begun ++ set ∷ []) of begins a (omega (arith, lt, after, more, longer, size))
        in (
          copy_of (members_in s choice) a,
          first.inside,
          first.place ∙ first.late (omega arith) ∙ omega (arith, after),
        ))
        (cases_lt w (copies_so_far (begun ++ set ∷ [])))

-- values and summaries of the split are those that its copies come of
pub split-values : (c : StructureForm) (at count behind : ℕ) → IsStructure c → (q : ℕ) (tuple : List ℕ)
    → All (Contains (structure_of (split c (parts_at at count behind))).individuals) tuple
    → value_at (split c (parts_at at count behind)) q tuple ≡ value_at c q (map (back_at at count behind) tuple)
split-values c at count behind is q tuple all =
    (drawn_reads c is).values (copies_from 0 (parts_at at count behind)) (split c (parts_at at count behind)).fresh q
    tuple (AreIndividuals-range (split c (parts_at at count behind)).size tuple all)

pub split-summaries : (c : StructureForm) (at count behind : ℕ) → IsStructure c → (w : ℕ)
    → w < (split c (parts_at at count behind)).size
    → summary_at (split c (parts_at at count behind)) w ≡ summary_at c (back_at at count behind w)
split-summaries c at count behind is w lt =
    (drawn_reads c is).summaries (copies_from 0 (parts_at at count behind)) (split c (parts_at at count behind)).fresh w
    lt

pub splits-above : (rules : List RuleForm) (s : StructureForm) (pred : ℕ) (aim : AimForm)
    (choice begun : ChoiceForm) (set : VectorSet) (c : StructureForm) (behind : ℕ) → IsAim s pred aim
    → IsSmallChoice s pred aim choice → IsBegun (begun ++ set ∷ []) choice → IsStructure c
    → length begun + (behind + 1) ≡ s.size → LiesAbove rules s pred aim choice begun c
    → LiesAbove rules s pred aim choice (begun ++ set ∷ [])
    (split c (parts_at (copies_so_far begun) (length set) behind))
splits-above rules s pred aim choice begun set c behind is of begins structure size above u below stable =
    finer-embeds (back_at (copies_so_far begun) (length set) behind) (place_in s choice begun)
    (place_in s choice (begun ++ set ∷ [])) u (structure_of c) (structure_of d) (record {
      into = λ x at. Contains-range d.size (place_in s choice (begun ++ set ∷ []) x)
          (omega (arith, more.into x (inside x at), more.whole));
      onto = λ w at. let there = more.onto w (omega (arith, below-range d.size w at, more.whole))
          in (there.0, inside-below s pred aim choice is of u below there.0 there.1, there.2);
      same = λ x at. more.same x (inside x at);
      values = λ q tuple all. split-values c (copies_so_far begun) (length set) behind structure q tuple all;
      summaries = λ w at. split-summaries c (copies_so_far begun) (length set) behind structure w (below-range d.size w at);
    })
    (above u below stable)
  where
    d : StructureForm
    d = split c (parts_at (copies_so_far begun) (length set) behind)

    more : IsSplitMore s choice begun set behind c
    more = split-more s pred aim choice begun set behind c of begins size

    inside : (x : ℕ) → Contains u.individuals x → x < length (members_in s choice)
    inside x at = below-inside s pred aim choice is of u below x at
