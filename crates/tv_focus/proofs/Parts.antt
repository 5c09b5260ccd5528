-- How many copies a choice gives each individual, and where they stand.
use Rattle.std.proofs.Common.{ℕ, ◌≡◌, ◌<◌, ◌≤◌, ◌+◌, [], Option, Some, None, ap, ◌∙◌, arith, All, length}
use Rattle.std.proofs.Common.{get_or}
use Rattle.std.specs.Prelude.{slice_get, slice_index, IfSome}
use Rattle.std.specs.List.{range_with_len}
use Rattle.std.proofs.lemmas.List.{length-map, get_or-map}
use Rattle.std.proofs.lemmas.List.FromFn.{length-range_with_len, get_or-range_with_len}
use Rattle.std.proofs.lemmas.List.Elements.{All-map}
use Rattle.std.proofs.lemmas.List.Sums.{sum_by_more, sum_by-take-le}
use Rattle.tv_structure_form.specs.StructureForm.{StructureForm, IsStructure, IsMark, arities_of}
use Rattle.tv_structure_form.specs.StructureForm.{structure_of}
use Rattle.tv_structure_form.specs.StructureForm.{summary_at, split}
use Rattle.tv_structure_form.proofs.OriginLaws.{copies_count}
use Rattle.tv_focus_laws.specs.Choices.{AimForm, Alone, Before, Behind, ChoiceForm}
use Rattle.tv_focus_laws.specs.Tables.{parts_of}
use Rattle.tv_focus_laws.proofs.Splits.{IsWhole, choice-whole}
use Rattle.tv_focus_laws.proofs.ChosenTables.{choice-one}
use Rattle.tv_focus.specs.Anchored.{IsAimOver}
use Rattle.tv_focus.specs.Puts.{copies_in, copy_number, aim_in, AreAimsWithin, IsChoiceOf}

-- what the parts of a choice are
pub record PartsAre (s : StructureForm) (choice : ChoiceForm) : Type 0 where
  pub individuals : length choice ≡ s.size
  pub count : length (parts_of choice) ≡ s.size
  pub sets : All (λ set. 1 ≤ length set) choice
  pub some : All (λ part. 1 ≤ part) (parts_of choice)
  pub fresh : IfSome s.fresh (λ u. slice_index (parts_of choice) u ≡ 1)

pub parts-are : (s : StructureForm) (pred : ℕ) (aim : AimForm) (choice : ChoiceForm) → IsStructure s
    → IsChoiceOf s pred aim choice → PartsAre s choice
parts-are s pred aim choice is of = record {
  individuals = count;
  count = length-map choice length ∙ count;
  sets = whole.some;
  some = All-map (λ part. 1 ≤ part) length choice whole.some;
  fresh = mark s.fresh is.fresh;
}
  where
    whole : IsWhole (structure_of s).individuals choice
    whole = choice-whole (structure_of s) pred aim choice of.listed

    count : length choice ≡ s.size
    count = whole.count ∙ length-range_with_len 0 s.size

    mark : (fresh : Option ℕ) → IsMark s fresh → IfSome fresh (λ u. slice_index (parts_of choice) u ≡ 1)
    mark None known = tt
    mark (Some u) known =
        let here : get_or (range_with_len 0 s.size) u 0 ≡ u = get_or-range_with_len 0 s.size u 0 known.0 ∙ omega arith
        in get_or-map length choice u [] 0 (omega (arith, known.0, count))
        ∙ choice-one (structure_of s) pred aim choice of.listed u (omega (arith, known.0, length-range_with_len 0 s.size))
        (ap (summary_at s) here ∙ known.1)

-- ---- numbers of copies

pub split-size : (s : StructureForm) (choice : ChoiceForm) → (split s (parts_of choice)).size ≡ copies_in choice
split-size s choice = copies_count 0 (parts_of choice)

copy-below : (s : StructureForm) (choice : ChoiceForm) → PartsAre s choice → (a : ℕ) → a < s.size
    → copy_number choice a < copies_in choice
copy-below s choice parts a lt =
    let inside : a < length (parts_of choice) = omega (arith, lt, parts.count)
    in let some : 1 ≤ get_or (parts_of choice) a 0 = parts.some a 0 inside
    in omega (
      arith,
      sum_by_more (λ n. n) (parts_of choice) a 0 inside,
      sum_by-take-le (λ n. n) (parts_of choice) (a + 1),
      some,
    )

-- ---- the aim among the copies

pub aims-within : (s : StructureForm) (pred : ℕ) (aim : AimForm) (choice : ChoiceForm) → PartsAre s choice
    → IsAimOver s pred aim → AreAimsWithin (length choice) aim
aims-within s pred Alone choice parts over = tt
aims-within s pred (Before anchors) choice parts over = λ k d lt. omega (arith, over.1 k d lt, parts.individuals)
aims-within s pred (Behind anchors) choice parts over = λ k d lt. omega (arith, over.1 k d lt, parts.individuals)

pub aim-over : (s t : StructureForm) (pred : ℕ) (aim : AimForm) (choice : ChoiceForm) → PartsAre s choice
    → arities_of t ≡ arities_of s → t.size ≡ copies_in choice → IsAimOver s pred aim → IsAimOver t pred (aim_in choice aim)
aim-over s t pred Alone choice parts same size over = ap (λ xs. slice_get xs pred) same ∙ over
aim-over s t pred (Before anchors) choice parts same size over = (
  ap (λ xs. slice_get xs pred) same ∙ over.0,
  All-map (λ a. a < t.size) (copy_number choice) anchors
      (λ k d lt. omega (arith, copy-below s choice parts (get_or anchors k d) (over.1 k d lt), size)),
)
aim-over s t pred (Behind anchors) choice parts same size over = (
  ap (λ xs. slice_get xs pred) same ∙ over.0,
  All-map (λ a. a < t.size) (copy_number choice) anchors
      (λ k d lt. omega (arith, copy-below s choice parts (get_or anchors k d) (over.1 k d lt), size)),
)
