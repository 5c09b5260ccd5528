-- Where there are few choices, no summary has many values Half.
use Rattle.std.proofs.Common.{ℕ, ◌≡◌, ◌<◌, ◌≤◌, true, arith}
use Rattle.tv_structure_form.specs.StructureForm.{StructureForm, structure_of, summary_at}
use Rattle.tv_structure_form.proofs.Library.{Contains-range}
use Rattle.tv_focus_laws.specs.Choices.{AimForm}
use Rattle.tv_focus_laws.specs.Counts.{AreCounted, halves_at, few_choices, choice_count}
use Rattle.tv_focus_laws.proofs.Counts.{choices_are_counted, few_choices_have_few_halves}

pub few_are : (s : StructureForm) (pred : ℕ) (aim : AimForm) → few_choices (structure_of s) pred aim ≤ 4096
    → choice_count (structure_of s) pred aim ≤ 4096
few_are s pred aim few =
    let counted : AreCounted (structure_of s) pred aim = choices_are_counted (structure_of s) pred aim
    in omega (arith, counted.limited, few)

pub few_halves : (s : StructureForm) (pred : ℕ) (aim : AimForm) → few_choices (structure_of s) pred aim ≤ 4096
    → (u : ℕ) → u < s.size → summary_at s u ≡ true → halves_at (structure_of s) pred aim u ≤ 3
few_halves s pred aim few u lt summary =
    (few_choices_have_few_halves (structure_of s) pred aim (few_are s pred aim few) u (Contains-range s.size u lt)).summary summary
