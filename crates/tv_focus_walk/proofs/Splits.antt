-- Individuals that are split.
use Rattle.std.proofs.Common.{ℕ, ◌≡◌, ◌<◌, ◌≤◌, ◌+◌, ◌-◌, zero, suc, List, [], ◌∷◌, ◌++◌, length}
use Rattle.std.proofs.Common.{get_or, map, take}
use Rattle.std.proofs.Common.{sum, refl, sym, ap, subst, ◌∙◌, ⊎_elim, arith, All}
use Rattle.std.proofs.Common.{Contains}
use Rattle.std.proofs.Common.{inl, inr}
use Rattle.std.specs.Prelude.{nat_le}
use Rattle.std.proofs.lemmas.Bool.{cases_lt, cond-true, cond-false, le-leb, lt-leb}
use Rattle.std.proofs.lemmas.List.{length-map, take_all}
use Rattle.std.proofs.lemmas.List.Sums.{sum_by-cons}
use Rattle.std.proofs.lemmas.List.Elements.{All-nil, All-append, All-contains, Contains-get_or}
use Rattle.tv_model.specs.Program.{RuleForm}
use Rattle.tv_stable_laws.specs.Laws.{IsPlainRule}
use Rattle.tv_structure_form.specs.StructureForm.{StructureForm, IsStructure, split, structure_of}
use Rattle.tv_structure_form.proofs.Library.{Contains-range, below-range}
use Rattle.tv_rules.specs.EntryForms.{rules_of}
use Rattle.tv_rules.specs.Standing.{SeesSummaries}
use Rattle.tv_coerce_laws.specs.Split.{IsRuleOfTuples}
use Rattle.tv_coerce_laws.proofs.Splits.{splits_are_stable}
use Rattle.tv_focus_laws.specs.Choices.{AimForm, Alone, Before, Behind, ChoiceForm, VectorSet}
use Rattle.tv_focus.specs.Puts.{set_writes}
use Rattle.tv_focus_step_laws.specs.Above.{IsOfVector, aim_after, anchor_place, copies_so_far, parts_at}
use Rattle.tv_focus_step_laws.specs.Above.{writes_at}
use Rattle.tv_focus_step_laws.proofs.Laid.{anchor-before, anchor-behind}
use Rattle.tv_focus_step_laws.proofs.Splitting.{back_at, back-before, back-on, back-behind, copies-count}
use Rattle.tv_focus_step_laws.proofs.Splitting.{split-values}
use Rattle.tv_focus_walk.specs.declared.since.Since.{Since}
use Rattle.tv_focus_walk.specs.declared.walk.Walk.{Walk}
use Rattle.tv_focus_walk.specs.Walk.{ArePlain, IsBlind, KeepsRest, shifted_aim, shifted_by}

-- ---- anchors

sum-take : (xs : List ℕ) (n : ℕ) → sum (take n xs) ≤ sum xs
sum-take [] zero = omega arith
sum-take [] (suc n) = omega arith
sum-take (x ∷ xs) zero = omega arith
sum-take (x ∷ xs) (suc n) =
    omega (arith, sum_by-cons (λ k. k) x (take n xs), sum_by-cons (λ k. k) x xs, sum-take xs n)

shift-place : (begun : ChoiceForm) (set : VectorSet) (more : ℕ) → length set ≡ more + 1 → (a : ℕ)
    → shifted_by (copies_so_far begun) more (anchor_place begun a) ≡ anchor_place (begun ++ set ∷ []) a
shift-place begun set more count a =
    ⊎_elim
    (λ (lt : length begun < a).
    cond-false (nat_le (anchor_place begun a) (copies_so_far begun)) (anchor_place begun a) (anchor_place begun a + more)
    (lt-leb (anchor_place begun a) (copies_so_far begun) (later lt))
    ∙ omega (arith, count, anchor-behind begun set a lt))
    (λ le.
    cond-true (nat_le (anchor_place begun a) (copies_so_far begun)) (anchor_place begun a) (anchor_place begun a + more)
    (le-leb (anchor_place begun a) (copies_so_far begun) (omega (arith, le, sum-take (map length begun) a)))
    ∙ sym (anchor-before begun set a le))
    (cases_lt (length begun) a)
  where
    later : length begun < a → copies_so_far begun < anchor_place begun a
    later lt = omega (arith, lt, ap sum (take_all a (map length begun) (omega (arith, lt, length-map begun length))))

shift-all : (begun : ChoiceForm) (set : VectorSet) (more : ℕ) → length set ≡ more + 1 → (anchors : List ℕ)
    → map (shifted_by (copies_so_far begun) more) (map (anchor_place begun) anchors)
    ≡ map (anchor_place (begun ++ set ∷ [])) anchors
shift-all begun set more count [] = refl
shift-all begun set more count (a ∷ anchors) =
    ap (λ b. b ∷ map (shifted_by (copies_so_far begun) more) (map (anchor_place begun) anchors))
    (shift-place begun set more count a)
    ∙ ap (λ bs. anchor_place (begun ++ set ∷ []) a ∷ bs) (shift-all begun set more count anchors)

pub shift-aim : (begun : ChoiceForm) (set : VectorSet) (more : ℕ) (aim : AimForm) → length set ≡ more + 1
    → shifted_aim (copies_so_far begun) more (aim_after begun aim) ≡ aim_after (begun ++ set ∷ []) aim
shift-aim begun set more Alone count = refl
shift-aim begun set more (Before anchors) count = ap Before (shift-all begun set more count anchors)
shift-aim begun set more (Behind anchors) count = ap Behind (shift-all begun set more count anchors)

-- ---- rules

pub split-keeps : (w : Walk) (old new : Since) (c : StructureForm) (at count behind : ℕ) → ArePlain w
    → IsStructure c → 1 ≤ count → at + 1 + behind ≡ c.size
    → ((rule : RuleForm) → IsBlind w new rule → IsBlind w old rule × (¬ SeesSummaries rule))
    → KeepsRest w old c new (split c (parts_at at count behind))
split-keeps w old new c at count behind plain is some size blinder rest rule there blind =
    splits_are_stable back (structure_of d) (structure_of c) rule (record {
      into = λ u inside. Contains-range c.size (back u) (into u (omega (arith, below-range d.size u inside, whole)));
      onto = λ u inside. let found = onto u (below-range c.size u inside)
          in (found.0, Contains-range d.size found.0 (omega (arith, found.1, whole)), found.2);
      values = λ q stands tuple all. split-values c at count behind is q tuple all;
    })
    tuples (rest rule there (blinder rule blind).0)
  where
    d : StructureForm
    d = split c (parts_at at count behind)

    back : ℕ → ℕ
    back = back_at at count behind

    whole : (split c (parts_at at count behind)).size ≡ at + count + behind
    whole = copies-count at count behind

    tuples : IsRuleOfTuples rule
    tuples = record {
      of_atoms = record {
        atoms = λ has. (blinder rule blind).1 (inl has);
        unmarked = (All-contains IsPlainRule (rules_of w.closed.now) rule plain there).unmarked;
      };
      differ = λ twice. (blinder rule blind).1 (inr twice);
    }

    into : (u : ℕ) → u < at + count + behind → back_at at count behind u < c.size
    into u lt = ⊎_elim
        (λ soon. omega (arith, soon, size, back-before at count behind u soon))
        (λ later. ⊎_elim
        (λ here. omega (arith, size, back-on at count behind u later here))
        (λ after. omega (arith, size, lt, some, back-behind at count behind u after lt))
        (cases_lt u (at + count)))
        (cases_lt u at)

    onto : (u : ℕ) → u < c.size → (v : ℕ) × (v < at + count + behind) × (back_at at count behind v ≡ u)
    onto u lt = ⊎_elim
        (λ soon. (u, omega (arith, soon), back-before at count behind u soon))
        (λ later. ⊎_elim
        (λ after. (
          u + count - 1,
          omega (arith, lt, size, some, after),
          omega (
            arith,
            some,
            after,
            back-behind at count behind (u + count - 1) (omega (arith, some, after))
                (omega (arith, lt, size, some, after)),
          ),
        ))
        (λ here. (
          at,
          omega (arith, some),
          back-on at count behind at (omega arith) (omega (arith, some)) ∙ omega (arith, here, later),
        ))
        (cases_lt at u))
        (cases_lt u at)

-- ---- what is put for a set

pub set-of_vectors : (aim : AimForm) (at : ℕ) (set : VectorSet) → All (IsOfVector aim at set) (set_writes aim at set)
set-of_vectors aim at [] = All-nil (IsOfVector aim at [])
set-of_vectors aim at (vector ∷ set) =
    All-append (IsOfVector aim at (vector ∷ set)) (writes_at aim at vector) (set_writes aim (at + 1) set)
    (λ k d lt. (
      0,
      omega arith,
      subst (λ p. Contains (writes_at aim p vector) (get_or (writes_at aim at vector) k d)) (omega arith)
          (Contains-get_or (writes_at aim at vector) k d lt),
    ))
    (λ k d lt. let (t, inside, put) = set-of_vectors aim (at + 1) set k d lt in (
      suc t,
      omega (arith, inside),
      subst (λ p. Contains (writes_at aim p (get_or set t [])) (get_or (set_writes aim (at + 1) set) k d)) (omega arith)
          put,
    ))
