-- The values that a structure leaves what leads to its choices.
use Rattle.std.proofs.Common.{ℕ, ◌≡◌, ◌<◌, ◌≤◌, ◌+◌, zero, suc, false, List, [], ◌∷◌, ◌++◌, inl, inr}
use Rattle.std.proofs.Common.{⊎_elim}
use Rattle.std.proofs.Common.{Option, None, Some, length, get_or, map, take, sum, replicate, refl, sym, ap}
use Rattle.std.proofs.Common.{subst}
use Rattle.std.proofs.Common.{◌∙◌, arith, All, Contains}
use Rattle.std.specs.Prelude.{IsTrue}
use Rattle.std.specs.Option.{option_map}
use Rattle.std.proofs.lemmas.Bool.{cases_eq, cases_lt}
use Rattle.std.proofs.lemmas.List.{take_all}
use Rattle.std.proofs.lemmas.List.Sums.{sum_by-cons}
use Rattle.tv_kleene.specs.declared.K3.{K3}
use Rattle.tv_kleene.specs.Kleene.{LiesUnder}
use Rattle.tv_kleene.proofs.Lattice.{LiesUnder-trans}
use Rattle.tv_embedding_laws.specs.Embedding.{IsBelow, IsBelowByValues}
use Rattle.tv_embedding_laws.proofs.EmbeddingLaws.{IsBelow-values}
use Rattle.tv_structure_form.specs.StructureForm.{StructureForm, IsMark, IsStructure, split, structure_of}
use Rattle.tv_structure_form.specs.StructureForm.{value_at}
use Rattle.tv_structure_form.specs.StructureForm.{summary_at}
use Rattle.tv_structure_form.proofs.Library.{Contains-range}
use Rattle.tv_focus_laws.specs.Choices.{ChoiceForm, AimForm, VectorSet, focused_value}
use Rattle.tv_focus_laws.specs.Exact.{ListsAreExact}
use Rattle.tv_focus_laws.specs.Written.{WriteForm, written, places_of}
use Rattle.tv_focus_laws.proofs.Writes.{IsWritten}
use Rattle.tv_focus_step_laws.specs.Above.{IsAim, IsSmallChoice, IsBegun, IsOfVector, LiesUnderAll, aim_after}
use Rattle.tv_focus_step_laws.specs.Above.{anchor_place, copies_so_far, origin_in, parts_at, place_in}
use Rattle.tv_focus_step_laws.proofs.Embedding.{focused-under, vectors-are}
use Rattle.tv_focus_step_laws.proofs.Laid.{IsFirst, anchor-before, anchor-behind, first-copy, members_in}
use Rattle.tv_focus_step_laws.proofs.Moving.{all-into, map-alike, map-both}
use Rattle.tv_focus_step_laws.proofs.Narrowing.{IsGiven, all-vectors, put-or_not}
use Rattle.tv_focus_step_laws.proofs.Splitting.{IsSplitMore, back_at, fewer, single-place, split-more}
use Rattle.tv_focus_step_laws.proofs.Splitting.{split-summaries, split-values}

-- ---- marks

mark-alike : (f g : ℕ → ℕ) (s : StructureForm) (mark : Option ℕ) → IsMark s mark → ((u : ℕ) → u < s.size → f u ≡ g u)
    → option_map f mark ≡ option_map g mark
mark-alike f g s None is same = refl
mark-alike f g s (Some u) is same = ap Some (same u is.0)

mark-itself : (s : StructureForm) (mark : Option ℕ) → mark ≡ option_map (anchor_place []) mark
mark-itself s None = refl
mark-itself s (Some u) = ap Some (omega (arith, ap sum (take_all u [] (omega arith))))

mark-both : (f g : ℕ → ℕ) (mark : Option ℕ) → option_map g (option_map f mark) ≡ option_map (λ u. g (f u)) mark
mark-both f g None = refl
mark-both f g (Some u) = refl

-- ---- the structure itself

pub itself-under : (s : StructureForm) (choice : ChoiceForm) → LiesUnderAll s choice [] s
itself-under s choice = record {
  values = λ q tuple all. subst (λ us. LiesUnder (value_at s q us) (value_at s q (map (origin_in s choice) tuple)))
      (map-alike (λ i. i < length (members_in s choice)) (origin_in s choice) (place_in s choice []) (λ x lt. same x)
      tuple all) (inl refl);
  summaries = λ i lt summary. subst (λ x. IsTrue (summary_at s x)) (sym (same i)) summary;
  mark = mark-itself s s.fresh;
}
  where
    same : (x : ℕ) → origin_in s choice x ≡ place_in s choice [] x
    same x = omega arith

-- ---- one vector

pub single-under : (s : StructureForm) (pred : ℕ) (aim : AimForm) (choice begun : ChoiceForm) (set : VectorSet)
    (c : StructureForm) → IsAim s pred aim → IsSmallChoice s pred aim choice → IsBegun (begun ++ set ∷ []) choice
    → length set ≡ 1 → LiesUnderAll s choice begun c → LiesUnderAll s choice (begun ++ set ∷ []) c
single-under s pred aim choice begun set c is of begins one under = record {
  values = λ q tuple all. subst (λ us. LiesUnder (value_at c q us) (value_at s q (map (origin_in s choice) tuple)))
      (map-alike (λ i. i < length (members_in s choice)) (place_in s choice begun)
      (place_in s choice (begun ++ set ∷ [])) same tuple all) (under.values q tuple all);
  summaries = λ i lt summary.
      under.summaries i lt (subst (λ x. IsTrue (summary_at c x)) (sym (same i lt)) summary);
  mark = under.mark ∙ mark-alike (anchor_place begun) (anchor_place (begun ++ set ∷ [])) s s.fresh is.is.fresh
      (λ u lt. anchored u);
}
  where
    same : (x : ℕ) → x < length (members_in s choice) → place_in s choice begun x ≡ place_in s choice (begun ++ set ∷ []) x
    same x lt = single-place s pred aim choice begun set of begins one x lt

    anchored : (u : ℕ) → anchor_place begun u ≡ anchor_place (begun ++ set ∷ []) u
    anchored u = ⊎_elim
        (λ (lt : length begun < u). omega (arith, one, anchor-behind begun set u lt))
        (λ le. sym (anchor-before begun set u le))
        (cases_lt (length begun) u)

-- ---- a split

ones-before : (at count behind u : ℕ) → u ≤ at → sum (take u (parts_at at count behind)) ≡ u
ones-before at count behind zero le = refl
ones-before zero count behind (suc u) le = absurd (omega (arith, le))
ones-before (suc at) count behind (suc u) le =
    omega (
      arith,
      sum_by-cons (λ n. n) 1 (take u (parts_at at count behind)),
      ones-before at count behind u (omega (arith, le)),
    )

ones-behind : (behind u : ℕ) → u ≤ behind → sum (take u (replicate behind 1)) ≡ u
ones-behind behind zero le = refl
ones-behind zero (suc u) le = absurd (omega (arith, le))
ones-behind (suc behind) (suc u) le =
    omega (arith, sum_by-cons (λ n. n) 1 (take u (replicate behind 1)), ones-behind behind u (omega (arith, le)))

ones-after : (at count behind u : ℕ) → at < u → u ≤ at + behind + 1
    → sum (take u (parts_at at count behind)) + 1 ≡ u + count
ones-after at count behind zero lt le = absurd (omega (arith, lt))
ones-after zero count behind (suc u) lt le =
    omega (arith, sum_by-cons (λ n. n) count (take u (replicate behind 1)), ones-behind behind u (omega (arith, le)))
ones-after (suc at) count behind (suc u) lt le =
    omega (
      arith,
      sum_by-cons (λ n. n) 1 (take u (parts_at at count behind)),
      ones-after at count behind u (omega (arith, lt)) (omega (arith, le)),
    )

pub split-under : (s : StructureForm) (pred : ℕ) (aim : AimForm) (choice begun : ChoiceForm) (set : VectorSet)
    (c : StructureForm) (behind : ℕ) → IsAim s pred aim → IsSmallChoice s pred aim choice
    → IsBegun (begun ++ set ∷ []) choice → IsStructure c → length begun + (behind + 1) ≡ s.size
    → LiesUnderAll s choice begun c
    → LiesUnderAll s choice (begun ++ set ∷ []) (split c (parts_at (copies_so_far begun) (length set) behind))
split-under s pred aim choice begun set c behind is of begins structure size under = record {
  values = λ q tuple all. subst (λ k. LiesUnder k (value_at s q (map (origin_in s choice) tuple)))
      (sym (split-values c m (length set) behind structure q (map place tuple)
      (all-into (λ i. i < length (members_in s choice)) (Contains (structure_of d).individuals) place inside tuple all)
      ∙ ap (value_at c q) (map-both place back tuple
      ∙ map-alike (λ i. i < length (members_in s choice)) (λ x. back (place x)) (place_in s choice begun) more.same
      tuple all)))
      (under.values q tuple all);
  summaries = λ i lt summary. under.summaries i lt (subst IsTrue
      (split-summaries c m (length set) behind structure (place i) (omega (arith, more.into i lt, more.whole))
      ∙ ap (summary_at c) (more.same i lt)) summary);
  mark = ap (option_map (λ p. sum (take p (parts_at m (length set) behind)))) under.mark
      ∙ mark-both (anchor_place begun) (λ p. sum (take p (parts_at m (length set) behind))) s.fresh
      ∙ mark-alike (λ u. sum (take (anchor_place begun u) (parts_at m (length set) behind)))
      (anchor_place (begun ++ set ∷ [])) s s.fresh is.is.fresh anchored;
}
  where
    m : ℕ
    m = copies_so_far begun

    d : StructureForm
    d = split c (parts_at (copies_so_far begun) (length set) behind)

    place : ℕ → ℕ
    place = place_in s choice (begun ++ set ∷ [])

    back : ℕ → ℕ
    back = back_at (copies_so_far begun) (length set) behind

    more : IsSplitMore s choice begun set behind c
    more = split-more s pred aim choice begun set behind c of begins size

    inside : (x : ℕ) → x < length (members_in s choice)
        → Contains (structure_of (split c (parts_at (copies_so_far begun) (length set) behind))).individuals
        (place_in s choice (begun ++ set ∷ []) x)
    inside x lt = Contains-range d.size (place_in s choice (begun ++ set ∷ []) x)
        (omega (arith, more.into x lt, more.whole))

    anchored : (u : ℕ) → u < s.size
        → sum (take (anchor_place begun u) (parts_at (copies_so_far begun) (length set) behind))
        ≡ anchor_place (begun ++ set ∷ []) u
    anchored u lt =
        let first : IsFirst s choice begun u
        = first-copy s pred aim choice begun of (fewer begun choice set begins) u lt
        in ⊎_elim
        (λ early. ones-before m (length set) behind (anchor_place begun u)
        (omega (arith, first.early early, first.before early)) ∙ sym (anchor-before begun set u (omega (arith, early))))
        (λ late. ⊎_elim
        (λ after. omega (
          arith,
          anchor-behind begun set u after,
          ones-after m (length set) behind (anchor_place begun u) (omega (arith, first.late late, after))
              (omega (arith, first.late late, lt, size)),
        ))
        (λ here. ones-before m (length set) behind (anchor_place begun u) (omega (arith, first.late late, here))
        ∙ sym (anchor-before begun set u here))
        (cases_lt (length begun) u))
        (cases_lt u (length begun))

-- ---- vectors

pub vectors-under : ListsAreExact → (s : StructureForm) (pred : ℕ) (aim : AimForm) (choice begun : ChoiceForm) (set : VectorSet)
    (c : StructureForm) (writes : List WriteForm) → IsAim s pred aim → IsSmallChoice s pred aim choice
    → IsBegun (begun ++ set ∷ []) choice → IsWritten c (written c pred writes) pred writes
    → All (IsOfVector (aim_after (begun ++ set ∷ []) aim) (copies_so_far begun) set) writes
    → LiesUnderAll s choice (begun ++ set ∷ []) c → LiesUnderAll s choice (begun ++ set ∷ []) (written c pred writes)
vectors-under exact s pred aim choice begun set c writes is of begins done those under = record {
  values = λ q tuple all. value q tuple all;
  summaries = λ i lt summary. under.summaries i lt
      (sym (ap (λ flags. get_or flags (place_in s choice (begun ++ set ∷ []) i) false) done.summaries) ∙ summary);
  mark = done.fresh ∙ under.mark;
}
  where
    place : ℕ → ℕ
    place = place_in s choice (begun ++ set ∷ [])

    given : (w : WriteForm) → Contains writes w
        → IsGiven s pred aim choice (begun ++ set ∷ []) w × (length w.tuple ≡ places_of aim)
    given = all-vectors s pred aim choice begun set writes is of begins those

    value : (q : ℕ) (tuple : List ℕ) → All (λ i. i < length (members_in s choice)) tuple
        → LiesUnder (value_at (written c pred writes) q (map (place_in s choice (begun ++ set ∷ [])) tuple))
        (value_at s q (map (origin_in s choice) tuple))
    value q tuple all =
        let there : K3 = value_at s q (map (origin_in s choice) tuple)
        in let kept : value_at (written c pred writes) q (map place tuple) ≡ value_at c q (map place tuple)
        → LiesUnder (value_at (written c pred writes) q (map place tuple)) there
        = λ e. subst (λ k. LiesUnder k there) (sym e) (under.values q tuple all)
        in ⊎_elim
        (λ same. ⊎_elim
        (λ (w, at, goes). subst (λ p. LiesUnder (value_at (written c pred writes) p (map place tuple))
        (value_at s p (map (origin_in s choice) tuple))) (sym same)
        (subst (λ k. LiesUnder k (value_at s pred (map (origin_in s choice) tuple)))
        (sym (done.values (map place tuple) (focused_value (structure_of s) pred aim (members_in s choice) tuple) (
          λ v here e. sym ((given v here).0 tuple all (sym e)),
          inl (w, at, goes),
        )))
        (focused-under (structure_of s) pred aim (members_in s choice)
        (vectors-are exact (structure_of s) pred aim choice of.listed) tuple all)))
        (λ none. kept (subst (λ p. value_at (written c pred writes) p (map place tuple) ≡ value_at c p (map place tuple))
        (sym same) (done.values (map place tuple) (value_at c pred (map place tuple)) (
          λ v here e. absurd (none v here e),
          inr refl,
        ))))
        (put-or_not writes (map place tuple)))
        (λ ne. kept (done.others q (map place tuple) ne))
        (cases_eq q pred)

-- ---- coerce

pub below-under : (s : StructureForm) (choice begun : ChoiceForm) (c d : StructureForm)
    → ((x : ℕ) → x < length (members_in s choice) → place_in s choice begun x < d.size)
    → IsBelow (structure_of d) (structure_of c) → d.fresh ≡ c.fresh → LiesUnderAll s choice begun c
    → LiesUnderAll s choice begun d
below-under s choice begun c d inside below mark under = record {
  values = λ q tuple all. LiesUnder-trans (value_at d q (map place tuple)) (value_at c q (map place tuple))
      (value_at s q (map (origin_in s choice) tuple))
      (by.values q (map place tuple) (all-into (λ i. i < length (members_in s choice))
      (Contains (structure_of d).individuals) place (λ x lt. Contains-range d.size (place x) (inside x lt)) tuple all))
      (under.values q tuple all);
  summaries = λ i lt summary. under.summaries i lt
      (by.summaries (place i) (Contains-range d.size (place i) (inside i lt)) summary);
  mark = mark ∙ under.mark;
}
  where
    place : ℕ → ℕ
    place = place_in s choice begun

    by : IsBelowByValues (structure_of d) (structure_of c)
    by = (IsBelow-values (structure_of d) (structure_of c)).0 below
