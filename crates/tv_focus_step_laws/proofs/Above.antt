-- What leads to a choice.
use Rattle.std.proofs.Common.{ℕ, ◌≡◌, ◌<◌, ◌∙◌, ◌+◌, ◌-◌, zero, suc, eqb, List, [], ◌∷◌, inl, ⊎_elim, Option}
use Rattle.std.proofs.Common.{None, Some, length}
use Rattle.std.proofs.Common.{get_or, map, refl, sym, ap, subst, arith, All, Contains, eq-eqb, ne_eqb}
use Rattle.std.specs.Prelude.{slice_get}
use Rattle.std.specs.List.{range_with_len}
use Rattle.std.specs.Option.{option_map}
use Rattle.std.proofs.lemmas.Bool.{cases_Bool, cases_eq, cases_lt, cond-true, cond-false, eqb-true}
use Rattle.std.proofs.Common.{length-append}
use Rattle.std.proofs.lemmas.List.{append-nil, get_or-map, get_or_append_left, get_or-append_right, map-id}
use Rattle.std.proofs.lemmas.List.Elements.{All-contains}
use Rattle.tv_kleene.specs.declared.K3.{K3}
use Rattle.tv_kleene.specs.Kleene.{LiesUnder}
use Rattle.tv_embedding_laws.specs.Embedding.{IsBelow}
use Rattle.tv_embedding_laws.proofs.EmbeddingLaws.{EmbedsOn-compose, IsBelow-values}
use Rattle.tv_stable_laws.proofs.Joined.{sharpening_loses_no_stable}
use Rattle.tv_structure_form.specs.StructureForm.{StructureForm, IsMark, arities_of, summary_at, structure_of}
use Rattle.tv_structure_form.specs.StructureForm.{value_at}
use Rattle.tv_structure_form.proofs.Library.{AreIndividuals-range, Contains-range, below-range, fits_or_No}
use Rattle.tv_model.proofs.Lists.{Contains-there}
use Rattle.tv_focus_laws.specs.Choices.{ChoiceForm, AimForm, Alone, Before, Behind, MemberForm, VectorSet}
use Rattle.tv_focus_laws.specs.Choices.{chosen, copy_of, focused_value, member_at, members, members_of}
use Rattle.tv_focus_laws.specs.Choices.{nobody, with_anchor}
use Rattle.tv_focus_laws.specs.Exact.{ListsAreExact}
use Rattle.tv_focus_laws.specs.Laws.{IsAnchor}
use Rattle.tv_focus_laws.specs.Tables.{ShowsOver}
use Rattle.tv_focus_laws.specs.Written.{chosen_table, vector_writes}
use Rattle.tv_focus_laws.proofs.ChosenTables.{Copies, copies-are}
use Rattle.tv_focus_laws.proofs.Writes.{is_written}
use Rattle.tv_focus_step_laws.specs.Above.{IsAim, IsBegun}
use Rattle.tv_focus_step_laws.specs.Above.{StructuresLead, SinglesLead, SplitsLead, VectorsLead}
use Rattle.tv_focus_step_laws.specs.Above.{SharpenedLead}
use Rattle.tv_focus_step_laws.specs.Above.{HasValues, HasVectors, HasChoice, WholeCoerceAlike, aim_after}
use Rattle.tv_focus_step_laws.specs.Above.{anchor_place, copies_so_far, origin_in, place_in, writes_at}
use Rattle.tv_focus_step_laws.proofs.Embedding.{choice-embeds, choice-shows}
use Rattle.tv_focus_step_laws.proofs.Laid.{AreLaid, IsFirst, are-laid, counted, first-copy, members_in}
use Rattle.tv_focus_step_laws.proofs.Laid.{own-count}
use Rattle.tv_focus_step_laws.proofs.Laid.{stands-behind, stands-first}
use Rattle.tv_focus_step_laws.proofs.Moving.{embeds-alike, map-alike}
use Rattle.tv_focus_step_laws.proofs.Narrowing.{vectors-above}
use Rattle.tv_focus_step_laws.proofs.Splitting.{below-inside, origin-inside, singles-above, splits-above}
use Rattle.tv_focus_step_laws.proofs.Under.{below-under, itself-under, single-under, split-under}
use Rattle.tv_focus_step_laws.proofs.Under.{vectors-under}

pub structures_lead : ListsAreExact → StructuresLead
structures_lead exact rules s pred aim choice is of = record {
  above = λ u below stable.
      embeds-alike (origin_in s choice) (place_in s choice []) u (structure_of s) (λ x at. omega arith)
      (EmbedsOn-compose (λ q. Unit {0}) (λ x. x) (origin_in s choice) u
      (structure_of (chosen_table s pred aim choice)) (structure_of s) below.1
      (choice-embeds exact s pred aim choice is of));
  under = itself-under s choice;
}

pub singles_lead : SinglesLead
singles_lead rules s pred aim choice begun set c is of begins one leads = record {
  above = singles-above rules s pred aim choice begun set c is of begins one leads.above;
  under = single-under s pred aim choice begun set c is of begins one leads.under;
}

pub splits_lead : SplitsLead
splits_lead rules s pred aim choice begun set c behind is of begins structure size leads = record {
  above = splits-above rules s pred aim choice begun set c behind is of begins structure size leads.above;
  under = split-under s pred aim choice begun set c behind is of begins structure size leads.under;
}

pub vectors_lead : ListsAreExact → VectorsLead
vectors_lead exact rules s pred aim choice begun set c writes is of begins table fit those leads = record {
  above = vectors-above rules s pred aim choice begun set c writes is of begins (is_written c pred writes table fit)
      those leads.above;
  under = vectors-under exact s pred aim choice begun set c writes is of begins (is_written c pred writes table fit) those
      leads.under;
}

pub sharpened_lead : SharpenedLead
sharpened_lead rules s pred aim choice begun c plain is of begins so leads = record {
  kept = λ d greatest mark. record {
    above = λ u below stable.
        (sharpening_loses_no_stable (place_in s choice begun) u (structure_of c) rules (leads.above u below stable)
        plain stable).kept (structure_of d) greatest;
    under = below-under s choice begun c d (λ x lt. below-range d.size (place_in s choice begun x)
        (subst (λ us. Contains us (place_in s choice begun x)) (sym greatest.below.0)
        (Contains-range c.size (place_in s choice begun x) (inside x lt)))) greatest.below mark leads.under;
  };
  none = λ none u below stable.
      (sharpening_loses_no_stable (place_in s choice begun) u (structure_of c) rules (leads.above u below stable) plain
      stable).some none;
}
  where
    laid : AreLaid s choice (length begun) (copies_so_far begun)
    laid = are-laid s choice begun (counted s pred aim choice of) begins

    inside : (x : ℕ) → x < length (members_in s choice) → place_in s choice begun x < c.size
    inside x lt = ⊎_elim
        (λ soon. omega (arith, soon, stands-first s choice begun x laid soon, so.size))
        (λ later. omega (
          arith,
          stands-behind s choice begun x laid later,
          so.size,
          laid.behind x later lt,
          origin-inside s choice x lt,
        ))
        (cases_lt x (copies_so_far begun))

-- ---- all sets are given

vectors-at : (c : StructureForm) (pred : ℕ) (aim : AimForm) (at : ℕ) (n : ℕ) (set : VectorSet)
    → HasVectors c pred aim at set → (k : ℕ) → k < length set
    → HasValues c pred (writes_at aim (at + k) (get_or set k []))
vectors-at c pred aim at n [] has k lt = absurd (omega (arith, lt))
vectors-at c pred aim at n (vector ∷ set) has zero lt =
    subst (λ p. HasValues c pred (writes_at aim p vector)) (omega arith) has.0
vectors-at c pred aim at n (vector ∷ set) has (suc k) lt =
    subst (λ p. HasValues c pred (writes_at aim p (get_or set k []))) (omega arith)
    (vectors-at c pred aim (at + 1) n set has.1 k (omega (arith, lt)))

copies-have : (c : StructureForm) (pred : ℕ) (aim : AimForm) (at n : ℕ) (choice : ChoiceForm)
    → HasChoice c pred aim at choice → (k : ℕ) → k < length (members (range_with_len n (length choice)) choice)
    → HasValues c pred (writes_at aim (at + k) (member_at (members (range_with_len n (length choice)) choice) k).vector)
copies-have c pred aim at n [] has k lt = absurd (omega (arith, lt))
copies-have c pred aim at n (set ∷ choice) has k lt =
    let own : List MemberForm = members_of n set
    in let rest : List MemberForm = members (range_with_len (n + 1) (length choice)) choice
    in ⊎_elim
    (λ here. subst (λ v. HasValues c pred (writes_at aim (at + k) v))
    (sym (ap (λ (m : MemberForm). m.vector) (get_or_append_left own rest nobody k here
    ∙ get_or-map (λ (vector : List K3). record { origin = n; vector = vector }) set k [] nobody
    (omega (arith, here, own-count n set)))))
    (vectors-at c pred aim at n set has.0 k (omega (arith, here, own-count n set))))
    (λ behind. subst (λ v. HasValues c pred (writes_at aim (at + k) v))
    (sym (ap (λ (m : MemberForm). m.vector) (get_or-append_right own rest (length set) k nobody (own-count n set)
    (omega (arith, behind, own-count n set)))))
    (subst (λ p. HasValues c pred (writes_at aim p (member_at rest (k - length set)).vector))
    (omega (arith, behind, own-count n set))
    (copies-have c pred aim (at + length set) (n + 1) choice has.1 (k - length set)
    (omega (arith, lt, behind, own-count n set, length-append own rest)))))
    (cases_lt k (length own))

anchored-above : (c : StructureForm) (pred : ℕ) (f : ℕ → List ℕ) (place : ℕ → ℕ) (anchors : List ℕ)
    (vector : List K3) (w y : ℕ) (k : K3) → HasValues c pred (vector_writes f (map place anchors) vector)
    → (Contains anchors w → place w ≡ y) → LiesUnder (value_at c pred (f y)) k
    → LiesUnder (value_at c pred (f y)) (with_anchor anchors vector w k)
anchored-above c pred f place [] vector w y k has goes under = under
anchored-above c pred f place (a ∷ anchors) [] w y k has goes under = under
anchored-above c pred f place (a ∷ anchors) (x ∷ vector) w y k has goes under =
    let later : K3 = with_anchor anchors vector w k
    in let At : K3 → Type 0 = λ z. LiesUnder (value_at c pred (f y)) z
    in ⊎_elim
    (λ e. subst At (sym (cond-true (eqb a w) x later e))
    (inl (ap (λ b. value_at c pred (f b))
    (sym (goes (0, omega arith, eqb-true a w e)) ∙ ap place (sym (eqb-true a w e))) ∙ has.0)))
    (λ e. subst At (sym (cond-false (eqb a w) x later e))
    (anchored-above c pred f place anchors vector w y k has.1
    (λ at. goes (Contains-there a w anchors at)) under))
    (cases_Bool (eqb a w))

-- the copies stand in their places, and have their vectors
record AreWhole (s c : StructureForm) (pred : ℕ) (aim : AimForm) (choice : ChoiceForm) : Type 0 where
  stay : (x : ℕ) → x < length (members_in s choice) → place_in s choice choice x ≡ x
  has : (k : ℕ) → k < length (members_in s choice)
      → HasValues c pred (writes_at (aim_after choice aim) k (member_at (members_in s choice) k).vector)
  sole : (a : ℕ) → IsAnchor (structure_of s) a → (j : ℕ) → j < length (members_in s choice)
      → origin_in s choice j ≡ a → anchor_place choice a ≡ j
  under : (q : ℕ) (tuple : List ℕ) → All (λ i. i < length (members_in s choice)) tuple
      → LiesUnder (value_at c q tuple) (value_at s q (map (origin_in s choice) tuple))

focused-above : (s c : StructureForm) (pred : ℕ) (aim : AimForm) (choice : ChoiceForm) → IsAim s pred aim
    → AreWhole s c pred aim choice → (tuple : List ℕ) → All (λ i. i < length (members_in s choice)) tuple
    → LiesUnder (value_at c pred tuple) (focused_value (structure_of s) pred aim (members_in s choice) tuple)
focused-above s c pred Alone choice is whole [] all = whole.under pred [] all
focused-above s c pred Alone choice is whole (i ∷ []) all = inl (whole.has i (all 0 0 (omega arith))).0
focused-above s c pred Alone choice is whole (i ∷ j ∷ more) all = whole.under pred (i ∷ j ∷ more) all
focused-above s c pred (Before anchors) choice is whole [] all = whole.under pred [] all
focused-above s c pred (Before anchors) choice is whole (i ∷ []) all = whole.under pred (i ∷ []) all
focused-above s c pred (Before anchors) choice is whole (i ∷ j ∷ []) all =
    anchored-above c pred (λ a. i ∷ a ∷ []) (anchor_place choice) anchors (member_at (members_in s choice) i).vector
    (origin_in s choice j) j (value_at s pred (origin_in s choice i ∷ origin_in s choice j ∷ []))
    (whole.has i (all 0 0 (omega arith)))
    (λ at. whole.sole (origin_in s choice j) (All-contains (IsAnchor (structure_of s)) anchors (origin_in s choice j)
    is.anchors at) j (all 1 0 (omega arith)) refl)
    (whole.under pred (i ∷ j ∷ []) all)
focused-above s c pred (Before anchors) choice is whole (i ∷ j ∷ x ∷ more) all =
    whole.under pred (i ∷ j ∷ x ∷ more) all
focused-above s c pred (Behind anchors) choice is whole [] all = whole.under pred [] all
focused-above s c pred (Behind anchors) choice is whole (i ∷ []) all = whole.under pred (i ∷ []) all
focused-above s c pred (Behind anchors) choice is whole (i ∷ j ∷ []) all =
    anchored-above c pred (λ a. a ∷ j ∷ []) (anchor_place choice) anchors (member_at (members_in s choice) j).vector
    (origin_in s choice i) i (value_at s pred (origin_in s choice i ∷ origin_in s choice j ∷ []))
    (whole.has j (all 1 0 (omega arith)))
    (λ at. whole.sole (origin_in s choice i) (All-contains (IsAnchor (structure_of s)) anchors (origin_in s choice i)
    is.anchors at) i (all 0 0 (omega arith)) refl)
    (whole.under pred (i ∷ j ∷ []) all)
focused-above s c pred (Behind anchors) choice is whole (i ∷ j ∷ x ∷ more) all =
    whole.under pred (i ∷ j ∷ x ∷ more) all

mark-in-place : (s : StructureForm) (f g : ℕ → ℕ) (mark : Option ℕ) → IsMark s mark → ((u : ℕ) → u < s.size → f u ≡ g u)
    → option_map f mark ≡ option_map g mark
mark-in-place s f g None is same = refl
mark-in-place s f g (Some u) is same = ap Some (same u is.0)

pub whole_coerce_alike : WholeCoerceAlike
whole_coerce_alike rules s pred aim choice c plain is of so leads values = record {
  mark = leads.under.mark ∙ mark-in-place s (anchor_place choice) (copy_of ms) s.fresh is.is.fresh
      (λ u lt. (first u lt).early (omega (arith, lt, count))) ∙ sym shows.shows.fresh;
  kept = λ d greatest. record {
    below = (
      greatest.below.0 ∙ under.0,
      EmbedsOn-compose (λ q. Unit {0}) (λ x. x) (λ x. x) (structure_of d) (structure_of c)
          (structure_of (chosen_table s pred aim choice)) greatest.below.1 under.1,
    );
    stable = greatest.stable;
    greatest = λ u below stable. (
      below.0 ∙ sym under.0 ∙ sym greatest.below.0,
      embeds-alike (place_in s choice choice) (λ x. x) u (structure_of d)
          (λ x at. stay x (below-inside s pred aim choice is of u below x at))
          ((sharpening_loses_no_stable (place_in s choice choice) u (structure_of c) rules
          (leads.above u below stable) plain stable).kept (structure_of d) greatest),
    );
  };
  none = λ none u below stable.
      (sharpening_loses_no_stable (place_in s choice choice) u (structure_of c) rules (leads.above u below stable) plain
      stable).some none;
}
  where
    t : StructureForm
    t = chosen_table s pred aim choice

    ms : List MemberForm
    ms = members_in s choice

    count : length choice ≡ s.size
    count = counted s pred aim choice of

    all-begun : IsBegun choice choice
    all-begun = ([], sym (append-nil choice))

    laid : AreLaid s choice (length choice) (copies_so_far choice)
    laid = are-laid s choice choice (counted s pred aim choice of) all-begun

    shows : ShowsOver s (chosen_table s pred aim choice) (chosen (structure_of s) pred aim choice)
    shows = choice-shows s pred aim choice is of

    copies : Copies s (members_in s choice)
    copies = copies-are s pred aim choice of.listed

    first : (u : ℕ) → u < s.size → IsFirst s choice choice u
    first u lt = first-copy s pred aim choice choice of all-begun u lt

    whole-size : length (members_in s choice) ≡ copies_so_far choice
    whole-size = ⊎_elim
        (λ few. absurd (omega (
          arith,
          few,
          origin-inside s choice (copies_so_far choice) few,
          laid.behind (copies_so_far choice) (omega arith) few,
          count,
        )))
        (λ many. omega (arith, many, laid.few))
        (cases_lt (copies_so_far choice) (length (members_in s choice)))

    size : c.size ≡ length (members_in s choice)
    size = omega (arith, so.size, whole-size, count)

    stay : (x : ℕ) → x < length (members_in s choice) → place_in s choice choice x ≡ x
    stay x lt = stands-first s choice choice x laid (omega (arith, lt, whole-size))

    stay-all : (tuple : List ℕ) → All (λ i. i < length (members_in s choice)) tuple
        → map (place_in s choice choice) tuple ≡ tuple
    stay-all tuple all =
        map-alike (λ i. i < length (members_in s choice)) (place_in s choice choice) (λ x. x) stay tuple all ∙ map-id tuple

    are-whole : AreWhole s c pred aim choice
    are-whole = record {
      stay = stay;
      has = λ k lt. subst (λ n. HasValues c pred (writes_at (aim_after choice aim) k
          (member_at (members (range_with_len 0 n) choice) k).vector)) count
          (subst (λ p. HasValues c pred (writes_at (aim_after choice aim) p
          (member_at (members (range_with_len 0 (length choice)) choice) k).vector)) (omega arith)
          (copies-have c pred (aim_after choice aim) 0 0 choice values k
          (subst (λ n. k < length (members (range_with_len 0 n) choice)) (sym count) lt)));
      sole = λ a anchor j lt from.
          let inside : a < s.size = below-range s.size a anchor.0
          in (first a inside).early (omega (arith, inside, count)) ∙ copies.sole a j inside anchor.1 lt from;
      under = λ q tuple all. subst (λ us. LiesUnder (value_at c q us) (value_at s q (map (origin_in s choice) tuple)))
          (stay-all tuple all) (leads.under.values q tuple all);
    }

    individuals : (structure_of c).individuals ≡ (structure_of (chosen_table s pred aim choice)).individuals
    individuals = ap (range_with_len 0) size ∙ sym shows.shows.individuals

    inside : (tuple : List ℕ) → All (Contains (structure_of c).individuals) tuple
        → All (λ i. i < length (members_in s choice)) tuple
    inside tuple all k d lt = omega (arith, below-range c.size (get_or tuple k d) (all k d lt), size)

    chosen-above : (q : ℕ) (tuple : List ℕ) → All (λ i. i < length (members_in s choice)) tuple
        → LiesUnder (value_at c q tuple) ((chosen (structure_of s) pred aim choice).value q tuple)
    chosen-above q tuple all =
        let there : K3 = value_at s q (map (origin_in s choice) tuple)
        in let here : K3 = focused_value (structure_of s) pred aim ms tuple
        in let At : K3 → Type 0 = λ k. LiesUnder (value_at c q tuple) k
        in ⊎_elim
        (λ e. subst At (sym (cond-true (eqb q pred) here there (eq-eqb q pred e)))
        (subst (λ p. LiesUnder (value_at c p tuple) here) (sym e) (focused-above s c pred aim choice is are-whole tuple all)))
        (λ ne. subst At (sym (cond-false (eqb q pred) here there (ne_eqb q pred ne))) (are-whole.under q tuple all))
        (cases_eq q pred)

    value : (q : ℕ) (tuple : List ℕ) → All (Contains (structure_of c).individuals) tuple
        → LiesUnder (value_at c q tuple) (value_at (chosen_table s pred aim choice) q tuple)
    value q tuple all =
        let shown : slice_get (arities_of (chosen_table s pred aim choice)) q ≡ Some (length tuple)
        → LiesUnder (value_at c q tuple) (value_at (chosen_table s pred aim choice) q tuple)
        = λ fits. subst (λ k. LiesUnder (value_at c q tuple) k)
        (sym (shows.shows.values q tuple (record {
          arity = fits;
          individuals = AreIndividuals-range t.size tuple
              (λ k d lt. subst (λ us. Contains us (get_or tuple k d)) individuals (all k d lt));
        }))) (chosen-above q tuple (inside tuple all))
        in ⊎_elim shown
        (λ none. ⊎_elim
        (λ fits. shown (ap (λ ns. slice_get ns q) (shows.over ∙ sym so.over) ∙ fits))
        (λ also. inl (also ∙ sym none)) (fits_or_No c q tuple))
        (fits_or_No t q tuple)

    under : IsBelow (structure_of c) (structure_of (chosen_table s pred aim choice))
    under = (IsBelow-values (structure_of c) (structure_of t)).1 (record {
      individuals = individuals;
      values = value;
      summaries = λ u at summary.
          let lt : u < length ms = omega (arith, below-range c.size u at, size)
          in let in_t : u < t.size = below-range t.size u (subst (λ us. Contains us u) individuals at)
          in shows.shows.summaries u in_t
          ∙ leads.under.summaries u lt (ap (summary_at c) (stay u lt) ∙ summary);
    })
