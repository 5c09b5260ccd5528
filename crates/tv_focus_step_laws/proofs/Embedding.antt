-- The structure of a choice embeds in that of which it is one, copies going to their individuals.
use Rattle.std.proofs.Common.{ℕ, ◌≡◌, ◌<◌, eqb, List, [], ◌∷◌, inl, ⊎_elim}
use Rattle.std.proofs.Common.{Some, length, get_or, map, refl, sym, ap, subst, ◌∙◌, arith, All, Contains}
use Rattle.std.proofs.Common.{eq-eqb, ne_eqb}
use Rattle.std.specs.Prelude.{slice_get}
use Rattle.std.specs.List.{AllZip}
use Rattle.std.proofs.lemmas.Bool.{cases_Bool, cases_eq, cond-true, cond-false, eqb-true}
use Rattle.std.proofs.lemmas.List.{length-map}
use Rattle.tv_kleene.specs.declared.K3.{K3}
use Rattle.tv_kleene.specs.declared.K3.TheVariants.{No}
use Rattle.tv_kleene.specs.Kleene.{LiesUnder}
use Rattle.tv_embedding_laws.specs.LogicalStructure.{LogicalStructure}
use Rattle.tv_embedding_laws.specs.Embedding.{Embeds}
use Rattle.tv_structure_form.specs.StructureForm.{StructureForm, value_at, summary_at, structure_of}
use Rattle.tv_structure_form.specs.StructureForm.{arities_of}
use Rattle.tv_structure_form.proofs.Library.{AreIndividuals-range, Contains-range, below-range, fits_or_No}
use Rattle.tv_focus_laws.specs.Choices.{ChoiceForm, AimForm, Alone, Before, Behind, MemberForm, VectorSet}
use Rattle.tv_focus_laws.specs.Choices.{aimed, members, member_at, nobody, copy_of, with_anchor}
use Rattle.tv_focus_laws.specs.Choices.{focused_value}
use Rattle.tv_focus_laws.specs.Choices.{choices, chosen}
use Rattle.tv_focus_laws.specs.Exact.{Sharpens, IsVector, IsVectorSet, ListsAreExact}
use Rattle.tv_focus_laws.specs.Tables.{ShowsOver}
use Rattle.tv_focus_laws.specs.Written.{chosen_table}
use Rattle.tv_focus_laws.proofs.ChosenTables.{Copies, copies-are, chosen_tables_show}
use Rattle.tv_focus_laws.proofs.Members.{members-inside}
use Rattle.tv_focus_step_laws.specs.Above.{IsAim, IsSmallChoice, origin_in}
use Rattle.tv_focus_step_laws.proofs.Copies.{IsOfSet, copies-of_sets}

-- ---- values

anchored-under : (g : List ℕ → K3) (f : ℕ → List ℕ) (anchors : List ℕ) (vector : List K3) (w : ℕ)
    → AllZip Sharpens vector (map g (map f anchors)) → LiesUnder (with_anchor anchors vector w (g (f w))) (g (f w))
anchored-under g f [] vector w zip = inl refl
anchored-under g f (a ∷ anchors) [] w zip = absurd zip
anchored-under g f (a ∷ anchors) (x ∷ vector) w zip =
    let At : K3 → Type 0 = λ k. LiesUnder k (g (f w))
    in ⊎_elim
    (λ e. subst At (sym (cond-true (eqb a w) x (with_anchor anchors vector w (g (f w))) e))
    (subst (λ b. LiesUnder x (g (f b))) (eqb-true a w e) zip.0.1))
    (λ e. subst At (sym (cond-false (eqb a w) x (with_anchor anchors vector w (g (f w))) e))
    (anchored-under g f anchors vector w zip.1))
    (cases_Bool (eqb a w))

-- the copies have vectors for the values of their individuals
abbrev pub AreVectors : LogicalStructure → (pred : ℕ) → AimForm → List MemberForm → Type 0
AreVectors l pred aim ms =
    (i : ℕ) → i < length ms
    → IsVector (map (l.value pred) (aimed aim (member_at ms i).origin)) (member_at ms i).vector

pub focused-under : (l : LogicalStructure) (pred : ℕ) (aim : AimForm) (ms : List MemberForm)
    → AreVectors l pred aim ms → (tuple : List ℕ) → All (λ i. i < length ms) tuple
    → LiesUnder (focused_value l pred aim ms tuple) (l.value pred (map (λ x. (member_at ms x).origin) tuple))
focused-under l pred Alone ms vectors [] all = inl refl
focused-under l pred Alone ms vectors (i ∷ []) all =
    first (member_at ms i).vector (l.value pred ((member_at ms i).origin ∷ [])) (vectors i (all 0 0 (omega arith)))
  where
    first : (vector : List K3) (k : K3) → AllZip Sharpens vector (k ∷ []) → LiesUnder (get_or vector 0 No) k
    first [] k zip = absurd zip
    first (x ∷ vector) k zip = zip.0.1
focused-under l pred Alone ms vectors (i ∷ j ∷ more) all = inl refl
focused-under l pred (Before anchors) ms vectors [] all = inl refl
focused-under l pred (Before anchors) ms vectors (i ∷ []) all = inl refl
focused-under l pred (Before anchors) ms vectors (i ∷ j ∷ []) all =
    anchored-under (l.value pred) (λ a. (member_at ms i).origin ∷ a ∷ []) anchors (member_at ms i).vector
    (member_at ms j).origin (vectors i (all 0 0 (omega arith)))
focused-under l pred (Before anchors) ms vectors (i ∷ j ∷ x ∷ more) all = inl refl
focused-under l pred (Behind anchors) ms vectors [] all = inl refl
focused-under l pred (Behind anchors) ms vectors (i ∷ []) all = inl refl
focused-under l pred (Behind anchors) ms vectors (i ∷ j ∷ []) all =
    anchored-under (l.value pred) (λ a. a ∷ (member_at ms j).origin ∷ []) anchors (member_at ms j).vector
    (member_at ms i).origin (vectors j (all 1 0 (omega arith)))
focused-under l pred (Behind anchors) ms vectors (i ∷ j ∷ x ∷ more) all = inl refl

chosen-under : (l : LogicalStructure) (pred : ℕ) (aim : AimForm) (choice : ChoiceForm)
    → AreVectors l pred aim (members l.individuals choice) → (q : ℕ) (tuple : List ℕ)
    → All (λ i. i < length (members l.individuals choice)) tuple
    → LiesUnder ((chosen l pred aim choice).value q tuple)
    (l.value q (map (λ x. (member_at (members l.individuals choice) x).origin) tuple))
chosen-under l pred aim choice vectors q tuple all =
    let ms : List MemberForm = members l.individuals choice
    in let there : K3 = l.value q (map (λ x. (member_at ms x).origin) tuple)
    in let here : K3 = focused_value l pred aim ms tuple
    in let At : K3 → Type 0 = λ k. LiesUnder k there
    in ⊎_elim
    (λ e. subst At (sym (cond-true (eqb q pred) here there (eq-eqb q pred e)))
    (subst (λ p. LiesUnder here (l.value p (map (λ x. (member_at ms x).origin) tuple))) (sym e)
    (focused-under l pred aim ms vectors tuple all)))
    (λ ne. subst At (sym (cond-false (eqb q pred) here there (ne_eqb q pred ne))) (inl refl))
    (cases_eq q pred)

-- ---- the copies

pub vectors-are : ListsAreExact → (l : LogicalStructure) (pred : ℕ) (aim : AimForm) (choice : ChoiceForm)
    → Contains (choices l pred aim) choice → AreVectors l pred aim (members l.individuals choice)
vectors-are exact l pred aim choice at i lt =
    let Q : ℕ → VectorSet → Type 0 = λ u set. IsVectorSet (l.is_summary u) (map (l.value pred) (aimed aim u)) set
    in let found : IsOfSet Q (member_at (members l.individuals choice) i)
    = copies-of_sets Q l.individuals choice ((exact.listed_choices l pred aim choice).0 at) i nobody lt
    in found.1.vectors (member_at (members l.individuals choice) i).vector found.2

-- ---- the tables

pub choice-shows : (s : StructureForm) (pred : ℕ) (aim : AimForm) (choice : ChoiceForm) → IsAim s pred aim
    → IsSmallChoice s pred aim choice
    → ShowsOver s (chosen_table s pred aim choice) (chosen (structure_of s) pred aim choice)
choice-shows s pred aim choice is of =
    chosen_tables_show s pred aim choice is.is is.arity is.anchors is.apart of.listed of.few

pub choice-embeds : ListsAreExact → (s : StructureForm) (pred : ℕ) (aim : AimForm) (choice : ChoiceForm) → IsAim s pred aim
    → IsSmallChoice s pred aim choice
    → Embeds (origin_in s choice) (structure_of (chosen_table s pred aim choice)) (structure_of s)
choice-embeds exact s pred aim choice is of = record {
  into = λ u at. members-inside (structure_of s).individuals choice u nobody (below u at);
  onto = λ w at. let lt : w < s.size = below-range s.size w at in (
    copy_of ms w,
    subst (λ us. Contains us (copy_of ms w)) (sym shows.shows.individuals)
        (Contains-range (length ms) (copy_of ms w) (copies.inside w lt)),
    copies.origin w lt,
  );
  values = λ q any tuple all. value q tuple all;
  summaries = λ u at summary. sym (shows.shows.summaries u (below-range t.size u at)) ∙ summary;
  several = λ u w at there ne same. ⊎_elim (λ yes. yes)
      (λ no. let lt : origin_in s choice u < s.size
      = below-range s.size (origin_in s choice u) (members-inside (structure_of s).individuals choice u nobody (below u at))
      in absurd (ne (sym (copies.sole (origin_in s choice u) u lt no (below u at) refl)
      ∙ copies.sole (origin_in s choice u) w lt no (below w there) (sym same))))
      (cases_Bool (summary_at s (origin_in s choice u)));
}
  where
    ms : List MemberForm
    ms = members (structure_of s).individuals choice

    t : StructureForm
    t = chosen_table s pred aim choice

    shows : ShowsOver s (chosen_table s pred aim choice) (chosen (structure_of s) pred aim choice)
    shows = choice-shows s pred aim choice is of

    copies : Copies s (members (structure_of s).individuals choice)
    copies = copies-are s pred aim choice of.listed

    below : (u : ℕ) → Contains (structure_of (chosen_table s pred aim choice)).individuals u
        → u < length (members (structure_of s).individuals choice)
    below u at = below-range (length (members (structure_of s).individuals choice)) u
        (subst (λ us. Contains us u) shows.shows.individuals at)

    value : (q : ℕ) (tuple : List ℕ)
        → All (Contains (structure_of (chosen_table s pred aim choice)).individuals) tuple
        → LiesUnder (value_at (chosen_table s pred aim choice) q tuple) (value_at s q (map (origin_in s choice) tuple))
    value q tuple all =
        ⊎_elim shown
        (λ none. ⊎_elim
        (λ fits. shown (ap (λ ns. slice_get ns q) shows.over ∙ fits ∙ ap Some (length-map tuple (origin_in s choice))))
        (λ also. inl (none ∙ sym also)) (fits_or_No s q (map (origin_in s choice) tuple)))
        (fits_or_No t q tuple)
      where
        shown : slice_get (arities_of (chosen_table s pred aim choice)) q ≡ Some (length tuple)
            → LiesUnder (value_at (chosen_table s pred aim choice) q tuple) (value_at s q (map (origin_in s choice) tuple))
        shown fits =
            subst (λ k. LiesUnder k (value_at s q (map (origin_in s choice) tuple)))
            (sym (shows.shows.values q tuple
            (record { arity = fits; individuals = AreIndividuals-range t.size tuple all })))
            (chosen-under (structure_of s) pred aim choice (vectors-are exact (structure_of s) pred aim choice of.listed)
            q tuple (λ k d lt. below (get_or tuple k d) (all k d lt)))
