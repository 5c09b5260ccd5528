-- A split table with the vectors' values shows the choice.
use Rattle.std.proofs.Common.{ℕ, ◌≡◌, ◌≢◌, ◌<◌, ◌≤◌, ◌+◌, zero, suc, Bool, true, false, cond, eqb, List, []}
use Rattle.std.proofs.Common.{◌∷◌, ◌++◌, ◌⊎◌, inl, inr, ⊎_elim, Option, Some, None, length, get_or, map, take}
use Rattle.std.proofs.Common.{replicate, sum, refl, sym, ap, subst, ◌∙◌, arith, All, Contains, eq-eqb, ne_eqb}
use Rattle.std.proofs.Common.{length-append}
use Rattle.std.specs.Prelude.{not}
use Rattle.std.specs.List.{range_with_len, AllZip, position_or_len}
use Rattle.std.specs.Option.{option_map}
use Rattle.std.proofs.lemmas.Bool.{cases_eq, cond-true, cond-false}
use Rattle.std.proofs.lemmas.List.{length-map, map-append, get_or-map, append-nil}
use Rattle.std.proofs.lemmas.List.Sums.{sum_by-cons}
use Rattle.std.proofs.lemmas.List.FromFn.{length-range_with_len}
use Rattle.std.proofs.lemmas.List.Elements.{All-head, All-tail, All-cons, All-nil}
use Rattle.tv_kleene.specs.declared.K3.{K3}
use Rattle.tv_kleene.specs.declared.K3.TheVariants.{No, Half, Yes}
use Rattle.tv_embedding_laws.specs.LogicalStructure.{LogicalStructure}
use Rattle.tv_model.proofs.Lists.{Contains-none}
use Rattle.tv_structure_form.specs.TableForm.{AreIndividuals, HasEntry}
use Rattle.tv_structure_form.specs.StructureForm.{StructureForm, IsStructure, IsMark, split, copies_from}
use Rattle.tv_structure_form.specs.StructureForm.{table_of}
use Rattle.tv_structure_form.specs.StructureForm.{value_at, summary_at, structure_of, arities_of}
use Rattle.tv_structure_form.specs.Laws.{origins_of, DrawnReads}
use Rattle.tv_structure_form.proofs.StructureLaws.{drawn_reads}
use Rattle.tv_focus_laws.specs.Choices.{AimForm, MemberForm, members, members_of, member_at, nobody, copy_of}
use Rattle.tv_focus_laws.specs.Choices.{aimed, vectors, picks, picks_to, sets_of, product, choices, chosen}
use Rattle.tv_focus_laws.specs.Choices.{focused_value}
use Rattle.tv_focus_laws.specs.Tables.{Shows, ShowsOver, parts_of, IsSplitBy, SplitsShowChoices}
use Rattle.tv_focus_laws.proofs.Exact.{product-is}
use Rattle.tv_focus_laws.proofs.Counts.{picks-length, some-set}

-- ---- what a choice is

-- the sets are those of the individuals, and none is empty
pub record IsWhole (us : List ℕ) (choice : List (List (List K3))) : Type 0 where
  pub count : length choice ≡ length us
  pub some : All (λ set. 1 ≤ length set) choice

whole-from_zip : (all : ℕ → List (List (List K3))) → ((u : ℕ) (set : List (List K3)) → Contains (all u) set → 1 ≤ length set)
    → (us : List ℕ) (choice : List (List (List K3))) → AllZip Contains (map all us) choice → IsWhole us choice
whole-from_zip all each [] [] zip = record { count = refl; some = All-nil (λ set. 1 ≤ length set) }
whole-from_zip all each [] (set ∷ choice) zip = absurd zip
whole-from_zip all each (u ∷ us) [] zip = absurd zip
whole-from_zip all each (u ∷ us) (set ∷ choice) zip =
    let rest : IsWhole us choice = whole-from_zip all each us choice zip.1
    in record {
      count = ap suc rest.count;
      some = All-cons (λ one. 1 ≤ length one) set choice (each u set zip.0) rest.some;
    }

pub choice-whole : (s : LogicalStructure) (pred : ℕ) (aim : AimForm) (choice : List (List (List K3)))
    → Contains (choices s pred aim) choice → IsWhole s.individuals choice
choice-whole s pred aim choice at =
    let all : ℕ → List (List (List K3)) = λ u. sets_of (s.is_summary u) (map (s.value pred) (aimed aim u))
    in whole-from_zip all (λ u set has. some-set (s.is_summary u) (map (s.value pred) (aimed aim u)) set has) s.individuals choice
    (product-is (map all s.individuals) choice at)

-- ---- origins

replicated : (n : ℕ) (set : List (List K3)) → map (λ (m : MemberForm). m.origin) (members_of n set) ≡ replicate (length set) n
replicated n [] = refl
replicated n (v ∷ set) = ap (λ us. n ∷ us) (replicated n set)

pub split-origins : (n : ℕ) (choice : List (List (List K3)))
    → copies_from n (parts_of choice) ≡ map (λ (m : MemberForm). m.origin) (members (range_with_len n (length choice)) choice)
split-origins n [] = refl
split-origins n (set ∷ choice) =
    let later : List MemberForm = members (range_with_len (n + 1) (length choice)) choice
    in ap (λ us. us ++ copies_from (n + 1) (parts_of choice)) (sym (replicated n set))
    ∙ ap (λ us. map (λ (m : MemberForm). m.origin) (members_of n set) ++ us) (split-origins (n + 1) choice)
    ∙ sym (map-append (λ (m : MemberForm). m.origin) (members_of n set) later)

-- ---- the mark

skips : (n w : ℕ) → n ≢ w → (set : List (List K3)) (later : List MemberForm)
    → position_or_len (λ (m : MemberForm). eqb m.origin w) (members_of n set ++ later)
    ≡ length set + position_or_len (λ (m : MemberForm). eqb m.origin w) later
skips n w ne [] later = omega arith
skips n w ne (v ∷ set) later =
    let tail : ℕ = position_or_len (λ (m : MemberForm). eqb m.origin w) (members_of n set ++ later)
    in let rest : tail ≡ length set + position_or_len (λ (m : MemberForm). eqb m.origin w) later = skips n w ne set later
    in let now : cond (not (eqb n w)) (1 + tail) 0 ≡ 1 + tail
    = cond-true (not (eqb n w)) (1 + tail) 0 (ap not (ne_eqb n w ne))
    in now ∙ (omega (arith, rest))

pub mark-place : (choice : List (List (List K3))) (n u w : ℕ) → n + u ≡ w → u < length choice → All (λ set. 1 ≤ length set) choice
    → position_or_len (λ (m : MemberForm). eqb m.origin w) (members (range_with_len n (length choice)) choice) ≡ sum (take u (parts_of choice))
mark-place [] n u w e lt some = absurd (omega (arith, lt))
mark-place ([] ∷ choice) n zero w e lt some =
    let few : 1 ≤ 0 = All-head (λ set. 1 ≤ length set) [] choice some in absurd (omega arith)
mark-place ((v ∷ set) ∷ choice) n zero w e lt some =
    cond-false (not (eqb n w)) (1 + (position_or_len (λ (m : MemberForm). eqb m.origin w)
    (members_of n set ++ members (range_with_len (n + 1) (length choice)) choice))) 0 (ap not (eq-eqb n w (omega (arith, e))))
mark-place (set ∷ choice) n (suc u) w e lt some =
    let later : List MemberForm = members (range_with_len (n + 1) (length choice)) choice
    in let rest : position_or_len (λ (m : MemberForm). eqb m.origin w) later ≡ sum (take u (parts_of choice))
    = mark-place choice (n + 1) u w (omega (arith, e)) (omega (arith, lt)) (All-tail (λ one. 1 ≤ length one) set choice some)
    in skips n w (omega (arith, e)) set later ∙ ap (λ k. length set + k) rest
    ∙ sym (sum_by-cons (λ x. x) (length set) (take u (parts_of choice)))

-- ---- the table

pub origins-same : (ms : List MemberForm) (copies tuple : List ℕ) → copies ≡ map (λ (m : MemberForm). m.origin) ms
    → AreIndividuals (length ms) tuple → origins_of copies tuple ≡ map (λ x. (member_at ms x).origin) tuple
origins-same ms copies [] same within = refl
origins-same ms copies (u ∷ tuple) same within =
    let first : get_or copies u 0 ≡ (member_at ms u).origin
    = ap (λ us. get_or us u 0) same ∙ get_or-map (λ (m : MemberForm). m.origin) ms u nobody 0 within.0
    in let rest : origins_of copies tuple ≡ map (λ x. (member_at ms x).origin) tuple = origins-same ms copies tuple same within.1
    in cc

-- the copies that a choice makes, each told by its individual
abbrev pub copies_in : List (List (List K3)) → List ℕ
copies_in choice = copies_from 0 (parts_of choice)

-- the members of a choice for each individual of the structure, in order
abbrev pub members_in : StructureForm → List (List (List K3)) → List MemberForm
members_in s choice = members (range_with_len 0 s.size) choice

-- the copies that such a choice makes are its members: each of the individual from which its member comes
pub record AreMembers (s : StructureForm) (choice : List (List (List K3))) : Type 0 where
  pub count : length choice ≡ s.size
  pub same : copies_in choice ≡ map (λ (m : MemberForm). m.origin) (members_in s choice)
  pub size : length (copies_in choice) ≡ length (members_in s choice)
  pub origin : (l : ℕ) → l < length (members_in s choice)
      → get_or (copies_in choice) l 0 ≡ (member_at (members_in s choice) l).origin

pub are-members : (s : StructureForm) (choice : List (List (List K3))) → IsWhole (structure_of s).individuals choice
    → AreMembers s choice
are-members s choice whole = record {
  count = count;
  same = same;
  size = ap length same ∙ length-map (members_in s choice) (λ (m : MemberForm). m.origin);
  origin = λ l lt. ap (λ us. get_or us l 0) same
      ∙ get_or-map (λ (m : MemberForm). m.origin) (members_in s choice) l nobody 0 lt;
}
  where
    count : length choice ≡ s.size
    count = whole.count ∙ length-range_with_len 0 s.size

    same : copies_in choice ≡ map (λ (m : MemberForm). m.origin) (members_in s choice)
    same =
        let At : ℕ → Type 0 = λ n. copies_in choice ≡ map (λ (m : MemberForm). m.origin) (members (range_with_len 0 n) choice)
        in subst At count (split-origins 0 choice)

pub splits_show : (s : StructureForm) (pred : ℕ) (aim : AimForm) (choice : List (List (List K3))) (t : StructureForm) → IsStructure s
    → IsWhole (structure_of s).individuals choice → IsSplitBy s pred aim choice t
    → ShowsOver s t (chosen (structure_of s) pred aim choice)
splits_show s pred aim choice t is whole by = record {
  is = by.is;
  over = by.over;
  shows = record {
    individuals = ap (range_with_len 0) size;
    values = value;
    summaries = λ u lt.
        ap (λ flags. get_or flags u false) by.summaries
        ∙ reads.summaries (copies_in choice) (split s (parts_of choice)).fresh u (omega (arith, lt, size, laid.size))
        ∙ ap (summary_at s) (laid.origin u (omega (arith, lt, size)));
    fresh = by.fresh ∙ mark s.fresh refl;
  };
}
  where
    laid : AreMembers s choice
    laid = are-members s choice whole

    ms : List MemberForm
    ms = members_in s choice

    size : t.size ≡ length ms
    size = by.size ∙ laid.size

    reads : DrawnReads s
    reads = drawn_reads s is

    value : (q : ℕ) (tuple : List ℕ) → HasEntry (table_of t) q tuple
        → value_at t q tuple ≡ (chosen (structure_of s) pred aim choice).value q tuple
    value q tuple has =
        let within : AreIndividuals (length ms) tuple = subst (λ n. AreIndividuals n tuple) size has.individuals
        in let inside : AreIndividuals (length (copies_in choice)) tuple = subst (λ n. AreIndividuals n tuple) (sym laid.size) within
        in let here : K3 = focused_value (structure_of s) pred aim ms tuple
        in let there : K3 = value_at s q (map (λ x. (member_at ms x).origin) tuple)
        in ⊎_elim
        (λ e. let Has : ℕ → Type 0 = λ p. HasEntry (table_of t) p tuple
        in ap (λ p. value_at t p tuple) e ∙ by.focused tuple (subst Has e has) ∙ sym (cond-true (eqb q pred) here there (eq-eqb q pred e)))
        (λ ne. by.others q tuple ne has
        ∙ reads.values (copies_in choice) (split s (parts_of choice)).fresh q tuple inside
        ∙ ap (value_at s q) (origins-same ms (copies_in choice) tuple laid.same within)
        ∙ sym (cond-false (eqb q pred) here there (ne_eqb q pred ne)))
        (cases_eq q pred)

    mark : (fresh : Option ℕ) → s.fresh ≡ fresh
        → option_map (λ u. sum (take u (parts_of choice))) s.fresh ≡ option_map (copy_of ms) s.fresh
    mark None e =
        let Same : Option ℕ → Type 0 = λ o. option_map (λ u. sum (take u (parts_of choice))) o ≡ option_map (copy_of ms) o
        in subst Same (sym e) refl
    mark (Some u) e =
        let Same : Option ℕ → Type 0 = λ o. option_map (λ x. sum (take x (parts_of choice))) o ≡ option_map (copy_of ms) o
        in let known : IsMark s (Some u) = subst (IsMark s) e is.fresh
        in let At : ℕ → Type 0 = λ n. position_or_len (λ (m : MemberForm). eqb m.origin u) (members (range_with_len 0 n) choice) ≡ sum (take u (parts_of choice))
        in subst Same (sym e) (ap Some (sym (subst At laid.count (mark-place choice 0 u u (omega arith) (omega (arith, laid.count, known.0)) whole.some))))

pub splits_show_choices : SplitsShowChoices
splits_show_choices s pred aim choice t is at by =
    splits_show s pred aim choice t is (choice-whole (structure_of s) pred aim choice at) by
