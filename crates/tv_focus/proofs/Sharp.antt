-- An atom whose values are known gives the structure itself.
use Rattle.std.proofs.Common.{ℕ, ◌≡◌, ◌≢◌, ◌<◌, zero, suc, Bool, true, false, eqb, List, [], ◌∷◌, ⊎_elim}
use Rattle.std.proofs.Common.{Option, Some, None, length, get_or, map, refl, sym, ap, subst, ◌∙◌, arith}
use Rattle.std.proofs.Common.{Contains, eq-eqb, ne_eqb}
use Rattle.std.specs.List.{flat_map, range_with_len, AllZip}
use Rattle.std.specs.Option.{option_map}
use Rattle.std.proofs.lemmas.Bool.{cases_eq, cond-true, cond-false}
use Rattle.std.proofs.lemmas.List.{length-map, get_or-map}
use Rattle.std.proofs.lemmas.List.FromFn.{length-range_with_len, get_or-range_with_len}
use Rattle.tv_kleene.specs.declared.K3.{K3}
use Rattle.tv_kleene.specs.declared.K3.TheVariants.{No, Half, Yes}
use Rattle.tv_model.proofs.Lists.{map-compose, map-agreed, Contains-here}
use Rattle.tv_embedding_laws.specs.LogicalStructure.{LogicalStructure}
use Rattle.tv_structure_form.specs.TableForm.{AreIndividuals}
use Rattle.tv_model.specs.Form.{Form}
use Rattle.tv_structure_form.specs.StructureForm.{StructureForm, IsStructure, IsMark, arities_of}
use Rattle.tv_structure_form.specs.StructureForm.{structure_of}
use Rattle.tv_structure_form.specs.StructureForm.{value_at, summary_at}
use Rattle.tv_structure_form.proofs.Library.{below-range}
use Rattle.tv_focus_laws.specs.Choices.{AimForm, Alone, Before, Behind, SplitForm, Nothing, Whole, Each}
use Rattle.tv_focus_laws.specs.Choices.{VectorSet, ChoiceForm, MemberForm, aimed, definite, vectors, picks}
use Rattle.tv_focus_laws.specs.Choices.{picks_to, sets_of, product, choices, members, member_at, nobody}
use Rattle.tv_focus_laws.specs.Choices.{copy_of, with_anchor, focused_value, chosen_over, chosen}
use Rattle.tv_focus_laws.specs.Counts.{AreCounted, halves, halves_at}
use Rattle.tv_focus_laws.specs.Stages.{whole_value, with_whole, split_structures, atom_at, split_at}
use Rattle.tv_focus_laws.specs.FocusAtoms.{focus_atoms}
use Rattle.tv_focus_laws.specs.Tables.{ShowsOver, AreStage}
use Rattle.tv_focus_laws.specs.Written.{stage_tables}
use Rattle.tv_focus_laws.proofs.ChosenTables.{Copies, copies-are}
use Rattle.tv_focus_laws.proofs.Counts.{choices_are_counted}
use Rattle.tv_focus_laws.proofs.Tables.{tables_lose_no_heap}
use Rattle.tv_focus.specs.Anchored.{AreAtomsOver}
use Rattle.tv_focus.specs.Laws.{IsSharp, SharpAtomsStay}
use Rattle.tv_focus.specs.Stage.{AreSplitLimitsKept, IsWithinLimits}
use Rattle.tv_focus.proofs.Limits.{stage-within, tables-are-stage}

-- ---- one choice

vectors-one : (ks : List K3) → halves ks ≡ 0 → vectors ks ≡ ks ∷ []
vectors-one [] none = refl
vectors-one (No ∷ ks) none = ap (λ vs. flat_map (λ x. map (λ rest. x ∷ rest) vs) (No ∷ [])) (vectors-one ks none)
vectors-one (Half ∷ ks) none = absurd (omega (arith, none))
vectors-one (Yes ∷ ks) none = ap (λ vs. flat_map (λ x. map (λ rest. x ∷ rest) vs) (Yes ∷ [])) (vectors-one ks none)

pub sets_one : (summary : Bool) (ks : List K3) → halves ks ≡ 0 → sets_of summary ks ≡ (ks ∷ []) ∷ []
sets_one true ks none = ap (λ vs. picks_to (length vs) vs) (vectors-one ks none)
sets_one false ks none = ap (λ vs. picks 1 vs) (vectors-one ks none)

product-one : (f : ℕ → VectorSet) (us : List ℕ) → product (map (λ u. f u ∷ []) us) ≡ map f us ∷ []
product-one f [] = refl
product-one f (u ∷ us) = ap (λ css. flat_map (λ x. map (λ rest. x ∷ rest) css) (f u ∷ [])) (product-one f us)

-- the values of an individual as they stand
abbrev own_values : LogicalStructure → (pred : ℕ) → AimForm → ℕ → List K3
own_values s pred aim u = map (s.value pred) (aimed aim u)

abbrev own_choice : LogicalStructure → (pred : ℕ) → AimForm → ChoiceForm
own_choice s pred aim = map (λ u. own_values s pred aim u ∷ []) s.individuals

choices-one : (s : LogicalStructure) (pred : ℕ) (aim : AimForm) → IsSharp s pred (Each aim)
    → choices s pred aim ≡ own_choice s pred aim ∷ []
choices-one s pred aim sharp =
    ap product (map-agreed (λ u. sets_of (s.is_summary u) (own_values s pred aim u)) (λ u. (own_values s pred aim u ∷ []) ∷ []) s.individuals
    (λ u at. sets_one (s.is_summary u) (own_values s pred aim u) (sharp u at)))
    ∙ product-one (λ u. own_values s pred aim u ∷ []) s.individuals

-- ---- its copies

abbrev own_member : LogicalStructure → (pred : ℕ) → AimForm → ℕ → MemberForm
own_member s pred aim u = record { origin = u; vector = own_values s pred aim u }

members-one : (m : ℕ → MemberForm) (f : ℕ → List K3) (us : List ℕ) → ((u : ℕ) → record { origin = u; vector = f u } ≡ m u)
    → members us (map (λ u. f u ∷ []) us) ≡ map m us
members-one m f [] same = refl
members-one m f (u ∷ us) same = rw (same u, members-one m f us same) refl

record AreOwn (s : StructureForm) (pred : ℕ) (aim : AimForm) (ms : List MemberForm) : Type 0 where
  pub count : length ms ≡ s.size
  pub at : (i : ℕ) → i < s.size → member_at ms i ≡ own_member (structure_of s) pred aim i
  pub copy : (u : ℕ) → u < s.size → copy_of ms u ≡ u

are-own : (s : StructureForm) (pred : ℕ) (aim : AimForm) → IsSharp (structure_of s) pred (Each aim)
    → AreOwn s pred aim (members (structure_of s).individuals (own_choice (structure_of s) pred aim))
are-own s pred aim sharp =
    let l : LogicalStructure = structure_of s
    in let ms : List MemberForm = members l.individuals (own_choice l pred aim)
    in let is : ms ≡ map (own_member l pred aim) l.individuals
    = members-one (own_member l pred aim) (own_values l pred aim) l.individuals (λ u. refl)
    in let count : length ms ≡ s.size
    = ap length is ∙ length-map l.individuals (own_member l pred aim) ∙ length-range_with_len 0 s.size
    in let at : (i : ℕ) → i < s.size → member_at ms i ≡ own_member l pred aim i
    = λ i lt. ap (λ xs. member_at xs i) is
    ∙ get_or-map (own_member l pred aim) l.individuals i 0 nobody (rw (length-range_with_len 0 s.size) lt)
    ∙ ap (own_member l pred aim) (get_or-range_with_len 0 s.size i 0 lt ∙ omega arith)
    in let Has : List ChoiceForm → Type 0 = λ cs. Contains cs (own_choice l pred aim)
    in let copies : Copies s ms
    = copies-are s pred aim (own_choice l pred aim) (subst Has (sym (choices-one l pred aim sharp)) (Contains-here (own_choice l pred aim) []))
    in record {
      count = count;
      at = at;
      copy = λ u lt. ap (λ m. m.origin) (sym (at (copy_of ms u) (omega (arith, copies.inside u lt, count)))) ∙ copies.origin u lt;
    }

-- ---- its structure

with-own : (h : ℕ → K3) (anchors : List ℕ) (u : ℕ) → with_anchor anchors (map h anchors) u (h u) ≡ h u
with-own h [] u = refl
with-own h (a ∷ anchors) u =
    ⊎_elim
    (λ e. cond-true (eqb a u) (h a) (with_anchor anchors (map h anchors) u (h u)) (eq-eqb a u e) ∙ ap h e)
    (λ ne. cond-false (eqb a u) (h a) (with_anchor anchors (map h anchors) u (h u)) (ne_eqb a u ne) ∙ with-own h anchors u)
    (cases_eq a u)

origins-own : (s : StructureForm) (pred : ℕ) (aim : AimForm) (ms : List MemberForm) → AreOwn s pred aim ms → (tuple : List ℕ)
    → AreIndividuals s.size tuple → map (λ x. (member_at ms x).origin) tuple ≡ tuple
origins-own s pred aim ms own [] are = refl
origins-own s pred aim ms own (i ∷ tuple) are =
    rw (ap (λ m. m.origin) (own.at i are.0), origins-own s pred aim ms own tuple are.1) refl

focused-own : (s : StructureForm) (pred : ℕ) (aim : AimForm) (ms : List MemberForm) → AreOwn s pred aim ms → (tuple : List ℕ)
    → AreIndividuals s.size tuple → value_at s pred tuple ≡ focused_value (structure_of s) pred aim ms tuple
focused-own s pred Alone ms own [] are = refl
focused-own s pred Alone ms own (i ∷ []) are = sym (ap (λ m. get_or m.vector 0 No) (own.at i are.0))
focused-own s pred Alone ms own (i ∷ j ∷ more) are = ap (value_at s pred) (sym (origins-own s pred Alone ms own (i ∷ j ∷ more) are))
focused-own s pred (Before anchors) ms own [] are = refl
focused-own s pred (Before anchors) ms own (i ∷ []) are =
    ap (value_at s pred) (sym (origins-own s pred (Before anchors) ms own (i ∷ []) are))
focused-own s pred (Before anchors) ms own (i ∷ j ∷ []) are =
    sym (ap (λ m. with_anchor anchors m.vector (member_at ms j).origin (value_at s pred (m.origin ∷ (member_at ms j).origin ∷ []))) (own.at i are.0)
    ∙ ap (λ m. with_anchor anchors (own_values (structure_of s) pred (Before anchors) i) m.origin (value_at s pred (i ∷ m.origin ∷ [])))
    (own.at j are.1.0)
    ∙ ap (λ v. with_anchor anchors v j (value_at s pred (i ∷ j ∷ []))) (map-compose (λ a. i ∷ a ∷ []) (value_at s pred) anchors)
    ∙ with-own (λ a. value_at s pred (i ∷ a ∷ [])) anchors j)
focused-own s pred (Before anchors) ms own (i ∷ j ∷ x ∷ more) are =
    ap (value_at s pred) (sym (origins-own s pred (Before anchors) ms own (i ∷ j ∷ x ∷ more) are))
focused-own s pred (Behind anchors) ms own [] are = refl
focused-own s pred (Behind anchors) ms own (i ∷ []) are =
    ap (value_at s pred) (sym (origins-own s pred (Behind anchors) ms own (i ∷ []) are))
focused-own s pred (Behind anchors) ms own (i ∷ j ∷ []) are =
    sym (ap (λ m. with_anchor anchors m.vector (member_at ms i).origin (value_at s pred ((member_at ms i).origin ∷ m.origin ∷ []))) (own.at j are.1.0)
    ∙ ap (λ m. with_anchor anchors (own_values (structure_of s) pred (Behind anchors) j) m.origin (value_at s pred (m.origin ∷ j ∷ [])))
    (own.at i are.0)
    ∙ ap (λ v. with_anchor anchors v i (value_at s pred (i ∷ j ∷ []))) (map-compose (λ a. a ∷ j ∷ []) (value_at s pred) anchors)
    ∙ with-own (λ a. value_at s pred (a ∷ j ∷ [])) anchors i)
focused-own s pred (Behind anchors) ms own (i ∷ j ∷ x ∷ more) are =
    ap (value_at s pred) (sym (origins-own s pred (Behind anchors) ms own (i ∷ j ∷ x ∷ more) are))

fresh-own : (s : StructureForm) (pred : ℕ) (aim : AimForm) (ms : List MemberForm) → AreOwn s pred aim ms → (mark : Option ℕ)
    → IsMark s mark → mark ≡ option_map (copy_of ms) mark
fresh-own s pred aim ms own None is = refl
fresh-own s pred aim ms own (Some u) is = ap Some (sym (own.copy u is.0))

shows-own : (s : StructureForm) (pred : ℕ) (aim : AimForm) (ms : List MemberForm) → IsStructure s → AreOwn s pred aim ms
    → ShowsOver s s (chosen_over (structure_of s) pred aim ms)
shows-own s pred aim ms is own = record {
  is = is;
  over = refl;
  shows = record {
    individuals = ap (range_with_len 0) (sym own.count);
    values = λ q tuple has. ⊎_elim
        (λ e. (ap (λ p. value_at s p tuple) e ∙ focused-own s pred aim ms own tuple has.individuals)
        ∙ sym (cond-true (eqb q pred) (focused_value (structure_of s) pred aim ms tuple)
        (value_at s q (map (λ x. (member_at ms x).origin) tuple)) (eq-eqb q pred e)))
        (λ ne. ap (value_at s q) (sym (origins-own s pred aim ms own tuple has.individuals))
        ∙ sym (cond-false (eqb q pred) (focused_value (structure_of s) pred aim ms tuple)
        (value_at s q (map (λ x. (member_at ms x).origin) tuple)) (ne_eqb q pred ne)))
        (cases_eq q pred);
    summaries = λ u lt. ap (λ m. summary_at s m.origin) (sym (own.at u lt));
    fresh = fresh-own s pred aim ms own s.fresh is.fresh;
  };
}

-- ---- a nullary predicate

whole-at : (s : StructureForm) (pred : ℕ) (k : K3) → value_at s pred [] ≡ k → (q : ℕ) (tuple : List ℕ)
    → value_at s q tuple ≡ whole_value (structure_of s) pred k q tuple
whole-at s pred k same q [] = ⊎_elim
    (λ e. ap (λ p. value_at s p []) e ∙ same ∙ sym (cond-true (eqb q pred) k (value_at s q []) (eq-eqb q pred e)))
    (λ ne. sym (cond-false (eqb q pred) k (value_at s q []) (ne_eqb q pred ne)))
    (cases_eq q pred)
whole-at s pred k same q (u ∷ more) = refl

whole-own : (s : StructureForm) (pred : ℕ) (k : K3) → IsStructure s → value_at s pred [] ≡ k
    → ShowsOver s s (with_whole (structure_of s) pred k)
whole-own s pred k is same = record {
  is = is;
  over = refl;
  shows = record {
    individuals = refl;
    values = λ q tuple has. whole-at s pred k same q tuple;
    summaries = λ u lt. refl;
    fresh = refl;
  };
}

whole-one : (s : StructureForm) (pred : ℕ) (k : K3) → IsStructure s → k ≢ Half → value_at s pred [] ≡ k
    → AllZip (ShowsOver s) (s ∷ []) (map (with_whole (structure_of s) pred) (definite k))
whole-one s pred No is sharp same = (whole-own s pred No is same, tt)
whole-one s pred Half is sharp same = absurd (sharp refl)
whole-one s pred Yes is sharp same = (whole-own s pred Yes is same, tt)

-- ---- all splits

split-own : (s : StructureForm) (pred : ℕ) (split : SplitForm) → IsStructure s → IsSharp (structure_of s) pred split
    → AllZip (ShowsOver s) (s ∷ []) (split_structures (structure_of s) pred split)
split-own s pred Nothing is sharp = (
  record {
    is = is;
    over = refl;
    shows = record { individuals = refl; values = λ q tuple has. refl; summaries = λ u lt. refl; fresh = refl };
  },
  tt,
)
split-own s pred Whole is sharp = whole-one s pred (value_at s pred []) is sharp refl
split-own s pred (Each aim) is sharp =
    let l : LogicalStructure = structure_of s
    in let Zip : List ChoiceForm → Type 0 = λ cs. AllZip (ShowsOver s) (s ∷ []) (map (chosen l pred aim) cs)
    in subst Zip (sym (choices-one l pred aim sharp))
    (shows-own s pred aim (members l.individuals (own_choice l pred aim)) is (are-own s pred aim sharp), tt)

pub sharp_atoms_stay : SharpAtomsStay
sharp_atoms_stay s f k ts is sharp are =
    sym ((tables_lose_no_heap s f k ts are).one (s ∷ []) (split-own s (atom_at f k).pred (split_at (structure_of s) f k) is sharp))

-- ---- as the code finds it

pub known_sharp : (s : StructureForm) (pred : ℕ) (aim : AimForm)
    → ((u : ℕ) → u < s.size → halves_at (structure_of s) pred aim u ≡ 0) → IsSharp (structure_of s) pred (Each aim)
known_sharp s pred aim known u at = known u (below-range s.size u at)

only : (own one : ChoiceForm) → Contains (own ∷ []) one → own ≡ one
only own one (zero, lt, at) = at
only own one (suc k, lt, at) = absurd (omega (arith, lt))

-- it is within the limits
sharp-limits : (s : StructureForm) (pred : ℕ) (split : SplitForm) → IsStructure s → IsSharp (structure_of s) pred split
    → AreSplitLimitsKept s pred split
sharp-limits s pred Nothing is sharp = tt
sharp-limits s pred Whole is sharp = tt
sharp-limits s pred (Each aim) is sharp =
    let l : LogicalStructure = structure_of s
    in let counted : AreCounted l pred aim = choices_are_counted l pred aim
    in let one : choices l pred aim ≡ own_choice l pred aim ∷ [] = choices-one l pred aim sharp
    in let largest : ChoiceForm = counted.reached.0
    in let Has : List ChoiceForm → Type 0 = λ cs. Contains cs largest
    in let same : own_choice l pred aim ≡ largest = only (own_choice l pred aim) largest (subst Has one counted.reached.1)
    in let count : length (members l.individuals largest) ≡ s.size
    = ap (λ c. length (members l.individuals c)) (sym same) ∙ (are-own s pred aim sharp).count
    in record {
      few = omega (arith, counted.number, ap length one);
      small = omega (arith, counted.reached.2, count, is.table.size);
    }

-- what a stage gives of an atom whose values are known
pub record IsSharpStage (s : StructureForm) (f : Form) (k : ℕ) : Type 0 where
  pub are : AreStage s f k (stage_tables s f k)
  pub same : stage_tables s f k ≡ s ∷ []
  pub within : IsWithinLimits s f k

pub sharp-stage : (s : StructureForm) (f : Form) (k pred : ℕ) (split : SplitForm) → IsStructure s
    → AreAtomsOver (arities_of s) f → k < length (focus_atoms f) → pred ≡ (atom_at f k).pred
    → split ≡ split_at (structure_of s) f k → IsSharp (structure_of s) pred split → IsSharpStage s f k
sharp-stage s f k pred split is over lt same_pred same_split sharp =
    let limits : AreSplitLimitsKept s pred split = sharp-limits s pred split is sharp
    in let are : AreStage s f k (stage_tables s f k) = tables-are-stage s f k pred split is over lt same_pred same_split limits
    in let At : ℕ → Type 0 = λ q. IsSharp (structure_of s) q split
    in let Of : SplitForm → Type 0 = λ one. IsSharp (structure_of s) (atom_at f k).pred one
    in record {
      are = are;
      same = sharp_atoms_stay s f k (stage_tables s f k) is (subst Of same_split (subst At same_pred sharp)) are;
      within = stage-within s f k pred split is same_pred same_split limits;
    }
