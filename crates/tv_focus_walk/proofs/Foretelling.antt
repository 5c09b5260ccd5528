-- What is known of choices once an individual has its vectors.
use Rattle.std.proofs.Common.{ℕ, ◌≡◌, ◌<◌, ◌≤◌, ◌+◌, false, List, [], ◌∷◌, ◌++◌, Option, None, Some}
use Rattle.std.proofs.Common.{length}
use Rattle.std.proofs.Common.{map, sym, ap, subst, ◌∙◌, arith, All, Contains, get_or}
use Rattle.std.proofs.Common.{append_assoc}
use Rattle.std.specs.Prelude.{Any}
use Rattle.std.proofs.lemmas.List.Elements.{All-contains, All-tail, Contains-get_or}
use Rattle.std.proofs.lemmas.List.Sums.{sum_by-cons}
use Rattle.tv_kleene.specs.declared.K3.{K3}
use Rattle.tv_stable_laws.specs.Stable.{IsGreatestStable, IsStableUnder, HasNoStable}
use Rattle.tv_structure_form.specs.TableForm.{HasEntry}
use Rattle.tv_structure_form.specs.StructureForm.{StructureForm, IsStructure, split, structure_of, summary_at}
use Rattle.tv_structure_form.specs.StructureForm.{table_of}
use Rattle.tv_eval.specs.ScratchForm.{ScratchForm}
use Rattle.tv_rules.specs.Closing.{closed_rules}
use Rattle.tv_rules.specs.EntryForms.{rules_of}
use Rattle.tv_rules.proofs.Ranges.{rules_are_plain}
use Rattle.tv_coerce.specs.Coerced.{CoercesTo, IsCoercedTable}
use Rattle.tv_focus_laws.specs.Choices.{AimForm, ChoiceForm, VectorSet}
use Rattle.tv_focus_laws.specs.Written.{WriteForm, written}
use Rattle.tv_focus_laws.proofs.Splits.{IsWhole, choice-whole}
use Rattle.tv_focus.specs.Anchored.{IsAimOver}
use Rattle.tv_focus.specs.Puts.{AreChosen, set_writes}
use Rattle.tv_focus_step_laws.specs.Above.{IsBegun, IsOfVector, VectorsLead, aim_after, copies_so_far}
use Rattle.tv_focus_step_laws.specs.Above.{parts_at}
use Rattle.tv_focus_step_laws.specs.Above.{LeadsTo, writes_at}
use Rattle.tv_focus_step_laws.proofs.Above.{sharpened_lead, singles_lead, splits_lead}
use Rattle.tv_focus_step_laws.proofs.Narrowing.{vectors_refute, ordinaries_refute}
use Rattle.tv_focus_walk.specs.declared.narrow.Outlook.{Outlook}
use Rattle.tv_focus_walk.specs.declared.narrow.Outlook.TheVariants.{Nothing, Same, Next}
use Rattle.tv_focus_walk.specs.declared.since.Since.{Since}
use Rattle.tv_focus_walk.specs.declared.walk.Walk.{Walk}
use Rattle.tv_focus_walk.specs.Walk.{AreRefuted, CanWalk, Foretells, HasOther, IsAbove, IsReady, LeadsOn}
use Rattle.tv_focus_walk.specs.Walk.{Sharpens}
use Rattle.tv_focus_walk.specs.Walk.{walk_aim, walk_pred, walk_program}
use Rattle.tv_focus_walk.proofs.Choices.{some-choice}
use Rattle.tv_focus_walk.proofs.Coercing.{coerced-size, small-choice}
use Rattle.tv_focus_walk.proofs.Ready.{aim-over, vector-entries, set-entries}
use Rattle.tv_focus_walk.proofs.Splits.{set-of_vectors}

-- ---- vectors that contradict

pub apart-refutes : (w : Walk) (scratch : ScratchForm) (begun : ChoiceForm) (c : StructureForm) (aim : AimForm)
    (since : Since) (set : VectorSet) → CanWalk w scratch → IsReady w begun c aim since
    → Any (HasOther c (walk_pred w) aim (copies_so_far begun)) set → AreRefuted w begun c (begun ++ set ∷ [])
apart-refutes w scratch begun c aim since set can ready (k, vector, inside, is, other) choice begins above =
    vectors_refute (closed_rules (walk_program w)) w.from.now (walk_pred w) (walk_aim w) choice begun set c vector
    can.choosing.aim (small-choice w scratch choice can above.of) begins (k, inside, is)
    (subst (λ a. HasOther c (walk_pred w) a (copies_so_far begun) vector) ready.aimed other) above.leads

pub ordinary-refutes : (w : Walk) (scratch : ScratchForm) (begun : ChoiceForm) (c : StructureForm)
    (set : VectorSet) → CanWalk w scratch → 1 < length set → summary_at c (copies_so_far begun) ≡ false
    → AreRefuted w begun c (begun ++ set ∷ [])
ordinary-refutes w scratch begun c set can many plain choice begins above =
    ordinaries_refute (closed_rules (walk_program w)) w.from.now (walk_pred w) (walk_aim w) choice begun set c
    can.choosing.aim (small-choice w scratch choice can above.of) begins many plain above.leads

-- ---- vectors that are put

pub single-leads : (w : Walk) (scratch : ScratchForm) (begun : ChoiceForm) (c : StructureForm) (set : VectorSet)
    → CanWalk w scratch → length set ≡ 1 → LeadsOn w begun c (begun ++ set ∷ []) c
single-leads w scratch begun c set can one choice begins above = record {
  of = above.of;
  leads = singles_lead (closed_rules (walk_program w)) w.from.now (walk_pred w) (walk_aim w) choice begun set c
      can.choosing.aim (small-choice w scratch choice can above.of) begins one above.leads;
}

pub split-leads : (w : Walk) (scratch : ScratchForm) (begun : ChoiceForm) (c : StructureForm) (set : VectorSet)
    (behind : ℕ) → CanWalk w scratch → IsStructure c → length begun + (behind + 1) ≡ w.from.now.size
    → LeadsOn w begun c (begun ++ set ∷ []) (split c (parts_at (copies_so_far begun) (length set) behind))
split-leads w scratch begun c set behind can is size choice begins above = record {
  of = above.of;
  leads = splits_lead (closed_rules (walk_program w)) w.from.now (walk_pred w) (walk_aim w) choice begun set c behind
      can.choosing.aim (small-choice w scratch choice can above.of) begins is size above.leads;
}

put-leads : (w : Walk) (scratch : ScratchForm) (begun : ChoiceForm) (c t : StructureForm) (set : VectorSet)
    (writes : List WriteForm) → VectorsLead → CanWalk w scratch → IsStructure c
    → All (λ (x : WriteForm). HasEntry (table_of c) (walk_pred w) x.tuple) writes
    → All (IsOfVector (aim_after (begun ++ set ∷ []) (walk_aim w)) (copies_so_far begun) set) writes
    → t ≡ written c (walk_pred w) writes
    → (choice : ChoiceForm) → IsBegun (begun ++ set ∷ []) choice → IsAbove w (begun ++ set ∷ []) c choice
    → IsAbove w (begun ++ set ∷ []) t choice
put-leads w scratch begun c t set writes lead can is fit those put choice begins above = record {
  of = above.of;
  leads = subst (LeadsTo (closed_rules (walk_program w)) w.from.now (walk_pred w) (walk_aim w) choice (begun ++ set ∷ []))
      (sym put)
      (lead (closed_rules (walk_program w)) w.from.now (walk_pred w) (walk_aim w) choice begun set c writes
      can.choosing.aim (small-choice w scratch choice can above.of) begins is fit those above.leads);
}

-- one vector
pub vector-leads : (w : Walk) (scratch : ScratchForm) (begun : ChoiceForm) (c t : StructureForm) (aim next : AimForm)
    (since : Since) (set : VectorSet) (vector : List K3) → VectorsLead → CanWalk w scratch
    → IsReady w begun c aim since → set ≡ vector ∷ [] → copies_so_far begun < c.size
    → aim ≡ aim_after (begun ++ set ∷ []) (walk_aim w)
    → t ≡ written c (walk_pred w) (writes_at aim (copies_so_far begun) vector)
    → LeadsOn w begun c (begun ++ set ∷ []) t
vector-leads w scratch begun c t aim next since set vector lead can ready one lt same put choice begins above =
    put-leads w scratch begun c t set (writes_at aim (copies_so_far begun) vector) lead can ready.so.is
    (vector-entries c (walk_pred w) aim (copies_so_far begun) vector ready.over lt)
    (λ k d inside. (
      0,
      omega (arith, ap length one),
      subst (λ a. Contains (writes_at a (copies_so_far begun + 0) (get_or set 0 [])) (get_or (writes_at aim (copies_so_far begun) vector) k d))
          same
          (subst (λ those. Contains (writes_at aim (copies_so_far begun + 0) (get_or those 0 []))
          (get_or (writes_at aim (copies_so_far begun) vector) k d)) (sym one)
          (subst (λ p. Contains (writes_at aim p vector) (get_or (writes_at aim (copies_so_far begun) vector) k d))
          (omega arith) (Contains-get_or (writes_at aim (copies_so_far begun) vector) k d inside))),
    ))
    put choice begins
    (single-leads w scratch begun c set can (ap length one) choice begins above)

-- several
pub vectors-lead : (w : Walk) (scratch : ScratchForm) (begun : ChoiceForm) (c d t : StructureForm) (next : AimForm)
    (set : VectorSet) (behind : ℕ) → VectorsLead → CanWalk w scratch → IsStructure c
    → length begun + (behind + 1) ≡ w.from.now.size
    → d ≡ split c (parts_at (copies_so_far begun) (length set) behind) → IsStructure d
    → IsAimOver d (walk_pred w) next → copies_so_far begun + length set ≤ d.size
    → next ≡ aim_after (begun ++ set ∷ []) (walk_aim w)
    → t ≡ written d (walk_pred w) (set_writes next (copies_so_far begun) set)
    → LeadsOn w begun c (begun ++ set ∷ []) t
vectors-lead w scratch begun c d t next set behind lead can is size made table over le same put choice begins above =
    put-leads w scratch begun d t set (set_writes next (copies_so_far begun) set) lead can table
    (set-entries d (walk_pred w) next (copies_so_far begun) set over le)
    (subst (λ a. All (IsOfVector a (copies_so_far begun) set) (set_writes next (copies_so_far begun) set)) same
    (set-of_vectors next (copies_so_far begun) set))
    put choice begins
    (subst (λ x. IsAbove w (begun ++ set ∷ []) x choice) (sym made)
    (split-leads w scratch begun c set behind can is size choice begins above))

-- ---- coerce

pub none-refutes : (w : Walk) (scratch : ScratchForm) (next : ChoiceForm) (t : StructureForm) (aim : AimForm)
    (since : Since) (found : Option StructureForm) → CanWalk w scratch → IsReady w next t aim since
    → CoercesTo (rules_of w.closed.now) t found → found ≡ None → AreRefuted w next t next
none-refutes w scratch next t aim since found can ready to is choice begins above =
    (sharpened_lead (closed_rules (walk_program w)) w.from.now (walk_pred w) (walk_aim w) choice next t
    (rules_are_plain (walk_program w) can.valid) can.choosing.aim (small-choice w scratch choice can above.of) begins
    ready.so above.leads).none
    (subst (λ rules. HasNoStable rules (structure_of t)) can.rules (subst (CoercesTo (rules_of w.closed.now) t) is to))

pub found-table : (w : Walk) (t d : StructureForm) (found : Option StructureForm)
    → CoercesTo (rules_of w.closed.now) t found → found ≡ Some d → IsCoercedTable (rules_of w.closed.now) t d
found-table w t d found to is = subst (CoercesTo (rules_of w.closed.now) t) is to

pub some-ready : (w : Walk) (scratch : ScratchForm) (next : ChoiceForm) (t d : StructureForm) (aim : AimForm)
    (since new : Since) → CanWalk w scratch → IsReady w next t aim since
    → IsCoercedTable (rules_of w.closed.now) t d → IsReady w next d aim new
some-ready w scratch next t d aim since new can ready table = record {
  so = record {
    is = table.is;
    size = coerced-size t d (rules_of w.closed.now) table.greatest ∙ ready.so.size;
    over = table.over ∙ ready.so.over;
  };
  aimed = ready.aimed;
  over = aim-over t d (walk_pred w) aim table.over (coerced-size t d (rules_of w.closed.now) table.greatest) ready.over;
  rest = λ rule at blind.
      All-contains (IsStableUnder (structure_of d)) (rules_of w.closed.now) rule table.greatest.stable at;
}

pub some-leads : (w : Walk) (scratch : ScratchForm) (next : ChoiceForm) (t d : StructureForm) (aim : AimForm)
    (since : Since) → CanWalk w scratch → IsReady w next t aim since
    → IsCoercedTable (rules_of w.closed.now) t d → LeadsOn w next t next d
some-leads w scratch next t d aim since can ready table choice begins above = record {
  of = above.of;
  leads = (sharpened_lead (closed_rules (walk_program w)) w.from.now (walk_pred w) (walk_aim w) choice next t
      (rules_are_plain (walk_program w) can.valid) can.choosing.aim (small-choice w scratch choice can above.of)
      begins ready.so above.leads).kept d
      (subst (λ rules. IsGreatestStable rules (structure_of t) (structure_of d)) can.rules table.greatest) table.mark;
}

-- ---- both

pub then-foretells : (w : Walk) (begun : ChoiceForm) (set : VectorSet) (c t : StructureForm) (outlook : Outlook)
    → LeadsOn w begun c (begun ++ set ∷ []) t → Sharpens w (begun ++ set ∷ []) t outlook
    → Foretells w begun set c outlook
then-foretells w begun set c t Nothing leads refuted =
    λ choice begins above. refuted choice begins (leads choice begins above)
then-foretells w begun set c t Same leads none = absurd none
then-foretells w begun set c t (Next given) leads (is, later) =
    (is, λ choice begins above. later choice begins (leads choice begins above))

-- ---- room

sum-many : (choice : ChoiceForm) → All (λ set. 1 ≤ length set) choice → length choice ≤ copies_so_far choice
sum-many [] some = omega arith
sum-many (set ∷ choice) some =
    omega (
      arith,
      some 0 [] (omega arith),
      sum_by-cons (λ n. n) (length set) (map length choice),
      sum-many choice (All-tail (λ (own : VectorSet). 1 ≤ length own) set choice some),
    )

sum-both : (begun tail : ChoiceForm) → copies_so_far (begun ++ tail) ≡ copies_so_far begun + copies_so_far tail
sum-both [] tail = omega arith
sum-both (set ∷ begun) tail =
    omega (
      arith,
      sum_by-cons (λ n. n) (length set) (map length (begun ++ tail)),
      sum_by-cons (λ n. n) (length set) (map length begun),
      sum-both begun tail,
    )

-- the next set isn't empty, and there is room for its copies
pub record HasRoom (c : StructureForm) (set : VectorSet) : Type 0 where
  pub some : 1 ≤ length set
  pub few : c.size + length set ≤ 257

pub room : (w : Walk) (begun : ChoiceForm) (c : StructureForm) (aim : AimForm) (since : Since) (set : VectorSet)
    (rest : List (List VectorSet)) → IsReady w begun c aim since
    → AreChosen (IsAbove w begun c) (begun ++ set ∷ []) rest → All (λ those. 1 ≤ length those) rest
    → length begun + (length rest + 1) ≡ w.from.now.size → HasRoom c set
room w begun c aim since set rest ready above some places =
    let found = some-choice (IsAbove w begun c) (begun ++ set ∷ []) rest above some
    in let whole : IsWhole (structure_of w.from.now).individuals found.0
    = choice-whole (structure_of w.from.now) (walk_pred w) (walk_aim w) found.0 found.2.of.listed
    in let is : found.0 ≡ begun ++ (set ∷ found.1.0) = found.1.1 ∙ append_assoc begun (set ∷ []) found.1.0
    in let those : All (λ (own : VectorSet). 1 ≤ length own) (set ∷ found.1.0)
    = later begun (set ∷ found.1.0) (subst (λ all. All (λ (own : VectorSet). 1 ≤ length own) all) is whole.some)
    in record {
      some = those 0 [] (omega arith);
      few = omega (
        arith,
        ready.so.size,
        places,
        found.1.2,
        found.2.of.few,
        ap copies_so_far is,
        sum-both begun (set ∷ found.1.0),
        sum_by-cons (λ n. n) (length set) (map length found.1.0),
        sum-many found.1.0 (All-tail (λ (own : VectorSet). 1 ≤ length own) set found.1.0 those),
      );
    }
  where
    later : (xs ys : ChoiceForm) → All (λ (own : VectorSet). 1 ≤ length own) (xs ++ ys)
        → All (λ (own : VectorSet). 1 ≤ length own) ys
    later [] ys all = all
    later (x ∷ xs) ys all = later xs ys (All-tail (λ (own : VectorSet). 1 ≤ length own) x (xs ++ ys) all)
