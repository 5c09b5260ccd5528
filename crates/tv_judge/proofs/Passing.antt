-- Demands that are met, one after the other.
use Rattle.std.proofs.Common.{ℕ, ◌≡◌, ◌<◌, ◌≤◌, ◌+◌, ◌⊎◌, inl, inr, List, [], ◌∷◌, ◌++◌, length, Some, refl}
use Rattle.std.proofs.Common.{sym, subst, arith}
use Rattle.std.specs.Prelude.{slice_get}
use Rattle.std.proofs.lemmas.Bool.{cases_lt}
use Rattle.std.proofs.lemmas.List.Elements.{Contains-push}
use Rattle.tv_kleene.specs.declared.K3.{K3}
use Rattle.tv_model.specs.declared.program.Edge.{Edge}
use Rattle.tv_model.specs.Valid.{IsValid}
use Rattle.tv_listing.specs.ListingForm.{at_node}
use Rattle.tv_listing.specs.declared.analysis.Item.{Item}
use Rattle.tv_listing.specs.declared.analysis.Item.TheVariants as item
use Rattle.tv_listing.specs.declared.analysis.MapLine.{MapLine}
use Rattle.tv_structure_form.specs.StructureForm.{StructureForm}
use Rattle.tv_step_laws.specs.Budgets.{KeepsBudgets}
use Rattle.tv_step_laws.specs.Closed.{HasLine}
use Rattle.tv_step_laws.specs.Transfer.{IsOpening, HasNoOpening, AreResults}
use Rattle.tv_judge.specs.Items.{IsSource, own_line}
use Rattle.tv_judge.specs.Judged.{Case, IsThere, MaySay, Demand, Covering, demand_order, StandsBefore}
use Rattle.tv_judge.specs.Judged.{IsMapBy}
use Rattle.tv_judge.specs.Progress.{IsLineFor, IsDoneItem, IsOpened, HasStep, MeetsDemand, IsDoneTo, behind}
use Rattle.tv_judge.specs.Progress.{AreResultsAt, AreValuesAt, AreSaidBelow}
use Rattle.tv_judge.proofs.Between.{IsBeforeOr, HoldsAt, over-initial, over-initials, over-step, over-result}
use Rattle.tv_judge.proofs.Between.{over-results, over-all-messages, to-structures, over-structures}
use Rattle.tv_judge.proofs.Between.{over-edges}
use Rattle.tv_judge.proofs.Progressing.{done-on, done-line}
use Rattle.tv_judge.proofs.Reports.{one-there, none-past, source-once, no-opening, there-once, result-past}
use Rattle.tv_judge.proofs.Reports.{say-value}

-- ---- items

item-ahead : (i : Item) → StandsBefore (demand_order (Covering i)) (behind i)
item-ahead (item.Initial number) = inr (refl, inl (omega arith))
item-ahead (item.Result edge structure result) = inr
    (refl, inr (refl, inr (refl, inr (refl, inl (omega arith)))))

over-item : (P : Demand → Type 0) (i : Item) → P (Covering i) → (d : Demand)
    → StandsBefore (demand_order d) (behind i)
    → IsBeforeOr P (demand_order (Covering i)) d
over-item P (item.Initial number) is d before = over-initial P number is d before
over-item P (item.Result edge structure result) is d before = over-result P edge structure result is d before

item-done : (c : Case) (lines : List MapLine) (i : Item) (s : StructureForm) (targets : List StructureForm)
    → IsThere c i s targets
    → IsDoneItem c lines i → MeetsDemand c lines (Covering i)
item-done c lines (item.Initial number) s targets there done = (
  (λ first is. inr (
    s,
    subst (λ f. IsOpening c.program f s)
        (one-there c.initial c.initial number there.first first there.is_initial is refl) there.opening,
  )),
  done,
)
item-done c lines (item.Result edge structure result) s targets there done = done

kept-last : (c : Case) → IsValid c.program
    → (lines : List MapLine) (i : Item) (line : MapLine) (s : StructureForm) (targets : List StructureForm)
    → IsThere c i s targets → IsLineFor c.analysis.maps i targets s line → IsDoneItem c (lines ++ line ∷ []) i
kept-last c valid lines i line s targets there is-line t others also =
    let same = there-once c valid i s t targets others there also
    in record {
      line = line;
      among = Contains-push lines line;
      is_line = subst (λ u. IsLineFor c.analysis.maps i others u line) same.0
          (subst (λ ts. IsLineFor c.analysis.maps i ts s line) same.1 is-line);
    }

-- the line of an item is put behind the others
pub item-passes : (c : Case) → IsValid c.program
    → (lines : List MapLine) (i : Item) (line : MapLine) (s : StructureForm)
    (targets : List StructureForm) → IsThere c i s targets → IsLineFor c.analysis.maps i targets s line
    → IsDoneTo c (demand_order (Covering i)) lines → IsDoneTo c (behind i) (lines ++ line ∷ [])
item-passes c valid lines i line s targets there is-line so-far =
    done-line c (behind i) lines line
    (subst (λ j. StandsBefore (demand_order (Covering j)) (behind i)) (sym is-line.item_is) (item-ahead i))
    (λ d before. subst (λ j. IsBeforeOr (MeetsDemand c (lines ++ line ∷ [])) (demand_order (Covering j)) d)
    (sym is-line.item_is)
    (over-item (MeetsDemand c (lines ++ line ∷ [])) i
    (item-done c (lines ++ line ∷ []) i s targets there
    (kept-last c valid lines i line s targets there is-line)) d before))
    (record {
      s = s;
      targets = targets;
      there = subst (λ j. IsThere c j s targets) (sym is-line.item_is) there;
      map = subst (λ j. IsMapBy (own_line c.analysis.maps j) targets s line)
          (sym is-line.item_is) is-line.map;
    })
    (subst (λ j. IsDoneTo c (demand_order (Covering j)) lines) (sym is-line.item_is) so-far)

-- ---- openings

-- an initial structure has no opening
pub none-passes : (c : Case) (lines : List MapLine) (number : ℕ) (s : StructureForm)
    → slice_get c.initial number ≡ Some s
    → HasNoOpening c.program s → IsDoneTo c (0 ∷ number ∷ []) lines → IsDoneTo c (0 ∷ (number + 1) ∷ []) lines
none-passes c lines number s is none so-far =
    done-on c (0 ∷ number ∷ []) (0 ∷ (number + 1) ∷ []) lines (inr (refl, inl (omega arith)))
    (over-initial (MeetsDemand c lines) number (opened, kept)) so-far
  where
    opened : IsOpened c number
    opened first at = inl (subst (HasNoOpening c.program)
        (one-there c.initial c.initial number s first is at refl) none)

    kept : IsDoneItem c lines (item.Initial number)
    kept t targets there =
        absurd (no-opening c.program s t none
        (subst (λ f. IsOpening c.program f t)
        (one-there c.initial c.initial number there.first s there.is_initial is refl) there.opening))

-- all initial structures are done
pub initials-pass : (c : Case) (lines : List MapLine) (number : ℕ) → length c.initial ≤ number
    → IsDoneTo c (0 ∷ number ∷ []) lines → IsDoneTo c (1 ∷ 0 ∷ []) lines
initials-pass c lines number past so-far =
    done-on c (0 ∷ number ∷ []) (1 ∷ 0 ∷ []) lines (inl (omega arith))
    (over-initials (MeetsDemand c lines) number (λ m more. (
      (λ first is. absurd (none-past c.initial m first (omega (arith, past, more)) is)),
      (λ s targets there. absurd (none-past c.initial m there.first
          (omega (arith, past, more)) there.is_initial)),
    ))) so-far

-- ---- steps

-- the step of a listed structure is there
pub step-passes : (c : Case) (lines : List MapLine) (edge structure : ℕ) (taken : Edge)
    (from : StructureForm) (results : List StructureForm)
    → IsSource c.program c.analysis.listing edge taken structure from → KeepsBudgets c.program edge from
    → AreResults c.program c.mode edge from results → IsDoneTo c (1 ∷ edge ∷ structure ∷ []) lines
    → IsDoneTo c (1 ∷ edge ∷ structure ∷ 1 ∷ 0 ∷ []) lines
step-passes c lines edge structure taken from results source budgets are so-far =
    done-on c (1 ∷ edge ∷ structure ∷ []) (1 ∷ edge ∷ structure ∷ 1 ∷ 0 ∷ []) lines
    (inr (refl, inr (refl, inr (refl, tt))))
    (over-step (MeetsDemand c lines) edge structure
    (λ t f also. subst (HasStep c edge)
    (source-once c.program c.analysis.listing edge taken t structure from f source also).1
    (record { budgets = budgets; results = results; are_results = are }))) so-far

-- all results are done
pub results-pass : (c : Case) → IsValid c.program
    → (lines : List MapLine) (edge structure node result : ℕ) (results : List StructureForm)
    → AreResultsAt c edge structure node results → length results ≤ result
    → IsDoneTo c (1 ∷ edge ∷ structure ∷ 1 ∷ result ∷ []) lines
    → IsDoneTo c (1 ∷ edge ∷ structure ∷ 2 ∷ 0 ∷ []) lines
results-pass c valid lines edge structure node result results at past so-far =
    done-on c (1 ∷ edge ∷ structure ∷ 1 ∷ result ∷ []) (1 ∷ edge ∷ structure ∷ 2 ∷ 0 ∷ []) lines
    (inr (refl, inr (refl, inr (refl, inl (omega arith)))))
    (over-results (MeetsDemand c lines) edge structure result (λ q more s targets there.
    absurd (result-past c valid edge structure node q results at
    (omega (arith, past, more)) s targets there))) so-far

-- all messages that may be true have a line
pub messages-pass : (c : Case) (lines : List MapLine) (edge structure : ℕ) (values : List K3)
    → AreValuesAt c edge structure values → AreSaidBelow c edge structure (length values)
    → IsDoneTo c (1 ∷ edge ∷ structure ∷ 2 ∷ 0 ∷ []) lines
    → IsDoneTo c (1 ∷ edge ∷ (structure + 1) ∷ []) lines
messages-pass c lines edge structure values at said so-far =
    done-on c (1 ∷ edge ∷ structure ∷ 2 ∷ 0 ∷ []) (1 ∷ edge ∷ (structure + 1) ∷ []) lines
    (inr (refl, inr (refl, inl (omega arith))))
    (over-all-messages (MeetsDemand c lines) edge structure
    (λ m say. by m say (cases_lt m (length values)))) so-far
  where
    by : (m : ℕ) → MaySay c edge structure m → (m < length values) ⊎ (length values ≤ m)
        → HasLine c.analysis.messages edge m
    by m say (inl less) = said m less say
    by m say (inr more) =
        let v = say-value c edge structure m values at say in absurd (none-past values m v.0 more v.1)

-- ---- edges

none-listed : (c : Case) (lines : List MapLine) (edge structure : ℕ)
    → ((taken : Edge) (from : StructureForm)
    → IsSource c.program c.analysis.listing edge taken structure from → ⊥)
    → HoldsAt (MeetsDemand c lines) edge structure
none-listed c lines edge structure none = record {
  step = λ taken from source. absurd (none taken from source);
  results = λ r s targets there. absurd (none there.taken there.from there.source);
  messages = λ m say. absurd (none say.taken say.from say.source);
}

pub edge-begins : (c : Case) (lines : List MapLine) (edge : ℕ) → IsDoneTo c (1 ∷ edge ∷ []) lines
    → IsDoneTo c (1 ∷ edge ∷ 0 ∷ []) lines
edge-begins c lines edge so-far =
    done-on c (1 ∷ edge ∷ []) (1 ∷ edge ∷ 0 ∷ []) lines (inr (refl, inr (refl, tt)))
    (to-structures (MeetsDemand c lines) edge) so-far

-- all structures at the edge's source are done
pub structures-pass : (c : Case) (lines : List MapLine) (edge structure : ℕ) (taken : Edge)
    → slice_get c.program.edges edge ≡ Some taken
    → length (at_node c.analysis.listing taken.from) ≤ structure
    → IsDoneTo c (1 ∷ edge ∷ structure ∷ []) lines → IsDoneTo c (1 ∷ (edge + 1) ∷ []) lines
structures-pass c lines edge structure taken is past so-far =
    done-on c (1 ∷ edge ∷ structure ∷ []) (1 ∷ (edge + 1) ∷ []) lines (inr (refl, inl (omega arith)))
    (over-structures (MeetsDemand c lines) edge structure
    (λ t more. none-listed c lines edge t (none t more))) so-far
  where
    none : (t : ℕ) → structure ≤ t → (other : Edge) (from : StructureForm)
        → IsSource c.program c.analysis.listing edge other t from → ⊥
    none t more other from source =
        let same : other ≡ taken = one-there c.program.edges c.program.edges edge other taken source.is_edge
        is refl
        in none-past (at_node c.analysis.listing taken.from) t from (omega (arith, past, more))
        (subst (λ (e : Edge). slice_get (at_node c.analysis.listing e.from) t ≡ Some from) same source.listed)

-- all edges are done
pub edges-pass : (c : Case) (lines : List MapLine) (edge : ℕ) → length c.program.edges ≤ edge
    → IsDoneTo c (1 ∷ edge ∷ []) lines → IsDoneTo c (2 ∷ []) lines
edges-pass c lines edge past so-far =
    done-on c (1 ∷ edge ∷ []) (2 ∷ []) lines (inl (omega arith))
    (over-edges (MeetsDemand c lines) edge (λ f more t. none-listed c lines f t
    (λ taken from source. none-past c.program.edges f taken (omega (arith, past, more)) source.is_edge)))
    so-far
