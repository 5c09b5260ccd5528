-- There is one joined analysis: behind a round that the next one equals, all are the same.
use Rattle.std.proofs.Common.{ℕ, ◌≡◌, ◌<◌, ◌≤◌, ◌⊎◌, inl, inr, zero, suc, List, [], get_or, sym}
use Rattle.std.proofs.Common.{subst, ◌∙◌, arith}
use Rattle.std.specs.Prelude.{◌↔◌}
use Rattle.std.proofs.lemmas.Bool.{cases_lt}
use Rattle.std.proofs.lemmas.List.{ext_get_or}
use Rattle.tv_model.proofs.Ordered.{ordered_same}
use Rattle.tv_listing.specs.declared.analysis.MessageLine.{MessageLine}
use Rattle.tv_model.specs.Program.{ProgramForm}
use Rattle.tv_model.specs.declared.program.Mode.{Mode}
use Rattle.tv_step_laws.proofs.Exact.{sorted-same}
use Rattle.tv_struct.specs.Order.{structure_cmp, structure_cmp_total}
use Rattle.tv_structure_form.specs.StructureForm.{StructureForm}
use Rattle.tv_work.proofs.Single.{lines_apart}
use Rattle.tv_work.specs.Analyzed.{IsBefore, IsReported}
use Rattle.tv_work.specs.Reach.{IsListed, Point}
use Rattle.tv_work.specs.Task.{TaskForm}
use Rattle.tv_join.specs.Joined.{IsJoined}
use Rattle.tv_join.specs.Laws.{JoinedAnalysesAreOne}
use Rattle.tv_join.specs.Rounds.{IsInRound, IsLast, point}
use Rattle.tv_join.specs.Task.{round_in}
use Rattle.tv_join.proofs.Rounding.{next-round}

module _ (p : ProgramForm) (mode : Mode) (initial : List StructureForm) where
  abbrev t : TaskForm
  t = record { program = p; mode = mode; initial = initial; max = 0 }

  -- behind a last round nothing changes
  stays : (round later : ℕ) → IsLast p mode initial round → round ≤ later → (x : Point)
      → IsInRound p mode initial round x ↔ IsInRound p mode initial later x
  stays round zero last le x =
      let e : round ≡ 0 = omega (arith, le) in
      subst (λ n. IsInRound p mode initial round x ↔ IsInRound p mode initial n x) e (λ h. h, λ h. h)
  stays round (suc later) last le x = by (λ below. stays round later last below) (cases_lt round (suc later))
    where
      by : ((below : round ≤ later) (y : Point) → IsInRound p mode initial round y ↔ IsInRound p mode initial later y)
          → (round < suc later) ⊎ (suc later ≤ round)
          → IsInRound p mode initial round x ↔ IsInRound p mode initial (suc later) x
      by before (inl lt) =
          let below : round ≤ later = omega (arith, lt) in
          let next = next-round t later (round_in t round) (λ y h. (before below y).0 h) (λ y h. (before below y).1 h) x in
          (λ h. next.0 ((last x).0 h), λ h. (last x).1 (next.1 h))
      by before (inr past) =
          let e : round ≡ suc later = omega (arith, le, past) in
          subst (λ n. IsInRound p mode initial round x ↔ IsInRound p mode initial n x) e (λ h. h, λ h. h)

  -- two last rounds list the same
  alike : (round other : ℕ) → IsLast p mode initial round → IsLast p mode initial other → (x : Point)
      → IsInRound p mode initial round x → IsInRound p mode initial other x
  alike round other last ends x = by (cases_lt round other)
    where
      by : (round < other) ⊎ (other ≤ round) → IsInRound p mode initial round x → IsInRound p mode initial other x
      by (inl lt) h = (stays round other last (omega (arith, lt)) x).0 h
      by (inr le) h = (stays other round ends le x).1 h

  listed_alike : (max most : ℕ) (listing other : List (List StructureForm)) (lines others : List MessageLine)
      → IsJoined p mode initial max listing lines → IsJoined p mode initial most other others
      → (x : Point) → IsListed listing x → IsListed other x
  listed_alike max most listing other lines others a b x there =
      (b.exact x).1 (alike a.round b.round a.last b.last x ((a.exact x).0 there))

pub one_joined : JoinedAnalysesAreOne
one_joined p mode initial max most listing other lines others a b = (same, lines_same)
  where
    same : listing ≡ other
    same = ext_get_or [] listing other (a.nodes ∙ sym b.nodes) (λ node lt.
        sorted-same structure_cmp structure_cmp_total (get_or listing node []) (get_or other node [])
        (a.sorted node [] lt) (b.sorted node [] (subst (λ n. node < n) (a.nodes ∙ sym b.nodes) lt))
        (λ s there. listed_alike p mode initial max most listing other lines others a b (point node s) there)
        (λ s there. listed_alike p mode initial most max other listing others lines b a (point node s) there))

    lines_same : lines ≡ others
    lines_same = ordered_same IsBefore lines_apart lines others a.ordered b.ordered
        (λ line there. (b.reported line).1 (subst (λ l. IsReported p (IsListed l) line) same ((a.reported line).0 there)))
        (λ line there. (a.reported line).1 (subst (λ l. IsReported p (IsListed l) line) (sym same) ((b.reported line).0 there)))
