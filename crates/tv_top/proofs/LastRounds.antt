-- Behind a last round nothing changes.
use Rattle.std.proofs.Common.{◌≡◌, ◌<◌, ◌≤◌, ◌⊎◌, ℕ, zero, suc, List, inl, inr, subst, arith}
use Rattle.std.specs.Prelude.{◌↔◌}
use Rattle.std.proofs.lemmas.Bool.{cases_lt}
use Rattle.tv_join.specs.Keys.{IsJoinByKey, IsJoinOf, HasKey}
use Rattle.tv_join.specs.Rounds.{IsFollowed, IsInRound, IsLast, point}
use Rattle.tv_model.specs.Program.{ProgramForm}
use Rattle.tv_model.specs.declared.program.Mode.{Mode}
use Rattle.tv_structure_form.specs.StructureForm.{StructureForm}
use Rattle.tv_work.specs.Reach.{Point}

-- the same structures have the same joins. Lemmas of `tv_join` say this and the next; they stand there over
-- what its code does, of which nothing is needed here
joined_alike : (p : ProgramForm) (X Y : StructureForm → Type 0) (t : StructureForm) → ((s : StructureForm) → X s → Y s)
    → ((s : StructureForm) → Y s → X s) → IsJoinOf p X t → IsJoinOf p Y t
joined_alike p X Y t to from join = record {
  is = join.is;
  shaped = join.shaped;
  sizes = λ s y. join.sizes s (from s y);
  values = λ pred tuple entry. record {
    above = λ j (s, y, e). (join.values pred tuple entry).above j (s, from s y, e);
    least = λ l all. (join.values pred tuple entry).least l (λ j (s, x, e). all j (s, to s x, e));
  };
  summaries = λ u lt. (
    λ sm. let has = (join.summaries u lt).0 sm in (has.0, to has.0 has.1, has.2),
    λ (s, y, sm). (join.summaries u lt).1 (s, from s y, sm),
  );
  unmarked = join.unmarked;
}

by_key_alike : (p : ProgramForm) (X Y : StructureForm → Type 0) → ((s : StructureForm) → X s → Y s)
    → ((s : StructureForm) → Y s → X s) → (t : StructureForm) → IsJoinByKey p X t → IsJoinByKey p Y t
by_key_alike p X Y to from t (key, (s, (x, k)), join) = (
  key,
  (s, (to s x, k)),
  joined_alike p (HasKey p X key) (HasKey p Y key) t (λ r (y, e). (to r y, e)) (λ r (y, e). (from r y, e)) join,
)

module _ (p : ProgramForm) (mode : Mode) where
  -- what comes of these points in a round
  abbrev Comes : (Point → Type 0) → ℕ → StructureForm → Type 0
  Comes P node s = P (point node s) ⊎ IsFollowed p mode P (point node s)

  comes_alike : (P Q : Point → Type 0) → ((y : Point) → P y → Q y) → (node : ℕ) (s : StructureForm) → Comes P node s
      → Comes Q node s
  comes_alike P Q to node s (inl has) = inl (to (point node s) has)
  comes_alike P Q to node s (inr (before, has, follows)) = inr (before, to before has, follows)

  next_alike : (P Q : Point → Type 0) → ((y : Point) → P y → Q y) → ((y : Point) → Q y → P y) → (x : Point)
      → IsJoinByKey p (Comes P x.node) x.structure → IsJoinByKey p (Comes Q x.node) x.structure
  next_alike P Q to from x = by_key_alike p (Comes P x.node) (Comes Q x.node) (comes_alike P Q to x.node)
      (comes_alike Q P from x.node) x.structure

  module _ (initial : List StructureForm) where
    abbrev In : ℕ → Point → Type 0
    In round = IsInRound p mode initial round

    pub stays : (round later : ℕ) → IsLast p mode initial round → round ≤ later → (x : Point) → In round x ↔ In later x
    stays round zero last le x =
        let e : round ≡ 0 = omega (arith, le) in subst (λ n. In round x ↔ In n x) e (λ h. h, λ h. h)
    stays round (suc later) last le x = by (λ below. stays round later last below) (cases_lt round (suc later))
      where
        by : ((below : round ≤ later) (y : Point) → In round y ↔ In later y) → (round < suc later) ⊎ (suc later ≤ round)
            → In round x ↔ In (suc later) x
        by before (inl lt) =
            let below : round ≤ later = omega (arith, lt) in (
              λ h. next_alike (In round) (In later) (λ y. (before below y).0) (λ y. (before below y).1) x ((last x).0 h),
              λ h. (last x).1 (next_alike (In later) (In round) (λ y. (before below y).1) (λ y. (before below y).0) x h),
            )
        by before (inr past) =
            let e : round ≡ suc later = omega (arith, le, past) in subst (λ n. In round x ↔ In n x) e (λ h. h, λ h. h)
