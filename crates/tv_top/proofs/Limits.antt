-- What was done could be done: the limits were kept.
use Rattle.std.proofs.Common.{◌<◌, ◌≤◌, ◌⊎◌, ℕ, List, Option, inl, inr, le_refl, arith}
use Rattle.std.proofs.lemmas.Bool.{cases_lt}
use Rattle.tv_listing.specs.declared.analysis.Analysis.{Analysis}
use Rattle.tv_model.specs.Program.{program_of}
use Rattle.tv_outside.specs.Told.{Held}
use Rattle.tv_replay_laws.specs.Laws.{RunsHaveOneEnding}
use Rattle.tv_top.proofs.Fewer.{not_more}
use Rattle.tv_top.proofs.LastRounds.{stays}
use Rattle.tv_top.specs.Answers.{CanBeDone, InRound, IsDone, IsFound, IsJoinFound, KeepsLimits}
use Rattle.tv_top.specs.Answers.{KeepsRoundLimits}
use Rattle.tv_top.specs.Answers.{Reached, demo_max}
use Rattle.tv_top.specs.Meaning.{Task}
use Rattle.tv_words.specs.Words.{CommandForm, Analyzes, Checks, Demos, Joins, Replays, Sources}
use Rattle.tv_work.specs.Analyzed.{KeepAllBudgets}
use Rattle.tv_work.specs.Reach.{AreMoreThan, Point}

found_keeps : (t : Task) (max : ℕ) (a : Analysis) → IsFound t max a → KeepsLimits t max
found_keeps t max a found = record {
  few = not_more max (Reached t) a.listing (λ x reached. (found.exact.exact x.node x.structure).1 reached) found.exact.within;
  budgets = found.exact.budgets;
}

joined_keeps : (t : Task) (max : ℕ) (a : Analysis) → IsJoinFound t max a → KeepsRoundLimits t max
joined_keeps t max a found = record {
  few = λ round. few round (cases_lt found.exact.round round);
  budgets = λ round. budgets round (cases_lt found.exact.round round);
}
  where
    -- what a later round lists is listed by the last
    back : (round : ℕ) → found.exact.round ≤ round → (x : Point) → InRound t round x → InRound t found.exact.round x
    back round le x here =
        (stays (program_of t.program) t.mode t.initial found.exact.round round found.exact.last le x).1 here

    few : (round : ℕ) → (found.exact.round < round) ⊎ (round ≤ found.exact.round) → ¬ AreMoreThan max (InRound t round)
    few round (inl past) =
        let le : found.exact.round ≤ round = omega (arith, past) in
        not_more max (InRound t round) a.listing (λ x here. (found.exact.exact x).1 (back round le x here)) found.exact.within
    few round (inr le) =
        let at = found.exact.rounds round le in
        not_more max (InRound t round) at.found at.all at.most

    budgets : (round : ℕ) → (found.exact.round < round) ⊎ (round ≤ found.exact.round)
        → KeepAllBudgets (program_of t.program) (InRound t round)
    budgets round (inl past) =
        let le : found.exact.round ≤ round = omega (arith, past) in
        λ edge x source. found.exact.budgets found.exact.round (le_refl found.exact.round) edge x (record {
          taken = source.taken;
          is_edge = source.is_edge;
          leaves = source.leaves;
          has = back round le x source.has;
        })
    budgets round (inr le) = found.exact.budgets round le

pub done_could : (one_ending : RunsHaveOneEnding) (told : Option Held) (command : CommandForm) (t : Task) (text : List ℕ)
    → IsDone told command t text → CanBeDone told command t
done_could one_ending told (Analyzes p i max mode delta) t text done = found_keeps t max done.0 done.1
done_could one_ending told (Checks p i report mode maps delta) t text done =
    (done.0, done.1, done.2.closed, done.2.budgets)
done_could one_ending told (Demos number) t text done = found_keeps t demo_max done.0 done.1
done_could one_ending told (Joins p i max mode) t text done = joined_keeps t max done.0 done.1
done_could one_ending told (Replays p i start trace report) t text done =
    let ending = one_ending (program_of t.program) done.4.1.valid done.0 done.1.moves in
    (done.0, done.1, done.2, done.3, ending.made t.initial done.2.listing done.4.0 done.4.1.are)
done_could one_ending told (Sources n i max) t text done = found_keeps t max done.0 done.1
