-- What a depth-first walk of the definitions knows on its way. A path is given from its end.
use Rattle.std.specs.Prelude.{ℕ, suc, ◌+◌, ◌-◌, ◌≡◌, ◌<◌, ◌≢◌, ◌⊎◌, List, [], ◌∷◌, length, sum_by, Option}
use Rattle.std.specs.Prelude.{Some, slice_get, unwrap_or}
use Rattle.std.specs.Option.{option_map}
use Rattle.tv_vocab.specs.Cycles.{mentioned_at, MentionsPred, RestsOn}
use Rattle.tv_vocab.specs.declared.walk.Mark.{Mark}
use Rattle.tv_vocab.specs.declared.walk.Mark.TheVariants.{Unseen, Open, Done}
use Rattle.tv_vocab.specs.declared.walk.Step.{Step}

-- a number that no predicate has counts as done
abbrev pub mark_at : List Mark → ℕ → Mark
mark_at marks p = unwrap_or (slice_get marks p) Done

abbrev pub IsMarkedDone : List Mark → ℕ → Type 0
IsMarkedDone marks p = mark_at marks p ≡ Done

-- the mention of number k in the definition of p
abbrev pub mention_at : List (List ℕ) → ℕ → ℕ → Option ℕ
mention_at uses p k = slice_get (mentioned_at uses p) k

-- a step of the path, with its next mention seen
abbrev pub seen_next : Step → Step
seen_next step = record { pred = step.pred; seen = step.seen + 1 }

-- the next mention of a step, and the step with this mention seen
abbrev pub next_mention : List (List ℕ) → Step → Option (ℕ × Step)
next_mention uses step = option_map (λ q. (q, seen_next step)) (mention_at uses step.pred step.seen)

-- the first n mentions of p are done
abbrev pub AreDone : List (List ℕ) → List Mark → ℕ → ℕ → Type 0
AreDone uses marks p n = (k q : ℕ) → k < n → mention_at uses p k ≡ Some q → IsMarkedDone marks q

-- the step has come to q by its last mention, and those before it are done
pub record ComesTo (uses : List (List ℕ)) (marks : List Mark) (step : Step) (q : ℕ) : Type 0 where
  pub last : ℕ
  pub is : step.seen ≡ suc last
  pub mentions : mention_at uses step.pred last ≡ Some q
  pub before : AreDone uses marks step.pred last

-- the path has come to q: each step has come to the one before it in the list
abbrev pub LeadsTo : List (List ℕ) → List Mark → List Step → ℕ → Type 0
LeadsTo uses marks [] q = Unit {0}
LeadsTo uses marks (step ∷ steps) q = ComesTo uses marks step q × LeadsTo uses marks steps step.pred

-- the path, of whose last step all mentions so far are done
abbrev pub IsPath : List (List ℕ) → List Mark → List Step → Type 0
IsPath uses marks [] = Unit {0}
IsPath uses marks (step ∷ steps) = AreDone uses marks step.pred step.seen × LeadsTo uses marks steps step.pred

abbrev pub StandsOn : List Step → ℕ → Type 0
StandsOn [] p = ⊥
StandsOn (step ∷ steps) p = (p ≡ step.pred) ⊎ StandsOn steps p

-- a predicate that is done rests on predicates alone that are done, and not on itself
pub record IsSettled (uses : List (List ℕ)) (marks : List Mark) (p : ℕ) : Type 0 where
  pub mentions : (q : ℕ) → MentionsPred uses p q → IsMarkedDone marks q
  pub acyclic : ¬ RestsOn uses p p

-- the marks say what was found, and what is open stands on the path
pub record AreMarks (uses : List (List ℕ)) (marks : List Mark) (steps : List Step) : Type 0 where
  pub count : length marks ≡ length uses
  pub done : (p : ℕ) → IsMarkedDone marks p → IsSettled uses marks p
  pub open_ones : (p : ℕ) → mark_at marks p ≡ Open → StandsOn steps p

-- what was seen stays seen
abbrev pub KeepsSeen : List Mark → List Mark → Type 0
KeepsSeen old new = (p : ℕ) → mark_at old p ≢ Unseen → mark_at new p ≢ Unseen

abbrev pub AllUnseen : List Mark → Type 0
AllUnseen [] = Unit {0}
AllUnseen (mark ∷ marks) = (mark ≡ Unseen) × AllUnseen marks

-- ---- the mentions that are left

abbrev pub step_work : List (List ℕ) → Step → ℕ
step_work uses step = 1 + (length (mentioned_at uses step.pred) - step.seen)

abbrev pub mark_work : List ℕ → Mark → ℕ
mark_work mentioned Unseen = 1 + length mentioned
mark_work mentioned Open = 0
mark_work mentioned Done = 0

abbrev pub marks_work : List (List ℕ) → List Mark → ℕ
marks_work [] marks = 0
marks_work (mentioned ∷ uses) [] = 0
marks_work (mentioned ∷ uses) (mark ∷ marks) = mark_work mentioned mark + marks_work uses marks

-- one for each predicate that is not done, and one for each mention that is not seen
abbrev pub work : List (List ℕ) → List Mark → List Step → ℕ
work uses marks path = marks_work uses marks + sum_by (step_work uses) path
