-- What an analysis wrote is read again, and is closed.
use Rattle.std.proofs.Common.{◌≡◌, ◌≢◌, ◌<◌, ℕ, zero, suc, List, [], ◌∷◌, map, length, get_or, Option, None}
use Rattle.std.proofs.Common.{Some, inl, inr, false, refl, le_refl, sym, ap, subst, ◌∙◌, arith}
use Rattle.std.specs.Prelude.{All, AllPairs, Any, Contains, IsSome, slice_get, ◌↔◌}
use Rattle.std.proofs.lemmas.List.{length-map, get_or-map}
use Rattle.std.proofs.lemmas.List.Folds.{map_fixed}
use Rattle.tv_structure_form.proofs.Library.{unmarked-same}
use Rattle.tv_join.specs.Rounds.{IsInRound, point}
use Rattle.tv_judge.specs.Judged.{KeepsAllBudgets}
use Rattle.tv_judge.specs.Laws.{ClosedListingsAreClosedReports}
use Rattle.tv_kleene.specs.declared.K3.{K3}
use Rattle.tv_kleene.specs.declared.K3.TheVariants.{No}
use Rattle.tv_listing.specs.ListingForm.{at_node}
use Rattle.tv_listing.specs.Listed.{IsListing}
use Rattle.tv_listing.specs.declared.analysis.Analysis.{Analysis}
use Rattle.tv_listing.specs.declared.analysis.MessageLine.{MessageLine}
use Rattle.tv_model.proofs.Lists.{All-from_contains, slice_get-below, slice_get-none, slice_get-contains}
use Rattle.tv_model.specs.Program.{ProgramForm, MessageForm, program_of}
use Rattle.tv_model.specs.Valid.{IsValid}
use Rattle.tv_model.specs.declared.program.Mode.{Mode}
use Rattle.tv_model.specs.declared.program.Mode.TheVariants.{Given}
use Rattle.tv_report.specs.Laws.{ReportsAreReadAgain, IsReadable, IsShortLine, without_marks}
use Rattle.tv_report.specs.Lines.{message_at, IsMessageLine, AreMapLines, message_key}
use Rattle.tv_report.specs.Meaning.{IsReportText}
use Rattle.tv_report.specs.Text.{report_text}
use Rattle.tv_structure_form.specs.StructureForm.{StructureForm, unmarked}
use Rattle.tv_top.proofs.Later.{holds_later, taken_later}
use Rattle.tv_top.specs.Answers.{IsFound, IsJoinFound, IsDone, Reached, case_for}
use Rattle.tv_top.specs.Laws.{JoinedReportsAreAccepted, ReportsAreAccepted, SourceReportsAreAccepted}
use Rattle.tv_top.specs.Meaning.{Task, FilesMean}
use Rattle.tv_step_laws.proofs.From.{from-back, zip-back}
use Rattle.tv_step_laws.specs.Transfer.{IsOpening, IsResult, IsMessageValue, Steps, Finishes, IsBlurOf}
use Rattle.tv_words.specs.Words.{CommandForm, Analyzes, Checks, Joins, Sources, Spells}
use Rattle.tv_work.specs.Analyzed.{IsBefore, IsReported}
use Rattle.tv_work.specs.Reach.{Point, IsDerivation, IsListed}

-- ---- marks

opening_unmarked : (p : ProgramForm) (s t : StructureForm) → IsOpening p s t → t.fresh ≡ None
opening_unmarked p s t opens = opens.2.1.1.unmarked

result_unmarked : (p : ProgramForm) (mode : Mode) (edge : ℕ) (s t : StructureForm) → IsResult p mode edge s t → t.fresh ≡ None
result_unmarked p mode edge s t result =
    let given : Contains result.1.given t = (result.1.same t).0 result.2 in
    let step = from-back (Steps p mode result.1.action) result.1.at_hand result.1.given result.1.are_given t given in
    let end = from-back (Finishes p) step.made.0 step.own step.made.2 t step.at in
    let blur = zip-back (IsBlurOf p) end.made.0 end.own end.made.2 t end.at in
    blur.2.1.1.unmarked

derived_unmarked : (p : ProgramForm) (mode : Mode) (initial : List StructureForm) (x : Point) (before : List Point)
    → IsDerivation p mode initial x before → x.structure.fresh ≡ None
derived_unmarked p mode initial x [] start = opened start.opens
  where
    opened : Any (λ s. IsOpening p s x.structure) initial → x.structure.fresh ≡ None
    opened any = opening_unmarked p any.1 x.structure any.4
derived_unmarked p mode initial x (b ∷ before) derived =
    result_unmarked p mode derived.0.0 b.structure x.structure derived.0.2.result

-- an analysis of unmarked structures, whose lines are those of the messages that may be true at such points
module _ (task : Task) (a : Analysis) (P : Point → Type 0) (listing : IsListing task.program a.listing)
    (no_maps : a.maps ≡ [])
    (reported : (line : MessageLine) → Contains a.messages line ↔ IsReported (program_of task.program) P line)
    (ordered : AllPairs IsBefore a.messages)
    (here : (node : ℕ) (s : StructureForm) → Contains (at_node a.listing node) s → s.fresh ≡ None) where
  each_unmarked : All (λ ss. map unmarked ss ≡ ss) a.listing
  each_unmarked = λ node d lt. map_fixed unmarked (get_or a.listing node d)
      (All-from_contains (λ s. unmarked s ≡ s) (get_or a.listing node d)
      (λ s there. unmarked-same s (here node s (subst (λ ss. Contains ss s) (get_or_any a.listing node d [] lt) there))))
    where
      get_or_any : (xs : List (List StructureForm)) (k : ℕ) (d e : List StructureForm) → k < length xs → get_or xs k d ≡ get_or xs k e
      get_or_any [] k d e lt = absurd (omega (arith, lt))
      get_or_any (x ∷ xs) zero d e lt = refl
      get_or_any (x ∷ xs) (suc k) d e lt = get_or_any xs k d e (omega (arith, lt))

  no_marks : without_marks a ≡ a
  no_marks = ap (λ l. record a { listing = l }) (map_fixed (map unmarked) a.listing each_unmarked)

  -- ---- lines

  line_named : (line : MessageLine) → Contains a.messages line → IsMessageLine (program_of task.program) line
  line_named line there =
      let told = (reported line).0 there in
      (named line.edge line.number told.said.at.structure line.value told.said.value, told.some)
    where
      some_message : (p : ProgramForm) (messages : List MessageForm) (number : ℕ) (o : Option MessageForm)
          → o ≡ slice_get messages number → number < length messages → IsSome o
      some_message p messages number None e lt = absurd (omega (arith, lt, slice_get-none messages number (sym e)))
      some_message p messages number (Some m) e lt = refl

      named : (edge number : ℕ) (s : StructureForm) (k : K3) → IsMessageValue (program_of task.program) edge s number k
          → IsSome (message_at (program_of task.program) edge number)
      named edge number s k value =
          let below : number < length value.0 = slice_get-below value.0 number k value.2 in
          let count : length value.0 ≡ length value.1.action.messages = ap length value.1.are ∙ length-map value.1.action.messages _ in
          let within : number < length value.1.action.messages = omega (arith, below, count) in
          rw (value.1.its_action.its_edge, value.1.its_action.its_action)
          (some_message (program_of task.program) value.1.action.messages number (slice_get value.1.action.messages number) refl within)

  keys_differ : AllPairs ◌≢◌ (map message_key a.messages)
  keys_differ = λ i j d lt within same.
      let count : length (map message_key a.messages) ≡ length a.messages = length-map a.messages message_key in
      let end : j < length a.messages = omega (arith, within, count) in
      let start : i < length a.messages = omega (arith, end, lt) in
      let none : MessageLine = record { edge = 0; number = 0; value = No } in
      let before = ordered i j none lt end in
      apart (get_or a.messages i none) (get_or a.messages j none) before
      (sym (get_or-map message_key a.messages i none d start) ∙ same ∙ get_or-map message_key a.messages j none d end)
    where
      apart : (l m : MessageLine) → IsBefore l m → message_key l ≡ message_key m → ⊥
      apart l m (inl lt) e = let edges : l.edge ≡ m.edge = ap (λ k. k.0) e in absurd (omega (arith, lt, edges))
      apart l m (inr same) e = let numbers : l.number ≡ m.number = ap (λ k. k.1) e in absurd (omega (arith, same.1, numbers))

  readable : IsReadable task.program a
  readable = record {
    listing = listing;
    messages = (All-from_contains (IsMessageLine (program_of task.program)) a.messages line_named, keys_differ);
    maps = subst (AreMapLines (program_of task.program) a.listing) (sym no_maps)
        (λ k d lt. absurd (omega (arith, lt)), λ i j d lt within. absurd (omega (arith, within)));
    numbers = subst (All IsShortLine) (sym no_maps) (λ k d lt. absurd (omega (arith, lt)));
  }

  -- its text is a report on the program, of which it is the meaning
  read_again : ReportsAreReadAgain → IsValid (program_of task.program)
      → IsReportText task.program (report_text task.program a) a
  read_again again valid =
      subst (λ b. IsReportText task.program (report_text task.program a) b) no_marks (again task.program a valid readable)

-- ---- what was found

module _ (task : Task) (max : ℕ) (a : Analysis) (found : IsFound task max a) where
  here_found : (node : ℕ) (s : StructureForm) → Contains (at_node a.listing node) s → s.fresh ≡ None
  here_found node s there =
      let reached = (found.exact.exact node s).0 there in
      derived_unmarked (program_of task.program) task.mode task.initial (record { node = node; structure = s }) reached.before reached.derivation

  found_again : ReportsAreReadAgain → IsReportText task.program (report_text task.program a) a
  found_again again =
      read_again task a (Reached task) found.listing found.no_maps found.exact.reported found.exact.ordered here_found again found.valid

  keeps_budgets : KeepsAllBudgets (case_for task a)
  keeps_budgets = λ edge taken place s source.
      found.exact.budgets edge (record { node = taken.from; structure = s }) (record {
        taken = taken;
        is_edge = source.is_edge;
        leaves = refl;
        has = (found.exact.exact taken.from s).0 (slice_get-contains (at_node a.listing taken.from) place s source.listed);
      })

-- ---- what was found and joined

joined_unmarked : (p : ProgramForm) (mode : Mode) (initial : List StructureForm) (round : ℕ) (x : Point)
    → IsInRound p mode initial round x → x.structure.fresh ≡ None
joined_unmarked p mode initial zero x (key, some, join) = join.unmarked
joined_unmarked p mode initial (suc round) x (key, some, join) = join.unmarked

module _ (task : Task) (max : ℕ) (a : Analysis) (found : IsJoinFound task max a) where
  here_joined : (node : ℕ) (s : StructureForm) → Contains (at_node a.listing node) s → s.fresh ≡ None
  here_joined node s there =
      joined_unmarked (program_of task.program) task.mode task.initial found.exact.round (point node s) ((found.exact.exact (point node s)).0 there)

  joined_again : ReportsAreReadAgain → IsReportText task.program (report_text task.program a) a
  joined_again again =
      read_again task a (IsListed a.listing) found.listing found.no_maps found.exact.reported found.exact.ordered here_joined again found.valid

  keeps_joined : KeepsAllBudgets (case_for task a)
  keeps_joined = λ edge taken place s source.
      found.exact.budgets found.exact.round (le_refl found.exact.round) edge (point taken.from s) (record {
        taken = taken;
        is_edge = source.is_edge;
        leaves = refl;
        has = (found.exact.exact (point taken.from s)).0 (slice_get-contains (at_node a.listing taken.from) place s source.listed);
      })

-- ---- the laws

module _
    (one_command : (words : List (List ℕ)) (a b : CommandForm) → Spells words a → Spells words b → a ≡ b)
    (again : ReportsAreReadAgain) (closed : ClosedListingsAreClosedReports)
  where
    pub accepted_again : ReportsAreAccepted
    accepted_again words others held later program initial report text max mode maps delta spells checks answer keeps initial_keeps content size =
        let same = one_command words answer.0 (Analyzes program initial max mode delta) answer.1 spells in
        let task = answer.2.0 in
        let means : FilesMean (Some held) (Analyzes program initial max mode delta) task
        = subst (λ c. FilesMean (Some held) c task) same answer.2.1 in
        let done : IsDone (Some held) (Analyzes program initial max mode delta) task text
        = subst (λ c. IsDone (Some held) c task text) same answer.2.2 in
        let a = done.0 in
        let found = done.1 in
        let here = subst (λ t. IsReportText task.program t a) (sym done.2) (found_again task max a found again) in (
          Checks program initial report mode maps delta,
          checks,
          (
            refl,
            (
              task,
              record {
                program = taken_later held later delta program task.program keeps means.program;
                initial = holds_later held later initial _ initial_keeps means.initial;
                mode = means.mode;
              },
              (a, (text, content, (size, here)), closed (case_for task a) found.valid found.no_maps found.closed, keeps_budgets task max a found),
            ),
          ),
        )

    pub joined_accepted : JoinedReportsAreAccepted
    joined_accepted words others held later program initial report text max mode maps spells checks answer keeps initial_keeps content size =
        let same = one_command words answer.0 (Joins program initial max mode) answer.1 spells in
        let task = answer.2.0 in
        let means : FilesMean (Some held) (Joins program initial max mode) task
        = subst (λ c. FilesMean (Some held) c task) same answer.2.1 in
        let done : IsDone (Some held) (Joins program initial max mode) task text
        = subst (λ c. IsDone (Some held) c task text) same answer.2.2 in
        let a = done.0 in
        let found = done.1 in
        let here = subst (λ t. IsReportText task.program t a) (sym done.2) (joined_again task max a found again) in (
          Checks program initial report mode maps false,
          checks,
          (
            refl,
            (
              task,
              record {
                program = taken_later held later false program task.program keeps means.program;
                initial = holds_later held later initial _ initial_keeps means.initial;
                mode = means.mode;
              },
              (a, (text, content, (size, here)), closed (case_for task a) found.valid found.no_maps found.closed, keeps_joined task max a found),
            ),
          ),
        )

    pub source_accepted : SourceReportsAreAccepted
    source_accepted words others held later source initial program report text max maps spells checks answer keeps compiled content size =
        let same = one_command words answer.0 (Sources source initial max) answer.1 spells in
        let task = answer.2.0 in
        let means : FilesMean (Some held) (Sources source initial max) task
        = subst (λ c. FilesMean (Some held) c task) same answer.2.1 in
        let done : IsDone (Some held) (Sources source initial max) task text
        = subst (λ c. IsDone (Some held) c task text) same answer.2.2 in
        let a = done.0 in
        let found = done.1 in
        let here = subst (λ t. IsReportText task.program t a) (sym done.3) (found_again task max a found again) in (
          Checks program initial report Given maps false,
          checks,
          (
            refl,
            (
              task,
              record {
                program = compiled task.program means.program;
                initial = holds_later held later initial _ keeps means.initial;
                mode = means.mode;
              },
              (a, (text, content, (size, here)), closed (case_for task a) found.valid found.no_maps found.closed, keeps_budgets task max a found),
            ),
          ),
        )
