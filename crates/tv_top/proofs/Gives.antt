-- Each file of a command gives one thing at most, where it is told what files hold.
use Rattle.std.proofs.Common.{Bool, true, false, ◌≡◌, ℕ, List, Option, Ok, Err, sym, subst}
use Rattle.std.specs.Prelude.{IsSome}
use Rattle.tv_delta_laws.proofs.OneDifferenced.{one_differenced}
use Rattle.tv_delta_laws.specs.Differences.{IsDifferenced}
use Rattle.tv_demo.specs.Texts.{program_text, lists_text}
use Rattle.tv_listing.specs.declared.analysis.Analysis.{Analysis}
use Rattle.tv_model.specs.Program.{program_of}
use Rattle.tv_model.specs.declared.program.Program.{Program}
use Rattle.tv_outside.specs.Told.{Held}
use Rattle.tv_structure_form.specs.StructureForm.{StructureForm}
use Rattle.tv_texts.proofs.OneFile.{one_file, one_held}
use Rattle.tv_texts.specs.Agreement.{GiveOne, SameProgram}
use Rattle.tv_texts.specs.Meaning.{MeansProgram, MeansInitial, MeansReport, MeansStart, MeansMoves}
use Rattle.tv_texts.specs.Meaning.{MeansSource}
use Rattle.tv_top.specs.Meaning.{IsTakenProgram, GivesProgram, GivesInitial, GivesReport, IsTold, GivesStart}
use Rattle.tv_top.specs.Meaning.{GivesTrace}
use Rattle.tv_trace.specs.declared.trace.Trace.{Trace}
use Rattle.tv_words.specs.Words.{CommandForm, Analyzes, Checks, Demos, Joins, Replays, Sources}

module _
    (programs : (text : List ℕ) → GiveOne SameProgram (MeansProgram text) (MeansProgram text))
    (sources : (text : List ℕ) → GiveOne SameProgram (MeansSource text) (MeansSource text))
    (initials : (p q : Program) → SameProgram p q → (text : List ℕ) → GiveOne ◌≡◌ (MeansInitial p text) (MeansInitial q text))
    (reports : (p q : Program) → SameProgram p q → (text : List ℕ) → GiveOne ◌≡◌ (MeansReport p text) (MeansReport q text))
  where
    -- what differencing makes of a program is one
    one_taken : (told : Option Held) (name : List ℕ) (delta : Bool) → IsSome told
        → GiveOne SameProgram (IsTakenProgram delta told name) (IsTakenProgram delta told name)
    one_taken told name false tells a b h k = one_file programs told name tells a b h k
    one_taken told name true tells (Ok a) (Ok b) h k =
        let same : SameProgram h.0 k.0 = one_file programs told name tells (Ok h.0) (Ok k.0) h.1 k.1 in
        one_differenced (program_of h.0) (program_of a) (program_of b) h.2
        (subst (λ p. IsDifferenced p (program_of b)) (sym same) k.2)
    one_taken told name true tells (Ok a) (Err f) h k = one_file programs told name tells (Ok h.0) (Err f) h.1 k
    one_taken told name true tells (Err e) (Ok b) h k = one_file programs told name tells (Err e) (Ok k.0) h k.1
    one_taken told name true tells (Err e) (Err f) h k = one_file programs told name tells (Err e) (Err f) h k

    pub one_program : (told : Option Held) (command : CommandForm) → IsTold told command
        → GiveOne SameProgram (GivesProgram told command) (GivesProgram told command)
    one_program told (Analyzes program initial max mode delta) tells a b h k = one_taken told program delta tells a b h k
    one_program told (Checks program initial report mode maps delta) tells a b h k =
        one_taken told program delta tells a b h k
    one_program told (Demos number) tells a b h k = programs (program_text number) a b h k
    one_program told (Joins program initial max mode) tells a b h k = one_file programs told program tells a b h k
    one_program told (Replays program initial start trace report) tells a b h k = one_file programs told program tells a b h k
    one_program told (Sources source initial max) tells a b h k =
        one_held SameProgram told source MeansSource MeansSource tells sources a b h k

    pub one_initial : (told : Option Held) (command : CommandForm) → IsTold told command → (p q : Program) → SameProgram p q
        → GiveOne {A = List StructureForm} ◌≡◌ (GivesInitial told command p) (GivesInitial told command q)
    one_initial told (Analyzes program initial max mode delta) tells p q same a b h k =
        one_held ◌≡◌ told initial (MeansInitial p) (MeansInitial q) tells (initials p q same) a b h k
    one_initial told (Checks program initial report mode maps delta) tells p q same a b h k =
        one_held ◌≡◌ told initial (MeansInitial p) (MeansInitial q) tells (initials p q same) a b h k
    one_initial told (Demos number) tells p q same a b h k = initials p q same lists_text a b h k
    one_initial told (Joins program initial max mode) tells p q same a b h k =
        one_held ◌≡◌ told initial (MeansInitial p) (MeansInitial q) tells (initials p q same) a b h k
    one_initial told (Replays program initial start trace report) tells p q same a b h k =
        one_held ◌≡◌ told initial (MeansInitial p) (MeansInitial q) tells (initials p q same) a b h k
    one_initial told (Sources source initial max) tells p q same a b h k =
        one_held ◌≡◌ told initial (MeansInitial p) (MeansInitial q) tells (initials p q same) a b h k

    pub one_report : (told : Option Held) (command : CommandForm) → IsTold told command → (p q : Program) → SameProgram p q
        → GiveOne {A = Analysis} ◌≡◌ (GivesReport told command p) (GivesReport told command q)
    one_report told (Checks program initial report mode maps delta) tells p q same a b h k =
        one_held ◌≡◌ told report (MeansReport p) (MeansReport q) tells (reports p q same) a b h k
    one_report told (Replays program initial start trace report) tells p q same a b h k =
        one_held ◌≡◌ told report (MeansReport p) (MeansReport q) tells (reports p q same) a b h k
    one_report told other tells p q same a b h k = absurd h

module _
    (starts : (p q : Program) → SameProgram p q → (text : List ℕ) → GiveOne ◌≡◌ (MeansStart p text) (MeansStart q text))
    (traces : (p q : Program) → SameProgram p q → (text : List ℕ) → GiveOne ◌≡◌ (MeansMoves p text) (MeansMoves q text))
  where
    pub one_start : (told : Option Held) (command : CommandForm) → IsTold told command → (p q : Program) → SameProgram p q
        → GiveOne {A = StructureForm} ◌≡◌ (GivesStart told command p) (GivesStart told command q)
    one_start told (Replays program initial start trace report) tells p q same a b h k =
        one_held ◌≡◌ told start (MeansStart p) (MeansStart q) tells (starts p q same) a b h k
    one_start told other tells p q same a b h k = absurd h

    pub one_trace : (told : Option Held) (command : CommandForm) → IsTold told command → (p q : Program) → SameProgram p q
        → GiveOne {A = Trace} ◌≡◌ (GivesTrace told command p) (GivesTrace told command q)
    one_trace told (Replays program initial start trace report) tells p q same a b h k =
        one_held ◌≡◌ told trace (MeansMoves p) (MeansMoves q) tells (traces p q same) a b h k
    one_trace told other tells p q same a b h k = absurd h
