-- How often files are begun, by several readings after each other.
use Rattle.std.proofs.Common.{◌≡◌, ℕ, ◌+◌, ◌≤◌, min, List, Option, None, Some, Result, Ok, Err, arith, refl}
use Rattle.std.proofs.Common.{ap, sym, subst, ◌∙◌, inl, inr}
use Rattle.std.specs.Prelude.{IfErr, OnOk}
use Rattle.tv_lex.proofs.Begins.{begins_alike, begins_at_most, begins_within, never_begun, one_more}
use Rattle.tv_lex.specs.Gather.{BeginsBy}
use Rattle.tv_listing.specs.declared.analysis.Analysis.{Analysis}
use Rattle.tv_model.specs.declared.program.Program.{Program}
use Rattle.tv_outside.specs.Count.{counted}
use Rattle.tv_outside.specs.Told.{Held}
use Rattle.tv_status.specs.declared.status.FileKind.{FileKind}
use Rattle.tv_status.specs.declared.status.Role.{Role}
use Rattle.tv_status.specs.declared.status.Role.TheVariants as role
use Rattle.tv_status.specs.declared.status.Status.{Status}
use Rattle.tv_texts.proofs.Begins.{begins_anyway}
use Rattle.tv_texts.specs.Files.{IsFileCause, BeginsUpTo, program_begins}
use Rattle.tv_texts.specs.declared.fault.TextFault.{TextFault}
use Rattle.tv_texts.specs.declared.fault.TextFault.TheVariants as text
use Rattle.tv_top.specs.Begins.{BeginsDuly, BeginsFew, BeginsFor, BeginsMet, BeginsThere, BeginsWithin}
use Rattle.tv_top.specs.Begins.{begins_of, begins_to, origin_begins}
use Rattle.tv_top.specs.Call.{UnlessFault}
use Rattle.tv_top.specs.Delivery.{EndsAs, status_of}
use Rattle.tv_top.specs.Faults.{fault_of_text}
use Rattle.tv_top.specs.Work.{IsJoinSearchCause, IsJudgementCause, IsSearchCause, Names, UnlessReadFault}
use Rattle.tv_top.specs.Work.{role_of}
use Rattle.tv_top.specs.Meaning.{Commands, Task}
use Rattle.tv_top.specs.declared.fault.Answer.{Answer}
use Rattle.tv_top.specs.declared.fault.Answer.TheVariants as answer
use Rattle.tv_top.specs.declared.fault.Fault.{Fault}
use Rattle.tv_top.specs.declared.fault.Fault.TheVariants as fault
use Rattle.tv_top.specs.declared.inputs.Origin.{Origin}
use Rattle.tv_top.specs.declared.inputs.Origin.TheVariants as origin
use Rattle.tv_words.specs.Words.{CommandForm, Analyzes, Checks, Demos, Joins, Replays, Sources, Spells}

-- one file more than those of a program and some others
pub another : (told : Option Held) (program : List ℕ) (k old mid new : ℕ)
    → BeginsBy told (λ held. program_begins held program + k) old mid → new ≡ counted mid 1
    → BeginsBy told (λ held. program_begins held program + (k + 1)) old new
another told program k old mid new before h =
    one_more told (λ held. program_begins held program + k) (λ held. program_begins held program + (k + 1)) old mid new
    (λ held. one_longer (program_begins held program)) before h
  where
    one_longer : (n : ℕ) → n + (k + 1) ≡ n + k + 1
    one_longer n = omega arith

-- said of the command, said of the words that spell it
pub spelled_begins : {T : Type 0} (result : Result T Fault) (words : List (List ℕ)) (command : CommandForm)
    (P : CommandForm → Type 0) → Spells words command → OnOk result (P command) → OnOk result (Commands words P)
spelled_begins (Ok found) words command P spells h = (command, spells, h)
spelled_begins (Err met) words command P spells h = tt

-- a call ends as its work did, unless a sink failed
pub duly_begun : (found : Result Answer Fault) (status : Status) (words : List (List ℕ)) (told : Option Held) (old new : ℕ)
    → EndsAs found status → OnOk found (Commands words (BeginsFor told old new))
    → IfErr found (λ f. BeginsDuly words told old new (status_of f)) → BeginsDuly words told old new status
duly_begun (Ok (answer.Done text)) status words told old new (inl e) h k = rw e h
duly_begun (Ok (answer.Rejected r text)) status words told old new (inl e) h k = rw e h
duly_begun (Ok (answer.Stuck step why text)) status words told old new (inl e) h k = rw e h
duly_begun (Ok a) status words told old new (inr e) h k = rw e tt
duly_begun (Err f) status words told old new (inl e) h k = rw e k
duly_begun (Err f) status words told old new (inr e) h k = rw e tt

-- files that were steady are, unless a call outside failed
pub stays_steady : (found : Result Answer Fault) (status : Status) (P Q : Type 0) → EndsAs found status
    → UnlessReadFault found (P × Q) → UnlessFault status P
stays_steady (Ok (answer.Done text)) status P Q (inl e) h = rw e h.0
stays_steady (Ok (answer.Rejected r text)) status P Q (inl e) h = rw e h.0
stays_steady (Ok (answer.Stuck step why text)) status P Q (inl e) h = rw e h.0
stays_steady (Ok a) status P Q (inr e) h = rw e tt
stays_steady (Err fault.Usage) status P Q (inl e) h = rw e h.0
stays_steady (Err (fault.FileFault role kind)) status P Q (inl e) h = rw e h.0
stays_steady (Err (fault.Structures max)) status P Q (inl e) h = rw e h.0
stays_steady (Err fault.TooManySplits) status P Q (inl e) h = rw e h.0
stays_steady (Err fault.TooManyIndividuals) status P Q (inl e) h = rw e h.0
stays_steady (Err fault.ReadFault) status P Q (inl e) h = rw e tt
stays_steady (Err fault.Memory) status P Q (inl e) h = rw e h.0
stays_steady (Err met) status P Q (inr e) h = rw e tt

-- ---- where there is no answer

shorter : (a b : ℕ) → a + 1 ≤ b → a ≤ b
shorter a b le = omega (arith, le)

few_more : (a b k : ℕ) → b ≡ a → 1 ≤ k → a + 1 ≤ b + k
few_more a b k e le = omega (arith, e, le)

none_behind : (n : ℕ) → n + 0 ≡ n
none_behind n = omega arith

-- no more than all of the command's
few_first : (command : CommandForm) (from : Origin) (initial : List ℕ) → Names command from initial → (held : Held)
    → origin_begins held from + 1 ≤ begins_of held command
few_first (Analyzes p i max mode d) (origin.Program n delta) initial names held =
    few_more (program_begins held n.now) (program_begins held p) 1 (ap (program_begins held) names.0) (omega arith)
few_first (Checks p i report mode maps d) (origin.Program n delta) initial names held =
    few_more (program_begins held n.now) (program_begins held p) 2 (ap (program_begins held) names.0) (omega arith)
few_first (Joins p i max mode) (origin.Program n delta) initial names held =
    few_more (program_begins held n.now) (program_begins held p) 1 (ap (program_begins held) names.0) (omega arith)
few_first (Replays p i start trace report) (origin.Program n delta) initial names held =
    few_more (program_begins held n.now) (program_begins held p) 4 (ap (program_begins held) names.0) (omega arith)
few_first (Sources s i max) (origin.Source n) initial names held = omega arith
few_first command from initial names held = absurd names

-- files that are begun for a command whose program comes from there
first_begins : (command : CommandForm) (from : Origin) (initial : List ℕ) → Names command from initial → (held : Held)
    → begins_to held command (role_of from) ≡ origin_begins held from
first_begins (Analyzes p i max mode d) (origin.Program n delta) initial names held =
    none_behind (program_begins held p) ∙ ap (program_begins held) names.0
first_begins (Checks p i report mode maps d) (origin.Program n delta) initial names held =
    none_behind (program_begins held p) ∙ ap (program_begins held) names.0
first_begins (Joins p i max mode) (origin.Program n delta) initial names held =
    none_behind (program_begins held p) ∙ ap (program_begins held) names.0
first_begins (Replays p i start trace report) (origin.Program n delta) initial names held =
    none_behind (program_begins held p) ∙ ap (program_begins held) names.0
first_begins (Sources s i max) (origin.Source n) initial names held = refl
first_begins command from initial names held = absurd names

initial_begins : (command : CommandForm) (from : Origin) (initial : List ℕ) → Names command from initial → (held : Held)
    → begins_to held command role.Initial ≡ origin_begins held from + 1
initial_begins (Analyzes p i max mode d) (origin.Program n delta) initial names held =
    ap (λ name. program_begins held name + 1) names.0
initial_begins (Checks p i report mode maps d) (origin.Program n delta) initial names held =
    ap (λ name. program_begins held name + 1) names.0
initial_begins (Joins p i max mode) (origin.Program n delta) initial names held =
    ap (λ name. program_begins held name + 1) names.0
initial_begins (Replays p i start trace report) (origin.Program n delta) initial names held =
    ap (λ name. program_begins held name + 1) names.0
initial_begins (Sources s i max) (origin.Source n) initial names held = refl
initial_begins command from initial names held = absurd names

-- a command has all files begun that it has begun so far
few_of : (told : Option Held) (command : CommandForm) (old new : ℕ) → BeginsFor told old new command
    → BeginsFew told old new command
few_of told command old new h = begins_at_most told (λ held. begins_of held command) old new h

-- a file that is refused is the last that is begun
pub refused_begun : (T : Type 0) (told : Option Held) (command : CommandForm) (its_role : Role) (Refuses : FileKind → Type 0)
    (lacks rose steady : Type 0) (times : Held → ℕ) (old new : ℕ) (e : TextFault)
    → ((held : Held) → begins_to held command its_role ≡ times held) → ((held : Held) → times held ≤ begins_of held command)
    → IsFileCause its_role Refuses lacks rose steady e
    → BeginsUpTo {T = T} (Err e) told times old new → BeginsMet told old new command (fault_of_text e)
refused_begun T told command its_role Refuses lacks rose steady times old new (text.Refused its kind) same few cause h = (
  begins_within told times (λ held. begins_of held command) old new few (begins_at_most told times old new h),
  subst (λ r. BeginsBy told (λ held. begins_to held command r) old new) (sym cause.0)
      (begins_alike told times (λ held. begins_to held command its_role) old new same h),
)
refused_begun T told command its_role Refuses lacks rose steady times old new text.NotRead same few cause h =
    (begins_within told times (λ held. begins_of held command) old new few h, tt)
refused_begun T told command its_role Refuses lacks rose steady times old new text.Memory same few cause h =
    (begins_within told times (λ held. begins_of held command) old new few h, tt)

-- a command whose program isn't had, or whose INITIAL isn't
module _ (told : Option Held) (command : CommandForm) (from : Origin) (initial : List ℕ) (names : Names command from initial)
    (Refuses : FileKind → Type 0) (lacks rose steady : Type 0) where
  pub program_begun : (old new : ℕ) (e : TextFault) → IsFileCause (role_of from) Refuses lacks rose steady e
      → BeginsUpTo {T = Program} (Err e) told (λ held. origin_begins held from) old new
      → BeginsMet told old new command (fault_of_text e)
  program_begun old new e cause h = refused_begun Program told command (role_of from) Refuses lacks rose steady
      (λ held. origin_begins held from) old new e (λ held. first_begins command from initial names held)
      (λ held. shorter _ _ (few_first command from initial names held)) cause h

  pub initial_begun : (old mid new : ℕ) (e : TextFault) → IsFileCause role.Initial Refuses lacks rose steady e
      → BeginsBy told (λ held. origin_begins held from) old mid → new ≡ counted mid 1
      → BeginsMet told old new command (fault_of_text e)
  initial_begun old mid new e cause before h = refused_begun Program told command role.Initial Refuses lacks rose steady
      (λ held. origin_begins held from + 1) old new e (λ held. initial_begins command from initial names held)
      (λ held. few_first command from initial names held) cause
      (begins_anyway {T = Program} (Err e) told (λ held. origin_begins held from + 1) old new
      (one_more told (λ held. origin_begins held from) (λ held. origin_begins held from + 1) old mid new (λ held. refl) before h))

-- a command of which a file behind INITIAL isn't had, which has this role
pub later_begun : (told : Option Held) (command : CommandForm) (its_role : Role) (Refuses : FileKind → Type 0)
    (lacks rose steady : Type 0) (old new : ℕ) (e : TextFault)
    → ((held : Held) → begins_to held command its_role ≤ begins_of held command) → IsFileCause its_role Refuses lacks rose steady e
    → BeginsBy told (λ held. begins_to held command its_role) old new → BeginsMet told old new command (fault_of_text e)
later_begun told command its_role Refuses lacks rose steady old new e few cause h =
    refused_begun Program told command its_role Refuses lacks rose steady (λ held. begins_to held command its_role) old new e
    (λ held. refl) few cause (begins_anyway {T = Program} (Err e) told (λ held. begins_to held command its_role) old new h)

-- an analysis that finds nothing has begun all files
module _ (told : Option Held) (command : CommandForm) (old new : ℕ) (h : BeginsFor told old new command) where
  pub search_begun : (task : Task) (max : ℕ) (f : Fault) → IsSearchCause task max f → BeginsMet told old new command f
  search_begun task max (fault.Structures more) cause = (few_of told command old new h, h)
  search_begun task max fault.TooManySplits cause = (few_of told command old new h, h)
  search_begun task max fault.TooManyIndividuals cause = (few_of told command old new h, h)
  search_begun task max fault.Memory cause = (few_of told command old new h, tt)
  search_begun task max other cause = absurd cause

  pub join_search_begun : (task : Task) (max : ℕ) (f : Fault) → IsJoinSearchCause task max f → BeginsMet told old new command f
  join_search_begun task max (fault.Structures more) cause = (few_of told command old new h, h)
  join_search_begun task max fault.TooManySplits cause = (few_of told command old new h, h)
  join_search_begun task max fault.TooManyIndividuals cause = (few_of told command old new h, h)
  join_search_begun task max fault.Memory cause = (few_of told command old new h, tt)
  join_search_begun task max other cause = absurd cause

  -- and so has a judgement, or a replay
  pub judged_begun : (task : Task) (report : Analysis) (r : Result Answer Fault) → IfErr r (IsJudgementCause task report)
      → IfErr r (BeginsMet told old new command)
  judged_begun task report (Ok a) cause = tt
  judged_begun task report (Err fault.TooManySplits) cause = (few_of told command old new h, h)
  judged_begun task report (Err fault.TooManyIndividuals) cause = (few_of told command old new h, h)
  judged_begun task report (Err fault.Memory) cause = (few_of told command old new h, tt)
  judged_begun task report (Err other) cause = absurd cause

  pub replayed_begun : (r : Result Answer Fault) → IfErr r (λ f. f ≡ fault.Memory) → IfErr r (BeginsMet told old new command)
  replayed_begun (Ok a) cause = tt
  replayed_begun (Err f) cause = rw cause (few_of told command old new h, tt)

-- a demo begins none
pub demo_begun : (told : Option Held) (number old new : ℕ) (r : Result Answer Fault) → new ≡ old
    → IfErr r (BeginsMet told old new (Demos number))
demo_begun told number old new (Ok a) same = tt
demo_begun told number old new (Err f) same = (few_of told (Demos number) old new (never_begun told old new same), there f)
  where
    there : (f : Fault) → BeginsThere told old new (Demos number) f
    there fault.Usage = same
    there fault.ReadFault = tt
    there fault.Memory = tt
    there (fault.FileFault upto kind) = never_begun told old new same
    there (fault.Structures max) = never_begun told old new same
    there fault.TooManySplits = never_begun told old new same
    there fault.TooManyIndividuals = never_begun told old new same

-- said of the command, said of the words that spell it
pub spelled_begun : (words : List (List ℕ)) (told : Option Held) (command : CommandForm) (old new : ℕ) (r : Result Answer Fault)
    → Spells words command → IfErr r (BeginsMet told old new command)
    → IfErr r (λ f. BeginsDuly words told old new (status_of f))
spelled_begun words told command old new (Ok a) spells h = tt
spelled_begun words told command old new (Err fault.Usage) spells h = h.1
spelled_begun words told command old new (Err fault.ReadFault) spells h = tt
spelled_begun words told command old new (Err fault.Memory) spells h = tt
spelled_begun words told command old new (Err other) spells h = (command, spells, h.1)

-- at most as often, of the one command that the words spell
pub spelled_most : ((words : List (List ℕ)) (a b : CommandForm) → Spells words a → Spells words b → a ≡ b) → (words : List (List ℕ))
    (told : Option Held) (command : CommandForm) (old new : ℕ) (r : Result Answer Fault) → Spells words command
    → OnOk r (BeginsFor told old new command) → IfErr r (BeginsMet told old new command) → BeginsWithin words told old new
spelled_most one words told command old new r spells begins begun = λ other as_well.
    subst (BeginsFew told old new) (one words command other spells as_well) (few r begins begun)
  where
    few : (r : Result Answer Fault) → OnOk r (BeginsFor told old new command) → IfErr r (BeginsMet told old new command)
        → BeginsFew told old new command
    few (Ok a) begins begun = few_of told command old new begins
    few (Err f) begins begun = begun.0

-- where nothing is read, nothing is begun
pub unread_most : (words : List (List ℕ)) (told : Option Held) (old : ℕ) → BeginsWithin words told old old
unread_most words told old = λ command spells.
    begins_within told (λ held. 0) (λ held. begins_of held command) old old (λ held. omega arith)
    (begins_at_most told (λ held. 0) old old (never_begun told old old refl))
