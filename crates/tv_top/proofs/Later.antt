-- What files mean stays where each file that is come to holds the same.
use Rattle.std.proofs.Common.{◌≡◌, ℕ, zero, suc, List, [], ◌∷◌, ◌++◌, Bool, true, false, length, Option, None}
use Rattle.std.proofs.Common.{Some, inl, inr, Result, Ok, Err, refl, ap, ◌∙◌}
use Rattle.std.specs.Prelude.{nat_lt, if◌then◌else◌}
use Rattle.tv_lex.specs.Gather.{Event, Begin, Give, Refuse, Gathers, content_events, deepest_include}
use Rattle.tv_lex.specs.Gather.{file_events}
use Rattle.tv_lex.specs.Gather.{gathered, included, line_events, longest_gathered, named_events, one_line}
use Rattle.tv_lex.specs.Gather.{opens}
use Rattle.tv_lex.specs.Include.{include_name, includes, inner_name, lines_of}
use Rattle.tv_lex.specs.declared.gatherer.GatherError.{GatherError}
use Rattle.tv_lex.specs.declared.gatherer.GatherError.TheVariants.{TooLong, IncludeDepth}
use Rattle.tv_model.specs.declared.program.Program.{Program}
use Rattle.tv_outside.specs.Told.{Held, content_of}
use Rattle.tv_texts.specs.Files.{HoldsSuch, IsProgramFile}
use Rattle.tv_top.specs.Kept.{ComesTo, IncludesSuch, KeepsFile, KeepsProgram, NamesSuch}
use Rattle.tv_top.specs.Meaning.{IsTakenProgram}

-- nothing is refused
abbrev IsSmooth : List Event → Type 0
IsSmooth [] = Unit {0}
IsSmooth (Begin ∷ events) = IsSmooth events
IsSmooth (Give bytes ∷ events) = IsSmooth events
IsSmooth (Refuse fault ∷ events) = ⊥

passed : (c : Bool) (r : Result (List ℕ) GatherError) (text : List ℕ) → (if c then Err TooLong else r) ≡ Ok text
    → r ≡ Ok text
passed true r text e = absurd (cc e)
passed false r text e = e

smooth_from : (before : List ℕ) (events : List Event) (text : List ℕ) → gathered before events ≡ Ok text
    → IsSmooth events
smooth_from before [] text e = tt
smooth_from before (Begin ∷ events) text e = smooth_from before events text e
smooth_from before (Refuse fault ∷ events) text e = absurd (cc e)
smooth_from before (Give bytes ∷ events) text e =
    smooth_from (before ++ bytes) events text (passed (nat_lt longest_gathered (length (before ++ bytes))) _ text e)

smooth_front : (xs ys : List Event) → IsSmooth (xs ++ ys) → IsSmooth xs
smooth_front [] ys smooth = tt
smooth_front (Begin ∷ xs) ys smooth = smooth_front xs ys smooth
smooth_front (Give bytes ∷ xs) ys smooth = smooth_front xs ys smooth
smooth_front (Refuse fault ∷ xs) ys smooth = smooth

smooth_back : (xs ys : List Event) → IsSmooth (xs ++ ys) → IsSmooth ys
smooth_back [] ys smooth = smooth
smooth_back (Begin ∷ xs) ys smooth = smooth_back xs ys smooth
smooth_back (Give bytes ∷ xs) ys smooth = smooth_back xs ys smooth
smooth_back (Refuse fault ∷ xs) ys smooth = absurd smooth

short_same : (f g : List ℕ → List Event) (c : Bool) (content : List ℕ)
    → (IsSmooth (line_events f false (lines_of content))
    → line_events g false (lines_of content) ≡ line_events f false (lines_of content))
    → IsSmooth (if c then Refuse TooLong ∷ [] else line_events f false (lines_of content))
    → (if c then Refuse TooLong ∷ [] else line_events g false (lines_of content))
    ≡ (if c then Refuse TooLong ∷ [] else line_events f false (lines_of content))
short_same f g true content same smooth = refl
short_same f g false content same smooth = same smooth

content_same : (f g : List ℕ → List Event) (old new : Option (List ℕ))
    → ((bytes : List ℕ) → old ≡ Some bytes → new ≡ Some bytes)
    → ((content : List ℕ) → old ≡ Some content → IsSmooth (line_events f false (lines_of content))
    → line_events g false (lines_of content) ≡ line_events f false (lines_of content))
    → IsSmooth (content_events f old) → content_events g new ≡ content_events f old
content_same f g None new keeps same smooth = absurd smooth
content_same f g (Some content) new keeps same smooth =
    ap (content_events g) (keeps content refl)
    ∙ short_same f g (nat_lt longest_gathered (length content)) content (same content refl) smooth

module _ (held later : Held) where
  -- all files that one comes to hold the same later
  abbrev KeepsFrom : ℕ → (name : List ℕ) → Type 0
  KeepsFrom left name = (inner : List ℕ) → ComesTo held left name inner → KeepsFile held later inner

  -- what the include lines of a file give
  module _ (left : ℕ) (name : List ℕ)
      (same : (inner : List ℕ) → KeepsFrom left inner → IsSmooth (file_events held left inner)
      → file_events later left inner ≡ file_events held left inner)
    where
      abbrev Names : (inner written : List ℕ) → Type 0
      Names inner written = ComesTo held left (inner_name name written) inner

      named_same : (o : Option (List ℕ))
          → ((inner : List ℕ) → NamesSuch (Names inner) true o → KeepsFile held later inner)
          → IsSmooth (named_events (file_events held left) name o)
          → named_events (file_events later left) name o ≡ named_events (file_events held left) name o
      named_same None keeps smooth = refl
      named_same (Some written) keeps smooth =
          let first = smooth_front (file_events held left (inner_name name written)) (Give (10 ∷ []) ∷ []) smooth in
          ap (λ es. es ++ Give (10 ∷ []) ∷ []) (same (inner_name name written) keeps first)

      one_same : (c : Bool) (line : List ℕ)
          → ((inner : List ℕ) → NamesSuch (Names inner) c (include_name line) → KeepsFile held later inner)
          → IsSmooth (if c then included (file_events held left) name line else Give line ∷ [])
          → (if c then included (file_events later left) name line else Give line ∷ [])
          ≡ (if c then included (file_events held left) name line else Give line ∷ [])
      one_same true line keeps smooth = named_same (include_name line) keeps smooth
      one_same false line keeps smooth = refl

      lines_same : (inside : Bool) (lines : List (List ℕ))
          → ((inner : List ℕ) → IncludesSuch (Names inner) inside lines → KeepsFile held later inner)
          → IsSmooth (line_events (included (file_events held left) name) inside lines)
          → line_events (included (file_events later left) name) inside lines
          ≡ line_events (included (file_events held left) name) inside lines
      lines_same inside [] keeps smooth = refl
      lines_same inside (line ∷ lines) keeps smooth =
          let f = included (file_events held left) name in
          let g = included (file_events later left) name in
          let rest = line_events f (opens inside line) lines in
          let first : one_line g inside line ≡ one_line f inside line
          = one_same (includes inside line) line (λ inner n. keeps inner (inl n))
          (smooth_front (one_line f inside line) rest smooth) in
          let others = lines_same (opens inside line) lines (λ inner n. keeps inner (inr n))
          (smooth_back (one_line f inside line) rest smooth) in
          ap (λ es. es ++ line_events g (opens inside line) lines) first ∙ ap (λ es. one_line f inside line ++ es) others

  file_same : (left : ℕ) (name : List ℕ) → KeepsFrom left name → IsSmooth (file_events held left name)
      → file_events later left name ≡ file_events held left name
  unfolding file_events ComesTo
  file_same zero name keeps smooth =
      let f = included (λ inner. Refuse IncludeDepth ∷ []) name in
      ap (λ es. Begin ∷ es)
      (content_same f f (content_of held name) (content_of later name) (keeps name refl) (λ content e s. refl) smooth)
  file_same (suc left) name keeps smooth =
      let f = included (file_events held left) name in
      let g = included (file_events later left) name in
      ap (λ es. Begin ∷ es)
      (content_same f g (content_of held name) (content_of later name) (keeps name (inl refl))
      (λ content e s. lines_same left name (file_same left) false (lines_of content)
      (λ inner n. keeps inner (inr (content, e, n))) s)
      smooth)

  gathers_later : (name text : List ℕ) → KeepsProgram held later name → Gathers (Some held) name (Ok text)
      → Gathers (Some later) name (Ok text)
  gathers_later name text keeps e =
      ap (gathered [])
      (file_same deepest_include name keeps (smooth_from [] (file_events held deepest_include name) text e))
      ∙ e

  program_later : (name : List ℕ) (p : Program) → KeepsProgram held later name
      → IsProgramFile (Some held) name (Ok p) → IsProgramFile (Some later) name (Ok p)
  program_later name p keeps (text, gathers, means) = (text, gathers_later name text keeps gathers, means)

  pub taken_later : (delta : Bool) (name : List ℕ) (p : Program) → KeepsProgram held later name
      → IsTakenProgram delta (Some held) name (Ok p) → IsTakenProgram delta (Some later) name (Ok p)
  taken_later false name p keeps file = program_later name p keeps file
  taken_later true name p keeps (read, file, differenced) = (read, program_later name read keeps file, differenced)

  pub holds_later : (name : List ℕ) (IsSuch : List ℕ → Type 0) → KeepsFile held later name
      → HoldsSuch (Some held) name IsSuch → HoldsSuch (Some later) name IsSuch
  holds_later name IsSuch keeps (bytes, is, such) = (bytes, keeps bytes is, such)
