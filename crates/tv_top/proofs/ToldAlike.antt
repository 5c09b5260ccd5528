-- What the standard error is told of two endings that are one but for a place.
use Rattle.std.proofs.Common.{◌≡◌, Bool, true, false, Option, None, Some, inl, inr, refl, sym, ap, subst, ◌∙◌}
use Rattle.tv_front.specs.declared.fault.ProgramFault.TheVariants as program
use Rattle.tv_lex.specs.declared.token.Place.{Place}
use Rattle.tv_phrases.specs.declared.error.SyntaxError.TheVariants as parsing
use Rattle.tv_plang.specs.declared.error.SourceError.TheVariants as source
use Rattle.tv_status.specs.Status.{file_fault_text, kind_name, place_of, text_of}
use Rattle.tv_status.specs.declared.status.FileKind.{FileKind}
use Rattle.tv_status.specs.declared.status.FileKind.TheVariants as kind
use Rattle.tv_status.specs.declared.status.Role.{Role}
use Rattle.tv_status.specs.declared.status.Role.TheVariants as role
use Rattle.tv_status.specs.declared.status.Status.{Status}
use Rattle.tv_status.specs.declared.status.Status.TheVariants.{FileFault}
use Rattle.tv_status.specs.declared.status.Teller.TheVariants.{Analyzer}
use Rattle.tv_texts.specs.Agreement.{placeless}
use Rattle.tv_top.specs.Call.{without_place}
use Rattle.tv_top.specs.One.{AreToldAlike}
use Rattle.tv_tvs.specs.declared.error.TvsError.TheVariants as structures

-- a fault keeps its name, and whether it has a place, where its place is put aside
same_name : (k : FileKind) → kind_name (placeless k) ≡ kind_name k
same_name (kind.Program (program.Parsing (parsing.Syntax place))) = refl
same_name (kind.Program (program.Parsing other)) = refl
same_name (kind.Program other) = refl
same_name (kind.Structures (structures.Syntax place)) = refl
same_name (kind.Structures other) = refl
same_name (kind.Source (source.Syntax place)) = refl
same_name (kind.Source other) = refl
same_name other = refl

abbrev is_placed : Option Place → Bool
is_placed None = false
is_placed (Some place) = true

same_placed : (k : FileKind) → is_placed (place_of (placeless k)) ≡ is_placed (place_of k)
same_placed (kind.Program (program.Parsing (parsing.Syntax place))) = refl
same_placed (kind.Program (program.Parsing other)) = refl
same_placed (kind.Program other) = refl
same_placed (kind.Structures (structures.Syntax place)) = refl
same_placed (kind.Structures other) = refl
same_placed (kind.Source (source.Syntax place)) = refl
same_placed (kind.Source other) = refl
same_placed other = refl

-- a fault is told by its name
named_alike : (r : Role) (k j : FileKind) (place : Option Place) → kind_name k ≡ kind_name j
    → file_fault_text Analyzer r k place ≡ file_fault_text Analyzer r j place
unfolding file_fault_text
named_alike r k j None same = rw same refl
named_alike r k j (Some place) same = rw same refl

module _ (r : Role) (k j : FileKind) (named : kind_name k ≡ kind_name j) where
  by_places : (p q : Option Place) → is_placed p ≡ is_placed q → place_of k ≡ p → place_of j ≡ q
      → AreToldAlike (FileFault r k) (FileFault r j)
  by_places None None same at to =
      inl (ap (file_fault_text Analyzer r k) at ∙ named_alike r k j None named
      ∙ ap (file_fault_text Analyzer r j) (sym to))
  by_places (Some p) (Some q) same at to =
      inr (
        r,
        k,
        p,
        q,
        ap (file_fault_text Analyzer r k) at,
        ap (file_fault_text Analyzer r j) to ∙ sym (named_alike r k j (Some q) named),
      )
  by_places None (Some q) same at to = absurd cc
  by_places (Some p) None same at to = absurd cc

  faults_alike : is_placed (place_of k) ≡ is_placed (place_of j) → AreToldAlike (FileFault r k) (FileFault r j)
  faults_alike same = by_places (place_of k) (place_of j) same refl refl

abbrev role_in : Status → Role
role_in (FileFault r k) = r
role_in other = role.Program

abbrev kind_in : Status → FileKind
kind_in (FileFault r k) = k
kind_in other = kind.TooLong

abbrev IsFault : Status → Type 0
IsFault (FileFault r k) = Unit {0}
IsFault other = ⊥

pub told_alike : (a b : Status) → without_place a ≡ without_place b → AreToldAlike a b
told_alike (FileFault r k) (FileFault s j) same =
    let roles : r ≡ s = ap role_in same in
    let kinds : placeless k ≡ placeless j = ap kind_in same in
    let named : kind_name k ≡ kind_name j = sym (same_name k) ∙ ap kind_name kinds ∙ same_name j in
    let placed : is_placed (place_of k) ≡ is_placed (place_of j)
    = sym (same_placed k) ∙ ap (λ x. is_placed (place_of x)) kinds ∙ same_placed j in
    subst (λ x. AreToldAlike (FileFault r k) (FileFault x j)) roles (faults_alike r k j named placed)
told_alike (FileFault r k) other same = absurd (subst IsFault same tt)
told_alike other (FileFault s j) same = absurd (subst IsFault (sym same) tt)
told_alike a b same = inl (ap text_of same)
