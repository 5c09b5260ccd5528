-- A named file gives one thing at most, where it is told what files hold.
use Rattle.std.proofs.Common.{◌≡◌, ◌⊎◌, ℕ, List, Option, None, Some, Result, Ok, Err, inl, inr, refl, sym}
use Rattle.std.proofs.Common.{subst}
use Rattle.std.proofs.Common.{◌∙◌}
use Rattle.std.specs.Prelude.{IsSome}
use Rattle.tv_lex.specs.Gather.{Gathers}
use Rattle.tv_lex.specs.declared.gatherer.GatherError.{GatherError}
use Rattle.tv_lex.specs.declared.gatherer.GatherError.TheVariants as gathering
use Rattle.tv_model.specs.declared.program.Program.{Program}
use Rattle.tv_outside.specs.Told.{Held}
use Rattle.tv_status.specs.declared.status.FileKind.{FileKind}
use Rattle.tv_status.specs.declared.status.FileKind.TheVariants as kind
use Rattle.tv_texts.specs.Agreement.{Agree, GiveOne, SameProgram}
use Rattle.tv_texts.specs.Files.{HoldsSuch, IsUngathered, IsProgramFile}
use Rattle.tv_texts.specs.Meaning.{MeansProgram}

-- what a file that is gathered gives: what its text means, or a fault of its includes
abbrev FileView : Held → (name : List ℕ) → Result Program FileKind → Type 0
FileView held name a =
    ((text : List ℕ) × Gathers (Some held) name (Ok text) × MeansProgram text a)
    ⊎ ((e : GatherError) × Gathers (Some held) name (Err e) × (a ≡ Err (kind.Gathering e)))

ungathered : (held : Held) (name : List ℕ) (e : GatherError) → IsUngathered (Some held) name e
    → Gathers (Some held) name (Err e)
ungathered held name gathering.Failed h = absurd h
ungathered held name gathering.Memory h = absurd h
ungathered held name other h = h

file_view : (held : Held) (name : List ℕ) (a : Result Program FileKind) → IsProgramFile (Some held) name a
    → FileView held name a
file_view held name (Ok p) h = inl h
file_view held name (Err (kind.Gathering e)) h = inr (e, ungathered held name e h, refl)
file_view held name (Err other) h = inl h

-- a name holds one content
pub one_held : {A : Type 0} (Same : A → A → Type 0) (told : Option Held) (name : List ℕ)
    (Means Others : List ℕ → Result A FileKind → Type 0)
    → IsSome told
    → ((text : List ℕ) → GiveOne {A = A} Same (Means text) (Others text)) → (a b : Result A FileKind)
    → HoldsSuch told name (λ text. Means text a) → HoldsSuch told name (λ text. Others text b) → Agree {A = A} Same a b
one_held Same None name Means Others tells one a b h k = absurd (let e = tells in cc)
one_held Same (Some held) name Means Others tells one a b h k =
    let both : Some k.0 ≡ Some h.0 = sym k.1 ∙ h.1 in
    let same : k.0 ≡ h.0 = cc in
    one h.0 a b h.2 (subst (λ text. Others text b) same k.2)

module _ (programs : (text : List ℕ) → GiveOne SameProgram (MeansProgram text) (MeansProgram text)) where
  views : (held : Held) (name : List ℕ) (a b : Result Program FileKind) → FileView held name a
      → FileView held name b → Agree SameProgram a b
  views held name a b (inl h) (inl k) =
      let both : Ok k.0 ≡ Ok h.0 = sym k.1 ∙ h.1 in
      let same : k.0 ≡ h.0 = cc in
      programs h.0 a b h.2 (subst (λ text. MeansProgram text b) same k.2)
  views held name a b (inl h) (inr k) = absurd (let both : Ok h.0 ≡ Err k.0 = sym h.1 ∙ k.1 in cc)
  views held name a b (inr h) (inl k) = absurd (let both : Ok k.0 ≡ Err h.0 = sym k.1 ∙ h.1 in cc)
  views held name a b (inr h) (inr k) =
      let both : Err h.0 ≡ Err k.0 = sym h.1 ∙ k.1 in
      let same : h.0 ≡ k.0 = cc in
      rw (h.2, k.2, same) refl

  pub one_file : (told : Option Held) (name : List ℕ) → IsSome told
      → GiveOne SameProgram (IsProgramFile told name) (IsProgramFile told name)
  one_file None name tells a b h k = absurd (let e = tells in cc)
  one_file (Some held) name tells a b h k = views held name a b (file_view held name a h) (file_view held name b k)
