-- What entries speak of, as the builder of structures sees it.
use Rattle.std.specs.Prelude.{ℕ, ◌≡◌, ◌<◌, List, Some, None, slice_get, slice_index}
use Rattle.tv_model.specs.declared.program.Vocab.{Vocab}
use Rattle.tv_structure_form.specs.StructureForm.{StructureForm, IsStructure, IsOver, arities_of, table_of}
use Rattle.tv_structure_form.specs.TableForm.{HasEntry}
use Rattle.tv_tvs.specs.declared.build.Target.{Target}
use Rattle.tv_tvs.specs.declared.build.Target.TheVariants.{Marks, Values}
use Rattle.tv_tvs.specs.Meaning.{Subject, Summaries, Predicate}

abbrev pub subject_form : Target → Subject
subject_form Marks = Summaries
subject_form (Values p arity) = Predicate p.0 arity

-- the structure has what the target speaks of
abbrev pub Has : Subject → StructureForm → Type 0
Has Summaries s = Unit {0}
Has (Predicate p arity) s = slice_get (arities_of s) p ≡ Some arity

-- the structure has what the target has at this tuple, and may be changed there
abbrev pub HasPlace : Subject → StructureForm → List ℕ → Type 0
HasPlace Summaries s tuple = (slice_index tuple 0 < s.size) × (s.fresh ≡ None)
HasPlace (Predicate p arity) s tuple = HasEntry (table_of s) p tuple

-- a structure over the vocabulary without a mark
pub record IsRead (vocab : Vocab) (s : StructureForm) : Type 0 where
  pub over : IsOver vocab s
  pub fresh : s.fresh ≡ None
  pub structure : IsStructure s

-- individuals, arities and mark stay, and what was a structure is one
pub record KeepsFrame (s t : StructureForm) : Type 0 where
  pub size : t.size ≡ s.size
  pub arities : arities_of t ≡ arities_of s
  pub fresh : t.fresh ≡ s.fresh
  pub structure : IsStructure s → IsStructure t
