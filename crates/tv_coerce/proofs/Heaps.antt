-- Coerce loses no heap.
use Rattle.std.proofs.Common.{Some, None}
use Rattle.tv_stable_laws.proofs.InHeaps.{sharpening_loses_no_heap}
use Rattle.tv_structure_form.specs.StructureForm.{structure_of}
use Rattle.tv_coerce.specs.Laws.{CoercingLosesNoHeap}

pub coercing_loses_no_heap : CoercingLosesNoHeap
coercing_loses_no_heap rules s None plain to = λ h meets of.
    (sharpening_loses_no_heap of.0 h (structure_of s) rules of.1 plain meets).some to
coercing_loses_no_heap rules s (Some t) plain to = λ h meets of.
    (of.0, (sharpening_loses_no_heap of.0 h (structure_of s) rules of.1 plain meets).kept (structure_of t) to.greatest)
