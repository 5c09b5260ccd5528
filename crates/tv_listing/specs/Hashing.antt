-- Equal structures are hashed alike.
use Rattle.std.specs.Prelude.{◌≡◌, IsTrue}
use Rattle.std.proofs.Common.{ap}
use Rattle.std.specs.Cmp.{Equal-is}
use Rattle.std.specs.Hash as fed
use Rattle.std.specs.Ordering.{eq_by_cmp}
use Rattle.tv_struct.proofs.OrderLaws.{structure_cmp-Equal}
use Rattle.tv_struct.specs.Order.{structure_cmp}
use Rattle.tv_struct.specs.Signature.{signature_of}
use Rattle.tv_structure_form.specs.StructureForm.{StructureForm}

-- what is equal but for its mark has one signature
pub signature_respects : (a b : StructureForm) → IsTrue (eq_by_cmp structure_cmp a b)
    → fed.u64 (signature_of a) ≡ fed.u64 (signature_of b)
signature_respects a b e =
    ap (λ s. fed.u64 (signature_of s)) (structure_cmp-Equal a b ((Equal-is (structure_cmp a b)).0 e))
