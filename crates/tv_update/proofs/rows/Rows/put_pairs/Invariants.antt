use Rattle.std.proofs.Common.{ℕ, ◌≡◌, ◌≢◌, ◌<◌, List, [], ◌∷◌}
use Rattle.tv_structure_form.specs.TableForm.{cell}
use Rattle.tv_structure_form.specs.StructureForm.{IsStructure, value_at}
use Rattle.tv_update.specs.Rows.{IsLike}
use Rattle.tv_update.proofs.rows.Rows.put_pairs.Given as goal

-- the rows below u are put, and the others wait
abbrev pub invariant-loop-u : goal.invariant-loop-u
invariant-loop-u l = record {
  is : IsStructure l.t;
  like : IsLike l.fn.t l.t;
  others : (q : ℕ) (tuple : List ℕ) → q ≢ l.p.0 → value_at l.t q tuple ≡ value_at l.fn.t q tuple;
  done : (u w : ℕ) → u < l.u → w < l.fn.t.size → value_at l.t l.p.0 (u ∷ w ∷ []) ≡ cell l.self.pairs.items u w;
}
