-- Where each individual is split into one, the structure stays as it is.
use Rattle.std.proofs.Common.{ℕ, ◌≡◌, ◌∙◌, ◌≤◌, ◌+◌, zero, suc, false, List, [], ◌∷◌, ◌++◌}
use Rattle.std.proofs.Common.{length, map, replicate, sum, take, Option, Some, None, refl, sym, ap}
use Rattle.std.proofs.Common.{arith}
use Rattle.std.specs.List.{AllByRecursion, range_with_len}
use Rattle.std.specs.Option.{option_map}
use Rattle.std.proofs.lemmas.List.Sums.{sum_by-cons}
use Rattle.std.proofs.lemmas.List.FromFn.{length-range_with_len}
use Rattle.tv_structure_form.specs.TableForm.{plane_drawn, selected}
use Rattle.tv_structure_form.specs.StructureForm.{StructureForm, IsMark, IsStructure, copies_from, split}
use Rattle.tv_struct.proofs.WholeDraws.{all-selected, planes-themselves}

-- each individual stands once
once : (n : ℕ) (parts : List ℕ) → AllByRecursion (λ part. part ≡ 1) parts → copies_from n parts ≡ range_with_len n (length parts)
once n [] all = refl
once n (part ∷ parts) (one, rest) =
    ap (λ k. replicate k n ++ copies_from (n + 1) parts) one ∙ ap (λ us. n ∷ us) (once (n + 1) parts rest)

ones-before : (u : ℕ) (parts : List ℕ) → AllByRecursion (λ part. part ≡ 1) parts → u ≤ length parts → sum (take u parts) ≡ u
ones-before zero parts all le = refl
ones-before (suc u) [] all le = absurd (omega (arith, le))
ones-before (suc u) (part ∷ parts) (one, rest) le =
    omega (arith, one, sum_by-cons (λ n. n) part (take u parts), ones-before u parts rest (omega (arith, le)))

mark-stays : (s : StructureForm) (parts : List ℕ) (mark : Option ℕ) → IsMark s mark → length parts ≡ s.size
    → AllByRecursion (λ part. part ≡ 1) parts → mark ≡ option_map (λ u. sum (take u parts)) mark
mark-stays s parts None is count all = refl
mark-stays s parts (Some u) is count all = ap Some (sym (ones-before u parts all (omega (arith, is.0, count))))

pub whole_stays : (s : StructureForm) (parts : List ℕ) → IsStructure s → length parts ≡ s.size
    → AllByRecursion (λ part. part ≡ 1) parts → s ≡ split s parts
whole_stays s parts is count all =
    let origins : copies_from 0 parts ≡ range_with_len 0 s.size
    = once 0 parts all ∙ ap (range_with_len 0) count
    in let size : length (copies_from 0 parts) ≡ s.size = ap length origins ∙ length-range_with_len 0 s.size
    in let summaries : selected false s.summaries (copies_from 0 parts) ≡ s.summaries
    = ap (selected false s.summaries) origins ∙ all-selected false s.summaries s.size is.summaries
    in let planes : map (plane_drawn (copies_from 0 parts)) s.planes ≡ s.planes
    = ap (λ us. map (plane_drawn us) s.planes) origins ∙ planes-themselves s.size s.planes is.table.planes
    in let fresh : s.fresh ≡ (split s parts).fresh = mark-stays s parts s.fresh is.fresh count all
    in λ i. record {
      size = sym size i;
      summaries = sym summaries i;
      planes = sym planes i;
      fresh = fresh i;
    }
