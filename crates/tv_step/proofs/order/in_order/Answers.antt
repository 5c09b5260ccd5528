use Rattle.std.proofs.Common.{◌↔◌, Contains, arith, sym, subst}
use Rattle.std.specs.List.Sorted.{IsPermutation, IsStrictlySortedBy}
use Rattle.tv_struct.specs.Order.{structure_cmp}
use Rattle.tv_structure_form.specs.StructureForm.{StructureForm}
use Rattle.tv_step.proofs.Sorting.{few-sorted, sorted-members, strictly-sorted}
use Rattle.tv_step.proofs.order.in_order.Goals as goal

pub returns-then-len-lt2-clause-order : goal.returns-then-len-lt2-clause-order
returns-then-len-lt2-clause-order c =
    few-sorted c.args.structures (omega (arith, c.len.ensures, c.if-len-lt2.true))

pub returns-clause-same : goal.returns-clause-same
returns-clause-same c =
    let xs = c.args.structures
    in subst (λ zs. (t : StructureForm) → Contains zs t ↔ Contains xs t) (sym c.from_vec.ensures)
    (sorted-members xs c.sort.new.self.items c.dedup.new.self.items
    (subst (λ ys. IsPermutation ys c.sort.new.self.items) c.into_vec-items.ensures
    c.in_ok-sort.ensures.permutation)
    c.dedup.ensures.filtered c.requires.unmarked)

pub returns-clause-order : goal.returns-clause-order
returns-clause-order c =
    subst (IsStrictlySortedBy structure_cmp) (sym c.from_vec.ensures)
    (strictly-sorted c.sort.new.self.items c.dedup.new.self.items c.in_ok-sort.ensures.sorted
    c.dedup.ensures.filtered)
