use Rattle.std.proofs.Common.{ℕ, ◌≡◌, ◌∙◌, ◌<◌, ◌+◌, Bool, true, false, not, cond, List, length, set}
use Rattle.std.proofs.Common.{get_or, arith, subst, sym, ap}
use Rattle.std.proofs.lemmas.List.{length-set}
use Rattle.std.proofs.lemmas.List.Sums.{sum_by-set}
use Rattle.std.specs.Prelude.{count_by, slice_get}
use Rattle.tv_delta_laws.specs.Deltas.{is_flagged}
use Rattle.tv_delta.specs.Flags.{tells}
use Rattle.tv_delta.proofs.Marks.{get-flag, marked_by, marking_by, marking_none}
use Rattle.tv_delta.proofs.flags.mark.Goals as goal

abbrev unset : Bool → ℕ
unset b = cond (not b) 1 0

-- one flag fewer isn't set
fewer : (flags : List Bool) (q : ℕ) → q < length flags → is_flagged flags q ≡ false
    → count_by (λ flag. not flag) (set flags q true) < count_by (λ flag. not flag) flags
fewer flags q below off =
    let at : get_or flags q false ≡ false = sym (get-flag flags q) ∙ off
    in let whole : count_by (λ flag. not flag) (set flags q true) + unset (get_or flags q false)
    ≡ count_by (λ flag. not flag) flags + 0
    = sum_by-set unset flags q true false below
    in let one : unset (get_or flags q false) ≡ 1 = ap unset at
    in omega (arith, whole, one)

pub loop-q-init : goal.loop-q-init
loop-q-init c = record {
  long = c.requires ∙ sym c.mark_in_order.ensures.long;
  marks = λ preds are. c.mark_in_order.ensures.marks preds c.args.flags.now.items are
      (marking_none preds c.args.flags.now.items);
}

pub loop-q-smaller : goal.loop-q-smaller
loop-q-smaller c =
    let Found : List Bool → Type 0 = λ fs. (c.in-Some.q < length fs) × (is_flagged fs c.in-Some.q ≡ false)
    × (tells fs (slice_get c.args.uses.now.lists.items c.in-Some.q) ≡ true)
    in let found : Found c.loop-q.flags.items = subst Found c.as_slice.ensures.value c.in-Some.ensures.some
    in fewer c.loop-q.flags.items c.in-Some.q found.0 found.1

pub loop-q-preserved : goal.loop-q-preserved
loop-q-preserved c =
    let Found : List Bool → Type 0 = λ fs. (c.in-Some.q < length fs) × (is_flagged fs c.in-Some.q ≡ false)
    × (tells fs (slice_get c.args.uses.now.lists.items c.in-Some.q) ≡ true)
    in let found : Found c.loop-q.flags.items = subst Found c.as_slice.ensures.value c.in-Some.ensures.some
    in record {
      long = c.loop-q.invariant.long ∙ sym (length-set c.loop-q.flags.items c.in-Some.q true);
      marks = λ preds are.
          marking_by preds c.args.uses.now.lists.items c.args.flags.now.items c.loop-q.flags.items c.in-Some.q are
          (c.loop-q.invariant.marks preds are) found.0 found.2;
    }

pub returns : goal.returns
returns c = λ preds are.
    let All : List Bool → Type 0 = λ fs. (q : ℕ) → tells fs (slice_get c.args.uses.now.lists.items q) ≡ true
    → is_flagged fs q ≡ true
    in marked_by preds c.args.uses.now.lists.items c.args.flags.now.items c.loop-q.flags.items are
    (c.loop-q.invariant.marks preds are) (subst All c.as_slice.ensures.value c.in_default.ensures.none)
