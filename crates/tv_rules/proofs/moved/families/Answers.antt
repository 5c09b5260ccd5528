use Rattle.std.proofs.Common.{◌∙◌, arith, length, map, slice_index_or, subst, sym}
use Rattle.std.proofs.lemmas.List.{length-set}
use Rattle.std.proofs.lemmas.Option.{slice_get_read}
use Rattle.tv_rules.specs.EntryForms.{entry_of}
use Rattle.tv_rules.specs.Moved.{AreFamilies}
use Rattle.tv_rules.proofs.EntryLemmas.{unread}
use Rattle.tv_rules.proofs.MovedLaws.{families-next, mapped-or}
use Rattle.tv_rules.proofs.moved.families.Goals as goal

pub index_mut-list-requires : goal.index_mut-list-requires
index_mut-list-requires c =
    let k = c.loop-number.number
    in omega (
      arith,
      c.loop-number.invariant.1,
      c.requires k (entry_of (slice_index_or c.args.entries.now k unread)) (mapped-or entry_of c.args.entries.now k unread c.loop-number-test.true),
    )

pub loop-number-preserved : goal.loop-number-preserved
loop-number-preserved c =
    let k = c.loop-number.number
    in let e = slice_index_or c.args.entries.now k unread
    in let lists = c.loop-number.lists.items
    in let at = mapped-or entry_of c.args.entries.now k unread c.loop-number-test.true
    in (
      omega (arith, c.loop-number-test.true),
      length-set lists e.base c.push.new.self ∙ c.loop-number.invariant.1,
      families-next k (map entry_of c.args.entries.now) (entry_of e) lists c.index_mut-list.result.now c.push.new.self at
          (slice_get_read lists c.args.bases e.base c.index_mut-list.result.now (sym c.loop-number.invariant.1)
          (c.requires k (entry_of e) at) c.index_mut-list.ensures.value)
          c.in_ok-push.ensures c.loop-number.invariant.2,
    )

pub returns : goal.returns
returns c =
    subst (λ lists. AreFamilies (length c.args.entries.now) (map entry_of c.args.entries.now) lists) (sym c.from_vec.ensures)
    (subst (λ n. AreFamilies n (map entry_of c.args.entries.now) c.loop-number.lists.items)
    (omega (arith, c.loop-number-test.false, c.loop-number.invariant.0)) c.loop-number.invariant.2)
