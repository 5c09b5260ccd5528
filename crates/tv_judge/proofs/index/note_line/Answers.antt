use Rattle.std.specs.Prelude.{is_some}
use Rattle.std.specs.Map.{lookup}
use Rattle.std.proofs.Common.{false, sym, subst, ap, refl, ◌∙◌, ◌≡◌}
use Rattle.tv_listing.specs.declared.analysis.Item.{Item}
use Rattle.tv_listing.specs.declared.analysis.Item.TheVariants.{Initial, Result}
use Rattle.tv_listing.specs.contracts.analysis.ItemPartialEq.TheImpl.{ghosts}
use Rattle.tv_judge.specs.Items.{is_same_item}
use Rattle.tv_judge.specs.Index.{NotesLine}
use Rattle.tv_judge.proofs.IndexLaws.{insert-same, lookup-same, noted-new}
use Rattle.tv_judge.proofs.index.note_line.Goals as goal

derived : (a b : Item) → ghosts.eq a b ≡ is_same_item a b
derived (Initial m) (Initial n) = refl
derived (Initial m) (Result edge structure result) = refl
derived (Result edge structure result) (Initial n) = refl
derived (Result edge structure result) (Result e s r) = refl

pub returns-in_ok-insert : goal.returns-in_ok-insert
returns-in_ok-insert c =
    let es = c.args.index.now.entries
    in let line = c.args.line
    in let absent : is_some (lookup (is_same_item line.now.item) es) ≡ false
    = ap is_some (sym (lookup-same ghosts.eq derived es line.now.item)) ∙ sym c.contains_key.ensures
    ∙ c.if-not-contains_key.true
    in subst (NotesLine es line.now) (sym (c.in_ok-insert.ensures.entries
    ∙ insert-same ghosts.eq derived es line.now.item line))
    (noted-new es line absent)
