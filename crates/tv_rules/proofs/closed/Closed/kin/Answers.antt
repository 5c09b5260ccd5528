use Rattle.std.proofs.Common.{List, ◌≡◌, ◌∙◌, [], ap, arith, get_or, length, slice_get, unwrap_or}
use Rattle.std.proofs.lemmas.Option.{unwrap_or-slice_get}
use Rattle.std.specs.Prelude.{ℕ}
use Rattle.tv_rules.proofs.KeptLemmas.{read-at, entries-below}
use Rattle.tv_rules.proofs.KinLaws.{kin-are}
use Rattle.tv_rules.proofs.closed.Closed.kin.Goals as goal

pub item_at-entry-requires : goal.item_at-entry-requires
item_at-entry-requires c = omega (arith, entries-below _ _ _ _ _ c.self.invariant.0 _ c.self.view_is _ c.requires, ap length c.as_slice.ensures)

pub returns : goal.returns
returns c = λ n.
    let s = c.self.inside
    in let b = c.item_at-entry.result.now.base
    in let is : c.numbers_at.result.now ≡ get_or s.families b []
    = c.numbers_at.ensures ∙ ap (λ (lists : List (List ℕ)). unwrap_or (slice_get lists b) []) c.as_slice-2.ensures
    ∙ unwrap_or-slice_get s.families b []
    in kin-are s.bases s.occurrences s.families c.self.invariant.1 _ c.self.view_is c.args.number s.entries c.self.invariant.0.kept
    c.item_at-entry.result.now (read-at _ _ _ _ c.as_slice.ensures c.item_at-entry.ensures) c.numbers_at.result.now is n
