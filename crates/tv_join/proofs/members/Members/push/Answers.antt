use Rattle.std.proofs.Common.{ℕ, ◌≡◌, ◌∙◌, ◌++◌, ◌∷◌, [], Some, cond, length, ap, arith}
use Rattle.std.specs.Ordering.{is_eq}
use Rattle.tv_struct.specs.Order.{structure_cmp}
use Rattle.tv_join.specs.Members.{MembersForm, place_in}
use Rattle.tv_join.proofs.Indexing.{not-there, indexed-more}
use Rattle.tv_join.proofs.members.Members.push.Goals as goal

pub returns-clause-added : goal.returns-clause-added
returns-clause-added c = record {
  none = not-there c.args.counted.now c.args.self.now c.args.self.now c.requires.indexed c.args.s c.args.key c.requires.key
      c.requires.none;
  pushed = c.in_ok-push.ensures.items
      ∙ ap (λ (m : MembersForm). m.structures ++ c.args.s ∷ []) c.self.view_is;
}

pub returns-clause-indexed : goal.returns-clause-indexed
returns-clause-indexed c =
    let count : c.len-place.result ≡ length c.args.self.now.structures
    = omega (arith, c.len-place.ensures, ap (λ (m : MembersForm). length m.structures) c.self.view_is)
    in indexed-more c.args.counted.now c.args.self.now
    (record { structures = c.push.new.self.items; places = c.insert.new.self.entries }) c.requires.indexed c.args.s c.args.key
    c.requires.key c.size.ensures.kept c.requires.unmarked c.requires.none
    (c.in_ok-push.ensures.items ∙ ap (λ (m : MembersForm). m.structures ++ c.args.s ∷ []) c.self.view_is)
    (λ q. c.in_ok-insert.ensures.updates.0 q
    ∙ ap (λ (n : ℕ). cond (is_eq (structure_cmp c.args.key q)) (Some n) (place_in c.self.inside.places.entries q)) count
    ∙ ap (λ (m : MembersForm). cond (is_eq (structure_cmp c.args.key q)) (Some (length c.args.self.now.structures))
    (place_in m.places q)) c.self.view_is)
