use Rattle.std.proofs.Common.{◌<◌, List, length, refl, slice_set, subst, sym}
use Rattle.std.proofs.lemmas.List.{get_or_read_under}
use Rattle.tv_join.specs.Members.{MembersForm}
use Rattle.tv_join.specs.State.{JoinsForm, no_members}
use Rattle.tv_join.proofs.Placed.{put-there}
use Rattle.tv_join.proofs.joins.Joins.put.Goals as goal

pub returns : goal.returns
returns c =
    let nodes : List MembersForm = c.self.inside.nodes.items
    in let within : c.args.node < length nodes
    = subst (λ (j : JoinsForm). c.args.node < length j.nodes) (sym c.self.view_is) c.requires.node
    in rw (← c.self.view_is)
    (put-there c.args.x.now.counted.now
    (record { nodes = nodes; room = c.self.inside.room; changed = c.self.inside.changed })
    (record {
      nodes = slice_set nodes c.args.node c.put.new.self;
      room = c.self.inside.room;
      changed = c.self.inside.changed;
    })
    c.args.node c.args.s c.index_mut-at.result.now c.put.new.self c.put.result
    (get_or_read_under nodes c.args.node (length nodes) c.index_mut-at.result.now no_members
    c.index_mut-at.ensures.value within refl)
    refl refl refl c.put.ensures.puts c.put.ensures.indexed)
