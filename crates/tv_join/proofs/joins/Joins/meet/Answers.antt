use Rattle.std.proofs.Common.{◌≡◌, ◌∙◌, List, ap, length, subst}
use Rattle.tv_structure_form.specs.StructureForm.{StructureForm}
use Rattle.tv_join.specs.State.{NotesPut, members_at, room_after}
use Rattle.tv_join.specs.declared.places.Place.{Place}
use Rattle.tv_join.proofs.joins.Joins.meet.Goals as goal

pub returns : goal.returns
returns c =
    let done = c.in_ok-put.ensures
    in let put = c.in_ok-put.put
    in let node = c.args.found.node
    in let before : List StructureForm = c.at_node-count.result.now
    in let count : length before ≡ length (members_at c.args.self.now.nodes node).structures
    = ap (λ (xs : List StructureForm). length xs) c.at_node-count.ensures
    in record {
      node = done.node;
      put = put;
      set = c.note.ensures.nodes ∙ done.set;
      puts = done.puts;
      indexed = done.indexed;
      room = c.in_ok-note.ensures.room ∙ ap (room_after put) done.room;
      changed = subst (λ n. NotesPut node n put c.args.self.now.changed c.note.new.self.changed) count
          (subst (λ (ws : List Place). NotesPut node (length before) put ws c.note.new.self.changed) done.changed
          c.in_ok-note.ensures.changed);
    }
