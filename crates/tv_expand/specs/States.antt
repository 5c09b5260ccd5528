-- What the states of the code stand for.
use Rattle.std.specs.Prelude.{map}
use Rattle.tv_tree.specs.Copies.{pred_of, update_of, part_of}
use Rattle.tv_flat.specs.FlatForm.{rule_of, parts_of, flat_edge_of}
use Rattle.tv_expand.specs.declared.room.Room.{Room as RoomLeft}
use Rattle.tv_expand.specs.declared.declare.Declared.{Declared as DeclaredSoFar}
use Rattle.tv_expand.specs.declared.block.Block.{Block as BlockSoFar}
use Rattle.tv_expand.specs.declared.gather.Gathered.{Gathered as GatheredSoFar}
use Rattle.tv_expand.specs.declared.wiring.Wired.{Wired as WiredSoFar}
use Rattle.tv_expand.specs.Expansion.{Room, Declared, Block, Gathered, Wired}
use Rattle.tv_expand.specs.Origins.{Noted}
use Rattle.tv_expand.specs.Views.{sets_of, calls_of}

abbrev pub room_of : RoomLeft → Room
room_of r = record { items = r.items; nodes = r.nodes }

abbrev pub declared_of : DeclaredSoFar → Declared
declared_of d =
    record {
      sets = sets_of d.sets.entries;
      preds = map pred_of d.preds.items;
      rules = map rule_of d.rules.items;
      room = room_of d.room;
    }

abbrev pub noted_of : DeclaredSoFar → Noted
noted_of d = record { declared = declared_of d; origins = d.origins.items }

abbrev pub block_of : BlockSoFar → Block
block_of s = record { updates = map update_of s.updates.items; room = room_of s.room }

abbrev pub gathered_of : GatheredSoFar → Gathered
gathered_of s = record { parts = map part_of s.parts.items; room = room_of s.room }

abbrev pub wired_of : WiredSoFar → Wired
wired_of w =
    record {
      calls = calls_of w.calls.keys;
      actions = map parts_of w.actions.items;
      edges = map flat_edge_of w.edges.items;
      room = room_of w.room;
    }
