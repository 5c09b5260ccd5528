use Rattle.std.proofs.Common.{◌++◌, codes}
use Rattle.tv_lemmas.proofs.Lists.{two_behind}
use Rattle.tv_losses_text.specs.Texts.{name_written}
use Rattle.tv_losses_text.proofs.Parts.{ended}
use Rattle.tv_losses_text.proofs.lines.append_node.Goals as goal

pub returns : goal.returns
returns c =
    let name = name_written c.args.names.now c.args.node
    in ended c.extend_from_slice-2.result c.args.out.now.items c.append_name.new.out.items
    c.extend_from_slice-2.new.self.items (codes "node " ++ name) (codes " isn't reached\n")
    (two_behind c.args.out.now.items c.extend_from_slice.new.self.items c.append_name.new.out.items (codes "node ")
    name c.in_ok-extend_from_slice.ensures.items c.in_ok-append_name.ensures)
    c.extend_from_slice-2.ensures.items
