use Rattle.std.proofs.Common.{◌≡◌, ◌-◌, ◌++◌, length, take, ap, ◌∙◌, append_assoc, arith}
use Rattle.std.specs.Prelude.{codes, vec_len}
use Rattle.tv_file_lines.specs.FileLines.{file_line_text}
use Rattle.tv_tree.specs.Copies.{edge_of}
use Rattle.tv_tree.specs.Printed.{edge_lines, text_of_lines}
use Rattle.tv_edge_heads.proofs.Written.{without_feed}
use Rattle.tv_edge_heads.proofs.heads.head_of.Goals as goal

pub returns : goal.returns
returns c =
    let edge = edge_of c.args.edge.now in
    let line = file_line_text c.args.at.now.name.now c.args.at.now.line in
    let printed = text_of_lines (edge_lines edge) in
    let out = c.print_edge.new.out in
    let len : vec_len out ≡ length out.items = omega arith in
    without_feed edge c.args.at.now.name.now c.args.at.now.line out.items c.from_vec.result
    (c.in_ok-print_edge.ensures
    ∙ ap (λ l. l ++ printed)
    (c.in_ok-extend_from_slice.ensures.items
    ∙ ap (λ l. l ++ codes "  ") (c.in_ok-append_file_line.ensures ∙ ap (λ l. l ++ line) c.new-head.ensures.items))
    ∙ append_assoc line (codes "  ") printed)
    (c.from_vec.ensures ∙ c.pop.ensures.rest ∙ ap (λ n. take (n - 1) out.items) len)
