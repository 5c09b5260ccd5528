use Rattle.std.proofs.Common.{◌≡◌, ◌+◌, ◌-◌, ◌<◌, map, drop, length, arith, sym, subst, ap, ◌∙◌}
use Rattle.std.proofs.lemmas.Result.{IfOk-weaker}
use Rattle.tv_tree.specs.Copies.{edge_of, program_of}
use Rattle.tv_edge_heads.specs.EdgePlaces.{HasEdgesAt}
use Rattle.tv_edge_heads.specs.Widths.{edge_starts, edges_width, tail_width}
use Rattle.tv_edge_heads.proofs.Standing.{last_tokens, places_stand}
use Rattle.tv_edge_heads.proofs.OnLines.{on_lines}
use Rattle.tv_edge_heads.proofs.places.edge_places.Goals as goal

pub edges_width-requires : goal.edges_width-requires
edges_width-requires c =
    let last = last_tokens c.requires.0 c.args.tokens.now.list.items (program_of c.args.tree.now) c.requires.1 in
    let small = c.args.tokens.now.list.small in
    subst (λ es. edges_width (map edge_of es) < 18446744073709551616) (sym c.as_slice-edges.ensures) (omega (arith, last, small))

pub overflow_add-width : goal.overflow_add-width
overflow_add-width c =
    let last = last_tokens c.requires.0 c.args.tokens.now.list.items (program_of c.args.tree.now) c.requires.1 in
    let small = c.args.tokens.now.list.small in
    let same : edges_width (map edge_of c.as_slice-edges.result.now) ≡ edges_width (map edge_of c.args.tree.now.edges) = ap (λ es. edges_width (map edge_of es)) c.as_slice-edges.ensures in
    omega (arith, last, small, same, c.edges_width.ensures, c.tail_width.ensures)

pub overflow_sub-front : goal.overflow_sub-front
overflow_sub-front c =
    let last = last_tokens c.requires.0 c.args.tokens.now.list.items (program_of c.args.tree.now) c.requires.1 in
    let same : edges_width (map edge_of c.as_slice-edges.result.now) ≡ edges_width (map edge_of c.args.tree.now.edges) = ap (λ es. edges_width (map edge_of es)) c.as_slice-edges.ensures in
    omega (arith, last, same, c.edges_width.ensures, c.tail_width.ensures, c.len.ensures)

pub returns-clause-places : goal.returns-clause-places
returns-clause-places c =
    let tokens = c.args.tokens.now.list.items in
    let tree = program_of c.args.tree.now in
    let front = c.len.result - (c.edges_width.result + c.tail_width.result) in
    let same : edges_width (map edge_of c.as_slice-edges.result.now) ≡ edges_width (map edge_of c.args.tree.now.edges) = ap (λ es. edges_width (map edge_of es)) c.as_slice-edges.ensures in
    let counted : front ≡ length tokens - (edges_width tree.edges + tail_width tree.tail) =
    omega (arith, same, c.edges_width.ensures, c.tail_width.ensures, c.len.ensures) in
    let from : c.behind.result.now ≡ drop front tokens = c.behind.ensures ∙ ap (drop front) c.deref.ensures.value in
    IfOk-weaker c.edge_starts.result _ _
    (λ starts is. λ text program. subst (λ places. HasEdgesAt text tokens tree places)
    (sym (is ∙ ap (λ ts. edge_starts ts (map edge_of c.as_slice-edges.result.now)) from
    ∙ ap (λ es. edge_starts (drop front tokens) (map edge_of es)) c.as_slice-edges.ensures))
    (places_stand text tokens tree front program counted))
    c.edge_starts.ensures

pub returns-clause-lines : goal.returns-clause-lines
returns-clause-lines c =
    IfOk-weaker c.edge_starts.result _ _
    (λ starts has. λ text reads program.
    on_lines text c.args.tokens.now.list.items (program_of c.args.tree.now) starts.items reads (has text program))
    (returns-clause-places c)
