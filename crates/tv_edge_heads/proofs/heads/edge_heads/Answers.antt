use Rattle.std.proofs.Common.{◌≡◌, ◌+◌, ◌<◌, List, ◌∷◌, length, map, drop, sym, ap, subst, ◌∙◌, arith}
use Rattle.std.proofs.Math.ListN.{get_or-map}
use Rattle.std.proofs.lemmas.List.{drop_more, length-map}
use Rattle.std.proofs.lemmas.List.Elements.{All-get_or}
use Rattle.tv_edge_heads.specs.EdgePlaces.{IsOnLine}
use Rattle.tv_lex.specs.Parts.{IsMadeOf}
use Rattle.tv_lex.specs.Traced.{Traced}
use Rattle.tv_lex.specs.declared.gatherer.Gathered.{Gathered}
use Rattle.tv_tree.specs.Copies.{edge_of, program_of}
use Rattle.tv_tree.specs.declared.trees.EdgeTree.{EdgeTree}
use Rattle.tv_edge_heads.specs.Heads.{AreHeadsAt, IsHead}
use Rattle.tv_edge_heads.proofs.Rows.{BeginHeads, all_heads, as_many, one_more}
use Rattle.tv_edge_heads.proofs.heads.edge_heads.Goals as goal

pub index-requires : goal.index-requires
index-requires c =
    let many = as_many c.args.gathered.now.bytes.items c.args.tokens.now.list.items (program_of c.args.tree.now)
    c.in_ok-places.places.items (c.in_ok-places.ensures.places c.args.gathered.now.bytes.items c.requires.program) in
    let edges : length c.as_slice-edges.result.now ≡ length c.args.tree.now.edges =
    ap (λ (es : List EdgeTree). length es) c.as_slice-edges.ensures in
    omega (arith, many, edges, length-map c.args.tree.now.edges edge_of, c.loop-number-test.true)

pub loop-number-preserved : goal.loop-number-preserved
loop-number-preserved c =
    let text = c.args.gathered.now.bytes.items in
    let read = c.as_slice-edges.result.now in
    let edges = map edge_of read in
    let places = c.in_ok-places.places.items in
    let number = c.loop-number.number in
    let edge = edge_of c.index-edges-number.result in
    let place = c.index.result.now in
    let many = as_many text c.args.tokens.now.list.items (program_of c.args.tree.now) places
    (c.in_ok-places.ensures.places text c.requires.program) in
    let same : length read ≡ length c.args.tree.now.edges = ap (λ (es : List EdgeTree). length es) c.as_slice-edges.ensures in
    let within : number < length edges = omega (arith, length-map read edge_of, c.loop-number-test.true) in
    let below : number < length places =
    omega (arith, many, same, length-map c.args.tree.now.edges edge_of, c.loop-number-test.true) in
    let here : drop number edges ≡ edge ∷ drop (number + 1) edges =
    drop_more edges number edge within
    ∙ ap (λ e. e ∷ drop (number + 1) edges)
    (get_or-map edge_of read number c.index-edges-number.result ∙ ap edge_of (sym c.index-edges-number.is)) in
    let there : drop number places ≡ place ∷ drop (number + 1) places =
    drop_more places number place below ∙ ap (λ p. p ∷ drop (number + 1) places) (sym c.index.ensures) in
    let stands : IsOnLine text place =
    subst (IsOnLine text) (sym c.index.ensures)
    (All-get_or (IsOnLine text) places number place below
    (c.in_ok-places.ensures.lines text c.requires.reads c.requires.program)) in
    let gives = subst (λ (g : Gathered). (traced : List Traced) → IsMadeOf traced g → IsOnLine g.bytes.items place → IsHead traced edge place c.in_ok-head.head) c.loop-number.invariant.same c.in_ok-head.ensures.head in
    record {
      same = c.head_from.ensures.same ∙ c.loop-number.invariant.same;
      heads = λ traced made.
          subst (BeginHeads traced edges places (number + 1)) (sym c.in_ok-push.ensures.items)
          (one_more traced edges places number c.loop-number.heads.items edge place c.in_ok-head.head here there
          (gives traced made stands) (c.loop-number.invariant.heads traced made));
    }

pub returns : goal.returns
returns c = λ traced made.
    let text = c.args.gathered.now.bytes.items in
    let read = c.as_slice-edges.result.now in
    let edges = map edge_of read in
    let places = c.in_ok-places.places.items in
    let heads = c.loop-number.heads.items in
    let stand = c.in_ok-places.ensures.places text c.requires.program in
    let many = as_many text c.args.tokens.now.list.items (program_of c.args.tree.now) places stand in
    let same : length edges ≡ length (map edge_of c.args.tree.now.edges) =
    ap (λ (es : List EdgeTree). length (map edge_of es)) c.as_slice-edges.ensures in
    record {
      bytes = made.0;
      tokens = c.args.tokens.now.list.items;
      reads = c.requires.reads;
      places = places;
      stand = stand;
      are = subst (λ (es : List EdgeTree). AreHeadsAt traced (map edge_of es) places heads) c.as_slice-edges.ensures
          (all_heads traced edges places c.loop-number.number heads
          (omega (arith, length-map read edge_of, c.loop-number-test.false)) (many ∙ sym same)
          (c.loop-number.invariant.heads traced made));
    }
