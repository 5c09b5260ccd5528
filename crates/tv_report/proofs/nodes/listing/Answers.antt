use Rattle.std.proofs.Common.{ℕ, ◌≡◌, ◌∷◌, List, Some, map, ap, sym, subst, ◌∙◌, rules}
use Rattle.std.specs.Prelude.{All, Contains, slice_get}
use Rattle.std.proofs.lemmas.List.{map_push, map-append}
use Rattle.std.proofs.lemmas.Result.{err_from_is_err_and}
use Rattle.std.specs.Vec.Iter.{into_iter_steps, into_iter_items}
use Rattle.tv_lex.specs.Token.{text_of}
use Rattle.tv_tvs.specs.Views.{names_of}
use Rattle.tv_tvs.proofs.Valid.{valid_fits}
use Rattle.tv_report.specs.Meaning.{NamedNode, ListsNodes, node_name}
use Rattle.tv_report.specs.Nodes.{AreRead, IsPut, CannotPut}
use Rattle.tv_report.specs.Reading.{marked_node}
use Rattle.tv_report.specs.Views.{node_mark, node_marks}
use Rattle.tv_report.proofs.NodeLaws.{no_nodes, kept_none, listed_more, seen_more, cannot_list}
use Rattle.tv_phrases.proofs.Values.{told_more}
use Rattle.tv_lemmas.proofs.Calls.{yielded_split}
use Rattle.tv_report.proofs.nodes.listing.Goals as goal

pub new-requires : goal.new-requires
new-requires c = (valid_fits c.args.program.now c.requires.valid).vocabulary

pub loop-node-init : goal.loop-node-init
loop-node-init c = record {
  seen = search rules;
  listed = no_nodes c.args.program.now c.in_ok-listing.listing _ c.len.ensures c.in_ok-listing.ensures;
  kept = kept_none c.args.program.now.vocab c.in_ok-listing.listing _ c.in_ok-listing.ensures;
}

pub put_node-requires-clause-empty : goal.put_node-requires-clause-empty
put_node-requires-clause-empty c = λ number at fresh.
    let name : List ℕ = text_of c.args.bytes.now c.in-Some.node.name
    in c.loop-node.invariant.listed.others number name (subst (λ ns. slice_get ns number ≡ Some name) (c.in_ok-names.ensures ∙ c.as_slice.ensures) at)
    (subst (λ ns. ¬ Contains ns name) c.loop-node.invariant.seen fresh)

pub loop-node-preserved : goal.loop-node-preserved
loop-node-preserved c =
    let mark = node_mark c.args.bytes.now c.in-Some.node
    in let vocab = c.args.program.now.vocab
    in let nodes : List NamedNode = map (marked_node vocab) (node_marks c.args.bytes.now c.loop-node.yielded)
    in let node : NamedNode = marked_node vocab mark
    in let old = names_of c.loop-node.seen.keys
    in let new = names_of c.put_node.new.seen.keys
    in let next = ap (map (marked_node vocab)) (map_push (node_mark c.args.bytes.now) c.loop-node.yielded c.in-Some.node)
    ∙ map_push (marked_node vocab) (node_marks c.args.bytes.now c.loop-node.yielded) mark
    in let put = subst (λ ns. IsPut ns old new c.loop-node.listing c.put_node.new.listing node) (c.in_ok-names.ensures ∙ c.as_slice.ensures)
    (subst (λ v. IsPut (names_of c.in_ok-names.names.keys) old new c.loop-node.listing c.put_node.new.listing (marked_node v mark)) c.in_ok-reader.ensures c.in_ok-put_node.ensures.put)
    in record {
      seen = seen_more c.args.program.now c.requires.valid.node_names_differ nodes node old new c.loop-node.listing c.put_node.new.listing c.loop-node.invariant.seen c.loop-node.invariant.listed put
          ∙ ap (map node_name) (sym next);
      listed = subst (λ ns. ListsNodes c.args.program.now ns c.put_node.new.listing) (sym next)
          (listed_more c.args.program.now c.requires.valid.node_names_differ nodes node old new c.loop-node.listing c.put_node.new.listing c.loop-node.invariant.seen c.loop-node.invariant.listed put);
      kept = subst (λ v. All (AreRead v) c.put_node.new.listing) c.in_ok-reader.ensures c.in_ok-put_node.ensures.kept;
    }

pub returns-in_err-put_node-clause-fault : goal.returns-in_err-put_node-clause-fault
returns-in_err-put_node-clause-fault c =
    let p = err_from_is_err_and c.from_residual-in_err-put_node.result c.from_residual-in_err-put_node.ensures.1
    in let split = yielded_split into_iter_steps into_iter_items (λ s t x h. h.0) c.args.nodes.items c.into_iter-node-iterator.result c.loop-node.node-iterator c.next.new.self
    c.loop-node.yielded c.in-Some.node c.next.result c.into_iter-node-iterator.ensures.into_iter_gives.0 c.loop-node.yielded_by c.in-Some.is c.next.ensures.steps
    in let mark = node_mark c.args.bytes.now c.in-Some.node
    in let vocab = c.args.program.now.vocab
    in let old = names_of c.loop-node.seen.keys
    in let rest = into_iter_items c.next.new.self
    in let whole = ap (λ ns. map (marked_node vocab) (node_marks c.args.bytes.now ns)) split
    ∙ ap (map (marked_node vocab)) (map-append (node_mark c.args.bytes.now) c.loop-node.yielded (c.in-Some.node ∷ rest))
    ∙ map-append (marked_node vocab) (node_marks c.args.bytes.now c.loop-node.yielded) (node_marks c.args.bytes.now (c.in-Some.node ∷ rest))
    in rw (p.1, p.2)
    (told_more c.in_err-put_node.field-0.0 _ _
    (λ cannot. cannot_list c.args.program.now (map (marked_node vocab) (node_marks c.args.bytes.now c.args.nodes.items)) (map (marked_node vocab) (node_marks c.args.bytes.now c.loop-node.yielded))
    (map (marked_node vocab) (node_marks c.args.bytes.now rest)) (marked_node vocab mark) old whole c.loop-node.invariant.seen
    (subst (λ ns. CannotPut ns old (marked_node vocab mark)) (c.in_ok-names.ensures ∙ c.as_slice.ensures)
    (subst (λ v. CannotPut (names_of c.in_ok-names.names.keys) old (marked_node v mark)) c.in_ok-reader.ensures cannot))) c.in_err-put_node.ensures.fault)
