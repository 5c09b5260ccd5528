use Rattle.tv_edge_heads.proofs.OneHeads.{heads_one}
use Rattle.tv_edge_heads.proofs.laws.heads_are_one.Goals as goal

pub returns : goal.returns
returns c =
    heads_one c.one_reading.ensures c.one_declaration.ensures.row c.one_action.ensures.row c.one_edge.ensures.single
