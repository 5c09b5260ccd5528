use Rattle.tv_heaps.proofs.JudgedLaws.{lies_found}
use Rattle.tv_heaps.proofs.judged.lies_in.Goals as goal

pub returns : goal.returns
returns c =
    lies_found c.args.t.now c.args.s.now c.size.ensures.kept c.requires.two_valued c.in_ok-map.map
    c.in_ok-map.ensures.least
    c.in_ok-map.ensures.none c.is_some.result c.is_some.ensures
