use Rattle.tv_row.proofs.WordMore.{first_possible_is}
use Rattle.tv_row.proofs.word.Word.first_possible.Goals as goal

pub returns : goal.returns
returns c =
    first_possible_is c.self.inside.may c.self.inside.must c.args.from c.args.self c.first_from.result c.self.view_is
    c.first_from.ensures
