use Rattle.tv_embed.proofs.SearchLaws.{whole_searched}
use Rattle.tv_embed.proofs.search.is_whole.Goals as goal

pub returns : goal.returns
returns c =
    whole_searched c.args.small.now c.args.large.now c.args.images.now c.is_onto.result c.size.ensures.kept c.requires.vocabulary
    c.requires.whole c.requires.so_far c.is_onto.ensures.0 c.is_onto.ensures.1
