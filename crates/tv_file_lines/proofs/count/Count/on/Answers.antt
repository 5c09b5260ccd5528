use Rattle.tv_file_lines.proofs.Counting.{counted}
use Rattle.tv_file_lines.proofs.count.Count.on.Goals as goal

pub returns-clause-counts : goal.returns-clause-counts
returns-clause-counts c =
    counted c.args.bytes.now c.usable-begun.result c.args.start c.args.end c.line_feeds.result
    (c.usable-begun.ensures.counts c.args.bytes.now c.requires.counts c.requires.within)
    c.usable-begun.ensures.start c.usable-begun.ensures.end c.requires.within c.line_feeds.ensures
