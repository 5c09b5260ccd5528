use Rattle.tv_cover.proofs.GlanceLaws.{known-more}
use Rattle.tv_cover.proofs.glance.Glance.add_known.Goals as goal

pub returns-then-is_known : goal.returns-then-is_known
returns-then-is_known c =
    known-more c.args.self.now c.args.known.now c.put.new.self c.args.place c.put.ensures
    (c.is_known.ensures.nullary c.if-is_known.true) (c.is_known.ensures.unary c.if-is_known.true) c.requires.so_far
