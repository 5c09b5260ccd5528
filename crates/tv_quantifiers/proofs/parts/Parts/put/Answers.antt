use Rattle.std.proofs.Common.{arith}
use Rattle.tv_quantifiers.proofs.Keeping.{one-more}
use Rattle.tv_quantifiers.proofs.parts.Parts.put.Goals as goal

pub returns : goal.returns
returns c = λ s holds new. record {
  each = one-more s c.args.self.now.parts c.args.self.now.known c.args.self.now.values c.args.place c.args.part
      c.args.known c.args.values (omega arith) (omega arith) (omega arith) new holds.each;
}
