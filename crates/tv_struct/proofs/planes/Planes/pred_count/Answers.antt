use Rattle.std.proofs.Common.{◌∙◌, length, ap, sym}
use Rattle.tv_struct.proofs.HeldLaws.{now_arities}
use Rattle.tv_struct.proofs.planes.Planes.pred_count.Goals as goal

pub returns : goal.returns
returns c = c.pred_count.ensures ∙ sym (ap length (now_arities c.self.inside.layout c.self.inside.words.words c.args.self.now c.self.view_is))
