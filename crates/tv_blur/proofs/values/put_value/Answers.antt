use Rattle.tv_blur.proofs.RowLaws.{put_none}
use Rattle.tv_blur.proofs.values.put_value.Goals as goal

pub returns-in-No : goal.returns-in-No
returns-in-No c = put_none c.args.row.now c.args.w c.args.k c.in-No.is c.requires.blank
