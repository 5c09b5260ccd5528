use Rattle.std.proofs.Common.{◌<◌, length, refl, arith}
use Rattle.tv_model.specs.Program.{program_of}
use Rattle.tv_delta.proofs.LowestLaws.{waits}
use Rattle.tv_delta.proofs.lowest.sight_of.Goals as goal

pub returns-in_ok-left-in-Inside : goal.returns-in_ok-left-in-Inside
returns-in_ok-left-in-Inside c =
    let below : c.args.atom.pred.0 < length (program_of c.args.o.now.program.now).preds
    = omega (arith, c.if-atom-pred_count.false, c.pred_count.ensures)
    in (
      waits c.args.o.now
          (record {
            atom = c.args.atom;
            room = c.args.room;
            opened = c.in-Inside.opened;
            left = c.in_ok-left-in-Inside.left;
          }) c.requires.valid below c.in-Inside.ensures c.in_ok-left-in-Inside.ensures,
      refl,
    )
