use Rattle.std.proofs.Common.{◌++◌, ◌+◌, ◌∙◌, ap, take, length, arith, length-take-le}
use Rattle.std.proofs.lemmas.Simd.{take_more_put_chunk, length-put_chunk}
use Rattle.tv_tvs.proofs.Rooms.{placed}
use Rattle.tv_tvs.proofs.short.ShortText.place.Goals as goal

pub returns-clause-placed : goal.returns-clause-placed
returns-clause-placed c =
    let bytes = c.self.inside.bytes
    in let whole = take_more_put_chunk c.args.at c.args.room.now bytes (c.args.at + 8) (omega (arith, c.self.invariant.1)) c.requires
    in record {
      bytes = placed c.args.room.now _ bytes c.args.at c.self.inside.size c.self.invariant.0 (omega (arith, c.requires)) whole
          ∙ ap (λ t. take c.args.at c.args.room.now ++ t) c.self.view_is;
      moved = omega (arith, length-take-le c.self.inside.size bytes (omega (arith, c.self.invariant.0, c.self.invariant.1)), ap length c.self.view_is);
      length = length-put_chunk c.args.at c.args.room.now bytes;
    }
