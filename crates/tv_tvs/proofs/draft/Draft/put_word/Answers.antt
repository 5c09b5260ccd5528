use Rattle.std.proofs.Common.{◌++◌, ◌∙◌, ap, arith, length, take}
use Rattle.tv_tvs.proofs.Rooms.{kept_then}
use Rattle.tv_tvs.proofs.draft.Draft.put_word.Goals as goal

pub returns : goal.returns
returns c =
    let end = c.self.inside.end
    in let bytes = c.as_mut_slice.result.now
    in let before = ap (take end) c.as_mut_slice.ensures.value ∙ c.make_room.ensures.kept ∙ c.self.view_is
    in kept_then bytes c.place_word-count.new.room _ _ end c.place_word-count.result c.make_room.new.room.len
    (omega (arith, c.in_ok-make_room.ensures.long, ap length c.as_mut_slice.ensures.value))
    c.place_word-count.ensures.fits
    (omega (arith, c.in_ok-make_room.ensures.long, c.make_room.new.room.ok.0, c.place_word-count.ensures.within))
    ∙ (λ i. before i ++ c.place_word-count.ensures.text i)
