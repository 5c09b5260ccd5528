-- Two variables read the first two individuals.
use Rattle.std.proofs.Common.{refl}
use Rattle.tv_concrete.specs.Lists.{assignment_of}
use Rattle.tv_concrete.proofs.Lists.{put_all-two}
use Rattle.tv_concrete.proofs.enumerate.put_tuple.Goals as goal

pub returns-in-Two-len2-up : goal.returns-in-Two-len2-up
returns-in-Two-len2-up c =
    rw (
      c.in-Two-len2-up.is-0,
      put_all-two
          (assignment_of c.args.values) c.in-Two-len2-up.v.0 c.in-Two-len2-up.w.0 c.args.tuple.now c.in-Two-len2-up.len_at_least,
    )
    (rw (c.with-in-Two-len2-up-2.ensures, c.with-in-Two-len2-up.ensures) refl)
