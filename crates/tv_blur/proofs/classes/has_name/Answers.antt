use Rattle.std.proofs.Common.{[], ◌≡◌, arith}
use Rattle.std.proofs.lemmas.List.{get_or_read}
use Rattle.tv_blur.specs.Classes.{class_at}
use Rattle.tv_blur.proofs.Gathered.{first_within}
use Rattle.tv_blur.proofs.classes.has_name.Goals as goal

pub compare-requires-clause-one : goal.compare-requires-clause-one
compare-requires-clause-one c =
    let members : c.index-classes-place.result ≡ class_at c.args.classes.now c.args.place
    = get_or_read c.args.classes.now c.args.place c.index-classes-place.result c.if-place-classes.true c.index-classes-place.is []
    in omega (
      arith,
      c.first.ensures,
      (first_within c.args.names.now c.args.u c.args.classes.now c.args.place c.index-classes-place.result c.requires.gathered
          c.if-place-classes.true members).1,
      c.requires.individual,
    )
