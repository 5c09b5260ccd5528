use Rattle.std.proofs.Common.{refl}
use Rattle.tv_focus_laws.proofs.laws.examples_are_right.Goals as goal

pub returns : goal.returns
returns c = record {
  three = refl;
  copies = refl;
  two = refl;
  before_a_summary = refl;
  behind_a_summary = refl;
  sets = refl;
  seven = refl;
  seven_few = refl;
  eight = refl;
  eight_few = refl;
  anchors = refl;
  first = refl;
  second = refl;
  following = refl;
  most = refl;
}
