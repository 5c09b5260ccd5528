use Rattle.std.proofs.Common.{◌≡◌, map, take, All}
use Rattle.tv_coerce_members.specs.Members.{IsPlacedIn, forms_of, members_of, numbers_of}
use Rattle.tv_coerce_members.proofs.members.own_members.Given as goal

abbrev pub invariant-loop-f : goal.invariant-loop-f
invariant-loop-f l =
    (map (λ m. m.form) (members_of l.list) ≡ forms_of (take l.f-index l.forms)) × All (IsPlacedIn (numbers_of l.vars)) (members_of l.list)
