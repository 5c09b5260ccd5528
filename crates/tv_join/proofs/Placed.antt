-- A structure is put among those of a node.
use Rattle.std.proofs.Common.{ℕ, ◌≡◌, List, Bool}
use Rattle.std.specs.Prelude.{Result, Ok, Err, IfOk, OnOk, slice_set}
use Rattle.tv_structure_form.specs.StructureForm.{StructureForm}
use Rattle.tv_join.specs.Members.{MembersForm, IsIndexed, Puts}
use Rattle.tv_join.specs.State.{JoinsForm, IsPut, members_at}
use Rattle.tv_join.specs.declared.members.Put.{Put}

-- where what stands at the node is replaced by what comes of it, and all else stays, the structure is put
pub put-there : {E : Type 0} (counted : List Bool) (old new : JoinsForm) (k : ℕ) (s : StructureForm)
    (before after : MembersForm) (result : Result Put E)
    → before ≡ members_at old.nodes k → new.nodes ≡ slice_set old.nodes k after
    → new.room ≡ old.room → new.changed ≡ old.changed
    → IfOk result (Puts counted before.structures s after.structures)
    → OnOk result (IsIndexed counted after) → IfOk result (IsPut counted old k s new)
put-there counted old new k s before after (Ok put) there set room changed puts indexed = record {
  node = after;
  set = set;
  puts = rw (← there) puts;
  indexed = indexed;
  room = room;
  changed = changed;
}
put-there counted old new k s before after (Err e) there set room changed puts indexed = tt
