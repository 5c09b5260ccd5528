use Rattle.std.proofs.Common.{◌≡◌, ◌∙◌, List, [], ◌∷◌, ◌++◌, append_assoc, ap, subst, sym}
use Rattle.tv_kleene.specs.declared.K3.TheVariants.{No, Yes}
use Rattle.tv_structure_form.specs.StructureForm.{StructureForm, table_of}
use Rattle.tv_structure_form.specs.TableForm.{HasEntry}
use Rattle.tv_struct.specs.TupleForm.{tuple_of}
use Rattle.tv_heaps.proofs.ListedLaws.{both_pushed}
use Rattle.tv_heaps.proofs.listed.push_both.Goals as goal

pub set-requires : goal.set-requires
set-requires c =
    subst (λ (s : StructureForm). HasEntry (table_of s) c.args.gap.pred.0 (tuple_of c.args.gap.tuple))
    (sym c.in_ok-one.ensures.value) c.requires.entry

pub set-requires-2 : goal.set-requires-2
set-requires-2 c =
    subst (λ (s : StructureForm). HasEntry (table_of s) c.args.gap.pred.0 (tuple_of c.args.gap.tuple))
    (sym c.in_ok-none.ensures.value) c.requires.entry

pub returns : goal.returns
returns c =
    both_pushed c.args.t.now c.args.gap c.in_ok-one.one c.in_ok-none.none c.set.new.self c.set-2.new.self
    c.args.waiting.now.items c.push.new.self.items c.push-2.new.self.items
    c.in_ok-one.ensures.value c.in_ok-none.ensures.value c.set.ensures.value c.set-2.ensures.value
    c.in_ok-push.ensures.items c.in_ok-push-2.ensures.items
