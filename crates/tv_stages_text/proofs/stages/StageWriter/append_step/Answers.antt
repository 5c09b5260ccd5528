use Rattle.std.proofs.Common.{◌≡◌, ◌++◌, List, OnOk, codes, subst}
use Rattle.tv_file_lines.specs.Numbered.{numbered}
use Rattle.tv_stages_laws.specs.declared.record.FocusRow.{FocusRow}
use Rattle.tv_stages_laws.specs.declared.record.UpdatedAt.{UpdatedAt}
use Rattle.tv_structure_form.specs.StructureForm.{StructureForm}
use Rattle.tv_stages_text.specs.Texts.{each_from, fate_text, result_text, shown, turn_text, updated_text}
use Rattle.tv_stages_text.proofs.Turns.{rest}
use Rattle.tv_stages_text.proofs.stages.StageWriter.append_step.Goals as goal

pub returns : goal.returns
returns c =
    let r = c.append_results.result in
    let new = c.append_results.new.out.items in
    let p = c.args.self.now in
    let step = c.args.step.now in
    let rows = λ (xs : List FocusRow). each_from (λ _ (row : FocusRow). turn_text p row) 0 xs in
    let updates = λ (xs : List UpdatedAt). each_from (updated_text p) 0 xs in
    let results = λ (xs : List StructureForm). each_from (result_text p) 0 xs in
    let behind = rows step.focus ++ (updates step.updates ++ results step.results) in
    let start = codes "stage   " ++ (fate_text p step.start ++ behind) in
    rest r c.args.out.now.items c.append_numbered.new.out.items new
    (numbered (codes "stage structure ") c.args.number) (shown p c.args.s.now ++ start)
    c.in_ok-append_numbered.ensures
    (rest r c.append_numbered.new.out.items c.append_shown.new.out.items new (shown p c.args.s.now) start
    c.in_ok-append_shown.ensures
    (rest r c.append_shown.new.out.items c.extend_from_slice.new.self.items new (codes "stage   ")
    (fate_text p step.start ++ behind) c.in_ok-extend_from_slice.ensures.items
    (rest r c.extend_from_slice.new.self.items c.append_fate.new.out.items new (fate_text p step.start) behind
    c.in_ok-append_fate.ensures
    (rest r c.append_fate.new.out.items c.append_rows.new.out.items new (rows step.focus)
    (updates step.updates ++ results step.results)
    (subst (λ (xs : List FocusRow). c.append_rows.new.out.items ≡ c.append_fate.new.out.items ++ rows xs)
    c.as_slice.ensures c.in_ok-append_rows.ensures)
    (rest r c.append_rows.new.out.items c.append_updates.new.out.items new (updates step.updates)
    (results step.results)
    (subst (λ (xs : List UpdatedAt). c.append_updates.new.out.items ≡ c.append_rows.new.out.items ++ updates xs)
    c.as_slice-2.ensures c.in_ok-append_updates.ensures)
    (subst (λ (xs : List StructureForm). OnOk r (new ≡ c.append_updates.new.out.items ++ results xs))
    c.as_slice-3.ensures c.append_results.ensures))))))
