use Rattle.std.proofs.Common.{◌≡◌, ◌++◌, List, OnOk, codes, subst}
use Rattle.tv_file_lines.specs.Numbered.{numbered}
use Rattle.tv_stages_laws.specs.declared.record.FocusedAt.{FocusedAt}
use Rattle.tv_stages_text.specs.Texts.{at_hand_text, each_from}
use Rattle.tv_stages_text.proofs.Turns.{rest}
use Rattle.tv_stages_text.proofs.stages.StageWriter.append_row.Goals as goal

pub returns : goal.returns
returns c =
    let r = c.append_focused.result in
    let new = c.append_focused.new.out.items in
    let formula = numbered (codes "stage   focus ") c.args.row.now.formula in
    let atom = numbered (codes " atom ") c.args.row.now.atom in
    let each = each_from (at_hand_text c.args.self.now) 0 c.args.row.now.at_hand in
    rest r c.args.out.now.items c.append_numbered.new.out.items new formula (atom ++ (codes "\n" ++ each))
    c.in_ok-append_numbered.ensures
    (rest r c.append_numbered.new.out.items c.append_numbered-2.new.out.items new atom (codes "\n" ++ each)
    c.in_ok-append_numbered-2.ensures
    (rest r c.append_numbered-2.new.out.items c.extend_from_slice.new.self.items new (codes "\n") each
    c.in_ok-extend_from_slice.ensures.items
    (subst (λ (xs : List FocusedAt). OnOk r (new ≡ c.extend_from_slice.new.self.items
    ++ each_from (at_hand_text c.args.self.now) 0 xs))
    c.as_slice.ensures c.append_focused.ensures)))
