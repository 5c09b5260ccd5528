use Rattle.std.proofs.Common.{◌≡◌, ◌++◌, List, OnOk, codes, subst}
use Rattle.tv_file_lines.specs.Numbered.{numbered}
use Rattle.tv_stages_laws.specs.declared.record.PickedUpdate.{PickedUpdate}
use Rattle.tv_stages_text.specs.Texts.{each_from, pick_text, shown}
use Rattle.tv_stages_text.proofs.Turns.{rest}
use Rattle.tv_stages_text.proofs.stages.StageWriter.append_update.Goals as goal

pub returns : goal.returns
returns c =
    let r = c.append_picks.result in
    let new = c.append_picks.new.out.items in
    let p = c.args.self.now in
    let hand = shown p c.args.updated.now.at_hand in
    let picks = each_from (λ _ (pick : PickedUpdate). pick_text p pick) 0 c.args.updated.now.picks in
    rest r c.args.out.now.items c.append_numbered.new.out.items new
    (numbered (codes "stage   update of ") c.args.number) (hand ++ picks) c.in_ok-append_numbered.ensures
    (rest r c.append_numbered.new.out.items c.append_shown.new.out.items new hand picks c.in_ok-append_shown.ensures
    (subst (λ (xs : List PickedUpdate). OnOk r (new ≡ c.append_shown.new.out.items
    ++ each_from (λ _ (pick : PickedUpdate). pick_text p pick) 0 xs))
    c.as_slice.ensures c.append_picks.ensures))
