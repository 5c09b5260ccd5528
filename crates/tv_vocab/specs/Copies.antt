-- What the values of the code stand for.
use Rattle.tv_model.specs.Program.{pre_of, picks_of}
use Rattle.tv_names.specs.Copies.{naming_of}
use Rattle.tv_vocab.specs.declared.actions.Picking.{Picking}
use Rattle.tv_vocab.specs.Actions.{PickingForm}

abbrev pub picking_of : Picking → PickingForm
picking_of p = record { pre = pre_of p.pre; picks = picks_of p.picks.items; picked = naming_of p.picked }
