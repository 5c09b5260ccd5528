use Rattle.std.proofs.Common.{◌≡◌, ◌∙◌, length, take, ap, sym, refl, arith}
use Rattle.std.proofs.Math.Seq.{take-length}
use Rattle.std.proofs.lemmas.List.{map-id}
use Rattle.tv_row.proofs.PlaceLaws.{length-row_of}
use Rattle.tv_row.proofs.RowOps.{length_seen, front_holds, front_row}
use Rattle.tv_row.proofs.row.Row.first_more.Goals as goal

pub returns-then-size-self : goal.returns-then-size-self
returns-then-size-self c =
    let all : c.args.size ≡ length c.args.self.now = omega (
      arith,
      c.requires,
      length-row_of c.self.inside.words c.self.inside.size 0,
      ap length c.self.view_is,
    )
    in c.self.view_is ∙ sym (ap (λ n. take n c.args.self.now) all ∙ take-length c.args.self.now)

pub invariant_of-result : goal.invariant_of-result
invariant_of-result c = c.self.invariant

pub invariant_of-result-2 : goal.invariant_of-result-2
invariant_of-result-2 c =
    front_holds c.self.inside.words c.loop-p.words c.self.inside.size c.args.size c.loop-p.p c.args.self.now
    (λ k. k) c.self.invariant
    c.self.view_is c.requires (omega (arith, c.div_ceil-p-end.ensures))
    (omega (
      arith,
      c.div_ceil-p-end.ensures,
      c.self.invariant.small,
      c.requires,
      length_seen _ _ _
          c.self.view_is,
    )) (λ word. word) (λ word e. e) (λ word i e low. refl)
    c.loop-p.invariant

pub returns : goal.returns
returns c =
    front_row c.self.inside.words c.loop-p.words c.self.inside.size c.args.size c.loop-p.p c.args.self.now
    (λ k. k) c.self.invariant
    c.self.view_is c.requires (omega (arith, c.div_ceil-p-end.ensures))
    (omega (
      arith,
      c.div_ceil-p-end.ensures,
      c.self.invariant.small,
      c.requires,
      length_seen _ _ _
          c.self.view_is,
    )) (λ word. word) (λ word e. e) (λ word i e low. refl)
    c.loop-p.invariant
    ∙ map-id (take c.args.size c.args.self.now)
