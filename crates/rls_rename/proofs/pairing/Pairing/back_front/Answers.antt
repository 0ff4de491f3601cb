use Rattle.std.proofs.Common.{sym, ◌∙◌, arith}
use Rattle.std.proofs.lemmas.Result.{IfOk-weaker}
use Rattle.rls_rename.specs.Renaming.{new_from}
use Rattle.rls_rename.proofs.GapPlaces.{gap_most, gap_within}
use Rattle.rls_rename.proofs.GapImages.{new_length, new_place_is}
use Rattle.rls_rename.proofs.Fronts.{former_back}
use Rattle.rls_rename.proofs.pairing.Pairing.back_front.Goals as goal

pub former_front-requires-clause-place : goal.former_front-requires-clause-place
former_front-requires-clause-place c =
    let f = c.args.self.now.former in
    let w = gap_within (new_from c.args.self.now.first 0 f) c.first.result.now c.in-Ok.i (sym c.in-Ok.ensures.place) in
    let n = new_length c.args.self.now.first 0 f in
    omega arith

pub back_gap-requires-clause-within : goal.back_gap-requires-clause-within
back_gap-requires-clause-within c = rw (sym (new_length c.args.self.now.first 0 c.args.self.now.former)) (gap_most (new_from c.args.self.now.first 0 c.args.self.now.former) c.first.result.now c.in-Err.gap (sym c.in-Err.ensures.place))

pub returns-in-Ok : goal.returns-in-Ok
returns-in-Ok c =
    let f = c.args.self.now.former in
    let run = c.args.run.now in
    let same = new_place_is c.args.self.now.first f c.first.result.now c.in-Ok.i (sym c.in-Ok.ensures.place) ∙ c.first.ensures.first in
    record { back = IfOk-weaker c.former_front.result _ _ (λ a e. former_back c.args.self.now.first f run.0 run.1 c.in-Ok.i a.first a.len c.args.self.now.increase same (rw (sym c.len.ensures.len) e)) c.former_front.ensures.idents }
