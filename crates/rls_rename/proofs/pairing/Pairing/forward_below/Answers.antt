use Rattle.std.proofs.lemmas.Result.{IfOk-weaker}
use Rattle.rls_rename.proofs.GapPlaces.{gap_above}
use Rattle.rls_rename.proofs.Fronts.{first_forward}
use Rattle.rls_rename.proofs.pairing.Pairing.forward_below.Goals as goal

pub below-requires : goal.below-requires
below-requires c = record { less = gap_above c.args.self.now.former _ 0 _ c.requires.gap c.in_ok-a.ensures.found }

pub old_below_inverse-requires : goal.old_below_inverse-requires
old_below_inverse-requires c = record { less = rw c.in_ok-x.ensures.first (gap_above c.args.self.now.former _ 0 _ c.requires.gap c.in_ok-a.ensures.found) }

pub returns : goal.returns
returns c = record { forward = IfOk-weaker c.new_below.result _ _ (λ z e. first_forward _ _ _ _ _ _ c.in_ok-x.ensures.first _ _ z.first z.len c.in_ok-a.a c.in_ok-a.ensures.found c.in_ok-x.ensures.cut c.in_ok-old_below_inverse.ensures.old e) c.new_below.ensures.new }
