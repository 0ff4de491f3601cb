use Rattle.std.proofs.Common.{◌∙◌}
use Rattle.std.proofs.lemmas.Result.{IfOk-weaker}
use Rattle.rls_ident.proofs.Members.{not_is}
use Rattle.rls_rename.proofs.Stretches.{front_side, high_inverse_goes}
use Rattle.rls_rename.proofs.gap_maps.high_inverse.Goals as goal

pub stripped_if-requires : goal.stripped_if-requires
stripped_if-requires c =
    let o = c.in_ok-is_under.ensures.front in
    record { rest = λ e. let side = front_side o c.in_ok-is_under.front.some ∙ not_is _ e in rw o.first (c.requires.longer (rw o.first at side)) }

pub returns : goal.returns
returns c = record { high_inverse = IfOk-weaker c.stripped_if.result _ _ (λ z g. high_inverse_goes z.first z.len c.in_ok-is_under.ensures.front g) c.stripped_if.ensures.cut }
