use Rattle.std.proofs.Common.{◌≡◌, ◌∙◌, ◌<◌, sym, ap, length, arith, subst, Some}
use Rattle.std.specs.Prelude.{slice_get}
use Rattle.std.proofs.lemmas.Option.{slice_get-get_or}
use Rattle.rls_parts.proofs.Owned.{own_read, map_count, nth_is}
use Rattle.rls_parts.proofs.Tabled.{member_is}
use Rattle.rls_parts.proofs.table.StemTable.nth.Goals as goal

pub nth-requires : goal.nth-requires
nth-requires c =
    let ls = c.self.inside.lines.items in
    let own = own_read ls c.args.self.now c.args.author c.index.result.now c.self.view_is (member_is ls c.args.self.now c.args.author c.self.view_is c.requires.author) c.index.ensures in
    record { place = omega (arith, ap length own, map_count c.args.author c.index.result.now.reaches, c.requires.place) }

pub returns : goal.returns
returns c =
    let ls = c.self.inside.lines.items in
    let rs = c.index.result.now.reaches in
    let own = own_read ls c.args.self.now c.args.author c.index.result.now c.self.view_is (member_is ls c.args.self.now c.args.author c.self.view_is c.requires.author) c.index.ensures in
    let place : c.args.i < length rs = omega (arith, ap length own, map_count c.args.author rs, c.requires.place) in
    record { stem = ap (λ xs. slice_get xs c.args.i) own ∙ nth_is c.args.author rs c.args.i c.nth.result place c.nth.ensures.stem }
