use Rattle.std.proofs.Common.{◌≡◌, ◌∙◌, length, sym, ap, arith}
use Rattle.std.specs.Prelude.{slice_index}
use Rattle.rls_ident.proofs.Vectors.{length-join}
use Rattle.rls_model.proofs.OnePlace.{length-set}
use Rattle.rls_seen.specs.Seen.{Seen, members, vector}
use Rattle.rls_replica.proofs.replica.Replica.known_to_told.Goals as goal

pub join_in-requires-2 : goal.join_in-requires-2
join_in-requires-2 c =
    let s = c.args.self.now in
    let its = c.in_ok-its.its in
    let row = c.in_ok-known.known in
    let told : length its ≡ length c.args.told.now = ap length c.in_ok-its.ensures.its ∙ length-set c.args.told.now c.args.to (slice_index (vector s) c.args.to) in
    let own : length c.self.inside.acks.mine ≡ members s = ap members c.self.view_is in
    let copied : length row ≡ length c.row.result.now = ap length c.in_ok-known.ensures.copy in
    let same : length row ≡ length its = copied ∙ (c.row.ensures.len ∙ (own ∙ (sym c.requires.counts ∙ sym told))) in
    record { members = ap length c.join_in.ensures.join ∙ (length-join row its same ∙ (sym same ∙ (copied ∙ (c.row.ensures.len ∙ sym c.stable.ensures.len)))) }
