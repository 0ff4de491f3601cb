use Rattle.std.proofs.Common.{◌≡◌, ◌∙◌, ◌<◌, Some, length, sym, ap, subst}
use Rattle.std.specs.Prelude.{slice_get}
use Rattle.std.proofs.lemmas.Option.{slice_get-get_or}
use Rattle.rls_seen.specs.Seen.{Seen, members}
use Rattle.rls_world.specs.Seen.{WorldSeen}
use Rattle.rls_world.proofs.Clean.{same_shown}
use Rattle.rls_world.proofs.Groups.{group_at}
use Rattle.rls_world.proofs.Standing.{replica_at}
use Rattle.rls_world.proofs.world.World.replica.Goals as goal

pub returns-clause-replica : goal.returns-clause-replica
returns-clause-replica c =
    let i = c.args.member in
    let r = c.index.result.now in
    let below : i < length c.self.inside.replicas.items = subst (λ (w : WorldSeen). i < length w.replicas) (sym c.self.view_is) c.requires.member in
    subst (λ (w : WorldSeen). slice_get w.replicas i ≡ Some r) c.self.view_is (slice_get-get_or c.self.inside.replicas.items i r below ∙ ap (λ (x : Seen). Some x) (sym c.index.ensures))

pub returns-clause-stands : goal.returns-clause-stands
returns-clause-stands c = λ w h. replica_at c.args.self.now w c.args.member c.index.result.now h (returns-clause-replica c)

pub returns-clause-alike : goal.returns-clause-alike
returns-clause-alike c = λ w hs a h j r e v. same_shown c.args.self.now w hs c.args.member j r c.index.result.now a h (returns-clause-replica c) e v

pub returns-clause-members : goal.returns-clause-members
returns-clause-members c =
    let i = c.args.member in
    let r = c.index.result.now in
    let s : WorldSeen = record { replicas = c.self.inside.replicas.items; sent = c.self.inside.sent.items } in
    let at : slice_get s.replicas i ≡ Some r = subst (λ (w : WorldSeen). slice_get w.replicas i ≡ Some r) (sym c.self.view_is) (returns-clause-replica c) in
    subst (λ (w : WorldSeen). members r ≡ length w.replicas) c.self.view_is (group_at c.self.inside.group (length s.replicas) s.replicas i r c.self.invariant.replicas at).members_are
