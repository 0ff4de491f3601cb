use Rattle.rls_ident.proofs.Members.{get_in}
use Rattle.std.proofs.Common.{◌≡◌, ◌∙◌, ◌+◌, ◌<◌, length, true, sym, subst, ap, arith}
use Rattle.rls_seen.specs.Seen.{Seen, translate_over}
use Rattle.rls_replica.specs.View.{seen}
use Rattle.rls_replica.proofs.Targets.{known_there, unstable_seen}
use Rattle.std.proofs.lemmas.List.{length-map}
use Rattle.std.proofs.lemmas.Option.{slice_get-map}
use Rattle.std.specs.Prelude.{option_map, slice_get}
use Rattle.rls_seen.specs.Over.{is_known_over}
use Rattle.rls_seen.proofs.TextLists.{ident_in}
use Rattle.rls_replica.proofs.replica.Replica.names_front.Goals as goal

pub translate_runs-requires-clause-to : goal.translate_runs-requires-clause-to
translate_runs-requires-clause-to c = c.self.invariant.sane.unstable c.args.op.now (unstable_seen c.args.op.now c.self.view_is c.requires.logged (sym c.is_stable.ensures.covered ∙ c.if-is_stable.false))

pub get-requires : goal.get-requires
get-requires c =
    let long = ap length c.in_ok-there.ensures.translated ∙ length-map c.args.ids.now (translate_over (seen c.self.inside) c.args.epoch c.args.op.now.epoch) in
    record { place = subst (λ n. 0 < n) (sym long) c.requires.some }

pub returns-in-Ok-clause-within : goal.returns-in-Ok-clause-within
returns-in-Ok-clause-within c =
    let long = ap length c.in_ok-there.ensures.translated ∙ length-map c.args.ids.now (translate_over (seen c.self.inside) c.args.epoch c.args.op.now.epoch) in
    omega (arith, long, c.count_common.ensures.within)

pub returns-in-Ok-clause-known : goal.returns-in-Ok-clause-known
returns-in-Ok-clause-known c k x l g =
    let i = seen c.self.inside in
    let o = c.args.op.now in
    let e = c.args.epoch in
    let xs = c.args.ids.now in
    let f = translate_over i e o.epoch in
    let unstable = unstable_seen c.args.op.now c.self.view_is c.requires.logged (sym c.is_stable.ensures.covered ∙ c.if-is_stable.false) in
    let there = ap (λ ys. slice_get ys k) c.in_ok-there.ensures.translated ∙ (slice_get-map f xs k ∙ ap (option_map f) g) in
    let first : 0 + k ≡ k = omega arith in
    let among = get_in c.in-Delete.targets (c.in-Ok.i + k) (f x) (sym (c.count_common.ensures.same k l) ∙ (ap (slice_get c.in_ok-there.there) first ∙ there)) in
    subst (λ (s : Seen). is_known_over s e x ≡ true) c.self.view_is
    (known_there i e x o c.in-Delete.targets c.self.invariant.sane.epochs.nodes (ident_in xs c.total-ids.ensures.idents x (get_in xs k x g)) c.total-targets.ensures.idents unstable c.in-Delete.is among)
