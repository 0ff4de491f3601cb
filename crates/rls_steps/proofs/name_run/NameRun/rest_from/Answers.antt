use Rattle.std.proofs.Common.{◌+◌, ◌-◌, ◌<◌, ℕ, List, refl, sym, ap, ◌∙◌, subst, arith}
use Rattle.std.specs.Prelude.{◌^◌}
use Rattle.rls_ident.specs.declared.tuple.Tuple.{Tuple}
use Rattle.rls_steps.specs.NameRuns.{Stretch, IsStretch}
use Rattle.rls_steps.proofs.Stretches.{first_by, rest_down, rest_up, room_down}
use Rattle.rls_steps.proofs.name_run.NameRun.rest_from.Goals as goal

pub returns-then-self-clause-room : goal.returns-then-self-clause-room
returns-then-self-clause-room c =
    let r = c.args.self.now in
    let e = c.self.view_is in
    let first = c.label-first.ensures.label ∙ ap (λ (n : List Tuple × ℕ). n.1) (first_by r.down r.first r.label) in
    let label : r.label < 2 ^ 64 = omega (arith, first) in
    let sound = subst (λ (q : Stretch). IsStretch q.first q.label q.down q.len) e c.self.invariant in
    room_down r c.args.place (c.args.place + 1) label sound (sym (ap (λ (q : Stretch). q.down) e) ∙ c.if-self.true) c.requires.place refl

pub returns-then-self-clause-labels : goal.returns-then-self-clause-labels
returns-then-self-clause-labels c =
    let r = c.args.self.now in
    let e = c.self.view_is in
    let sound = subst (λ (q : Stretch). IsStretch q.first q.label q.down q.len) e c.self.invariant in
    rest_down r c.args.place (c.args.place + 1) sound (sym (ap (λ (q : Stretch). q.down) e) ∙ c.if-self.true) c.requires.place refl

pub returns-clause-labels : goal.returns-clause-labels
returns-clause-labels c =
    let e = c.self.view_is in
    rest_up c.args.self.now c.args.place (c.self.inside.len - c.args.place) (sym (ap (λ (q : Stretch). q.down) e) ∙ c.if-self.false) (ap (λ (q : Stretch). q.len - c.args.place) e)
