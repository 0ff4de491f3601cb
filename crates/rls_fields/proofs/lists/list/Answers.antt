use Rattle.std.proofs.Common.{◌∙◌, ap, subst, sym}
use Rattle.std.proofs.lemmas.Result.{err_from_is_err_and}
use Rattle.rls_codec.specs.Gives.{Fails}
use Rattle.rls_codec.proofs.Loop.{ends, is_done}
use Rattle.rls_fields.specs.Listed.{latest}
use Rattle.rls_fields.proofs.ReadOn.{reads_on}
use Rattle.rls_fields.proofs.lists.list.Goals as goal

pub returns-in_err-found : goal.returns-in_err-found
returns-in_err-found g c =
    let part = g.I.Items.item_at c.args.items.now in
    let p = err_from_is_err_and c.from_residual.result c.from_residual.ensures.1 in
    let before = c.last.ensures.value ∙ ap latest c.as_slice.ensures.items in
    let fails = subst (λ b. Fails c.in_err-found.field-0.0 (part b c.loop.rest.now)) before c.in_err-found.ensures.read in
    rw (p.1, p.2) record { read = ends part c.in_err-found.field-0.0 c.loop.list (latest c.loop.list) c.args.count c.loop.counter c.loop.rest.now _ c.loop-test.true fails c.loop.invariant }

pub loop-preserved : goal.loop-preserved
loop-preserved g c =
    let part = g.I.Items.item_at c.args.items.now in
    let before = c.last.ensures.value ∙ ap latest c.as_slice.ensures.items in
    rw c.in_ok-push.ensures.ok (reads_on part c.loop.list c.args.count c.loop.counter c.loop.rest.now c.in_ok-found.found c.in_ok-found.after.now _ c.loop-test.true (ap (λ b. part b c.loop.rest.now) (sym before) ∙ c.in_ok-found.ensures.read) c.loop.invariant)

pub returns : goal.returns
returns g c = record { read = is_done (g.I.Items.item_at c.args.items.now) c.loop.list (latest c.loop.list) c.args.count c.loop.counter c.loop.rest.now _ c.loop-test.false c.loop.invariant }
