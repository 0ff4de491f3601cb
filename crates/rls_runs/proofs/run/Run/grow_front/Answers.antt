use Rattle.std.proofs.Common.{◌≡◌, ◌+◌, ℕ, true, List, ap, sym, subst, arith}
use Rattle.std.specs.Prelude.{pos, ◌-ℤ◌}
use Rattle.rls_ident.specs.declared.tuple.Tuple.{Tuple}
use Rattle.rls_ident.specs.Identifiers.{shifted}
use Rattle.rls_runs.specs.Runs.{is_run}
use Rattle.rls_runs.proofs.RunEnds.{front_least, run_short}
use Rattle.rls_runs.proofs.run.Run.grow_front.Goals as goal

pub lower-requires : goal.lower-requires
lower-requires c =
    let longer = subst (λ (r : List Tuple × ℕ). is_run (shifted (pos 0 -ℤ pos c.args.by) r.0, r.1 + c.args.by) ≡ true) (sym c.self.view_is) c.requires.fits in
    record { least = front_least (c.self.inside.first, c.self.inside.len) c.args.by c.self.invariant longer }

pub overflow_add-self : goal.overflow_add-self
overflow_add-self c =
    let r = c.args.self.now in
    let short = run_short (shifted (pos 0 -ℤ pos c.args.by) r.0, r.1 + c.args.by) c.requires.fits in
    let e : c.self.inside.len ≡ r.1 = ap (λ (q : List Tuple × ℕ). q.1) c.self.view_is in
    omega arith
