use Rattle.std.proofs.Common.{rules, ◌≡◌, ◌-◌, length, reverse, drop, subst, arith}
use Rattle.rls_rename.specs.Heads.{Replaces}
use Rattle.rls_epoch.specs.Ways.{step_map}
use Rattle.rls_epoch.proofs.Turning.{first_moves}
use Rattle.rls_epoch.proofs.nodes.Nodes.move_first.Goals as goal

pub returns-clause-moved : goal.returns-clause-moved
returns-clause-moved c t =
    let ps = c.args.self.now.placed in
    let xs = c.args.turned.now.items in
    let front = c.in-Some.front.items in
    let n = c.len.result - c.args.count in
    let size : c.len.result ≡ length xs = search rules in
    let fewer = c.requires.fewer in
    let all : c.as_slice.result.now ≡ xs = search rules in
    let replaces = rw (c.in-Some.is, c.split_at.ensures.back) at c.in_ok-front.ensures.replaces in
    let new = rw (c.truncate.ensures.items, c.deref.ensures.value) at c.in_ok-extend_from_slice.ensures.items in
    first_moves ps c.args.step xs c.extend_from_slice.new.self.items n front (omega arith) (omega arith) (subst (λ ys. Replaces (step_map ps c.args.step) (reverse (drop n ys)) (reverse front)) all replaces) new
