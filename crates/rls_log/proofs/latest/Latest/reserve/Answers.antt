use Rattle.std.proofs.Common.{◌-◌, ◌≤◌, length, replicate, vec_len, arith}
use Rattle.rls_log.proofs.Bounds.{reserved}
use Rattle.rls_log.proofs.latest.Latest.reserve.Goals as goal

pub returns-in_ok-resize : goal.returns-in_ok-resize
returns-in_ok-resize c =
    let ns = c.args.self.now.counts.items in
    let few : length ns ≤ c.args.members = omega (arith, c.if-members-len.true, c.len.ensures, c.args.self.now.counts.ok.0) in
    record { same = λ os before rising. reserved ns c.resize.new.self.items (replicate (c.args.members - vec_len c.args.self.now.counts) 0) os c.args.members c.in_ok-resize.ensures.items few (before rising) }
