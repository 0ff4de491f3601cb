use Rattle.rls_members.specs.Members.{MembersSeen}
use Rattle.rls_members.proofs.Sat.{held, session_not_five}
use Rattle.rls_members.proofs.members.Members.hold.Goals as goal

pub invariant_of-self : goal.invariant_of-self
invariant_of-self g c =
    let m : MembersSeen = record { group = c.self.inside.group; files = c.self.inside.files.items; sent = c.self.inside.sent.items } in
    (held c.groups_converge.ensures.groups_converge c.events_of_sessions.ensures.sessions_are_of_group m c.self.invariant c.args.member c.serve.result c.index_mut.result.now c.serve.new.self (g.W.Sink.told c.args.output.now) (g.W.Sink.told c.serve.new.output) c.index_mut.ensures.value c.args.self.now (g.S.Source.left c.args.input.now)
    c.self.view_is c.requires.member c.requires.given c.serve.ensures.stores).lived

pub returns : goal.returns
returns g c =
    let m : MembersSeen = record { group = c.self.inside.group; files = c.self.inside.files.items; sent = c.self.inside.sent.items } in
    let r = held c.groups_converge.ensures.groups_converge c.events_of_sessions.ensures.sessions_are_of_group m c.self.invariant c.args.member c.serve.result c.index_mut.result.now c.serve.new.self (g.W.Sink.told c.args.output.now) (g.W.Sink.told c.serve.new.output) c.index_mut.ensures.value c.args.self.now (g.S.Source.left c.args.input.now)
    c.self.view_is c.requires.member c.requires.given c.serve.ensures.stores in
    record { events = r.events; others = r.others; sent = r.sent; unrefused = session_not_five c.serve.result c.serve.ensures.status }
