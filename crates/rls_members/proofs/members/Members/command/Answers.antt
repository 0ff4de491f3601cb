use Rattle.std.proofs.Common.{map, string_bytes}
use Rattle.rls_members.specs.Members.{MembersSeen}
use Rattle.rls_members.proofs.Commands.{ran}
use Rattle.rls_members.proofs.members.Members.command.Goals as goal

pub invariant_of-self : goal.invariant_of-self
invariant_of-self g c =
    let m : MembersSeen = record { group = c.self.inside.group; files = c.self.inside.files.items; sent = c.self.inside.sent.items } in
    (ran c.groups_converge.ensures.groups_converge m c.self.invariant c.args.member (map string_bytes c.args.words.now) c.run.result c.index_mut.result.now c.run.new.self (g.W.Sink.told c.args.output.now) (g.W.Sink.told c.run.new.output) c.index_mut.ensures.value c.args.self.now (g.S.Source.left c.args.input.now)
    c.self.view_is c.requires.member c.requires.given c.run.ensures.event c.run.ensures.ends).lived

pub returns : goal.returns
returns g c =
    let m : MembersSeen = record { group = c.self.inside.group; files = c.self.inside.files.items; sent = c.self.inside.sent.items } in
    let r = ran c.groups_converge.ensures.groups_converge m c.self.invariant c.args.member (map string_bytes c.args.words.now) c.run.result c.index_mut.result.now c.run.new.self (g.W.Sink.told c.args.output.now) (g.W.Sink.told c.run.new.output) c.index_mut.ensures.value c.args.self.now (g.S.Source.left c.args.input.now)
    c.self.view_is c.requires.member c.requires.given c.run.ensures.event c.run.ensures.ends in
    record { event = r.event; after = r.after; ends = r.ends; clean = r.clean }
