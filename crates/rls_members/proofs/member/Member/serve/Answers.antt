use Rattle.std.proofs.Common.{◌≡◌, ◌∙◌, ℕ, List, Option, Some, sym, ap, subst}
use Rattle.rls_codec.specs.CodecLaws.{IsBytes}
use Rattle.rls_model.specs.Receiving.{State}
use Rattle.rls_stages.specs.KeptFile.{Stays}
use Rattle.rls_top.specs.Groups.{IsFileOf}
use Rattle.rls_session.specs.Serving.{file_after}
use Rattle.rls_groups.specs.Lives.{Life}
use Rattle.rls_groups.specs.Runs.{file_at}
use Rattle.rls_members.specs.Members.{file_in}
use Rattle.rls_members.specs.Sessions.{IsLeftBy}
use Rattle.rls_members.proofs.Ran.{if_some, is_some_of, some_in}
use Rattle.rls_members.proofs.Sat.{stays_some}
use Rattle.rls_members.proofs.member.Member.serve.Goals as goal

pub invariant_of-self : goal.invariant_of-self
invariant_of-self g c =
    let e = c.serve.ensures.ends in
    let there = stays_some e.stores.stored (file_in c.self.inside.keeper.file) c.serve.new.keeper.file (subst (λ (file : Option (List ℕ)). Stays (file_after e.stores.stored (Some file)) (Some c.serve.new.keeper.file)) (some_in c.self.inside.keeper.file c.self.invariant) e.stays) in
    is_some_of c.serve.new.keeper.file there.0 there.1

pub returns-clause-stores : goal.returns-clause-stores
returns-clause-stores g c =
    let e = c.serve.ensures.ends in
    let there = stays_some e.stores.stored (file_in c.self.inside.keeper.file) c.serve.new.keeper.file (subst (λ (file : Option (List ℕ)). Stays (file_after e.stores.stored (Some file)) (Some c.serve.new.keeper.file)) (some_in c.self.inside.keeper.file c.self.invariant) e.stays) in
    let now : Some c.serve.new.keeper.file ≡ Some (Some (file_in c.serve.new.keeper.file)) = ap (λ file. Some file) (some_in c.serve.new.keeper.file (is_some_of c.serve.new.keeper.file there.0 there.1)) in
    if_some (g.S.Source.left c.args.input.now) (λ given. (l : Life) (i : ℕ) (t : State) → file_at l.group i ≡ Some c.args.self.now → IsFileOf l.group i t → IsBytes given → IsLeftBy l i given c.serve.result (file_in c.serve.new.keeper.file) (g.W.Sink.told c.args.output.now) (g.W.Sink.told c.serve.new.output))
    (λ given is l i t at file b.
    let old : Some c.self.inside.keeper.file ≡ Some (file_at l.group i) = ap (λ file. Some file) (some_in c.self.inside.keeper.file c.self.invariant ∙ (ap (λ file. Some file) c.self.view_is ∙ sym at)) in
    let q = c.runs_are_events.ensures.stores l i given c.serve.result (Some (file_in c.serve.new.keeper.file)) t c.self.inside.keeper c.serve.new.keeper c.args.input.now c.serve.new.input c.args.output.now c.serve.new.output _ _ file b e old is now in
    record { all = q.0; done = q.1.0; file = q.1.1; written = q.1.2 })

pub returns-clause-status : goal.returns-clause-status
returns-clause-status g c = c.serve.ensures.ends.no_other
