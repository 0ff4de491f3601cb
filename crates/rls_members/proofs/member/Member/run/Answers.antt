use Rattle.std.proofs.Common.{◌≡◌, ◌∙◌, ℕ, Some, refl, sym, ap, map, string_bytes, arith}
use Rattle.rls_model.proofs.OnePlace.{got_below}
use Rattle.rls_top.specs.Due.{due}
use Rattle.rls_groups.specs.Lives.{Life, lived}
use Rattle.rls_groups.specs.Runs.{file_at}
use Rattle.rls_members.specs.Members.{file_in}
use Rattle.rls_members.specs.Running.{EndsAs, performed}
use Rattle.rls_members.proofs.Ran.{alone, ends_as, if_some, is_some_of, left, some_given, some_in, still_there}
use Rattle.rls_members.proofs.member.Member.run.Goals as goal

pub invariant_of-self : goal.invariant_of-self
invariant_of-self g c =
    let words = map string_bytes c.args.words.now in
    let given = some_given (g.S.Source.left c.args.input.now) c.requires.told in
    let l = alone (file_in c.self.inside.keeper.file) in
    let e = performed 0 words given.0 c.run.result in
    let there = still_there l 0 e (omega arith) in
    let at = left l 0 words given.0 c.run.result c.run.new.keeper.file ((c.runs_are_events.ensures.commands l 0 words given.0 c.run.result c.self.inside.keeper c.run.new.keeper c.args.input.now c.run.new.input c.args.output.now c.run.new.output (omega arith) c.run.ensures.ends (ap (λ file. Some file) (some_in c.self.inside.keeper.file c.self.invariant)) given.1).0 c.run.new.keeper.file refl) in
    is_some_of c.run.new.keeper.file there.0 (at ∙ there.1)

pub returns-clause-event : goal.returns-clause-event
returns-clause-event g c =
    let words = map string_bytes c.args.words.now in
    if_some (g.S.Source.left c.args.input.now) (λ given. (l : Life) (i : ℕ) → file_at l.group i ≡ Some c.args.self.now → file_at (lived l (performed i words given c.run.result)).group i ≡ Some (file_in c.run.new.keeper.file))
    (λ given is l i at.
    let old : Some c.self.inside.keeper.file ≡ Some (file_at l.group i) = ap (λ file. Some file) (some_in c.self.inside.keeper.file c.self.invariant ∙ (ap (λ file. Some file) c.self.view_is ∙ sym at)) in
    let below = got_below (l.group).files i c.args.self.now at in
    let there = still_there l i (performed i words given c.run.result) below in
    let now = left l i words given c.run.result c.run.new.keeper.file ((c.runs_are_events.ensures.commands l i words given c.run.result c.self.inside.keeper c.run.new.keeper c.args.input.now c.run.new.input c.args.output.now c.run.new.output below c.run.ensures.ends old is).0 c.run.new.keeper.file refl) in
    sym now ∙ some_in c.run.new.keeper.file (is_some_of c.run.new.keeper.file there.0 (now ∙ there.1)))

pub returns-clause-ends : goal.returns-clause-ends
returns-clause-ends g c =
    let words = map string_bytes c.args.words.now in
    if_some (g.S.Source.left c.args.input.now) (λ given. EndsAs (due words (Some (Some c.args.self.now)) (Some given)) c.run.result (g.W.Sink.told c.args.output.now) (g.W.Sink.told c.run.new.output))
    (λ given is. ends_as _ _ _ _ _ _ _ _ words c.run.result c.self.inside.keeper c.run.new.keeper c.args.input.now c.run.new.input c.args.output.now c.run.new.output (Some c.args.self.now) given c.run.ensures.ends (ap (λ file. Some file) (some_in c.self.inside.keeper.file c.self.invariant ∙ ap (λ file. Some file) c.self.view_is)) is)
