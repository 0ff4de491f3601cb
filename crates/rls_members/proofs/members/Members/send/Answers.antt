use Rattle.std.proofs.Common.{◌∙◌, ◌++◌, ◌∷◌, [], ℕ, Global, List, String, ap, map, string_bytes, subst, sym}
use Rattle.rls_io.specs.Memory.{SinkState, SourceState}
use Rattle.rls_members.specs.Members.{IsLived, MembersSeen}
use Rattle.rls_members.proofs.Kept.{sends_by}
use Rattle.rls_members.proofs.members.Members.send.Goals as goal

pub invariant_of-self : goal.invariant_of-self
invariant_of-self g c = subst (λ (ms : List (List ℕ)). IsLived (record { group = c.self.inside.group; files = c.self.inside.files.items; sent = ms })) (sym c.reserve.ensures.items) c.self.invariant

pub invariant_of-self-2 : goal.invariant_of-self-2
invariant_of-self-2 g c =
    let m : MembersSeen = record { group = c.self.inside.group; files = c.self.inside.files.items; sent = c.self.inside.sent.items } in
    (sends_by c.groups_converge.ensures.groups_converge m c.self.invariant c.args.member c.args.to c.run-status.result c.index_mut.result.now c.run-status.new.self (map string_bytes c.deref.result.now) c.in_ok-input.input.left c.in_ok-output.output.written c.run-status.new.output.written c.keep.new.sent.items
    c.index_mut.ensures.value (ap (λ (ws : List (String Global)). map string_bytes ws) c.deref.ensures.value ∙ c.in_ok-words.ensures.words) (ap (λ (s : SourceState). s.left) c.in_ok-input.ensures.fresh) (ap (λ (s : SinkState). s.written) c.in_ok-output.ensures.fresh) c.run-status.ensures.event c.run-status.ensures.ends
    (λ z. c.keep.ensures.kept z ∙ ap (λ (ms : List (List ℕ)). ms ++ c.run-status.new.output.written ∷ []) c.reserve.ensures.items) (λ z. c.keep.ensures.unkept z ∙ c.reserve.ensures.items) c.args.self.now c.self.view_is c.requires.member c.requires.to).lived

pub returns : goal.returns
returns g c =
    let m : MembersSeen = record { group = c.self.inside.group; files = c.self.inside.files.items; sent = c.self.inside.sent.items } in
    let r = sends_by c.groups_converge.ensures.groups_converge m c.self.invariant c.args.member c.args.to c.run-status.result c.index_mut.result.now c.run-status.new.self (map string_bytes c.deref.result.now) c.in_ok-input.input.left c.in_ok-output.output.written c.run-status.new.output.written c.keep.new.sent.items
    c.index_mut.ensures.value (ap (λ (ws : List (String Global)). map string_bytes ws) c.deref.ensures.value ∙ c.in_ok-words.ensures.words) (ap (λ (s : SourceState). s.left) c.in_ok-input.ensures.fresh) (ap (λ (s : SinkState). s.written) c.in_ok-output.ensures.fresh) c.run-status.ensures.event c.run-status.ensures.ends
    (λ z. c.keep.ensures.kept z ∙ ap (λ (ms : List (List ℕ)). ms ++ c.run-status.new.output.written ∷ []) c.reserve.ensures.items) (λ z. c.keep.ensures.unkept z ∙ c.reserve.ensures.items) c.args.self.now c.self.view_is c.requires.member c.requires.to in
    record { event = r.event; sent = r.sent; unsent = r.unsent; unrefused = r.unrefused; err = tt }
