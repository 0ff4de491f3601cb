use Rattle.std.proofs.Common.{◌∙◌, ◌++◌, List, ℕ, ap}
use Rattle.rls_ops.specs.Rows.{AcksSeen}
use Rattle.rls_ops.specs.Spelling.{message_form, message_head}
use Rattle.rls_seen.specs.Seen.{members}
use Rattle.rls_sync.proofs.sync.put_start.Goals as goal

-- what stands before the operations, with these numbers
abbrev start : List ℕ → ℕ → ℕ → ℕ → List ℕ → List ℕ
start o g n me v = o ++ message_head message_form g n me v

pub returns : goal.returns
returns c =
    let s = c.args.replica.now in
    let o = c.args.out.now.items in
    let v = c.mine.result.now in
    record {
      ok = c.in_ok-put_head.ensures.ok
          ∙ ap (λ g. start o g c.members.result c.me.result v) c.group.ensures.group ∙ ap (λ n. start o s.group n c.me.result v) c.members.ensures.members
          ∙ ap (λ m. start o s.group (members s) m v) c.me.ensures.me ∙ ap (λ w. start o s.group (members s) s.acks.me w) (c.mine.ensures.mine ∙ ap (λ (a : AcksSeen). a.mine) c.acks.ensures.acks);
    }
