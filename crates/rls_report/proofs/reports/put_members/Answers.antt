use Rattle.std.proofs.Common.{List, ℕ, get_or, ◌++◌, ◌+◌, sym, ap, ◌∙◌, append_assoc, string_bytes, drop, refl}
use Rattle.std.proofs.lemmas.List.{append-nil}
use Rattle.rls_report.specs.Reports.{member_line, member_lines}
use Rattle.rls_report.proofs.Joined.{next_member, no_member}
use Rattle.rls_report.proofs.reports.put_members.Goals as goal

pub loop-member-init : goal.loop-member-init
loop-member-init c = refl

pub loop-member-preserved : goal.loop-member-preserved
loop-member-preserved c =
    let members = c.args.members.now in
    let member = c.loop-member.member in
    let sizes = get_or members member (0, 0) in
    let before = string_bytes c.loop-member.text in
    rw c.in_ok-put_member.ensures.ok
    (append_assoc before (member_line member sizes.0 sizes.1) (member_lines (member + 1) (drop (member + 1) members))
    ∙ ap (λ (bytes : List ℕ). before ++ bytes) (sym (next_member members member (0, 0) c.loop-member-test.true)) ∙ c.loop-member.invariant)

pub returns : goal.returns
returns c = record { ok = sym (append-nil _) ∙ rw (no_member c.args.members.now c.loop-member.member c.loop-member-test.false) at c.loop-member.invariant }
