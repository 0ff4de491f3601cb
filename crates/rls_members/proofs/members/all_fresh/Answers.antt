use Rattle.std.proofs.Common.{◌≡◌, ◌∙◌, ◌+◌, ◌++◌, ◌∷◌, [], List, ℕ, suc, ap, arith, take}
use Rattle.std.proofs.lemmas.List.{take_all}
use Rattle.rls_top.specs.Groups.{fresh_group}
use Rattle.rls_members.proofs.Fresh.{files_length, take_more}
use Rattle.rls_members.proofs.members.all_fresh.Goals as goal

pub loop-me-preserved : goal.loop-me-preserved
loop-me-preserved c =
    let files = (fresh_group c.args.group c.args.members).files in
    let next : suc c.loop-me.me ≡ c.loop-me.me + 1 = omega arith in
    c.in_ok-add.ensures.ok ∙ (ap (λ (xs : List (List ℕ)). xs ++ c.in_ok-member.member ∷ []) c.loop-me.invariant ∙ (take_more files c.loop-me.me c.in_ok-member.member c.in_ok-member.ensures.fresh ∙ ap (λ (n : ℕ). take n files) next))

pub returns : goal.returns
returns c = record { all = c.loop-me.invariant ∙ take_all c.loop-me.me (fresh_group c.args.group c.args.members).files (omega (arith, files_length c.args.group c.args.members, c.loop-me-test.false)) }
