use Rattle.std.proofs.Common.{List, ℕ, length, take, drop, sym, ap, ◌∙◌, arith, length-drop}
use Rattle.std.proofs.lemmas.List.{length-take-le}
use Rattle.rls_ident.specs.declared.tuple.Tuple.{Tuple}
use Rattle.rls_blocks.proofs.patch.block_at.Goals as goal

pub new-requires : goal.new-requires
new-requires c =
    let rest = drop c.args.at c.args.text.now in
    let part = c.in_ok-part.ensures.part ∙ ap (λ m. take m rest) c.len.ensures.len in
    let t = length-take-le c.args.run.now.1 rest (omega (arith, c.requires.within, length-drop c.args.at c.args.text.now)) in
    record { as_many = ap length part ∙ t ∙ sym (ap (λ (q : List Tuple × ℕ). q.1) c.in_ok-own.ensures.copy) }

pub returns : goal.returns
returns c =
    let rest = drop c.args.at c.args.text.now in
    let part = c.in_ok-part.ensures.part ∙ ap (λ m. take m rest) c.len.ensures.len in
    record { block = c.new.ensures.block ∙ (ap (λ q. (q, c.in_ok-part.part)) c.in_ok-own.ensures.copy ∙ ap (λ cs. (c.args.run.now, cs)) part) }
