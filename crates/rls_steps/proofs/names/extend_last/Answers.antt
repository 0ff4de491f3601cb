use Rattle.std.proofs.Common.{◌≡◌, length, arith}
use Rattle.rls_steps.proofs.Indexing.{last_more, last_kept, last_longer}
use Rattle.rls_steps.proofs.names.extend_last.Goals as goal

pub returns-clause-names : goal.returns-clause-names
returns-clause-names c =
    λ t. let rs = c.args.runs.now.items in
    let n : c.len-n.result ≡ length rs = omega arith in
    last_more rs c.len-n.result c.index_mut.result.now c.take.new.self c.args.ident.now c.args.label n (omega arith) c.index_mut.ensures.value (c.take.ensures.more t)

pub returns-clause-kept : goal.returns-clause-kept
returns-clause-kept c =
    λ t ss fs k. let rs = c.args.runs.now.items in
    let n : c.len-n.result ≡ length rs = omega arith in
    last_kept rs c.len-n.result c.index_mut.result.now c.take.new.self ss fs n (omega arith) c.index_mut.ensures.value c.take.ensures.sound c.take.ensures.first k

pub returns-clause-more : goal.returns-clause-more
returns-clause-more c =
    λ t. let rs = c.args.runs.now.items in
    let n : c.len-n.result ≡ length rs = omega arith in
    last_longer rs c.len-n.result c.index_mut.result.now c.take.new.self c.args.ident.now c.args.label n (omega arith) c.index_mut.ensures.value (c.take.ensures.more t)
