use Rattle.std.proofs.Common.{sym, arith}
use Rattle.std.proofs.lemmas.List.{length-map}
use Rattle.rls_runs.specs.Runs.{run_idents}
use Rattle.rls_runs.proofs.Finding.{run_length}
use Rattle.rls_runs.proofs.RunEnds.{count_most}
use Rattle.rls_runs.proofs.RunOrder.{run_ident, run_some}
use Rattle.rls_runs.proofs.Sorted.{Entry}
use Rattle.rls_seen.specs.Seen.{idents_over}
use Rattle.rls_steps.proofs.Rows.{first_below, gone_at_end, gone_below}
use Rattle.rls_steps.proofs.finding.gone_from.Goals as goal

pub returns-then-at-total-clause-gone : goal.returns-then-at-total-clause-gone
returns-then-at-total-clause-gone c k q h t =
    let size = length-map c.args.replica.now.text (λ (e : Entry). e.0) in
    let total = c.total.ensures.total in
    let end = c.if-at-total.true in
    gone_at_end (idents_over c.args.replica.now) c.args.run.now.0 c.args.at k q c.sane.ensures.sane.idents.1 (run_ident c.args.run.now c.len-len.ensures.run) c.requires.first (omega (arith, size, total, end)) t

pub returns-clause-some : goal.returns-clause-some
returns-clause-some c =
    let r = c.args.run.now in
    let is = c.len-len.ensures.run in
    let some = first_below (idents_over c.args.replica.now) r.0 c.in_ok-next.next c.args.at r.1 c.sane.ensures.sane.idents.1 (run_ident r is) c.requires.first c.in_ok-next.ensures.ident (run_some r is) in
    omega (arith, some, c.count_less.ensures.less)

pub returns-clause-most : goal.returns-clause-most
returns-clause-most c =
    let r = c.args.run.now in
    let most = count_most (run_idents r.0 r.1) c.in_ok-next.next in
    omega (arith, most, run_length r.0 r.1, c.count_less.ensures.less)

pub returns-clause-gone : goal.returns-clause-gone
returns-clause-gone c k q h t =
    let r = c.args.run.now in
    let less = c.count_less.ensures.less in
    let most = count_most (run_idents r.0 r.1) c.in_ok-next.next in
    gone_below (idents_over c.args.replica.now) r.0 c.in_ok-next.next c.args.at r.1 c.count_less.result k q c.sane.ensures.sane.idents.1 (run_ident r c.len-len.ensures.run) c.requires.first c.in_ok-next.ensures.ident (sym less) (omega (arith, h, less, most, run_length r.0 r.1)) h t
