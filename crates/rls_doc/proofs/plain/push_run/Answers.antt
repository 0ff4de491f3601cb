use Rattle.std.proofs.Common.{◌≡◌, ◌++◌, ◌∷◌, [], ◌<◌, ◌≤◌, length, drop, get_or, slice_get, Some, sym, ap, ◌∙◌, arith, length-append}
use Rattle.std.specs.Prelude.{pos, zip}
use Rattle.std.proofs.lemmas.Option.{slice_get-get_or}
use Rattle.rls_ident.specs.Identifiers.{shifted}
use Rattle.rls_runs.specs.Runs.{run_idents}
use Rattle.rls_runs.proofs.Finding.{run_length}
use Rattle.rls_runs.proofs.RunOrder.{run_gets}
use Rattle.rls_doc.proofs.Zipped.{zipped_more, zipped_all}
use Rattle.rls_doc.proofs.plain.push_run.Goals as goal

pub loop-k-preserved : goal.loop-k-preserved
loop-k-preserved c =
    let run = c.args.run.now in
    let added = c.loop-k.added.items in
    let k = c.loop-k.k in
    let text = c.args.text.now in
    let id = c.in_ok-id.id in
    let short : k < run.1 = omega (arith, c.len-k-end.ensures.len) in
    let within : length added < length text = omega (arith, c.loop-k.invariant.long) in
    let n : length added ≡ c.len.result = omega arith in
    let g : slice_get (run_idents run.0 run.1) k ≡ Some id = run_gets run.0 run.1 k short ∙ ap (λ z. Some z) (ap (shifted (pos k)) (sym c.first.ensures.first) ∙ sym c.in_ok-id.ensures.shifted) in
    let h : slice_get text (length added) ≡ Some c.get-c.result = slice_get-get_or text (length added) 0 within ∙ ap (λ z. Some z) (ap (λ i. get_or text i 0) n ∙ sym c.get-c.ensures.char) in
    rw c.in_ok-push.ensures.items record {
      long = omega (arith, length-append added ((id, c.get-c.result) ∷ []), c.loop-k.invariant.long);
      zipped = zipped_more added (run_idents run.0 run.1) k id text c.get-c.result (c.args.added.now.items ++ zip (run_idents run.0 run.1) (drop (length c.args.added.now.items) text)) g h c.loop-k.invariant.zipped;
    }

pub returns : goal.returns
returns c =
    let run = c.args.run.now in
    let added = c.loop-k.added.items in
    let text = c.args.text.now in
    let l = run_length run.0 run.1 in
    let all : length (run_idents run.0 run.1) ≤ c.loop-k.k = omega (arith, c.len-k-end.ensures.len) in
    record { pushed = zipped_all added (run_idents run.0 run.1) c.loop-k.k (drop (length added) text) (c.args.added.now.items ++ zip (run_idents run.0 run.1) (drop (length c.args.added.now.items) text)) all c.loop-k.invariant.zipped }
