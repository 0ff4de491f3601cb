use Rattle.std.proofs.Common.{◌++◌, length, take, drop, refl, sym, ap, ◌∙◌, subst, arith, append_assoc}
use Rattle.std.specs.Prelude.{zip}
use Rattle.std.proofs.lemmas.List.{append-nil, take_all}
use Rattle.std.proofs.lemmas.Option.{slice_get_read}
use Rattle.std.proofs.lemmas.Result.{on_ok_weaker}
use Rattle.std.proofs.lemmas.Slice.Zip.{length-zip}
use Rattle.std.proofs.Math.Seq.{take-add}
use Rattle.rls_runs.specs.Runs.{idents_of}
use Rattle.rls_runs.proofs.Finding.{run_length}
use Rattle.rls_runs.proofs.RunPlaces.{within_total, next_start}
use Rattle.rls_blocks.specs.Trees.{Piece, entries_of, piece_entries}
use Rattle.rls_blocks.specs.Edits.{Shows}
use Rattle.rls_blocks.proofs.Taken.{single_run, run_taken}
use Rattle.rls_blocks.proofs.patch.push_runs.Goals as goal

pub push_run-requires : goal.push_run-requires
push_run-requires c =
    let rs = c.args.runs.now in
    let r = c.index-runs-0.result in
    let one = single_run rs r c.if-runs-eq1.true (slice_get_read rs (length rs) 0 r refl (omega arith) c.index-runs-0.is) in
    record { loose = c.requires.loose; as_many = sym c.requires.as_many ∙ ap length one ∙ run_length r.0 r.1 }

pub returns-then-runs-eq1 : goal.returns-then-runs-eq1
returns-then-runs-eq1 c =
    let rs = c.args.runs.now in
    let r = c.index-runs-0.result in
    let one = single_run rs r c.if-runs-eq1.true (slice_get_read rs (length rs) 0 r refl (omega arith) c.index-runs-0.is) in
    record { shows = on_ok_weaker c.push_run.result (λ h. subst (λ ids. Shows (entries_of c.args.blocks.now.items ++ zip ids c.args.text) c.push_run.new.blocks.items) (sym one) h) c.push_run.ensures.shows }

pub loop-run-init : goal.loop-run-init
loop-run-init c = record {
  place = refl;
  shows = record { entries_are = sym (append-nil (entries_of c.args.blocks.now.items)); loose = c.requires.loose };
}

pub block_at-requires : goal.block_at-requires
block_at-requires c =
    let rs = c.args.runs.now in
    let r = c.run-item.result in
    let w = within_total rs c.loop-run.run-index r (slice_get_read rs (length rs) c.loop-run.run-index r refl c.loop-run-test.true c.run-item.is) in
    record { within = omega (arith, w, c.loop-run.invariant.place, c.requires.as_many) }

pub overflow_add-at : goal.overflow_add-at
overflow_add-at c =
    let rs = c.args.runs.now in
    let r = c.run-item.result in
    let w = within_total rs c.loop-run.run-index r (slice_get_read rs (length rs) c.loop-run.run-index r refl c.loop-run-test.true c.run-item.is) in
    omega (arith, w, c.loop-run.invariant.place, c.len.ensures.len, c.requires.as_many)

pub push_block-requires : goal.push_block-requires
push_block-requires c = record { loose = c.loop-run.invariant.shows.loose }

pub loop-run-preserved : goal.loop-run-preserved
loop-run-preserved c =
    let rs = c.args.runs.now in
    let cs = c.args.text in
    let added = zip (idents_of rs) cs in
    let old = entries_of c.args.blocks.now.items in
    let at = c.loop-run.at in
    let r = c.run-item.result in
    let inv = c.loop-run.invariant in
    let n = c.len.result in
    let len = c.len.ensures.len in
    let g = slice_get_read rs (length rs) c.loop-run.run-index r refl c.loop-run-test.true c.run-item.is in
    let is = ap (λ (q : Piece). piece_entries q) c.in_ok-block.ensures.block ∙ run_taken rs c.loop-run.run-index at r cs (take r.1 (drop at cs)) g inv.place c.requires.as_many refl ∙ ap (λ m. take m (drop at added)) (sym len) in
    let all = ap (λ es. entries_of c.loop-run.blocks.items ++ es) is ∙ ap (λ es. es ++ take n (drop at added)) inv.shows.entries_are
    ∙ append_assoc old (take at added) (take n (drop at added)) ∙ ap (λ es. old ++ es) (sym (take-add at n added)) in
    let s = next_start rs c.loop-run.run-index r g in
    record {
      place = omega (arith, s, inv.place, len);
      shows = subst (λ es. Shows es c.push_block.new.blocks.items) all c.in_ok-push_block.ensures.shows;
    }

pub returns : goal.returns
returns c =
    let rs = c.args.runs.now in
    let added = zip (idents_of rs) c.args.text in
    let a = ap (λ xs. length (idents_of xs)) (take_all c.loop-run.run-index rs c.loop-run-test.false) in
    let z = length-zip (idents_of rs) c.args.text in
    let all = take_all c.loop-run.at added (omega (arith, a, z, c.loop-run.invariant.place, c.requires.as_many)) in
    record { shows = subst (λ es. Shows (entries_of c.args.blocks.now.items ++ es) c.loop-run.blocks.items) all c.loop-run.invariant.shows }
