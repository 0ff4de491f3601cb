use Rattle.std.proofs.Common.{◌≡◌, ◌+◌, ◌++◌, [], length, take, drop, refl, sym, ap, ◌∙◌, subst, arith, length-drop}
use Rattle.std.specs.Prelude.{zip}
use Rattle.std.proofs.lemmas.List.{take_all, length-take-le, take-append-drop}
use Rattle.std.proofs.lemmas.Option.{slice_get_read}
use Rattle.std.proofs.lemmas.Slice.Zip.{firsts-zip, length-zip}
use Rattle.std.proofs.Math.ListN.{drop_of_length-le}
use Rattle.rls_runs.specs.Runs.{idents_of}
use Rattle.rls_runs.specs.Entries.{idents_in, put_all}
use Rattle.rls_runs.proofs.RunOrder.{Rising, rising_of}
use Rattle.rls_runs.proofs.RunPlaces.{within_total, next_start}
use Rattle.rls_doc.specs.Documents.{AreNew}
use Rattle.rls_blocks.specs.Trees.{entries_of, piece_entries}
use Rattle.rls_tree.specs.Gaps.{Leaves}
use Rattle.rls_blocks.proofs.AtPlaces.{idents_append}
use Rattle.rls_tree.proofs.Puts.{new_now, new_second, parted}
use Rattle.rls_blocks.proofs.Taken.{run_taken}
use Rattle.rls_tree.proofs.tree.BlockTree.gaps_for.Goals as goal

pub loop-run-init : goal.loop-run-init
loop-run-init c =
    let ids = idents_of c.args.runs.now in
    let es = entries_of c.args.self.now.blocks in
    let added = zip ids c.args.text.now in
    let start : Leaves es [] added (put_all added es) = record {
      total = refl;
      places = omega arith;
      rising = subst Rising (sym (firsts-zip ids c.args.text.now (sym c.requires.as_many))) (rising_of ids c.requires.rises);
      below = tt;
    } in
    record {
      place = refl;
      leaves = subst (λ gs. Leaves es gs added (put_all added es)) (sym c.new-gaps.ensures.items) start;
    }

pub part_of_text-requires : goal.part_of_text-requires
part_of_text-requires c =
    let rs = c.args.runs.now in
    let g = slice_get_read rs (length rs) c.loop-run.run-index c.run-item.result refl c.loop-run-test.true c.run-item.is in
    let w = within_total rs c.loop-run.run-index c.run-item.result g in
    record { within = omega (arith, w, c.loop-run.invariant.place, c.len.ensures.len, c.requires.as_many) }

pub overflow_add-at : goal.overflow_add-at
overflow_add-at c =
    let rs = c.args.runs.now in
    let g = slice_get_read rs (length rs) c.loop-run.run-index c.run-item.result refl c.loop-run-test.true c.run-item.is in
    let w = within_total rs c.loop-run.run-index c.run-item.result g in
    omega (arith, w, c.loop-run.invariant.place, c.len-in-loop-run.ensures.len, c.requires.as_many, c.requires.room)

pub push_gaps-requires : goal.push_gaps-requires
push_gaps-requires c =
    let rs = c.args.runs.now in
    let cs = c.args.text.now in
    let xs = idents_in (entries_of c.args.self.now.blocks) in
    let added = zip (idents_of rs) cs in
    let at = c.loop-run.at in
    let k = c.loop-run.run-index in
    let r = c.run-item.result in
    let g = slice_get_read rs (length rs) k r refl c.loop-run-test.true c.run-item.is in
    let w = within_total rs k r g in
    let inv = c.loop-run.invariant in
    let part : c.in_ok-part.part ≡ take r.1 (drop at cs) = c.in_ok-part.ensures.part ∙ ap (λ n. take n (drop at cs)) c.len.ensures.len in
    let is : piece_entries (r, c.in_ok-part.part) ≡ take r.1 (drop at added) = run_taken rs k at r cs c.in_ok-part.part g inv.place c.requires.as_many part in
    let l = length-drop at cs in
    let t = length-take-le r.1 (drop at cs) (omega (arith, w, inv.place, c.requires.as_many, l)) in
    let whole = subst (λ ys. AreNew ys xs) (sym (firsts-zip (idents_of rs) cs (sym c.requires.as_many))) c.requires.new in
    let rest = new_second (idents_in (take at added)) (idents_in (drop at added)) xs (subst (λ ys. AreNew ys xs) (ap idents_in (sym (take-append-drop at added)) ∙ idents_append (take at added) (drop at added)) whole) in
    record {
      as_many = ap length part ∙ t;
      new = subst (λ es. AreNew (idents_in es) xs) (sym is) (new_now at r.1 added xs rest);
    }

pub loop-run-preserved : goal.loop-run-preserved
loop-run-preserved c =
    let rs = c.args.runs.now in
    let cs = c.args.text.now in
    let es = entries_of c.args.self.now.blocks in
    let added = zip (idents_of rs) cs in
    let at = c.loop-run.at in
    let k = c.loop-run.run-index in
    let r = c.run-item.result in
    let g = slice_get_read rs (length rs) k r refl c.loop-run-test.true c.run-item.is in
    let inv = c.loop-run.invariant in
    let part : c.in_ok-part.part ≡ take r.1 (drop at cs) = c.in_ok-part.ensures.part ∙ ap (λ n. take n (drop at cs)) c.len.ensures.len in
    let is : piece_entries (r, c.in_ok-part.part) ≡ take r.1 (drop at added) = run_taken rs k at r cs c.in_ok-part.part g inv.place c.requires.as_many part in
    let n = c.len-in-loop-run.result in
    let len = c.len-in-loop-run.ensures.len in
    let s = next_start rs k r g in
    let both : drop at added ≡ piece_entries (r, c.in_ok-part.part) ++ drop (at + n) added = parted at n added ∙ ap (λ j. take j (drop at added) ++ drop (at + n) added) len ∙ ap (λ zs. zs ++ drop (at + n) added) (sym is) in
    record {
      place = omega (arith, s, inv.place, len);
      leaves = c.in_ok-push_gaps.ensures.ok (drop (at + n) added) (put_all added es) (subst (λ zs. Leaves es c.loop-run.gaps.items zs (put_all added es)) both inv.leaves);
    }

pub returns-clause-filled : goal.returns-clause-filled
returns-clause-filled c =
    let rs = c.args.runs.now in
    let es = entries_of c.args.self.now.blocks in
    let added = zip (idents_of rs) c.args.text.now in
    let a = ap (λ xs. length (idents_of xs)) (take_all c.loop-run.run-index rs c.loop-run-test.false) in
    let z = length-zip (idents_of rs) c.args.text.now in
    let none : drop c.loop-run.at added ≡ [] = drop_of_length-le added (omega (arith, a, z, c.loop-run.invariant.place, c.requires.as_many)) in
    (subst (λ zs. Leaves es c.loop-run.gaps.items zs (put_all added es)) none c.loop-run.invariant.leaves).total

pub returns-clause-places : goal.returns-clause-places
returns-clause-places c = c.loop-run.invariant.leaves.places
