use Rattle.std.proofs.Common.{◌≡◌, ◌∙◌, List, length, map, sym, ap, subst}
use Rattle.std.specs.Prelude.{zip}
use Rattle.std.proofs.lemmas.List.{length-map}
use Rattle.std.proofs.lemmas.Result.{on_ok_weaker}
use Rattle.rls_ident.specs.declared.tuple.Tuple.{Tuple}
use Rattle.rls_ident.proofs.Named.{name_eq_is}
use Rattle.rls_rename.specs.Tree.{greatest, translate}
use Rattle.rls_rename.proofs.Kept.{greatest_kept}
use Rattle.rls_runs.specs.Entries.{idents_in, put_all}
use Rattle.rls_runs.specs.Runs.{idents_of, run_idents}
use Rattle.rls_runs.proofs.Finding.{run_length}
use Rattle.rls_doc.specs.Documents.{AreNew}
use Rattle.rls_doc.proofs.Added.{are_new}
use Rattle.rls_blocks.specs.Trees.{entries_of}
use Rattle.rls_replica.proofs.Changes.{image_is}
use Rattle.rls_replica.proofs.Placed.{goes_in, new_in, piece_is, told}
use Rattle.rls_replica.proofs.SameEpoch.{unmoved}
use Rattle.rls_replica.proofs.applying.insert.Goals as goal

-- ---- the place is told

pub insert_between-requires-clause-place : goal.insert_between-requires-clause-place
insert_between-requires-clause-place c =
    (told c.args.epochs.now.epochs (entries_of c.args.document.now.blocks) c.args.epoch c.args.first.now c.args.text.now c.args.place c.in-Some.i c.in-Some.is c.requires.place).within

pub insert_between-requires-clause-piece : goal.insert_between-requires-clause-piece
insert_between-requires-clause-piece c = piece_is c.args.first.now c.args.text.now c.last-last.ensures.ident c.last-last.ensures.bounded c.requires.may.some c.requires.may.end

pub insert_between-requires-clause-rises : goal.insert_between-requires-clause-rises
insert_between-requires-clause-rises c =
    (told c.args.epochs.now.epochs (entries_of c.args.document.now.blocks) c.args.epoch c.args.first.now c.args.text.now c.args.place c.in-Some.i c.in-Some.is c.requires.place).rises

pub returns-in-Some-clause-ok : goal.returns-in-Some-clause-ok
returns-in-Some-clause-ok c =
    let E = c.args.epochs.now.epochs in
    let es = entries_of c.args.document.now.blocks in
    let goes = told E es c.args.epoch c.args.first.now c.args.text.now c.args.place c.in-Some.i c.in-Some.is c.requires.place in
    on_ok_weaker c.insert_between.result (λ e. e ∙ goes_in E es c.args.epoch c.args.first.now c.args.text.now c.in-Some.i goes) c.insert_between.ensures.ok

-- ---- the epoch is the greatest

pub insert_run-requires-clause-piece : goal.insert_run-requires-clause-piece
insert_run-requires-clause-piece c = piece_is c.args.first.now c.args.text.now c.last-last.ensures.ident c.last-last.ensures.bounded c.requires.may.some c.requires.may.end

pub insert_run-requires-clause-new : goal.insert_run-requires-clause-new
insert_run-requires-clause-new c =
    let same = name_eq_is c.args.epoch c.greatest-greatest.result (sym c.same.ensures.same ∙ c.if-same.true) ∙ c.greatest-greatest.ensures.greatest in
    new_in c.args.epochs.now.epochs (entries_of c.args.document.now.blocks) c.args.epoch c.args.first.now c.args.text.now c.requires.may same

pub returns-then-same-clause-ok : goal.returns-then-same-clause-ok
returns-then-same-clause-ok c =
    let E = c.args.epochs.now.epochs in
    let es = entries_of c.args.document.now.blocks in
    let cs = c.args.text.now in
    let same = name_eq_is c.args.epoch c.greatest-greatest.result (sym c.same.ensures.same ∙ c.if-same.true) ∙ c.greatest-greatest.ensures.greatest in
    let whole = unmoved E.nodes c.args.epoch (greatest E.top E.nodes) (run_idents c.args.first.now (length cs)) same in
    on_ok_weaker c.insert_run.result (λ e. e ∙ ap (λ xs. put_all (zip xs cs) es) (sym whole)) c.insert_run.ensures.ok

-- ---- the epoch is another one

module _ (c : goal.After-runs-2-1) where
  abbrev map_to : List Tuple → List Tuple
  map_to = translate c.args.epochs.now.epochs.nodes c.args.epoch (greatest c.args.epochs.now.epochs.top c.args.epochs.now.epochs.nodes)

  images : idents_of c.in_ok-runs.runs ≡ map map_to (run_idents c.args.first.now (length c.args.text.now))
  images =
      image_is c.args.epochs.now.epochs c.args.epoch c.args.first.now (length c.args.text.now) c.greatest-greatest.result c.in_ok-run.run' c.in_ok-runs.runs c.greatest-greatest.ensures.greatest (rw c.len.ensures.len at c.in_ok-run.ensures.run)
      c.in_ok-runs.ensures.translated

pub translate_run-requires-clause-to : goal.translate_run-requires-clause-to
translate_run-requires-clause-to c = rw c.greatest-greatest.ensures.greatest (greatest_kept c.args.epochs.now.epochs.top c.args.epochs.now.epochs.nodes)

pub insert_runs-requires-clause-as_many : goal.insert_runs-requires-clause-as_many
insert_runs-requires-clause-as_many c =
    let first = c.args.first.now in
    let n = length c.args.text.now in
    ap length (images c) ∙ (length-map (run_idents first n) (map_to c) ∙ run_length first n)

pub insert_runs-requires-clause-new : goal.insert_runs-requires-clause-new
insert_runs-requires-clause-new c =
    let there = idents_in (entries_of c.args.document.now.blocks) in
    subst (λ (xs : List (List Tuple)). AreNew xs there) (sym (images c)) (are_new (map (map_to c) (run_idents c.args.first.now (length c.args.text.now))) there c.requires.may.new)
