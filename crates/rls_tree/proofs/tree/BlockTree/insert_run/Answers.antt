use Rattle.std.proofs.Common.{◌≡◌, ℕ, ◌++◌, ◌∷◌, [], true, List, Option, Some, IfSome, length, take, drop, sym, ap, ◌∙◌, subst, arith}
use Rattle.std.specs.Prelude.{zip}
use Rattle.std.proofs.lemmas.Result.{on_ok_weaker}
use Rattle.rls_ident.specs.declared.tuple.Tuple.{Tuple}
use Rattle.rls_runs.specs.Runs.{run_idents, idents_of, is_increasing}
use Rattle.rls_runs.specs.Entries.{idents_in, put_all}
use Rattle.rls_runs.proofs.Finding.{run_length}
use Rattle.rls_runs.proofs.RunEnds.{run_short}
use Rattle.rls_runs.proofs.RunOrder.{increasing_of, run_ident, run_rising}
use Rattle.rls_doc.specs.Documents.{AreNew}
use Rattle.rls_blocks.specs.Trees.{entries_of}
use Rattle.rls_tree.proofs.Puts.{one_run, run_put, run_rises}
use Rattle.rls_tree.proofs.tree.BlockTree.insert_run.Goals as goal

-- it goes between two identifiers
between : (xs : List (List Tuple)) (x : List Tuple) (m n i : ℕ) (gap : Option ℕ) → m ≡ n → gap ≡ Some i → IfSome gap (λ j. is_increasing (take j xs ++ (run_idents x m ++ drop j xs)) ≡ true) → is_increasing (take i xs ++ (run_idents x n ++ drop i xs)) ≡ true
between xs x m n i gap e is h = subst (λ k. is_increasing (take i xs ++ (run_idents x k ++ drop i xs)) ≡ true) e (subst (λ o. IfSome o (λ j. is_increasing (take j xs ++ (run_idents x m ++ drop j xs)) ≡ true)) is h)

pub overflow_cast-len : goal.overflow_cast-len
overflow_cast-len c = omega (arith, run_short (c.args.first.now, length c.args.text.now) c.requires.piece.sound, c.len-len.ensures.len)

pub insert_between-requires-clause-rises : goal.insert_between-requires-clause-rises
insert_between-requires-clause-rises c =
    let es = entries_of c.args.self.now.blocks in
    run_rises es c.in-Some.i c.args.first.now c.args.text.now (between (idents_in es) c.args.first.now _ (length c.args.text.now) c.in-Some.i _ c.len-len.ensures.len c.in-Some.is c.in_ok-i.ensures.rises)

pub returns-in-Some-clause-ok : goal.returns-in-Some-clause-ok
returns-in-Some-clause-ok c =
    let es = entries_of c.args.self.now.blocks in
    let rises = between (idents_in es) c.args.first.now _ (length c.args.text.now) c.in-Some.i _ c.len-len.ensures.len c.in-Some.is c.in_ok-i.ensures.rises in
    on_ok_weaker c.insert_between.result (λ e. e ∙ sym (run_put es c.in-Some.i c.args.first.now c.args.text.now rises)) c.insert_between.ensures.ok

-- the run alone
parts : (rs : List (List Tuple × ℕ)) (run : List Tuple × ℕ) (y x : List Tuple) (m n : ℕ) → rs ≡ run ∷ [] → run ≡ (y, m) → y ≡ x → m ≡ n → idents_of rs ≡ run_idents x n
parts rs run y x m n e made copied len = one_run rs (x, n) (e ∙ ap (λ q. q ∷ []) (made ∙ ap (λ z. (z, m)) copied ∙ ap (λ k. (x, k)) len))

pub insert_apart-requires-clause-rises : goal.insert_apart-requires-clause-rises
insert_apart-requires-clause-rises c =
    let x = c.args.first.now in
    let n = length c.args.text.now in
    let one = parts c.from_ref.result.now c.in-Ok.run' _ x _ n c.from_ref.ensures.value c.in-Ok.ensures.ok c.in_ok-copy.ensures.copy c.len-len.ensures.len in
    ap is_increasing one ∙ increasing_of (run_idents x n) (run_rising x n (run_ident (x, n) c.requires.piece.sound))

pub insert_apart-requires-clause-as_many : goal.insert_apart-requires-clause-as_many
insert_apart-requires-clause-as_many c =
    let x = c.args.first.now in
    let n = length c.args.text.now in
    let one = parts c.from_ref.result.now c.in-Ok.run' _ x _ n c.from_ref.ensures.value c.in-Ok.ensures.ok c.in_ok-copy.ensures.copy c.len-len.ensures.len in
    ap length one ∙ run_length x n

pub insert_apart-requires-clause-new : goal.insert_apart-requires-clause-new
insert_apart-requires-clause-new c =
    let x = c.args.first.now in
    let n = length c.args.text.now in
    let one = parts c.from_ref.result.now c.in-Ok.run' _ x _ n c.from_ref.ensures.value c.in-Ok.ensures.ok c.in_ok-copy.ensures.copy c.len-len.ensures.len in
    subst (λ ids. AreNew ids (idents_in (entries_of c.args.self.now.blocks))) (sym one) c.requires.new

pub returns-clause-ok : goal.returns-clause-ok
returns-clause-ok c =
    let x = c.args.first.now in
    let n = length c.args.text.now in
    let one = parts c.from_ref.result.now c.in-Ok.run' _ x _ n c.from_ref.ensures.value c.in-Ok.ensures.ok c.in_ok-copy.ensures.copy c.len-len.ensures.len in
    on_ok_weaker c.insert_apart.result (λ e. e ∙ ap (λ ids. put_all (zip ids c.args.text.now) (entries_of c.args.self.now.blocks)) one) c.insert_apart.ensures.ok
