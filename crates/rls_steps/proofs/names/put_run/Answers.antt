use Rattle.std.proofs.Common.{◌≡◌, ◌∷◌, [], ◌++◌, ℕ, List, length, sym, ap, ◌∙◌, subst, arith}
use Rattle.std.specs.Prelude.{Some, if◌then◌else◌}
use Rattle.std.specs.BTreeMap.{is_at}
use Rattle.rls_steps.specs.NameRuns.{Stretch, AreKept, named, key_cmp, run_in}
use Rattle.rls_steps.proofs.Stretches.{named_snoc}
use Rattle.rls_steps.proofs.Indexing.{kept_more}
use Rattle.rls_steps.proofs.names.put_run.Goals as goal

pub returns-clause-names : goal.returns-clause-names
returns-clause-names c =
    let rs = c.args.runs.now.items in
    let r = c.args.run in
    let pushed = rw c.unwrap.ensures at c.push.ensures.items in
    let runs : c.push.new.self.items ≡ rs ++ r ∷ [] = pushed ∙ ap (λ (zs : List Stretch). zs ++ r ∷ []) c.in_ok-reserve.ensures.items in
    ap named runs ∙ named_snoc rs r

pub returns-clause-more : goal.returns-clause-more
returns-clause-more c =
    let r = c.args.run in
    let pushed = rw c.unwrap.ensures at c.push.ensures.items in
    pushed ∙ ap (λ (zs : List Stretch). zs ++ r ∷ []) c.in_ok-reserve.ensures.items

pub returns-clause-kept : goal.returns-clause-kept
returns-clause-kept c =
    λ k. let rs = c.args.runs.now.items in
    let r = c.args.run in
    let ss = c.args.starts.now.items in
    let fs = c.args.firsts.now.entries in
    let fs' = c.insert.new.self.entries in
    let pushed = rw c.unwrap.ensures at c.push.ensures.items in
    let runs : c.push.new.self.items ≡ rs ++ r ∷ [] = pushed ∙ ap (λ (zs : List Stretch). zs ++ r ∷ []) c.in_ok-reserve.ensures.items in
    let pushed' = rw c.unwrap-2.ensures at c.push-2.ensures.items in
    let starts : c.push-2.new.self.items ≡ ss ++ length (named rs) ∷ [] = pushed' ∙ (ap (λ (zs : List ℕ). zs ++ c.args.place ∷ []) c.in_ok-reserve-2.ensures.items ∙ ap (λ m. ss ++ m ∷ []) c.requires.place) in
    let size : c.len-number.result ≡ length rs = omega arith in
    let all = kept_more rs r ss fs fs' (record { ident = c.in_ok-first.field-0 }) c.in_ok-first.ensures.sound c.in_ok-first.ensures.first k
    (λ q. c.in_ok-insert.ensures.updates.0 q ∙ ap (λ n. if is_at (key_cmp (record { ident = c.in_ok-first.field-0 })) q then Some n else run_in fs q) size) in
    subst (λ (zs : List Stretch). AreKept zs c.push-2.new.self.items fs') (sym runs) (subst (λ (zs : List ℕ). AreKept (rs ++ r ∷ []) zs fs') (sym starts) all)
