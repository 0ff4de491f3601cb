use Rattle.std.proofs.Common.{◌≡◌, ℕ, ◌-◌, ◌<◌, ◌∷◌, [], List, length, length-append, get_or, take, sym, ap, ◌∙◌, subst, arith}
use Rattle.std.specs.Prelude.{reverse}
use Rattle.rls_steps.specs.NameRuns.{Stretch, AreKept, named}
use Rattle.rls_steps.specs.Index.{AreApart}
use Rattle.rls_steps.specs.Bounds.{IsMore}
use Rattle.rls_steps.proofs.Indexing.{same_last, last_less, last_fewer, last_kept, alone_less, kept_less}
use Rattle.rls_steps.proofs.Bounded.{less_popped}
use Rattle.rls_steps.proofs.names.drop_last.Goals as goal

-- the last run has more than one name
many : (rs : List Stretch) (n m : ℕ) (r q : Stretch) → n ≡ length rs → 0 < length rs → r ≡ get_or rs (n - 1) r → q ≡ get_or rs (n - 1) q → m ≡ r.len → 1 < m → 1 < q.len
many rs n m r q e some is own len h = let size = len ∙ ap (λ (s : Stretch). s.len) (same_last rs n r q e some is own) in omega (arith, size, h)

pub returns-then-len-gt1-clause-names : goal.returns-then-len-gt1-clause-names
returns-then-len-gt1-clause-names c =
    let more = many c.args.runs.now.items c.len-last.result c.len.result c.index.result.now c.index_mut.result.now (omega arith) c.requires.some c.index.ensures c.index_mut.ensures.value c.len.ensures.len c.if-len-gt1.true in
    last_less c.args.runs.now.items c.len-last.result c.index_mut.result.now c.shorten.new.self (omega arith) c.requires.some c.index_mut.ensures.value more c.shorten.ensures.shorter

pub returns-then-len-gt1-clause-kept : goal.returns-then-len-gt1-clause-kept
returns-then-len-gt1-clause-kept c =
    λ a k. let rs = c.args.runs.now.items in
    let n : c.len-last.result ≡ length rs = omega arith in
    last_kept rs c.len-last.result c.index_mut.result.now c.shorten.new.self c.args.starts.now.items c.args.firsts.now.entries n c.requires.some c.index_mut.ensures.value c.shorten.ensures.sound (ap (λ (r : Stretch). r.first) c.shorten.ensures.shorter) k

pub returns-then-len-gt1-clause-fewer : goal.returns-then-len-gt1-clause-fewer
returns-then-len-gt1-clause-fewer c =
    let more = many c.args.runs.now.items c.len-last.result c.len.result c.index.result.now c.index_mut.result.now (omega arith) c.requires.some c.index.ensures c.index_mut.ensures.value c.len.ensures.len c.if-len-gt1.true in
    last_fewer c.args.runs.now.items c.len-last.result c.index_mut.result.now c.shorten.new.self (omega arith) c.requires.some c.index_mut.ensures.value more c.shorten.ensures.shorter

pub returns-clause-names : goal.returns-clause-names
returns-clause-names c =
    let rs = c.args.runs.now.items in
    let n : c.len-last.result ≡ length rs = omega arith in
    let size = c.len.ensures.len in
    let one = c.if-len-gt1.false in
    let some = c.len.ensures.some in
    alone_less rs c.pop.new.self.items c.len-last.result c.index.result.now c.in-Some.run' n c.requires.some c.index.ensures c.in-Some.ensures.items (omega (arith, size, one)) (omega (arith, size, some))

pub returns-clause-kept : goal.returns-clause-kept
returns-clause-kept c =
    λ a k. let zs = c.pop.new.self.items in
    let q = c.in-Some.run' in
    let is = c.in-Some.ensures.items in
    let ss = c.args.starts.now.items in
    let fs = c.args.firsts.now.entries in
    let all = ap length is ∙ length-append zs (q ∷ []) in
    let n : c.len-last.result ≡ length c.args.runs.now.items = omega arith in
    let size : c.len-last.result - 1 ≡ length zs = omega (arith, all, n) in
    kept_less zs q ss c.truncate.new.self.items fs c.remove-run.new.self.entries (record { ident = c.into_first.result }) c.into_first.ensures.first (c.truncate.ensures.items ∙ ap (λ m. take m ss) size)
    (subst (λ (ts : List Stretch). AreApart (reverse (named ts))) is a) (subst (λ (ts : List Stretch). AreKept ts ss fs) is k) c.remove-run.ensures.updates.0

pub returns-clause-fewer : goal.returns-clause-fewer
returns-clause-fewer c = subst (λ (ts : List Stretch). IsMore ts c.pop.new.self.items []) (sym c.in-Some.ensures.items) (less_popped c.pop.new.self.items c.in-Some.run')
