use Rattle.std.proofs.Common.{◌≡◌, ◌<◌, ◌≤◌, ◌+◌, ◌++◌, ℕ, List, length, ap, ◌∙◌, sym, subst, arith}
use Rattle.std.specs.Prelude.{reverse}
use Rattle.rls_steps.specs.NameRuns.{Stretch, IsStretch, named, names_of, name_at}
use Rattle.rls_steps.specs.Labelled.{Names, label_of}
use Rattle.rls_steps.specs.Index.{AreApart}
use Rattle.rls_steps.specs.Bounds.{AreBounded}
use Rattle.rls_steps.specs.Intervals.{AreBetween, AreNoted}
use Rattle.rls_steps.specs.Indexed.{IsIndexed}
use Rattle.rls_steps.proofs.Heights.{up_to_more}
use Rattle.rls_steps.proofs.Indexing.{indexed_run}
use Rattle.rls_steps.proofs.FreeRuns.{run_apart}
use Rattle.rls_steps.proofs.Intervals.{between_more}
use Rattle.rls_steps.proofs.names.Names.add_front.Goals as goal

-- labels of the front are within the span
within : (q r : Stretch) (n low high label : ℕ) → q ≡ record { first = r.first; label = r.label; down = r.down; len = n } → ((k : ℕ) → k < n → (low ≤ (name_at r k).1) × ((name_at r k).1 ≤ high)) →
    (k : ℕ) × (k < q.len) × ((name_at q k).1 ≡ label) → (low ≤ label) × (label ≤ high)
within q r n low high label e f w =
    let between = f w.0 (subst (λ (s : Stretch). w.0 < s.len) e w.1) in
    let least = between.0 in
    let most = between.1 in
    let same = ap (λ (s : Stretch). (name_at s w.0).1) e in
    let is = w.2 in
    (omega (arith, least, same, is), omega (arith, most, same, is))

pub put-requires-clause-low : goal.put-requires-clause-low
put-requires-clause-low c = (within _ c.args.run _ _ _ _ c.in_ok-front.ensures.front c.fitting-count.ensures.between c.labels-low.ensures.least).0

pub put-requires-clause-high : goal.put-requires-clause-high
put-requires-clause-high c = (within _ c.args.run _ _ _ _ c.in_ok-front.ensures.front c.fitting-count.ensures.between c.labels-low.ensures.greatest).1

pub invariant_of-self-2 : goal.invariant_of-self-2
invariant_of-self-2 c =
    let rs = c.self.inside.runs.items in
    let r = c.in_ok-front.front in
    let run = c.args.run in
    let e = c.in_ok-front.ensures.front in
    let most = c.fitting-count.ensures.most in
    let fits : r.len ≤ run.len = let size = ap (λ (q : Stretch). q.len) e in omega (arith, size, most) in
    let fresh = λ (k : ℕ) (h : k < r.len).
    ap (λ (q : Stretch). label_of (reverse (named rs)) (name_at q k).0) e ∙ (ap (λ (ks : Names). label_of (reverse ks) (name_at run k).0) c.self.view_is ∙ c.requires.fresh k (omega (arith, h, fits))) in
    let apart : AreApart (reverse (names_of r) ++ reverse (named rs)) =
    run_apart r (reverse (named rs)) (subst (λ (q : Stretch). IsStretch q.first q.label q.down q.len) c.front.view_is c.front.invariant) c.self.invariant.apart fresh in
    let size : length rs ≡ c.len-runs.result = omega arith in
    let none = c.span_at-span.ensures.none rs c.self.invariant.bounded in
    let bounded = subst (λ (qs : List Stretch). AreBounded qs c.put.new.self) (sym c.in_ok-put_run.ensures.more) (c.in_ok-put.ensures.put rs r size c.self.invariant.bounded none c.labels-low.ensures.labels) in
    let long = c.len.ensures.len in
    let more : c.self.inside.len + r.len ≡ c.in-Some.len = let w = c.in-Some.ensures in omega (arith, w, long) in
    let vs = c.self.inside.intervals.items in
    let us = c.push_interval.new.intervals.items in
    let span = c.span_at-span.result in
    let low = c.labels-low.result.0 in
    let high = c.labels-low.result.1 in
    let below = (within _ run _ _ _ _ e c.fitting-count.ensures.between c.labels-low.ensures.least).0 in
    let above = (within _ run _ _ _ _ e c.fitting-count.ensures.between c.labels-low.ensures.greatest).1 in
    let between = between_more rs span.count low high span.low span.high c.len-runs.result c.in_ok-interval.interval size none below above
    (subst (λ (qs : List Stretch). AreBetween qs span.count low high c.in_ok-interval.interval) c.deref.ensures.value c.in_ok-interval.ensures.between) in
    let noted = subst (λ qs. AreNoted qs us) (sym c.in_ok-put_run.ensures.more) (c.in_ok-push_interval.ensures.put rs r low high size c.self.invariant.noted c.labels-low.ensures.labels between) in
    let h = c.self.inside.height in
    let h' = c.max-height.result in
    let far = up_to_more h c.height.result h' (named rs) (named c.put_run.new.runs.items) (names_of r) c.self.invariant.far c.height.ensures.all c.max-height.ensures.own c.max-height.ensures.other c.in_ok-put_run.ensures.names in
    subst (λ n. IsIndexed c.put_run.new.runs.items c.put_run.new.starts.items c.put_run.new.firsts.entries c.put.new.self us n h') more
    (indexed_run rs c.put_run.new.runs.items c.self.inside.starts.items c.put_run.new.starts.items c.self.inside.firsts.entries c.put_run.new.firsts.entries c.self.inside.bounds c.put.new.self vs us c.self.inside.len h h' r c.self.invariant
    (c.in_ok-put_run.ensures.kept c.self.invariant.kept) bounded noted c.in_ok-put_run.ensures.names apart far)
