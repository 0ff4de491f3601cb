use Rattle.std.proofs.Common.{◌≡◌, ◌+◌, ◌∷◌, [], length, refl, sym, ap, ◌∙◌, subst, arith}
use Rattle.std.specs.Prelude.{reverse, None}
use Rattle.rls_steps.specs.NameRuns.{named}
use Rattle.rls_steps.specs.Labelled.{Names, label_of}
use Rattle.rls_steps.specs.Bounds.{AreBounded}
use Rattle.rls_steps.specs.Indexed.{IsIndexed}
use Rattle.rls_steps.specs.declared.bound.Bounds.{Bounds}
use Rattle.rls_ident.specs.Tuples.{offset_of, seq_of}
use Rattle.rls_steps.specs.declared.height.Height.{Height}
use Rattle.rls_steps.proofs.Heights.{up_to_more, up_to_one}
use Rattle.rls_steps.proofs.Indexing.{indexed_more}
use Rattle.rls_steps.proofs.Bounded.{bounded_extended}
use Rattle.rls_steps.proofs.Intervals.{noted_extended}
use Rattle.rls_steps.proofs.names.Names.extend.Goals as goal

pub invariant_of-self-2 : goal.invariant_of-self-2
invariant_of-self-2 c =
    let rs = c.self.inside.runs.items in
    let ss = c.self.inside.starts.items in
    let fs = c.self.inside.firsts.entries in
    let b = c.self.inside.bounds in
    let rs' = c.extend_last.new.runs.items in
    let x = c.args.ident.now in
    let l = c.args.label in
    let b' : Bounds = record { counts = b.counts; above = l + 1; olders = b.olders } in
    let fresh : label_of (reverse (named rs)) x ≡ None = ap (λ (ks : Names). label_of (reverse ks) x) c.self.view_is ∙ c.requires.fresh in
    let yes = c.if-not-extend_last.false in
    let fits = c.if-not-is_open.false in
    let bound = c.is_open.ensures.bound fits in
    let size : c.len.result ≡ length rs = omega arith in
    let most = bound.3 in
    let bounded : AreBounded rs' b' =
    bounded_extended rs rs' b b' x l bound.0 bound.1 c.self.invariant.bounded (c.extend_last.ensures.more yes) c.extend_last.ensures.count (c.is_open.ensures.above fits) bound.2 (omega (arith, size, most)) refl refl refl in
    let vs = c.self.inside.intervals.items in
    let noted = noted_extended rs rs' vs b.counts.entries b.above x l c.self.invariant.noted c.self.invariant.bounded.counted (c.extend_last.ensures.more yes) c.extend_last.ensures.count (c.is_open.ensures.above fits) in
    let h = c.self.inside.height in
    let h' = c.max-self-inside.result in
    let one = up_to_one c.of.result x l (ap (λ (k : Height). k.seq) c.of.ensures.height ∙ sym (ap seq_of c.last.ensures.last)) (ap (λ (k : Height). k.offset) c.of.ensures.height ∙ sym (ap offset_of c.last.ensures.last)) in
    let far = up_to_more h c.of.result h' (named rs) (named rs') ((x, l) ∷ []) c.self.invariant.far one c.max-self-inside.ensures.own c.max-self-inside.ensures.other (c.extend_last.ensures.names yes) in
    let more : c.self.inside.len + 1 ≡ c.in-Some.len = let w = c.in-Some.ensures in omega (arith, w) in
    subst (λ n. IsIndexed rs' ss fs b' vs n h') more (indexed_more rs rs' ss ss fs fs b b' vs vs c.self.inside.len h h' x l c.self.invariant (c.extend_last.ensures.kept yes ss fs c.self.invariant.kept) bounded noted (c.extend_last.ensures.names yes) fresh far)
