use Rattle.std.proofs.Common.{◌≡◌, ◌-◌, ◌<◌, refl, sym, ap, ◌∙◌, subst, arith}
use Rattle.std.specs.Prelude.{pos, ◌+ℤ◌, ◌-ℤ◌}
use Rattle.std.proofs.lemmas.Int.{ints}
use Rattle.rls_ident.specs.declared.tuple.Spot.{Spot}
use Rattle.rls_ident.specs.Tuples.{offset_of, seq_of}
use Rattle.rls_ident.specs.Identifiers.{last_of}
use Rattle.rls_steps.specs.declared.height.Height.{Height}
use Rattle.rls_steps.specs.NameRuns.{Stretch, name_at}
use Rattle.rls_steps.specs.Heights.{IsOver}
use Rattle.rls_steps.proofs.Heights.{falls, rises, run_over}
use Rattle.rls_steps.proofs.name_run.NameRun.is_over.Goals as goal

pub returns-then-self : goal.returns-then-self
returns-then-self c = record {
  over = λ t k g.
      let s = c.self.inside in
      let r : Stretch = record { first = s.first; label = s.label; down = s.down; len = s.len } in
      let o = offset_of (last_of s.first) in
      let own : offset_of (last_of s.first) ≡ c.last-last.result.offset = ap offset_of c.last-last.ensures.last in
      let seq : c.of.result.seq ≡ seq_of (last_of s.first) = ap (λ (k : Height). k.seq) c.of.ensures.height ∙ (ap (λ (t : Spot). t.seq) c.lowered.ensures.spot ∙ sym (ap seq_of c.last-last.ensures.last)) in
      let down : c.of.result.offset ≡ c.last-last.result.offset -ℤ pos (s.len - 1) = ap (λ (k : Height). k.offset) c.of.ensures.height ∙ ap (λ (t : Spot). t.offset) c.lowered.ensures.spot in
      let offset : c.of.result.offset ≡ o -ℤ pos (s.len - 1) = down ∙ ap (λ z. z -ℤ pos (s.len - 1)) (sym own) in
      subst (λ (q : Stretch). IsOver c.args.height (name_at q k).0) c.self.view_is
      (run_over r c.args.height c.of.result.seq c.of.result.offset c.self.invariant.ident seq (λ j h. (falls s.down o c.of.result.offset s.len j c.if-self.true offset h).0) (c.is_under.ensures.over t) k
      (subst (λ (q : Stretch). k < q.len) (sym c.self.view_is) g));
}

pub returns : goal.returns
returns c = record {
  over = λ t k g.
      let s = c.self.inside in
      let r : Stretch = record { first = s.first; label = s.label; down = s.down; len = s.len } in
      let o = offset_of (last_of s.first) in
      let seq : c.of-2.result.seq ≡ seq_of (last_of s.first) = ap (λ (k : Height). k.seq) c.of-2.ensures.height ∙ sym (ap seq_of c.last-last.ensures.last) in
      let offset : c.of-2.result.offset ≡ o = ap (λ (k : Height). k.offset) c.of-2.ensures.height ∙ sym (ap offset_of c.last-last.ensures.last) in
      subst (λ (q : Stretch). IsOver c.args.height (name_at q k).0) c.self.view_is
      (run_over r c.args.height c.of-2.result.seq c.of-2.result.offset c.self.invariant.ident seq
      (λ j h. let f = (rises s.down o (o +ℤ pos (s.len - 1)) s.len j c.if-self.false refl h).0 in omega (arith, ints, f, offset)) (c.is_under-2.ensures.over t) k
      (subst (λ (q : Stretch). k < q.len) (sym c.self.view_is) g));
}
