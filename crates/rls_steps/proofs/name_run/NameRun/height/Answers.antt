use Rattle.std.proofs.Common.{◌≡◌, ◌-◌, refl, sym, ap, ◌∙◌, subst, arith}
use Rattle.std.specs.Prelude.{pos, ◌+ℤ◌, ◌-ℤ◌}
use Rattle.std.proofs.lemmas.Int.{ints}
use Rattle.rls_ident.specs.declared.tuple.Spot.{Spot}
use Rattle.rls_ident.specs.Tuples.{offset_of, seq_of}
use Rattle.rls_ident.specs.Identifiers.{last_of}
use Rattle.rls_ident.specs.Lists.{IsIn}
use Rattle.rls_steps.specs.declared.height.Height.{Height}
use Rattle.rls_steps.specs.NameRuns.{Stretch, names_of}
use Rattle.rls_steps.proofs.Heights.{falls, rises, run_up_to}
use Rattle.rls_steps.proofs.name_run.NameRun.height.Goals as goal

pub returns-then-self : goal.returns-then-self
returns-then-self c = record {
  all = λ n p.
      let s = c.self.inside in
      let r : Stretch = record { first = s.first; label = s.label; down = s.down; len = s.len } in
      let o = offset_of (last_of s.first) in
      let seq : c.of.result.seq ≡ seq_of (last_of s.first) = ap (λ (k : Height). k.seq) c.of.ensures.height ∙ sym (ap seq_of c.last-last.ensures.last) in
      let offset : c.of.result.offset ≡ o = ap (λ (k : Height). k.offset) c.of.ensures.height ∙ sym (ap offset_of c.last-last.ensures.last) in
      run_up_to r c.of.result c.self.invariant.ident seq
      (λ k h. let f = (falls s.down o (o -ℤ pos (s.len - 1)) s.len k c.if-self.true refl h).1 in omega (arith, ints, f, offset))
      n (subst (λ (q : Stretch). IsIn n (names_of q)) (sym c.self.view_is) p);
}

pub returns : goal.returns
returns c = record {
  all = λ n p.
      let s = c.self.inside in
      let r : Stretch = record { first = s.first; label = s.label; down = s.down; len = s.len } in
      let o = offset_of (last_of s.first) in
      let own : offset_of (last_of s.first) ≡ c.last-last.result.offset = ap offset_of c.last-last.ensures.last in
      let seq : c.of-2.result.seq ≡ seq_of (last_of s.first) = ap (λ (k : Height). k.seq) c.of-2.ensures.height ∙ (ap (λ (t : Spot). t.seq) c.raised.ensures.spot ∙ sym (ap seq_of c.last-last.ensures.last)) in
      let up : c.of-2.result.offset ≡ c.last-last.result.offset +ℤ pos (s.len - 1) = ap (λ (k : Height). k.offset) c.of-2.ensures.height ∙ ap (λ (t : Spot). t.offset) c.raised.ensures.spot in
      let offset : c.of-2.result.offset ≡ o +ℤ pos (s.len - 1) = up ∙ ap (λ z. z +ℤ pos (s.len - 1)) (sym own) in
      run_up_to r c.of-2.result c.self.invariant.ident seq
      (λ k h. (rises s.down o c.of-2.result.offset s.len k c.if-self.false offset h).1)
      n (subst (λ (q : Stretch). IsIn n (names_of q)) (sym c.self.view_is) p);
}
