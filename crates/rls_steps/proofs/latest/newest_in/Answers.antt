use Rattle.std.proofs.Common.{◌≡◌, ◌+◌, ◌-◌, length, take, refl, sym, ap, ◌∙◌, arith}
use Rattle.std.specs.Prelude.{reverse}
use Rattle.std.proofs.lemmas.Option.{slice_get_read, slice_get-get_or}
use Rattle.rls_steps.specs.NameRuns.{named}
use Rattle.rls_steps.specs.Index.{newest_at}
use Rattle.rls_steps.proofs.Indexing.{starts_long}
use Rattle.rls_steps.proofs.LabelRuns.{run_missed, run_found, place_few}
use Rattle.rls_steps.proofs.latest.newest_in.Goals as goal

pub bounds-starts-i : goal.bounds-starts-i
bounds-starts-i c =
    let long = ap length c.requires.starts ∙ starts_long 0 c.args.runs.now in
    let h = c.runs.invariant.within in
    let end = c.requires.count in
    omega (arith, long, h, end, c.runs-test.true)

pub overflow_add-result : goal.overflow_add-result
overflow_add-result c =
    let rs = c.args.runs.now in
    let ss = c.args.starts.now in
    let g = slice_get_read rs (length rs) (c.runs.i - 1) c.index-runs-i.result refl (omega (arith, c.requires.count, c.runs.invariant.within, c.runs-test.true)) c.index-runs-i.is in
    let long = ap length c.requires.starts ∙ starts_long 0 rs in
    let at = slice_get-get_or ss (c.runs.i - 1) 0 (omega (arith, long, c.requires.count, c.runs.invariant.within, c.runs-test.true)) in
    let here = place_few rs ss _ _ c.in-Some.place c.index-runs-i.result c.requires.starts g at c.in-Some.ensures.found.0 in
    omega (arith, c.requires.few, here)

pub runs-preserved : goal.runs-preserved
runs-preserved c =
    let rs = c.args.runs.now in
    let back : c.runs.i - 1 + 1 ≡ c.runs.i = omega (arith, c.runs-test.true) in
    let g = slice_get_read rs (length rs) (c.runs.i - 1) c.index-runs-i.result refl (omega (arith, c.requires.count, c.runs.invariant.within, c.runs-test.true)) c.index-runs-i.is in
    record {
      within = omega (arith, c.runs.invariant.within);
      same = c.runs.invariant.same
          ∙ (ap (λ j. newest_at (reverse (named (take j rs))) c.args.label) (sym back) ∙ run_missed rs (c.runs.i - 1) c.args.label c.index-runs-i.result g (c.find_label.ensures.missed c.in_default.is));
    }

pub returns-in-Some : goal.returns-in-Some
returns-in-Some c =
    let rs = c.args.runs.now in
    let ss = c.args.starts.now in
    let back : c.runs.i - 1 + 1 ≡ c.runs.i = omega (arith, c.runs-test.true) in
    let g = slice_get_read rs (length rs) (c.runs.i - 1) c.index-runs-i.result refl (omega (arith, c.requires.count, c.runs.invariant.within, c.runs-test.true)) c.index-runs-i.is in
    let long = ap length c.requires.starts ∙ starts_long 0 rs in
    let at = slice_get-get_or ss (c.runs.i - 1) 0 (omega (arith, long, c.requires.count, c.runs.invariant.within, c.runs-test.true)) in
    record {
      newest = sym (c.runs.invariant.same
          ∙ (ap (λ j. newest_at (reverse (named (take j rs))) c.args.label) (sym back)
          ∙ run_found rs ss _ c.args.label c.in-Some.place _ c.index-runs-i.result c.requires.sound c.requires.starts g at c.in-Some.ensures.found.0 c.in-Some.ensures.found.1));
    }

pub returns : goal.returns
returns c =
    let all : c.runs.i ≡ 0 = omega (arith, c.runs-test.false) in
    record { newest = sym (c.runs.invariant.same ∙ ap (λ k. newest_at (reverse (named (take k c.args.runs.now))) c.args.label) all) }
