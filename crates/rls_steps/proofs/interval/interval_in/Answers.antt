use Rattle.std.proofs.Common.{◌≡◌, ◌<◌, ◌≤◌, ◌-◌, ℕ, List, false, nat_eq, length, refl, sym, subst, arith}
use Rattle.std.specs.Prelude.{Option, IfSome}
use Rattle.std.proofs.lemmas.Option.{slice_get_read}
use Rattle.rls_ident.specs.declared.tuple.Tuple.{Tuple}
use Rattle.rls_ident.specs.Lists.{IsIn}
use Rattle.rls_ident.proofs.Members.{eq_is}
use Rattle.rls_steps.specs.declared.interval.Interval.{Interval}
use Rattle.rls_steps.specs.Intervals.{IsBetween, LiesIn}
use Rattle.rls_steps.specs.NameRuns.{name_at, names_of}
use Rattle.rls_steps.proofs.Intervals.{all_between, has_each}
use Rattle.rls_steps.proofs.Stretches.{sound_at}
use Rattle.rls_steps.proofs.interval.interval_in.Goals as goal

pub interval_of-requires : goal.interval_of-requires
interval_of-requires c =
    let rs = c.args.runs.now in
    let last = c.args.count - 1 in
    let r = c.index-runs-last.result in
    record { sound = sound_at rs last r c.requires.sound (slice_get_read rs (length rs) last r refl (omega (arith, c.if-count-eq0.false, c.if-runs-count.false)) c.index-runs-last.is) }

pub returns-in_ok-boxed-in-Some-2 : goal.returns-in_ok-boxed-in-Some-2
returns-in_ok-boxed-in-Some-2 c =
    let rs = c.args.runs.now in
    let vs = c.args.intervals.now.items in
    let last = c.args.count - 1 in
    let low = c.args.low in
    let high = c.args.high in
    let r = c.index-runs-last.result in
    let w = c.index.result.now in
    let own = c.in-Some.own in
    let before = c.count_before-first.result in
    let first = nat_eq before 0 in
    let noted = c.requires.noted.all in
    let g = slice_get_read rs (length rs) last r refl (omega (arith, c.if-count-eq0.false, c.if-runs-count.false)) c.index-runs-last.is in
    let u = slice_get_read vs (length vs) last w refl (omega (arith, c.if-count-eq0.false, c.if-runs-count.false, noted)) c.index.ensures in
    let least = subst (λ (o : Option Interval). IfSome o (λ _. (k : ℕ) × (k < r.len) × ((name_at r k).1 ≡ low))) c.in-Some.is c.in_ok-own.ensures.low in
    let greatest = subst (λ (o : Option Interval). IfSome o (λ _. (k : ℕ) × (k < r.len) × ((name_at r k).1 ≡ high))) c.in-Some.is c.in_ok-own.ensures.high in
    let names = subst (λ (o : Option Interval). IfSome o (λ v. (n : List Tuple × ℕ) → IsIn n (names_of r) → low ≤ n.1 → n.1 ≤ high → IsBetween v n.0)) c.in-Some.is c.in_ok-own.ensures.between in
    let mine = subst (λ (o : Option Interval). IfSome o (λ v. (x : List Tuple) → IsBetween own x → IsBetween v x)) c.in-Some-2.is c.in_ok-joined.ensures.own in
    let more = subst (λ (o : Option Interval). IfSome o (λ v. first ≡ false → (x : List Tuple) → LiesIn w x → IsBetween v x)) c.in-Some-2.is c.in_ok-joined.ensures.before in
    record {
      between = λ j s n h k p a b.
          subst (λ (v : Interval). IsBetween v n.0) (sym c.in_ok-boxed-in-Some-2.ensures.ok)
          (all_between rs vs c.args.count low high before r w c.in-Some-2.all first c.requires.noted (omega (arith, c.if-count-eq0.false)) g u (λ m x y. has_each rs last r low high m g least greatest x y) (λ e. eq_is before 0 e)
          (λ m has. c.count_before-first.ensures.none rs m c.requires.bounded has) (λ m q x y. mine m.0 (names m q x y)) more j s n h k p a b);
    }
