use Rattle.std.proofs.Common.{◌≡◌, ℕ, ◌+◌, ◌-◌, ◌/◌, ◌<◌, true, List, length, drop, get_or, Some, Ok, slice_get, sym, ap, ◌∙◌, subst, arith}
use Rattle.std.specs.declared.cmp.Ordering.{Ordering}
use Rattle.std.specs.declared.cmp.Ordering.TheVariants.{Less, Equal, Greater}
use Rattle.std.proofs.lemmas.Option.{slice_get_within}
use Rattle.rls_ident.specs.declared.tuple.Tuple.{Tuple}
use Rattle.rls_ident.specs.Identifiers.{ident_cmp}
use Rattle.rls_ident.proofs.Members.{some_is}
use Rattle.rls_runs.specs.Runs.{is_increasing, place_from, place_of}
use Rattle.rls_runs.specs.Entries.{idents_in}
use Rattle.rls_runs.proofs.Sorted.{Entry}
use Rattle.rls_doc.proofs.Places.{place_begins, place_behind, place_found, place_ends}
use Rattle.rls_doc.proofs.Steps.{entry_at}
use Rattle.rls_doc.proofs.plain.place.Goals as goal

pub loop-low-init : goal.loop-low-init
loop-low-init c = record {
  order = omega arith;
  within = omega arith;
  rest = place_begins c.args.id.now c.args.entries.now;
  above = λ e g. absurd (omega (arith, slice_get_within c.args.entries.now (length c.args.entries.now) e g));
}

-- what the entry at a place tells of an identifier with which it is compared
module _ (x : List Tuple) (es : List Entry) (rises : is_increasing (idents_in es) ≡ true) (m : ℕ) (e : Entry) (within : m < length es) (is : e ≡ get_or es m e) (o : Ordering) (order : o ≡ ident_cmp (get_or es m e).0 x) where
  there : slice_get es m ≡ Some e
  there = entry_at es m e within is

  compared : ident_cmp e.0 x ≡ o
  compared = ap (λ (z : Entry). ident_cmp z.0 x) is ∙ sym order

  less : o ≡ Less → place_from (m + 1) x (idents_in (drop (m + 1) es)) ≡ place_of x (idents_in es)
  less q = place_behind x es m e rises there (compared ∙ q)

  equal : o ≡ Equal → Ok m ≡ place_of x (idents_in es)
  equal q = place_found x es m e rises there (compared ∙ q)

  greater : o ≡ Greater → (next : Entry) → slice_get es m ≡ Some next → ident_cmp next.0 x ≡ Greater
  greater q next h = subst (λ (z : Entry). ident_cmp z.0 x ≡ Greater) (some_is e next (sym there ∙ h)) (compared ∙ q)

pub loop-low-preserved-in-Less : goal.loop-low-preserved-in-Less
loop-low-preserved-in-Less c =
    let read = c.index-entries-middle in
    record {
      order = omega arith;
      within = c.loop-low.invariant.within;
      rest = less c.args.id.now c.args.entries.now c.requires.rises (c.loop-low.low + (c.loop-low.high - c.loop-low.low) / 2) read.result (omega (arith, c.loop-low.invariant.within)) read.is c.compare.result c.compare.ensures.order c.in-Less.is;
      above = c.loop-low.invariant.above;
    }

pub returns-in-Equal : goal.returns-in-Equal
returns-in-Equal c =
    let read = c.index-entries-middle in
    record { place = equal c.args.id.now c.args.entries.now c.requires.rises (c.loop-low.low + (c.loop-low.high - c.loop-low.low) / 2) read.result (omega (arith, c.loop-low.invariant.within)) read.is c.compare.result c.compare.ensures.order c.in-Equal.is }

pub loop-low-preserved : goal.loop-low-preserved
loop-low-preserved c =
    let read = c.index-entries-middle in
    record {
      order = omega arith;
      within = omega (arith, c.loop-low.invariant.within);
      rest = c.loop-low.invariant.rest;
      above = greater c.args.id.now c.args.entries.now c.requires.rises (c.loop-low.low + (c.loop-low.high - c.loop-low.low) / 2) read.result (omega (arith, c.loop-low.invariant.within)) read.is c.compare.result c.compare.ensures.order c.in-Greater.is;
    }

pub returns : goal.returns
returns c =
    let es = c.args.entries.now in
    let same : c.loop-low.high ≡ c.loop-low.low = omega arith in
    record { place = place_ends c.args.id.now es c.loop-low.low (λ e g. c.loop-low.invariant.above e (ap (slice_get es) same ∙ g)) c.loop-low.invariant.rest }
