use Rattle.std.proofs.Common.{◌∙◌, sym, drop, ◌+◌, ap, arith}
use Rattle.std.specs.declared.cmp.Ordering.TheVariants.{Less, Equal, Greater}
use Rattle.rls_ident.specs.Tuples.{tuple_cmp}
use Rattle.rls_ident.specs.Maps.{under}
use Rattle.rls_ident.proofs.Loops.{turned, turned_on, under_read, under_ended}
use Rattle.rls_ident.proofs.ident.Ident.under.Goals as goal

pub returns-in-Less : goal.returns-in-Less
returns-in-Less c = record { under = under_read tuple_cmp c.args.self.now c.args.pattern.now c.loop-i.i c.loop-i.place _ c.tuple.result Less _ c.tuple.ensures.found c.loop-i.invariant.within (sym c.in-Less.is ∙ c.compare.ensures.order) c.loop-i.invariant.total }

pub returns-in-Greater : goal.returns-in-Greater
returns-in-Greater c = record { under = under_read tuple_cmp c.args.self.now c.args.pattern.now c.loop-i.i c.loop-i.place _ c.tuple.result Greater _ c.tuple.ensures.found c.loop-i.invariant.within (sym c.in-Greater.is ∙ c.compare.ensures.order) c.loop-i.invariant.total }

pub loop-i-preserved : goal.loop-i-preserved
loop-i-preserved c =
    let same = under_read tuple_cmp c.args.self.now c.args.pattern.now c.loop-i.i c.loop-i.place _ c.tuple.result Equal _ c.tuple.ensures.found c.loop-i.invariant.within (sym c.in-Equal.is ∙ c.compare.ensures.order) c.loop-i.invariant.total in
    let on = turned_on c.args.pattern.now c.loop-i.place c.next_place-place.result c.loop-i.invariant.within c.next_place-place.ensures.behind c.next_place-place.ensures.again in
    record {
      within = c.next_place-place.ensures.within;
      total = ap (under tuple_cmp (drop (c.loop-i.i + 1) c.args.self.now)) (sym on) ∙ same;
    }

pub returns : goal.returns
returns c = record { under = under_ended tuple_cmp c.args.self.now (turned c.args.pattern.now c.loop-i.place) c.loop-i.i _ (omega arith) c.loop-i.invariant.total }
