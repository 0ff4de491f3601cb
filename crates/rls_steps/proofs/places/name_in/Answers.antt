use Rattle.std.proofs.Common.{◌∙◌, arith}
use Rattle.rls_steps.proofs.Indexing.{starts_begin, start_within, stretch_there, place_short, short_there, place_name}
use Rattle.rls_steps.proofs.places.name_in.Goals as goal

pub run_at-k-requires : goal.run_at-k-requires
run_at-k-requires c = let b = starts_begin _ _ c.args.i c.requires.starts c.requires.place in record { some = b.0; first = b.1 }

pub index-run-requires : goal.index-run-requires
index-run-requires c = omega (arith, start_within _ _ _ c.requires.starts c.run_at-k.ensures.within)

pub ident-requires : goal.ident-requires
ident-requires c = record { place = short_there _ _ c.args.i _ _ c.requires.starts c.requires.place c.run_at-k.ensures.within c.run_at-k.ensures.below c.run_at-k.ensures.above c.index-run.ensures }

pub label-requires : goal.label-requires
label-requires c = record { place = short_there _ _ c.args.i _ _ c.requires.starts c.requires.place c.run_at-k.ensures.within c.run_at-k.ensures.below c.run_at-k.ensures.above c.index-run.ensures }

pub returns : goal.returns
returns c =
    let there = stretch_there _ _ _ _ c.requires.starts c.run_at-k.ensures.within c.index-run.ensures in
    let short = place_short _ _ c.args.i _ _ c.requires.starts c.requires.place c.run_at-k.ensures.within c.run_at-k.ensures.below c.run_at-k.ensures.above there in
    let is = place_name _ _ c.args.i _ _ c.requires.starts c.run_at-k.ensures.within c.run_at-k.ensures.below there short in
    record { name = is ∙ (let x = c.in_ok-ident.ensures.ident in let l = c.label.ensures.label in cc) }
