use Rattle.std.proofs.Common.{◌≡◌, ◌+◌, ℕ, List, suc, take, get_or, set, sym, ap, ◌∙◌, subst, arith}
use Rattle.std.proofs.Math.ListN.{length-set}
use Rattle.std.proofs.lemmas.Option.{slice_get-get_or}
use Rattle.rls_ident.specs.declared.epoch_name.EpochName.{EpochName}
use Rattle.rls_ident.specs.declared.epoch_name.EpochName.TheVariants.{Origin}
use Rattle.rls_ident.proofs.Members.{get_in}
use Rattle.rls_epoch.specs.Marks.{AreNamed}
use Rattle.rls_epoch.proofs.Left.{named_more}
use Rattle.rls_epoch.proofs.Sorting.{take_get}
use Rattle.rls_epoch.proofs.tree.Tree.marks_for.Goals as goal

pub number_near-number-requires : goal.number_near-number-requires
number_near-number-requires c =
    let names = c.args.marked.now in
    let i = c.loop-name.name-index in
    record {
      kept = c.requires.marked (get_or names i Origin) (get_in names i (get_or names i Origin) (slice_get-get_or names i Origin (omega arith)));
      within = c.loop-name.invariant.number;
    }

pub loop-name-preserved : goal.loop-name-preserved
loop-name-preserved c =
    let top = c.args.self.now.nodes.top in
    let ps = c.args.self.now.nodes.placed in
    let names = c.args.marked.now in
    let i = c.loop-name.name-index in
    let ms = c.loop-name.marks.items in
    let n = c.number_near-number.result in
    let f = get_or names i Origin in
    let w = c.loop-name.invariant.whole in
    let h = c.number_near-number.ensures.within in
    let next : i + 1 ≡ suc i = omega arith in
    let more = named_more top ps ms (take i names) n f (omega arith) h c.number_near-number.ensures.epoch c.loop-name.invariant.named in
    rw c.plain.ensures.mark record {
      whole = length-set ms n 1 ∙ w;
      number = h;
      named = subst (λ (es : List EpochName). AreNamed top ps (set ms n 1) es) (sym (take_get names i f (slice_get-get_or names i Origin (omega arith))) ∙ ap (λ (j : ℕ). take j names) (sym next)) more;
    }
