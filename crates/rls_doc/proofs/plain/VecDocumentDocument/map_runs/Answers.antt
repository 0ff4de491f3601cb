use Rattle.std.proofs.Common.{◌≡◌, true, sym, ap, ◌∙◌, subst}
use Rattle.std.specs.List.{list_all}
use Rattle.rls_ident.specs.Identifiers.{is_ident}
use Rattle.rls_runs.specs.Runs.{is_increasing}
use Rattle.rls_runs.specs.Entries.{idents_in, with_idents}
use Rattle.rls_doc.proofs.Rising.{increasing_mapped}
use Rattle.rls_doc.proofs.plain.VecDocumentDocument.map_runs.Goals as goal

pub invariant_of-self : goal.invariant_of-self
invariant_of-self g c =
    let es = c.self.inside.entries.items in
    let f = g.F.RunMap.image c.args.map.now in
    let mapped : c.in_ok-self-inside.field-0.items ≡ with_idents f es = c.in_ok-self-inside.ensures.mapped ∙ ap (with_idents f) c.deref.ensures.value in
    let idents = subst (λ xs. list_all is_ident (idents_in xs) ≡ true) c.deref.ensures.value c.in_ok-self-inside.ensures.idents in
    subst (λ xs. is_increasing (idents_in xs) ≡ true) (sym mapped) (increasing_mapped f (g.met.F.RunMap.keeps_order c.args.map.now) es idents c.self.invariant)
