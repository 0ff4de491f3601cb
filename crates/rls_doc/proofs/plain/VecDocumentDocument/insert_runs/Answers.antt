use Rattle.std.proofs.Common.{◌≡◌, ◌++◌, true, sym, ap, ◌∙◌, subst}
use Rattle.std.specs.Prelude.{zip}
use Rattle.std.specs.List.Sorted.{IsPermutation}
use Rattle.rls_runs.specs.Runs.{idents_of, is_increasing}
use Rattle.rls_runs.specs.Entries.{idents_in, put_all}
use Rattle.rls_doc.specs.Documents.{AreNew}
use Rattle.rls_doc.proofs.Added.{increasing_zip, sorted_is, sorted_rises, added_behind}
use Rattle.rls_doc.proofs.plain.VecDocumentDocument.insert_runs.Goals as goal
use Rattle.rls_doc.proofs.plain.VecDocumentDocument.insert_runs.Goals.{then-not-behind, else-not-behind}

pub are_behind-behind-requires-clause-added : goal.are_behind-behind-requires-clause-added
are_behind-behind-requires-clause-added c =
    let z : c.in_ok-added.added.items ≡ zip (idents_of c.args.runs.now) c.args.text.now = c.in_ok-added.ensures.zipped ∙ ap (λ rs. zip (idents_of rs) c.args.text.now) c.as_slice.ensures.runs in
    subst (λ es. is_increasing (idents_in es) ≡ true) (sym (c.deref-2.ensures.value ∙ z)) (increasing_zip (idents_of c.args.runs.now) c.args.text.now c.requires.as_many c.requires.rises)

pub invariant_of-self-then-not-behind : goal.invariant_of-self-then-not-behind
invariant_of-self-then-not-behind c =
    let ids = idents_of c.args.runs.now in
    let es = c.self.inside.entries.items in
    let z : c.in_ok-added.added.items ≡ zip ids c.args.text.now = c.in_ok-added.ensures.zipped ∙ ap (λ rs. zip (idents_of rs) c.args.text.now) c.as_slice.ensures.runs in
    let new = subst (λ xs. AreNew ids (idents_in xs)) (sym c.self.view_is) c.requires.new in
    let moved = subst (λ xs. IsPermutation xs c.sort.new.entries.items) c.in_ok-append.ensures.items c.sort.ensures.permutation in
    sorted_rises ids c.args.text.now es c.in_ok-added.added.items c.sort.new.entries.items z c.requires.as_many c.requires.rises new c.self.invariant c.sort.ensures.sorted moved

pub returns-clause-ok : goal.returns-clause-ok
returns-clause-ok c =
    let ids = idents_of c.args.runs.now in
    let es = c.self.inside.entries.items in
    let z : c.in_ok-added.added.items ≡ zip ids c.args.text.now = c.in_ok-added.ensures.zipped ∙ ap (λ rs. zip (idents_of rs) c.args.text.now) c.as_slice.ensures.runs in
    let new = subst (λ xs. AreNew ids (idents_in xs)) (sym c.self.view_is) c.requires.new in
    elim c.if-not-behind.branch [
      | then-not-behind w ↦ (w.self-is ∙ sorted_is ids c.args.text.now es c.in_ok-added.added.items w.sort.new.entries.items z c.requires.as_many c.requires.rises new c.self.invariant w.sort.ensures.sorted
          (subst (λ xs. IsPermutation xs w.sort.new.entries.items) c.in_ok-append.ensures.items w.sort.ensures.permutation) ∙ ap (put_all (zip ids c.args.text.now)) c.self.view_is)
      | else-not-behind w ↦ (w.self-is ∙ c.in_ok-append.ensures.items ∙ added_behind ids c.args.text.now es c.in_ok-added.added.items z c.requires.as_many c.requires.rises new c.self.invariant
          (subst (λ xs. is_increasing (idents_in (xs ++ c.in_ok-added.added.items)) ≡ true) c.deref.ensures.value (subst (λ xs. is_increasing (idents_in (c.deref.result.now ++ xs)) ≡ true) c.deref-2.ensures.value (c.are_behind-behind.ensures.behind w.if-not-behind.false)))
          ∙ ap (put_all (zip ids c.args.text.now)) c.self.view_is)
    ]
