-- What a rename does to the text.
use Rattle.std.proofs.Common.{◌≡◌, List, [], ◌∷◌, map, refl, sym, ap, ◌∙◌, ⊎_elim}
use Rattle.std.specs.Prelude.{Bool, true, if◌then◌else◌}
use Rattle.rls_ident.specs.declared.tuple.Tuple.{Tuple}
use Rattle.rls_ident.specs.declared.epoch_name.EpochName.{EpochName}
use Rattle.rls_ident.specs.declared.epoch_name.EpochName.TheVariants.{Of}
use Rattle.rls_ident.specs.EpochNames.{name_eq}
use Rattle.rls_ident.specs.Lists.{IsIn}
use Rattle.rls_ident.proofs.Agreeing.{map_same}
use Rattle.rls_ident.proofs.Members.{bool_cases, true_false, map_in}
use Rattle.rls_ident.proofs.Named.{name_eq_is, name_eq_refl}
use Rattle.rls_rename.specs.Tree.{Node, is_kept, greatest, translate}
use Rattle.rls_rename.proofs.Growth.{kept_other, translate_child, translate_same}
use Rattle.rls_rename.proofs.Kept.{greatest_kept}
use Rattle.rls_runs.specs.Entries.{Entries, with_idents}
use Rattle.rls_runs.proofs.Sorted.{Entry}
use Rattle.rls_model.specs.Epochs.{nodes_after, renaming_of}
use Rattle.rls_seen.specs.Over.{accepted, renamed_over, is_greatest_over, text_after}
use Rattle.rls_seen.specs.Seen.{greatest_over, idents_over}
use Rattle.rls_seen.proofs.Applied.{accepted_sane}
use Rattle.rls_seen.proofs.TextLists.{ident_in}
use Rattle.rls_seen.proofs.Written.{next_greatest, rename_tree}
use Rattle.rls_steps.specs.StepLaws.{AppliedRenames}

-- a map of identifiers that agrees with another on those of the text
with_same : (f g : List Tuple → List Tuple) (es : Entries) → ((x : List Tuple) → IsIn x (map (λ (e : Entry). e.0) es) → f x ≡ g x) → with_idents f es ≡ with_idents g es
with_same f g es h = map_same (λ (e : Entry). (f e.0, e.1)) (λ (e : Entry). (g e.0, e.1)) es (λ e p. ap (λ x. (x, e.1)) (h e.0 (map_in (λ (x : Entry). x.0) e es p)))

with_none : (f : List Tuple → List Tuple) (es : Entries) → ((x : List Tuple) → IsIn x (map (λ (e : Entry). e.0) es) → f x ≡ x) → with_idents f es ≡ es
with_none f es h = with_same f (λ x. x) es h ∙ itself es
  where
    itself : (ds : Entries) → with_idents (λ x. x) ds ≡ ds
    itself [] = refl
    itself (d ∷ ds) = ap (λ cs. d ∷ cs) (itself ds)

pub applied_renames : AppliedRenames
unfolding accepted
applied_renames s o former sane m r e =
    let older = s.epochs.nodes in
    let node : Node = record { parent = o.epoch; renaming = renaming_of o former } in
    let ns = node ∷ older in
    let top = s.epochs.top in
    let g = greatest_over s in
    let t = rename_tree s o former sane m e in
    let fresh : EpochName = Of o.author o.seq in
    let gk : is_kept top older g ≡ true = greatest_kept top older in
    let j = ident_in (idents_over s) sane.idents in
    let place : List Node → List Tuple → List Tuple = λ nodes x. translate nodes g (greatest top nodes) x in
    let grown : nodes_after older o o.body ≡ ns = ap (nodes_after older o) e in
    let test : is_greatest_over s o ≡ name_eq (greatest top ns) fresh = ap (λ (nodes : List Node). name_eq (greatest top nodes) fresh) grown in
    let moved = with_idents (renamed_over s o former) s.text in
    let text : (if is_greatest_over s o then moved else s.text) ≡ with_idents (place ns) s.text =
    bool_cases (is_greatest_over s o)
    (λ q. let here : greatest top ns ≡ fresh = name_eq_is (greatest top ns) fresh (sym test ∙ q) in
    ap (λ (b : Bool). if b then moved else s.text) q
    ∙ with_same (renamed_over s o former) (place ns) s.text (λ x p.
    sym (ap (λ h. translate ns g h x) here ∙ translate_child node older g fresh x t.0 (j x p) (kept_other top node older g t.0 t.1 gk) (name_eq_refl fresh))))
    (λ q. let here : greatest top ns ≡ g = ⊎_elim (λ h. absurd (true_false (is_greatest_over s o) (test ∙ (ap (λ c. name_eq c fresh) h ∙ name_eq_refl fresh)) q)) (λ h. h) (next_greatest top node older t.0 t.1) in
    ap (λ (b : Bool). if b then moved else s.text) q
    ∙ sym (with_none (place ns) s.text (λ x p. ap (λ h. translate ns g h x) here ∙ translate_same ns g x t.0 (j x p)))) in
    record {
      sane = accepted_sane s o sane m r;
      text = ap (text_after s o) e ∙ (text ∙ ap (λ (nodes : List Node). with_idents (place nodes) s.text) (sym grown));
    }
