-- Anchors at the greatest epoch, where what is stable is dropped.
use Rattle.std.proofs.Common.{◌≡◌, List, refl, ap, subst}
use Rattle.std.specs.Prelude.{IsTrue, true}
use Rattle.rls_ident.specs.declared.epoch_name.EpochName.{EpochName}
use Rattle.rls_ident.specs.declared.tuple.Tuple.{Tuple}
use Rattle.rls_ident.specs.Identifiers.{IsIdent}
use Rattle.rls_rename.proofs.Growth.{translate_same}
use Rattle.rls_rename.proofs.Kept.{greatest_kept}
use Rattle.rls_rename.proofs.Paths.{translate_ident}
use Rattle.rls_runs.specs.Places.{below_count}
use Rattle.rls_seen.specs.Kept.{dropped}
use Rattle.rls_seen.specs.Sane.{IsSane}
use Rattle.rls_seen.specs.Seen.{Seen, greatest_over, idents_over}
use Rattle.rls_seen.specs.Over.{placed_over}
use Rattle.rls_seen.proofs.Dropped.{greatest_left, dropped_sane}
use Rattle.rls_replica.specs.Names.{keeps}
use Rattle.rls_anchor.specs.declared.anchor.Anchor.TheVariants.{Beginning, After, Before}
use Rattle.rls_anchor.specs.Anchors.{count_upto, place_over}
use Rattle.rls_anchor.specs.AnchorLaws.{SettledLasts}

-- the identifier of an anchor stays where it is, and its epoch is kept
stays : (s : Seen) (e : EpochName) (x : List Tuple) → IsSane s → IsIdent x → (placed_over (dropped s) (greatest_over s) (placed_over s e x) ≡ placed_over s e x) × IsTrue (keeps (dropped s) (greatest_over s))
stays s e x sane i =
    let d = dropped s in
    let g = greatest_left s sane in
    let y = placed_over s e x in
    let same = translate_same d.epochs.nodes (greatest_over d) y (dropped_sane s sane).epochs.nodes (translate_ident s.epochs.nodes e (greatest_over s) x sane.epochs.nodes i) in (
      subst (λ (h : EpochName). placed_over d h y ≡ y) g same,
      subst (λ h. keeps d h ≡ true) g (greatest_kept d.epochs.top d.epochs.nodes),
    )

pub settled_lasts : SettledLasts
unfolding place_over dropped
settled_lasts s Beginning sane i = (refl, tt)
settled_lasts s (After e x) sane i = let k = stays s e x sane i in (ap (count_upto (idents_over s)) k.0, k.1)
settled_lasts s (Before e x) sane i = let k = stays s e x sane i in (ap (below_count (idents_over s)) k.0, k.1)
