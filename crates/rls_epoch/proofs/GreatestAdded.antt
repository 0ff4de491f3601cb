-- The greatest epoch of a tree with one more node.
use Rattle.std.proofs.Common.{◌≡◌, Bool, true, false, List, ◌∷◌, refl, sym, ap, ◌∙◌, subst}
use Rattle.std.specs.Prelude.{if◌then◌else◌, ◌||◌}
use Rattle.std.specs.declared.cmp.Ordering.TheVariants.{Less}
use Rattle.std.specs.Ordering.{is_lt}
use Rattle.rls_ident.specs.declared.epoch_name.EpochName.{EpochName}
use Rattle.rls_ident.specs.EpochNames.{name_eq}
use Rattle.rls_ident.proofs.Members.{bool_cases, less_is}
use Rattle.rls_ident.proofs.Named.{name_eq_is}
use Rattle.rls_rename.specs.Tree.{Node, name_of, is_of, has_node, is_kept, AreNodes, AreBelow, path, epoch_cmp, later_of, greatest}
use Rattle.rls_rename.proofs.Kept.{greatest_kept, kept_more}
use Rattle.rls_rename.proofs.Order.{greatest_is, less_self, older_cmp, kept_here}
use Rattle.rls_rename.proofs.SameNodes.{greatest_top, paths_total}

-- no older epoch is above the greatest of the older ones
none_above : (top : EpochName) (node : Node) (older : List Node) → AreNodes (node ∷ older) → AreBelow top (node ∷ older) → (e : EpochName) → is_of node e ≡ false → is_kept top (node ∷ older) e ≡ true → epoch_cmp (node ∷ older) (greatest top older) e ≡ Less → ⊥
none_above top node older d b e q k l =
    let m : is_kept top older e ≡ true = sym (ap (λ c. name_eq e top || (c || has_node older e)) q) ∙ k in
    greatest_top top older e m (sym (older_cmp top node older d b (greatest top older) e (greatest_kept top older) m) ∙ l)

-- it is the greatest of before, or the new one where that is greater
pub greatest_added : (top : EpochName) (node : Node) (older : List Node) → AreNodes (node ∷ older) → AreBelow top (node ∷ older) → later_of (node ∷ older) (greatest top older) (name_of node.renaming) ≡ greatest top (node ∷ older)
greatest_added top node older d b = go (is_lt (epoch_cmp ns g n)) refl
  where
    ns : List Node
    ns = node ∷ older

    g : EpochName
    g = greatest top older

    n : EpochName
    n = name_of node.renaming

    go : (c : Bool) → is_lt (epoch_cmp ns g n) ≡ c → (if c then n else g) ≡ greatest top ns
    go true h =
        sym
        (greatest_is top ns d b n (kept_here top node older)
        (λ e k l. bool_cases (is_of node e)
        (λ q. less_self ns n (subst (λ z. epoch_cmp ns n z ≡ Less) (sym (name_eq_is n e q)) l))
        (λ q. none_above top node older d b e q k (paths_total.trans (path ns g) (path ns n) (path ns e) (less_is (epoch_cmp ns g n) h) l))))
    go false h =
        sym
        (greatest_is top ns d b g (kept_more top node older g (greatest_kept top older))
        (λ e k l. bool_cases (is_of node e)
        (λ q. let r = ap is_lt (subst (λ z. epoch_cmp ns g z ≡ Less) (sym (name_eq_is n e q)) l) in absurd (cc))
        (λ q. none_above top node older d b e q k l)))
