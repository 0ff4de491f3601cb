-- An epoch that is to be opened, beside those that are kept.
use Rattle.std.proofs.Common.{◌≡◌, Bool, true, false, List, ◌∷◌, sym, ap, ◌∙◌}
use Rattle.std.specs.Prelude.{if◌then◌else◌, ◌||◌}
use Rattle.std.specs.Ordering.{is_lt}
use Rattle.rls_ident.specs.declared.epoch_name.EpochName.{EpochName}
use Rattle.rls_ident.specs.EpochNames.{name_eq}
use Rattle.rls_ident.proofs.Members.{bool_cases, true_false}
use Rattle.rls_ident.proofs.Named.{name_eq_is, name_eq_refl}
use Rattle.rls_rename.specs.Tree.{Node, name_of, has_node, is_kept, AreNodes, AreBelow, epoch_cmp, greatest}
use Rattle.rls_rename.proofs.Kept.{greatest_kept}
use Rattle.rls_epoch.proofs.GreatestAdded.{greatest_added}

-- the name of the new node is not that of a kept epoch
pub apart : (top : EpochName) (nodes : List Node) (n e : EpochName) → is_kept top nodes n ≡ false → is_kept top nodes e ≡ true → name_eq n e ≡ false
apart top nodes n e f k = bool_cases (name_eq n e) (λ q. absurd (true_false (is_kept top nodes e) k (ap (is_kept top nodes) (sym (name_eq_is n e q)) ∙ f))) (λ q. q)

-- it will be the greatest just where it is above the greatest of those that are kept
pub greatest_opened : (top : EpochName) (node : Node) (nodes : List Node) → AreNodes (node ∷ nodes) → AreBelow top (node ∷ nodes)
    → is_lt (epoch_cmp (node ∷ nodes) (greatest top nodes) (name_of node.renaming)) ≡ name_eq (greatest top (node ∷ nodes)) (name_of node.renaming)
greatest_opened top node nodes d b =
    go (is_lt (epoch_cmp (node ∷ nodes) g n)) ∙ ap (λ f. name_eq f n) (greatest_added top node nodes d b)
  where
    n : EpochName
    n = name_of node.renaming

    g : EpochName
    g = greatest top nodes

    not_kept : is_kept top nodes n ≡ false
    not_kept = ap (λ c. c || has_node nodes n) b.1 ∙ d.1

    other : name_eq n g ≡ false
    other = apart top nodes n g not_kept (greatest_kept top nodes)

    go : (c : Bool) → c ≡ name_eq (if c then n else g) n
    go true = sym (name_eq_refl n)
    go false = sym (bool_cases (name_eq g n) (λ q. absurd (true_false (name_eq n g) (ap (name_eq n) (name_eq_is g n q) ∙ name_eq_refl n) other)) (λ q. q))
