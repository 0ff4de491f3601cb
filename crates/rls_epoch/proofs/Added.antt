-- One more node in the order of names, and in that of the epochs.
use Rattle.std.proofs.Common.{◌≡◌, ℕ, true, false, List, [], ◌∷◌, ◌++◌, length, refl, sym, ap, ◌∙◌, subst, length-append}
use Rattle.std.specs.Prelude.{insert}
use Rattle.std.specs.declared.cmp.Ordering.TheVariants.{Less}
use Rattle.std.specs.Ordering.{is_lt}
use Rattle.rls_ident.specs.declared.epoch_name.EpochName.{EpochName}
use Rattle.rls_ident.specs.EpochNames.{name_eq}
use Rattle.rls_ident.specs.Lists.{IsIn}
use Rattle.rls_ident.proofs.Members.{bool_cases, less_is, or_right}
use Rattle.rls_rename.specs.Tree.{Node, name_of, has_node, is_kept, AreNodes, AreBelow, epoch_cmp}
use Rattle.rls_rename.proofs.Kept.{kept_more}
use Rattle.rls_rename.proofs.Order.{kept_here, level_same, older_cmp}
use Rattle.rls_epoch.specs.declared.placed.Placed.{Placed}
use Rattle.rls_epoch.specs.Climbing.{name_cmp}
use Rattle.rls_epoch.specs.Links.{epoch_at}
use Rattle.rls_epoch.specs.Seen.{AreLaid, node_of, nodes_of}
use Rattle.rls_epoch.specs.Sorted.{names_at, AreSorted, IsCut}
use Rattle.rls_epoch.proofs.Found.{next_at}
use Rattle.rls_epoch.proofs.Laid.{nodes_last}
use Rattle.rls_epoch.proofs.Ordering.{names_level, names_order}
use Rattle.rls_epoch.proofs.Orders.{epochs_order, in_sorted}
use Rattle.rls_epoch.proofs.Whole.{names_more, place_last, sorted_more}

name_after : (e f : EpochName) → (e ≡ f → ⊥) → (name_cmp e f ≡ Less → ⊥) → name_cmp f e ≡ Less
name_after e f n h =
    bool_cases (is_lt (name_cmp f e)) (λ q. less_is (name_cmp f e) q) (λ q. absurd (n (names_level e f h (λ l. let x = ap is_lt l in absurd (cc)))))

pub epoch_after : (top : EpochName) (ns : List Node) → AreNodes ns → AreBelow top ns → (e f : EpochName) → is_kept top ns e ≡ true → is_kept top ns f ≡ true → (e ≡ f → ⊥) → (epoch_cmp ns e f ≡ Less → ⊥) → epoch_cmp ns f e ≡ Less
epoch_after top ns d b e f k l n h =
    bool_cases (is_lt (epoch_cmp ns f e)) (λ q. less_is (epoch_cmp ns f e) q) (λ q. absurd (n (level_same top ns d b e f k l h (λ r. let x = ap is_lt r in absurd (cc)))))

module _ (top : EpochName) (ps : List Placed) (p : Placed) (fresh : is_kept top (nodes_of ps) (name_of p.renaming) ≡ false) where
  -- what is there has another name
  other : (e : EpochName) → has_node (nodes_of ps) e ≡ true → e ≡ name_of p.renaming → ⊥
  other e h q =
      let x = or_right (name_eq (name_of p.renaming) top) (has_node (nodes_of ps) (name_of p.renaming)) (ap (has_node (nodes_of ps)) (sym q) ∙ h) in
      absurd (cc)

  pub names_added : (by_name : List ℕ) (i : ℕ) → AreSorted name_cmp ps by_name → IsCut name_cmp (names_at ps by_name) (name_of p.renaming) i → AreSorted name_cmp (ps ++ p ∷ []) (insert by_name i (length ps))
  names_added by_name i s c =
      sorted_more name_cmp name_cmp ps p by_name i s names_order (λ e f q r. refl) c (λ f q h. name_after f (name_of p.renaming) (other f (in_sorted ps by_name s.within f q)) h)

  pub epochs_added : (order : List ℕ) (j : ℕ) → AreLaid top (ps ++ p ∷ []) → AreSorted (epoch_cmp (nodes_of ps)) ps order →
      IsCut (epoch_cmp (nodes_of (ps ++ p ∷ []))) (names_at (ps ++ p ∷ []) order) (epoch_at top (ps ++ p ∷ []) (length (ps ++ p ∷ []))) j → AreSorted (epoch_cmp (nodes_of (ps ++ p ∷ []))) (ps ++ p ∷ []) (insert order j (length ps))
  epochs_added order j l s c =
      let more = ps ++ p ∷ [] in
      let N = node_of p ∷ nodes_of ps in
      let e : nodes_of more ≡ N = nodes_last ps p in
      let d = subst AreNodes e l.nodes in
      let b = subst (AreBelow top) e l.below in
      let old : (f : EpochName) → IsIn f (names_at ps order) → is_kept top (nodes_of ps) f ≡ true = λ f q. or_right (name_eq f top) (has_node (nodes_of ps) f) (in_sorted ps order s.within f q) in
      let named : epoch_at top more (length more) ≡ name_of p.renaming = ap (epoch_at top more) (length-append ps (p ∷ [])) ∙ (next_at top more (length ps) ∙ place_last ps p) in
      let cut = subst (λ (x : EpochName). IsCut (epoch_cmp (nodes_of more)) (names_at ps order) x j) named
      (subst (λ (xs : List EpochName). IsCut (epoch_cmp (nodes_of more)) xs (epoch_at top more (length more)) j) (names_more ps p order s.within) c) in
      sorted_more (epoch_cmp (nodes_of ps)) (epoch_cmp (nodes_of more)) ps p order j s (epochs_order (nodes_of more))
      (λ f g q r. sym (older_cmp top (node_of p) (nodes_of ps) d b f g (old f q) (old g r)) ∙ ap (λ (ns : List Node). epoch_cmp ns f g) (sym e))
      cut
      (λ f q h. epoch_after top (nodes_of more) l.nodes l.below f (name_of p.renaming)
      (ap (λ (ns : List Node). is_kept top ns f) e ∙ kept_more top (node_of p) (nodes_of ps) f (old f q))
      (ap (λ (ns : List Node). is_kept top ns (name_of p.renaming)) e ∙ kept_here top (node_of p) (nodes_of ps))
      (other f (in_sorted ps order s.within f q)) h)
