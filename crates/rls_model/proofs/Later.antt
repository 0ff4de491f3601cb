-- After more entries: what is retained, its topmost epoch, the window and the log.
use Rattle.std.proofs.Common.{◌≡◌, ℕ, Bool, true, false, List, [], ◌∷◌, ◌++◌, refl, sym, ap, ◌∙◌, inl, inr, ⊎_elim, arith}
use Rattle.std.specs.Prelude.{not, cond, filter, slice_index}
use Rattle.rls_ident.specs.declared.epoch_name.EpochName.{EpochName}
use Rattle.rls_ident.specs.declared.epoch_name.EpochName.TheVariants.{Origin}
use Rattle.rls_ident.specs.Lists.{IsIn}
use Rattle.rls_ident.specs.Vectors.{at_most}
use Rattle.rls_ident.proofs.Members.{not_true, each_in, are_in, le_is, le_test}
use Rattle.rls_ident.proofs.Vectors.{index_le}
use Rattle.rls_rename.specs.Tree.{Node, name_of, has_node, is_kept, AreNodes, AreBelow, path}
use Rattle.rls_rename.specs.Connected.{top_path}
use Rattle.rls_rename.proofs.Growth.{kept_other}
use Rattle.rls_rename.proofs.Kept.{kept_more}
use Rattle.rls_rename.proofs.Order.{kept_here}
use Rattle.rls_rename.proofs.SameNodes.{node_named}
use Rattle.rls_rename.proofs.Hull.{top_most, spanned_is, node_at, in_spanned}
use Rattle.rls_rename.proofs.Windows.{Window, both_fronts}
use Rattle.rls_ops.specs.declared.op.Op.{Op}
use Rattle.rls_ops.specs.declared.op.Body.{Body}
use Rattle.rls_ops.specs.declared.op.Body.TheVariants.{Insert, Delete, Rename, Leave}
use Rattle.rls_model.specs.History.{Entry, Accepted, Acknowledged, History, Then, members_of, ops}
use Rattle.rls_model.specs.Stability.{stable, is_covered, unstable}
use Rattle.rls_model.specs.Epochs.{epochs, nodes_after, renaming_of, greatest}
use Rattle.rls_model.specs.Legal.{IsLegal}
use Rattle.rls_model.specs.Retained.{needed, retained}
use Rattle.rls_model.proofs.OneTree.{nodes, parents, author_below}
use Rattle.rls_model.proofs.Named.{grown_kept}
use Rattle.rls_model.proofs.Dropping.{Keeps, AreUnder, opened, IsOpened, fits_retained, needed_retained, retained_kept, retained_step}

-- ---- the topmost retained epoch

-- u is retained, and each retained epoch is u or below it
abbrev pub IsTopmost : History → EpochName → Type 0
IsTopmost H u = IsIn u (retained H) × AreUnder H u

-- its path is the longest common front of those of the needed epochs
pub topmost_path : (H : History) → IsLegal H → (u : EpochName) → IsTopmost H u → path (epochs H) u ≡ top_path (epochs H) (greatest H) (needed H)
unfolding retained
topmost_path H l u h =
    both_fronts (path (epochs H) u) (top_path (epochs H) (greatest H) (needed H)) (top_most (epochs H) (greatest H) (needed H) (path (epochs H) u) (λ g p. h.1 g (needed_retained H l g p)))
    (spanned_is (epochs H) (nodes H l) (greatest H) (needed H) u (in_spanned Origin (epochs H) (greatest H) (needed H) u h.0).1).0

-- ---- the window

-- the nodes after one more entry
abbrev pub added : List Node → Entry → List Node
added A (Accepted o) = nodes_after A o o.body
added A (Acknowledged a v) = A

more_kept : (U : EpochName) (A : List Node) (e : Entry) (f : EpochName) → is_kept U A f ≡ true → is_kept U (added A e) f ≡ true
more_kept U A (Acknowledged a v) f k = k
more_kept U A (Accepted o) f k = go o.body
  where
    go : (b : Body) → is_kept U (nodes_after A o b) f ≡ true
    go (Insert first text) = k
    go (Delete targets) = k
    go (Rename xs) = kept_more U (record { parent = o.epoch; renaming = renaming_of o xs }) A f k
    go Leave = k

opened_kept : (U : EpochName) (A : List Node) (e : Entry) (f : EpochName) → IsOpened e f → is_kept U (added A e) f ≡ true
opened_kept U A (Acknowledged a v) f h = absurd h
opened_kept U A (Accepted o) f h = go o.body h
  where
    go : (b : Body) → opened o b f → is_kept U (nodes_after A o b) f ≡ true
    go (Insert first text) q = absurd q
    go (Delete targets) q = absurd q
    go (Rename xs) q = let node : Node = record { parent = o.epoch; renaming = renaming_of o xs } in ap (is_kept U (node ∷ A)) q ∙ kept_here U node A
    go Leave q = absurd q

added_window : (G : History) (o : Op) (U : EpochName) (A : List Node) → Window U A Origin (epochs G) → is_kept U A o.epoch ≡ true → (b : Body) → AreNodes (nodes_after (epochs G) o b) → AreBelow Origin (nodes_after (epochs G) o b) → is_kept Origin (nodes_after (epochs G) o b) U ≡ true →
    Window U (nodes_after A o b) Origin (nodes_after (epochs G) o b)
added_window G o U A w k (Insert first text) n m h = w
added_window G o U A w k (Delete targets) n m h = w
added_window G o U A w k Leave n m h = w
added_window G o U A w k (Rename xs) n m h =
    let node : Node = record { parent = o.epoch; renaming = renaming_of o xs } in
    record {
      nodes = (
        n.0,
        not_true (has_node A (name_of node.renaming)) (λ q. let r = node_at A (name_of node.renaming) q in
            let x = ap (has_node (epochs G)) (sym r.2) ∙ node_named r.0 (epochs G) (each_in r.0 A (epochs G) w.each r.1) in
            let y = n.1 in
            absurd (cc)),
        w.nodes,
      );
      below = (k, kept_other Origin node (epochs G) U n m w.first, w.below);
      whole = n;
      tree = m;
      each = (inl refl, are_in A (node ∷ epochs G) (λ z p. inr (each_in z A (epochs G) w.each p)));
      first = h;
    }

-- with the node of a rename added, a window that keeps what is retained is one for the greater history
pub window_step : (G : History) (e : Entry) → IsLegal (Then G e) → (U : EpochName) (A : List Node) → Keeps G U A → Keeps (Then G e) U (added A e)
window_step G (Acknowledged a v) l U A k =
    record { window = k.window; keeps = λ f p. ⊎_elim (λ q. k.keeps f q) (λ q. absurd q) (retained_step G (Acknowledged a v) l f p) }
window_step G (Accepted o) l U A k =
    let e = Accepted o in
    let h = k.keeps o.epoch (fits_retained G o l.0 (author_below (members_of G) o l.2.shape) l.2.fits) in
    record {
      window = added_window G o U A k.window h o.body (nodes (Then G e) l) (parents (Then G e) l) (grown_kept G e U k.window.first);
      keeps = λ f p. ⊎_elim (λ q. more_kept U A e f (k.keeps f q)) (λ q. opened_kept U A e f q) (retained_step G e l f p);
    }

-- all epochs are such a window at first
pub whole_keeps : (H : History) → IsLegal H → Keeps H Origin (epochs H)
whole_keeps H l = record {
  window = record { nodes = nodes H l; below = parents H l; whole = nodes H l; tree = parents H l; each = are_in (epochs H) (epochs H) (λ n p. p); first = refl };
  keeps = retained_kept H;
}

-- ---- the log

-- the operations that a vector doesn't cover, in order
abbrev pub uncovered : List ℕ → List Op → List Op
uncovered v os = filter (λ o. not (is_covered v o)) os

covered_more : (v w : List ℕ) (o : Op) → at_most v w ≡ true → is_covered v o ≡ true → is_covered w o ≡ true
covered_more v w o h k =
    let a = le_is o.seq (slice_index v o.author) k in
    let b = index_le v w o.author h in
    le_test o.seq (slice_index w o.author) (omega arith)

-- of those that a vector leaves, a greater vector leaves what it leaves of all
pub uncovered_again : (v w : List ℕ) (os : List Op) → at_most v w ≡ true → uncovered w (uncovered v os) ≡ uncovered w os
uncovered_again v w [] h = refl
uncovered_again v w (o ∷ os) h = go (is_covered v o) refl (is_covered w o) refl (uncovered_again v w os h)
  where
    go : (b : Bool) → is_covered v o ≡ b → (c : Bool) → is_covered w o ≡ c → uncovered w (uncovered v os) ≡ uncovered w os →
        uncovered w (cond (not b) (o ∷ uncovered v os) (uncovered v os)) ≡ cond (not c) (o ∷ uncovered w os) (uncovered w os)
    go true e true f ih = ih
    go true e false f ih = let x = covered_more v w o h e in absurd (cc)
    go false e true f ih = ap (λ d. cond (not d) (o ∷ uncovered w (uncovered v os)) (uncovered w (uncovered v os))) f ∙ ih
    go false e false f ih = ap (λ d. cond (not d) (o ∷ uncovered w (uncovered v os)) (uncovered w (uncovered v os))) f ∙ ap (λ ps. o ∷ ps) ih

-- a log that leaves out at most stable operations has the unstable ones
pub log_unstable : (H : History) (v : List ℕ) (log : List Op) → at_most v (stable H) ≡ true → log ≡ uncovered v (ops H) → uncovered (stable H) log ≡ unstable H
unfolding unstable
log_unstable H v log h e = ap (uncovered (stable H)) e ∙ uncovered_again v (stable H) (ops H) h

-- a new operation goes to its end
pub log_step : (v : List ℕ) (os : List Op) (o : Op) → is_covered v o ≡ false → uncovered v (os ++ (o ∷ [])) ≡ uncovered v os ++ (o ∷ [])
log_step v [] o h = ap (λ b. cond (not b) (o ∷ []) []) h
log_step v (p ∷ os) o h = go (is_covered v p) (log_step v os o h)
  where
    go : (b : Bool) → uncovered v (os ++ (o ∷ [])) ≡ uncovered v os ++ (o ∷ []) → cond (not b) (p ∷ uncovered v (os ++ (o ∷ []))) (uncovered v (os ++ (o ∷ []))) ≡ cond (not b) (p ∷ uncovered v os) (uncovered v os) ++ (o ∷ [])
    go true ih = ih
    go false ih = ap (λ ps. p ∷ ps) ih
