-- Which epochs are retained, and that a window which keeps them answers as the whole does.
use Rattle.std.proofs.Common.{◌≡◌, ℕ, ◌<◌, Bool, true, false, List, [], ◌∷◌, map, refl, sym, ap, ◌∙◌, subst, inl, inr, ◌⊎◌, ⊎_elim, arith}
use Rattle.std.specs.Prelude.{not, ◌||◌, filter, None, slice_index, ◌++◌}
use Rattle.std.specs.declared.cmp.Ordering.TheVariants.{Less}
use Rattle.std.specs.Ordering.{is_lt}
use Rattle.std.specs.Cmp.Lexicographic.{slice_cmp}
use Rattle.rls_ident.specs.declared.epoch_name.EpochName.{EpochName}
use Rattle.rls_ident.specs.declared.epoch_name.EpochName.TheVariants.{Origin, Of}
use Rattle.rls_ident.specs.EpochNames.{name_eq}
use Rattle.rls_ident.specs.Lists.{IsIn}
use Rattle.rls_ident.specs.Vectors.{at_most}
use Rattle.rls_ident.proofs.Members.{bool_cases, not_true, not_is, in_left, in_right, in_split, snoc_split, in_map, map_in, in_filter, filter_in, le_is, le_test, less_is}
use Rattle.rls_ident.proofs.Vectors.{at_most_refl, at_most_trans, index_le}
use Rattle.rls_ident.proofs.Named.{within_more}
use Rattle.rls_rename.specs.Tree.{Node, name_of, is_of, has_node, is_kept, AreNodes, AreBelow, path, renaming_cmp, epoch_cmp, names}
use Rattle.rls_rename.specs.Tree as tree
use Rattle.rls_rename.specs.Connected.{top_path, spanned}
use Rattle.rls_rename.specs.Keeping.{reached, kept_nodes}
use Rattle.rls_rename.proofs.Growth.{path_other, path_child, kept_other}
use Rattle.rls_rename.proofs.Kept.{greatest_kept, greatest_within_kept}
use Rattle.rls_rename.proofs.Order.{above_trans, kept_here, IsAllowed, within_allowed, within_top}
use Rattle.rls_rename.proofs.Paths.{name_eq_is, name_eq_refl}
use Rattle.rls_rename.proofs.SameNodes.{greatest_top, node_named}
use Rattle.rls_rename.proofs.Hull.{IsFront, front_trans, needed_spanned, spanned_top, top_spanned, IsPart, spanned_least, kept_in, in_kept, in_spanned, spanned_in, spanned_part}
use Rattle.rls_rename.proofs.Windows.{Window, AllKept, kept_window, cmp_window, greatest_window, within_window, window_trans, keep_window, keep_kept}
use Rattle.rls_rename.proofs.Ordered.{spanned_same, spanned_members}
use Rattle.rls_ops.specs.declared.op.Op.{Op}
use Rattle.rls_ops.specs.declared.op.Body.{Body}
use Rattle.rls_ops.specs.declared.op.Body.TheVariants.{Insert, Delete, Rename, Leave}
use Rattle.rls_model.specs.Answers.{Left, Backward}
use Rattle.rls_model.specs.History.{Entry, Accepted, Acknowledged, History, Then, members_of, ops, has_left, row}
use Rattle.rls_model.specs.Stability.{stable, is_covered, unstable}
use Rattle.rls_model.specs.Epochs.{epochs, nodes_after, renaming_of, greatest, greatest_within}
use Rattle.rls_model.specs.Fitting.{refusal}
use Rattle.rls_model.specs.Legal.{IsLegal}
use Rattle.rls_model.specs.Retained.{needed, retained}
use Rattle.rls_model.proofs.Stable.{stable_row, stable_grows}
use Rattle.rls_model.proofs.OneTree.{nodes, parents, none_else, not_not, author_below, fits_epoch}
use Rattle.rls_model.proofs.SameOps.{op_kept, top_kept}
use Rattle.rls_model.proofs.Named.{grown_kept}

-- ---- vectors

allowed_more : (top : EpochName) (v w : List ℕ) (e : EpochName) → at_most v w ≡ true → IsAllowed top v e → IsAllowed top w e
allowed_more top v w e h a = ⊎_elim (λ q. inl q) (λ q. inr (within_more e v w h q)) a

-- the greater the vector, the greater the greatest epoch within it
pub within_grows : (H : History) (v w : List ℕ) → at_most v w ≡ true → epoch_cmp (epochs H) (greatest_within H w) (greatest_within H v) ≡ Less → ⊥
unfolding greatest_within
within_grows H v w h =
    within_top Origin (epochs H) w (tree.greatest_within Origin (epochs H) v) (greatest_within_kept Origin (epochs H) v) (allowed_more Origin v w (tree.greatest_within Origin (epochs H) v) h (within_allowed Origin (epochs H) v))

-- ---- what is retained

-- the greatest stable epoch
abbrev pub threshold : History → EpochName
threshold H = greatest_within H (stable H)

pub within_kept : (H : History) (v : List ℕ) → is_kept Origin (epochs H) (greatest_within H v) ≡ true
unfolding greatest_within
within_kept H v = greatest_within_kept Origin (epochs H) v

-- the epoch is at least that
abbrev pub IsReached : History → EpochName → Type 0
IsReached H f = (is_kept Origin (epochs H) f ≡ true) × (epoch_cmp (epochs H) f (threshold H) ≡ Less → ⊥)

greatest_reached : (H : History) → IsReached H (greatest H)
unfolding greatest
greatest_reached H = (greatest_kept Origin (epochs H), greatest_top Origin (epochs H) (threshold H) (within_kept H (stable H)))

reached_needed : (H : History) (f : EpochName) → IsReached H f → IsIn f (needed H)
reached_needed H f r =
    let t : EpochName → Bool = λ e. not (is_lt (epoch_cmp (epochs H) e (threshold H))) in
    in_left f (filter t (Origin ∷ names (epochs H))) (map (λ o. o.epoch) (unstable H))
    (filter_in t f (Origin ∷ names (epochs H)) (kept_in Origin (epochs H) f r.0) (ap not (not_true (is_lt (epoch_cmp (epochs H) f (threshold H))) (λ h. r.1 (less_is (epoch_cmp (epochs H) f (threshold H)) h)))))

unstable_needed : (H : History) (o : Op) → IsIn o (unstable H) → IsIn o.epoch (needed H)
unstable_needed H o p = in_right o.epoch (filter (λ e. not (is_lt (epoch_cmp (epochs H) e (threshold H)))) (Origin ∷ names (epochs H))) (map (λ o. o.epoch) (unstable H)) (map_in (λ o. o.epoch) o (unstable H) p)

-- the needed epochs are those that are reached and those of unstable operations
needed_cases : (H : History) (g : EpochName) → IsIn g (greatest H ∷ needed H) → IsReached H g ⊎ ((o : Op) × IsIn o (unstable H) × (o.epoch ≡ g))
needed_cases H g (inl e) = inl (subst (IsReached H) e (greatest_reached H))
needed_cases H g (inr p) =
    let t : EpochName → Bool = λ e. not (is_lt (epoch_cmp (epochs H) e (threshold H))) in
    ⊎_elim
    (λ q. let r = in_filter t g (Origin ∷ names (epochs H)) q in
    inl (in_kept Origin (epochs H) g r.0, λ h. let x = ap is_lt h in let y = not_is (is_lt (epoch_cmp (epochs H) g (threshold H))) r.1 in absurd (cc)))
    (λ q. inr (in_map (λ o. o.epoch) g (unstable H) q))
    (in_split g (filter t (Origin ∷ names (epochs H))) (map (λ o. o.epoch) (unstable H)) p)

unstable_op : (H : History) (o : Op) → IsIn o (unstable H) → IsIn o (ops H) × (is_covered (stable H) o ≡ false)
unfolding unstable
unstable_op H o p = let r = in_filter (λ o. not (is_covered (stable H) o)) o (ops H) p in (r.0, not_is (is_covered (stable H) o) r.1)

op_unstable : (H : History) (o : Op) → IsIn o (ops H) → is_covered (stable H) o ≡ false → IsIn o (unstable H)
unfolding unstable
op_unstable H o p h = filter_in (λ o. not (is_covered (stable H) o)) o (ops H) p (ap not h)

pub needed_kept : (H : History) → IsLegal H → AllKept Origin (epochs H) (greatest H ∷ needed H)
needed_kept H l g p = ⊎_elim (λ r. r.0) (λ r. subst (λ e. is_kept Origin (epochs H) e ≡ true) r.2 (op_kept H l r.0 (unstable_op H r.0 r.1).0)) (needed_cases H g p)

pub retained_kept : (H : History) (f : EpochName) → IsIn f (retained H) → is_kept Origin (epochs H) f ≡ true
unfolding retained
retained_kept H f p = (in_spanned Origin (epochs H) (greatest H) (needed H) f p).0

-- the needed epochs are retained
pub needed_retained : (H : History) → IsLegal H → (g : EpochName) → IsIn g (greatest H ∷ needed H) → IsIn g (retained H)
unfolding retained
needed_retained H l g p = spanned_in Origin (epochs H) (greatest H) (needed H) g (needed_kept H l g p) (needed_spanned (epochs H) (nodes H l) (greatest H) (needed H) g p)

pub reached_retained : (H : History) → IsLegal H → (f : EpochName) → IsReached H f → IsIn f (retained H)
reached_retained H l f r = needed_retained H l f (inr (reached_needed H f r))

pub greatest_retained : (H : History) → IsLegal H → IsIn (greatest H) (retained H)
greatest_retained H l = needed_retained H l (greatest H) (inl refl)

pub unstable_retained : (H : History) → IsLegal H → (o : Op) → IsIn o (unstable H) → IsIn o.epoch (retained H)
unstable_retained H l o p = needed_retained H l o.epoch (inr (unstable_needed H o p))

-- the greatest epoch within a vector that is at least the stable one is retained
pub threshold_retained : (H : History) → IsLegal H → (v : List ℕ) → at_most (stable H) v ≡ true → IsIn (greatest_within H v) (retained H)
threshold_retained H l v h = reached_retained H l (greatest_within H v) (within_kept H v, within_grows H (stable H) v h)

-- ---- what an operation that fits asks for

-- its context is at least the stable vector, and its epoch is retained
pub fits_stable : (H : History) (o : Op) → IsLegal H → o.author < members_of H → refusal H o ≡ None → at_most (stable H) o.context ≡ true
unfolding refusal
fits_stable H o l a h =
    let p = none_else (has_left H o.author) (Left _) _ h in
    let q = none_else (not (at_most (row H o.author) o.context)) (Backward (row H o.author)) _ p.1 in
    at_most_trans (stable H) (row H o.author) o.context (stable_row H o.author a p.0) (not_not (at_most (row H o.author) o.context) q.0)

pub fits_retained : (H : History) (o : Op) → IsLegal H → o.author < members_of H → refusal H o ≡ None → IsIn o.epoch (retained H)
fits_retained H o l a h = subst (λ e. IsIn e (retained H)) (sym (fits_epoch H o h)) (threshold_retained H l o.context (fits_stable H o l a h))

-- ---- a window that keeps what is retained

-- the nodes A below U are a window of the epochs and keep the retained ones
pub record Keeps (H : History) (U : EpochName) (A : List Node) : Type 0 where
  pub window : Window U A Origin (epochs H)
  pub keeps : (f : EpochName) → IsIn f (retained H) → is_kept U A f ≡ true

-- it knows the greatest epoch
pub greatest_same : (H : History) (U : EpochName) (A : List Node) → IsLegal H → Keeps H U A → tree.greatest U A ≡ greatest H
unfolding greatest
greatest_same H U A l k = greatest_window k.window (k.keeps (greatest H) (greatest_retained H l))

-- and the greatest within a vector, where that is at least the stable one
pub within_same : (H : History) (U : EpochName) (A : List Node) (v : List ℕ) → IsLegal H → Keeps H U A → at_most (stable H) v ≡ true → tree.greatest_within U A v ≡ greatest_within H v
unfolding greatest_within
within_same H U A v l k h = within_window k.window v (k.keeps (greatest_within H v) (threshold_retained H l v h))

-- ---- computed over the window alone

-- the needed epochs by a window, the stable vector and the unstable operations
abbrev pub needed_over : EpochName → List Node → List ℕ → List Op → List EpochName
needed_over U A v os = reached (record { top = U; nodes = A }) v ++ map (λ o. o.epoch) os

threshold_same : (H : History) (U : EpochName) (A : List Node) → IsLegal H → Keeps H U A → tree.greatest_within U A (stable H) ≡ threshold H
threshold_same H U A l k = within_same H U A (stable H) l k (at_most_refl (stable H))

threshold_kept : (H : History) (U : EpochName) (A : List Node) → IsLegal H → Keeps H U A → is_kept U A (threshold H) ≡ true
threshold_kept H U A l k = k.keeps (threshold H) (threshold_retained H l (stable H) (at_most_refl (stable H)))

reached_same : (H : History) (U : EpochName) (A : List Node) → IsLegal H → Keeps H U A → (e : EpochName) → is_kept U A e ≡ true → epoch_cmp A e (tree.greatest_within U A (stable H)) ≡ epoch_cmp (epochs H) e (threshold H)
reached_same H U A l k e h = ap (epoch_cmp A e) (threshold_same H U A l k) ∙ cmp_window k.window e (threshold H) h (threshold_kept H U A l k)

into_needed : (H : History) (U : EpochName) (A : List Node) → IsLegal H → Keeps H U A → (g : EpochName) → IsIn g (tree.greatest U A ∷ needed_over U A (stable H) (unstable H)) → IsIn g (greatest H ∷ needed H)
into_needed H U A l k g (inl e) = inl (sym (greatest_same H U A l k) ∙ e)
into_needed H U A l k g (inr p) =
    let t : EpochName → Bool = λ e. not (is_lt (epoch_cmp A e (tree.greatest_within U A (stable H)))) in
    ⊎_elim
    (λ q. let r = in_filter t g (U ∷ names A) q in
    let h = in_kept U A g r.0 in
    let n = not_is (is_lt (epoch_cmp A g (tree.greatest_within U A (stable H)))) r.1 in
    inr (reached_needed H g (kept_window k.window g h, λ m. let x = ap is_lt (reached_same H U A l k g h ∙ m) in absurd (cc))))
    (λ q. inr (in_right g (filter (λ e. not (is_lt (epoch_cmp (epochs H) e (threshold H)))) (Origin ∷ names (epochs H))) (map (λ o. o.epoch) (unstable H)) q))
    (in_split g (filter t (U ∷ names A)) (map (λ o. o.epoch) (unstable H)) p)

from_needed : (H : History) (U : EpochName) (A : List Node) → IsLegal H → Keeps H U A → (g : EpochName) → IsIn g (greatest H ∷ needed H) → IsIn g (tree.greatest U A ∷ needed_over U A (stable H) (unstable H))
from_needed H U A l k g p =
    let t : EpochName → Bool = λ e. not (is_lt (epoch_cmp A e (tree.greatest_within U A (stable H)))) in
    let rest = map (λ o. o.epoch) (unstable H) in
    ⊎_elim
    (λ r. let h = k.keeps g (reached_retained H l g r) in
    inr (in_left g (filter t (U ∷ names A)) (map (λ o. o.epoch) (unstable H))
    (filter_in t g (U ∷ names A) (kept_in U A g h)
    (ap not (not_true (is_lt (epoch_cmp A g (tree.greatest_within U A (stable H)))) (λ m. r.1 (sym (reached_same H U A l k g h) ∙ less_is (epoch_cmp A g (tree.greatest_within U A (stable H))) m)))))))
    (λ r. inr (in_right g (filter t (U ∷ names A)) (map (λ o. o.epoch) (unstable H)) (subst (λ e. IsIn e (map (λ (o : Op). o.epoch) (unstable H))) r.2 (map_in (λ (o : Op). o.epoch) r.0 (unstable H) r.1))))
    (needed_cases H g p)

pub over_kept : (H : History) (U : EpochName) (A : List Node) → IsLegal H → Keeps H U A → AllKept U A (tree.greatest U A ∷ needed_over U A (stable H) (unstable H))
over_kept H U A l k g p = k.keeps g (needed_retained H l g (into_needed H U A l k g p))

-- what is retained can be told from the window, the stable vector and the unstable operations
pub retained_same : (H : History) (U : EpochName) (A : List Node) → IsLegal H → Keeps H U A → spanned U A (tree.greatest U A) (needed_over U A (stable H) (unstable H)) ≡ retained H
unfolding retained
retained_same H U A l k =
    let g = tree.greatest U A in
    let es = needed_over U A (stable H) (unstable H) in
    let a = over_kept H U A l k in
    spanned_same k.window g es a
    ∙ spanned_members Origin (epochs H) (nodes H l) (parents H l) g es (greatest H) (needed H) (λ e p. kept_window k.window e (a e p)) (needed_kept H l) (into_needed H U A l k) (from_needed H U A l k)

-- dropping all nodes but the retained ones leaves a window that keeps what is retained, below their topmost epoch
pub drop_keeps_at : (H : History) (U : EpochName) (A : List Node) → IsLegal H → Keeps H U A →
    (u : EpochName) → is_kept U A u ≡ true → path A u ≡ top_path A (tree.greatest U A) (needed_over U A (stable H) (unstable H)) →
    IsIn u (retained H) × Keeps H u (kept_nodes A (tree.greatest U A) (needed_over U A (stable H) (unstable H)))
drop_keeps_at H U A l k u ku e =
    let g = tree.greatest U A in
    let es = needed_over U A (stable H) (unstable H) in
    let d = k.window.nodes in
    let b = k.window.below in
    let same = retained_same H U A l k in (
      subst (IsIn u) same (spanned_in U A g es u ku (top_spanned A d g es u e)),
      record {
        window = window_trans (keep_window U A d b g es u ku e) k.window;
        keeps = λ f p. let r = in_spanned U A g es f (subst (IsIn f) (sym same) p) in keep_kept U A d b g es u ku e f r.0 r.1;
      },
    )

-- ---- one more entry

-- the entry opens this epoch
abbrev pub opened : Op → Body → EpochName → Type 0
opened o (Rename xs) f = f ≡ Of o.author o.seq
opened o _ f = ⊥

abbrev pub IsOpened : Entry → EpochName → Type 0
IsOpened (Accepted o) f = opened o o.body f
IsOpened (Acknowledged a v) f = ⊥

pub grown_path : (G : History) (e : Entry) → IsLegal (Then G e) → (f : EpochName) → is_kept Origin (epochs G) f ≡ true → path (epochs (Then G e)) f ≡ path (epochs G) f
grown_path G (Acknowledged a v) l f k = refl
grown_path G (Accepted o) l f k = go o.body (nodes (Then G (Accepted o)) l) (parents (Then G (Accepted o)) l)
  where
    go : (b : Body) → AreNodes (nodes_after (epochs G) o b) → AreBelow Origin (nodes_after (epochs G) o b) → path (nodes_after (epochs G) o b) f ≡ path (epochs G) f
    go (Insert first text) n m = refl
    go (Delete targets) n m = refl
    go (Rename xs) n m =
        let node : Node = record { parent = o.epoch; renaming = renaming_of o xs } in
        path_other node (epochs G) f (kept_other Origin node (epochs G) f n m k)
    go Leave n m = refl

pub grown_cmp : (G : History) (e : Entry) → IsLegal (Then G e) → (f g : EpochName) → is_kept Origin (epochs G) f ≡ true → is_kept Origin (epochs G) g ≡ true → epoch_cmp (epochs (Then G e)) f g ≡ epoch_cmp (epochs G) f g
grown_cmp G e l f g h k = ap (λ p. slice_cmp renaming_cmp p (path (epochs (Then G e)) g)) (grown_path G e l f h) ∙ ap (λ p. slice_cmp renaming_cmp (path (epochs G) f) p) (grown_path G e l g k)

-- a kept epoch was kept before or is the new one
pub kept_cases : (G : History) (e : Entry) (f : EpochName) → is_kept Origin (epochs (Then G e)) f ≡ true → (is_kept Origin (epochs G) f ≡ true) ⊎ IsOpened e f
kept_cases G (Acknowledged a v) f k = inl k
kept_cases G (Accepted o) f k = go o.body k
  where
    go : (b : Body) → is_kept Origin (nodes_after (epochs G) o b) f ≡ true → (is_kept Origin (epochs G) f ≡ true) ⊎ opened o b f
    go (Insert first text) h = inl h
    go (Delete targets) h = inl h
    go (Rename xs) h =
        let node : Node = record { parent = o.epoch; renaming = renaming_of o xs } in
        bool_cases (is_of node f) (λ q. inr (sym (name_eq_is (name_of node.renaming) f q))) (λ q. inl (sym (ap (λ c. name_eq f Origin || (c || has_node (epochs G) f)) q) ∙ h))
    go Leave h = inl h

-- the parent and the path of a new epoch
opened_path : (G : History) (e : Entry) → IsLegal (Then G e) → (f : EpochName) → IsOpened e f → (p : EpochName) × IsIn p (retained G) × IsFront (path (epochs G) p) (path (epochs (Then G e)) f)
opened_path G (Acknowledged a v) l f h = absurd h
opened_path G (Accepted o) l f h = go o.body h
  where
    go : (b : Body) → opened o b f → (p : EpochName) × IsIn p (retained G) × IsFront (path (epochs G) p) (path (nodes_after (epochs G) o b) f)
    go (Insert first text) q = absurd q
    go (Delete targets) q = absurd q
    go (Rename xs) q =
        let node : Node = record { parent = o.epoch; renaming = renaming_of o xs } in
        (o.epoch, fits_retained G o l.0 (author_below (members_of G) o l.2.shape) l.2.fits, (node.renaming ∷ [], path_child node (epochs G) f (ap (name_eq (name_of node.renaming)) q ∙ name_eq_refl (name_of node.renaming))))
    go Leave q = absurd q

-- a node stood there before, or its parent is retained
node_cases : (G : History) (e : Entry) → IsLegal (Then G e) → (n : Node) → IsIn n (epochs (Then G e)) → (IsIn n (epochs G) × (IsOpened e (name_of n.renaming) → ⊥)) ⊎ IsIn n.parent (retained G)
node_cases G (Acknowledged a v) l n p = inl (p, λ h. h)
node_cases G (Accepted o) l n p = go o.body (nodes (Then G (Accepted o)) l) p
  where
    go : (b : Body) → AreNodes (nodes_after (epochs G) o b) → IsIn n (nodes_after (epochs G) o b) → (IsIn n (epochs G) × (opened o b (name_of n.renaming) → ⊥)) ⊎ IsIn n.parent (retained G)
    go (Insert first text) d q = inl (q, λ h. h)
    go (Delete targets) d q = inl (q, λ h. h)
    go (Rename xs) d (inl q) = inr (subst (λ (m : Node). IsIn m.parent (retained G)) q (fits_retained G o l.0 (author_below (members_of G) o l.2.shape) l.2.fits))
    go (Rename xs) d (inr q) = inl (q, λ h. let x = ap (has_node (epochs G)) (sym h) ∙ node_named n (epochs G) q in let y = d.1 in absurd (cc))
    go Leave d q = inl (q, λ h. h)

-- what an epoch's path is after, in the greater history
front_grows : (G : History) (e : Entry) → IsLegal (Then G e) → (u f : EpochName) → is_kept Origin (epochs G) u ≡ true → is_kept Origin (epochs G) f ≡ true → IsFront (path (epochs G) u) (path (epochs G) f) → IsFront (path (epochs (Then G e)) u) (path (epochs (Then G e)) f)
front_grows G e l u f k h q = subst (λ p. IsFront p (path (epochs (Then G e)) f)) (sym (grown_path G e l u k)) (subst (IsFront (path (epochs G) u)) (sym (grown_path G e l f h)) q)

-- each retained epoch is u or below it
abbrev pub AreUnder : History → EpochName → Type 0
AreUnder H u = (f : EpochName) → IsIn f (retained H) → IsFront (path (epochs H) u) (path (epochs H) f)

-- a retained epoch, or the new one
abbrev pub StillKept : History → Entry → EpochName → Type 0
StillKept G e f = IsIn f (retained G) ⊎ IsOpened e f

pub under_step : (G : History) (e : Entry) → IsLegal (Then G e) → (u : EpochName) → is_kept Origin (epochs G) u ≡ true → AreUnder G u → (f : EpochName) → StillKept G e f → IsFront (path (epochs (Then G e)) u) (path (epochs (Then G e)) f)
under_step G e l u k a f (inl p) = front_grows G e l u f k (retained_kept G f p) (a f p)
under_step G e l u k a f (inr h) =
    let r = opened_path G e l f h in
    subst (λ p. IsFront p (path (epochs (Then G e)) f)) (sym (grown_path G e l u k)) (front_trans (path (epochs G) u) (path (epochs G) r.0) (path (epochs (Then G e)) f) (a r.0 r.1) r.2)

still_kept : (G : History) (e : Entry) → IsLegal (Then G e) → (f : EpochName) → StillKept G e f → is_kept Origin (epochs (Then G e)) f ≡ true
still_kept G e l f (inl p) = grown_kept G e f (retained_kept G f p)
still_kept G (Acknowledged a v) l f (inr h) = absurd h
still_kept G (Accepted o) l f (inr h) = go o.body h
  where
    go : (b : Body) → opened o b f → is_kept Origin (nodes_after (epochs G) o b) f ≡ true
    go (Insert first text) q = absurd q
    go (Delete targets) q = absurd q
    go (Rename xs) q =
        let node : Node = record { parent = o.epoch; renaming = renaming_of o xs } in
        ap (is_kept Origin (node ∷ epochs G)) q ∙ kept_here Origin node (epochs G)
    go Leave q = absurd q

-- these form a connected part
still_part : (G : History) (e : Entry) → IsLegal (Then G e) → IsLegal G → (u : EpochName) → is_kept Origin (epochs G) u ≡ true → path (epochs G) u ≡ top_path (epochs G) (greatest G) (needed G) → IsPart Origin (epochs (Then G e)) u (StillKept G e)
unfolding retained
still_part G e l m u k h =
    let part = spanned_part Origin (epochs G) (nodes G m) (parents G m) (greatest G) (needed G) u k h in
    record {
      kept = still_kept G e l;
      below = under_step G e l u k part.below;
      parents = λ n p c v. ⊎_elim (λ r. ⊎_elim (λ q. inl (part.parents n r.0 q v)) (λ q. absurd (r.1 q)) c) (λ r. inl r) (node_cases G e l n p);
    }

-- an epoch of the greater history that isn't below the old threshold
reached_still : (G : History) (e : Entry) → IsLegal (Then G e) → IsLegal G → (f : EpochName) → is_kept Origin (epochs (Then G e)) f ≡ true → (epoch_cmp (epochs (Then G e)) f (threshold G) ≡ Less → ⊥) → StillKept G e f
reached_still G e l m f k h = ⊎_elim (λ q. inl (reached_retained G m f (q, λ x. h (grown_cmp G e l f (threshold G) q (within_kept G (stable G)) ∙ x)))) (λ q. inr q) (kept_cases G e f k)

-- the threshold doesn't fall
threshold_grows : (G : History) (e : Entry) → IsLegal (Then G e) → epoch_cmp (epochs (Then G e)) (threshold (Then G e)) (threshold G) ≡ Less → ⊥
unfolding greatest_within
threshold_grows G e l =
    within_top Origin (epochs (Then G e)) (stable (Then G e)) (tree.greatest_within Origin (epochs G) (stable G)) (grown_kept G e (tree.greatest_within Origin (epochs G) (stable G)) (greatest_within_kept Origin (epochs G) (stable G)))
    (allowed_more Origin (stable G) (stable (Then G e)) (tree.greatest_within Origin (epochs G) (stable G)) (stable_grows G e l) (within_allowed Origin (epochs G) (stable G)))

covered_grows : (G : History) (e : Entry) → IsLegal (Then G e) → (o : Op) → is_covered (stable (Then G e)) o ≡ false → is_covered (stable G) o ≡ false
covered_grows G e l o h =
    not_true (is_covered (stable G) o)
    (λ q. let a = le_is o.seq (slice_index (stable G) o.author) q in
    let b = index_le (stable G) (stable (Then G e)) o.author (stable_grows G e l) in
    let c = le_test o.seq (slice_index (stable (Then G e)) o.author) (omega arith) in
    absurd (cc))

old_unstable : (G : History) (e : Entry) → IsLegal (Then G e) → (o : Op) → IsIn o (ops G) → is_covered (stable (Then G e)) o ≡ false → IsIn o.epoch (retained G)
old_unstable G (Accepted p) l o q h = unstable_retained G l.0 o (op_unstable G o q (covered_grows G (Accepted p) l o h))
old_unstable G (Acknowledged a v) l o q h = unstable_retained G l.0 o (op_unstable G o q (covered_grows G (Acknowledged a v) l o h))

unstable_still : (G : History) (e : Entry) → IsLegal (Then G e) → (o : Op) → IsIn o (ops (Then G e)) → is_covered (stable (Then G e)) o ≡ false → IsIn o.epoch (retained G)
unstable_still G (Acknowledged a v) l o p h = old_unstable G (Acknowledged a v) l o p h
unstable_still G (Accepted q) l o p h =
    ⊎_elim (λ r. old_unstable G (Accepted q) l o r h) (λ r. subst (λ (w : Op). IsIn w.epoch (retained G)) r (fits_retained G q l.0 (author_below (members_of G) q l.2.shape) l.2.fits)) (snoc_split o q (ops G) p)

needed_still : (G : History) (e : Entry) → IsLegal (Then G e) → IsLegal G → (g : EpochName) → IsIn g (greatest (Then G e) ∷ needed (Then G e)) → StillKept G e g
needed_still G e l m g p =
    let K = Then G e in
    ⊎_elim (λ r. reached_still G e l m g r.0 (above_trans (epochs K) g (threshold K) (threshold G) r.1 (threshold_grows G e l)))
    (λ r. let u = unstable_op K r.0 r.1 in inl (subst (λ f. IsIn f (retained G)) r.2 (unstable_still G e l r.0 u.0 u.1)))
    (needed_cases K g p)

-- what is retained after one more entry was retained before or is the epoch that the entry opens
pub retained_step : (G : History) (e : Entry) → IsLegal (Then G e) → (f : EpochName) → IsIn f (retained (Then G e)) → StillKept G e f
unfolding retained
retained_step G e l f p =
    let K = Then G e in
    let m = l.0 in
    let t = spanned_top Origin (epochs G) (nodes G m) (parents G m) (greatest G) (needed G) (top_kept G) in
    let r = in_spanned Origin (epochs K) (greatest K) (needed K) f p in
    spanned_least Origin (epochs K) (nodes K l) (parents K l) (greatest K) (needed K) t.0 (StillKept G e) (still_part G e l m t.0 t.1 t.2) (needed_still G e l m) f r.0 r.1
