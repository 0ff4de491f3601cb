-- A replica stays sane where it drops what is stable.
use Rattle.std.specs.Prelude.{length, sum, ◌*◌, ◌+◌, ◌^◌, ◌≤◌}
use Rattle.std.proofs.Common.{arith, ◌≡◌, ℕ, not, true, List, [], ◌∷◌, refl, sym, ap, ◌∙◌, subst, inl, inr, ⊎_elim}
use Rattle.std.specs.declared.cmp.Ordering.TheVariants.{Less}
use Rattle.std.specs.Cmp.Lexicographic.{slice_cmp}
use Rattle.std.specs.Ordering.{is_lt}
use Rattle.rls_ident.specs.declared.limits.TheConstants.{IDENTIFIERS}
use Rattle.rls_ident.specs.declared.epoch_name.EpochName.{EpochName}
use Rattle.rls_ident.specs.EpochNames.{is_within}
use Rattle.rls_ident.specs.Lists.{IsIn}
use Rattle.rls_ident.proofs.Members.{not_true, in_left, in_right, in_split, in_filter, filter_in, in_map, map_in, less_is}
use Rattle.rls_ident.proofs.Vectors.{at_most_refl}
use Rattle.rls_rename.specs.Renaming.{Renaming}
use Rattle.rls_rename.specs.Tree.{Node, Epochs, AreNodes, AreBelow, is_kept, names, renaming_cmp, path, greatest, greatest_within, translate, epoch_cmp}
use Rattle.rls_rename.specs.Keeping.{part, is_below, reached, kept_part}
use Rattle.rls_rename.proofs.Hull.{kept_in, in_kept, needed_spanned, path_same}
use Rattle.rls_rename.proofs.Kept.{greatest_kept, greatest_within_kept, top_kept}
use Rattle.rls_rename.proofs.Order.{within_allowed, within_top, longer_less, less_self}
use Rattle.rls_rename.proofs.SameNodes.{path_top}
use Rattle.rls_rename.proofs.Smallest.{part_is}
use Rattle.rls_rename.proofs.Windows.{Window, kept_window, translate_window, greatest_window, keep_window, keep_kept}
use Rattle.rls_ops.specs.declared.op.Op.{Op}
use Rattle.rls_ops.specs.Rows.{is_covered}
use Rattle.rls_seen.specs.Seen.{Seen, vector, members, stable_over, unstable_over, greatest_over}
use Rattle.rls_seen.specs.Kept.{marked_over, needed_over, dropped, kept_former}
use Rattle.rls_seen.proofs.Sizes.{sum_filter}
use Rattle.rls_seen.specs.Sane.{IsSane, IsUsed}
use Rattle.rls_seen.proofs.Logs.{follow_length, follow_dropped}
use Rattle.rls_seen.proofs.Sending.{length-stable}
use Rattle.rls_seen.proofs.StableRows.{stable_mine}

-- ---- the greatest stable epoch

longest_none : (ns : List Node) (top e : EpochName) → path ns top ≡ [] → (epoch_cmp ns top e ≡ Less → ⊥) → path ns e ≡ []
longest_none ns top e p n = go (path ns e) refl
  where
    go : (q : List Renaming) → path ns e ≡ q → q ≡ []
    go [] f = refl
    go (R ∷ q) f = absurd (n (ap (λ x. slice_cmp renaming_cmp x (path ns e)) p ∙ (ap (slice_cmp renaming_cmp []) f ∙ longer_less [] R q)))

-- where some kept epoch is within the vector, the greatest one is
pub within_is_within : (E : Epochs) (v : List ℕ) → AreNodes E.nodes → AreBelow E.top E.nodes → (e : EpochName) → is_kept E.top E.nodes e ≡ true → is_within e v ≡ true → is_within (greatest_within E.top E.nodes v) v ≡ true
within_is_within E v n b e k w =
    let ns = E.nodes in
    let top = E.top in
    let m = greatest_within top ns v in
    ⊎_elim
    (λ q. let less : epoch_cmp ns top e ≡ Less → ⊥ = λ l. within_top top ns v e k (inr w) (subst (λ x. epoch_cmp ns x e ≡ Less) (sym q) l) in
    let p = path_top top ns b in
    let r = longest_none ns top e p less in
    let s : e ≡ top = path_same top ns n b e top k (top_kept top ns) (r ∙ sym p) in
    subst (λ x. is_within x v ≡ true) (s ∙ sym q) w)
    (λ q. q)
    (within_allowed top ns v)

-- ---- what must stay

pub greatest_reached : (E : Epochs) (v : List ℕ) → IsIn (greatest_within E.top E.nodes v) (reached E v)
greatest_reached E v =
    let m = greatest_within E.top E.nodes v in
    filter_in (λ e. not (is_lt (epoch_cmp E.nodes e m))) m (E.top ∷ names E.nodes) (kept_in E.top E.nodes m (greatest_within_kept E.top E.nodes v))
    (ap not (not_true (is_lt (epoch_cmp E.nodes m m)) (λ h. less_self E.nodes m (less_is (epoch_cmp E.nodes m m) h))))

pub needed_kept : (s : Seen) → IsSane s → (g : EpochName) → IsIn g (greatest_over s ∷ needed_over s) → is_kept s.epochs.top s.epochs.nodes g ≡ true
needed_kept s sane g (inl e) = subst (λ x. is_kept s.epochs.top s.epochs.nodes x ≡ true) e (greatest_kept s.epochs.top s.epochs.nodes)
needed_kept s sane g (inr p) =
    let E = s.epochs in
    ⊎_elim
    (λ q. in_kept E.top E.nodes g (in_filter (λ e. not (is_lt (epoch_cmp E.nodes e (greatest_within E.top E.nodes (stable_over s))))) g (E.top ∷ names E.nodes) q).0)
    (λ q. let r = in_map (λ (o : Op). o.epoch) g (unstable_over s) q in subst (λ x. is_kept E.top E.nodes x ≡ true) r.2 (sane.unstable r.0 r.1))
    (in_split g (reached E (stable_over s)) (marked_over s) p)

-- ---- the smaller window

-- the window that is left: a part of the epochs with all that must stay
pub record IsLeft (s : Seen) (E : Epochs) : Type 0 where
  pub window : Window E.top E.nodes s.epochs.top s.epochs.nodes
  pub fewer : (n : Node) → IsIn n E.nodes → IsIn n s.epochs.nodes
  pub needed : (g : EpochName) → IsIn g (greatest_over s ∷ needed_over s) → is_kept E.top E.nodes g ≡ true

pub part_left : (s : Seen) → IsSane s → IsLeft s (kept_part s.epochs (stable_over s) (marked_over s))
part_left s sane =
    let E = s.epochs in
    let g = greatest_over s in
    let es = needed_over s in
    let n = sane.epochs.nodes in
    let b = sane.epochs.below in
    let t = part_is E (n, b) g es (needed_kept s sane) in
    subst (IsLeft s) t.3 (record {
      window = keep_window E.top E.nodes n b g es t.0 t.1 t.2;
      fewer = λ m p. (in_filter (is_below E.nodes g es) m E.nodes p).0;
      needed = λ f p. keep_kept E.top E.nodes n b g es t.0 t.1 t.2 f (needed_kept s sane f p) (needed_spanned E.nodes n g es f p);
    })

-- the greatest epoch is the same
pub greatest_left : (s : Seen) → IsSane s → greatest_over (dropped s) ≡ greatest_over s
unfolding dropped
greatest_left s sane =
    let w = part_left s sane in
    greatest_window w.window (w.needed (greatest_over s) (inl refl))

-- ---- all

former_less : (s : Seen) → IsSane s → kept_former (dropped s) ≤ 2 ^ 54 + IDENTIFIERS * sum (vector s)
unfolding dropped part
former_less s sane =
    let h = sane.former in
    let l = sum_filter (λ (n : Node). length n.renaming.former) (is_below s.epochs.nodes (greatest_over s) (needed_over s)) s.epochs.nodes in
    omega arith

pub dropped_sane : (s : Seen) → IsSane s → IsSane (dropped s)
unfolding dropped
dropped_sane s sane =
    let st = stable_over s in
    let E = kept_part s.epochs st (marked_over s) in
    let w = part_left s sane in
    let m = greatest_within s.epochs.top s.epochs.nodes st in
    let g = greatest_over s in
    let len = length-stable s.acks sane.rows in
    let from = follow_length (members s) sane.log.0 s.log (vector s) sane.log.1.follow in
    let same : greatest E.top E.nodes ≡ g = greatest_window w.window (w.needed g (inl refl)) in
    record {
      group = sane.group;
      few = sane.few;
      small = sane.small;
      rows = sane.rows;
      own = sane.own;
      stems = sane.stems;
      epochs = record {
        nodes = w.window.nodes;
        below = w.window.below;
        counted = λ e k. sane.epochs.counted e (kept_window w.window e k);
        few = λ n p. sane.epochs.few n (w.fewer n p);
        covered = λ n p. sane.epochs.covered n (w.fewer n p);
      };
      within = (
        m,
        w.needed m (inr (in_left m (reached s.epochs st) (marked_over s) (greatest_reached s.epochs st))),
        within_is_within s.epochs st sane.epochs.nodes sane.epochs.below sane.within.0 sane.within.1 sane.within.2,
      );
      idents = sane.idents;
      used = λ x p f k.
          subst (IsUsed s.stems)
          (sym (ap (λ h. translate E.nodes h f x) same ∙ translate_window w.window g f x (w.needed g (inl refl)) k))
          (sane.used x p f (kept_window w.window f k));
      waiting = sane.waiting;
      log = (
        st,
        record {
          stable = at_most_refl st;
          follow = follow_dropped (members s) st sane.log.0 s.log (vector s) (len ∙ sym from) len sane.log.1.stable (stable_mine s.acks) sane.log.1.follow;
        },
      );
      unstable = λ o p. let q = (in_filter (λ x. not (is_covered st x)) o (unstable_over s) p).0 in
          w.needed o.epoch (inr (in_right o.epoch (reached s.epochs st) (marked_over s) (map_in (λ (x : Op). x.epoch) o (unstable_over s) q)));
      leaves = λ o p l. let r = sane.leaves o (in_filter (λ x. not (is_covered st x)) o s.log p).0 l in record { left = r.left; last = r.last };
      total = sane.total;
      former = former_less s sane;
    }
