-- The replica with the parts of a history, and of what waits, stands for them.
use Rattle.std.proofs.Common.{◌≡◌, ℕ, zero, suc, ◌+◌, ◌<◌, ◌==◌, ◌++◌, Bool, true, false, List, [], ◌∷◌, length, map, get_or, replicate, refl, sym, ap, ◌∙◌, subst, arith, inl, inr, Option, Some, None, if◌then◌else◌}
use Rattle.std.proofs.lemmas.List.Quantifiers.{position-Some}
use Rattle.rls_ident.specs.declared.tuple.Tuple.{Tuple}
use Rattle.rls_ident.specs.declared.epoch_name.EpochName.{EpochName}
use Rattle.rls_ident.specs.declared.epoch_name.EpochName.TheVariants.{Origin}
use Rattle.rls_ident.specs.EpochNames.{name_eq}
use Rattle.rls_ident.specs.Lists.{IsIn}
use Rattle.rls_ident.proofs.Members.{bool_cases, are_in, in_map, eq_not, some_is}
use Rattle.rls_ident.proofs.Named.{name_eq_is}
use Rattle.rls_ident.proofs.Vectors.{at_most_refl}
use Rattle.rls_rename.specs.Renaming.{Renaming}
use Rattle.rls_rename.specs.Tree.{Node, name_of, is_of}
use Rattle.rls_rename.proofs.Former.{former_in}
use Rattle.rls_ops.specs.Rows.{AreRows, HaveLength, row_of, left}
use Rattle.rls_ops.proofs.KeptRows.{lengths_append}
use Rattle.rls_model.specs.declared.parts.EpochPart.{EpochPart}
use Rattle.rls_model.specs.declared.parts.Parts.{Parts}
use Rattle.rls_model.specs.Document.{export}
use Rattle.rls_model.specs.Epochs.{epochs, greatest}
use Rattle.rls_model.specs.History.{History, me_of, members_of, count, has_left, acknowledged, row}
use Rattle.rls_model.specs.Laws.{KeepsRetained}
use Rattle.rls_model.specs.Legal.{IsLegal, AreWaiting, IsSound}
use Rattle.rls_model.specs.Parts.{other_rows, left_below, node_of, top_part, epoch_part, epoch_parts, parts}
use Rattle.rls_model.specs.Receiving.{State}
use Rattle.rls_model.specs.Retained.{retained}
use Rattle.rls_model.specs.Stability.{stable, unstable}
use Rattle.rls_model.proofs.Made.{foot}
use Rattle.rls_model.proofs.Dropping.{greatest_retained, retained_kept}
use Rattle.rls_model.proofs.OneTree as one_tree
use Rattle.rls_model.proofs.Stable.{length-count, length-acknowledged}
use Rattle.rls_ops.specs.declared.op.Op.{Op}
use Rattle.rls_seen.specs.Sane.{AreHeld}
use Rattle.rls_seen.specs.Stands.{StandsFor}
use Rattle.rls_parts.specs.Given.{AreRanged}
use Rattle.rls_parts.specs.PartsLaws.{StandsAgain, PartsStand}
use Rattle.rls_parts.proofs.RestoredLog.{held_go}
use Rattle.rls_parts.specs.Reading.{top_name, nodes_of, epochs_of, names_of, has_member}
use Rattle.rls_parts.specs.Restored.{with_own, acks_of, seen_of}
use Rattle.rls_parts.specs.Rules.{epoch_fault, broken}
use Rattle.rls_parts.proofs.EpochLists.{IsNodeOf, IsBuilt, name_at, built, are_nodes}
use Rattle.rls_parts.proofs.LeftMarks.{marked_below, marked_at, mark_at}
use Rattle.rls_parts.proofs.OwnRows.{rows_below, others_below, others_are, own_other, row_below, length-without_at, length-rows_below}
use Rattle.rls_parts.proofs.Passing.{passes}
use Rattle.rls_parts.proofs.RestoredRows.{rows_fit, if_other}
use Rattle.rls_parts.proofs.RestoredText.{entries_again}

-- ---- rows and who has left

rows_are : (H : History) (n : ℕ) → other_rows H n ≡ others_below (row H) (me_of H) n
rows_are H zero = refl
rows_are H (suc n) = ap (λ rs. rs ++ (if n == me_of H then [] else row H n ∷ [])) (rows_are H n)

left_are : (H : History) (n : ℕ) → left_below H n ≡ marked_below (has_left H) n
left_are H zero = refl
left_are H (suc n) = ap (λ ms. ms ++ (if has_left H n then n ∷ [] else [])) (left_are H n)

length-row : (H : History) → IsLegal H → (a : ℕ) → length (row H a) ≡ members_of H
length-row H l a = go (a == me_of H)
  where
    go : (b : Bool) → length (if b then count H else acknowledged H a) ≡ members_of H
    go true = length-count H
    go false = length-acknowledged H l a

rows_lengths : (H : History) → IsLegal H → (n : ℕ) → HaveLength (members_of H) (other_rows H n)
rows_lengths H l zero = tt
rows_lengths H l (suc n) = lengths_append (members_of H) (other_rows H n) (if n == me_of H then [] else row H n ∷ []) (rows_lengths H l n) (go (n == me_of H))
  where
    go : (b : Bool) → HaveLength (members_of H) (if b then [] else row H n ∷ [])
    go true = tt
    go false = (length-row H l n, tt)

length-others : (H : History) → me_of H < members_of H → length (other_rows H (members_of H)) + 1 ≡ members_of H
length-others H m =
    let n = members_of H in
    let e = ap length (rows_are H n ∙ others_are (row H) (me_of H) n) in
    let k = length-rows_below (row H) n in
    let d : me_of H < length (rows_below (row H) n) = omega arith in
    let c = length-without_at (me_of H) (rows_below (row H) n) d in
    omega arith

rows_again : (t : State) (a : ℕ) → a < members_of t.history → row_of (acks_of (parts t)) a ≡ row t.history a
unfolding parts
rows_again t a l =
    let H = t.history in
    let me = me_of H in
    let n = members_of H in
    let z : List ℕ = replicate n 0 in
    bool_cases (a == me)
    (λ e. ap (λ b. if b then count H else get_or (with_own me z (other_rows H n)) a []) e ∙ sym (ap (λ b. if b then count H else acknowledged H a) e))
    (λ e. if_other (a == me) (count H) (get_or (with_own me z (other_rows H n)) a []) e
    ∙ (ap (λ rs. get_or (with_own me z rs) a []) (rows_are H n ∙ others_are (row H) me n)
    ∙ (own_other me z (rows_below (row H) n) a (eq_not a me e) ∙ row_below (row H) n a l)))

left_again : (t : State) (a : ℕ) → a < members_of t.history → left (acks_of (parts t)) a ≡ has_left t.history a
unfolding parts
left_again t a l =
    let H = t.history in
    let n = members_of H in
    mark_at (left_below H n) n a l ∙ (ap (λ ms. has_member ms a) (left_are H n) ∙ marked_at (has_left H) n a l)

places_again : (t : State) → IsLegal t.history → me_of t.history < members_of t.history → AreRows (acks_of (parts t))
unfolding parts
places_again t l m = rows_fit (parts t) m (length-count t.history) (length-others t.history m) (rows_lengths t.history l (members_of t.history))

-- ---- epochs

pub part_name : (xs : List EpochName) (e : EpochName) (o : Option Node) → (epoch_part xs e o).name ≡ e
part_name xs e None = refl
part_name xs e (Some n) = refl

pub part_names : (ns : List Node) (xs es : List EpochName) → names_of (map (λ e. epoch_part xs e (node_of ns e)) es) ≡ es
part_names ns xs [] = refl
part_names ns xs (e ∷ es) = ap (λ x. x ∷ names_of (map (λ f. epoch_part xs f (node_of ns f)) es)) (part_name xs e (node_of ns e)) ∙ ap (λ fs. e ∷ fs) (part_names ns xs es)

names_again : (ns : List Node) (es : List EpochName) → names_of (epoch_parts ns es) ≡ es
names_again ns [] = refl
names_again ns (u ∷ es) = ap (λ fs. u ∷ fs) (part_names ns (u ∷ es) es)

node_is : (ns : List Node) (e : EpochName) (m : Node) → node_of ns e ≡ Some m → IsIn m ns × (name_of m.renaming ≡ e)
node_is [] e m h = absurd (cc)
node_is (k ∷ ns) e m h =
    bool_cases (is_of k e)
    (λ q. let f : k ≡ m = some_is k m (sym (ap (λ b. if b then Some k else node_of ns e) q) ∙ h) in (inl f, subst (λ (x : Node). name_of x.renaming ≡ e) f (name_eq_is (name_of k.renaming) e q)))
    (λ q. let r = node_is ns e m (sym (ap (λ b. if b then Some k else node_of ns e) q) ∙ h) in (inr r.0, r.1))

abbrev node_with : EpochName → List (List Tuple) → ℕ → ℕ → Node
node_with e former r s = record { parent = e; renaming = record { former = former; replica = r; seq = s } }

same_replica : (R S : Renaming) → name_of R ≡ name_of S → R.replica ≡ S.replica
same_replica R S e = cc

same_seq : (R S : Renaming) → name_of R ≡ name_of S → R.seq ≡ S.seq
same_seq R S e = cc

pub same_node : (n m : Node) → n.parent ≡ m.parent → n.renaming.former ≡ m.renaming.former → name_of n.renaming ≡ name_of m.renaming → n ≡ m
same_node n m a b c =
    ap (λ e. node_with e n.renaming.former n.renaming.replica n.renaming.seq) a
    ∙ (ap (λ f. node_with m.parent f n.renaming.replica n.renaming.seq) b
    ∙ (ap (λ r. node_with m.parent m.renaming.former r n.renaming.seq) (same_replica n.renaming m.renaming c)
    ∙ ap (node_with m.parent m.renaming.former m.renaming.replica) (same_seq n.renaming m.renaming c)))

-- the node of the part of an epoch is the epoch's
node_again : (ns : List Node) (fs : List EpochName) (es : List EpochPart) (f : EpochName) (n : Node) → names_of es ≡ fs → (o : Option Node) → node_of ns f ≡ o → IsNodeOf es (epoch_part fs f o) n → IsIn n ns
node_again ns fs es f n e None k h = absurd (let x = h.parent in cc)
node_again ns fs es f n e (Some m) k h =
    let w = node_is ns f m k in
    let r = position-Some (name_eq m.parent) fs h.place Origin h.parent in
    let a : m.parent ≡ get_or fs h.place Origin = name_eq_is m.parent (get_or fs h.place Origin) r.1 in
    let b : n.parent ≡ get_or fs h.place Origin = h.older ∙ (name_at es h.place ∙ ap (λ xs. get_or xs h.place Origin) e) in
    subst (λ x. IsIn x ns) (sym (same_node n m (b ∙ sym a) h.former (h.named ∙ sym w.1))) w.0

window_at : (H : History) → IsLegal H → (p : Parts) (u : EpochName) (gs : List EpochName) → retained H ≡ u ∷ gs → epoch_fault p [] (epoch_parts (epochs H) (u ∷ gs)) ≡ None
    → KeepsRetained H (record { top = top_name (epoch_parts (epochs H) (u ∷ gs)); nodes = nodes_of (epoch_parts (epochs H) (u ∷ gs)) })
window_at H l p u gs e h =
    let ns = epochs H in
    let fs : List EpochName = u ∷ gs in
    let es : List EpochPart = epoch_parts ns fs in
    let b : IsBuilt p es (top_part u) (map (λ f. epoch_part fs f (node_of ns f)) gs) (nodes_of es) = built p (top_part u) (map (λ f. epoch_part fs f (node_of ns f)) gs) refl h in
    let names : names_of es ≡ fs = names_again ns fs in
    let inside : (n : Node) → IsIn n (nodes_of es) → IsIn n ns = λ n q.
    let r = b.made n q in
    let w = in_map (λ f. epoch_part fs f (node_of ns f)) r.0 gs r.1 in
    node_again ns fs es w.0 n names (node_of ns w.0) refl (subst (λ x. IsNodeOf es x n) (sym w.2) r.2) in (
      (
        (are_nodes (nodes_of es) b.once (λ n q. former_in ns (one_tree.nodes H l) n (inside n q)), b.below),
        are_in (nodes_of es) ns inside,
        retained_kept H u (subst (IsIn u) (sym e) (inl refl)),
      ),
      λ f q. b.named f (subst (IsIn f) (sym names) (subst (IsIn f) e q)),
    )

window_go : (H : History) → IsLegal H → (p : Parts) (fs : List EpochName) → retained H ≡ fs → epoch_fault p [] (epoch_parts (epochs H) fs) ≡ None
    → KeepsRetained H (record { top = top_name (epoch_parts (epochs H) fs); nodes = nodes_of (epoch_parts (epochs H) fs) })
window_go H l p [] e h = absurd (subst (IsIn (greatest H)) e (greatest_retained H l))
window_go H l p (u ∷ gs) e h = window_at H l p u gs e h

epochs_again : (t : State) → IsLegal t.history → broken (parts t) ≡ None → KeepsRetained t.history (epochs_of (parts t))
unfolding parts
epochs_again t l b = window_go t.history l (parts t) (retained t.history) refl (passes (parts t) b).epochs

-- ---- all

stands_by : (t : State) → IsLegal t.history → IsSound t → broken (parts t) ≡ None → StandsFor (seen_of (parts t)) t
unfolding seen_of parts unstable
stands_by t l w b =
    let H = t.history in
    record {
      legal = l;
      sound = w;
      group = refl;
      me = refl;
      vector = refl;
      places = places_again t l (foot H l).0;
      rows = rows_again t;
      left = left_again t;
      stems = refl;
      epochs = epochs_again t l b;
      text = entries_again (export H);
      waiting = refl;
      log = (stable H, record { stable = at_most_refl (stable H); kept = refl });
    }

held_sound : (H : History) (ws : List Op) → AreHeld (members_of H) (count H) ws → AreWaiting H ws
held_sound H [] h = tt
held_sound H (w ∷ ws) h = (h.0, h.2, h.3, h.4, held_sound H ws h.5)

-- what waits among parts that break no rule fits to their history
sound_of : (t : State) → AreRanged (parts t) → broken (parts t) ≡ None → IsSound t
unfolding parts
sound_of t w b = held_sound t.history t.waiting (held_go (parts t) None 0 t.waiting (passes (parts t) b).held w.held)

pub again : StandsAgain
again s t h b = stands_by t h.legal h.sound b

pub stand : PartsStand
stand t l w b = stands_by t l (sound_of t w b) b
