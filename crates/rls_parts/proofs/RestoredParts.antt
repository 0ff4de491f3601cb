-- The replica that has given parts, which break no rule, has exactly these parts.
use Rattle.std.proofs.Common.{◌≡◌, ℕ, zero, suc, ◌+◌, ◌<◌, ◌≤◌, ◌==◌, ◌++◌, nat_lt, true, cond, List, [], ◌∷◌, length, map, get_or, replicate, refl, sym, ap, ◌∙◌, subst, arith, inl, inr, Option, Some, None, if◌then◌else◌}
use Rattle.std.specs.Prelude.{position}
use Rattle.std.proofs.lemmas.List.{length-map}
use Rattle.std.proofs.lemmas.List.Sums.{position_or_len_is}
use Rattle.rls_ident.specs.declared.tuple.Tuple.{Tuple}
use Rattle.rls_ident.specs.declared.epoch_name.EpochName.{EpochName}
use Rattle.rls_ident.specs.declared.epoch_name.EpochName.TheVariants.{Origin}
use Rattle.rls_ident.specs.EpochNames.{name_eq}
use Rattle.rls_ident.specs.Lists.{IsIn}
use Rattle.rls_model.proofs.WindowAnswers.{AreNamedOnce, node_found}
use Rattle.rls_ident.proofs.Members.{AreOnce, and_left, and_right, lt_test, neq_test, not_true}
use Rattle.rls_ident.proofs.Named.{name_eq_is, name_eq_refl}
use Rattle.rls_rename.specs.Connected.{spanned}
use Rattle.rls_rename.specs.Keeping.{reached}
use Rattle.rls_rename.specs.Tree.{Node, name_of, is_of, has_node}
use Rattle.rls_rename.proofs.SameNodes.{node_named}
use Rattle.rls_ops.specs.declared.op.Op.{Op}
use Rattle.rls_ops.specs.Rows.{AcksSeen, row_of, left}
use Rattle.rls_model.specs.declared.parts.EpochPart.{EpochPart}
use Rattle.rls_model.specs.declared.parts.Parts.{Parts}
use Rattle.rls_model.specs.declared.parts.TextRun.{TextRun}
use Rattle.rls_model.specs.Parts.{node_of, top_part, epoch_part, epoch_parts, text_runs}
use Rattle.rls_seen.specs.Kept.{other_rows, left_below, retained_over, parts_over}
use Rattle.rls_seen.specs.Seen.{unstable_over}
use Rattle.rls_parts.specs.Given.{AreEpochParts, AreGiven}
use Rattle.rls_parts.specs.PartsLaws.{PartsBack}
use Rattle.rls_parts.specs.Reading.{has_member, nodes_of, epochs_of, greatest_of_parts, names_of, stable_of_parts}
use Rattle.rls_parts.specs.Restored.{with_own, acks_of, entries_of, seen_of}
use Rattle.rls_parts.specs.Rules.{has_stable, names_eq, retained_of_parts, are_retained}
use Rattle.rls_parts.proofs.EpochLists.{IsNodeOf, IsBuilt, name_at, once_at}
use Rattle.rls_parts.proofs.LeftMarks.{marked_below, marked_same, members_are}
use Rattle.rls_parts.proofs.OwnRows.{others_below, others_are, others_same, all_below, without_at, without_own, length-own}
use Rattle.rls_parts.proofs.Passing.{passes}
use Rattle.rls_parts.proofs.RestoredEpochs.{IsTreeOf, tree_given}
use Rattle.rls_parts.proofs.RestoredLog.{stable_restored, unstable_restored}
use Rattle.rls_parts.proofs.RestoredRows.{if_other, left_given}
use Rattle.rls_parts.proofs.RestoredText.{text_restored}

-- ---- rows and marks

pub rows_are : (acks : AcksSeen) (n : ℕ) → other_rows acks n ≡ others_below (row_of acks) acks.me n
rows_are acks zero = refl
rows_are acks (suc n) = ap (λ rs. rs ++ (if n == acks.me then [] else row_of acks n ∷ [])) (rows_are acks n)

pub rows_back : (p : Parts) → length p.rows + 1 ≡ p.members → p.me < p.members → other_rows (acks_of p) p.members ≡ p.rows
rows_back p r m =
    let z : List ℕ = replicate p.members 0 in
    let w = with_own p.me z p.rows in
    let l : p.me ≤ length p.rows = omega arith in
    let n : p.members ≡ length w = let k = length-own p.me z p.rows l in omega arith in
    rows_are (acks_of p) p.members
    ∙ (others_same (row_of (acks_of p)) (λ a. get_or w a []) p.me p.members (λ a h q. if_other (a == p.me) p.vector (get_or w a []) (neq_test a p.me q))
    ∙ (others_are (λ a. get_or w a []) p.me p.members ∙ (ap (without_at p.me) (all_below w p.members n) ∙ without_own p.me z p.rows l)))

pub left_are : (acks : AcksSeen) (n : ℕ) → left_below acks n ≡ marked_below (left acks) n
left_are acks zero = refl
left_are acks (suc n) = ap (λ ms. ms ++ (if left acks n then n ∷ [] else [])) (left_are acks n)

left_back : (p : Parts) → AreGiven p → left_below (acks_of p) p.members ≡ p.left
left_back p g = left_are (acks_of p) p.members ∙ (marked_same (left (acks_of p)) (has_member p.left) p.members (λ a l. left_given p a l) ∙ members_are p.members p.left g.left)

-- ---- epochs

pub names_are : (es fs : List EpochName) → names_eq es fs ≡ true → es ≡ fs
names_are [] [] h = refl
names_are [] (f ∷ fs) h = absurd (cc)
names_are (e ∷ es) [] h = absurd (cc)
names_are (e ∷ es) (f ∷ fs) h =
    ap (λ x. x ∷ es) (name_eq_is e f (and_left (name_eq e f) (names_eq es fs) h)) ∙ ap (λ xs. f ∷ xs) (names_are es fs (and_right (name_eq e f) (names_eq es fs) h))

-- the retained epochs are those of the list
retained_back : (p : Parts) → AreGiven p → unstable_over (seen_of p) ≡ p.log → are_retained p ≡ true → retained_over (seen_of p) ≡ names_of p.epochs
unfolding seen_of retained_over retained_of_parts
retained_back p g u h =
    let E = epochs_of p in
    ap (λ v. spanned E.top E.nodes (greatest_of_parts p) (reached E v ++ map (λ o. o.epoch) (unstable_over (seen_of p)))) (stable_restored p g)
    ∙ (ap (λ (os : List Op). spanned E.top E.nodes (greatest_of_parts p) (reached E (stable_of_parts p) ++ map (λ o. o.epoch) os)) u
    ∙ sym (names_are (names_of p.epochs) (retained_of_parts p) (and_right (has_stable p) (names_eq (names_of p.epochs) (retained_of_parts p)) h)))

-- a name is found at its place
pub place_found : (es : List EpochName) (k : ℕ) (x : EpochName) → AreOnce es → k < length es → x ≡ get_or es k Origin → position (name_eq x) es ≡ Some k
place_found es k x o l e =
    let h = position_or_len_is (name_eq x) es k Origin (omega arith) (λ j m. not_true (name_eq x (get_or es j Origin)) (λ q. once_at es j k o m l (sym (name_eq_is x (get_or es j Origin) q) ∙ e)))
    (λ m. ap (name_eq x) (sym e) ∙ name_eq_refl x) in
    ap (λ m. cond (nat_lt m (length es)) (Some m) None) h ∙ ap (λ b. cond b (Some k) None) (lt_test k (length es) l)

abbrev epoch_part_of : EpochName → Option ℕ → List (List Tuple) → EpochPart
epoch_part_of n o former = record { name = n; parent = o; former = former }

entry_back : (all : List EpochPart) (ns : List Node) (e : EpochPart) (n : Node) → AreNamedOnce ns → AreOnce (names_of all) → IsIn n ns → IsNodeOf all e n → epoch_part (names_of all) e.name (node_of ns e.name) ≡ e
entry_back all ns e n d o q h =
    let f : node_of ns e.name ≡ Some n = ap (node_of ns) (sym h.named) ∙ node_found ns d n q in
    let l : length (names_of all) ≡ length all = length-map all (λ (x : EpochPart). x.name) in
    let w = h.within in
    let k : position (name_eq n.parent) (names_of all) ≡ e.parent = place_found (names_of all) h.place n.parent o (omega arith) (h.older ∙ name_at all h.place) ∙ sym h.parent in
    ap (epoch_part (names_of all) e.name) f
    ∙ (ap (λ x. epoch_part_of e.name x n.renaming.former) k ∙ ap (epoch_part_of e.name e.parent) h.former)

map_back : (f : EpochName → EpochPart) (es : List EpochPart) → ((e : EpochPart) → IsIn e es → f e.name ≡ e) → map f (names_of es) ≡ es
map_back f [] h = refl
map_back f (e ∷ es) h = ap (λ x. x ∷ map f (names_of es)) (h e (inl refl)) ∙ ap (λ xs. e ∷ xs) (map_back f es (λ x q. h x (inr q)))

parts_of_tree : (p : Parts) (f : EpochPart) (es : List EpochPart) → f.parent ≡ None → f.former ≡ [] → IsBuilt p (f ∷ es) f es (nodes_of (f ∷ es)) → epoch_parts (nodes_of (f ∷ es)) (names_of (f ∷ es)) ≡ f ∷ es
parts_of_tree p f es n m b =
    let ns = nodes_of (f ∷ es) in
    let top : top_part f.name ≡ f = ap (λ o. epoch_part_of f.name o []) (sym n) ∙ ap (epoch_part_of f.name f.parent) (sym m) in
    ap (λ x. x ∷ map (λ e. epoch_part (names_of (f ∷ es)) e (node_of ns e)) (names_of es)) top
    ∙ ap (λ xs. f ∷ xs)
    (map_back (λ e. epoch_part (names_of (f ∷ es)) e (node_of ns e)) es (λ e q. let r = b.nodes e q in entry_back (f ∷ es) ns e r.0 b.once b.names_once r.1 r.2))

epochs_go : (p : Parts) (es : List EpochPart) → AreEpochParts es → (f : EpochPart) (fs : List EpochPart) → es ≡ f ∷ fs → IsBuilt p es f fs (nodes_of es) → epoch_parts (nodes_of es) (names_of es) ≡ es
epochs_go p es g f fs e b =
    let h = subst AreEpochParts e g in
    let c = subst (λ xs. IsBuilt p xs f fs (nodes_of xs)) e b in
    subst (λ xs. epoch_parts (nodes_of xs) (names_of xs) ≡ xs) (sym e) (parts_of_tree p f fs h.0 h.1 c)

epochs_back : (p : Parts) → AreGiven p → IsTreeOf p p.epochs → epoch_parts (nodes_of p.epochs) (names_of p.epochs) ≡ p.epochs
epochs_back p g t = epochs_go p p.epochs g.epochs t.first t.rest t.is t.tree

-- ---- all parts

abbrev parts_of : Parts → ℕ → List (List ℕ) → List EpochPart → List TextRun → List Op → List ℕ → Parts
parts_of p n rs es xs log ms = record {
  group = p.group;
  members = n;
  me = p.me;
  vector = p.vector;
  rows = rs;
  stems = p.stems;
  epochs = es;
  text = xs;
  log = log;
  held = p.held;
  left = ms;
}

pub back : PartsBack
unfolding seen_of parts_over
back p g b =
    let h = passes p b in
    let s = seen_of p in
    let n : length p.vector ≡ p.members = g.vector in
    let u = unstable_restored p g h.log in
    let rs = ap (other_rows (acks_of p)) n ∙ rows_back p g.rows g.me in
    let es = ap (epoch_parts (nodes_of p.epochs)) (retained_back p g u h.retained) ∙ epochs_back p g (tree_given p p.epochs g.epochs h.epochs) in
    let xs = text_restored p.text g.text in
    let ms = ap (left_below (acks_of p)) n ∙ left_back p g in
    let es0 = epoch_parts (nodes_of p.epochs) (retained_over s) in
    let rs0 = other_rows (acks_of p) (length p.vector) in
    let xs0 = text_runs (entries_of p.text) in
    let ms0 = left_below (acks_of p) (length p.vector) in
    ap (λ m. parts_of p m rs0 es0 xs0 (unstable_over s) ms0) n
    ∙ (ap (λ r. parts_of p p.members r es0 xs0 (unstable_over s) ms0) rs
    ∙ (ap (λ e. parts_of p p.members p.rows e xs0 (unstable_over s) ms0) es
    ∙ (ap (λ x. parts_of p p.members p.rows p.epochs x (unstable_over s) ms0) xs
    ∙ (ap (λ o. parts_of p p.members p.rows p.epochs p.text o ms0) u
    ∙ ap (parts_of p p.members p.rows p.epochs p.text p.log) ms))))
