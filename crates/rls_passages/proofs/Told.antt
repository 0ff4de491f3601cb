-- An edit writes no tuples but its last one that its author hadn't seen, as they are or with the next offset.
use Rattle.std.proofs.Common.{◌≡◌, ℕ, zero, suc, ◌<◌, true, false, Bool, List, [], ◌∷◌, length, refl, sym, ap, ◌∙◌, subst, arith, inl, inr, ◌⊎◌}
use Rattle.std.specs.Prelude.{if◌then◌else◌, ℤ, pos, negsuc, ◌+ℤ◌, ◌-ℤ◌, Option, Some, None, slice_get}
use Rattle.std.proofs.lemmas.Int.{ints}
use Rattle.rls_ident.specs.declared.tuple.Tuple.{Tuple}
use Rattle.rls_ident.specs.declared.tuple.Tuple.TheVariants.{Low, At, High}
use Rattle.rls_ident.specs.declared.epoch_name.EpochName.{EpochName}
use Rattle.rls_ident.specs.Lists.{IsIn}
use Rattle.rls_ident.specs.Tuples.{replica_of, seq_of, offset_of, raised, tuple_pred}
use Rattle.rls_ident.specs.Identifiers.{last_of, shifted}
use Rattle.rls_ident.specs.Between.{between}
use Rattle.rls_ident.proofs.Members.{get_in, in_map}
use Rattle.rls_rename.specs.Renaming.{Renaming, IsFormer, new_spot}
use Rattle.rls_rename.specs.Tree.{Node, path, back_all}
use Rattle.rls_rename.proofs.Paths.{IsAmong, among_node, former_among, path-among, translate_is}
use Rattle.rls_rename.proofs.Triples.{HasLast, AreCovered}
use Rattle.rls_ops.specs.declared.op.Op.{Op}
use Rattle.rls_ops.specs.declared.op.Body.{Body}
use Rattle.rls_ops.specs.declared.op.Body.TheVariants.{Insert, Delete, Rename, Leave}
use Rattle.rls_model.specs.declared.edit.Edit.{Edit}
use Rattle.rls_model.specs.declared.edit.Edit.TheVariants as edits
use Rattle.rls_model.specs.declared.parts.Stem.{Stem}
use Rattle.rls_model.specs.History.{History, ops, me_of}
use Rattle.rls_model.specs.Stems.{stems}
use Rattle.rls_model.specs.Epochs.{epochs, greatest, translate}
use Rattle.rls_model.specs.Document.{Character, chars, chars_of, chars_from, ident_in, export, idents}
use Rattle.rls_model.specs.Legal.{IsLegal}
use Rattle.rls_model.specs.Editing.{first_before, first_between, own_stem, may_append, may_prepend, or_missing, get_before, next_seq, made}
use Rattle.rls_model.proofs.OneTree.{nodes}
use Rattle.rls_model.proofs.Distinct.{UsedIn, covered, known}
use Rattle.rls_model.proofs.SameOps.{in_nodes, in_chars, live_char, top_kept, in_export}
use Rattle.rls_passages.proofs.Inner.{Every, Inner, inner_every, inner_shifted, between_inner}
use Rattle.rls_passages.proofs.Kept.{HaveFormer, HasNew, down_inner, up_inner}

-- ---- tuples near to what was used

-- a mark, or a tuple of which this offset or the next one is in the set of (replica, seq, offset)
abbrev pub IsNear : (ℕ → ℕ → ℤ → Type 0) → Tuple → Type 0
IsNear U Low = Unit {0}
IsNear U (At p r s k) = U r s k ⊎ U r s (k +ℤ pos 1)
IsNear U High = Unit {0}

-- the tuple's triple is in the set
abbrev pub IsOf : (ℕ → ℕ → ℤ → Type 0) → Tuple → Type 0
IsOf U t = U (replica_of t) (seq_of t) (offset_of t)

pub near_more : (U V : ℕ → ℕ → ℤ → Type 0) → ((r s : ℕ) (k : ℤ) → U r s k → V r s k) → (t : Tuple) → IsNear U t → IsNear V t
near_more U V f Low h = tt
near_more U V f (At p r s k) (inl h) = inl (f r s k h)
near_more U V f (At p r s k) (inr h) = inr (f r s (k +ℤ pos 1) h)
near_more U V f High h = tt

near_self : (U : ℕ → ℕ → ℤ → Type 0) (t : Tuple) → IsOf U t → IsNear U t
near_self U Low h = tt
near_self U (At p r s k) h = inl h
near_self U High h = tt

less_one : (k : ℤ) → k ≡ (k -ℤ pos 1) +ℤ pos 1
less_one k = omega (arith, ints)

raised_one : (k : ℤ) → k ≡ (k +ℤ negsuc 0) +ℤ pos 1
raised_one k = omega (arith, ints)

near_pred : (U : ℕ → ℕ → ℤ → Type 0) (t : Tuple) → IsOf U t → IsNear U (tuple_pred t)
near_pred U Low h = tt
near_pred U (At p r s k) h = inr (subst (U r s) (less_one k) h)
near_pred U High h = tt

near_raised : (U : ℕ → ℕ → ℤ → Type 0) (t : Tuple) → IsOf U t → IsNear U (raised (negsuc 0) t)
near_raised U Low h = tt
near_raised U (At p r s k) h = inr (subst (U r s) (raised_one k) h)
near_raised U High h = tt

-- ---- what an operation writes

-- each tuple but the last of what it inserts, and each of a former list, is near to the set, and the last of each former identifier is in it
abbrev pub IsTold : (ℕ → ℕ → ℤ → Type 0) → Body → Type 0
IsTold U (Insert first text) = Inner (IsNear U) first
IsTold U (Delete targets) = Unit {0}
IsTold U (Rename former) = (a : List Tuple) → IsIn a former → Every (IsNear U) a × HasLast U a
IsTold U Leave = Unit {0}

chars_inner : (T : Tuple → Type 0) (o : Op) (i : ℕ) (x : List Tuple) (cs : List ℕ) → Inner T x → (c : Character) → IsIn c (chars_from o i x cs) → Inner T c.ident
chars_inner T o i x [] h c p = absurd p
chars_inner T o i x (d ∷ cs) h c (inl e) = subst (λ (y : Character). Inner T y.ident) e h
chars_inner T o i x (d ∷ cs) h c (inr p) = chars_inner T o (suc i) (shifted (pos 1) x) cs (inner_shifted T (pos 1) x h) c p

pub char_told : (U : ℕ → ℕ → ℤ → Type 0) (o : Op) (b : Body) → IsTold U b → (c : Character) → IsIn c (chars_of o b) → Inner (IsNear U) c.ident
char_told U o (Insert first text) h c p = chars_inner (IsNear U) o 0 first text h c p
char_told U o (Delete targets) h c p = absurd p
char_told U o (Rename former) h c p = absurd p
char_told U o Leave h c p = absurd p

-- ---- a history of such operations

-- each of its operations is
abbrev pub AreTold : (ℕ → ℕ → ℤ → Type 0) → History → Type 0
AreTold U H = (q : Op) → IsIn q (ops H) → IsTold U q.body

pub former_told : (U : ℕ → ℕ → ℤ → Type 0) (H : History) → AreTold U H → (R : Renaming) → IsAmong (epochs H) R → HaveFormer (IsNear U) R.former
former_told U H f R p =
    let n = among_node (epochs H) R p in
    let r = in_nodes H n.0 n.1 in
    let told : IsTold U (Rename r.1) = subst (IsTold U) r.3 (f r.0 r.2) in
    let e : r.1 ≡ R.former = ap (λ (m : Node). (m.renaming).former) r.4 ∙ ap (λ (S : Renaming). S.former) n.2 in
    subst (HaveFormer (IsNear U)) e (λ a q. let t = told a q in (t.0, near_pred U (last_of a) t.1))

some_former : (xs : List (List Tuple)) → IsFormer xs → 0 < length xs
some_former [] h = absurd h
some_former (x ∷ xs) h = omega arith

pub new_told : (U : ℕ → ℕ → ℤ → Type 0) (ns : List Node) (R : Renaming) → IsFormer R.former → AreCovered U ns → IsAmong ns R → HasNew (IsNear U) (new_spot R) (length R.former)
new_told U ns R i c p = (inr (c R p 0 (some_former R.former i)), λ j l. inl (c R p j l))

-- its characters, in each epoch
pub at_epoch : (U : ℕ → ℕ → ℤ → Type 0) (H : History) → IsLegal H → AreTold U H → AreCovered U (epochs H) → (c : Character) → IsIn c (chars H) → (f : EpochName) → Inner (IsNear U) (ident_in H f c)
unfolding chars translate
at_epoch U H l t v c p f =
    let n = nodes H l in
    let r = in_chars c (ops H) p in
    let k = known H l c p in
    let T = IsNear U in
    let ns = epochs H in
    let up : Inner T (back_all (path ns c.epoch) c.ident) =
    up_inner T ns (path ns c.epoch) c.ident tt tt (λ R q. (former_among ns n R q, former_told U H t R q)) (path-among ns c.epoch) (char_told U r.0 (r.0).body (t r.0 r.1) c r.2) in
    subst (Inner T) (sym (translate_is ns c.epoch f c.ident n k.0))
    (down_inner T ns (path ns f) (back_all (path ns c.epoch) c.ident) (λ R q. new_told U ns R (former_among ns n R q) v q) (path-among ns f) up)

-- ---- what an edit of it makes

-- an identifier whose tuples are near to the set, and whose last one is in it
abbrev pub IsSeen : (ℕ → ℕ → ℤ → Type 0) → List Tuple → Type 0
IsSeen U x = Inner (IsNear U) x × HasLast U x

abbrev pub IfSeen : (ℕ → ℕ → ℤ → Type 0) → Option (List Tuple) → Type 0
IfSeen U None = Unit {0}
IfSeen U (Some x) = IsSeen U x

seen_every : (U : ℕ → ℕ → ℤ → Type 0) (x : List Tuple) → IsSeen U x → Every (IsNear U) x
seen_every U x h = inner_every (IsNear U) x h.0 (near_self U (last_of x) h.1)

if_every : (U : ℕ → ℕ → ℤ → Type 0) (m : Option (List Tuple)) → IfSeen U m → Every (IsNear U) (or_missing m)
if_every U None h = tt
if_every U (Some x) h = seen_every U x h

cond_inner : (T : Tuple → Type 0) (b : Bool) (x y : List Tuple) → Inner T x → Inner T y → Inner T (if b then x else y)
cond_inner T true x y h k = h
cond_inner T false x y h k = k

before_told : (U : ℕ → ℕ → ℤ → Type 0) (ss : List Stem) (me seq : ℕ) (left right : Option (List Tuple)) (n : ℕ) → IfSeen U left → IfSeen U right → Inner (IsNear U) (first_before ss me seq left right n)
before_told U ss me seq left None n h k = between_inner (IsNear U) (or_missing left) [] me seq tt (if_every U left h) tt tt
before_told U ss me seq left (Some right) n h k =
    cond_inner (IsNear U) (may_prepend (own_stem ss me (last_of right)) left right n) (shifted (pos 0 -ℤ pos n) right) (between (or_missing left) right me seq)
    (inner_shifted (IsNear U) (pos 0 -ℤ pos n) right k.0)
    (between_inner (IsNear U) (or_missing left) right me seq tt (if_every U left h) k.0 (near_raised U (last_of right) k.1))

first_told : (U : ℕ → ℕ → ℤ → Type 0) (ss : List Stem) (me seq : ℕ) (left right : Option (List Tuple)) (n : ℕ) → IfSeen U left → IfSeen U right → Inner (IsNear U) (first_between ss me seq left right n)
first_told U ss me seq None right n h k = before_told U ss me seq None right n h k
first_told U ss me seq (Some left) right n h k =
    cond_inner (IsNear U) (may_append (own_stem ss me (last_of left)) left right n) (shifted (pos 1) left) (first_before ss me seq (Some left) right n)
    (inner_shifted (IsNear U) (pos 1) left h.0)
    (before_told U ss me seq (Some left) right n h k)

got_seen : (U : ℕ → ℕ → ℤ → Type 0) (xs : List (List Tuple)) → ((x : List Tuple) → IsIn x xs → IsSeen U x) → (k : ℕ) → IfSeen U (slice_get xs k)
got_seen U xs f k = go (slice_get xs k) refl
  where
    go : (m : Option (List Tuple)) → slice_get xs k ≡ m → IfSeen U m
    go None e = tt
    go (Some x) e = f x (get_in xs k x e)

before_seen : (U : ℕ → ℕ → ℤ → Type 0) (xs : List (List Tuple)) → ((x : List Tuple) → IsIn x xs → IsSeen U x) → (k : ℕ) → IfSeen U (get_before xs k)
before_seen U xs f zero = tt
before_seen U xs f (suc k) = got_seen U xs f k

module _ (U : ℕ → ℕ → ℤ → Type 0) (H : History) (l : IsLegal H) (u : (r s : ℕ) (k : ℤ) → UsedIn H r s k → U r s k) (t : AreTold U H) where
  pub all_covered : AreCovered U (epochs H)
  all_covered R p j m = u R.replica R.seq (pos j) (covered H l R p j m)

  -- the text
  pub text_seen : (x : List Tuple) → IsIn x (idents H) → IsSeen U x
  unfolding idents translate
  text_seen x p =
      let r = in_map (λ (y : List Tuple × ℕ). y.0) x (export H) p in
      let q = in_export H r.0 r.1 in
      let e : ident_in H (greatest H) q.0 ≡ x = ap (λ (y : List Tuple × ℕ). y.0) q.2 ∙ r.2 in
      let c = live_char H q.0 q.1 in
      let z = ident_in H (greatest H) q.0 in
      subst (IsSeen U) e (at_epoch U H l t all_covered q.0 c (greatest H), u (replica_of (last_of z)) (seq_of (last_of z)) (offset_of (last_of z)) ((known H l q.0 c).2 (greatest H) (top_kept H)))

  pub made_told : (edit : Edit) → IsTold U (made H edit).body
  unfolding made
  made_told (edits.Insert at cs) =
      first_told U (stems H) (me_of H) (next_seq H) (get_before (idents H) at) (slice_get (idents H) at) (length cs) (before_seen U (idents H) text_seen at) (got_seen U (idents H) text_seen at)
  made_told (edits.Delete at n) = tt
  made_told edits.Rename = λ a p. let s = text_seen a p in (seen_every U a s, s.1)
  made_told edits.Leave = tt
