-- The cursors of a session, by their numbers.
use Rattle.std.proofs.Common.{◌≡◌, ◌∙◌, ◌+◌, ◌++◌, ◌<◌, ◌≤◌, ℕ, zero, suc, Bool, true, false, List, [], ◌∷◌, length, map, take, set, Some, Result, Ok, Err, OnOk, refl, sym, ap, subst, arith, add-one}
use Rattle.std.specs.Prelude.{◌==◌, slice_get, slice_index_or, option_map, IsFalse, if◌then◌else◌}
use Rattle.rls_ident.specs.declared.epoch_name.EpochName.{EpochName}
use Rattle.rls_ident.proofs.Members.{eq_refl}
use Rattle.rls_rename.proofs.Kept.{greatest_kept}
use Rattle.rls_seen.specs.Seen.{Seen}
use Rattle.rls_replica.specs.Names.{KeepsNames, keeps}
use Rattle.rls_anchor.specs.declared.anchor.Anchor.{Anchor}
use Rattle.rls_anchor.specs.declared.anchor.Anchor.TheVariants.{Beginning, After, Before}
use Rattle.rls_anchor.specs.AnchorLaws.{IsAnchored}
use Rattle.rls_anchor.specs.Anchors.{epoch_of, place_over, settled_over}
use Rattle.rls_session.specs.declared.cursors.Cursor.{Cursor}
use Rattle.rls_session.specs.Cursors.{AreAnchored, AreOthers, IsAt, cursor_in, cursors_moved, cursors_with, moved, unput}

-- ---- where there is none

pub others_with : (cs : List Cursor) (n : ℕ) (a : Anchor) → AreOthers cs n → cursors_with cs n a ≡ cs ++ record { number = n; anchor = a } ∷ []
others_with [] n a h = refl
others_with (c ∷ cs) n a h = rw h.0 (ap (λ (x : List Cursor). c ∷ x) (others_with cs n a h.1))

pub others_moved : (f : Anchor → Anchor) (cs : List Cursor) (n : ℕ) → AreOthers cs n → cursors_moved f cs n ≡ cs
others_moved f [] n h = refl
others_moved f (c ∷ cs) n h = rw h.0 (ap (λ (x : List Cursor). c ∷ x) (others_moved f cs n h.1))

pub others_in : (cs : List Cursor) (n : ℕ) → AreOthers cs n → cursor_in cs n ≡ unput n
others_in [] n h = refl
others_in (c ∷ cs) n h = rw h.0 (others_in cs n h.1)

-- ---- where there is one

pub at_with : (cs : List Cursor) (n i : ℕ) (a : Anchor) → IsAt cs n i → cursors_with cs n a ≡ set cs i (record { number = n; anchor = a })
at_with [] n i a h = absurd h
at_with (c ∷ cs) n zero a h = let test : (c.number == n) ≡ true = rw h (eq_refl n) in rw test refl
at_with (c ∷ cs) n (suc i) a h = rw h.0 (ap (λ (x : List Cursor). c ∷ x) (at_with cs n i a h.1))

pub at_moved : (f : Anchor → Anchor) (cs : List Cursor) (n i : ℕ) (c : Cursor) → IsAt cs n i → slice_get cs i ≡ Some c → cursors_moved f cs n ≡ set cs i (record { number = c.number; anchor = f c.anchor })
at_moved f [] n i c h is = absurd h
at_moved f (x ∷ cs) n zero c h is =
    let test : (x.number == n) ≡ true = rw h (eq_refl n) in
    let same : x ≡ c = cc in
    rw test (ap (λ (y : Cursor). record { number = y.number; anchor = f y.anchor } ∷ cs) same)
at_moved f (x ∷ cs) n (suc i) c h is = rw h.0 (ap (λ (y : List Cursor). x ∷ y) (at_moved f cs n i c h.1 is))

pub at_in : (cs : List Cursor) (n i : ℕ) (c : Cursor) → IsAt cs n i → slice_get cs i ≡ Some c → cursor_in cs n ≡ Some c.anchor
at_in [] n i c h is = absurd h
at_in (x ∷ cs) n zero c h is =
    let test : (x.number == n) ≡ true = rw h (eq_refl n) in
    let same : x ≡ c = cc in
    rw test (ap (λ (y : Cursor). Some y.anchor) same)
at_in (x ∷ cs) n (suc i) c h is = rw h.0 (at_in cs n i c h.1 is)

at_short : (cs : List Cursor) (n i : ℕ) → IsAt cs n i → i < length cs
at_short [] n i h = absurd h
at_short (c ∷ cs) n zero h = omega arith
at_short (c ∷ cs) n (suc i) h = let l = at_short cs n i h.1 in omega arith

pub at_within : (items cs : List Cursor) (n i : ℕ) → items ≡ cs → IsAt cs n i → i < length items
at_within items cs n i view h = omega (arith, ap length view, at_short cs n i h)

pub at_put : (cs : List Cursor) (n i : ℕ) (a : Anchor) → IsAt cs n i → cursor_in (set cs i (record { number = n; anchor = a })) n ≡ Some a
at_put [] n i a h = absurd h
at_put (c ∷ cs) n zero a h = rw (eq_refl n) refl
at_put (c ∷ cs) n (suc i) a h = rw h.0 (at_put cs n i a h.1)

pub at_number : (cs : List Cursor) (n i : ℕ) (c : Cursor) → IsAt cs n i → slice_get cs i ≡ Some c → c.number ≡ n
at_number [] n i c h is = absurd h
at_number (x ∷ cs) n zero c h is = let same : x ≡ c = cc in subst (λ (y : Cursor). y.number ≡ n) same h
at_number (x ∷ cs) n (suc i) c h is = at_number cs n i c h.1 is

-- ---- one after another

-- the first ones are moved, one by one
abbrev pub front_moved : (Anchor → Anchor) → ℕ → List Cursor → List Cursor
front_moved f zero cs = cs
front_moved f (suc i) [] = []
front_moved f (suc i) (c ∷ cs) = moved f c ∷ front_moved f i cs

pub front_more : (f : Anchor → Anchor) (cs : List Cursor) (i : ℕ) (c : Cursor) → slice_get (front_moved f i cs) i ≡ Some c → set (front_moved f i cs) i (moved f c) ≡ front_moved f (i + 1) cs
front_more f cs i c is = rw add-one (go cs i is)
  where
    go : (cs : List Cursor) (i : ℕ) → slice_get (front_moved f i cs) i ≡ Some c → set (front_moved f i cs) i (moved f c) ≡ front_moved f (suc i) cs
    go [] zero is = refl
    go [] (suc i) is = refl
    go (x ∷ cs) zero is = let same : x ≡ c = cc in ap (λ (y : Cursor). moved f y ∷ cs) (sym same)
    go (x ∷ cs) (suc i) is = ap (λ (y : List Cursor). moved f x ∷ y) (go cs i is)

pub front_all : (f : Anchor → Anchor) (n : ℕ) (cs : List Cursor) → length cs ≤ n → front_moved f n cs ≡ map (moved f) cs
front_all f zero [] l = refl
front_all f zero (c ∷ cs) l = absurd (omega (arith, l))
front_all f (suc n) [] l = refl
front_all f (suc n) (c ∷ cs) l = ap (λ (x : List Cursor). moved f c ∷ x) (front_all f n cs (omega (arith, l)))

pub front_anchored : (s : Seen) (f : Anchor → Anchor) (i : ℕ) (cs : List Cursor) → ((a : Anchor) → IsAnchored s (f a)) → AreAnchored s cs → AreAnchored s (front_moved f i cs)
front_anchored s f zero cs k h = h
front_anchored s f (suc i) [] k h = tt
front_anchored s f (suc i) (c ∷ cs) k h = (k c.anchor, front_anchored s f i cs k h.1)

-- what is read there
pub got : (cs : List Cursor) (i : ℕ) (c : Cursor) → i < length cs → c ≡ slice_index_or cs i c → slice_get cs i ≡ Some c
got [] i c l h = absurd (omega (arith, l))
got (x ∷ cs) zero c l h = ap (λ (y : Cursor). Some y) (sym h)
got (x ∷ cs) (suc i) c l h = got cs i c (omega (arith, l)) h

pub front_length : (f : Anchor → Anchor) (i : ℕ) (cs : List Cursor) → length (front_moved f i cs) ≡ length cs
front_length f zero cs = refl
front_length f (suc i) [] = refl
front_length f (suc i) (c ∷ cs) = ap suc (front_length f i cs)

pub front_got : (f : Anchor → Anchor) (i : ℕ) (cs all items : List Cursor) (c : Cursor) → items ≡ front_moved f i cs → all ≡ cs → i < length all → c ≡ slice_index_or items i c → slice_get items i ≡ Some c
front_got f i cs all items c is view l h =
    let a = ap length is in
    let b = ap length view in
    let n = front_length f i cs in
    got items i c (omega (arith, a, b, n, l)) h

-- the one with the number, taken to the greatest epoch
pub settled_at : {E : Type 0} (r : Result (Unit {0}) E) (s : Seen) (items cs : List Cursor) (n i : ℕ) (c : Cursor) (a : Anchor) → OnOk r (a ≡ settled_over s c.anchor) → items ≡ cs → IsAt cs n i → slice_get items i ≡ Some c
    → OnOk r (set items i (record { number = c.number; anchor = a }) ≡ cursors_moved (settled_over s) cs n)
settled_at (Ok u) s items cs n i c a is view at here =
    ap (λ (b : Anchor). set items i (record { number = c.number; anchor = b })) is
    ∙ (ap (λ (xs : List Cursor). set xs i (moved (settled_over s) c)) view
    ∙ sym (at_moved (settled_over s) cs n i c at (subst (λ (xs : List Cursor). slice_get xs i ≡ Some c) view here)))
settled_at (Err e) s items cs n i c a is view at here = tt

-- its place is as before
pub there_at : {E : Type 0} (r : Result (Unit {0}) E) (s : Seen) (items cs : List Cursor) (n i : ℕ) (c : Cursor) (a : Anchor) → OnOk r (place_over s a ≡ place_over s c.anchor) → items ≡ cs → IsAt cs n i → slice_get items i ≡ Some c
    → OnOk r (option_map (place_over s) (cursor_in (set items i (record { number = c.number; anchor = a })) n) ≡ option_map (place_over s) (cursor_in cs n))
there_at (Ok u) s items cs n i c a is view at here =
    let there = subst (λ (xs : List Cursor). slice_get xs i ≡ Some c) view here in
    ap (λ (xs : List Cursor). option_map (place_over s) (cursor_in (set xs i (record { number = c.number; anchor = a })) n)) view
    ∙ (ap (λ k. option_map (place_over s) (cursor_in (set cs i (record { number = k; anchor = a })) n)) (at_number cs n i c at there)
    ∙ (ap (option_map (place_over s)) (at_put cs n i a at)
    ∙ (ap (λ p. Some p) is
    ∙ ap (option_map (place_over s)) (sym (at_in cs n i c at there)))))
there_at (Err e) s items cs n i c a is view at here = tt

pub anchored_set : (s : Seen) (cs : List Cursor) (i n : ℕ) (a : Anchor) → IsAnchored s a → AreAnchored s cs → AreAnchored s (set cs i (record { number = n; anchor = a }))
anchored_set s [] i n a k h = tt
anchored_set s (c ∷ cs) zero n a k h = (k, h.1)
anchored_set s (c ∷ cs) (suc i) n a k h = (h.0, anchored_set s cs i n a k h.1)

pub anchored_at : (s : Seen) (cs : List Cursor) (i : ℕ) (c : Cursor) → slice_get cs i ≡ Some c → AreAnchored s cs → IsAnchored s c.anchor
anchored_at s [] i c is k = cc
anchored_at s (x ∷ cs) zero c is k = let same : x ≡ c = cc in subst (λ (y : Cursor). IsAnchored s y.anchor) same k.0
anchored_at s (x ∷ cs) (suc i) c is k = anchored_at s cs i c is k.1

pub found_at : (cs : List Cursor) (n i : ℕ) (c : Cursor) → i < length cs → slice_get cs i ≡ Some c → AreOthers (take i cs) n → c.number ≡ n → IsAt cs n i
found_at [] n i c l is h e = absurd (omega (arith, l))
found_at (x ∷ cs) n zero c l is h e = let same : x ≡ c = cc in subst (λ (y : Cursor). y.number ≡ n) (sym same) e
found_at (x ∷ cs) n (suc i) c l is h e = (h.0, found_at cs n i c (omega (arith, l)) is h.1 e)

pub others_more : (cs : List Cursor) (n i : ℕ) (c : Cursor) → i < length cs → slice_get cs i ≡ Some c → AreOthers (take i cs) n → (c.number == n) ≡ false → AreOthers (take (i + 1) cs) n
others_more cs n i c l is h e = rw add-one (go cs i l is h)
  where
    go : (cs : List Cursor) (i : ℕ) → i < length cs → slice_get cs i ≡ Some c → AreOthers (take i cs) n → AreOthers (take (suc i) cs) n
    go [] i l is h = absurd (omega (arith, l))
    go (x ∷ cs) zero l is h = let same : x ≡ c = cc in (subst (λ (y : Cursor). (y.number == n) ≡ false) (sym same) e, tt)
    go (x ∷ cs) (suc i) l is h = (h.0, go cs i (omega (arith, l)) is h.1)

-- ---- what stays

anchor_on : (s n : Seen) (a : Anchor) → KeepsNames s n → IsAnchored s a → IsAnchored n a
anchor_on s n Beginning k h = tt
anchor_on s n (After e x) k h = k e h
anchor_on s n (Before e x) k h = k e h

pub anchored_on : (s n : Seen) (cs : List Cursor) → KeepsNames s n → AreAnchored s cs → AreAnchored n cs
anchored_on s n [] k h = tt
anchored_on s n (c ∷ cs) k h = (anchor_on s n c.anchor k h.0, anchored_on s n cs k h.1)

pub anchored_with : (s : Seen) (cs : List Cursor) (n : ℕ) (a : Anchor) → IsAnchored s a → AreAnchored s cs → AreAnchored s (cursors_with cs n a)
anchored_with s [] n a k h = (k, tt)
anchored_with s (c ∷ cs) n a k h = go (c.number == n) (anchored_with s cs n a k h.1)
  where
    go : (b : Bool) → AreAnchored s (cursors_with cs n a) → AreAnchored s (if b then record { number = n; anchor = a } ∷ cs else c ∷ cursors_with cs n a)
    go true rest = (k, h.1)
    go false rest = (h.0, rest)

pub anchored_moved : (s : Seen) (f : Anchor → Anchor) (cs : List Cursor) (n : ℕ) → ((a : Anchor) → IsAnchored s a → IsAnchored s (f a)) → AreAnchored s cs → AreAnchored s (cursors_moved f cs n)
anchored_moved s f [] n k h = tt
anchored_moved s f (c ∷ cs) n k h = go (c.number == n) (anchored_moved s f cs n k h.1)
  where
    go : (b : Bool) → AreAnchored s (cursors_moved f cs n) → AreAnchored s (if b then record { number = c.number; anchor = f c.anchor } ∷ cs else c ∷ cursors_moved f cs n)
    go true rest = (k c.anchor h.0, h.1)
    go false rest = (h.0, rest)

pub anchor_here : (s : Seen) (a : Anchor) → IsAnchored s (settled_over s a)
anchor_here s Beginning = tt
anchor_here s (After e x) = greatest_kept s.epochs.top s.epochs.nodes
anchor_here s (Before e x) = greatest_kept s.epochs.top s.epochs.nodes

pub all_anchored : (s : Seen) (f : Anchor → Anchor) (cs : List Cursor) → ((a : Anchor) → IsAnchored s (f a)) → AreAnchored s (map (moved f) cs)
all_anchored s f [] k = tt
all_anchored s f (c ∷ cs) k = (k c.anchor, all_anchored s f cs k)

pub all_moved_alike : (s : Seen) (f g : Anchor → Anchor) (cs : List Cursor) → ((a : Anchor) → IsAnchored s a → f a ≡ g a) → AreAnchored s cs → map (moved f) cs ≡ map (moved g) cs
all_moved_alike s f g [] k h = refl
all_moved_alike s f g (c ∷ cs) k h = ap (λ (a : Anchor). record { number = c.number; anchor = a } ∷ map (moved f) cs) (k c.anchor h.0) ∙ ap (λ (x : List Cursor). moved g c ∷ x) (all_moved_alike s f g cs k h.1)

-- moved in two ways that agree where the epochs are kept
pub moved_alike : (s : Seen) (f g : Anchor → Anchor) (cs : List Cursor) (n : ℕ) → ((a : Anchor) → IsAnchored s a → f a ≡ g a) → AreAnchored s cs → cursors_moved f cs n ≡ cursors_moved g cs n
moved_alike s f g [] n k h = refl
moved_alike s f g (c ∷ cs) n k h = go (c.number == n) (moved_alike s f g cs n k h.1)
  where
    go : (b : Bool) → cursors_moved f cs n ≡ cursors_moved g cs n → (if b then record { number = c.number; anchor = f c.anchor } ∷ cs else c ∷ cursors_moved f cs n) ≡ (if b then record { number = c.number; anchor = g c.anchor } ∷ cs else c ∷ cursors_moved g cs n)
    go true rest = ap (λ (a : Anchor). record { number = c.number; anchor = a } ∷ cs) (k c.anchor h.0)
    go false rest = ap (λ (x : List Cursor). c ∷ x) rest

-- the epoch of the one with this number
pub in_anchored : (s : Seen) (cs : List Cursor) (n : ℕ) (a : Anchor) → cursor_in cs n ≡ Some a → AreAnchored s cs → IsAnchored s a
in_anchored s [] zero a e h = let is : Beginning ≡ a = cc in subst (IsAnchored s) is tt
in_anchored s [] (suc n) a e h = absurd cc
in_anchored s (c ∷ cs) n a e h = go (c.number == n) e (λ q. in_anchored s cs n a q h.1)
  where
    go : (b : Bool) → (if b then Some c.anchor else cursor_in cs n) ≡ Some a → (cursor_in cs n ≡ Some a → IsAnchored s a) → IsAnchored s a
    go true e rest = let is : c.anchor ≡ a = cc in subst (IsAnchored s) is h.0
    go false e rest = rest e

-- ---- nothing is dropped

epoch_not_dropped : (s : Seen) (f e : EpochName) → keeps s f ≡ true → Some f ≡ Some e → IsFalse (keeps s e) → ⊥
epoch_not_dropped s f e h is d =
    let same : f ≡ e = cc in
    let kept : keeps s e ≡ true = subst (λ (y : EpochName). keeps s y ≡ true) same h in
    let both : true ≡ false = sym kept ∙ d in
    cc

pub anchor_not_dropped : (s : Seen) (a : Anchor) (e : EpochName) → IsAnchored s a → epoch_of a ≡ Some e → IsFalse (keeps s e) → ⊥
anchor_not_dropped s Beginning e h is d = cc
anchor_not_dropped s (After f x) e h is d = epoch_not_dropped s f e h is d
anchor_not_dropped s (Before f x) e h is d = epoch_not_dropped s f e h is d
