-- A piece that was cut out, in parts.
use Rattle.std.proofs.Common.{◌≡◌, ℕ, zero, suc, ◌-◌, ◌<◌, Bool, true, false, List, [], ◌∷◌, ◌++◌, length, take, drop, refl, sym, ap, ◌∙◌, subst, append_assoc, arith}
use Rattle.std.specs.Prelude.{min, slice_get, nat_le, Option, if◌then◌else◌}
use Rattle.std.proofs.lemmas.List.{length-take, length-drop}
use Rattle.rls_ident.specs.declared.limits.TheConstants.{CHARACTERS}
use Rattle.rls_ident.proofs.Members.{bool_cases, not_le_is}
use Rattle.rls_steps.specs.Marks.{Known, Marked, marks, chars, known, Piece, Put, Cut}
use Rattle.rls_steps.specs.Back.{AreDistinct, IsCut, EndsIn, LeadBack, AreGiven, IsGiven, ArePieces}
use Rattle.rls_steps.specs.Labelled.{Labelled, Leads, ready_over, cut_over, cut_piece, marked}
use Rattle.rls_steps.specs.Courses.{Deletion}
use Rattle.rls_steps.specs.Parts.{last_label, parts_of, parts, DeletionShows}
use Rattle.rls_steps.proofs.Backing.{three}
use Rattle.rls_steps.proofs.Courses.{move_shows}
use Rattle.rls_steps.proofs.Stepping.{distinct_without}
use Rattle.rls_steps.proofs.Exchanging.{marks_append}

known_split : (most : ℕ) (labels cs : List ℕ) → known labels cs ≡ known (take most labels) (take most cs) ++ known (drop most labels) (drop most cs)
known_split zero labels cs = refl
known_split (suc n) [] [] = refl
known_split (suc n) [] (c ∷ cs) = refl
known_split (suc n) (l ∷ ls) [] = go (drop n ls)
  where
    go : (ks : List ℕ) → [] ≡ known ks []
    go [] = refl
    go (k ∷ ks) = refl
known_split (suc n) (l ∷ ls) (c ∷ cs) = ap (λ m. (Known l, c) ∷ m) (known_split n ls cs)

-- characters with labels end in the last of these
ends_known : (front : Marked) (labels cs : List ℕ) → length labels ≡ length cs → 0 < length cs → EndsIn (front ++ known labels cs) (last_label labels)
ends_known front [] [] e h = absurd (omega (arith, h))
ends_known front [] (c ∷ cs) e h = absurd (omega (arith, e))
ends_known front (l ∷ ls) [] e h = absurd (omega (arith, h))
ends_known front (l ∷ []) (c ∷ []) e h =
    let q : length (l ∷ []) - 1 ≡ 0 = omega arith in
    subst (λ k. EndsIn (front ++ known (l ∷ []) (c ∷ [])) (slice_get (l ∷ []) k)) (sym q) (front, c, refl)
ends_known front (l ∷ []) (c ∷ (d ∷ ds)) e h = absurd (omega (arith, e))
ends_known front (l ∷ (k ∷ ks)) (c ∷ []) e h = absurd (omega (arith, e))
ends_known front (l ∷ (k ∷ ks)) (c ∷ (d ∷ ds)) e h =
    let one : Marked = (Known l, c) ∷ [] in
    let ih = ends_known (front ++ one) (k ∷ ks) (d ∷ ds) (omega (arith, e)) (omega arith) in
    subst (λ (o : Option ℕ). EndsIn (front ++ known (l ∷ (k ∷ ks)) (c ∷ (d ∷ ds))) o) (last_more l k ks) (subst (λ (m : Marked). EndsIn m (last_label (k ∷ ks))) (append_assoc front one (known (k ∷ ks) (d ∷ ds))) ih)
  where
    last_more : (a b : ℕ) (bs : List ℕ) → last_label (b ∷ bs) ≡ last_label (a ∷ (b ∷ bs))
    last_more a b bs =
        let n : length (b ∷ bs) - 1 ≡ length bs = omega arith in
        let m : length (a ∷ (b ∷ bs)) - 1 ≡ suc (length bs) = omega arith in
        ap (slice_get (b ∷ bs)) n ∙ sym (ap (slice_get (a ∷ (b ∷ bs))) m)

same_lengths : (most : ℕ) (labels cs : List ℕ) → length labels ≡ length cs → (length (take most labels) ≡ length (take most cs)) × (length (drop most labels) ≡ length (drop most cs))
same_lengths most labels cs e =
    (length-take most labels ∙ (ap (min most) e ∙ sym (length-take most cs)), length-drop most labels ∙ (ap (λ n. n - most) e ∙ sym (length-drop most cs)))

-- ---- the pieces lead back to the same text, through texts in between

pub record IsParted (most k : ℕ) (m : Marked) (labels cs : List ℕ) (left right : Option ℕ) (ps : List Piece) (t : List ℕ) (ts : List (List ℕ)) : Type 0 where
  pub between : List (List ℕ)
  pub many : suc (length between) ≡ length (parts_of most k labels cs left right)
  pub leads : LeadBack m (parts_of most k labels cs left right ++ ps) (between ++ t ∷ ts)

-- one piece alone
whole : (most k : ℕ) (m : Marked) (labels cs : List ℕ) (left right : Option ℕ) (ps : List Piece) (t : List ℕ) (ts : List (List ℕ)) → parts_of most k labels cs left right ≡ Cut labels cs left right ∷ [] →
    LeadBack m (Cut labels cs left right ∷ ps) (t ∷ ts) → IsParted most k m labels cs left right ps t ts
whole most k m labels cs left right ps t ts e l = record {
  between = [];
  many = sym (ap length e);
  leads = subst (λ (qs : List Piece). LeadBack m (qs ++ ps) (t ∷ ts)) (sym e) l;
}

pub parted : (most k : ℕ) (m : Marked) (labels cs : List ℕ) (left right : Option ℕ) (ps : List Piece) (t : List ℕ) (ts : List (List ℕ)) → 0 < most →
    LeadBack m (Cut labels cs left right ∷ ps) (t ∷ ts) → IsParted most k m labels cs left right ps t ts
parted most zero m labels cs left right ps t ts z l = whole most zero m labels cs left right ps t ts refl l
parted most (suc k) m labels cs left right ps t ts z (front, rest, cut, same, back) =
    bool_cases (nat_le (length cs) most)
    (λ b. whole most (suc k) m labels cs left right ps t ts (ap one b) (front, rest, cut, same, back))
    (λ b.
    let long : most < length cs = not_le_is (length cs) most b in
    let a = take most labels in
    let x = take most cs in
    let d = drop most labels in
    let y = drop most cs in
    let sizes = same_lengths most labels cs cut.fit in
    let n : length x ≡ most = let q = length-take most cs in omega (arith, q, long) in
    let r : length y ≡ length cs - most = length-drop most cs in
    let split : known labels cs ≡ known a x ++ known d y = known_split most labels cs in
    let full : front ++ (known labels cs ++ rest) ≡ (front ++ known a x) ++ (known d y ++ rest) =
    ap (λ (q : Marked). front ++ (q ++ rest)) split ∙ (ap (λ (q : Marked). front ++ q) (append_assoc (known a x) (known d y) rest) ∙ sym (append_assoc front (known a x) (known d y ++ rest))) in
    let apart : AreDistinct (marks ((front ++ known a x) ++ (known d y ++ rest))) = subst (λ (q : Marked). AreDistinct (marks q)) full cut.distinct in
    let near : AreDistinct (marks (front ++ (known a x ++ rest))) =
    subst (λ (q : Marked). AreDistinct (marks q)) (append_assoc front (known a x) rest)
    (subst AreDistinct (sym (marks_append (front ++ known a x) rest)) (distinct_without (marks (front ++ known a x)) (marks (known d y)) (marks rest) (subst AreDistinct (three (front ++ known a x) (known d y) rest) apart))) in
    let first : IsCut m a x left front rest = record { is = cut.is; fit = sizes.0; some = omega (arith, n, z); left_is = cut.left_is; distinct = near } in
    let there : Marked = front ++ (known a x ++ rest) in
    let second : IsCut there d y (last_label a) (front ++ known a x) rest = record {
      is = sym (append_assoc front (known a x) rest);
      fit = sizes.1;
      some = omega (arith, r, long);
      left_is = ends_known front a x sizes.0 (omega (arith, n, z));
      distinct = apart;
    } in
    let text : chars ((front ++ known a x) ++ (known d y ++ rest)) ≡ t = ap chars (sym full) ∙ same in
    let later : LeadBack ((front ++ known a x) ++ (known d y ++ rest)) ps ts = subst (λ (q : Marked). LeadBack q ps ts) full back in
    let ih = parted most k there d y (last_label a) right ps t ts z (front ++ known a x, rest, second, text, later) in
    let e : parts_of most (suc k) labels cs left right ≡ Cut a x left right ∷ parts_of most k d y (last_label a) right = ap one b in
    record {
      between = chars there ∷ ih.between;
      many = ap suc ih.many ∙ sym (ap length e);
      leads = subst (λ (qs : List Piece). LeadBack m (qs ++ ps) (chars there ∷ (ih.between ++ t ∷ ts))) (sym e) (front, rest, first, refl, ih.leads);
    })
  where
    one : Bool → List Piece
    one b =
        if b then Cut labels cs left right ∷ []
        else Cut (take most labels) (take most cs) left right ∷ parts_of most k (drop most labels) (drop most cs) (last_label (take most labels)) right

-- ---- labels that were given

given_take : (next most : ℕ) (ls : List ℕ) → AreGiven next ls → AreGiven next (take most ls)
given_take next zero ls g = tt
given_take next (suc n) [] g = tt
given_take next (suc n) (l ∷ ls) g = (g.0, given_take next n ls g.1)

given_drop : (next most : ℕ) (ls : List ℕ) → AreGiven next ls → AreGiven next (drop most ls)
given_drop next zero ls g = g
given_drop next (suc n) [] g = tt
given_drop next (suc n) (l ∷ ls) g = given_drop next n ls g.1

given_at : (next k : ℕ) (ls : List ℕ) → AreGiven next ls → IsGiven next (slice_get ls k)
given_at next k [] g = tt
given_at next zero (l ∷ ls) g = g.0
given_at next (suc k) (l ∷ ls) g = given_at next k ls g.1

given_parts : (next most k : ℕ) (labels cs : List ℕ) (left right : Option ℕ) (ps : List Piece) → AreGiven next labels → IsGiven next left → ArePieces next ps → ArePieces next (parts_of most k labels cs left right ++ ps)
given_parts next most zero labels cs left right ps a b c = (a, b, c)
given_parts next most (suc k) labels cs left right ps a b c =
    go (nat_le (length cs) most)
    (given_parts next most k (drop most labels) (drop most cs) (last_label (take most labels)) right ps (given_drop next most labels a) (given_at next (length (take most labels) - 1) (take most labels) (given_take next most labels a)) c)
  where
    go : (t : Bool) → ArePieces next (parts_of most k (drop most labels) (drop most cs) (last_label (take most labels)) right ++ ps)
        → ArePieces next ((if t then Cut labels cs left right ∷ [] else Cut (take most labels) (take most cs) left right ∷ parts_of most k (drop most labels) (drop most cs) (last_label (take most labels)) right) ++ ps)
    go true h = (a, b, c)
    go false h = (given_take next most labels a, b, h)

-- ---- a deletion

in_parts : (h : Labelled) (p : Piece) (ps : List Piece) (t : List ℕ) (ts : List (List ℕ)) → Leads h (p ∷ ps) (t ∷ ts) → (between : List (List ℕ)) × (suc (length between) ≡ length (parts p)) × Leads h (parts p ++ ps) (between ++ t ∷ ts)
in_parts h (Put labels) ps t ts l = ([], refl, l)
in_parts h (Cut labels cs left right) ps t ts l =
    let r = parted CHARACTERS (length cs) (marked h) labels cs left right ps t ts (omega arith) l.back in
    (r.between, r.many, record { given = given_parts h.next CHARACTERS (length cs) labels cs left right ps l.given.0 l.given.1 l.given.2; back = r.leads })

pub deletion_shows : DeletionShows
deletion_shows st c at n x f =
    let g = ready_over st.held at n in
    let one = move_shows st c (Deletion at n) x f in
    let r = in_parts (cut_over g at n) (cut_piece g at n) st.past c.now c.before one.back in
    (r.0, r.1, record { labelled = one.labelled; text = one.text; back = r.2; forth = one.forth })
