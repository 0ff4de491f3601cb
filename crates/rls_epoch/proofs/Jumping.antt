-- Ways up by jumps, and the jumps of a tree with one more node.
use Rattle.std.proofs.Common.{◌≡◌, ℕ, zero, suc, ◌+◌, ◌-◌, ◌<◌, ◌≤◌, Bool, true, false, Some, List, [], ◌∷◌, ◌++◌, length, nat_eq, refl, sym, ap, ◌∙◌, subst, arith, ⊎_elim, length-append}
use Rattle.std.specs.Prelude.{slice_get, if◌then◌else◌}
use Rattle.std.proofs.lemmas.List.{append-nil, append_assoc}
use Rattle.std.proofs.lemmas.Option.{slice_get_within}
use Rattle.rls_ident.specs.declared.epoch_name.EpochName.{EpochName}
use Rattle.rls_ident.proofs.Positions.{get_of}
use Rattle.rls_rename.specs.Tree.{name_of, is_of, is_kept, path}
use Rattle.rls_rename.proofs.Growth.{path_other}
use Rattle.rls_rename.proofs.SameNodes.{path_top}
use Rattle.rls_epoch.specs.declared.jumps.Jump.{Jump}
use Rattle.rls_epoch.specs.declared.placed.Placed.{Placed}
pub use Rattle.rls_epoch.specs.Jumps.{depth_at, IsUpFrom, AreLevel, depth_in, target_in, reach, jump_over, IsLow, AreLow, IsJump, AreJumps, depth_given, target_given}
use Rattle.rls_epoch.specs.declared.climb.Climb.{Climb}
use Rattle.rls_epoch.specs.Links.{epoch_at, up_at}
use Rattle.rls_epoch.specs.Seen.{AreLaid, node_of, nodes_of}
use Rattle.rls_epoch.proofs.Laid.{nodes_last}
use Rattle.rls_epoch.proofs.Meeting.{IsAbove, above_more, path_up}
use Rattle.rls_epoch.proofs.Opened.{apart}
use Rattle.rls_epoch.proofs.Reading.{up_read}
use Rattle.rls_epoch.proofs.Spreading.{number_kept}
use Rattle.rls_epoch.proofs.Whole.{get_end, get_last, place_more}

-- ---- ways up

pub up_self : (top : EpochName) (ps : List Placed) (n : ℕ) → IsUpFrom top ps n n
up_self top ps n = ([], sym (append-nil (path (nodes_of ps) (epoch_at top ps n))))

pub up_again : (top : EpochName) (ps : List Placed) (n m h : ℕ) → IsUpFrom top ps n m → IsUpFrom top ps m h → IsUpFrom top ps n h
up_again top ps n m h a b = (b.0 ++ a.0, a.1 ∙ (ap (λ z. z ++ a.0) b.1 ∙ append_assoc (path (nodes_of ps) (epoch_at top ps h)) b.0 a.0))

-- one step up from an epoch further up
pub above_again : (top : EpochName) (ps : List Placed) → AreLaid top ps → (n m : ℕ) (e d : Climb) → IsAbove top ps (epoch_at top ps n) e → IsUpFrom top ps e.at m → 0 < m → m ≤ length ps → d.at ≡ up_at ps (m - 1) → d.below ≡ Some (m - 1) → IsAbove top ps (epoch_at top ps n) d
above_again top ps l n m e d i j h w a b = above_more top ps l n m d h w a b (up_again top ps n e.at m (i.0, i.1) j)

-- what lies further up isn't deeper
pub up_depth : (top : EpochName) (ps : List Placed) (n m : ℕ) → IsUpFrom top ps n m → depth_at top ps m ≤ depth_at top ps n
up_depth top ps n m a =
    let e = ap length a.1 ∙ length-append (path (nodes_of ps) (epoch_at top ps m)) a.0 in
    omega (arith, e)

pub top_depth : (top : EpochName) (ps : List Placed) → AreLaid top ps → depth_at top ps 0 ≡ 0
top_depth top ps l = ap length (path_top top (nodes_of ps) l.below)

-- a child is deeper by one
place_up : (top : EpochName) (ps : List Placed) → AreLaid top ps → (k : ℕ) (p : Placed) → slice_get ps k ≡ Some p → IsUpFrom top ps (suc k) p.up × (depth_at top ps (suc k) ≡ suc (depth_at top ps p.up))
place_up top ps l k p g =
    let e = path_up top ps l k p g in
    let n = ap length e ∙ length-append (path (nodes_of ps) (epoch_at top ps p.up)) (p.renaming ∷ []) in
    ((p.renaming ∷ [], e), omega (arith, n))

pub parent_up : (top : EpochName) (ps : List Placed) → AreLaid top ps → (n : ℕ) → 0 < n → n ≤ length ps → IsUpFrom top ps n (up_at ps (n - 1)) × (depth_at top ps n ≡ suc (depth_at top ps (up_at ps (n - 1)))) × (up_at ps (n - 1) < n)
parent_up top ps l n s w =
    let k = n - 1 in
    let r = get_of ps k (omega arith) in
    let u : up_at ps k ≡ r.0.up = up_read ps k r.0 r.1 in
    let q : n ≡ suc k = omega arith in
    let b = l.links.earlier k r.0 r.1 in
    let i = place_up top ps l k r.0 r.1 in
    let P : ℕ → ℕ → Type 0 = λ x m. IsUpFrom top ps x m × (depth_at top ps x ≡ suc (depth_at top ps m)) in
    let t = subst (λ (x : ℕ). P x (up_at ps k)) (sym q) (subst (λ (m : ℕ). P (suc k) m) (sym u) i) in
    (t.0, t.1, omega arith)

-- two epochs at one depth both lie below the topmost one
pub level_some : (top : EpochName) (ps : List Placed) → AreLaid top ps → (a b : ℕ) → b ≤ length ps → AreLevel top ps a b → 0 < a
level_some top ps l zero zero w q = absurd (q.apart refl)
level_some top ps l zero (suc b) w q =
    let e = parent_up top ps l (suc b) (omega arith) w in
    let d = e.1 in
    let z = top_depth top ps l in
    let v = q.level in
    absurd (omega (arith, d, z, v))
level_some top ps l (suc a) b w q = omega arith

-- what is deeper than something isn't the topmost one
pub child_some : (top : EpochName) (ps : List Placed) → AreLaid top ps → (n d : ℕ) → depth_at top ps n ≡ d + 1 → 0 < n
child_some top ps l zero d e = let z = top_depth top ps l in absurd (omega (arith, e, z))
child_some top ps l (suc k) d e = omega arith

pub level_other : (top : EpochName) (ps : List Placed) (a b : ℕ) → AreLevel top ps a b → AreLevel top ps b a
level_other top ps a b q = record { apart = λ e. q.apart (sym e); level = sym q.level }

-- ---- jumps that are read

pub low_target : (js : List Jump) → AreLow js → (n : ℕ) → n ≤ length js → target_in js n ≤ n
low_target js a zero h = omega arith
low_target js a (suc k) h = let r = get_of js k (omega arith) in let e : target_in js (suc k) ≡ r.0.to = ap target_given r.1 in let b = (a k r.0 r.1).earlier in omega (arith, e, b)

pub low_rising : (js : List Jump) → AreLow js → (n : ℕ) → n ≤ length js → depth_in js (target_in js n) ≤ depth_in js n
low_rising js a zero h = omega arith
low_rising js a (suc k) h =
    let r = get_of js k (omega arith) in
    let e : target_in js (suc k) ≡ r.0.to = ap target_given r.1 in
    let d : depth_in js (suc k) ≡ r.0.depth = ap depth_given r.1 in
    let f = ap (depth_in js) e in
    let b = (a k r.0 r.1).rising in
    omega (arith, d, f, b)

module _ (top : EpochName) (ps : List Placed) (l : AreLaid top ps) (js : List Jump) (a : AreJumps top ps js) where
  pub depth_right : (n : ℕ) → n ≤ length js → depth_in js n ≡ depth_at top ps n
  depth_right zero h = sym (top_depth top ps l)
  depth_right (suc k) h = let r = get_of js k (omega arith) in ap depth_given r.1 ∙ (a k r.0 r.1).depth_is

  pub depth_most : (n : ℕ) → n ≤ length js → depth_in js n ≤ n
  depth_most zero h = omega arith
  depth_most (suc k) h = let r = get_of js k (omega arith) in let e = ap depth_given r.1 in let s = (a k r.0 r.1).shallow in omega (arith, e, s)

  -- to an epoch further up, or from the topmost one to itself
  pub target_up : (n : ℕ) → n ≤ length js → IsUpFrom top ps n (target_in js n) × (target_in js n ≤ n)
  target_up zero h = (up_self top ps 0, omega arith)
  target_up (suc k) h =
      let r = get_of js k (omega arith) in
      let e : target_in js (suc k) ≡ r.0.to = ap target_given r.1 in
      let i = a k r.0 r.1 in
      let b = i.earlier in
      (subst (λ (m : ℕ). IsUpFrom top ps (suc k) m) (sym e) i.above, omega (arith, e, b))

  pub target_less : (n : ℕ) → 0 < n → n ≤ length js → target_in js n < n
  target_less zero s h = absurd (omega arith)
  target_less (suc k) s h = let r = get_of js k (omega arith) in let e : target_in js (suc k) ≡ r.0.to = ap target_given r.1 in let b = (a k r.0 r.1).earlier in omega (arith, e, b)

  over_up : (n : ℕ) → n ≤ length js → IsUpFrom top ps n (jump_over js n) × (jump_over js n ≤ n)
  over_up n h = go (nat_eq (reach js n) (reach js (target_in js n)))
    where
      go : (b : Bool) → IsUpFrom top ps n (if b then target_in js (target_in js n) else n) × ((if b then target_in js (target_in js n) else n) ≤ n)
      go true =
          let x = target_up n h in
          let y = target_up (target_in js n) (let s = x.1 in omega (arith, s)) in
          (up_again top ps n (target_in js n) (target_in js (target_in js n)) x.0 y.0, let s = x.1 in let t = y.1 in omega (arith, s, t))
      go false = (up_self top ps n, omega arith)

  pub jumps_low : AreLow js
  jumps_low k j g =
      let w = slice_get_within js k j g in
      let i = a k j g in
      let b = i.earlier in
      let d = depth_right j.to (omega (arith, b, w)) in
      let e = i.depth_is in
      let f = up_depth top ps (suc k) j.to i.above in
      record { shallow = i.shallow; earlier = i.earlier; rising = omega (arith, d, e, f) }

  -- the jump of the next node
  pub jumps_more : (p : Placed) (j : Jump) → slice_get ps (length js) ≡ Some p → j.depth ≡ suc (depth_in js p.up) → j.to ≡ jump_over js p.up → AreJumps top ps (js ++ j ∷ [])
  jumps_more p j g d t = λ k q h. ⊎_elim (λ x. a k q x) (λ x. subst (λ (z : Jump). IsJump top ps k z) x.1 (subst (λ (m : ℕ). IsJump top ps m j) (sym x.0) new)) (get_end js j k q h)
    where
      new : IsJump top ps (length js) j
      new =
          let u = l.links.earlier (length js) p g in
          let r = depth_right p.up u in
          let m = depth_most p.up u in
          let i = place_up top ps l (length js) p g in
          let o = over_up p.up u in
          let b = o.1 in
          let e : j.depth ≡ depth_at top ps (suc (length js)) = d ∙ (ap suc r ∙ sym i.1) in
          record {
            depth_is = e;
            shallow = omega (arith, d, m, u);
            earlier = omega (arith, t, b, u);
            above = subst (λ (n : ℕ). IsUpFrom top ps (suc (length js)) n) (sym t) (up_again top ps (suc (length js)) p.up (jump_over js p.up) i.0 o.0);
          }

-- ---- one more node

module _ (top : EpochName) (ps : List Placed) (l : AreLaid top ps) (p : Placed) (fresh : is_kept top (nodes_of ps) (name_of p.renaming) ≡ false) where
  epoch_more : (n : ℕ) → n ≤ length ps → epoch_at top (ps ++ p ∷ []) n ≡ epoch_at top ps n
  epoch_more zero h = refl
  epoch_more (suc k) h = place_more ps p k (omega arith)

  path_more : (n : ℕ) → n ≤ length ps → path (nodes_of (ps ++ p ∷ [])) (epoch_at top (ps ++ p ∷ []) n) ≡ path (nodes_of ps) (epoch_at top ps n)
  path_more n h =
      let e = epoch_at top ps n in
      let other : is_of (node_of p) e ≡ false = apart top (nodes_of ps) (name_of p.renaming) e fresh (number_kept top ps l n h) in
      ap (λ ns. path ns (epoch_at top (ps ++ p ∷ []) n)) (nodes_last ps p) ∙ (ap (path (node_of p ∷ nodes_of ps)) (epoch_more n h) ∙ path_other (node_of p) (nodes_of ps) e other)

  -- the jumps that were there
  pub jumps_grown : (js : List Jump) → length js ≤ length ps → AreJumps top ps js → AreJumps top (ps ++ p ∷ []) js
  jumps_grown js w a k j g =
      let i = a k j g in
      let v = slice_get_within js k j g in
      let b = i.earlier in
      let x = path_more (suc k) (omega (arith, v, w)) in
      let y = path_more j.to (omega (arith, v, w, b)) in
      record {
        depth_is = i.depth_is ∙ ap length (sym x);
        shallow = i.shallow;
        earlier = i.earlier;
        above = (i.above.0, x ∙ (i.above.1 ∙ ap (λ z. z ++ i.above.0) (sym y)));
      }

  -- and that of the new one
  pub jumps_pushed : AreLaid top (ps ++ p ∷ []) → (js : List Jump) → length js ≡ length ps → AreJumps top ps js → (j : Jump) → j.depth ≡ suc (depth_in js p.up) → j.to ≡ jump_over js p.up → AreJumps top (ps ++ p ∷ []) (js ++ j ∷ [])
  jumps_pushed m js q a j d t = jumps_more top (ps ++ p ∷ []) m js (jumps_grown js (omega (arith, q)) a) p j (ap (slice_get (ps ++ p ∷ [])) q ∙ get_last ps p) d t
