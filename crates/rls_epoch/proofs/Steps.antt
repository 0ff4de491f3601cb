-- Steps over nodes translate from an epoch to its parent and back.
use Rattle.std.proofs.Common.{◌≡◌, ℕ, suc, List, [], ◌∷◌, ◌++◌, length, Some, refl, sym, ap, ◌∙◌, subst, inl, inr}
use Rattle.std.specs.Prelude.{reverse, slice_get, Result, Ok, Err, IfOk}
use Rattle.std.specs.declared.vec.Vec.{Vec}
use Rattle.std.specs.declared.alloc.Global.{Global}
use Rattle.std.specs.declared.alloc.AllocError.{AllocError}
use Rattle.std.specs.Option.{option_map}
use Rattle.std.proofs.lemmas.List.{reverse-append}
use Rattle.std.proofs.lemmas.Option.{slice_get_within}
use Rattle.rls_ident.specs.declared.tuple.Tuple.{Tuple}
use Rattle.rls_ident.specs.declared.epoch_name.EpochName.{EpochName}
use Rattle.rls_ident.specs.Identifiers.{IsIdent}
use Rattle.rls_ident.specs.Lists.{IsIn}
use Rattle.rls_ident.proofs.Members.{map_in, in_left, in_right, some_is, get_in}
use Rattle.rls_ident.proofs.Positions.{get_of}
use Rattle.rls_rename.specs.Renaming.{Renaming, IsFormer, forward, back}
use Rattle.rls_rename.specs.Tree.{Node, name_of, AreNodes, AreBelow, path, forward_all, back_all, translate}
use Rattle.rls_rename.proofs.Paths.{path_iso, path-renamings, renaming_iso, translate_is, translate_translate}
use Rattle.rls_rename.proofs.Growth.{translate_same}
use Rattle.rls_rename.proofs.SameNodes.{path_member}
use Rattle.rls_rename.proofs.Former.{former_in}
use Rattle.rls_epoch.specs.declared.placed.Placed.{Placed}
use Rattle.rls_epoch.specs.declared.ways.Step.{Step}
use Rattle.rls_epoch.specs.declared.ways.Step.TheVariants.{Back, Forward}
use Rattle.rls_epoch.specs.Seen.{node_of, nodes_of}
use Rattle.rls_epoch.specs.Links.{name_at, up_at, AreLinked}
use Rattle.rls_epoch.proofs.Reading.{up_read}
use Rattle.rls_epoch.specs.Ways.{Leads, IsWay, AreWithin, back_at, forward_at, step_map, led}

-- ---- a node that was read

-- ---- the way

-- one way after another
pub leads_on : (ps : List Placed) (n k m : ℕ) (ss ts : List Step) → Leads ps n ss k → Leads ps k ts m → Leads ps n (ss ++ ts) m
leads_on ps n k m [] ts h g = subst (λ i. Leads ps i ts m) (sym h) g
leads_on ps n k m (Back j ∷ ss) ts h g = (h.0, h.1, leads_on ps (up_at ps j) k m ss ts h.2 g)
leads_on ps n k m (Forward j ∷ ss) ts h g = (h.0, h.1, leads_on ps (suc j) k m ss ts h.2 g)

pub leads_within : (ps : List Placed) (n m : ℕ) (ss : List Step) → Leads ps n ss m → AreWithin (length ps) ss
leads_within ps n m [] h = tt
leads_within ps n m (Back j ∷ ss) h = (h.0, leads_within ps (up_at ps j) m ss h.2)
leads_within ps n m (Forward j ∷ ss) h = (h.0, leads_within ps (suc j) m ss h.2)

-- one step more at the upper end of the way up
pub leads_up : (ps : List Placed) (n k u : ℕ) (p : Placed) (ss : List Step) → slice_get ps k ≡ Some p → Leads ps n ss (suc k) → u ≡ p.up → Leads ps n (ss ++ Back k ∷ []) u
leads_up ps n k u p ss g h e = leads_on ps n (suc k) u ss (Back k ∷ []) h (slice_get_within ps k p g, refl, up_read ps k p g ∙ sym e)

-- and of the way down
pub leads_down : (ps : List Placed) (k m u : ℕ) (p : Placed) (ss : List Step) → slice_get ps k ≡ Some p → Leads ps (suc k) (reverse ss) m → u ≡ p.up → Leads ps u (reverse (ss ++ Forward k ∷ [])) m
leads_down ps k m u p ss g h e =
    subst (λ ts. Leads ps u ts m) (sym (reverse-append ss (Forward k ∷ []))) (slice_get_within ps k p g, up_read ps k p g ∙ sym e, h)

-- ---- nodes

pub in_reverse : {A : Type 0} (x : A) (xs : List A) → IsIn x xs → IsIn x (reverse xs)
in_reverse x [] h = absurd h
in_reverse {A} x (y ∷ xs) (inl e) = let P : List A → Type 0 = λ zs. IsIn x zs in subst P (sym (reverse-append (y ∷ []) xs)) (in_right x (reverse xs) (y ∷ []) (inl e))
in_reverse {A} x (y ∷ xs) (inr p) = let P : List A → Type 0 = λ zs. IsIn x zs in subst P (sym (reverse-append (y ∷ []) xs)) (in_left x (reverse xs) (y ∷ []) (in_reverse x xs p))

pub node_in : (ps : List Placed) (k : ℕ) (p : Placed) → slice_get ps k ≡ Some p → IsIn (node_of p) (nodes_of ps)
node_in ps k p h = map_in node_of p (reverse ps) (in_reverse p ps (get_in ps k p h))

-- ---- one renaming

forward_end : (Rs : List Renaming) (R : Renaming) (x : List Tuple) → forward_all (Rs ++ R ∷ []) x ≡ forward R (forward_all Rs x)
unfolding forward_all
forward_end [] R x = refl
forward_end (S ∷ Rs) R x = forward_end Rs R (forward S x)

back_end : (Rs : List Renaming) (R : Renaming) (x : List Tuple) → back_all (Rs ++ R ∷ []) x ≡ back_all Rs (back R x)
unfolding back_all
back_end [] R x = refl
back_end (S ∷ Rs) R x = ap (back S) (back_end Rs R x)

module _ (top : EpochName) (ns : List Node) (d : AreNodes ns) (b : AreBelow top ns) (n : Node) (p : IsIn n ns) (f : IsFormer n.renaming.former) where
  -- from a node's epoch to its parent
  back_is : (x : List Tuple) → IsIdent x → translate ns (name_of n.renaming) n.parent x ≡ back n.renaming x
  back_is x i =
      let m = path_iso (path ns n.parent) (path-renamings ns d n.parent) in
      translate_is ns (name_of n.renaming) n.parent x d i
      ∙ (ap (λ q. forward_all (path ns n.parent) (back_all q x)) (path_member top n ns d b p)
      ∙ (ap (forward_all (path ns n.parent)) (back_end (path ns n.parent) n.renaming x)
      ∙ m.back (back n.renaming x) ((renaming_iso n.renaming f).onto x i)))

  -- and from there to it
  forward_is : (x : List Tuple) → IsIdent x → translate ns n.parent (name_of n.renaming) x ≡ forward n.renaming x
  forward_is x i =
      let m = path_iso (path ns n.parent) (path-renamings ns d n.parent) in
      translate_is ns n.parent (name_of n.renaming) x d i
      ∙ (ap (λ q. forward_all q (back_all (path ns n.parent) x)) (path_member top n ns d b p)
      ∙ (forward_end (path ns n.parent) n.renaming (back_all (path ns n.parent) x)
      ∙ ap (forward n.renaming) (m.back x i)))

-- ---- all steps

pub back_step : (ps : List Placed) (k : ℕ) (p : Placed) → slice_get ps k ≡ Some p → (x : List Tuple) → step_map ps (Back k) x ≡ back p.renaming x
unfolding step_map
back_step ps k p h x = ap (λ o. back_at o x) h

pub forward_step : (ps : List Placed) (k : ℕ) (p : Placed) → slice_get ps k ≡ Some p → (x : List Tuple) → step_map ps (Forward k) x ≡ forward p.renaming x
unfolding step_map
forward_step ps k p h x = ap (λ o. forward_at o x) h

module _ (top : EpochName) (ps : List Placed) (d : AreNodes (nodes_of ps)) (b : AreBelow top (nodes_of ps)) (l : AreLinked top ps) where
  pub led_is : (ss : List Step) (n m : ℕ) (e f : EpochName) → Leads ps n ss m → name_at top ps n ≡ Some e → name_at top ps m ≡ Some f → (x : List Tuple) → IsIdent x → led ps ss x ≡ translate (nodes_of ps) e f x
  led_is [] n m e f h g k x i =
      let q : e ≡ f = some_is e f (sym g ∙ (ap (name_at top ps) h ∙ k)) in
      sym (translate_same (nodes_of ps) e x d i) ∙ ap (λ z. translate (nodes_of ps) e z x) q
  led_is (Back j ∷ ss) n m e f h g k x i =
      let p = get_of ps j h.0 in
      let R = (p.0).renaming in
      let r = former_in (nodes_of ps) d (node_of p.0) (node_in ps j p.0 p.1) in
      let y = back R x in
      let iy : IsIdent y = (renaming_iso R r).onto x i in
      let up : name_at top ps (up_at ps j) ≡ Some (p.0).parent = ap (name_at top ps) (up_read ps j p.0 p.1) ∙ l.parents j p.0 p.1 in
      let q : e ≡ name_of R = some_is e (name_of R) (sym g ∙ (ap (name_at top ps) h.1 ∙ ap (option_map (λ z. name_of z.renaming)) p.1)) in
      let one : translate (nodes_of ps) e (p.0).parent x ≡ y = ap (λ z. translate (nodes_of ps) z (p.0).parent x) q ∙ back_is top (nodes_of ps) d b (node_of p.0) (node_in ps j p.0 p.1) r x i in
      ap (led ps ss) (back_step ps j p.0 p.1 x)
      ∙ (led_is ss (up_at ps j) m (p.0).parent f h.2 up k y iy
      ∙ (ap (translate (nodes_of ps) (p.0).parent f) (sym one)
      ∙ translate_translate (nodes_of ps) e (p.0).parent f x d i))
  led_is (Forward j ∷ ss) n m e f h g k x i =
      let p = get_of ps j h.0 in
      let q : (p.0).parent ≡ e = some_is (p.0).parent e (sym (l.parents j p.0 p.1) ∙ (ap (name_at top ps) (sym (up_read ps j p.0 p.1) ∙ h.1) ∙ g)) in
      let R = (p.0).renaming in
      let r = former_in (nodes_of ps) d (node_of p.0) (node_in ps j p.0 p.1) in
      let y = forward R x in
      let iy : IsIdent y = (renaming_iso R r).into x i in
      let one : translate (nodes_of ps) e (name_of R) x ≡ y = ap (λ z. translate (nodes_of ps) z (name_of R) x) (sym q) ∙ forward_is top (nodes_of ps) d b (node_of p.0) (node_in ps j p.0 p.1) r x i in
      ap (led ps ss) (forward_step ps j p.0 p.1 x)
      ∙ (led_is ss (suc j) m (name_of R) f h.2 (ap (option_map (λ z. name_of z.renaming)) p.1) k y iy
      ∙ (ap (translate (nodes_of ps) (name_of R) f) (sym one)
      ∙ translate_translate (nodes_of ps) e (name_of R) f x d i))

  -- a step up goes from a node's epoch to its parent
  pub back_goes : (j : ℕ) (p : Placed) → slice_get ps j ≡ Some p → (x : List Tuple) → IsIdent x → step_map ps (Back j) x ≡ translate (nodes_of ps) (name_of p.renaming) p.parent x
  back_goes j p g x i =
      let n = node_in ps j p g in
      back_step ps j p g x ∙ sym (back_is top (nodes_of ps) d b (node_of p) n (former_in (nodes_of ps) d (node_of p) n) x i)

  -- and a step down back
  pub forward_goes : (j : ℕ) (p : Placed) → slice_get ps j ≡ Some p → (x : List Tuple) → IsIdent x → step_map ps (Forward j) x ≡ translate (nodes_of ps) p.parent (name_of p.renaming) x
  forward_goes j p g x i =
      let n = node_in ps j p g in
      forward_step ps j p g x ∙ sym (forward_is top (nodes_of ps) d b (node_of p) n (former_in (nodes_of ps) d (node_of p) n) x i)

  -- what leads between two numbers is a way between their epochs
  pub way_is : (n m : ℕ) (e f : EpochName) → name_at top ps n ≡ Some e → name_at top ps m ≡ Some f → (r : Result (Vec Step Global) AllocError) → IfOk r (λ steps. Leads ps n steps.items m) → IfOk r (λ steps. IsWay ps steps.items e f)
  way_is n m e f g k (Err a) h = tt
  way_is n m e f g k (Ok steps) h = record { within = leads_within ps n m steps.items h; leads = led_is steps.items n m e f h g k }
