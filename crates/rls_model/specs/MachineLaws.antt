-- What the steps of a machine keep, and two machines whose steps agree.
use Rattle.std.specs.Prelude.{◌≡◌, None}
use Rattle.rls_ops.specs.declared.op.Op.{Op}
use Rattle.rls_model.specs.declared.edit.Edit.{Edit}
use Rattle.rls_model.specs.Machine.{Machine, Stage, Run, Done, Stopped}

-- receiving such operations and releasing keep P
pub record StepsKeep {X : Type 0} (M : Machine X) (A : Op → Type 0) (P : X → Type 0) : Type 0 where
  pub receives : (s : X) (o : Op) → A o → P s → P (M.after_receive s o)
  pub releases : (s : X) → P s → P (M.after_release s)

-- on states that S relates both machines answer such operations alike and release alike, and stay related
pub record StepsAgree {X Y : Type 0} (M : Machine X) (N : Machine Y) (A : Op → Type 0) (S : X → Y → Type 0) : Type 0 where
  pub answers : (s : X) (t : Y) (o : Op) → A o → S s t → M.answer s o ≡ N.answer t o
  pub receives : (s : X) (t : Y) (o : Op) → A o → S s t → S (M.after_receive s o) (N.after_receive t o)
  pub waiting : (s : X) (t : Y) → S s t → M.waiting s ≡ N.waiting t
  pub next_releases : (s : X) (t : Y) → S s t → M.next_release s ≡ N.next_release t
  pub releases : (s : X) (t : Y) → S s t → S (M.after_release s) (N.after_release t)

-- and refuse such edits alike, or make them and stay related
pub record EditsAgree {X Y : Type 0} (M : Machine X) (N : Machine Y) (A : Edit → Type 0) (S : X → Y → Type 0) : Type 0 where
  pub faults : (s : X) (t : Y) (edit : Edit) → S s t → M.edit_fault s edit ≡ N.edit_fault t edit
  pub edits : (s : X) (t : Y) (edit : Edit) → A edit → M.edit_fault s edit ≡ None → S s t → S (M.after_edit s edit) (N.after_edit t edit)

-- both machines have come equally far
pub record IsAlike {X Y : Type 0} (S : X → Y → Type 0) (p : Stage X) (q : Stage Y) : Type 0 where
  pub states : S p.state q.state
  pub limit : p.limit ≡ q.limit
  pub counts : p.counts ≡ q.counts

-- both have run all lines, or stopped at the same one for the same fault
abbrev pub IsSameRun : {X Y F : Type 0} → (X → Y → Type 0) → Run X F → Run Y F → Type 0
IsSameRun S (Done p) (Done q) = IsAlike S p q
IsSameRun S (Stopped k e) (Stopped l f) = (k ≡ l) × (e ≡ f)
IsSameRun S _ _ = ⊥
