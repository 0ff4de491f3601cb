-- How often the keeper of a folder failed, from its calls.
use Rattle.std.proofs.Common.{◌≡◌, ◌⊎◌, ◌∙◌, ◌-◌, ◌^◌, ⊎_elim, ℕ, Bool, List, [], ◌∷◌, Option, Some, None, Result, sym, ap, inl, inr, arith}
use Rattle.rls_io.specs.declared.devices.Found.{Found}
use Rattle.rls_io.specs.declared.devices.LoadError.{LoadError}
use Rattle.rls_io.specs.Device.{LoadsWith, Rose, one_more}
use Rattle.rls_stages.specs.Calls.{CallsNothing, CallsOf, FailsToLoad, FailsToStore, IsKeepersStatus, Loads, Stores}
use Rattle.rls_session.specs.Calls as session
use Rattle.rls_session.specs.Calls.{Calls, FailsOnce, IsStatusAfter, Stores as SessionStores, StoresEach}
use Rattle.rls_cli.specs.Folder.{CountsWith, LoadGives, StoreGives, faults_of}
use Rattle.rls_cli.specs.declared.folder.FolderKeeper.{FolderKeeper}

module _ {A B : Type 0} (a_load : A → Result Found LoadError → A → Type 0) (b_load : B → Result Found LoadError → B → Type 0) (a_store : A → List ℕ → Bool → A → Type 0) (b_store : B → List ℕ → Bool → B → Type 0) (a_faults : A → ℕ) (b_faults : B → ℕ) where
  -- of all calls one failed at most, and then the status is the keeper's
  pub counted : {needs stores : Bool} {IsDue : List ℕ → Type 0} {Surely Perhaps : ℕ → Type 0} {untouched : Type 0} {n : ℕ} {old new : FolderKeeper A B} → CallsOf (LoadsWith (LoadGives a_load b_load a_faults b_faults)) (StoreGives a_store b_store a_faults b_faults) needs stores IsDue Surely Perhaps untouched n old new
      → (faults_of a_faults b_faults new ≡ faults_of a_faults b_faults old) ⊎ (IsKeepersStatus n × (faults_of a_faults b_faults new ≡ one_more (faults_of a_faults b_faults old)))
  counted {needs} {stores} {IsDue} {Surely} {Perhaps} {untouched} {n} {old} {new} calls = go calls
    where
      go : CallsOf (LoadsWith (LoadGives a_load b_load a_faults b_faults)) (StoreGives a_store b_store a_faults b_faults) needs stores IsDue Surely Perhaps untouched n old new → (faults_of a_faults b_faults new ≡ faults_of a_faults b_faults old) ⊎ (IsKeepersStatus n × (faults_of a_faults b_faults new ≡ one_more (faults_of a_faults b_faults old)))
      go (CallsNothing same none shows) = inl (ap (λ keeper. faults_of a_faults b_faults keeper) same)
      go (FailsToLoad l at u) = ⊎_elim (λ same. inl same) (λ more. inr (at, more)) (l.1).1
      go (Loads l other shows) = inl (l.1).1
      go (FailsToStore l some at) = let first = (l.loaded.1).1 in
          ⊎_elim (λ same. inl (same ∙ first)) (λ more. inr (at, more ∙ ap one_more first)) l.stored.1
      go (Stores l some at) = inl (l.stored.1 ∙ (l.loaded.1).1)

  -- stores that answer Ok count none
  each_ok : (files : List (List ℕ)) (old new : FolderKeeper A B) → StoresEach (StoreGives a_store b_store a_faults b_faults) files old new → faults_of a_faults b_faults new ≡ faults_of a_faults b_faults old
  each_ok [] old new h = ap (λ keeper. faults_of a_faults b_faults keeper) h
  each_ok (bytes ∷ files) old new h = each_ok files h.0 new h.2 ∙ (h.1).1

  -- the same of a session
  pub counted_session : {x : SessionStores} {untouched : Type 0} {n : ℕ} {old new : FolderKeeper A B} → Calls (LoadsWith (LoadGives a_load b_load a_faults b_faults)) (StoreGives a_store b_store a_faults b_faults) x untouched n old new → (faults_of a_faults b_faults new ≡ faults_of a_faults b_faults old) ⊎ (IsKeepersStatus n × (faults_of a_faults b_faults new ≡ one_more (faults_of a_faults b_faults old)))
  counted_session {x} {untouched} {n} {old} {new} calls = go calls
    where
      go : Calls (LoadsWith (LoadGives a_load b_load a_faults b_faults)) (StoreGives a_store b_store a_faults b_faults) x untouched n old new → (faults_of a_faults b_faults new ≡ faults_of a_faults b_faults old) ⊎ (IsKeepersStatus n × (faults_of a_faults b_faults new ≡ one_more (faults_of a_faults b_faults old)))
      go (session.CallsNothing same ten none) = inl (ap (λ keeper. faults_of a_faults b_faults keeper) same)
      go (session.FailsToLoad l at u none) = ⊎_elim (λ same. inl same) (λ more. inr (at, more)) (l.1).1
      go (session.Loads l status) = last x.failed l.failed status (each_ok x.stored l.at_load l.at_failure l.stored ∙ (l.loaded.1).1)
        where
          last : (failed : Option (List ℕ)) → FailsOnce (StoreGives a_store b_store a_faults b_faults) failed l.at_failure new → IsStatusAfter failed n → faults_of a_faults b_faults l.at_failure ≡ faults_of a_faults b_faults old → (faults_of a_faults b_faults new ≡ faults_of a_faults b_faults old) ⊎ (IsKeepersStatus n × (faults_of a_faults b_faults new ≡ one_more (faults_of a_faults b_faults old)))
          last None f status first = inl (ap (λ keeper. faults_of a_faults b_faults keeper) f ∙ first)
          last (Some bytes) f status first = ⊎_elim (λ same. inl (same ∙ first)) (λ more. inr (status, more ∙ ap one_more first)) f.1

-- at a status
pub counts_with : (n before after : ℕ) → (after ≡ before) ⊎ (IsKeepersStatus n × (after ≡ one_more before)) → (n ≡ 7 → Rose before after) → CountsWith n before after
counts_with n before after (inl same) rose = (λ e. top ((rose e).1 (sym same)), λ seven ten. same)
  where
    top : before ≡ 2 ^ 64 - 1 → after ≡ one_more before
    top h = omega (arith, h, same)
counts_with n before after (inr h) rose = (λ e. h.1, λ seven ten. absurd (⊎_elim seven ten h.0))
