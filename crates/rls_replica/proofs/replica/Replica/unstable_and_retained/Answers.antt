use Rattle.std.proofs.Common.{true, ◌≡◌, ◌∙◌, ℕ, List, length, sym, ap, subst}
use Rattle.rls_ident.specs.declared.epoch_name.EpochName.{EpochName}
use Rattle.rls_ident.specs.EpochNames.{is_of_member}
use Rattle.rls_ident.specs.Lists.{IsIn}
use Rattle.rls_seen.specs.Seen.{Seen}
use Rattle.rls_seen.specs.Kept.{counts_over, marked_over, retained_over}
use Rattle.rls_replica.specs.View.{seen}
use Rattle.rls_replica.proofs.Marking.{former_is, marked_kept, of_members, retained_are}
use Rattle.rls_replica.proofs.replica.Replica.unstable_and_retained.Goals as goal

-- the marks, as they are listed
marked_by : {i s : Seen} {es fs : List EpochName} → i ≡ s → es ≡ fs → fs ≡ marked_over s → es ≡ marked_over i
marked_by e f g = f ∙ (g ∙ ap (λ (u : Seen). marked_over u) (sym e))

pub retained-requires : goal.retained-requires
retained-requires c =
    let i = seen c.self.inside in
    let marked = marked_by c.self.view_is c.deref.ensures.value c.in_ok-marked.ensures.marked in
    record {
      members = λ e k. subst (λ (v : List ℕ). is_of_member (length v) e ≡ true) (sym c.stable.ensures.stable) (of_members i c.self.invariant.sane e k);
      marked = λ e p. marked_kept i c.self.invariant.sane e (subst (λ (es : List EpochName). IsIn e es) marked p);
    }

pub returns-clause-names : goal.returns-clause-names
returns-clause-names c =
    retained_are (seen c.self.inside) _ _ _ c.stable.ensures.stable (marked_by c.self.view_is c.deref.ensures.value c.in_ok-marked.ensures.marked) c.in_ok-retained.ensures.names
    ∙ ap (λ (u : Seen). retained_over u) c.self.view_is

pub returns-clause-former : goal.returns-clause-former
unfolding counts_over
returns-clause-former c =
    former_is (seen c.self.inside) _ _ _ c.stable.ensures.stable (marked_by c.self.view_is c.deref.ensures.value c.in_ok-marked.ensures.marked) c.in_ok-retained.ensures.former
    ∙ ap (λ (u : Seen). (counts_over u).former) c.self.view_is
