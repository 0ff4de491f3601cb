-- What holds of the parts holds again after a change.
use Rattle.std.proofs.Common.{◌≡◌, ℕ, ◌∙◌, List, Option, sym, subst, refl}
use Rattle.std.specs.Prelude.{IfSome}
use Rattle.rls_seen.specs.Seen.{Seen, members}
use Rattle.rls_seen.specs.Sane.{IsSane}
use Rattle.rls_seen.specs.Over.{holding}
use Rattle.rls_ops.specs.declared.op.Op.{Op}
use Rattle.rls_replica.specs.declared.gone.Gone.{Gone}
use Rattle.rls_replica.specs.declared.known.Known.{Known}
use Rattle.rls_replica.specs.Gone.{IsGone}
use Rattle.rls_replica.specs.Known.{IsKnown}
use Rattle.rls_replica.specs.View.{IsWhole}
use Rattle.rls_replica.proofs.Noting.{if_gone}
use Rattle.rls_replica.proofs.Remembering.{if_known, known_holding}

-- the parts i were seen as s, the new ones u are seen as r; the count of members stays, so does that of the authors, and what is kept of gone and of known targets is right again
pub whole_next : (i s u r : Seen) (n k : ℕ) (old new : Option Gone) (was known : Option Known) → i ≡ s → IsWhole i n old was → u ≡ r → IsSane r → members r ≡ members s → k ≡ n → IfSome new (λ g. IsGone r g) → IfSome known (λ x. IsKnown r x)
    → IsWhole u k new known
whole_next i s u r n k old new was known e h f sane m l gone right =
    subst (λ x. IsWhole x k new known) (sym f) (record { sane = sane; authors_are = l ∙ (h.authors_are ∙ (subst (λ x. members i ≡ members x) e refl ∙ sym m)); gone_are = gone; known_are = right })

-- what is kept of gone targets stays
pub whole_kept : (i s u r : Seen) (n k : ℕ) (old : Option Gone) (was known : Option Known) → i ≡ s → IsWhole i n old was → u ≡ r → IsSane r → members r ≡ members s → k ≡ n → ((g : Gone) → IsGone s g → IsGone r g) → IfSome known (λ x. IsKnown r x)
    → IsWhole u k old known
whole_kept i s u r n k old was known e h f sane m l stays right =
    whole_next i s u r n k old old was known e h f sane m l (if_gone s r old stays (subst (λ x. IfSome old (λ g. IsGone x g)) e h.gone_are)) right

-- what is remembered stays right where only other operations wait
pub still_known : (i s : Seen) (n : ℕ) (gone : Option Gone) (known : Option Known) (W : List Op) → i ≡ s → IsWhole i n gone known → IfSome known (λ x. IsKnown (holding s W) x)
still_known i s n gone known W e h = if_known s (holding s W) known (known_holding s W) (subst (λ x. IfSome known (λ k. IsKnown x k)) e h.known_are)
