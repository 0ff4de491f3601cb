-- What calls need that a replica makes of its parts.
use Rattle.std.proofs.Common.{ℕ, ◌+◌, ◌^◌, ◌<◌, List, [], ◌∷◌, length, subst, inl, inr}
use Rattle.rls_ident.specs.declared.limits.TheConstants.{IDENTIFIERS}
use Rattle.rls_ident.specs.Lists.{IsIn}
use Rattle.rls_ident.specs.Vectors.{raise}
use Rattle.rls_ops.specs.declared.op.Op.{Op}
use Rattle.rls_ops.proofs.Shaped.{shaped}
use Rattle.rls_seen.specs.Seen.{Seen, vector, members}
use Rattle.rls_seen.specs.Kept.{kept_former}
use Rattle.rls_seen.specs.Sane.{IsSane, Follow, MayApply}
use Rattle.rls_seen.proofs.Sizes.{total_fits, former_fits}

-- ---- room

-- one more operation has room for its characters and former identifiers
pub total_room : (s : Seen) → IsSane s → length s.text + IDENTIFIERS < 2 ^ 64
total_room s h = total_fits s h.few h.small (length s.text) h.total

pub former_room : (s : Seen) → IsSane s → kept_former s + IDENTIFIERS < 2 ^ 64
former_room s h = former_fits s h.few h.small (kept_former s) h.former

-- ---- members

pub author_in : (s : Seen) (o : Op) → MayApply s o → o.author < members s
author_in s o m = (shaped (members s) o m.shape).author

follow_author : (n : ℕ) (from : List ℕ) (os : List Op) (to : List ℕ) (o : Op) → Follow n from os to → IsIn o os → o.author < n
follow_author n from [] to o f p = absurd p
follow_author n from (x ∷ os) to o f (inl e) = subst (λ (y : Op). y.author < n) e (shaped n x f.1).author
follow_author n from (x ∷ os) to o f (inr p) = follow_author n (raise from x.author) os to o f.4 p

-- the authors of the log are members
pub log_author : (s : Seen) (o : Op) → IsSane s → IsIn o s.log → o.author < members s
log_author s o h p = follow_author (members s) h.log.0 s.log (vector s) o h.log.1.follow p
