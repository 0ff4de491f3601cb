-- Errors that carry the numbers of a group.
use Rattle.std.proofs.Common.{◌≡◌, ℕ, Result, Ok, Err}
use Rattle.rls_ops.specs.declared.message.Message.{Message}
use Rattle.rls_model.specs.declared.receipt.Taken.{Taken}
use Rattle.rls_replica.specs.declared.taking.TakeError.{TakeError}
use Rattle.rls_sync.specs.declared.sync.TakeBytesError.{TakeBytesError}
use Rattle.rls_sync.specs.declared.sync.TakeBytesError.TheVariants.{OtherGroup}

abbrev pub other : ℕ → ℕ → Result Taken TakeBytesError
other g n = Err (OtherGroup g n)

pub same_group : (g n h m : ℕ) → other g n ≡ other h m → h ≡ g
same_group g n h m e = cc

pub same_members : (g n h m : ℕ) → other g n ≡ other h m → m ≡ n
same_members g n h m e = cc

abbrev pub taken : Taken → Result Taken TakeError
taken t = Ok t

abbrev pub refused : TakeError → Result Taken TakeError
refused e = Err e

pub not_taken : (t : Taken) (e : TakeError) → taken t ≡ refused e → ⊥
not_taken t e h = cc

-- what was decoded is one message
abbrev pub decoded : Message → Result Message ℕ
decoded m = Ok m

pub same_message : (m n : Message) → decoded m ≡ decoded n → m ≡ n
same_message m n e = cc
