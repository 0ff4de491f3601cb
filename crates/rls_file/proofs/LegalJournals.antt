-- A legal history's journal is read back.
use Rattle.std.proofs.Common.{◌≡◌, true, false, length, None, Ok, refl, arith}
use Rattle.std.specs.Prelude.{nat_le, nat_lt}
use Rattle.rls_ident.specs.declared.limits.TheConstants.{MEMBERS}
use Rattle.rls_ident.proofs.Members.{and_true, le_test, lt_test, not_le_test}
use Rattle.rls_ops.specs.declared.op.Op.{Op}
use Rattle.rls_ops.specs.WellFormed.{IsSmall}
use Rattle.rls_model.specs.History.{Accepted, Acknowledged, History, Fresh, Then, group_of, me_of, members_of, count_of}
use Rattle.rls_model.specs.History.{count as count_in}
use Rattle.rls_model.specs.Legal.{MayAccept, AreNumbers, IsLegal}
use Rattle.rls_model.specs.Receiving.{State, answer}
use Rattle.rls_file.specs.Files.{Journal, entries_of, journal_bytes}
use Rattle.rls_file.specs.ReadingFiles.{may_be_next, file_of}
use Rattle.rls_file.specs.SpelledFiles.{IsReadable, FitWaiting, IsHead}
use Rattle.rls_file.specs.FileLaws.{AreSpelled}
use Rattle.rls_codec.proofs.Fits.{small_chain}
use Rattle.rls_file.proofs.FileFormats.{file_again}

accepted_is_next : (H : History) (o : Op) → MayAccept H o → may_be_next H o ≡ true
unfolding answer
accepted_is_next H o m =
    let later : nat_le o.seq (count_of H o.author) ≡ false = not_le_test o.seq (count_of H o.author) (omega (arith, m.next)) in
    rw (m.shape, later, m.causes, m.fits) refl

legal_start : (H : History) → IsLegal H → AreNumbers (group_of H) (me_of H) (members_of H)
legal_start (Fresh group me members) l = l
legal_start (Then H e) l = legal_start H l.0

pub legal_readable : (H : History) → IsLegal H → AreSpelled H → IsReadable H
legal_readable (Fresh group me members) l s = tt
legal_readable (Then H (Accepted o)) l s = (legal_readable H l.0 s.0, (s.1, accepted_is_next H o l.2))
legal_readable (Then H (Acknowledged a v)) l s =
    let few = legal_start H l.0 in
    (legal_readable H l.0 s, (omega (arith, l.1.0, few.2), l.1.0, (l.1.1.0, small_chain None v l.1.1.1), l.2))

pub legal_head : (H : History) → IsLegal H → IsHead 1 (group_of H) (members_of H) (me_of H)
legal_head H l =
    let n = legal_start H l in
    record {
      form_fits = refl;
      group_fits = n.0;
      members_fit = and_true (nat_lt 0 (members_of H)) (nat_le (members_of H) MEMBERS) (lt_test 0 (members_of H) (omega (arith, n.1))) (le_test (members_of H) MEMBERS n.2);
      me_fits = n.1;
    }

pub journals_are_read : (s : State) → IsLegal s.history → AreSpelled s.history → IsSmall (length (entries_of s.history))
    → FitWaiting (members_of s.history) (me_of s.history) (count_in s.history) s.waiting → file_of (journal_bytes s) ≡ Ok (Journal s)
journals_are_read s l spelled few w =
    file_again (Journal s) (record { head = legal_head s.history l; entry_count = few; entries = legal_readable s.history l spelled; waiting = w })
