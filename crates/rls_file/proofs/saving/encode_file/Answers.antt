use Rattle.std.proofs.Common.{◌≡◌, ◌++◌, ◌∙◌, ℕ, List, sym, ap, subst, length, arith}
use Rattle.rls_model.specs.declared.parts.Parts.{Parts}
use Rattle.rls_seen.specs.Kept.{parts_over}
use Rattle.rls_seen.proofs.Keeping.{parts_alike}
use Rattle.rls_fields.specs.Fields.{file_bytes}
use Rattle.rls_file.specs.Files.{Snapshot, newest_form}
use Rattle.rls_file.specs.FileLaws.{IsFile}
use Rattle.rls_file.proofs.StoredAgain.{stored_again}
use Rattle.rls_file.proofs.Stored.{stored_length}
use Rattle.rls_file.proofs.Saved.{too_large, no_error}
use Rattle.rls_file.proofs.saving.encode_file.Goals as goal

pub put_file-requires : goal.put_file-requires
put_file-requires c = record {
  names = c.in_ok-places.ensures.names ∙ (c.deref.ensures.value ∙ c.in_ok-names.ensures.names);
  small = omega (arith, c.stored_len-bytes.ensures.size, c.if-bytes-gt-FILE_BYTES.false);
}

pub returns : goal.returns
returns c =
    let s = c.args.replica.now in
    let bytes : c.put_file.new.out.items ≡ file_bytes (parts_over s) = c.in_ok-put_file.ensures.ok ∙ ap (λ w. w ++ file_bytes (parts_over s)) c.in_ok-out.ensures.items in
    record {
      bytes = bytes;
      small = omega (arith, ap length bytes, stored_length s, c.stored_len-bytes.ensures.size, c.if-bytes-gt-FILE_BYTES.false);
      file = λ w.
          subst (λ (b : List ℕ). IsFile b (Snapshot newest_form (parts_over s))) (sym bytes)
          (stored_again s c.sane.ensures.sane w c.in_ok-put_file.ensures.fits (omega (arith, stored_length s, c.stored_len-bytes.ensures.size, c.if-bytes-gt-FILE_BYTES.false)));
      too_large = λ n e. absurd (no_error c.put_file.new.out n e);
      stands = λ t h. bytes ∙ ap (λ (p : Parts). file_bytes p) (parts_alike s t h);
    }

pub returns-then-bytes-gt-FILE_BYTES : goal.returns-then-bytes-gt-FILE_BYTES
returns-then-bytes-gt-FILE_BYTES c = record {
  bytes = tt;
  small = tt;
  file = tt;
  too_large = λ n e.
      let s = c.args.replica.now in
      let same = too_large c.stored_len-bytes.result n e in
      (omega (arith, stored_length s, c.stored_len-bytes.ensures.size, c.if-bytes-gt-FILE_BYTES.true), omega (arith, same, stored_length s, c.stored_len-bytes.ensures.size));
  stands = tt;
}
