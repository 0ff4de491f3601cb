-- What std's readers and writers tell, in the words of the devices.
use Rattle.std.proofs.Common.{◌≡◌, ℕ, ◌<◌, ◌≤◌, ◌+◌, ◌-◌, ◌^◌, min, IfSome, List, length, Option, Some, None, take, drop, sym, ap, ◌∙◌, subst, arith, length-append, length-take, refl}
use Rattle.std.proofs.lemmas.List.{drop_at, take_at, take_all}
use Rattle.std.specs.Option.{option_map}
use Rattle.std.specs.Io.KnownBytes.{Consumes, IsAtEnd, Appends as Grows}
use Rattle.rls_io.specs.Device.{Reads, Appends, Keeps}

reads_told : (xs : List ℕ) (new : Option (List ℕ)) (n : ℕ) (buf : List ℕ) → n ≤ length buf → 0 < length buf
    → Consumes (Some xs) new (take n buf) → (n ≡ 0 → 0 < length buf → IsAtEnd new) → Reads (Some xs) new n buf
reads_told xs None n buf fits room takes ends = absurd takes
reads_told xs (Some ys) n buf fits room takes ends =
    let counts : length (take n buf) ≡ n = omega (arith, length-take n buf, fits) in
    let front : take n xs ≡ take n buf = ap (λ (l : List ℕ). take n l) takes ∙ take_at (take n buf) ys n counts in
    let rest : drop n xs ≡ ys = ap (λ (l : List ℕ). drop n l) takes ∙ drop_at (take n buf) ys n counts in
    (sym front, omega (arith, ap length takes, length-append (take n buf) ys, counts), ap (λ (l : List ℕ). Some l) (sym rest), λ none. takes ∙ (rw (none, ends none room) refl))

-- what std says of a read, after calls that took nothing
pub reads_known : (old mid new : Option (List ℕ)) (n : ℕ) (buf : List ℕ) → n ≤ length buf → 0 < length buf → Keeps old mid
    → Consumes mid new (take n buf) → (n ≡ 0 → 0 < length buf → IsAtEnd new) → Reads old new n buf
reads_known None mid new n buf fits room kept takes ends = tt
reads_known (Some xs) mid new n buf fits room kept takes ends =
    let P : Option (List ℕ) → Type 0 = λ m. Consumes m new (take n buf) in
    reads_told xs new n buf fits room (subst P kept takes) ends

grows_told : (xs : List ℕ) (new : Option (List ℕ)) (bytes : List ℕ) → Grows (Some xs) new bytes → Appends (Some xs) new bytes
grows_told xs None bytes grows = absurd grows
grows_told xs (Some ys) bytes grows = ap (λ (l : List ℕ). Some l) grows

-- what std says of a write, after calls that gave nothing
pub appends_known : (old mid new : Option (List ℕ)) (bytes : List ℕ) → Keeps old mid → Grows mid new bytes → Appends old new bytes
appends_known None mid new bytes kept grows = tt
appends_known (Some xs) mid new bytes kept grows =
    let P : Option (List ℕ) → Type 0 = λ m. Grows m new bytes in
    grows_told xs new bytes (subst P kept grows)
