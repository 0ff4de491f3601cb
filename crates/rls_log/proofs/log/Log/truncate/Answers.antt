use Rattle.std.proofs.Common.{◌≡◌, ◌∙◌, ℕ, Bool, List, [], ap, arith, subst, sym, take, vec_len}
use Rattle.std.specs.List.{filter}
use Rattle.std.proofs.lemmas.List.{nil_from_length, take-map}
use Rattle.std.proofs.lemmas.List.Elements.{All-nil, All-same, All-filter, All-take}
use Rattle.rls_ident.proofs.Members.{eq_is}
use Rattle.rls_log.specs.declared.entry.Entry.{Entry}
use Rattle.rls_log.specs.Encoded.{IsEntry, op_in, ops_in}
use Rattle.rls_log.specs.declared.large.LargeDeletion.{LargeDeletion}
use Rattle.rls_log.specs.Large.{IsLarge, AreLarge}
use Rattle.rls_log.specs.Latest.{IsLog}
use Rattle.rls_log.proofs.Bounds.{bounds_taken}
use Rattle.rls_log.proofs.log.Log.truncate.Goals as goal

-- the first entries spell the first operations
first : (bytes : List ℕ) (n : ℕ) (es kept : List Entry) → kept ≡ take n es → ops_in bytes kept ≡ take n (ops_in bytes es)
first bytes n es kept e = ap (ops_in bytes) e ∙ sym (take-map (op_in bytes) n es)

-- the values that are kept are operations of the bytes
values_kept : (bytes : List ℕ) (vs ws : List LargeDeletion) (p : LargeDeletion → Bool) → ws ≡ filter p vs → AreLarge bytes vs → AreLarge bytes ws
values_kept bytes vs ws p e h = All-same (IsLarge bytes) ws (filter p vs) e (All-filter p (IsLarge bytes) vs h)

pub invariant_of-self-else-is_empty : goal.invariant_of-self-else-is_empty
invariant_of-self-else-is_empty c =
    let bytes = c.self.inside.bytes.items in
    let es = c.self.inside.entries.items in
    let kept = c.truncate.new.self.items in
    record {
      entries = All-same (IsEntry bytes) _ _ c.truncate.ensures.items (All-take (IsEntry bytes) c.args.n es c.self.invariant.entries);
      values = values_kept bytes c.self.inside.values.items c.drop_from.new.values.items _ c.drop_from.ensures.kept c.self.invariant.values;
      latest = bounds_taken c.self.inside.latest c.args.n (ops_in bytes es) (ops_in bytes kept) (first bytes c.args.n es kept c.truncate.ensures.items) c.self.invariant.latest;
    }

pub returns-else-is_empty : goal.returns-else-is_empty
returns-else-is_empty c = record { first = first c.self.inside.bytes.items c.args.n c.self.inside.entries.items c.truncate.new.self.items c.truncate.ensures.items ∙ ap (take c.args.n) c.self.view_is }

-- ---- none is left

pub invariant_of-self : goal.invariant_of-self
invariant_of-self c =
    let long : vec_len c.truncate.new.self ≡ 0 = eq_is (vec_len c.truncate.new.self) 0 (sym c.is_empty.ensures ∙ c.if-is_empty.true) in
    let none = nil_from_length c.truncate.new.self.items (omega (arith, long)) in
    subst (λ es. IsLog c.clear.new.self.items es c.clear-then-is_empty.new.self.items c.self.inside.latest) (sym none) (subst (λ (vs : List LargeDeletion). IsLog c.clear.new.self.items [] vs c.self.inside.latest) (sym c.clear-then-is_empty.ensures.items) record { entries = All-nil (IsEntry c.clear.new.self.items); values = All-nil (IsLarge c.clear.new.self.items); latest = λ r v. omega arith })

pub returns-then-is_empty : goal.returns-then-is_empty
returns-then-is_empty c =
    let bytes = c.self.inside.bytes.items in
    let long : vec_len c.truncate.new.self ≡ 0 = eq_is (vec_len c.truncate.new.self) 0 (sym c.is_empty.ensures ∙ c.if-is_empty.true) in
    let none = nil_from_length c.truncate.new.self.items (omega (arith, long)) in
    record {
      first =
          ap (ops_in c.clear.new.self.items) none
          ∙ (sym (ap (ops_in bytes) none) ∙ (first bytes c.args.n c.self.inside.entries.items c.truncate.new.self.items c.truncate.ensures.items ∙ ap (take c.args.n) c.self.view_is));
    }
