use Rattle.std.proofs.Common.{◌≡◌, ◌-◌, true, length, sym, ap, ◌∙◌, subst, arith}
use Rattle.std.proofs.lemmas.List.{length-map}
use Rattle.rls_ident.specs.declared.epoch_name.EpochName.{EpochName}
use Rattle.rls_ident.specs.EpochNames.{is_of_member}
use Rattle.rls_rename.specs.Tree.{epoch_cmp}
use Rattle.rls_epoch.specs.Climbing.{name_cmp}
use Rattle.rls_epoch.specs.Maxima.{last_counted, first_of, IsMaximum}
use Rattle.rls_epoch.specs.Seen.{nodes_of}
use Rattle.rls_epoch.specs.Sorted.{place_name, names_at, IsCut}
use Rattle.rls_epoch.proofs.Looking.{looked_at, looking_begins, looking_fewer, looking_more, member_at, IsLooking}
use Rattle.rls_epoch.proofs.tree.Tree.greatest_in.Goals as goal

pub loop-rest-init : goal.loop-rest-init
loop-rest-init c =
    let t = c.args.self.now in
    let all : c.len-rest.result ≡ length t.by_name.items = omega arith in
    rw all (looking_begins c.args.v.now t.by_name_is)

pub name_by_name-last-requires : goal.name_by_name-last-requires
name_by_name-last-requires c = let w = c.loop-rest.invariant.in_range in record { within = omega arith }

pub last_counted-requires : goal.last_counted-requires
last_counted-requires c =
    let w = c.loop-rest.invariant.in_range in
    record {
      member = subst (λ (e : EpochName). is_of_member (length c.args.v.now) e ≡ true) (sym c.name_by_name-last.ensures.name)
          (member_at c.args.self.now.nodes.top c.args.self.now.by_name_is (length c.args.v.now) c.requires.members (c.loop-rest.rest - 1) (omega arith));
    }

pub loop-rest-smaller : goal.loop-rest-smaller
loop-rest-smaller c =
    let ps = c.args.self.now.nodes.placed in
    let names = c.args.self.now.by_name.items in
    let rest = c.loop-rest.rest in
    let next = c.names_below-rest.result in
    let cut = subst (λ (e : EpochName). IsCut name_cmp (names_at ps names) e next) (c.first_of.ensures.first ∙ ap first_of c.name_by_name-last.ensures.name) c.names_below-rest.ensures.cut in
    let r = cut.in_range in
    let m = length-map names (place_name ps) in
    looking_fewer c.args.v.now c.args.self.now.by_name_is c.loop-rest.invariant (omega arith) cut (omega arith)

pub greater-number-requires : goal.greater-number-requires
greater-number-requires c = let w = c.loop-rest.invariant.within in let r = c.greatest_up_to-found.ensures.maximum.in_range in record { first = omega arith; second = omega arith }

pub loop-rest-preserved : goal.loop-rest-preserved
loop-rest-preserved c =
    let top = c.args.self.now.nodes.top in
    let ps = c.args.self.now.nodes.placed in
    let names = c.args.self.now.by_name.items in
    let v = c.args.v.now in
    let next = c.names_below-rest.result in
    let found = c.greatest_up_to-found.result in
    let cut = subst (λ (e : EpochName). IsCut name_cmp (names_at ps names) e next) (c.first_of.ensures.first ∙ ap first_of c.name_by_name-last.ensures.name) c.names_below-rest.ensures.cut in
    let r = cut.in_range in
    let m = length-map names (place_name ps) in
    let is = subst (λ (f : EpochName). IsMaximum (epoch_cmp (nodes_of ps)) top ps f found) (c.last_counted.ensures.counted ∙ ap (last_counted v) c.name_by_name-last.ensures.name) c.greatest_up_to-found.ensures.maximum in
    looking_more v c.args.self.now.by_name_is c.loop-rest.invariant (omega arith) cut (omega arith) found c.greater-number.result is c.greater-number.ensures.greater

pub epoch_of-requires : goal.epoch_of-requires
epoch_of-requires c = record { within = c.loop-rest.invariant.within }

pub returns : goal.returns
returns c =
    let z : c.loop-rest.rest ≡ 0 = omega arith in
    let k = subst (λ n. IsLooking c.args.self.now.nodes.top c.args.self.now.nodes.placed c.args.self.now.by_name.items c.args.v.now n c.loop-rest.number) z c.loop-rest.invariant in
    record { greatest = c.epoch_of.ensures.name ∙ looked_at c.count-count.ensures.laid k }
