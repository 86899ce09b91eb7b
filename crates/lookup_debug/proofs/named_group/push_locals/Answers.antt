use Rattle.std.proofs.Common.{◌≡◌, ◌∷◌, [], Some, true, false, ℕ, ap, get_or, slice_get, subst, sym, ◌∙◌}
use Rattle.std.proofs.lemmas.Option.{slice_get-get_or}
use Rattle.lookup_debug.specs.Contributions.{Traced, traced_of}
use Rattle.lookup_debug.specs.Groups.{local_group}
use Rattle.lookup_debug.specs.internal.GroupList.{AddsGroups}
use Rattle.lookup_debug.proofs.GroupLaws.{first_local_groups, lookup_at}
use Rattle.lookup_debug.proofs.GroupListLaws.{adds-more, adds-none, adds-one, local_next, locals_all}
use Rattle.lookup_debug.proofs.named_group.push_locals.Goals.{then-is_local+in_ok-push, else-is_local}
use Rattle.lookup_debug.proofs.named_group.push_locals.Goals as goal

pub loop-index-preserved : goal.loop-index-preserved
loop-index-preserved g c all =
    let R = g.F.PrimeCharacteristicRing.ring in
    let eq = g.F.PartialEq.eq in
    let traced = traced_of c.args.traced.now in
    let air : ℕ × Traced _ = (c.args.instance, traced) in
    let index = c.loop-index.index in
    let old = c.args.groups.now.items in
    let now = c.loop-index.groups.items in
    let after = c.if-is_local.groups.items in
    let item = c.index-traced-index.result in
    let lookup = get_or traced.lookups index item in
    let there : slice_get traced.lookups index ≡ Some lookup = slice_get-get_or traced.lookups index item c.loop-index-test.true in
    let front = first_local_groups R eq air index in
    elim c.if-is_local.branch [
      | then-is_local+in_ok-push w ↦
          let local = sym c.is_local.ensures ∙ w.if-is_local.true in
          subst (AddsGroups R eq all old after) (sym (local_next R eq air index lookup there true local))
          (adds-more R eq all old now after front (local_group R eq (lookup_at R eq air (index, lookup)) ∷ []) (c.loop-index.invariant all)
          (adds-one R eq all now after _ (ap (λ v. v.items) w.groups-is ∙ w.in_ok-push.ensures.items) (there, c.requires)))
      | else-is_local w ↦
          let other = sym c.is_local.ensures ∙ w.if-is_local.false in
          subst (AddsGroups R eq all old after) (sym (local_next R eq air index lookup there false other))
          (adds-more R eq all old now after front [] (c.loop-index.invariant all)
          (subst (λ t. AddsGroups R eq all now t []) (sym (ap (λ v. v.items) w.groups-is)) (adds-none R eq all now)))
    ]

pub returns : goal.returns
returns g c all =
    let R = g.F.PrimeCharacteristicRing.ring in
    let eq = g.F.PartialEq.eq in
    let air : ℕ × Traced _ = (c.args.instance, traced_of c.args.traced.now) in
    subst (AddsGroups R eq all c.args.groups.now.items c.loop-index.groups.items) (locals_all R eq air c.loop-index.index c.loop-index-test.false) (c.loop-index.invariant all)
