use Rattle.std.proofs.Common.{rules, ◌∷◌, ◌++◌, [], ap, unwrap_or, ◌∙◌}
use Rattle.indexmap.specs.IndexMap.{get}
use Rattle.lookup.proofs.GroupLaws.{group_items}
use Rattle.lookup.proofs.buses.push_at.Goals as goal

pub returns : goal.returns
returns g c = (
  c.push.new.self,
  c.in_ok-push.ensures.items ∙ ap (λ t. t ++ c.args.item ∷ []) (group_items (get g.K.PartialEq.eq c.args.groups.now c.args.key) c.or_insert-group.result.now c.new.result (c.or_insert-group.ensures.value ∙ ap (λ o. unwrap_or o c.new.result) c.in_ok-groups.ensures.value) c.new.ensures.items),
  search rules,
)
