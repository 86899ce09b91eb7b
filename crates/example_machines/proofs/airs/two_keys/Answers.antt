use Rattle.std.proofs.Common.{◌++◌, ◌∷◌, [], List, map, ap, ◌∙◌}
use Rattle.std.proofs.lemmas.List.Elements.{All-from_recursion}
use Rattle.lookup_record.specs.Messages.{flag_and_key}
use Rattle.lookup_record.specs.Within.{KeyWithin}
use Rattle.example_machines.proofs.airs.two_keys.Goals as goal

pub returns-clause-keys : goal.returns-clause-keys
returns-clause-keys g c =
    let items = c.in_ok-push-2.ensures.items ∙ ap (λ (l : List _). l ++ (c.in_ok-current_cell-2.field-0, c.in_ok-tuple-2.field-0) ∷ []) (c.in_ok-push.ensures.items ∙ ap (λ (l : List _). l ++ (c.in_ok-current_cell.field-0, c.in_ok-tuple.field-0) ∷ []) c.new-branches.ensures.items) in
    record {
      first_flag = c.in_ok-current_cell.field-0;
      first_key = c.in_ok-tuple.field-0.items;
      second_flag = c.in_ok-current_cell-2.field-0;
      second_key = c.in_ok-tuple-2.field-0.items;
      branches_are = ap (map flag_and_key) items;
      first_flag_is = c.in_ok-current_cell.ensures.cell;
      first_key_is = c.in_ok-tuple.ensures.tuple;
      second_flag_is = c.in_ok-current_cell-2.ensures.cell;
      second_key_is = c.in_ok-tuple-2.ensures.tuple;
    }

pub returns-clause-within : goal.returns-clause-within
returns-clause-within g c =
    let items = c.in_ok-push-2.ensures.items ∙ ap (λ (l : List _). l ++ (c.in_ok-current_cell-2.field-0, c.in_ok-tuple-2.field-0) ∷ []) (c.in_ok-push.ensures.items ∙ ap (λ (l : List _). l ++ (c.in_ok-current_cell.field-0, c.in_ok-tuple.field-0) ∷ []) c.new-branches.ensures.items) in
    let Inside = KeyWithin g.AB.Expr.Expression.within (g.AB.AirBuilder.layout c.args.builder.now) in
    rw items (All-from_recursion Inside ((c.in_ok-current_cell.field-0, c.in_ok-tuple.field-0) ∷ (c.in_ok-current_cell-2.field-0, c.in_ok-tuple-2.field-0) ∷ []) ((c.in_ok-current_cell.ensures.within, c.in_ok-tuple.ensures.within), ((c.in_ok-current_cell-2.ensures.within, c.in_ok-tuple-2.ensures.within), tt)))
