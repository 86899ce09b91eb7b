use Rattle.std.proofs.Common.{◌≢◌, ℕ, ◌<◌}
use Rattle.field_list.proofs.table_field.F7TableField.as_number.Given as goal

abbrev pub invariant-loop-number : goal.invariant-loop-number
invariant-loop-number l = (n : ℕ) → n < l.number → l.self.value ≢ n
