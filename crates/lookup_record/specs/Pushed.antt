-- The interactions that the arguments of a push make.
use Rattle.std.specs.Prelude.{ℕ, List, map}
use Rattle.std.specs.declared.vec.Vec.{Vec}
use Rattle.lookup_record.specs.Interaction.{Tuple, Branch, Interaction, global, local, exclusive}
use Rattle.lookup_record.specs.SignedCount.{SignedCount}

-- the message with these fields and this count on a bus
abbrev pub pushed_global : {E : Type 0} → List ℕ → List E → SignedCount E → Interaction E
pushed_global name fields count = global (record {
  bus_name = name;
  fields = fields;
  count = count.expression;
  weight = count.weight;
})

-- the tuple of these fields and this count
abbrev pub tuple_of : {E Z : Type 0} → Vec E Z × SignedCount E → Tuple E
tuple_of t = record { fields = t.0.items; count = t.1.expression; weight = t.1.weight }

-- the local lookup of these tuples
abbrev pub pushed_local : {E Z : Type 0} → List (Vec E Z × SignedCount E) → Interaction E
pushed_local tuples = local (map tuple_of tuples)

-- the branch of this flag, this count and these fields
abbrev pub pushed_branch : {E Z : Type 0} → E × SignedCount E × Vec E Z → Branch E
pushed_branch b = record {
  flag = b.0;
  count = b.1.expression;
  fields = b.2.items;
  weight = b.1.weight;
}

-- the group of these branches on a bus
abbrev pub pushed_exclusive : {E Z : Type 0} → List ℕ → List (E × SignedCount E × Vec E Z) → Interaction E
pushed_exclusive name branches =
    exclusive (record { bus_name = name; branches = map pushed_branch branches })
