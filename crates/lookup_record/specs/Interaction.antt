-- What AIRs hand to builders, over any type of expressions.
use Rattle.std.specs.Prelude.{ℕ, List, map}

-- one tuple of a local lookup, with its signed count and the most that a row adds to that count
pub record Tuple (E : Type 0) : Type 0 where
  pub fields : List E
  pub count : E
  pub weight : ℕ

-- one message on a named bus, with its signed count and the most that a row adds to that count
pub record GlobalInteraction (E : Type 0) : Type 0 where
  pub bus_name : List ℕ
  pub fields : List E
  pub count : E
  pub weight : ℕ

-- one branch of a group, which is sent if its flag is set
pub record Branch (E : Type 0) : Type 0 where
  pub flag : E
  pub count : E
  pub fields : List E
  pub weight : ℕ

-- a group of branches on a named bus; a row sends at most one of them
pub record ExclusiveInteraction (E : Type 0) : Type 0 where
  pub bus_name : List ℕ
  pub branches : List (Branch E)

-- a message on a bus, a local lookup with its tuples, or a group
pub data Interaction (E : Type 0) : Type 0 where
  global : GlobalInteraction E → Interaction E
  local : List (Tuple E) → Interaction E
  exclusive : ExclusiveInteraction E → Interaction E

-- the same tuple, with another value in place of each expression
abbrev pub map_tuple : {A B : Type 0} → (A → B) → Tuple A → Tuple B
map_tuple f t = record { fields = map f t.fields; count = f t.count; weight = t.weight }

-- the same for a message on a bus
abbrev pub map_global : {A B : Type 0} → (A → B) → GlobalInteraction A → GlobalInteraction B
map_global f m = record {
  bus_name = m.bus_name;
  fields = map f m.fields;
  count = f m.count;
  weight = m.weight;
}

-- the same for a branch
abbrev pub map_branch : {A B : Type 0} → (A → B) → Branch A → Branch B
map_branch f b = record {
  flag = f b.flag;
  count = f b.count;
  fields = map f b.fields;
  weight = b.weight;
}

-- the same for a group
abbrev pub map_exclusive : {A B : Type 0} → (A → B) → ExclusiveInteraction A → ExclusiveInteraction B
map_exclusive f m = record { bus_name = m.bus_name; branches = map (map_branch f) m.branches }
