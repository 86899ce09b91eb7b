-- Which nodes are those of leaves, of negations and of operations with two operands.
use Rattle.std.specs.Prelude.{nat_le, ◌==◌, ◌&&◌, ◌||◌, nat_lt, Bool, ℕ}
use Rattle.c_tables.specs.declared.nodes.Node.{Node}

-- what a node is
abbrev pub is_leaf : ℕ → Node → Bool
is_leaf p n =
    nat_le n.kind 1
    || (((n.kind == 2) && (n.number == 0))
    || ((nat_le n.kind 5 && (nat_le 3 n.kind && ((n.number == 0) && (n.index == 0))))
    || ((n.kind == 6) && (nat_lt n.number p && (n.index == 0)))))

abbrev pub is_negation : Node → Bool
is_negation n = (n.kind == 10) && ((n.number == 0) && (n.index == 0))

abbrev pub is_operation : Node → Bool
is_operation n = nat_le n.kind 9 && (nat_le 7 n.kind && ((n.number == 0) && (n.index == 0)))
