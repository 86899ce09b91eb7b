-- The stack of the reader of nodes.
use Rattle.std.specs.Prelude.{ℕ, Bool, true, false, nat_lt, if◌then◌else◌, max, List, [], ◌∷◌}
use Rattle.std.specs.List.{flat_map}
use Rattle.air_expressions.specs.Tree.{tree_of}
use Rattle.field.specs.Residue.{Residue}
use Rattle.c_tables.specs.declared.nodes.Node.{Node}
use Rattle.c_tables.specs.declared.part.Part.{Part}
use Rattle.c_tables.specs.Nodes.{nodes_of}
use Rattle.c_tables.specs.internal.Nodes.{is_leaf, is_negation, is_operation}

-- the nodes of the expressions on the stack
abbrev pub nodes_on_stack : {p : ℕ} → List (Part (Residue p)) → List Node
nodes_on_stack parts = flat_map (λ part. nodes_of (tree_of part.expression)) parts

-- their depths, the last one first, before these
abbrev pub part_depths_on : {F : Type 0} → List ℕ → List (Part F) → List ℕ
part_depths_on ds [] = ds
part_depths_on ds (p ∷ ps) = part_depths_on (p.depth ∷ ds) ps

abbrev pub part_depths : {F : Type 0} → List (Part F) → List ℕ
part_depths = part_depths_on []

-- whether one or two expressions of these depths are there, none at the bound
abbrev pub has_one : List ℕ → Bool
has_one [] = false
has_one (d ∷ ds) = nat_lt d 1024

abbrev pub has_two : List ℕ → Bool
has_two [] = false
has_two (d ∷ []) = false
has_two (d ∷ e ∷ ds) = nat_lt (max e d) 1024

-- whether a node goes on from a stack with expressions of these depths
abbrev pub has_room : ℕ → List ℕ → Node → Bool
has_room p ds n =
    if is_leaf p n then true else if is_negation n then has_one ds else if is_operation n then has_two ds else false
