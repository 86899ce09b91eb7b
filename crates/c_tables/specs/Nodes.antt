-- Expressions over the residues modulo p as tables of nodes, in postfix order.
use Rattle.std.specs.Prelude.{◌≡◌, ◌≢◌, ◌≤◌, ◌<◌, ◌+◌, ℕ, List, [], ◌∷◌, ◌++◌, All, length, take}
use Rattle.std.specs.List.{flat_map}
use Rattle.field.specs.Residue.{Residue}
use Rattle.air_expressions.specs.Depth.{depth_of}
use Rattle.air_expressions.specs.Tree.{Tree, leaf, add, sub, mul, neg}
use Rattle.air_expressions.specs.declared.base_expression.BaseLeaf.{BaseLeaf}
use Rattle.air_expressions.specs.declared.base_expression.BaseLeaf.TheVariants.{Variable, IsFirstRow, IsLastRow, IsTransition, Constant}
use Rattle.air_expressions.specs.declared.variable.BaseEntry.{BaseEntry}
use Rattle.air_expressions.specs.declared.variable.BaseEntry.TheVariants.{Preprocessed, Main, Public}
use Rattle.c_tables.specs.declared.nodes.Node.{Node}

-- a node of this kind, number and index
abbrev pub node : ℕ → ℕ → ℕ → Node
node kind number index = record { kind = kind; number = number; index = index }

-- the node of a variable at an index of an entry
abbrev pub entry_node : BaseEntry → ℕ → Node
entry_node (Main offset) index = node 0 offset index
entry_node (Preprocessed offset) index = node 1 offset index
entry_node Public index = node 2 0 index

-- the node of a leaf
abbrev pub leaf_node : {p : ℕ} → BaseLeaf (Residue p) → Node
leaf_node (Variable v) = entry_node v.entry v.index
leaf_node IsFirstRow = node 3 0 0
leaf_node IsLastRow = node 4 0 0
leaf_node IsTransition = node 5 0 0
leaf_node (Constant c) = node 6 c.value 0

-- the nodes of a tree: those of its operands, and then its own
abbrev pub nodes_of : {p : ℕ} → Tree (Residue p) → List Node
nodes_of (leaf l) = leaf_node l ∷ []
nodes_of (add a b) = nodes_of a ++ (nodes_of b ++ node 7 0 0 ∷ [])
nodes_of (sub a b) = nodes_of a ++ (nodes_of b ++ node 8 0 0 ∷ [])
nodes_of (mul a b) = nodes_of a ++ (nodes_of b ++ node 9 0 0 ∷ [])
nodes_of (neg a) = nodes_of a ++ node 10 0 0 ∷ []

-- a tree that is taken
abbrev pub IsShallowForNodes : {p : ℕ} → Tree (Residue p) → Type 0
IsShallowForNodes t = depth_of t ≤ 1024

-- these nodes are those of these trees, one after the other, and none is too deep
pub record NodesAreTrees {p : ℕ} (trees : List (Tree (Residue p))) (nodes : List Node) : Type 0 where
  pub same : flat_map nodes_of trees ≡ nodes
  pub shallow : All IsShallowForNodes trees

-- The nodes before number i are those of trees, and no trees have nodes that begin with these and
-- node i.
pub record IsFirstBadNode (p : ℕ) (nodes : List Node) (i : ℕ) : Type 0 where
  pub within : i < length nodes
  pub trees : List (Tree (Residue p))
  pub before : NodesAreTrees trees (take i nodes)
  pub bad : (others : List (Tree (Residue p))) (rest : List Node) → All IsShallowForNodes others → flat_map nodes_of others ≢ take (i + 1) nodes ++ rest
