-- What the nodes of trees do on a stack, of which only the depths are kept.
use Rattle.std.proofs.Common.{◌≡◌, ◌++◌, ◌∷◌, ◌+◌, ◌≤◌, ℕ, ◌&&◌, suc, List, [], All, Bool, true, false, if◌then◌else◌, nat_lt, max, ap, sym, refl, ◌∙◌, append_assoc, arith}
use Rattle.std.proofs.lemmas.Bool.{lt-ltb, true≢false}
use Rattle.std.proofs.lemmas.List.{append-nil}
use Rattle.std.specs.List.{flat_map}
use Rattle.air_expressions.specs.Depth.{depth_of}
use Rattle.air_expressions.specs.Tree.{Tree, leaf, add, sub, mul, neg}
use Rattle.air_expressions.specs.declared.base_expression.BaseLeaf.{BaseLeaf}
use Rattle.air_expressions.specs.declared.base_expression.BaseLeaf.TheVariants.{Variable, IsFirstRow, IsLastRow, IsTransition, Constant}
use Rattle.air_expressions.specs.declared.variable.BaseEntry.{BaseEntry}
use Rattle.air_expressions.specs.declared.variable.BaseEntry.TheVariants.{Preprocessed, Main, Public}
use Rattle.field.specs.Residue.{Residue}
use Rattle.c_tables.specs.Nodes.{IsShallowForNodes, entry_node, leaf_node, node, nodes_of}
use Rattle.c_tables.specs.declared.nodes.Node.{Node}
use Rattle.c_tables.specs.internal.Nodes.{is_leaf, is_negation}
use Rattle.c_tables.specs.internal.Stack.{has_room}

module _ (p : ℕ) where
  abbrev next_one : List ℕ → List ℕ
  next_one [] = []
  next_one (d ∷ ds) = (1 + d) ∷ ds

  abbrev next_two : List ℕ → List ℕ
  next_two [] = []
  next_two (d ∷ []) = []
  next_two (d ∷ e ∷ ds) = (1 + max e d) ∷ ds

  -- the depths after a node
  abbrev next : List ℕ → Node → List ℕ
  next ds n = if is_leaf p n then 1 ∷ ds else if is_negation n then next_one ds else next_two ds

  -- whether all nodes go on
  abbrev pub run : List Node → List ℕ → Bool
  run [] ds = true
  run (n ∷ ns) ds = if has_room p ds n then run ns (next ds n) else false

  abbrev pub depths_on : List ℕ → List (Tree (Residue p)) → List ℕ
  depths_on ds [] = ds
  depths_on ds (t ∷ ts) = depths_on (depth_of t ∷ ds) ts

  entry_is_leaf : (e : BaseEntry) (index : ℕ) → is_leaf p (entry_node e index) ≡ true
  entry_is_leaf (Main offset) index = refl
  entry_is_leaf (Preprocessed offset) index = refl
  entry_is_leaf Public index = refl

  pub leaf_is_leaf : (l : BaseLeaf (Residue p)) → is_leaf p (leaf_node l) ≡ true
  leaf_is_leaf (Variable v) = entry_is_leaf v.entry v.index
  leaf_is_leaf IsFirstRow = refl
  leaf_is_leaf IsLastRow = refl
  leaf_is_leaf IsTransition = refl
  leaf_is_leaf (Constant c) = ap (λ b. b && true) (lt-ltb c.value p c.below)

  leaf_run : (n : Node) → is_leaf p n ≡ true → (rest : List Node) (ds : List ℕ) → run (n ∷ rest) ds ≡ run rest (1 ∷ ds)
  leaf_run n e rest ds = rw e refl

  -- two operands and their operation
  pair_run : (A B : List Node) (o : Node) (a b : ℕ) → ((rest : List Node) (ds : List ℕ) → run (A ++ rest) ds ≡ run rest (a ∷ ds)) → ((rest : List Node) (ds : List ℕ) → run (B ++ rest) ds ≡ run rest (b ∷ ds))
      → ((rest : List Node) (ds : List ℕ) → run (o ∷ rest) (b ∷ a ∷ ds) ≡ run rest ((1 + max a b) ∷ ds))
      → (rest : List Node) (ds : List ℕ) → run ((A ++ (B ++ o ∷ [])) ++ rest) ds ≡ run rest ((1 + max a b) ∷ ds)
  pair_run A B o a b ra rb ro rest ds =
      ap (λ ns. run ns ds) (append_assoc A (B ++ o ∷ []) rest ∙ ap (λ ns. A ++ ns) (append_assoc B (o ∷ []) rest))
      ∙ (ra (B ++ (o ∷ rest)) ds ∙ (rb (o ∷ rest) (a ∷ ds) ∙ ro rest ds))

  module _ (a b : ℕ) (low : 1 + max a b ≤ 1024) where
    room : (x : Bool) → (if nat_lt (max a b) 1024 then x else false) ≡ x
    room x = ap (λ t. if t then x else false) (lt-ltb (max a b) 1024 (omega (arith, low)))

  -- the nodes of a tree put its depth onto the stack
  pub tree_run : (t : Tree (Residue p)) → IsShallowForNodes t → (rest : List Node) (ds : List ℕ) → run (nodes_of t ++ rest) ds ≡ run rest (depth_of t ∷ ds)
  tree_run (leaf l) low rest ds = leaf_run (leaf_node l) (leaf_is_leaf l) rest ds
  tree_run (add x y) low rest ds =
      pair_run (nodes_of x) (nodes_of y) (node 7 0 0) (depth_of x) (depth_of y) (tree_run x (omega (arith, low))) (tree_run y (omega (arith, low)))
      (λ more es. room (depth_of x) (depth_of y) low (run more ((1 + max (depth_of x) (depth_of y)) ∷ es))) rest ds
  tree_run (sub x y) low rest ds =
      pair_run (nodes_of x) (nodes_of y) (node 8 0 0) (depth_of x) (depth_of y) (tree_run x (omega (arith, low))) (tree_run y (omega (arith, low)))
      (λ more es. room (depth_of x) (depth_of y) low (run more ((1 + max (depth_of x) (depth_of y)) ∷ es))) rest ds
  tree_run (mul x y) low rest ds =
      pair_run (nodes_of x) (nodes_of y) (node 9 0 0) (depth_of x) (depth_of y) (tree_run x (omega (arith, low))) (tree_run y (omega (arith, low)))
      (λ more es. room (depth_of x) (depth_of y) low (run more ((1 + max (depth_of x) (depth_of y)) ∷ es))) rest ds
  tree_run (neg x) low rest ds =
      ap (λ ns. run ns ds) (append_assoc (nodes_of x) (node 10 0 0 ∷ []) rest)
      ∙ (tree_run x (omega (arith, low)) (node 10 0 0 ∷ rest) ds
      ∙ ap (λ t. if t then run rest ((1 + depth_of x) ∷ ds) else false) (lt-ltb (depth_of x) 1024 (omega (arith, low))))

  -- likewise for trees one after the other
  pub trees_run : (ts : List (Tree (Residue p))) → All IsShallowForNodes ts → (rest : List Node) (ds : List ℕ) → run (flat_map nodes_of ts ++ rest) ds ≡ run rest (depths_on ds ts)
  trees_run [] low rest ds = refl
  trees_run (t ∷ ts) low rest ds =
      ap (λ ns. run ns ds) (append_assoc (nodes_of t) (flat_map nodes_of ts) rest)
      ∙ (tree_run t (low 0 t (omega arith)) (flat_map nodes_of ts ++ rest) ds
      ∙ trees_run ts (λ k d l. low (suc k) d (omega (arith, l))) rest (depth_of t ∷ ds))

  -- No trees have nodes that begin with those of `ts` and a node for which their depths have no room.
  pub none_begins : (ts others : List (Tree (Residue p))) (n : Node) (rest : List Node) → All IsShallowForNodes ts → All IsShallowForNodes others → has_room p (depths_on [] ts) n ≡ false → flat_map nodes_of others ≡ (flat_map nodes_of ts ++ n ∷ []) ++ rest → ⊥
  none_begins ts others n rest low lows none same =
      let stops : run (n ∷ rest) (depths_on [] ts) ≡ false = ap (λ b. if b then run rest (next (depths_on [] ts) n) else false) none in
      let stuck : run (flat_map nodes_of others) [] ≡ false = ap (λ ns. run ns []) (same ∙ append_assoc (flat_map nodes_of ts) (n ∷ []) rest) ∙ (trees_run ts low (n ∷ rest) [] ∙ stops) in
      true≢false (sym (ap (λ ns. run ns []) (sym (append-nil (flat_map nodes_of others))) ∙ trees_run others lows [] []) ∙ stuck)
