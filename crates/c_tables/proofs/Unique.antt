-- Nodes are those of one list of trees at most.
use Rattle.std.proofs.Common.{◌≡◌, ◌<◌, ◌++◌, ◌∷◌, ◌==◌, ℕ, List, [], if◌then◌else◌, reverse, ap, sym, refl, ◌∙◌, append_assoc}
use Rattle.std.proofs.lemmas.List.{append-nil, reverse-append}
use Rattle.std.specs.List.{flat_map}
use native.Mathlib.Nat.{mod-eq_of_lt}
use Rattle.field.specs.Residue.{Residue, residue_of, residue_same}
use Rattle.air_expressions.specs.Tree.{Tree, leaf, add, sub, mul, neg}
use Rattle.air_expressions.specs.declared.base_expression.BaseLeaf.{BaseLeaf}
use Rattle.air_expressions.specs.declared.base_expression.BaseLeaf.TheVariants.{Variable, IsFirstRow, IsLastRow, IsTransition, Constant}
use Rattle.air_expressions.specs.declared.variable.BaseEntry.{BaseEntry}
use Rattle.air_expressions.specs.declared.variable.BaseEntry.TheVariants.{Preprocessed, Main, Public}
use Rattle.c_tables.specs.Nodes.{entry_node, leaf_node, node, nodes_of}
use Rattle.c_tables.specs.declared.nodes.Node.{Node}
use Rattle.c_tables.specs.internal.Nodes.{is_leaf, is_negation}
use Rattle.c_tables.proofs.NodeLaws.{leaf_is_leaf}

module _ {p : ℕ} (positive : 0 < p) where
  -- the leaf that a node is
  abbrev variable_at : BaseEntry → ℕ → BaseLeaf (Residue p)
  variable_at e index = Variable (record { entry = e; index = index; field = record {} })

  abbrev leaf_back : Node → BaseLeaf (Residue p)
  leaf_back n =
      if n.kind == 0 then variable_at (Main n.number) n.index
      else if n.kind == 1 then variable_at (Preprocessed n.number) n.index
      else if n.kind == 2 then variable_at Public n.index
      else if n.kind == 3 then IsFirstRow
      else if n.kind == 4 then IsLastRow
      else if n.kind == 5 then IsTransition
      else Constant (residue_of p positive n.number)

  entry_back : (e : BaseEntry) (index : ℕ) → leaf_back (entry_node e index) ≡ variable_at e index
  entry_back (Main offset) index = refl
  entry_back (Preprocessed offset) index = refl
  entry_back Public index = refl

  back_again : (l : BaseLeaf (Residue p)) → leaf_back (leaf_node l) ≡ l
  back_again (Variable v) = entry_back v.entry v.index
  back_again IsFirstRow = refl
  back_again IsLastRow = refl
  back_again IsTransition = refl
  back_again (Constant c) = ap Constant (residue_same (residue_of p positive c.value) c (mod-eq_of_lt c.below))

  abbrev negated : List (Tree (Residue p)) → List (Tree (Residue p))
  negated [] = []
  negated (t ∷ ts) = neg t ∷ ts

  abbrev paired : ℕ → List (Tree (Residue p)) → List (Tree (Residue p))
  paired kind [] = []
  paired kind (t ∷ []) = []
  paired kind (u ∷ t ∷ ts) = if kind == 7 then add t u ∷ ts else if kind == 8 then sub t u ∷ ts else mul t u ∷ ts

  -- the trees after a node, the last one first
  abbrev after : Node → List (Tree (Residue p)) → List (Tree (Residue p))
  after n ts = if is_leaf p n then leaf (leaf_back n) ∷ ts else if is_negation n then negated ts else paired n.kind ts

  abbrev replay : List Node → List (Tree (Residue p)) → List (Tree (Residue p))
  replay [] ts = ts
  replay (n ∷ ns) ts = replay ns (after n ts)

  pair_replay : (A B : List Node) (o : Node) (a b ab : Tree (Residue p)) → ((rest : List Node) (ts : List (Tree (Residue p))) → replay (A ++ rest) ts ≡ replay rest (a ∷ ts)) → ((rest : List Node) (ts : List (Tree (Residue p))) → replay (B ++ rest) ts ≡ replay rest (b ∷ ts))
      → ((rest : List Node) (ts : List (Tree (Residue p))) → replay (o ∷ rest) (b ∷ a ∷ ts) ≡ replay rest (ab ∷ ts))
      → (rest : List Node) (ts : List (Tree (Residue p))) → replay ((A ++ (B ++ o ∷ [])) ++ rest) ts ≡ replay rest (ab ∷ ts)
  pair_replay A B o a b ab ra rb ro rest ts =
      ap (λ ns. replay ns ts) (append_assoc A (B ++ o ∷ []) rest ∙ ap (λ ns. A ++ ns) (append_assoc B (o ∷ []) rest))
      ∙ (ra (B ++ (o ∷ rest)) ts ∙ (rb (o ∷ rest) (a ∷ ts) ∙ ro rest ts))

  tree_replay : (t : Tree (Residue p)) (rest : List Node) (ts : List (Tree (Residue p))) → replay (nodes_of t ++ rest) ts ≡ replay rest (t ∷ ts)
  tree_replay (leaf l) rest ts =
      ap (λ b. replay rest (if b then leaf (leaf_back (leaf_node l)) ∷ ts else if is_negation (leaf_node l) then negated ts else paired (leaf_node l).kind ts)) (leaf_is_leaf p l)
      ∙ ap (λ m. replay rest (leaf m ∷ ts)) (back_again l)
  tree_replay (add x y) rest ts = pair_replay (nodes_of x) (nodes_of y) (node 7 0 0) x y (add x y) (tree_replay x) (tree_replay y) (λ more us. refl) rest ts
  tree_replay (sub x y) rest ts = pair_replay (nodes_of x) (nodes_of y) (node 8 0 0) x y (sub x y) (tree_replay x) (tree_replay y) (λ more us. refl) rest ts
  tree_replay (mul x y) rest ts = pair_replay (nodes_of x) (nodes_of y) (node 9 0 0) x y (mul x y) (tree_replay x) (tree_replay y) (λ more us. refl) rest ts
  tree_replay (neg x) rest ts =
      ap (λ ns. replay ns ts) (append_assoc (nodes_of x) (node 10 0 0 ∷ []) rest) ∙ tree_replay x (node 10 0 0 ∷ rest) ts

  -- trees one after the other, put onto these
  abbrev onto : List (Tree (Residue p)) → List (Tree (Residue p)) → List (Tree (Residue p))
  onto ts [] = ts
  onto ts (u ∷ us) = onto (u ∷ ts) us

  trees_replay : (us ts : List (Tree (Residue p))) → replay (flat_map nodes_of us) ts ≡ onto ts us
  trees_replay [] ts = refl
  trees_replay (u ∷ us) ts = tree_replay u (flat_map nodes_of us) ts ∙ trees_replay us (u ∷ ts)

  onto_is : (us ts : List (Tree (Residue p))) → reverse (onto ts us) ≡ reverse ts ++ us
  onto_is [] ts = sym (append-nil (reverse ts))
  onto_is (u ∷ us) ts = onto_is us (u ∷ ts) ∙ ap (λ vs. vs ++ us) (reverse-append (u ∷ []) ts) ∙ append_assoc (reverse ts) (u ∷ []) us

  -- Two lists of trees with the same nodes are the same.
  pub same_trees : (ts us : List (Tree (Residue p))) → flat_map nodes_of ts ≡ flat_map nodes_of us → ts ≡ us
  same_trees ts us same =
      sym (onto_is ts []) ∙ (ap reverse (sym (trees_replay ts []) ∙ (ap (λ ns. replay ns []) same ∙ trees_replay us [])) ∙ onto_is us [])
