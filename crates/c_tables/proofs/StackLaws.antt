-- The stack of the reader of nodes.
use Rattle.std.proofs.Common.{◌≡◌, ◌++◌, ◌∷◌, ◌<◌, ◌≤◌, ℕ, zero, suc, List, [], get_or, length, map, take, false, max, ap, sym, refl, subst, ◌∙◌, append_assoc, arith}
use Rattle.std.proofs.lemmas.Bool.{le-ltb}
use Rattle.std.proofs.lemmas.List.{append-nil, map_push, take_more}
use Rattle.std.specs.List.{flat_map}
use Rattle.air_expressions.specs.Tree.{Tree, tree_of}
use Rattle.air_expressions.specs.declared.base_expression.SymbolicExpression.{SymbolicExpression}
use Rattle.field.specs.Residue.{Residue}
use Rattle.c_tables.specs.Nodes.{NodesAreTrees, IsFirstBadNode, IsShallowForNodes, node, nodes_of}
use Rattle.c_tables.specs.declared.nodes.Node.{Node}
use Rattle.c_tables.specs.declared.part.Part.{Part}
use Rattle.c_tables.specs.internal.Stack.{has_one, has_room, has_two, part_depths, part_depths_on, nodes_on_stack}
use Rattle.c_tables.proofs.NodeLaws.{depths_on, none_begins}

part_depths_on-push : {F : Type 0} (ds : List ℕ) (ps : List (Part F)) (p : Part F) → part_depths_on ds (ps ++ p ∷ []) ≡ p.depth ∷ part_depths_on ds ps
part_depths_on-push ds [] p = refl
part_depths_on-push ds (q ∷ ps) p = part_depths_on-push (q.depth ∷ ds) ps p

pub part_depths-push : {F : Type 0} (all ps : List (Part F)) (p : Part F) → all ≡ ps ++ p ∷ [] → part_depths all ≡ p.depth ∷ part_depths ps
part_depths-push all ps p e = ap part_depths e ∙ part_depths_on-push [] ps p

-- one expression at the bound
pub full_one : {F : Type 0} (all ps : List (Part F)) (p : Part F) → all ≡ ps ++ p ∷ [] → 1024 ≤ p.depth → has_one (part_depths all) ≡ false
full_one all ps p e deep = ap has_one (part_depths-push all ps p e) ∙ le-ltb p.depth 1024 deep

-- no expression
pub none_one : {F : Type 0} (all : List (Part F)) → all ≡ [] → has_one (part_depths all) ≡ false
none_one all e = ap (λ ps. has_one (part_depths ps)) e

pub none_two : {F : Type 0} (all : List (Part F)) → all ≡ [] → has_two (part_depths all) ≡ false
none_two all e = ap (λ ps. has_two (part_depths ps)) e

pub one_two : {F : Type 0} (all ps : List (Part F)) (p : Part F) → all ≡ ps ++ p ∷ [] → ps ≡ [] → has_two (part_depths all) ≡ false
one_two all ps p e none = ap has_two (part_depths-push all ps p e ∙ ap (λ qs. p.depth ∷ part_depths qs) none)

pub full_two : {F : Type 0} (all ps qs : List (Part F)) (p q : Part F) → all ≡ ps ++ p ∷ [] → ps ≡ qs ++ q ∷ [] → 1024 ≤ max q.depth p.depth → has_two (part_depths all) ≡ false
full_two all ps qs p q e f deep = ap has_two (part_depths-push all ps p e ∙ ap (λ hs. p.depth ∷ hs) (part_depths-push ps qs q f)) ∙ le-ltb (max q.depth p.depth) 1024 deep

module _ {p : ℕ} where
  -- the trees of the expressions on the stack
  abbrev pub trees : List (Part (Residue p)) → List (Tree (Residue p))
  trees parts = map (λ part. tree_of part.expression) parts

  written_trees : (ps : List (Part (Residue p))) → nodes_on_stack ps ≡ flat_map nodes_of (trees ps)
  written_trees [] = refl
  written_trees (part ∷ ps) = ap (λ ns. nodes_of (tree_of part.expression) ++ ns) (written_trees ps)

  shallow_trees : (ps : List (Part (Residue p))) (k : ℕ) (d : Tree (Residue p)) → k < length (trees ps) → IsShallowForNodes (get_or (trees ps) k d)
  shallow_trees [] k d l = absurd (omega (arith, l))
  shallow_trees (part ∷ ps) zero d l = omega (arith, part.measured, part.shallow)
  shallow_trees (part ∷ ps) (suc k) d l = shallow_trees ps k d (omega (arith, l))

  depths_are : (ds : List ℕ) (ps : List (Part (Residue p))) → depths_on p ds (trees ps) ≡ part_depths_on ds ps
  depths_are ds [] = refl
  depths_are ds (part ∷ ps) = ap (λ d. depths_on p (d ∷ ds) (trees ps)) (sym part.measured) ∙ depths_are (part.depth ∷ ds) ps

  pub are_trees : (ps : List (Part (Residue p))) (nodes : List Node) → nodes_on_stack ps ≡ nodes → NodesAreTrees (trees ps) nodes
  are_trees ps nodes e = record { same = sym (written_trees ps) ∙ e; shallow = shallow_trees ps }

  -- A node for which the stack has no room is the first bad one.
  pub first_bad : (ps : List (Part (Residue p))) (nodes : List Node) (i : ℕ) → i < length nodes → nodes_on_stack ps ≡ take i nodes → has_room p (part_depths ps) (get_or nodes i (node 0 0 0)) ≡ false → IsFirstBadNode p nodes i
  first_bad ps nodes i there so_far none =
      let n = get_or nodes i (node 0 0 0) in
      let so_far_trees : take i nodes ≡ flat_map nodes_of (trees ps) = sym so_far ∙ written_trees ps in record {
        within = there;
        trees = trees ps;
        before = are_trees ps (take i nodes) so_far;
        bad = λ others rest lows same.
            none_begins p (trees ps) others n rest (shallow_trees ps) lows (ap (λ ds. has_room p ds n) (depths_are [] ps) ∙ none)
            (same ∙ ap (λ ns. ns ++ rest) (take_more nodes i (node 0 0 0) there ∙ ap (λ ns. ns ++ n ∷ []) so_far_trees));
      }

  -- one expression passes from what is left to what is there
  pub passed_part : (before after : List (SymbolicExpression (Residue p))) (left later : List (Part (Residue p))) (part : Part (Residue p)) (nodes : List Node) → after ≡ before ++ part.expression ∷ [] → left ≡ part ∷ later
      → NodesAreTrees (map tree_of before ++ trees left) nodes → NodesAreTrees (map tree_of after ++ trees later) nodes
  passed_part before after left later part nodes pushed next are =
      subst (λ ts. NodesAreTrees ts nodes)
      (sym (ap (λ es. map tree_of es ++ trees later) pushed
      ∙ (ap (λ ts. ts ++ trees later) (map_push tree_of before part.expression)
      ∙ (append_assoc (map tree_of before) (tree_of part.expression ∷ []) (trees later)
      ∙ ap (λ ps. map tree_of before ++ trees ps) (sym next))))) are

  pub passed_all : (all : List (SymbolicExpression (Residue p))) (left : List (Part (Residue p))) (nodes : List Node) → left ≡ [] → NodesAreTrees (map tree_of all ++ trees left) nodes → NodesAreTrees (map tree_of all) nodes
  passed_all all left nodes none are = subst (λ ts. NodesAreTrees ts nodes) (ap (λ ps. map tree_of all ++ trees ps) none ∙ append-nil (map tree_of all)) are
