-- The graphs of a hierarchy: of its roles, and of its basic concepts. For private functions.
use Rattle.std.specs.Prelude.{◌≡◌, ℕ, ◌+◌, List, map, length}
use Rattle.dl_terms.specs.Roles.{named}
use Rattle.dl_terms.specs.declared.role.Role.{Role}
use Rattle.dl_terms.specs.declared.role.Basic.TheVariants.{Class}
use Rattle.dl_reach.specs.Digraph.{Digraph, EndsBelow}
use Rattle.dl_hier.specs.Predicates.{Predicates, AreInOrder, roles, basics}
use Rattle.dl_hier.specs.Hierarchy.{Hierarchy}
use Rattle.dl_hier.specs.Nodes.{ends_of}
use Rattle.dl_hier.specs.Ways.{Ways}

-- the edges are these steps in order, between the nodes of their terms
pub record AreEdges {A : Type 0} (d : A) (terms : List A) (steps : List (A × A)) (edges : List (ℕ × ℕ)) : Type 0 where
  pub ends : EndsBelow (length terms) edges
  pub are : map (ends_of d terms) edges ≡ steps

-- an edge whose ends are so many nodes later
abbrev pub shifted : ℕ → ℕ × ℕ → ℕ × ℕ
shifted by e = (by + e.0, by + e.1)

-- the hierarchy of predicates whose steps are the edges of two graphs
abbrev pub hierarchy_over : Predicates → Digraph → Digraph → Hierarchy
hierarchy_over p of_roles of_basics = record {
  predicates = p;
  role_steps = map (ends_of (named 0) (roles p)) of_roles.edges;
  concept_steps = map (ends_of (Class 0) (basics p)) of_basics.edges;
}

-- the predicates are in order, the list has the roles, and the nodes of the graphs are the roles and the basic concepts
pub record AreGraphsOf (p : Predicates) (list : List Role) (of_roles of_basics : Digraph) : Type 0 where
  pub order : AreInOrder p
  pub listed : list ≡ roles p
  pub role_nodes : of_roles.nodes ≡ length (roles p)
  pub role_ends : EndsBelow (length (roles p)) of_roles.edges
  pub basic_nodes : of_basics.nodes ≡ length (basics p)
  pub basic_ends : EndsBelow (length (basics p)) of_basics.edges

-- the graphs of a hierarchy, as they are kept: the roles in order, and of the basic concepts those of roles before the
-- classes
pub record AreWaysFor (p : Predicates) (list : List Role) (of_roles of_basics : Ways) : Type 0 where
  pub graphs : AreGraphsOf p list of_roles.graph of_basics.graph
  pub roles_first : of_roles.first ≡ length (roles p)
  pub roles_rest : of_roles.rest ≡ 0
  pub classes : of_basics.first ≡ length p.classes
  pub some : of_basics.rest ≡ length (roles p)
