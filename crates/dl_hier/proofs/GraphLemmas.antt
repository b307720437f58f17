-- The graphs of a hierarchy: edges for steps, and the hierarchy that they give.
use Rattle.std.proofs.Common.{◌≡◌, ℕ, ◌+◌, ◌<◌, ◌≤◌, ◌↔◌, List, [], ◌∷◌, ◌++◌, map, length, get_or, take, Contains, refl, sym, ap, ap₂, subst, ◌∙◌, arith}
use Rattle.std.proofs.lemmas.List.{map-append, take_more, get_or_default}
use Rattle.std.proofs.lemmas.List.Concat.{flat_map-append}
use Rattle.std.proofs.lemmas.List.Elements.{All-nil, All-push, All-head, All-tail, All-append, All-map, All-weaker, All-contains, Contains-get_or}
use Rattle.dl_terms.specs.Roles.{named, inverse_of}
use Rattle.dl_terms.specs.declared.role.Role.{Role}
use Rattle.dl_terms.specs.declared.role.Basic.{Basic}
use Rattle.dl_terms.specs.declared.role.Basic.TheVariants.{Class, SomeOf}
use Rattle.dl_terms.specs.declared.role.Normal.{Normal}
use Rattle.dl_terms.specs.declared.axiom.Axiom.{Axiom}
use Rattle.dl_reach.specs.Digraph.{Digraph, EndsBelow}
use Rattle.dl_hier.specs.Predicates.{Predicates, AreInOrder, roles, basics}
use Rattle.dl_hier.specs.Rows.{HasInclusions, role_steps, concept_steps}
use Rattle.dl_hier.specs.Hierarchy.{IsHierarchyOf}
use Rattle.dl_hier.specs.Nodes.{StandsAt, ends_of}
use Rattle.dl_hier.specs.Ways.{Ways, AreWaysOf}
use Rattle.dl_hier.specs.Graphs.{AreEdges, AreWaysFor, shifted, hierarchy_over}
use Rattle.dl_hier.proofs.MemberLemmas.{Contains-map, Contains-map_of, StandsAt-default}
use Rattle.dl_hier.proofs.PredicateLemmas.{basic-at_role, length-basics}
use Rattle.dl_hier.proofs.StepLemmas.{IsHierarchyOf-rows}

-- ---- edges

module _ {A : Type 0} (d : A) (terms : List A) where
  pub AreEdges-none : AreEdges d terms [] []
  AreEdges-none = record { ends = All-nil (λ e. (e.0 < length terms) × (e.1 < length terms)); are = refl }

  pub AreEdges-push : (steps : List (A × A)) (edges : List (ℕ × ℕ)) (i j : ℕ) (a b : A) → AreEdges d terms steps edges → StandsAt terms i a
      → StandsAt terms j b → AreEdges d terms (steps ++ (a, b) ∷ []) (edges ++ (i, j) ∷ [])
  AreEdges-push steps edges i j a b old from to = record {
    ends = All-push (λ e. (e.0 < length terms) × (e.1 < length terms)) edges (i, j) old.ends (from.within, to.within);
    are = map-append (ends_of d terms) edges ((i, j) ∷ [])
        ∙ ap₂ (λ xs x. xs ++ x ∷ []) old.are (ap₂ (λ x y. (x, y)) (StandsAt-default d from) (StandsAt-default d to));
  }

-- one more row has both of its steps
pub role_steps-more : (rows : List (Role × Role)) (i : ℕ) (p : Role × Role) → i < length rows → get_or rows i p ≡ p
    → role_steps (take (i + 1) rows) ≡ (role_steps (take i rows) ++ p ∷ []) ++ (inverse_of p.0, inverse_of p.1) ∷ []
role_steps-more rows i p within same =
    ap role_steps (take_more rows i p within ∙ ap (λ x. take i rows ++ x ∷ []) same)
    ∙ flat_map-append (λ q. q ∷ (inverse_of q.0, inverse_of q.1) ∷ []) (take i rows) (p ∷ [])
    ∙ two (role_steps (take i rows)) p (inverse_of p.0, inverse_of p.1)
  where
    two : (xs : List (Role × Role)) (x y : Role × Role) → xs ++ (x ∷ y ∷ [] ++ []) ≡ (xs ++ x ∷ []) ++ y ∷ []
    two [] x y = refl
    two (z ∷ zs) x y = ap (λ l. z ∷ l) (two zs x y)

-- one more row of a list, with the edges that are pushed for it
pub edges_row : {A : Type 0} (d : A) (terms : List A) (rows : List (A × A)) (i : ℕ) (e : A × A) (old new : List (ℕ × ℕ)) (from to : ℕ) → i < length rows
    → AreEdges d terms (take i rows) old → StandsAt terms from (get_or rows i e).0 → StandsAt terms to (get_or rows i e).1
    → new ≡ old ++ (from, to) ∷ [] → AreEdges d terms (take (i + 1) rows) new
edges_row d terms rows i e old new from to within so_far at_from at_to pushed =
    subst (λ l. AreEdges d terms l new) (sym (take_more rows i e within))
    (subst (AreEdges d terms (take i rows ++ get_or rows i e ∷ [])) (sym pushed)
    (AreEdges-push d terms (take i rows) old from to (get_or rows i e).0 (get_or rows i e).1 so_far at_from at_to))

pub role_edges_row : (terms : List Role) (rows : List (Role × Role)) (i : ℕ) (e : Role × Role) (old middle new : List (ℕ × ℕ)) (a b c f : ℕ)
    → i < length rows → AreEdges (named 0) terms (role_steps (take i rows)) old → StandsAt terms a (get_or rows i e).0 → StandsAt terms b (get_or rows i e).1
    → middle ≡ old ++ (a, b) ∷ [] → StandsAt terms c (inverse_of (get_or rows i e).0) → StandsAt terms f (inverse_of (get_or rows i e).1)
    → new ≡ middle ++ (c, f) ∷ [] → AreEdges (named 0) terms (role_steps (take (i + 1) rows)) new
role_edges_row terms rows i e old middle new a b c f within so_far at_a at_b pushed at_c at_f pushed_too =
    let row = get_or rows i e in
    let first = AreEdges-push (named 0) terms (role_steps (take i rows)) old a b row.0 row.1 so_far at_a at_b in
    let both = AreEdges-push (named 0) terms (role_steps (take i rows) ++ row ∷ []) (old ++ (a, b) ∷ []) c f (inverse_of row.0) (inverse_of row.1) first at_c at_f in
    subst (λ l. AreEdges (named 0) terms l new) (sym (role_steps-more rows i row within (get_or_default rows i row e within)))
    (subst (AreEdges (named 0) terms ((role_steps (take i rows) ++ row ∷ []) ++ (inverse_of row.0, inverse_of row.1) ∷ []))
    (sym (pushed_too ∙ ap (λ l. l ++ (c, f) ∷ []) pushed)) both)

-- the steps between roles, as steps between "some" of them
module _ (p : Predicates) (edges : List (ℕ × ℕ)) (steps : List (Role × Role)) (of_roles : AreEdges (named 0) (roles p) steps edges) where
  at_itself : (i : ℕ) → i < length (roles p) → StandsAt (roles p) i (get_or (roles p) i (named 0))
  at_itself i within = record { within = within; is = get_or_default (roles p) i (get_or (roles p) i (named 0)) (named 0) within }

  some_end : (i : ℕ) → i < length (roles p) → get_or (basics p) (length p.classes + i) (Class 0) ≡ SomeOf (get_or (roles p) i (named 0))
  some_end i within = StandsAt-default (Class 0) (basic-at_role p (at_itself i within))

  some_ends : (es : List (ℕ × ℕ)) → EndsBelow (length (roles p)) es
      → map (ends_of (Class 0) (basics p)) (map (shifted (length p.classes)) es) ≡ map (λ q. (SomeOf q.0, SomeOf q.1)) (map (ends_of (named 0) (roles p)) es)
  some_ends [] ends = refl
  some_ends (e ∷ es) ends =
      let at : (e.0 < length (roles p)) × (e.1 < length (roles p)) = All-head (λ x. (x.0 < length (roles p)) × (x.1 < length (roles p))) e es ends in
      let rest : EndsBelow (length (roles p)) es = All-tail (λ x. (x.0 < length (roles p)) × (x.1 < length (roles p))) e es ends in
      ap₂ (λ x xs. x ∷ xs) (ap₂ (λ x y. (x, y)) (some_end e.0 at.0) (some_end e.1 at.1)) (some_ends es rest)

  shifted_ends : EndsBelow (length (basics p)) (map (shifted (length p.classes)) edges)
  shifted_ends =
      All-map (λ x. (x.0 < length (basics p)) × (x.1 < length (basics p))) (shifted (length p.classes)) edges
      (All-weaker (λ e. (e.0 < length (roles p)) × (e.1 < length (roles p)))
      (λ e. (length p.classes + e.0 < length (basics p)) × (length p.classes + e.1 < length (basics p)))
      (λ e h. let l = length-basics p in (omega (arith, l, h.0), omega (arith, l, h.1))) edges of_roles.ends)

  -- the edges of concept inclusions, and behind them those of the steps between roles
  pub AreEdges-concepts : (rows : List (Basic × Basic)) (of_rows : List (ℕ × ℕ)) → AreEdges (Class 0) (basics p) rows of_rows
      → AreEdges (Class 0) (basics p) (concept_steps steps rows) (of_rows ++ map (shifted (length p.classes)) edges)
  AreEdges-concepts rows of_rows old = record {
    ends = All-append (λ e. (e.0 < length (basics p)) × (e.1 < length (basics p))) of_rows (map (shifted (length p.classes)) edges) old.ends shifted_ends;
    are = map-append (ends_of (Class 0) (basics p)) of_rows (map (shifted (length p.classes)) edges)
        ∙ ap₂ (λ x y. x ++ y) old.are (some_ends edges of_roles.ends ∙ ap (map (λ q. (SomeOf q.0, SomeOf q.1))) of_roles.are);
  }

-- ---- graphs with the same edges, in any order

abbrev pub SameEdges : List (ℕ × ℕ) → List (ℕ × ℕ) → Type 0
SameEdges edges others = (a b : ℕ) → Contains edges (a, b) ↔ Contains others (a, b)

pub ends_same : (n : ℕ) (edges others : List (ℕ × ℕ)) → SameEdges edges others → EndsBelow n others → EndsBelow n edges
ends_same n edges others same ends = λ k d h.
    let e = get_or edges k d in
    All-contains (λ x. (x.0 < n) × (x.1 < n)) others e ends ((same e.0 e.1).0 (Contains-get_or edges k d h))

module _ {A : Type 0} (d : A) (terms : List A) (steps : List (A × A)) (edges others : List (ℕ × ℕ)) (same : SameEdges edges others)
    (are : AreEdges d terms steps others) where
  pub steps_same : (p : A × A) → Contains (map (ends_of d terms) edges) p ↔ Contains steps p
  steps_same p = (
    λ c. let w = Contains-map (ends_of d terms) edges p c in
        subst (λ l. Contains l p) are.are
        (subst (Contains (map (ends_of d terms) others)) w.2 (Contains-map_of (ends_of d terms) others w.0 ((same w.0.0 w.0.1).0 w.1))),
    λ c. let w = Contains-map (ends_of d terms) others p (subst (λ l. Contains l p) (sym are.are) c) in
        subst (Contains (map (ends_of d terms) edges)) w.2 (Contains-map_of (ends_of d terms) edges w.0 ((same w.0.0 w.0.1).1 w.1)),
  )

-- the graphs of the steps of the rows of a normal form are a hierarchy of each list of axioms with these rows
pub IsHierarchyOf-graphs : (p : Predicates) (normal : Normal) (of_roles of_basics : Digraph) (role_edges basic_edges : List (ℕ × ℕ))
    → AreEdges (named 0) (roles p) (role_steps normal.roles) role_edges
    → AreEdges (Class 0) (basics p) (concept_steps (role_steps normal.roles) normal.concepts) basic_edges
    → SameEdges of_roles.edges role_edges → SameEdges of_basics.edges basic_edges
    → (axioms : List Axiom) → HasInclusions axioms normal → IsHierarchyOf (hierarchy_over p of_roles of_basics) axioms
IsHierarchyOf-graphs p normal of_roles of_basics role_edges basic_edges r b same_r same_b =
    IsHierarchyOf-rows (hierarchy_over p of_roles of_basics) normal
    (steps_same (named 0) (roles p) (role_steps normal.roles) of_roles.edges role_edges same_r r)
    (steps_same (Class 0) (basics p) (concept_steps (role_steps normal.roles) normal.concepts) of_basics.edges basic_edges same_b b)

-- ---- the graphs that are built

-- all edges of the graph of basic concepts
pub all_edges : (p : Predicates) (steps : List (Role × Role)) (role_edges slice : List (ℕ × ℕ)) (rows : List (Basic × Basic)) (of_rows new : List (ℕ × ℕ)) (by : ℕ)
    → AreEdges (named 0) (roles p) steps role_edges → AreEdges (Class 0) (basics p) rows of_rows → by ≡ length p.classes → slice ≡ role_edges
    → new ≡ of_rows ++ map (shifted by) slice → AreEdges (Class 0) (basics p) (concept_steps steps rows) new
all_edges p steps role_edges slice rows of_rows new by of_roles of_concepts count same pushed =
    subst (AreEdges (Class 0) (basics p) (concept_steps steps rows))
    (sym (pushed ∙ ap (λ n. of_rows ++ map (shifted n) slice) count ∙ ap (λ l. of_rows ++ map (shifted (length p.classes)) l) same))
    (AreEdges-concepts p role_edges steps of_roles rows of_rows of_concepts)

pub ends_at_most : (n m : ℕ) (edges slice : List (ℕ × ℕ)) → slice ≡ edges → EndsBelow n edges → n ≤ m → EndsBelow m slice
ends_at_most n m edges slice same ends le =
    subst (EndsBelow m) (sym same)
    (All-weaker (λ e. (e.0 < n) × (e.1 < n)) (λ e. (e.0 < m) × (e.1 < m)) (λ e h. (omega (arith, h.0, le), omega (arith, h.1, le))) edges ends)

-- what is built from the rows of a normal form
module _ (p : Predicates) (normal : Normal) (role_rows : List (Role × Role)) (concept_rows : List (Basic × Basic)) (of_roles of_basics slice : List (ℕ × ℕ))
    (are_roles : role_rows ≡ normal.roles) (are_concepts : concept_rows ≡ normal.concepts) (same : slice ≡ of_roles)
    (of_rows : AreEdges (named 0) (roles p) (role_steps role_rows) of_roles)
    (of_concepts : (steps : List (Role × Role)) → AreEdges (named 0) (roles p) steps slice
    → AreEdges (Class 0) (basics p) (concept_steps steps concept_rows) of_basics) where
  pub built_roles : AreEdges (named 0) (roles p) (role_steps normal.roles) of_roles
  built_roles = subst (λ l. AreEdges (named 0) (roles p) (role_steps l) of_roles) are_roles of_rows

  pub built_basics : AreEdges (Class 0) (basics p) (concept_steps (role_steps normal.roles) normal.concepts) of_basics
  built_basics =
      subst (λ l. AreEdges (Class 0) (basics p) (concept_steps (role_steps normal.roles) l) of_basics) are_concepts
      (of_concepts (role_steps normal.roles) (subst (AreEdges (named 0) (roles p) (role_steps normal.roles)) (sym same) built_roles))

  module _ (role_slice basic_slice : List (ℕ × ℕ)) (same_r : role_slice ≡ of_roles) (same_b : basic_slice ≡ of_basics) (r b : Ways)
      (is_r : AreWaysOf (length (roles p)) 0 role_slice r) (is_b : AreWaysOf (length p.classes) (length (roles p)) basic_slice b) where
    same_roles : SameEdges r.graph.edges of_roles
    same_roles = subst (SameEdges r.graph.edges) same_r is_r.same

    same_basics : SameEdges b.graph.edges of_basics
    same_basics = subst (SameEdges b.graph.edges) same_b is_b.same

    pub built_hierarchy : (axioms : List Axiom) → HasInclusions axioms normal → IsHierarchyOf (hierarchy_over p r.graph b.graph) axioms
    built_hierarchy = IsHierarchyOf-graphs p normal r.graph b.graph of_roles of_basics built_roles built_basics same_roles same_basics

    pub built : (list : List Role) → AreInOrder p → list ≡ roles p → AreWaysFor p list r b
    built list order listed = record {
      graphs = record {
        order = order;
        listed = listed;
        role_nodes = let n = is_r.nodes in omega (arith, n);
        role_ends = ends_same (length (roles p)) r.graph.edges of_roles same_roles built_roles.ends;
        basic_nodes = let n = is_b.nodes in let l = length-basics p in omega (arith, n, l);
        basic_ends = ends_same (length (basics p)) b.graph.edges of_basics same_basics built_basics.ends;
      };
      roles_first = is_r.first_is;
      roles_rest = is_r.rest_is;
      classes = is_b.first_is;
      some = is_b.rest_is;
    }
