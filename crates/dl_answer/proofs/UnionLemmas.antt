-- The tuples of the disjuncts of a rewriting, those of two parts united.
use Rattle.std.proofs.Common.{◌≡◌, ℕ, Result, Ok, Err, ◌<◌, ◌≤◌, ◌↔◌, ◌⊎◌, inl, inr, List, [], ◌++◌, map, length, get_or, refl, sym, ap, subst, ◌∙◌, arith}
use Rattle.std.specs.Prelude.{IfOk}
use Rattle.std.specs.List.{All, Contains}
use Rattle.std.proofs.lemmas.List.{get_or_default}
use Rattle.std.proofs.lemmas.List.Elements.{All-contains, Contains-get_or, Contains-append_left, Contains-append_right, Contains-append_cases}
use Rattle.dl_terms.specs.Roles.{named}
use Rattle.dl_terms.specs.Table.{Table}
use Rattle.dl_terms.specs.Answers.{IsCertain}
use Rattle.dl_terms.specs.declared.role.Base.TheVariants.{Named}
use Rattle.dl_terms.specs.declared.axiom.Axiom.{Axiom}
use Rattle.dl_terms.specs.declared.axiom.Fact.{Fact}
use Rattle.dl_terms.specs.declared.axiom.Fact.TheVariants.{Link}
use Rattle.dl_terms.specs.declared.query.Query.{Query}
use Rattle.dl_terms.specs.declared.query.Disjunct.{Disjunct}
use Rattle.dl_hier.specs.Predicates.{Predicates, roles}
use Rattle.dl_hier.specs.Hierarchy.{Hierarchy, IsHierarchyOf}
use Rattle.dl_hier.proofs.MemberLemmas.{Contains-map_of}
use Rattle.dl_hier.proofs.PredicateLemmas.{base-role}
use Rattle.dl_join.specs.Tuples.{AreExactly, AreMoreThan}
use Rattle.dl_join.specs.declared.fault.JoinFault.{JoinFault}
use Rattle.dl_join.specs.declared.fault.JoinFault.TheVariants.{TooMany, NoMemory}
use Rattle.dl_rewrite.specs.Known.{HasRolesOf, LinksAreKnown}
use Rattle.dl_rewrite.specs.OverNames.{HasOverNames, SomeHasOverNames}
use Rattle.dl_rewrite.specs.Shape.{IsShapedFor}
use Rattle.dl_answer.specs.Facts.{HasPredicate}
use Rattle.dl_answer.specs.Probes.{AreBehind}
use Rattle.dl_answer.specs.Replies.{GivesTuples}
use Rattle.dl_answer.specs.Searches.{FindsTuples}
use Rattle.dl_answer.proofs.StepLemmas.{exactly_same, over_more}
use Rattle.dl_answer.proofs.TupleLemmas.{exactly_none}
use Rattle.dl_answer.proofs.DecidedLemmas.{some_exist}

-- ---- certain answers

-- the roles of facts over the predicates of a hierarchy are its roles
links_of : (facts : List Fact) (p : Predicates) → All (HasPredicate p.classes p.properties) facts
    → LinksAreKnown facts (roles p)
links_of facts p known q a b c =
    base-role p (named q) (Contains-append_left (map Named p.properties) p.auxiliaries (Named q)
    (Contains-map_of Named p.properties q
    (All-contains (HasPredicate p.classes p.properties) facts (Link q a b) known c)))

gives_same : (P Q : List ℕ → Type 0) → ((t : List ℕ) → P t ↔ Q t) → (limit : ℕ) (result : Result Table JoinFault)
    → GivesTuples P limit result → GivesTuples Q limit result
gives_same P Q same limit (Ok table) g = (exactly_same P Q same table.tuples g.0, g.1)
gives_same P Q same limit (Err TooMany) g =
    record { tuples = g.tuples; exact = exactly_same P Q same g.tuples g.exact; longer = g.longer }
gives_same P Q same limit (Err NoMemory) g = tt

-- what a rewriting gives is what is certain
pub certain_given : (Behind : List Axiom → List Fact → Type 0) (h : Hierarchy) (q : Query) (ds : List Disjunct) (limit : ℕ)
    (result : Result Table JoinFault)
    → ((axioms : List Axiom) → IsHierarchyOf h axioms → HasRolesOf axioms (roles h.predicates) → (facts : List Fact)
    → LinksAreKnown facts (roles h.predicates) → (t : List ℕ)
    → IsCertain axioms facts q t ↔ SomeHasOverNames axioms facts ds t)
    → ((axioms : List Axiom) (facts : List Fact) → Behind axioms facts
    → GivesTuples (SomeHasOverNames axioms facts ds) limit result)
    → (axioms : List Axiom) (facts : List Fact) → Behind axioms facts → AreBehind h axioms facts
    → GivesTuples (IsCertain axioms facts q) limit result
certain_given Behind h q ds limit result exact gives axioms facts is behind =
    let same = exact axioms behind.hierarchy behind.has_roles facts (links_of facts h.predicates behind.known) in
    gives_same (SomeHasOverNames axioms facts ds) (IsCertain axioms facts q) (λ t. ((same t).1, (same t).0)) limit result
    (gives axioms facts is)

-- ---- disjuncts in two parts

-- the tuples of no disjunct, and of one
pub none_given : (axioms : List Axiom) (facts : List Fact) (ds : List Disjunct) (limit : ℕ) (table : Table)
    → length ds ≡ 0 → table.tuples ≡ [] → GivesTuples (SomeHasOverNames axioms facts ds) limit (Ok table)
none_given axioms facts ds limit table nothing none = (
  subst (AreExactly (SomeHasOverNames axioms facts ds)) (sym none)
      (exactly_none (SomeHasOverNames axioms facts ds)
      (λ t some. let inside = some.is_one.1 in absurd (omega (arith, inside, nothing)))),
  omega (arith, ap length none),
)

pub one_given : (axioms : List Axiom) (facts : List Fact) (ds : List Disjunct) (d : Disjunct) (limit : ℕ)
    (result : Result Table JoinFault) → length ds ≡ 1 → d ≡ get_or ds 0 d
    → GivesTuples (HasOverNames axioms facts d) limit result
    → GivesTuples (SomeHasOverNames axioms facts ds) limit result
one_given axioms facts ds d limit result single is =
    gives_same (HasOverNames axioms facts d) (SomeHasOverNames axioms facts ds) (λ t. (
      λ has. record { disjunct = d; is_one = (0, omega (arith, single), sym is); has = has },
      λ some.
          let first : some.is_one.0 ≡ 0 = omega (arith, some.is_one.1, single) in
          let inside : 0 < length ds = omega (arith, single) in
          subst (λ e. HasOverNames axioms facts e t)
          (sym some.is_one.2 ∙ (ap (λ k. get_or ds k some.disjunct) first ∙ (get_or_default ds 0 some.disjunct d inside ∙ sym is)))
          some.has,
    )) limit result

-- the shape of one of some disjuncts
pub shaped_at : (q : Query) (ds : List Disjunct) → All (IsShapedFor q) ds → (i : ℕ) (d : Disjunct) → i < length ds
    → d ≡ get_or ds i d → IsShapedFor q d
shaped_at q ds shaped i d inside is = subst (IsShapedFor q) (sym is) (shaped i d inside)

-- what a search for the tuples of the only disjunct finds
pub finds_one : (Behind : List Axiom → List Fact → Type 0) (q : Query) (ds : List Disjunct) (d : Disjunct) (limit : ℕ)
    (result : Result Table JoinFault) → All (IsShapedFor q) ds → length ds ≡ 1 → d ≡ get_or ds 0 d
    → FindsTuples Behind (λ axioms facts. HasOverNames axioms facts d) (length d.head) limit result
    → FindsTuples Behind (λ axioms facts. SomeHasOverNames axioms facts ds) (length q.head) limit result
finds_one Behind q ds d limit result shaped single is finds = record {
  ascending = finds.ascending;
  width =
      subst (λ n. IfOk result (λ table. table.width ≡ n))
      (shaped_at q ds shaped 0 d (omega (arith, single)) is).head finds.width;
  within = finds.within;
  tuples = λ axioms facts behind. one_given axioms facts ds d limit result single is (finds.tuples axioms facts behind);
}

-- what all disjuncts are, those of a part are
pub part_shaped : (q : Query) (ds part : List Disjunct) → ((d : Disjunct) → Contains part d → Contains ds d)
    → All (IsShapedFor q) ds → All (IsShapedFor q) part
part_shaped q ds part among shaped k d lt =
    All-contains (IsShapedFor q) ds (get_or part k d) shaped (among (get_or part k d) (Contains-get_or part k d lt))

module _ (ds front back : List Disjunct) (whole : ds ≡ front ++ back) where
  pub in_front : (d : Disjunct) → Contains front d → Contains ds d
  in_front d c = subst (λ l. Contains l d) (sym whole) (Contains-append_left front back d c)

  pub in_back : (d : Disjunct) → Contains back d → Contains ds d
  in_back d c = subst (λ l. Contains l d) (sym whole) (Contains-append_right front back d c)

  in_either : (axioms : List Axiom) (facts : List Fact) (t : List ℕ)
      → (SomeHasOverNames axioms facts front t ⊎ SomeHasOverNames axioms facts back t) ↔ SomeHasOverNames axioms facts ds t
  in_either axioms facts t = (
    λ either. elim either [
      | inl some ↦ record { disjunct = some.disjunct; is_one = in_front some.disjunct some.is_one; has = some.has }
      | inr some ↦ record { disjunct = some.disjunct; is_one = in_back some.disjunct some.is_one; has = some.has }
    ],
    λ some. elim (Contains-append_cases front back some.disjunct
        (subst (λ l. Contains l some.disjunct) whole some.is_one)) [
          | inl there ↦ inl record { disjunct = some.disjunct; is_one = there; has = some.has }
          | inr there ↦ inr record { disjunct = some.disjunct; is_one = there; has = some.has }
        ],
  )

module _ (h : Hierarchy) (q : Query) (limit : ℕ) (ds : List Disjunct)
    (shaped : All (IsShapedFor q) ds) (axioms : List Axiom) (facts : List Fact) (behind : AreBehind h axioms facts)
  where
    -- where a part has too many tuples, all have
    pub part_over : (part : List Disjunct) → ((d : Disjunct) → Contains part d → Contains ds d) → (e : JoinFault)
        → GivesTuples (SomeHasOverNames axioms facts part) limit (Err e)
        → GivesTuples (SomeHasOverNames axioms facts ds) limit (Err e)
    part_over part among TooMany over =
        over_more limit (SomeHasOverNames axioms facts part) (SomeHasOverNames axioms facts ds)
        (λ t some. record { disjunct = some.disjunct; is_one = among some.disjunct some.is_one; has = some.has })
        record {
          tuples = over.tuples;
          ascending = over.exact.ascending;
          each = λ k t lt. (over.exact.exact (get_or over.tuples k t)).0 (Contains-get_or over.tuples k t lt);
          longer = over.longer;
        }
        (some_exist axioms facts h behind q ds shaped)
    part_over part among NoMemory over = tt

    module _ (front back : List Disjunct) (whole : ds ≡ front ++ back) (one two : Table)
        (has_one : AreExactly (SomeHasOverNames axioms facts front) one.tuples)
        (has_two : AreExactly (SomeHasOverNames axioms facts back) two.tuples) where
      abbrev Either : List ℕ → Type 0
      Either tuple = Contains one.tuples tuple ⊎ Contains two.tuples tuple

      either_has : (t : List ℕ) → Either t ↔ SomeHasOverNames axioms facts ds t
      either_has t = (
        λ either. (in_either ds front back whole axioms facts t).0 (elim either [
          | inl c ↦ inl ((has_one.exact t).0 c)
          | inr c ↦ inr ((has_two.exact t).0 c)
        ]),
        λ some. elim ((in_either ds front back whole axioms facts t).1 some) [
          | inl has ↦ inl ((has_one.exact t).1 has)
          | inr has ↦ inr ((has_two.exact t).1 has)
        ],
      )

      -- the union of the tuples of both parts
      pub both_given : (result : Result Table JoinFault) → IfOk result (λ all. AreExactly Either all.tuples)
          → IfOk result (λ all. length all.tuples ≤ limit) → (result ≡ Err TooMany → AreMoreThan limit Either)
          → GivesTuples (SomeHasOverNames axioms facts ds) limit result
      both_given (Ok all) exact within many =
          (exactly_same Either (SomeHasOverNames axioms facts ds) either_has all.tuples exact, within)
      both_given (Err TooMany) exact within many =
          over_more limit Either (SomeHasOverNames axioms facts ds) (λ t. (either_has t).0) (many refl)
          (some_exist axioms facts h behind q ds shaped)
      both_given (Err NoMemory) exact within many = tt
