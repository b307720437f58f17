-- The names of a normal form are in the hierarchy, and the predicates are in order and few.
use Rattle.std.proofs.Common.{min, leb, ◌-◌, ◌^◌, ◌↔◌, Bool, false, IsTrue, true≢false, ◌≡◌, ℕ, ◌+◌, ◌≤◌, List, [], ◌++◌, map, flat_map, length, get_or, All, Contains, sym, subst, ◌∙◌, arith}
use Rattle.std.proofs.lemmas.Bool.{leb-true, le-leb}
use Rattle.std.proofs.Math.Path.{fun_ext}
use Rattle.std.specs.Ordering.{nat_cmp}
use Rattle.std.proofs.lemmas.List.Elements.{All-nil, All-cons, All-append, All-contains, Contains-get_or, Contains-append_left, Contains-append_right}
use Rattle.dl_terms.specs.Order.{base_cmp}
use Rattle.dl_terms.specs.Sets.{IsSetOf}
use Rattle.dl_terms.specs.contracts.role.BaseOrd.TheImpl as base_impl
use Rattle.dl_terms.specs.declared.role.Base.{Base}
use Rattle.dl_terms.specs.declared.role.Base.TheVariants.{Named, Auxiliary}
use Rattle.dl_terms.specs.declared.role.Role.{Role}
use Rattle.dl_terms.specs.declared.role.Basic.{Basic}
use Rattle.dl_terms.specs.declared.role.Basic.TheVariants.{Class, SomeOf}
use Rattle.dl_terms.specs.declared.role.Negative.{Negative}
use Rattle.dl_terms.specs.declared.role.Negative.TheVariants.{Basics, Roles, NoLoop}
use Rattle.dl_terms.specs.declared.role.Normal.{Normal}
use Rattle.dl_terms.specs.declared.axiom.Signature.{Signature}
use Rattle.dl_terms.proofs.OrderLemmas.{numbers_linear, bases_linear}
use Rattle.dl_terms.proofs.DerivedLemmas as derived
use Rattle.dl_terms.proofs.MemberLemmas.{Contains-first}
use Rattle.dl_hier.specs.Predicates.{max_predicates, Predicates, bases, roles, basics, IsAuxiliary, AreInOrder}
use Rattle.dl_hier.specs.Rows.{IsNamedIn, IsBasicIn, HasNames, base_auxiliaries, role_auxiliaries, basic_auxiliaries, negative_auxiliaries, normal_auxiliaries, AreFew, ArePredicatesOf}
use Rattle.dl_hier.proofs.SortedLemmas.{no_longer, IsSetOf-no_longer}
use Rattle.dl_hier.proofs.MemberLemmas.{Contains-map_of, Contains-flat_map_of, All-flat_map}
use Rattle.dl_hier.proofs.PredicateLemmas.{base-role, role-base, known-class, known-some, property-known, class-known, some-known}

-- the derived order of role names is that of the definitions
pub base_order : (base_impl.cmp-value).it ≡ base_cmp
base_order = fun_ext (λ a. fun_ext (λ b. derived.bases a b))

-- ---- auxiliary roles

auxiliaries_of_base : (b : Base) → All IsAuxiliary (base_auxiliaries b)
auxiliaries_of_base (Named p) = All-nil IsAuxiliary
auxiliaries_of_base (Auxiliary p i c) = All-cons IsAuxiliary (Auxiliary p i c) [] tt (All-nil IsAuxiliary)

auxiliaries_of_basic : (b : Basic) → All IsAuxiliary (basic_auxiliaries b)
auxiliaries_of_basic (Class c) = All-nil IsAuxiliary
auxiliaries_of_basic (SomeOf r) = auxiliaries_of_base r.base

auxiliaries_of_negative : (n : Negative) → All IsAuxiliary (negative_auxiliaries n)
auxiliaries_of_negative (Basics b c) = All-append IsAuxiliary (basic_auxiliaries b) (basic_auxiliaries c) (auxiliaries_of_basic b) (auxiliaries_of_basic c)
auxiliaries_of_negative (Roles r s) = All-append IsAuxiliary (role_auxiliaries r) (role_auxiliaries s) (auxiliaries_of_base r.base) (auxiliaries_of_base s.base)
auxiliaries_of_negative (NoLoop r) = auxiliaries_of_base r.base

-- what a list has of each item, it has of all
each_of : {A : Type 0} (f : A → List Base) → ((x : A) → All IsAuxiliary (f x)) → (xs : List A) → All IsAuxiliary (flat_map f xs)
each_of f each xs = All-flat_map IsAuxiliary (λ x. Unit {0}) f (λ x h. each x) xs (λ k d h. tt)

only_auxiliaries : (normal : Normal) → All IsAuxiliary (normal_auxiliaries normal)
only_auxiliaries normal =
    All-append IsAuxiliary
    (flat_map (λ p. role_auxiliaries p.0 ++ role_auxiliaries p.1) normal.roles ++ flat_map (λ p. basic_auxiliaries p.0 ++ basic_auxiliaries p.1) normal.concepts)
    (flat_map (λ p. negative_auxiliaries p.1) normal.negatives)
    (All-append IsAuxiliary (flat_map (λ p. role_auxiliaries p.0 ++ role_auxiliaries p.1) normal.roles)
    (flat_map (λ p. basic_auxiliaries p.0 ++ basic_auxiliaries p.1) normal.concepts)
    (each_of (λ (p : Role × Role). role_auxiliaries p.0 ++ role_auxiliaries p.1)
    (λ p. All-append IsAuxiliary (role_auxiliaries p.0) (role_auxiliaries p.1) (auxiliaries_of_base p.0.base) (auxiliaries_of_base p.1.base)) normal.roles)
    (each_of (λ (p : Basic × Basic). basic_auxiliaries p.0 ++ basic_auxiliaries p.1)
    (λ p. All-append IsAuxiliary (basic_auxiliaries p.0) (basic_auxiliaries p.1) (auxiliaries_of_basic p.0) (auxiliaries_of_basic p.1)) normal.concepts))
    (each_of (λ (p : ℕ × Negative). negative_auxiliaries p.1) (λ p. auxiliaries_of_negative p.1) normal.negatives)

-- the sets of the signature's names and of the auxiliary roles are in order, and few where the condition says so
pub AreInOrder-sets : (signature : Signature) (normal : Normal) (p : Predicates) → AreFew signature normal → ArePredicatesOf signature normal p → AreInOrder p
AreInOrder-sets signature normal p few are = record {
  classes = are.classes.ascending;
  properties = are.properties.ascending;
  auxiliaries = are.auxiliaries.ascending;
  only_auxiliaries = λ k d h.
      let b = get_or p.auxiliaries k d in
      All-contains IsAuxiliary (normal_auxiliaries normal) b (only_auxiliaries normal) ((are.auxiliaries.members b).0 (Contains-get_or p.auxiliaries k d h));
  few =
      let one = IsSetOf-no_longer numbers_linear.total p.classes signature.classes are.classes in
      let two = IsSetOf-no_longer numbers_linear.total p.properties signature.roles are.properties in
      let three = no_longer bases_linear.total p.auxiliaries few.auxiliaries are.auxiliaries.ascending
      (λ b c. All-contains (Contains few.auxiliaries) (normal_auxiliaries normal) b few.each ((are.auxiliaries.members b).0 c)) in
      omega (arith, one, two, three, few.few);
}

-- the sets of copies of the lists
pub ArePredicatesOf-sets : (signature : Signature) (normal : Normal) (cs ps : List ℕ) (fs : List Base) (classes properties : List ℕ) (auxiliaries : List Base)
    → cs ≡ signature.classes → ps ≡ signature.roles → fs ≡ normal_auxiliaries normal → IsSetOf nat_cmp classes cs → IsSetOf nat_cmp properties ps
    → IsSetOf (base_impl.cmp-value).it auxiliaries fs
    → ArePredicatesOf signature normal (record { classes = classes; properties = properties; auxiliaries = auxiliaries })
ArePredicatesOf-sets signature normal cs ps fs classes properties auxiliaries e f g c p b = record {
  classes = subst (IsSetOf nat_cmp classes) e c;
  properties = subst (IsSetOf nat_cmp properties) f p;
  auxiliaries = subst (IsSetOf base_cmp auxiliaries) g (subst (λ R. IsSetOf R auxiliaries fs) base_order b);
}

-- ---- names that are known

module _ (signature : Signature) (normal : Normal) (p : Predicates) (are : ArePredicatesOf signature normal p) where
  base_known : (b : Base) → IsNamedIn signature.roles b → ((c : Base) → Contains (base_auxiliaries b) c → Contains (normal_auxiliaries normal) c) → Contains (bases p) b
  base_known (Named q) has within =
      Contains-append_left (map Named p.properties) p.auxiliaries (Named q) (Contains-map_of Named p.properties q ((are.properties.members q).1 has))
  base_known (Auxiliary q i c) has within =
      Contains-append_right (map Named p.properties) p.auxiliaries (Auxiliary q i c)
      ((are.auxiliaries.members (Auxiliary q i c)).1 (within (Auxiliary q i c) (Contains-first (Auxiliary q i c) [])))

  basic_known : (b : Basic) → IsBasicIn signature.classes signature.roles b → ((c : Base) → Contains (basic_auxiliaries b) c → Contains (normal_auxiliaries normal) c) → Contains (basics p) b
  basic_known (Class c) has within = known-class p c ((are.classes.members c).1 has)
  basic_known (SomeOf r) has within = known-some p r (base-role p r (base_known r.base has within))

  abbrev of_roles : List Base
  of_roles = flat_map (λ q. role_auxiliaries q.0 ++ role_auxiliaries q.1) normal.roles

  abbrev of_concepts : List Base
  of_concepts = flat_map (λ q. basic_auxiliaries q.0 ++ basic_auxiliaries q.1) normal.concepts

  abbrev of_negatives : List Base
  of_negatives = flat_map (λ q. negative_auxiliaries q.1) normal.negatives

  role_auxiliary : (row : Role × Role) → Contains normal.roles row → (c : Base) → Contains (role_auxiliaries row.0 ++ role_auxiliaries row.1) c
      → Contains (normal_auxiliaries normal) c
  role_auxiliary row has c h =
      Contains-append_left (of_roles ++ of_concepts) of_negatives c (Contains-append_left of_roles of_concepts c
      (Contains-flat_map_of (λ q. role_auxiliaries q.0 ++ role_auxiliaries q.1) normal.roles row c has h))

  concept_auxiliary : (row : Basic × Basic) → Contains normal.concepts row → (c : Base) → Contains (basic_auxiliaries row.0 ++ basic_auxiliaries row.1) c
      → Contains (normal_auxiliaries normal) c
  concept_auxiliary row has c h =
      Contains-append_left (of_roles ++ of_concepts) of_negatives c (Contains-append_right of_roles of_concepts c
      (Contains-flat_map_of (λ q. basic_auxiliaries q.0 ++ basic_auxiliaries q.1) normal.concepts row c has h))

  -- both sides of each inclusion are in the hierarchy
  pub role_rows_known : HasNames signature normal → All (λ q. Contains (roles p) q.0 × Contains (roles p) q.1) normal.roles
  role_rows_known names = λ k d h.
      let row = get_or normal.roles k d in
      let has = Contains-get_or normal.roles k d h in
      let named = names.roles k d h in (
        base-role p row.0 (base_known row.0.base named.0
            (λ c m. role_auxiliary row has c (Contains-append_left (role_auxiliaries row.0) (role_auxiliaries row.1) c m))),
        base-role p row.1 (base_known row.1.base named.1
            (λ c m. role_auxiliary row has c (Contains-append_right (role_auxiliaries row.0) (role_auxiliaries row.1) c m))),
      )

  pub concept_rows_known : HasNames signature normal → All (λ q. Contains (basics p) q.0 × Contains (basics p) q.1) normal.concepts
  concept_rows_known names = λ k d h.
      let row = get_or normal.concepts k d in
      let has = Contains-get_or normal.concepts k d h in
      let named = names.concepts k d h in (
        basic_known row.0 named.0 (λ c m. concept_auxiliary row has c (Contains-append_left (basic_auxiliaries row.0) (basic_auxiliaries row.1) c m)),
        basic_known row.1 named.1 (λ c m. concept_auxiliary row has c (Contains-append_right (basic_auxiliaries row.0) (basic_auxiliaries row.1) c m)),
      )

-- ---- the test of names and auxiliary roles

module _ (signature : Signature) (normal : Normal) (p : Predicates) (are : ArePredicatesOf signature normal p) (order : AreInOrder p) where
  base_named : (b : Base) → Contains (bases p) b → IsNamedIn signature.roles b
  base_named (Named q) c = (are.properties.members q).0 (property-known p order q c)
  base_named (Auxiliary q i d) c = tt

  basic_named : (b : Basic) → Contains (basics p) b → IsBasicIn signature.classes signature.roles b
  basic_named (Class c) h = (are.classes.members c).0 (class-known p c h)
  basic_named (SomeOf r) h = base_named r.base (role-base p r (some-known p r h))

  pub names_told : (answer : Bool) → AreFew signature normal → All (λ q. Contains (roles p) q.0 × Contains (roles p) q.1) normal.roles
      → IsTrue answer ↔ All (λ q. Contains (basics p) q.0 × Contains (basics p) q.1) normal.concepts
      → IsTrue answer ↔ (HasNames signature normal × AreFew signature normal)
  names_told answer are_few known says = (
    λ h. (
      record {
        roles = λ k d w. let row = known k d w in (
          base_named (get_or normal.roles k d).0.base (role-base p (get_or normal.roles k d).0 row.0),
          base_named (get_or normal.roles k d).1.base (role-base p (get_or normal.roles k d).1 row.1),
        );
        concepts = λ k d w. let row = says.0 h k d w in
            (basic_named (get_or normal.concepts k d).0 row.0, basic_named (get_or normal.concepts k d).1 row.1);
      },
      are_few,
    ),
    λ h. says.1 (concept_rows_known signature normal p are h.0),
  )

-- what is refused: what isn't few, and what isn't named
pub few_refused : (signature : Signature) (normal : Normal) (few : Bool) → few ≡ false → IsTrue few ↔ AreFew signature normal
    → IsTrue false ↔ (HasNames signature normal × AreFew signature normal)
few_refused signature normal few not_few says = (λ h. absurd (true≢false (sym h)), λ h. absurd (true≢false (sym (says.1 h.1) ∙ not_few)))

pub names_refused : (signature : Signature) (normal : Normal) (p : Predicates) → ArePredicatesOf signature normal p → (known : Bool) → known ≡ false
    → IsTrue known ↔ All (λ q. Contains (roles p) q.0 × Contains (roles p) q.1) normal.roles
    → IsTrue false ↔ (HasNames signature normal × AreFew signature normal)
names_refused signature normal p are known unknown says =
    (λ h. absurd (true≢false (sym h)), λ h. absurd (true≢false (sym (says.1 (role_rows_known signature normal p are h.0)) ∙ unknown)))

-- what is told of a slice is told of the list that it is
pub rows_told : {A : Type 0} (P : A → Type 0) (slice rows : List A) {answer : Bool} → slice ≡ rows → IsTrue answer ↔ All P slice → IsTrue answer ↔ All P rows
rows_told P slice rows {answer} same says = subst (λ l. IsTrue answer ↔ All P l) same says

-- a sum of three counts, held at 2^64 - 1
pub few_counted : (cs ps fs a b d names total : ℕ) → a ≡ cs → b ≡ ps → d ≡ fs → names ≡ min (a + b) (2 ^ 64 - 1) → total ≡ min (names + d) (2 ^ 64 - 1)
    → IsTrue (leb total max_predicates) ↔ (cs + ps + fs ≤ max_predicates)
few_counted cs ps fs a b d names total e f g sum all = (
  λ h. let k : total ≤ max_predicates = leb-true total max_predicates h in omega (arith, k, e, f, g, sum, all),
  λ h. le-leb total max_predicates (omega (arith, h, e, f, g, sum, all)),
)

-- few, where the set of the auxiliary roles makes it so
pub few_told : (signature : Signature) (normal : Normal) (set : List Base) → IsSetOf (base_impl.cmp-value).it set (normal_auxiliaries normal) → (answer : Bool)
    → IsTrue answer ↔ (length signature.classes + length signature.roles + length set ≤ max_predicates) → IsTrue answer ↔ AreFew signature normal
few_told signature normal set is answer says =
    let ascending : IsSetOf base_cmp set (normal_auxiliaries normal) = subst (λ R. IsSetOf R set (normal_auxiliaries normal)) base_order is in (
      λ h. record {
        auxiliaries = set;
        each = λ k d w. (ascending.members (get_or (normal_auxiliaries normal) k d)).1 (Contains-get_or (normal_auxiliaries normal) k d w);
        few = says.0 h;
      },
      λ h. says.1 (let shorter = no_longer bases_linear.total set h.auxiliaries ascending.ascending
          (λ b c. All-contains (Contains h.auxiliaries) (normal_auxiliaries normal) b h.each ((ascending.members b).0 c)) in
          let few = h.few in omega (arith, shorter, few)),
    )
