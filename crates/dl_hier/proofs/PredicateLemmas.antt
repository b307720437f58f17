-- The roles and basic concepts of a hierarchy: in order, and at which index each stands.
use Rattle.std.proofs.Common.{◌≡◌, Option, Some, None, MatchOption, ℕ, zero, suc, ◌+◌, ◌*◌, ◌<◌, Bool, true, false, List, [], ◌∷◌, map, flat_map, length, get_or, All, Contains, refl, sym, ap, subst, ◌∙◌, ⊎_elim, arith, length-append}
use Rattle.std.specs.declared.cmp.Ordering.TheVariants.{Less}
use Rattle.std.specs.Ordering.{ordering_then, nat_cmp}
use Rattle.std.specs.Cmp.{tied_itself}
use Rattle.std.specs.List.Sorted.{IsStrictlySortedBy}
use Rattle.std.proofs.lemmas.List.{length-map}
use Rattle.std.proofs.lemmas.List.Elements.{All-from_recursion, All-nil, All-cons, All-map, All-weaker, All-from_get_or, All-contains, Contains-append_left, Contains-append_right, Contains-append_cases}
use Rattle.dl_terms.specs.Roles.{inverse_of}
use Rattle.dl_terms.specs.Order.{flag, base_cmp, role_cmp, basic_cmp}
use Rattle.dl_terms.specs.declared.role.Base.{Base}
use Rattle.dl_terms.specs.declared.role.Base.TheVariants.{Named, Auxiliary}
use Rattle.dl_terms.specs.declared.role.Role.{Role}
use Rattle.dl_terms.specs.declared.role.Basic.{Basic}
use Rattle.dl_terms.specs.declared.role.Basic.TheVariants.{Class, SomeOf}
use Rattle.dl_terms.proofs.OrderLemmas.{bases_linear, roles_linear, basics_linear}
use Rattle.dl_hier.specs.Predicates.{Predicates, both_ways, bases, roles, basics, IsAuxiliary, AreInOrder}
use Rattle.dl_hier.specs.Nodes.{StandsAt}
use Rattle.dl_hier.proofs.SortedLemmas.{sorted-append, sorted-map, one_index}
use Rattle.dl_hier.proofs.MemberLemmas.{Contains-map, Contains-map_of, Contains-flat_map, All-flat_map, StandsAt-Contains, StandsAt-map, StandsAt-left, StandsAt-right}

-- a role name as a role
abbrev pub way : Base → Bool → Role
way b i = record { base = b; inverse = i }

-- ---- in order

named_below_auxiliaries : (p : ℕ) (b : Base) → IsAuxiliary b → base_cmp (Named p) b ≡ Less
named_below_auxiliaries p (Named q) h = absurd h
named_below_auxiliaries p (Auxiliary q i c) h = refl

module _ (p : Predicates) (order : AreInOrder p) where
  pub bases-ascend : IsStrictlySortedBy base_cmp (bases p)
  bases-ascend =
      sorted-append base_cmp (map Named p.properties) p.auxiliaries (sorted-map nat_cmp base_cmp Named (λ x y. refl) p.properties order.properties)
      order.auxiliaries
      (All-map (λ b. All (λ c. base_cmp b c ≡ Less) p.auxiliaries) Named p.properties
      (All-from_get_or (λ q. All (λ c. base_cmp (Named q) c ≡ Less) p.auxiliaries) p.properties 0
      (λ i h. All-weaker IsAuxiliary (λ c. base_cmp (Named (get_or p.properties i 0)) c ≡ Less) (named_below_auxiliaries (get_or p.properties i 0)) p.auxiliaries
      order.only_auxiliaries)))

-- a role comes before those of later role names
way_below : (r : Role) (c : Base) → base_cmp r.base c ≡ Less → All (λ s. role_cmp r s ≡ Less) (both_ways c)
way_below r c less =
    let each : (j : Bool) → role_cmp r (way c j) ≡ Less = λ j. ap (λ o. ordering_then o (nat_cmp (flag r.inverse) (flag j))) less in
    All-cons (λ s. role_cmp r s ≡ Less) (way c false) (way c true ∷ []) (each false)
    (All-cons (λ s. role_cmp r s ≡ Less) (way c true) [] (each true) (All-nil (λ s. role_cmp r s ≡ Less)))

plain_below_inverse : (b : Base) → role_cmp (way b false) (way b true) ≡ Less
plain_below_inverse b = ap (λ o. ordering_then o (nat_cmp 0 1)) (tied_itself bases_linear.total b)

both_ascend : (b : Base) → IsStrictlySortedBy role_cmp (both_ways b)
unfolding IsStrictlySortedBy
both_ascend b = ((plain_below_inverse b, tt), (tt, tt))

ways-ascend : (bs : List Base) → IsStrictlySortedBy base_cmp bs → IsStrictlySortedBy role_cmp (flat_map both_ways bs)
unfolding IsStrictlySortedBy
ways-ascend [] up = tt
ways-ascend (b ∷ bs) up =
    let later = All-from_recursion (λ c. base_cmp b c ≡ Less) bs up.0 in
    let after : (i : Bool) → All (λ s. role_cmp (way b i) s ≡ Less) (flat_map both_ways bs) = λ i.
    All-flat_map (λ s. role_cmp (way b i) s ≡ Less) (λ c. base_cmp b c ≡ Less) both_ways (way_below (way b i)) bs later in
    sorted-append role_cmp (both_ways b) (flat_map both_ways bs) (both_ascend b) (ways-ascend bs up.1)
    (All-cons (λ r. All (λ s. role_cmp r s ≡ Less) (flat_map both_ways bs)) (way b false) (way b true ∷ []) (after false)
    (All-cons (λ r. All (λ s. role_cmp r s ≡ Less) (flat_map both_ways bs)) (way b true) [] (after true)
    (All-nil (λ r. All (λ s. role_cmp r s ≡ Less) (flat_map both_ways bs)))))

class_below_some : (c : ℕ) (rs : List Role) → All (λ b. basic_cmp (Class c) b ≡ Less) (map SomeOf rs)
class_below_some c rs = All-map (λ b. basic_cmp (Class c) b ≡ Less) SomeOf rs (λ k d h. refl)

module _ (p : Predicates) (order : AreInOrder p) where
  pub roles-ascend : IsStrictlySortedBy role_cmp (roles p)
  roles-ascend = ways-ascend (bases p) (bases-ascend p order)

  pub basics-ascend : IsStrictlySortedBy basic_cmp (basics p)
  basics-ascend =
      sorted-append basic_cmp (map Class p.classes) (map SomeOf (roles p))
      (sorted-map nat_cmp basic_cmp Class (λ x y. refl) p.classes order.classes)
      (sorted-map role_cmp basic_cmp SomeOf (λ x y. refl) (roles p) roles-ascend)
      (All-map (λ b. All (λ c. basic_cmp b c ≡ Less) (map SomeOf (roles p))) Class p.classes (λ k d h. class_below_some (get_or p.classes k d) (roles p)))

  -- each role and each basic concept has one index
  pub one_role : (d : Role) (i j : ℕ) → i < length (roles p) → j < length (roles p) → get_or (roles p) i d ≡ get_or (roles p) j d → i ≡ j
  one_role = one_index roles_linear.total (roles p) roles-ascend

  pub one_basic : (d : Basic) (i j : ℕ) → i < length (basics p) → j < length (basics p) → get_or (basics p) i d ≡ get_or (basics p) j d → i ≡ j
  one_basic = one_index basics_linear.total (basics p) basics-ascend

-- ---- how many

length-ways : (bs : List Base) → length (flat_map both_ways bs) ≡ 2 * length bs
length-ways [] = refl
length-ways (b ∷ bs) =
    let more = length-ways bs in
    omega (arith, more)

pub length-roles : (p : Predicates) → length (roles p) ≡ 2 * (length p.properties + length p.auxiliaries)
length-roles p =
    let split = length-append (map Named p.properties) p.auxiliaries in
    let same = length-map p.properties Named in
    let twice = length-ways (bases p) in
    omega (arith, split, same, twice)

pub length-basics : (p : Predicates) → length (basics p) ≡ length p.classes + length (roles p)
length-basics p = length-append (map Class p.classes) (map SomeOf (roles p)) ∙ sum_of (length-map p.classes Class) (length-map (roles p) SomeOf)
  where
    sum_of : {a b c d : ℕ} → a ≡ b → c ≡ d → a + c ≡ b + d
    sum_of e f = omega (arith, e, f)

-- ---- at which index

way-at : (bs : List Base) (i : ℕ) (b : Base) (inverse : Bool) → StandsAt bs i b → StandsAt (flat_map both_ways bs) (2 * i + flag inverse) (way b inverse)
way-at [] i b inverse s = absurd (omega (arith, s.within))
way-at (c ∷ cs) zero b true s = record { within = omega arith; is = ap (λ x. way x true) s.is }
way-at (c ∷ cs) zero b false s = record { within = omega arith; is = ap (λ x. way x false) s.is }
way-at (c ∷ cs) (suc i) b inverse s =
    let rest : StandsAt (flat_map both_ways cs) (2 * i + flag inverse) (way b inverse) =
    way-at cs i b inverse (record { within = omega (arith, s.within); is = s.is }) in
    let two : suc (suc (2 * i + flag inverse)) ≡ 2 * suc i + flag inverse = omega arith in
    subst (λ k. StandsAt (flat_map both_ways (c ∷ cs)) k (way b inverse)) two
    (record { within = omega (arith, rest.within); is = rest.is })

-- a role is among the roles exactly where its name is among the role names
pub role-base : (p : Predicates) (r : Role) → Contains (roles p) r → Contains (bases p) r.base
role-base p r c =
    let w = Contains-flat_map both_ways (bases p) r c in
    subst (Contains (bases p)) (All-contains (λ s. w.0 ≡ s.base) (both_ways w.0) r (same w.0) w.2) w.1
  where
    same : (b : Base) → All (λ s. b ≡ s.base) (both_ways b)
    same b = All-cons (λ s. b ≡ s.base) (way b false) (way b true ∷ []) refl
        (All-cons (λ s. b ≡ s.base) (way b true) [] refl (All-nil (λ s. b ≡ s.base)))

pub base-role : (p : Predicates) (r : Role) → Contains (bases p) r.base → Contains (roles p) r
base-role p r c = StandsAt-Contains (way-at (bases p) c.0 r.base r.inverse (record { within = c.1; is = c.2 }))

pub inverse-known : (p : Predicates) (r : Role) → Contains (roles p) r → Contains (roles p) (inverse_of r)
inverse-known p r c = base-role p (inverse_of r) (role-base p r c)

module _ (p : Predicates) where
  pub role-at_property : {i q : ℕ} (inverse : Bool) → StandsAt p.properties i q → StandsAt (roles p) (2 * i + flag inverse) (way (Named q) inverse)
  role-at_property {i} {q} inverse s = way-at (bases p) i (Named q) inverse (StandsAt-left p.auxiliaries (StandsAt-map Named s))

  pub role-at_auxiliary : {i : ℕ} {b : Base} (inverse : Bool) → StandsAt p.auxiliaries i b
      → StandsAt (roles p) (2 * (length p.properties + i) + flag inverse) (way b inverse)
  role-at_auxiliary {i} {b} inverse s =
      way-at (bases p) (length p.properties + i) b inverse
      (subst (λ n. StandsAt (bases p) (n + i) b) (length-map p.properties Named) (StandsAt-right (map Named p.properties) s))

  pub basic-at_class : {i c : ℕ} → StandsAt p.classes i c → StandsAt (basics p) i (Class c)
  basic-at_class s = StandsAt-left (map SomeOf (roles p)) (StandsAt-map Class s)

  pub basic-at_role : {i : ℕ} {r : Role} → StandsAt (roles p) i r → StandsAt (basics p) (length p.classes + i) (SomeOf r)
  basic-at_role {i} {r} s =
      subst (λ n. StandsAt (basics p) (n + i) (SomeOf r)) (length-map p.classes Class) (StandsAt-right (map Class p.classes) (StandsAt-map SomeOf s))

-- ---- what is known

abbrev property_of : Base → ℕ
property_of (Named q) = q
property_of (Auxiliary q i c) = 0

pub property-known : (p : Predicates) → AreInOrder p → (q : ℕ) → Contains (bases p) (Named q) → Contains p.properties q
property-known p order q c =
    ⊎_elim (λ (named : Contains (map Named p.properties) (Named q)).
    let w = Contains-map Named p.properties (Named q) named in subst (Contains p.properties) (ap property_of w.2) w.1)
    (λ (auxiliary : Contains p.auxiliaries (Named q)). absurd (All-contains IsAuxiliary p.auxiliaries (Named q) order.only_auxiliaries auxiliary))
    (Contains-append_cases (map Named p.properties) p.auxiliaries (Named q) c)

pub auxiliary-known : (p : Predicates) (b : Base) → IsAuxiliary b → Contains (bases p) b → Contains p.auxiliaries b
auxiliary-known p (Named q) h c = absurd h
auxiliary-known p (Auxiliary q i d) h c =
    ⊎_elim (λ (named : Contains (map Named p.properties) (Auxiliary q i d)).
    let w = Contains-map Named p.properties (Auxiliary q i d) named in cc)
    (λ (auxiliary : Contains p.auxiliaries (Auxiliary q i d)). auxiliary) (Contains-append_cases (map Named p.properties) p.auxiliaries (Auxiliary q i d) c)

abbrev class_of : Basic → ℕ
class_of (Class c) = c
class_of (SomeOf r) = 0

abbrev role_of : Role → Basic → Role
role_of d (Class c) = d
role_of d (SomeOf r) = r

module _ (p : Predicates) where
  pub class-known : (c : ℕ) → Contains (basics p) (Class c) → Contains p.classes c
  class-known c h =
      ⊎_elim (λ (class : Contains (map Class p.classes) (Class c)).
      let w = Contains-map Class p.classes (Class c) class in subst (Contains p.classes) (ap class_of w.2) w.1)
      (λ (some : Contains (map SomeOf (roles p)) (Class c)). let w = Contains-map SomeOf (roles p) (Class c) some in cc)
      (Contains-append_cases (map Class p.classes) (map SomeOf (roles p)) (Class c) h)

  pub some-known : (r : Role) → Contains (basics p) (SomeOf r) → Contains (roles p) r
  some-known r h =
      ⊎_elim (λ (class : Contains (map Class p.classes) (SomeOf r)). let w = Contains-map Class p.classes (SomeOf r) class in cc)
      (λ (some : Contains (map SomeOf (roles p)) (SomeOf r)).
      let w = Contains-map SomeOf (roles p) (SomeOf r) some in subst (Contains (roles p)) (ap (role_of r) w.2) w.1)
      (Contains-append_cases (map Class p.classes) (map SomeOf (roles p)) (SomeOf r) h)

  pub known-class : (c : ℕ) → Contains p.classes c → Contains (basics p) (Class c)
  known-class c h = Contains-append_left (map Class p.classes) (map SomeOf (roles p)) (Class c) (Contains-map_of Class p.classes c h)

  pub known-some : (r : Role) → Contains (roles p) r → Contains (basics p) (SomeOf r)
  known-some r h = Contains-append_right (map Class p.classes) (map SomeOf (roles p)) (SomeOf r) (Contains-map_of SomeOf (roles p) r h)

-- ---- from a search of a list to a node

-- what is found or not in one list is found or not in another
pub found : {A B : Type 0} (r : Option ℕ) (xs ys : List A) (x : A) (zs : List B) (z : B) → xs ≡ ys → (Contains zs z → Contains ys x)
    → ((i : ℕ) → StandsAt ys i x → StandsAt zs i z)
    → MatchOption r (Contains xs x → ⊥) (λ i. StandsAt xs i x) → MatchOption r (Contains zs z → ⊥) (λ i. StandsAt zs i z)
found None xs ys x zs z same within at missing = λ h. missing (subst (λ l. Contains l x) (sym same) (within h))
found (Some i) xs ys x zs z same within at stands = at i (subst (λ l. StandsAt l i x) same stands)

pub role-at : (p : Predicates) (i : ℕ) (r : Role) → StandsAt (bases p) i r.base → StandsAt (roles p) (2 * i + flag r.inverse) r
role-at p i r s = way-at (bases p) i r.base r.inverse s

pub base-at_property : (p : Predicates) (i q : ℕ) → StandsAt p.properties i q → StandsAt (bases p) i (Named q)
base-at_property p i q s = StandsAt-left p.auxiliaries (StandsAt-map Named s)

pub base-at_auxiliary : (p : Predicates) (i : ℕ) (b : Base) → StandsAt p.auxiliaries i b → StandsAt (bases p) (length p.properties + i) b
base-at_auxiliary p i b s = subst (λ n. StandsAt (bases p) (n + i) b) (length-map p.properties Named) (StandsAt-right (map Named p.properties) s)

pub length-bases : (p : Predicates) → length (bases p) ≡ length p.properties + length p.auxiliaries
length-bases p =
    let split = length-append (map Named p.properties) p.auxiliaries in
    let same = length-map p.properties Named in
    omega (arith, split, same)
