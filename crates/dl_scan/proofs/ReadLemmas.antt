-- What the scans of one epoch give: the pairs below what is asked, by that epoch's own numbers.
use Rattle.std.proofs.Common.{◌≡◌, ℕ, zero, suc, ◌-◌, ◌≤◌, inl, inr, Bool, true, ◌&&◌, ◌==◌, nat_le, filter, List, [], ◌∷◌, ◌++◌, slice_get, Some, refl, sym, ap, ap₂, subst, ◌∙◌, arith}
use Rattle.std.specs.List.{Contains}
use Rattle.std.proofs.lemmas.Bool.{and_parts, eq-eqb, eqb-true, le-leb}
use Rattle.std.proofs.lemmas.Bool.Decides.{nat_tests}
use Rattle.std.proofs.lemmas.List.Elements.{Contains-append_left, Contains-append_right, Contains-append_cases}
use Rattle.std.proofs.lemmas.List.Folds.{Any-from_list_any, list_any_at}
use Rattle.dl_terms.specs.declared.axiom.Fact.TheVariants.{Is, Link}
use Rattle.dl_hier.specs.declared.below.Below.{Below}
use Rattle.dl_hier.proofs.MemberLemmas.{Contains-map, Contains-map_of}
use Rattle.dl_intervals.specs.Intervals.{Holds}
use Rattle.dl_row.specs.Rows.{Epoch, kind_number, names_of, name_at, fact_by, visible}
use Rattle.dl_row.specs.Shards.{is_within, is_among, ends_of, scanned}
use Rattle.dl_row.specs.declared.row.Kind.{Kind}
use Rattle.dl_row.specs.declared.row.Kind.TheVariants as kind
use Rattle.dl_row.specs.declared.row.Row.{Row}
use Rattle.dl_epoch.specs.Translating.{IsNumberOf, AreNumbersOf}
use Rattle.dl_scan.specs.Pairs.{IsPairBelow, member, plain, turned, visible_facts}
use Rattle.dl_scan.specs.Scans.{Gains}
use Rattle.dl_scan.specs.Reading.{kind_of, pair_of, pairs_read}
use Rattle.dl_scan.specs.declared.reading.Reading.{Reading}
use Rattle.dl_scan.specs.declared.reading.Reading.TheVariants.{Members, Forward, Backward}
use Rattle.dl_scan.proofs.FactLemmas.{Contains-filter, Contains-filter_of, said, said_of, named, named_of}

-- ---- tests and what they tell

holds : (ranges : List (ℕ × ℕ)) (n : ℕ) → is_within ranges n ≡ true → Holds ranges n
holds ranges n e =
    let a = Any-from_list_any (λ range. nat_le range.0 n && nat_le n range.1) ranges e in
    let b = and_parts (nat_le a.1.0 n) (nat_le n a.1.1) a.4 in
    (a.0, a.1, a.2, a.3, (low a.1.0 n b.0, low n a.1.1 b.1))
  where
    low : (m k : ℕ) → nat_le m k ≡ true → m ≤ k
    low m k h = grind (arith, nat_tests)

within : (ranges : List (ℕ × ℕ)) (n : ℕ) → Holds ranges n → is_within ranges n ≡ true
within ranges n h =
    list_any_at test ranges h.0 h.1 h.2
    (ap test h.3 ∙ ap₂ (λ b c. b && c) (le-leb h.1.0 n h.4.0) (le-leb n h.1.1 h.4.1))
  where
    test : ℕ × ℕ → Bool
    test range = nat_le range.0 n && nat_le n range.1

same_kind : (k l : Kind) → (kind_number k == kind_number l) ≡ true → k ≡ l
same_kind kind.Class kind.Class e = refl
same_kind kind.Class kind.Role e = cc
same_kind kind.Role kind.Class e = cc
same_kind kind.Role kind.Role e = refl

-- a name's number, as rows look it up
name_there : (names members : List ℕ) (number : ℕ) (i : IsNumberOf names members number) → name_at names number ≡ Some i.name
name_there names members zero i = absurd (let one = i.has.from_one in omega arith)
name_there names members (suc n) i = let e : n ≡ suc n - 1 = omega arith in ap (slice_get names) e ∙ i.has.is

there_name : (names members : List ℕ) (name number : ℕ) → Contains members name → name_at names number ≡ Some name → IsNumberOf names members number
there_name names members name zero listed e = cc
there_name names members name (suc n) listed e = record {
  name = name;
  member = listed;
  has = record { from_one = omega arith; is = (let same : suc n - 1 ≡ n = omega arith in ap (slice_get names) same ∙ e) };
}

-- ---- the rows of one kind

module _ (e : Epoch) (version : ℕ) (rows : List Row) (how : Reading) (members : List ℕ) (ranges : List (ℕ × ℕ))
    (are : AreNumbersOf (names_of (kind_of how) e) members ranges) where
  -- a visible row of the epoch, whose name is one of the members, is read as the pair
  pub record IsRead (p : ℕ × ℕ) : Type 0 where
    pub row : Row
    pub there : Contains rows row
    pub seen : visible version row ≡ true
    pub name : ℕ
    pub listed : Contains members name
    pub epoch : (e.id == row.epoch) ≡ true
    pub of_kind : row.kind ≡ kind_of how
    pub numbered : name_at (names_of (kind_of how) e) row.number ≡ Some name
    pub is : pair_of how (ends_of row) ≡ p

  pub read : (p : ℕ × ℕ) → Contains (pairs_read how e.id ranges version rows) p → IsRead p
  read p c =
      let w = Contains-map (pair_of how) (scanned e.id (kind_of how) ranges version rows) p c in
      let v = Contains-map ends_of (filter (visible version) (filter (is_among e.id (kind_of how) ranges) rows)) w.0 w.1 in
      let row = v.0 in
      let seen = Contains-filter (visible version) (filter (is_among e.id (kind_of how) ranges) rows) row v.1 in
      let among = Contains-filter (is_among e.id (kind_of how) ranges) rows row seen.0 in
      let a = and_parts (row.epoch == e.id) ((kind_number row.kind == kind_number (kind_of how)) && is_within ranges row.number) among.1 in
      let b = and_parts (kind_number row.kind == kind_number (kind_of how)) (is_within ranges row.number) a.1 in
      let number = (are.exact row.number).0 (holds ranges row.number b.1) in
      record {
        row = row;
        there = among.0;
        seen = seen.1;
        name = number.name;
        listed = number.member;
        epoch = eq-eqb e.id row.epoch (sym (eqb-true row.epoch e.id a.0));
        of_kind = same_kind row.kind (kind_of how) b.0;
        numbered = name_there (names_of (kind_of how) e) members row.number number;
        is = ap (pair_of how) v.2 ∙ w.2;
      }

  pub read_of : (p : ℕ × ℕ) → IsRead p → Contains (pairs_read how e.id ranges version rows) p
  read_of p r =
      let number = (are.exact r.row.number).1 (there_name (names_of (kind_of how) e) members r.name r.row.number r.listed r.numbered) in
      let among : is_among e.id (kind_of how) ranges r.row ≡ true
      = ap₂ (λ a b. a && (b && is_within ranges r.row.number)) (eq-eqb r.row.epoch e.id (sym (eqb-true e.id r.row.epoch r.epoch)))
      (eq-eqb (kind_number r.row.kind) (kind_number (kind_of how)) (ap kind_number r.of_kind)) ∙ within ranges r.row.number number in
      let found = Contains-filter_of (visible version) (filter (is_among e.id (kind_of how) ranges) rows) r.row
      (Contains-filter_of (is_among e.id (kind_of how) ranges) rows r.row r.there among) r.seen in
      subst (Contains (pairs_read how e.id ranges version rows)) r.is
      (Contains-map_of (pair_of how) (scanned e.id (kind_of how) ranges version rows) (ends_of r.row)
      (Contains-map_of ends_of (filter (visible version) (filter (is_among e.id (kind_of how) ranges) rows)) r.row found))

  -- its fact
  pub read_fact : (p : ℕ × ℕ) (r : IsRead p) → Contains (visible_facts (e ∷ []) version rows) (fact_by (kind_of how) r.row.s r.row.o r.name)
  read_fact p r = said_of (e ∷ []) version rows (fact_by (kind_of how) r.row.s r.row.o r.name) (record {
    row = r.row;
    there = r.there;
    seen = r.seen;
    stands = named_of e r.row (fact_by (kind_of how) r.row.s r.row.o r.name) (record {
      name = r.name;
      epoch = r.epoch;
      numbered = ap (λ k. name_at (names_of k e) r.row.number) r.of_kind ∙ r.numbered;
      is = ap (λ k. fact_by k r.row.s r.row.o r.name) r.of_kind;
    });
  })

-- ---- what a fact tells of the row that stands for it

is_parts : (k : Kind) (s o name c a : ℕ) → fact_by k s o name ≡ Is c a → (k ≡ kind.Class) × (name ≡ c) × (s ≡ a)
is_parts kind.Class s o name c a e = (refl, cc, cc)
is_parts kind.Role s o name c a e = cc

link_parts : (k : Kind) (s o name r a b : ℕ) → fact_by k s o name ≡ Link r a b → (k ≡ kind.Role) × (name ≡ r) × (s ≡ a) × (o ≡ b)
link_parts kind.Class s o name r a b e = cc
link_parts kind.Role s o name r a b e = (refl, cc, cc, cc)

-- ---- all that one epoch has below what is asked

module _ (e : Epoch) (version : ℕ) (rows : List Row) (below : Below) (classes forward backward : List (ℕ × ℕ))
    (of_classes : AreNumbersOf e.classes below.classes classes) (of_forward : AreNumbersOf e.roles below.forward forward)
    (of_backward : AreNumbersOf e.roles below.backward backward) where
  abbrev IsBelow : ℕ × ℕ → Type 0
  IsBelow p = IsPairBelow (visible_facts (e ∷ []) version rows) below p

  member_read : (p : ℕ × ℕ) → Contains (pairs_read Members e.id classes version rows) p → IsBelow p
  member_read p c =
      let r = read e version rows Members below.classes classes of_classes p c in
      subst IsBelow r.is (member r.listed (read_fact e version rows Members below.classes classes of_classes p r) refl)

  forward_read : (p : ℕ × ℕ) → Contains (pairs_read Forward e.id forward version rows) p → IsBelow p
  forward_read p c =
      let r = read e version rows Forward below.forward forward of_forward p c in
      subst IsBelow r.is (plain r.listed (read_fact e version rows Forward below.forward forward of_forward p r))

  backward_read : (p : ℕ × ℕ) → Contains (pairs_read Backward e.id backward version rows) p → IsBelow p
  backward_read p c =
      let r = read e version rows Backward below.backward backward of_backward p c in
      subst IsBelow r.is (turned r.listed (read_fact e version rows Backward below.backward backward of_backward p r))

  read_member : (p : ℕ × ℕ) (c : ℕ) → Contains below.classes c → Contains (visible_facts (e ∷ []) version rows) (Is c p.0) → p.0 ≡ p.1
      → Contains (pairs_read Members e.id classes version rows) p
  read_member p c listed fact same =
      let s = said (e ∷ []) version rows (Is c p.0) fact in
      let n = named e s.row (Is c p.0) s.stands in
      let parts = is_parts s.row.kind s.row.s s.row.o n.name c p.0 n.is in
      read_of e version rows Members below.classes classes of_classes p (record {
        row = s.row;
        there = s.there;
        seen = s.seen;
        name = c;
        listed = listed;
        epoch = n.epoch;
        of_kind = parts.0;
        numbered = ap (λ k. name_at (names_of k e) s.row.number) (sym parts.0) ∙ n.numbered ∙ ap Some parts.1;
        is = ap₂ (λ a b. (a, b)) parts.2 (parts.2 ∙ same);
      })

  read_forward : (p : ℕ × ℕ) (r : ℕ) → Contains below.forward r → Contains (visible_facts (e ∷ []) version rows) (Link r p.0 p.1)
      → Contains (pairs_read Forward e.id forward version rows) p
  read_forward p r listed fact =
      let s = said (e ∷ []) version rows (Link r p.0 p.1) fact in
      let n = named e s.row (Link r p.0 p.1) s.stands in
      let parts = link_parts s.row.kind s.row.s s.row.o n.name r p.0 p.1 n.is in
      read_of e version rows Forward below.forward forward of_forward p (record {
        row = s.row;
        there = s.there;
        seen = s.seen;
        name = r;
        listed = listed;
        epoch = n.epoch;
        of_kind = parts.0;
        numbered = ap (λ k. name_at (names_of k e) s.row.number) (sym parts.0) ∙ n.numbered ∙ ap Some parts.1;
        is = ap₂ (λ a b. (a, b)) parts.2 parts.3;
      })

  read_backward : (p : ℕ × ℕ) (r : ℕ) → Contains below.backward r → Contains (visible_facts (e ∷ []) version rows) (Link r p.1 p.0)
      → Contains (pairs_read Backward e.id backward version rows) p
  read_backward p r listed fact =
      let s = said (e ∷ []) version rows (Link r p.1 p.0) fact in
      let n = named e s.row (Link r p.1 p.0) s.stands in
      let parts = link_parts s.row.kind s.row.s s.row.o n.name r p.1 p.0 n.is in
      read_of e version rows Backward below.backward backward of_backward p (record {
        row = s.row;
        there = s.there;
        seen = s.seen;
        name = r;
        listed = listed;
        epoch = n.epoch;
        of_kind = parts.0;
        numbered = ap (λ k. name_at (names_of k e) s.row.number) (sym parts.0) ∙ n.numbered ∙ ap Some parts.1;
        is = ap₂ (λ a b. (a, b)) parts.3 parts.2;
      })

  abbrev members : List (ℕ × ℕ)
  members = pairs_read Members e.id classes version rows

  abbrev plains : List (ℕ × ℕ)
  plains = pairs_read Forward e.id forward version rows

  abbrev turns : List (ℕ × ℕ)
  turns = pairs_read Backward e.id backward version rows

  module _ (p : ℕ × ℕ) where
    below_all : Contains ((members ++ plains) ++ turns) p → IsBelow p
    below_all c = elim (Contains-append_cases (members ++ plains) turns p c) [
      | inl early ↦ elim (Contains-append_cases members plains p early) [ inl one ↦ member_read p one | inr two ↦ forward_read p two ]
      | inr three ↦ backward_read p three
    ]

    all_below : IsBelow p → Contains ((members ++ plains) ++ turns) p
    all_below (member {c = c} listed fact same) =
        Contains-append_left (members ++ plains) turns p (Contains-append_left members plains p (read_member p c listed fact same))
    all_below (plain {r = r} listed fact) =
        Contains-append_left (members ++ plains) turns p (Contains-append_right members plains p (read_forward p r listed fact))
    all_below (turned {r = r} listed fact) = Contains-append_right (members ++ plains) turns p (read_backward p r listed fact)

  -- what is added by one epoch's intervals
  pub epoch_gains : (old new : List (ℕ × ℕ)) → new ≡ old ++ ((members ++ plains) ++ turns)
      → Gains old new (IsPairBelow (visible_facts (e ∷ []) version rows) below)
  epoch_gains old new is p = (
    λ c. elim (Contains-append_cases old ((members ++ plains) ++ turns) p (subst (λ l. Contains l p) is c)) [
      | inl before ↦ inl before
      | inr here ↦ inr (below_all p here)
    ],
    λ h. subst (λ l. Contains l p) (sym is) (elim h [
      | inl before ↦ Contains-append_left old ((members ++ plains) ++ turns) p before
      | inr here ↦ Contains-append_right old ((members ++ plains) ++ turns) p (all_below p here)
    ]),
  )
