-- Where the open row of a fact stands.
use Rattle.std.proofs.Common.{◌≡◌, ℕ, ◌+◌, ◌%◌, ◌<◌, ◌≤◌, ◌⊎◌, inl, inr, Bool, true, false, ◌&&◌, cond, ◌==◌, nat_le, nat_lt, List, [], ◌∷◌, map, filter, take, length, get_or, slice_get, Option, Some, None, refl, sym, ap, ap₂, subst, ◌∙◌, true≢false, arith}
use Rattle.std.specs.List.{All, Contains, position, position_or_len}
use Rattle.std.specs.Option.{MatchOption}
use Rattle.std.proofs.lemmas.Bool.{and_parts, and_from, eqb-true, eq-eqb, ne_eqb, ltb-false, ltb-true, false_from_ne_true}
use Rattle.std.proofs.lemmas.Option.{slice_get-get_or}
use Rattle.std.proofs.lemmas.List.{take_all}
use Rattle.std.proofs.lemmas.List.Quantifiers.{position-Some}
use Rattle.std.proofs.lemmas.List.Sums.{fails_before_first}
use Rattle.std.proofs.lemmas.List.Elements.{All-from_recursion, All-map, All-more}
use Rattle.dl_terms.specs.Order.{fact_cmp}
use Rattle.dl_terms.specs.declared.axiom.Fact.{Fact}
use Rattle.dl_terms.specs.declared.axiom.Fact.TheVariants.{Is, Link}
use Rattle.dl_terms.proofs.OrderLemmas.{numbers_linear}
use Rattle.dl_terms.proofs.MemberLemmas.{Contains-nil, Contains-cons, Contains-first, Contains-later, All-Contains}
use Rattle.dl_hier.proofs.MemberLemmas.{Contains-map, Contains-map_of}
use Rattle.dl_numbers.specs.Numbers.{HasNumber}
use Rattle.dl_row.specs.Lists.{InOrder}
use Rattle.dl_row.specs.Rows.{Epoch, names_of, name_at, epoch_of, fact_by, fact_named, fact_in, fact_of, is_fact, visible, rows_for, kind_number, open_end}
use Rattle.dl_row.specs.Shards.{is_at, is_open_at}
use Rattle.dl_row.specs.declared.row.Kind.{Kind}
use Rattle.dl_row.specs.declared.row.Kind.TheVariants.{Class, Role}
use Rattle.dl_row.specs.declared.row.Row.{Row}
use Rattle.dl_row.proofs.CountLemmas.{count_there}
use Rattle.dl_row.proofs.FindLemmas.{blank}
use Rattle.dl_epoch.specs.Frozen.{Frozen, from_version}
use Rattle.dl_epoch.specs.Covering.{Kept, kept, epoch_in}
use Rattle.dl_epoch.specs.declared.entry.Entry.{Entry as Held}
use Rattle.dl_edits.specs.Sets.{has}
use Rattle.dl_core.specs.History.{Load, Entry, facts_at}
use Rattle.dl_core.specs.Root.{Root, IsNumbered, EndsAgree, IsLive, IsRowAt, StandsFor, epochs, shard, stands_in}
use Rattle.dl_core.specs.Next.{root_facts}
use Rattle.dl_core.specs.declared.book.Book.{Book}
use Rattle.dl_core.specs.Held.{IsBookOf, IsSound}
use Rattle.dl_core.specs.Changes.{first_end, shard_of, OpensAt, NoneOpens, StandsAt}
use Rattle.dl_core.proofs.CommitLemmas.{is_fact-is}
use Rattle.dl_core.proofs.EpochLemmas.{number_is, number_has, row_epoch, find_is}
use Rattle.dl_core.proofs.FactLemmas.{visible_say}
use Rattle.dl_core.proofs.NewRowLemmas.{number_named}
use Rattle.dl_edits.proofs.SetLemmas.{there_has}

-- ---- the first place that passes

module _ {A : Type 0} (p : A → Bool) (xs : List A) where
  found_at : (i : ℕ) (d : A) → position p xs ≡ Some i → (x : A) × (slice_get xs i ≡ Some x) × (p x ≡ true)
  found_at i d e = let f = position-Some p xs i d e in (get_or xs i d, slice_get-get_or xs i d f.0, f.1)

  found_none : position p xs ≡ None → (x : A) → Contains xs x → p x ≡ false
  found_none e x c = ap p (sym c.2)
      ∙ fails_before_first p xs c.0 x (let l = past (position_or_len p xs) (length xs) e in let h = c.1 in omega arith)
    where
      past : (n m : ℕ) → cond (nat_lt n m) (Some n) None ≡ None → m ≤ n
      past n m e = by (nat_lt n m) refl e
        where
          by : (b : Bool) → nat_lt n m ≡ b → cond b (Some n) None ≡ None → m ≤ n
          by true h e = cc
          by false h e = ltb-false n m h

-- ---- the fields of an open row

same_kind : (k l : Kind) → (kind_number k == kind_number l) ≡ true → k ≡ l
same_kind Class Class e = refl
same_kind Class Role e = cc
same_kind Role Class e = cc
same_kind Role Role e = refl

kind_itself : (k l : Kind) → k ≡ l → (kind_number k == kind_number l) ≡ true
kind_itself k l e = eq-eqb (kind_number k) (kind_number l) (ap kind_number e)

record HasFields (id : ℕ) (k : Kind) (n a b : ℕ) (r : Row) : Type 0 where
  pub epoch : r.epoch ≡ id
  pub kind : r.kind ≡ k
  pub number : r.number ≡ n
  pub s : r.s ≡ a
  pub o : r.o ≡ b
  pub last : r.last ≡ open_end

module _ (id : ℕ) (kind : Kind) (number s o : ℕ) (r : Row) where
  fields : is_open_at id kind number s o r ≡ true → HasFields id kind number s o r
  fields h =
      let a = and_parts (is_at id kind number s o r) (r.last == open_end) h in
      let b = and_parts (r.epoch == id)
      ((kind_number r.kind == kind_number kind) && ((r.number == number) && ((r.s == s) && (r.o == o)))) a.0 in
      let c = and_parts (kind_number r.kind == kind_number kind) ((r.number == number) && ((r.s == s) && (r.o == o)))
      b.1 in
      let d = and_parts (r.number == number) ((r.s == s) && (r.o == o)) c.1 in
      let e = and_parts (r.s == s) (r.o == o) d.1 in
      record {
        epoch = eqb-true r.epoch id b.0;
        kind = same_kind r.kind kind c.0;
        number = eqb-true r.number number d.0;
        s = eqb-true r.s s e.0;
        o = eqb-true r.o o e.1;
        last = eqb-true r.last open_end a.1;
      }

  fields_of : HasFields id kind number s o r → is_open_at id kind number s o r ≡ true
  fields_of h =
      and_from (is_at id kind number s o r) (r.last == open_end)
      (and_from (r.epoch == id)
      ((kind_number r.kind == kind_number kind) && ((r.number == number) && ((r.s == s) && (r.o == o))))
      (eq-eqb r.epoch id h.epoch)
      (and_from (kind_number r.kind == kind_number kind) ((r.number == number) && ((r.s == s) && (r.o == o)))
      (kind_itself r.kind kind h.kind)
      (and_from (r.number == number) ((r.s == s) && (r.o == o)) (eq-eqb r.number number h.number)
      (and_from (r.s == s) (r.o == o) (eq-eqb r.s s h.s) (eq-eqb r.o o h.o)))))
      (eq-eqb r.last open_end h.last)

-- ---- what an epoch says of a row

record IsNamedBy (e : Epoch) (r : Row) (f : Fact) : Type 0 where
  pub name : ℕ
  pub numbered : name_at (names_of r.kind e) r.number ≡ Some name
  pub is : fact_by r.kind r.s r.o name ≡ f

named_by : (e : Epoch) (r : Row) (f : Fact) → fact_in r (Some e) ≡ Some f → IsNamedBy e r f
named_by e r f h = by (name_at (names_of r.kind e) r.number) refl h
  where
    by : (o : Option ℕ) → name_at (names_of r.kind e) r.number ≡ o → fact_named r o ≡ Some f → IsNamedBy e r f
    by (Some name) numbered is = record { name = name; numbered = numbered; is = cc }
    by None numbered is = cc

class_parts : (k : Kind) (s o name c x : ℕ) → fact_by k s o name ≡ Is c x → (k ≡ Class) × (name ≡ c) × (s ≡ x)
class_parts Class s o name c x e = (refl, cc, cc)
class_parts Role s o name c x e = cc

role_parts : (k : Kind) (s o name p x y : ℕ) → fact_by k s o name ≡ Link p x y
    → (k ≡ Role) × (name ≡ p) × (s ≡ x) × (o ≡ y)
role_parts Role s o name p x y e = (refl, cc, cc, cc)
role_parts Class s o name p x y e = cc

-- a row of a fact begins with the fact's first end
pub row_end : (r : Row) (o : Option Epoch) (f : Fact) → fact_in r o ≡ Some f → r.s ≡ first_end f
row_end r None f h = cc
row_end r (Some e) f h = let n = named_by e r f h in by r.kind n.name n.is
  where
    by : (k : Kind) (name : ℕ) → fact_by k r.s r.o name ≡ f → r.s ≡ first_end f
    by Class name e = ap first_end e
    by Role name e = ap first_end e

class_ends : (k : Kind) (s o : ℕ) → k ≡ Class → EndsAgree k s o → o ≡ s
class_ends Class s o e h = h
class_ends Role s o e h = cc

-- ---- what a search in one epoch finds

module _ (rows : List Row) (e : Frozen) (id number : ℕ) (same : id ≡ e.id) where
  class_found : (c x : ℕ) → HasNumber e.classes c number → (o : Option ℕ)
      → o ≡ position (is_open_at id Class number x x) rows
      → MatchOption o (NoneOpens rows e (Is c x)) (OpensAt rows e (Is c x))
  class_found c x h None is = record {
    none = λ first numbered r there last epoch agree says.
        let n = named_by (from_version first e) r (Is c x) says in
        let p = class_parts r.kind r.s r.o n.name c x n.is in
        let here = number_is e.classes r.number c numbered.classes_once
        (ap (λ k. name_at (names_of k (from_version first e)) r.number) (sym p.0) ∙ n.numbered ∙ ap Some p.1) in
        let asked = number_is e.classes number c numbered.classes_once (number_named e.classes c number h) in
        let passes = fields_of id Class number x x r (record {
          epoch = epoch ∙ sym same;
          kind = p.0;
          number = here ∙ sym asked;
          s = p.2;
          o = class_ends r.kind r.s r.o p.0 agree ∙ p.2;
          last = last;
        }) in
        true≢false (sym passes ∙ found_none (is_open_at id Class number x x) rows (sym is) r there);
  }
  class_found c x h (Some i) is =
      let w = found_at (is_open_at id Class number x x) rows i blank (sym is) in
      let f = fields id Class number x x w.0 w.2 in
      record {
        row = w.0;
        at = w.1;
        is_open = f.last;
        epoch = f.epoch ∙ same;
        says = λ first.
            ap₂ (λ k n. fact_named w.0 (name_at (names_of k (from_version first e)) n)) f.kind f.number
            ∙ ap (fact_named w.0) (number_named e.classes c number h)
            ∙ ap₂ (λ k s. Some (fact_by k s w.0.o c)) f.kind f.s;
      }

  role_found : (p x y : ℕ) → HasNumber e.roles p number → (o : Option ℕ)
      → o ≡ position (is_open_at id Role number x y) rows
      → MatchOption o (NoneOpens rows e (Link p x y)) (OpensAt rows e (Link p x y))
  role_found p x y h None is = record {
    none = λ first numbered r there last epoch agree says.
        let n = named_by (from_version first e) r (Link p x y) says in
        let q = role_parts r.kind r.s r.o n.name p x y n.is in
        let here = number_is e.roles r.number p numbered.roles_once
        (ap (λ k. name_at (names_of k (from_version first e)) r.number) (sym q.0) ∙ n.numbered ∙ ap Some q.1) in
        let asked = number_is e.roles number p numbered.roles_once (number_named e.roles p number h) in
        let passes = fields_of id Role number x y r (record {
          epoch = epoch ∙ sym same;
          kind = q.0;
          number = here ∙ sym asked;
          s = q.2;
          o = q.3;
          last = last;
        }) in
        true≢false (sym passes ∙ found_none (is_open_at id Role number x y) rows (sym is) r there);
  }
  role_found p x y h (Some i) is =
      let w = found_at (is_open_at id Role number x y) rows i blank (sym is) in
      let f = fields id Role number x y w.0 w.2 in
      record {
        row = w.0;
        at = w.1;
        is_open = f.last;
        epoch = f.epoch ∙ same;
        says = λ first.
            ap₂ (λ k n. fact_named w.0 (name_at (names_of k (from_version first e)) n)) f.kind f.number
            ∙ ap (fact_named w.0) (number_named e.roles p number h)
            ∙ ap (λ k. Some (fact_by k w.0.s w.0.o p)) f.kind ∙ ap₂ (λ s o. Some (Link p s o)) f.s f.o;
      }

-- an epoch that doesn't know a predicate has no row of it
pub class_unknown : (rows : List Row) (e : Frozen) (c x : ℕ) → (Contains e.signature.classes c → ⊥)
    → NoneOpens rows e (Is c x)
class_unknown rows e c x unknown = record {
  none = λ first numbered r there last epoch agree says.
      let n = named_by (from_version first e) r (Is c x) says in
      let p = class_parts r.kind r.s r.o n.name c x n.is in
      unknown (there_has numbers_linear e.signature.classes c (sym (numbered.classes c)
      ∙ number_has e.classes r.number c
      (ap (λ k. name_at (names_of k (from_version first e)) r.number) (sym p.0) ∙ n.numbered ∙ ap Some p.1)));
}

pub role_unknown : (rows : List Row) (e : Frozen) (p x y : ℕ) → (Contains e.signature.roles p → ⊥)
    → NoneOpens rows e (Link p x y)
role_unknown rows e p x y unknown = record {
  none = λ first numbered r there last epoch agree says.
      let n = named_by (from_version first e) r (Link p x y) says in
      let q = role_parts r.kind r.s r.o n.name p x y n.is in
      unknown (there_has numbers_linear e.signature.roles p (sym (numbered.roles p)
      ∙ number_has e.roles r.number p
      (ap (λ k. name_at (names_of k (from_version first e)) r.number) (sym q.0) ∙ n.numbered ∙ ap Some q.1)));
}

pub class_place : (rows : List Row) (e : Frozen) (id number c x : ℕ) → id ≡ e.id → HasNumber e.classes c number
    → (o : Option ℕ)
    → o ≡ position (is_open_at id Class number x x) rows
    → MatchOption o (NoneOpens rows e (Is c x)) (OpensAt rows e (Is c x))
class_place rows e id number c x same h o is = class_found rows e id number same c x h o is

pub role_place : (rows : List Row) (e : Frozen) (id number p x y : ℕ) → id ≡ e.id → HasNumber e.roles p number
    → (o : Option ℕ)
    → o ≡ position (is_open_at id Role number x y) rows
    → MatchOption o (NoneOpens rows e (Link p x y)) (OpensAt rows e (Link p x y))
role_place rows e id number p x y same h o is = role_found rows e id number same p x y h o is

pub Contains-filter_of : {A : Type 0} (p : A → Bool) (xs : List A) (x : A) → Contains xs x → p x ≡ true
    → Contains (filter p xs) x
Contains-filter_of p [] x c is = absurd (Contains-nil x c)
Contains-filter_of {A} p (y ∷ ys) x c is = by (p y) refl (λ d. Contains-filter_of p ys x d is) (Contains-cons y x ys c)
  where
    by : (b : Bool) → p y ≡ b → (Contains ys x → Contains (filter p ys) x) → (y ≡ x) ⊎ Contains ys x
        → Contains (cond b (y ∷ filter p ys) (filter p ys)) x
    by true e rest (inl same) = subst (Contains (y ∷ filter p ys)) same (Contains-first y (filter p ys))
    by true e rest (inr later) = Contains-later y x (filter p ys) (rest later)
    by false e rest (inl same) = absurd (true≢false (sym is ∙ ap p (sym same) ∙ e))
    by false e rest (inr later) = rest later

-- ---- what the searches in all epochs find

-- where ids rise, an epoch of a list is found by its id
pub by_id : (es : List Epoch) (e : Epoch) → InOrder (λ c d. c.id < d.id) es → Contains es e → epoch_of es e.id ≡ Some e
by_id [] e up c = absurd (Contains-nil e c)
by_id (d ∷ es) e up c = by (Contains-cons d e es c) (by_id es e up.1)
  where
    by : (d ≡ e) ⊎ Contains es e → (Contains es e → epoch_of es e.id ≡ Some e)
        → cond (d.id == e.id) (Some d) (epoch_of es e.id) ≡ Some e
    by (inl same) ih = ap (λ b. cond b (Some d) (epoch_of es e.id)) (eq-eqb d.id e.id (ap (λ x. x.id) same))
        ∙ ap Some same
    by (inr later) ih =
        let less = All-Contains (λ x. d.id < x.id) es e (All-from_recursion (λ x. d.id < x.id) es up.0) later in
        ap (λ b. cond b (Some d) (epoch_of es e.id)) (ne_eqb d.id e.id (λ h. omega (arith, h, less))) ∙ ih later

module _ (l : Load) (history : List Entry) (root : Root) (s : StandsFor l history root) (kepts : List Kept)
    (are : map epoch_in kepts ≡ epochs root) (f : Fact) where
  kept_there : (k : Kept) → Contains kepts k → Contains (epochs root) (epoch_in k)
  kept_there k c = subst (λ es. Contains es (epoch_in k)) are (Contains-map_of epoch_in kepts k c)

  pub found_in : (k : Kept) (place : ℕ) → Contains kepts k → OpensAt (shard root (shard_of root f)) k.epoch f place
      → StandsAt root f place
  found_in k place c o = record {
    row = o.row;
    at = o.at;
    is_open = o.is_open;
    stands =
        ap (fact_in o.row) (ap (epoch_of (epochs root)) o.epoch
        ∙ by_id (epochs root) (epoch_in k) s.epochs_are.ids (kept_there k c)) ∙ o.says k.first;
  }

  has_one : rows_for (epochs root) root.rows root.version f ≡ cond (has fact_cmp (root_facts root) f) 1 0
  has_one =
      visible_say (epochs root) root.rows root.version (facts_at l history root.version)
      (s.reads root.version (IsLive.current refl)).facts_are f

  -- the row of a fact that is there
  pub record HasRow : Type 0 where
    pub row : Row
    pub there : Contains root.rows row
    pub stands : fact_of (epochs root) row ≡ Some f
    pub is_open : row.last ≡ open_end
    pub ends_agree : EndsAgree row.kind row.s row.o

  pub has_row : has fact_cmp (root_facts root) f ≡ true → HasRow
  has_row h =
      let n = has_one ∙ ap (λ b. cond b 1 0) h in
      let q = count_there (λ r. visible root.version r && is_fact f (fact_of (epochs root) r)) root.rows
      (omega (arith, n)) in
      let seen = and_parts (visible root.version q.0) (is_fact f (fact_of (epochs root) q.0)) q.2 in
      let row = All-Contains (IsRowAt (epochs root) root.version) root.rows q.0 s.rows_are.each q.1 in
      record {
        row = q.0;
        there = q.1;
        stands = is_fact-is f (fact_of (epochs root) q.0) seen.1;
        is_open = ends q.0 row.ends (and_parts (nat_le q.0.first root.version) (nat_lt root.version q.0.last) seen.0).1;
        ends_agree = row.ends_agree;
      }
    where
      ends : (r : Row) → (r.last ≡ open_end) ⊎ (r.last ≤ root.version) → nat_lt root.version r.last ≡ true
          → r.last ≡ open_end
      ends r (inl e) h = e
      ends r (inr b) h = absurd (let l = ltb-true root.version r.last h in omega (arith, b, l))

  -- it stands in the shard of the fact
  pub in_shard : (r : Row) → Contains root.rows r → fact_of (epochs root) r ≡ Some f
      → Contains (shard root (shard_of root f)) r
  in_shard r c stands =
      Contains-filter_of (stands_in root.shards (shard_of root f)) root.rows r c
      (eq-eqb (r.s % root.shards) (shard_of root f)
      (ap (λ n. n % root.shards) (row_end r (epoch_of (epochs root) r.epoch) f stands)))

  pub missing : All (λ k. NoneOpens (shard root (shard_of root f)) k.epoch f) kepts
      → has fact_cmp (root_facts root) f ≡ false
  missing none = false_from_ne_true (has fact_cmp (root_facts root) f) (λ h.
      let w = has_row h in
      let e = row_epoch (epochs root) w.row f w.stands in
      let found = find_is (λ d. d.id == w.row.epoch) (epochs root) e.0 e.1 in
      let k = Contains-map epoch_in kepts e.0 (subst (λ es. Contains es e.0) (sym are) found.1) in
      let numbered = All-Contains IsNumbered (epochs root) e.0 s.epochs_are.numbered found.1 in
      (All-Contains (λ k. NoneOpens (shard root (shard_of root f)) k.epoch f) kepts k.0 none k.1).none k.0.first
      (subst IsNumbered (sym k.2) numbered) w.row (in_shard w.row w.there w.stands) w.is_open
      (sym (eqb-true e.0.id w.row.epoch found.0) ∙ ap (λ d. d.id) (sym k.2)) w.ends_agree
      (ap (λ d. fact_in w.row (Some d)) k.2 ∙ sym (ap (fact_in w.row) e.1) ∙ w.stands))

-- ---- the loop over the entries

pub shard_is : (root : Root) (f : Fact) (end shards : ℕ) (rows : List Row) → end ≡ first_end f → shards ≡ root.shards
    → rows ≡ shard root (end % shards) → rows ≡ shard root (shard_of root f)
shard_is root f end shards rows e s is = is ∙ ap₂ (λ x n. shard root (x % n)) e s

module _ (f : Fact) (rows : List Row) (entries : List Held) where
  pub none_more : (i : ℕ) (e : Held) (by : Frozen) → i < length entries → e ≡ get_or entries i e → by ≡ (kept e).epoch
      → NoneOpens rows by f
      → All (λ e. NoneOpens rows (kept e).epoch f) (take i entries)
      → All (λ e. NoneOpens rows (kept e).epoch f) (take (i + 1) entries)
  none_more i e by inside read is none before =
      All-more (λ e. NoneOpens rows (kept e).epoch f) entries i e inside before
      (subst (λ d. NoneOpens rows (kept d).epoch f) read (subst (λ b. NoneOpens rows b f) is none))

  module _ (root : Root) (book : Book) (of : IsBookOf root book) (sound : IsSound root)
      (same : map kept entries ≡ book.epochs)
      (rows_are : rows ≡ shard root (shard_of root f)) where
    pub place_found : (i : ℕ) (e : Held) (by : Frozen) (place : ℕ) → i < length entries → e ≡ get_or entries i e
        → by ≡ (kept e).epoch
        → OpensAt rows by f place → StandsAt root f place
    place_found i e by place inside read is opens =
        found_in sound.load sound.history root sound.stands book.epochs of.epochs f (kept e) place
        (subst (λ es. Contains es (kept e)) same (Contains-map_of kept entries e (i, inside, sym read)))
        (subst (λ rs. OpensAt rs (kept e).epoch f place) rows_are (subst (λ b. OpensAt rows b f place) is opens))

    pub place_missing : (i : ℕ) → length entries ≤ i → All (λ e. NoneOpens rows (kept e).epoch f) (take i entries)
        → has fact_cmp (root_facts root) f ≡ false
    place_missing i past none =
        missing sound.load sound.history root sound.stands book.epochs of.epochs f
        (subst (λ rs. All (λ k. NoneOpens rs k.epoch f) book.epochs) rows_are
        (subst (All (λ k. NoneOpens rows k.epoch f)) same
        (All-map (λ k. NoneOpens rows k.epoch f) kept entries
        (subst (All (λ e. NoneOpens rows (kept e).epoch f)) (take_all i entries past) none))))
