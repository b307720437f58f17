-- Needs that are moved to the names that each of them allows.
use Rattle.std.proofs.Common.{◌≡◌, ◌≢◌, ℕ, ◌+◌, ◌<◌, ◌≤◌, ◌⊎◌, inl, inr, List, length, get_or, set, refl, sym, ap, subst, ◌∙◌, arith}
use Rattle.std.specs.List.{All, Contains}
use Rattle.std.proofs.lemmas.Bool.{cases_lt}
use Rattle.std.proofs.lemmas.List.{get_or_default, get_or-set_same, get_or-set_other}
use Rattle.dl_join.specs.declared.need.Need.{Need}
use Rattle.dl_join.specs.declared.need.Column.{Column}
use Rattle.dl_join.specs.Needs.{in_column, IsAscending, Stands, IsMoved, AreMoved, Allows}

pub IsMoved-weaker : (low high : ℕ) (old new : Need) → low ≤ high → IsMoved low old new → IsMoved high old new
IsMoved-weaker low high old new le m = record {
  at = m.at;
  other = m.other;
  column = m.column;
  within = m.within;
  kept = λ p above. m.kept p (omega arith);
}

pub IsMoved-itself : (bound : ℕ) (need : Need) → IsMoved bound need need
IsMoved-itself bound need = record { at = refl; other = refl; column = refl; within = λ p c. c; kept = λ p le c. c }

pub IsMoved-twice : (low high : ℕ) (one two three : Need) → low ≤ high → IsMoved low one two → IsMoved high two three → IsMoved high one three
IsMoved-twice low high one two three le m n = record {
  at = n.at ∙ m.at;
  other = n.other ∙ m.other;
  column = n.column ∙ m.column;
  within = λ p c. m.within p (n.within p c);
  kept = λ p above c.
      let same = ap (λ (k : Column). in_column k p) m.column in
      n.kept p (omega arith) (m.kept p (omega arith) c);
}

pub AreMoved-itself : (bound : ℕ) (needs : List Need) → AreMoved bound needs needs
AreMoved-itself bound needs = record { count = refl; each = λ k d h. IsMoved-itself bound (get_or needs k d) }

pub AreMoved-twice : (low high : ℕ) (one two three : List Need) → low ≤ high → AreMoved low one two → AreMoved high two three → AreMoved high one three
AreMoved-twice low high one two three le m n = record {
  count = n.count ∙ m.count;
  each = λ k d h.
      let size = m.count in
      IsMoved-twice low high (get_or one k d) (get_or two k d) (get_or three k d) le (m.each k d h) (n.each k d (omega arith));
}

pub AreMoved-weaker : (low high : ℕ) (olds news : List Need) → low ≤ high → AreMoved low olds news → AreMoved high olds news
AreMoved-weaker low high olds news le m = record {
  count = m.count;
  each = λ k d h. IsMoved-weaker low high (get_or olds k d) (get_or news k d) le (m.each k d h);
}

Stands-wider : (low from bound high : ℕ) (need : Need) → low ≤ from → bound ≤ high → Stands from bound need → Stands low high need
Stands-wider low from bound high need lower higher s = record {
  ascending = s.ascending;
  floor = λ p c. let le = s.floor p c in omega arith;
  pair = s.pair;
  among = s.among;
  ceiling = let le = s.ceiling in omega arith;
}

-- a need that was moved still allows the names from the bound on
Allows-moved : (bound x : ℕ) (old new : Need) → bound ≤ x → IsMoved bound old new → Allows x old → Allows x new
Allows-moved bound x old new le m a =
    let here = a.here in
    let same = ap (λ (k : Column). in_column k a.pair) m.column in
    record { pair = a.pair; among = m.kept a.pair (omega arith) a.among; here = omega arith }

pub all_allow : (bound x : ℕ) (olds news : List Need) → bound ≤ x → AreMoved bound olds news → All (Allows x) olds → All (Allows x) news
all_allow bound x olds news le m all = λ k d h.
    let size = m.count in
    Allows-moved bound x (get_or olds k d) (get_or news k d) le (m.each k d (omega arith)) (all k d (omega arith))

-- the first needs are moved to names that are at least the bound, which rises to them
pub record Raised (from bound k : ℕ) (olds news : List Need) : Type 0 where
  pub risen : from ≤ bound
  pub moved : (j : ℕ) (d : Need) → j < k → IsMoved bound (get_or olds j d) (get_or news j d)
  pub stand : (j : ℕ) (d : Need) → j < k → Stands from bound (get_or news j d)
  pub others : (j : ℕ) (d : Need) → k ≤ j → get_or news j d ≡ get_or olds j d
  pub least : (x : ℕ) → from ≤ x → All (Allows x) olds → bound ≤ x

pub Raised-none : (from : ℕ) (needs : List Need) → Raised from from 0 needs needs
Raised-none from needs = record {
  risen = omega arith;
  moved = λ j d lt. absurd (omega arith);
  stand = λ j d lt. absurd (omega arith);
  others = λ j d le. refl;
  least = λ x le all. le;
}

pub next_ascends : (olds news : List Need) (from bound k : ℕ) (d : Need) → Raised from bound k olds news → k < length olds → All IsAscending olds → IsAscending (get_or news k d)
next_ascends olds news from bound k d r h all = subst IsAscending (sym (r.others k d (omega arith))) (all k d h)

-- the first pair has the least name
first_least : (need : Need) (pair p : ℕ × ℕ) → IsAscending need → 0 < length need.pairs.now → get_or need.pairs.now 0 pair ≡ pair → Contains need.pairs.now p
    → in_column need.column pair ≤ in_column need.column p
first_least need pair p up h first c =
    let rise = up.names 0 c.0 p (omega arith) c.1 in
    let low = ap (in_column need.column) (get_or_default need.pairs.now 0 p pair h ∙ first) in
    let high = ap (in_column need.column) c.2 in
    omega arith

-- each need up to the next one: those before, or that one
up_to : (j k : ℕ) → j < k + 1 → (j < k) ⊎ (j ≡ k)
up_to j k lt = elim (cases_lt j k) [ inl before ↦ inl before | inr past ↦ inr (omega arith) ]

pub Raised-more : (from bound k : ℕ) (olds news : List Need) (m : Need) (pair : ℕ × ℕ) → Raised from bound k olds news → length news ≡ length olds → k < length olds
    → ((d : Need) → IsMoved bound (get_or news k d) m) → IsAscending m → ((p : ℕ × ℕ) → Contains m.pairs.now p → bound ≤ in_column m.column p)
    → 0 < length m.pairs.now → get_or m.pairs.now 0 pair ≡ pair
    → Raised from (in_column m.column pair) (k + 1) olds (set news k m)
Raised-more from bound k olds news m pair r size h is_moved up floor some first =
    let reached = in_column m.column pair in
    let among : Contains m.pairs.now pair = (0, some, first) in
    let risen : bound ≤ reached = floor pair among in
    let start = r.risen in
    let inside : k < length news = omega arith in
    record {
      risen = omega arith;
      moved = λ j d lt. elim (up_to j k lt) [
        | inl before ↦
            (let other : j ≢ k = omega arith in
            rw (get_or-set_other news k j m d other) (IsMoved-weaker bound reached (get_or olds j d) (get_or news j d) risen (r.moved j d before)))
        | inr same ↦
            (let old : get_or news k d ≡ get_or olds k d = r.others k d (omega arith) in
            rw (same, get_or-set_same news k m d inside) (IsMoved-weaker bound reached (get_or olds k d) m risen (subst (λ n. IsMoved bound n m) old (is_moved d))))
      ];
      stand = λ j d lt. elim (up_to j k lt) [
        | inl before ↦
            (let other : j ≢ k = omega arith in
            rw (get_or-set_other news k j m d other) (Stands-wider from from bound reached (get_or news j d) (omega arith) risen (r.stand j d before)))
        | inr same ↦
            rw (same, get_or-set_same news k m d inside) (record {
              ascending = up;
              floor = λ p c. let le = floor p c in omega arith;
              pair = pair;
              among = among;
              ceiling = omega arith;
            })
      ];
      others = λ j d le. (let other : j ≢ k = omega arith in get_or-set_other news k j m d other ∙ r.others j d (omega arith));
      least = λ x le all.
          let below = r.least x le all in
          let old : get_or news k m ≡ get_or olds k m = r.others k m (omega arith) in
          let a = Allows-moved bound x (get_or olds k m) m below (subst (λ n. IsMoved bound n m) old (is_moved m)) (all k m h) in
          let here = a.here in
          let lowest = first_least m pair a.pair up some first a.among in
          omega arith;
    }

pub none_allowed : (from bound k : ℕ) (olds news : List Need) (m : Need) → Raised from bound k olds news → k < length olds
    → ((d : Need) → IsMoved bound (get_or news k d) m) → length m.pairs.now ≡ 0 → (x : ℕ) → from ≤ x → All (Allows x) olds → ⊥
none_allowed from bound k olds news m r h is_moved empty x le all =
    let below = r.least x le all in
    let old : get_or news k m ≡ get_or olds k m = r.others k m (omega arith) in
    let a = Allows-moved bound x (get_or olds k m) m below (subst (λ n. IsMoved bound n m) old (is_moved m)) (all k m h) in
    let inside = a.among.1 in
    omega arith

pub raised_moved : (from bound : ℕ) (olds news : List Need) (k : ℕ) → Raised from bound k olds news → length news ≡ length olds → length olds ≤ k → AreMoved bound olds news
raised_moved from bound olds news k r size le = record { count = size; each = λ j d h. r.moved j d (omega arith) }

pub raised_stand : (from bound : ℕ) (olds news : List Need) (k : ℕ) → Raised from bound k olds news → length news ≡ length olds → length olds ≤ k → All (Stands from bound) news
raised_stand from bound olds news k r size le = λ j d h. r.stand j d (omega arith)

-- the needs on the way to a name that each of them allows: none from the start up to the bound is
pub record Meets (from bound : ℕ) (olds news : List Need) : Type 0 where
  pub risen : from ≤ bound
  pub moved : AreMoved bound olds news
  pub ascending : All IsAscending news
  pub least : (x : ℕ) → from ≤ x → All (Allows x) olds → bound ≤ x

pub Meets-none : (from : ℕ) (needs : List Need) → All IsAscending needs → Meets from from needs needs
Meets-none from needs up = record { risen = omega arith; moved = AreMoved-itself from needs; ascending = up; least = λ x le all. le }

pub Meets-more : (from bound reached : ℕ) (olds news later : List Need) → Meets from bound olds news → bound ≤ reached → AreMoved reached news later
    → All (Stands bound reached) later → ((x : ℕ) → bound ≤ x → All (Allows x) news → reached ≤ x) → Meets from reached olds later
Meets-more from bound reached olds news later m le moved stand least = record {
  risen = let r = m.risen in omega arith;
  moved = AreMoved-twice bound reached olds news later le m.moved moved;
  ascending = λ k d h. (stand k d h).ascending;
  least = λ x low all. let above = m.least x low all in least x above (all_allow bound x olds news above m.moved all);
}

pub Meets-nothing : (from bound : ℕ) (olds news : List Need) → Meets from bound olds news → ((x : ℕ) → bound ≤ x → All (Allows x) news → ⊥)
    → (x : ℕ) → from ≤ x → All (Allows x) olds → ⊥
Meets-nothing from bound olds news m none x low all =
    let above = m.least x low all in
    none x above (all_allow bound x olds news above m.moved all)
