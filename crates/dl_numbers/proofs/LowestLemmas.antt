-- The parent of a place: of the leaders of classes above it the first that is lowest, found by rounds.
use Rattle.std.proofs.Common.{◌≡◌, ℕ, ◌+◌, ◌<◌, ◌≤◌, ◌⊎◌, inl, inr, List, [], ◌∷◌, ◌++◌, length, get_or, Option, Some, None, MatchOption, min, refl, sym, subst, ◌∙◌, arith}
use Rattle.std.specs.List.{All, Contains}
use Rattle.std.specs.List.Sorted.{IsStrictlyIncreasing}
use Rattle.std.proofs.lemmas.Bool.{cases_lt, cases_eq}
use Rattle.std.proofs.lemmas.List.{get_or_default}
use Rattle.std.proofs.lemmas.List.Elements.{Contains-append_left, Contains-append_right, Contains-append_cases, Contains-get_or}
use Rattle.std.proofs.lemmas.List.Kept.{AllPairs-from_increasing}
use Rattle.dl_terms.proofs.MemberLemmas.{All-Contains, Contains-nil, Contains-first, Contains-one}
use Rattle.dl_reach.specs.Digraph.{Digraph, IsEdge}
use Rattle.dl_reach.proofs.Chains.{Chain-refl, Chain-trans}
use Rattle.dl_numbers.specs.DepthFirst.{AreExactly, IsLeastAbove, IsParent}
use Rattle.dl_numbers.specs.Places.{places, Reaches, IsAbove, IsLeaderAbove, IsBeside, IsLowest, IsFirstLowest, AreLeaders}
use Rattle.dl_numbers.proofs.ListLemmas.{ascending_distinct, no_more}
use Rattle.dl_numbers.proofs.NumberLemmas.{rises}
use Rattle.dl_numbers.proofs.OrderLemmas.{chain_decided}
use Rattle.dl_numbers.proofs.PlaceLemmas.{in_places, leader_within, rises_more, same_leader}

module _ (order : Digraph) where
  up_through : (a b c : ℕ) → Reaches order a b → Reaches order b c → Reaches order a c
  up_through = Chain-trans (IsEdge order)

  above_through : (c b a : ℕ) → IsAbove order c b → IsAbove order b a → IsAbove order c a
  above_through c b a over is = (up_through a b c is.0 over.0, λ back. over.1 (up_through c a b back is.0))

  -- ---- one of the lowest

  -- one of some places that is strictly above none of the first so many
  pub record IsLowSoFar (left : List ℕ) (i b : ℕ) : Type 0 where
    pub within : b < order.nodes
    pub among : Contains left b
    pub none_below : (k : ℕ) → k < i → IsAbove order b (get_or left k 0) → ⊥

  module _ (left : List ℕ) (few : All (λ other. other < order.nodes) left) where
    pub low_start : 0 < length left → IsLowSoFar left 0 (get_or left 0 0)
    low_start some = record { within = few 0 0 some; among = Contains-get_or left 0 0 some; none_below = λ k h. absurd (omega (arith, h)) }

    -- it stays, or the next one is taken, which it is above
    pub low_stays : (i b : ℕ) → IsLowSoFar left i b → (IsAbove order b (get_or left i 0) → ⊥) → IsLowSoFar left (i + 1) b
    low_stays i b low never = record {
      within = low.within;
      among = low.among;
      none_below = λ k h is. elim (cases_lt k i) [
        | inl lt ↦ low.none_below k lt is
        | inr le ↦ let e : k ≡ i = omega (arith, h, le) in never (subst (λ j. IsAbove order b (get_or left j 0)) e is)
      ];
    }

    pub low_taken : (i b : ℕ) → i < length left → IsLowSoFar left i b → IsAbove order b (get_or left i 0) → IsLowSoFar left (i + 1) (get_or left i 0)
    low_taken i b h low over = record {
      within = few i 0 h;
      among = Contains-get_or left i 0 h;
      none_below = λ k less is. elim (cases_lt k i) [
        | inl lt ↦ low.none_below k lt (above_through b (get_or left i 0) (get_or left k 0) over is)
        | inr le ↦ let e : k ≡ i = omega (arith, less, le) in
            let itself = subst (λ j. IsAbove order (get_or left i 0) (get_or left j 0)) e is in
            itself.1 itself.0
      ];
    }

    pub low_end : (i b : ℕ) → length left ≤ i → IsLowSoFar left i b → Contains left b × IsLowest order left b
    low_end i b all low = (low.among, λ c h is. low.none_below h.0 (let k = h.1 in omega (arith, k, all)) (subst (IsAbove order b) (sym (get_or_default left h.0 0 c h.1 ∙ h.2)) is))

  -- ---- what is left without it

  -- of the first so many places, those that are beside one
  pub record AreKept (left : List ℕ) (b i : ℕ) (kept : List ℕ) : Type 0 where
    pub ascending : IsStrictlyIncreasing kept
    pub from : (c : ℕ) → Contains kept c → (k : ℕ) × (k < i) × (get_or left k 0 ≡ c) × IsBeside order c b
    pub all : (k : ℕ) → k < i → IsBeside order (get_or left k 0) b → Contains kept (get_or left k 0)

  module _ (left : List ℕ) (up : IsStrictlyIncreasing left) (b : ℕ) where
    pub kept_none : AreKept left b 0 []
    kept_none = record {
      ascending = λ k h. absurd (omega (arith, h));
      from = λ c h. absurd (Contains-nil c h);
      all = λ k h. absurd (omega (arith, h));
    }

    pub kept_more : (i : ℕ) (kept : List ℕ) → i < length left → AreKept left b i kept → IsBeside order (get_or left i 0) b
        → AreKept left b (i + 1) (kept ++ get_or left i 0 ∷ [])
    kept_more i kept h are beside = record {
      ascending = rises_more kept (get_or left i 0) are.ascending (λ c m. let f = are.from c m in
          subst (λ x. x < get_or left i 0) f.2 (AllPairs-from_increasing left up f.0 i 0 f.1 h));
      from = λ c m. elim (Contains-append_cases kept (get_or left i 0 ∷ []) c m) [
        | inl old ↦ let f = are.from c old in (f.0, (let l = f.1 in omega (arith, l)), f.2, f.3)
        | inr new ↦ let e = Contains-one (get_or left i 0) c new in (i, omega arith, e, subst (λ x. IsBeside order x b) e beside)
      ];
      all = λ k less is. elim (cases_lt k i) [
        | inl lt ↦ Contains-append_left kept (get_or left i 0 ∷ []) (get_or left k 0) (are.all k lt is)
        | inr le ↦ let e : i ≡ k = omega (arith, less, le) in
            subst (λ j. Contains (kept ++ get_or left i 0 ∷ []) (get_or left j 0)) e
            (Contains-append_right kept (get_or left i 0 ∷ []) (get_or left i 0) (Contains-first (get_or left i 0) []))
      ];
    }

    pub kept_pass : (i : ℕ) (kept : List ℕ) → AreKept left b i kept → (IsBeside order (get_or left i 0) b → ⊥) → AreKept left b (i + 1) kept
    kept_pass i kept are never = record {
      ascending = are.ascending;
      from = λ c m. let f = are.from c m in (f.0, (let l = f.1 in omega (arith, l)), f.2, f.3);
      all = λ k less is. elim (cases_lt k i) [
        | inl lt ↦ are.all k lt is
        | inr le ↦ let e : k ≡ i = omega (arith, less, le) in absurd (never (subst (λ j. IsBeside order (get_or left j 0) b) e is))
      ];
    }

    pub kept_all : (i : ℕ) (kept : List ℕ) → i ≤ length left → length left ≤ i → AreKept left b i kept → AreExactly left (λ c. IsBeside order c b) kept
    kept_all i kept most least are = record {
      ascending = are.ascending;
      exact = λ c. (
        λ m. let f = are.from c m in
            let within : f.0 < length left = (let l = f.1 in omega (arith, l, most)) in
            (subst (Contains left) f.2 (Contains-get_or left f.0 0 within), f.3),
        λ is. let m = is.0 in
            let here : get_or left m.0 0 ≡ c = get_or_default left m.0 0 c m.1 ∙ m.2 in
            subst (Contains kept) here (are.all m.0 (let l = m.1 in omega (arith, l, least)) (subst (λ x. IsBeside order x b) (sym here) is.1)),
      );
    }

  -- ---- round by round

  module _ (above : List ℕ) where
    -- places that have all those with them that one of them is strictly above
    pub record IsPart (left : List ℕ) : Type 0 where
      pub ascending : IsStrictlyIncreasing left
      pub among : (c : ℕ) → Contains left c → Contains above c
      pub closed : (b c : ℕ) → Contains left b → Contains above c → IsAbove order b c → Contains left c

    -- the first of the lowest that were found, and what is left
    pub record IsSearched (left : List ℕ) (first : ℕ) : Type 0 where
      pub part : IsPart left
      pub among : Contains above first
      pub lowest : IsLowest order above first
      pub rest : (c : ℕ) → Contains above c → IsLowest order above c → Contains left c ⊎ (first ≤ c)

    part_all : IsStrictlyIncreasing above → IsPart above
    part_all up = record { ascending = up; among = λ c h. h; closed = λ b c h m is. m }

    module _ (left : List ℕ) (part : IsPart left) (b : ℕ) (in_it : Contains left b) (low : IsLowest order left b) (kept : List ℕ)
        (are : AreExactly left (λ c. IsBeside order c b) kept) where
      low_of_all : IsLowest order above b
      low_of_all c h is = low c (part.closed b c in_it h is) is

      part_kept : IsPart kept
      part_kept = record {
        ascending = are.ascending;
        among = λ c h. part.among c ((are.exact c).0 h).0;
        closed = λ d c hd hc is. let beside = (are.exact d).0 hd in
            (are.exact c).1 (
              part.closed d c beside.0 hc is,
              ((λ same. beside.1.1 (subst (IsAbove order d) same is)), λ over. beside.1.1 (above_through d c b is over)),
            );
      }

      kept_or_this : (c : ℕ) → IsLowest order above c → Contains left c → Contains kept c ⊎ (b ≡ c)
      kept_or_this c lowest h = elim (cases_eq c b) [
        | inl same ↦ inr (sym same)
        | inr other ↦ inl ((are.exact c).1 (h, (other, lowest b (part.among b in_it))))
      ]

      pub fewer : length kept < length left
      fewer =
          let less = no_more (b ∷ kept) left ((λ h. ((are.exact b).0 h).1.0 refl), ascending_distinct kept are.ascending) within in
          omega (arith, less)
        where
          within : (c : ℕ) → Contains (b ∷ kept) c → Contains left c
          within c h = elim (Contains-append_cases (b ∷ []) kept c h) [
            | inl this ↦ subst (Contains left) (Contains-one b c this) in_it
            | inr later ↦ ((are.exact c).0 later).0
          ]

    pub search_start : IsStrictlyIncreasing above → (b : ℕ) → Contains above b → IsLowest order above b → (kept : List ℕ)
        → AreExactly above (λ c. IsBeside order c b) kept → IsSearched kept b
    search_start up b h low kept are = record {
      part = part_kept above (part_all up) b h low kept are;
      among = h;
      lowest = low;
      rest = λ c m is. elim (kept_or_this above (part_all up) b h low kept are c is m) [
        | inl there ↦ inl there
        | inr e ↦ inr (omega (arith, e))
      ];
    }

    pub search_next : (left : List ℕ) (first : ℕ) → IsSearched left first → (b : ℕ) → Contains left b → IsLowest order left b → (kept : List ℕ)
        → AreExactly left (λ c. IsBeside order c b) kept → IsSearched kept (min first b)
    search_next left first so_far b h low kept are = by (cases_lt first b)
      where
        rest_of : (c : ℕ) → Contains above c → IsLowest order above c → Contains kept c ⊎ ((first ≤ c) ⊎ (b ≡ c))
        rest_of c m is = elim (so_far.rest c m is) [
          | inl there ↦ elim (kept_or_this left so_far.part b h low kept are c is there) [ inl k ↦ inl k | inr e ↦ inr (inr e) ]
          | inr le ↦ inr (inl le)
        ]

        of_first : min first b ≡ first → first ≤ b → IsSearched kept (min first b)
        of_first e le = subst (IsSearched kept) (sym e) (record {
          part = part_kept left so_far.part b h low kept are;
          among = so_far.among;
          lowest = so_far.lowest;
          rest = λ c m is. elim (rest_of c m is) [
            | inl k ↦ inl k
            | inr less ↦ elim less [ inl l ↦ inr l | inr s ↦ inr (omega (arith, le, s)) ]
          ];
        })

        of_this : min first b ≡ b → b ≤ first → IsSearched kept (min first b)
        of_this e le = subst (IsSearched kept) (sym e) (record {
          part = part_kept left so_far.part b h low kept are;
          among = so_far.part.among b h;
          lowest = low_of_all left so_far.part b h low kept are;
          rest = λ c m is. elim (rest_of c m is) [
            | inl k ↦ inl k
            | inr less ↦ elim less [ inl l ↦ inr (omega (arith, le, l)) | inr s ↦ inr (omega (arith, s)) ]
          ];
        })

        by : (first < b) ⊎ (b ≤ first) → IsSearched kept (min first b)
        by (inl lt) = of_first (omega (arith, lt)) (omega (arith, lt))
        by (inr le) = of_this (omega (arith, le)) le

    -- the same where lists are lent anew
    pub search_step : (left one two : List ℕ) (first : ℕ) → IsSearched left first → one ≡ left → two ≡ left → (b : ℕ) → Contains one b × IsLowest order one b
        → (kept : List ℕ) → AreExactly two (λ c. IsBeside order c b) kept → (first' : ℕ) → first' ≡ min first b → IsSearched kept first'
    search_step left one two first so_far s t b low kept are first' e =
        let is = subst (λ xs. Contains xs b × IsLowest order xs b) s low in
        subst (IsSearched kept) (sym e) (search_next left first so_far b is.0 is.1 kept (subst (λ xs. AreExactly xs (λ c. IsBeside order c b) kept) t are))

    pub step_fewer : (left one two : List ℕ) (first : ℕ) → IsSearched left first → one ≡ left → two ≡ left → (b : ℕ) → Contains one b × IsLowest order one b
        → (kept : List ℕ) → AreExactly two (λ c. IsBeside order c b) kept → length kept < length left
    step_fewer left one two first so_far s t b low kept are =
        let is = subst (λ xs. Contains xs b × IsLowest order xs b) s low in
        fewer left so_far.part b is.0 is.1 kept (subst (λ xs. AreExactly xs (λ c. IsBeside order c b) kept) t are)

    pub left_within : All (λ other. other < order.nodes) above → (left one : List ℕ) (first : ℕ) → IsSearched left first → one ≡ left → All (λ other. other < order.nodes) one
    left_within few left one first so_far s = subst (All (λ other. other < order.nodes)) (sym s)
        (λ k d h. All-Contains (λ other. other < order.nodes) above (get_or left k d) few (so_far.part.among (get_or left k d) (Contains-get_or left k d h)))

    pub search_end : (left : List ℕ) (first : ℕ) → IsSearched left first → ((0 < length left) × (get_or left 0 0 < first) → ⊥) → IsFirstLowest order above first
    search_end left first so_far never = record {
      among = so_far.among;
      lowest = so_far.lowest;
      first = λ c h is. elim (so_far.rest c h is) [
        | inl there ↦ elim (cases_lt c first) [
          | inl before ↦
              let here = get_or_default left there.0 0 c there.1 ∙ there.2 in
              let least = rises left so_far.part.ascending 0 there.0 (omega arith) there.1 in
              absurd (never ((let k = there.1 in omega (arith, k)), omega (arith, before, here, least)))
          | inr behind ↦ behind
        ]
        | inr le ↦ le
      ];
    }

-- ---- the parent

module _ (order : Digraph) (leaders : List ℕ) (lead : AreLeaders order leaders) (place : ℕ) (above : List ℕ)
    (are : AreExactly (places order.nodes) (λ other. IsLeaderAbove order leaders other place) above) where
  abbrev leader : ℕ → ℕ
  leader k = get_or leaders k 0

  leader_twice : (c : ℕ) → c < order.nodes → leader (leader c) ≡ leader c
  leader_twice c h = sym (same_leader order leaders lead c (leader c) h (leader_within order leaders lead c h) (lead.connected c h))

  -- what is strictly above the place is so by the leader of its class, which stands in the list
  leader_in : (c : ℕ) → Contains (places order.nodes) c → IsAbove order c place → Contains above (leader c)
  leader_in c m is =
      let h = (in_places order.nodes c).0 m in
      let both = lead.connected c h in
      (are.exact (leader c)).1 (
        (in_places order.nodes (leader c)).1 (leader_within order leaders lead c h),
        (leader_twice c h, (up_through order place c (leader c) is.0 both.0, λ back. is.1 (up_through order c (leader c) place both.0 back))),
      )

  lowest_least : (b : ℕ) → Contains above b → IsLowest order above b → IsLeastAbove (places order.nodes) (Reaches order) b place
  lowest_least b h lowest = let is = (are.exact b).0 h in record {
    among = is.0;
    above = is.1.1;
    least = λ c hc sc down. elim (chain_decided order.edges b c) [
      | inl up ↦ up
      | inr never ↦ let both = lead.connected c ((in_places order.nodes c).0 hc) in
          absurd (lowest (leader c) (leader_in c hc sc) (
            up_through order (leader c) c b both.1 down,
            λ back. never (up_through order b (leader c) c back both.1),
          ))
    ];
  }

  least_lowest : (b : ℕ) → IsLeastAbove (places order.nodes) (Reaches order) b place → Contains above (leader b) × IsLowest order above (leader b)
  least_lowest b is =
      let both = lead.connected b ((in_places order.nodes b).0 is.among) in (
        leader_in b is.among is.above,
        λ c h over. let k = (are.exact c).0 h in
            over.1 (up_through order (leader b) b c both.1 (is.least c k.0 k.1.1 (up_through order c (leader b) b over.0 both.1))),
      )

  parent_found : (b : ℕ) → IsFirstLowest order above b → IsParent (places order.nodes) (Reaches order) b place
  parent_found b is = record {
    above = lowest_least b is.among is.lowest;
    first = λ c l.
        let k = least_lowest c l in
        let h = (in_places order.nodes c).0 l.among in
        let first = is.first (leader c) k.0 k.1 in
        let least = lead.least c h c (Chain-refl (IsEdge order) c, Chain-refl (IsEdge order) c) in
        omega (arith, first, least);
  }

  pub parent_told : (found : Option ℕ) → MatchOption found ((b : ℕ) → Contains above b → IsLowest order above b → ⊥) (λ b. IsFirstLowest order above b)
      → MatchOption found ((p : ℕ) → IsParent (places order.nodes) (Reaches order) p place → ⊥) (λ p. IsParent (places order.nodes) (Reaches order) p place)
  parent_told None never = λ p is. let k = least_lowest p is.above in never (leader p) k.0 k.1
  parent_told (Some b) is = parent_found b is
