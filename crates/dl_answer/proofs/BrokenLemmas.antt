-- The first broken axiom, from the first negative that is met, and what is met from the certain answers without head.
use Rattle.std.proofs.Common.{◌≡◌, ℕ, ◌+◌, ◌<◌, ◌↔◌, Bool, true, false, List, [], ◌∷◌, ◌++◌, map, filter_map, flat_map, length, take, drop, get_or, slice_get, Result, Ok, Err, refl, sym, ap, subst, ◌∙◌, true≢false, nat_lt, append_assoc, append-nil, arith}
use Rattle.std.specs.Prelude.{IsTrue, IfSome}
use Rattle.std.specs.List.{All, Contains}
use Rattle.std.specs.declared.option.Option.{Option}
use Rattle.std.specs.declared.option.Option.TheVariants.{Some, None}
use Rattle.std.proofs.lemmas.Bool.{ltb-true, lt-ltb}
use Rattle.std.proofs.lemmas.List.{map-append, take_more, take-append-drop, drop_more}
use Rattle.std.proofs.lemmas.Option.{slice_get_within, slice_get_read}
use Rattle.std.proofs.lemmas.List.Elements.{All-nil, All-cons, All-append, All-map, Contains-get_or}
use Rattle.dl_terms.specs.NormalForm.{axiom_rows, as_negative, axiom_negatives, nothing_negative}
use Rattle.dl_terms.specs.Answers.{IsCertain}
use Rattle.dl_terms.specs.Broken.{query_of, IsMet, IsFirstBroken, NothingIsBroken}
use Rattle.dl_terms.specs.declared.role.Basic.TheVariants.{Class}
use Rattle.dl_terms.specs.declared.role.Negative.{Negative}
use Rattle.dl_terms.specs.declared.role.Negative.TheVariants.{Basics, Roles, NoLoop}
use Rattle.dl_terms.specs.declared.axiom.Axiom.{Axiom}
use Rattle.dl_terms.specs.declared.axiom.Fact.{Fact}
use Rattle.dl_terms.specs.declared.query.Query.{Query}
use Rattle.dl_hier.proofs.MemberLemmas.{Contains-map, Contains-map_of, Contains-flat_map}
use Rattle.dl_normal.specs.Indexed.{negatives_by_index}
use Rattle.dl_normal.proofs.FormLemmas.{negatives-beside}
use Rattle.dl_join.specs.Tuples.{AreExactly}
use Rattle.dl_join.specs.declared.fault.JoinFault.{JoinFault}
use Rattle.dl_join.specs.declared.fault.JoinFault.TheVariants as join
use Rattle.dl_terms.specs.Table.{Table}
use Rattle.dl_answer.specs.Replies.{AreOver, GivesTuples, RepliesTo}
use Rattle.dl_event.specs.declared.answer.AskFault.{AskFault}
use Rattle.dl_terms.specs.Reply.{IsReply, inconsistent, found}
use Rattle.dl_terms.specs.Reply.IsReply.{is_inconsistent, is_too_many, is_found}
use Rattle.dl_answer.specs.declared.broken.Verdict.{Verdict}
use Rattle.dl_answer.specs.declared.broken.Verdict.TheVariants.{Broken, Sound}
use Rattle.dl_answer.specs.Verdicts.{IsFirstMet, FindsMet, HasMember, Finds, fault_of}

-- ---- a negative is met where its query has the tuple without names

no_head : (n : Negative) → (query_of n).head ≡ []
no_head (Basics b c) = refl
no_head (Roles r s) = refl
no_head (NoLoop r) = refl

module _ (axioms : List Axiom) (facts : List Fact) (n : Negative) where
  met_by : (tuple : List ℕ) → IsCertain axioms facts (query_of n) tuple → IsMet axioms facts n
  met_by tuple certain = (certain.elements, certain.is_match)

  certain_by : IsMet axioms facts n → IsCertain axioms facts (query_of n) []
  certain_by met = record {
    elements = met.0;
    is_match = met.1;
    is_head = ap (map met.0) (no_head n);
  }

  -- by the list of the certain answers, and by more of them than a limit
  some_met : (tuples : List (List ℕ)) → AreExactly (IsCertain axioms facts (query_of n)) tuples → 0 < length tuples
      → IsMet axioms facts n
  some_met tuples is some = met_by (get_or tuples 0 []) ((is.exact (get_or tuples 0 [])).0 (Contains-get_or tuples 0 [] some))

  met_some : (tuples : List (List ℕ)) → AreExactly (IsCertain axioms facts (query_of n)) tuples → IsMet axioms facts n
      → 0 < length tuples
  met_some tuples is met = let c = (is.exact []).1 (certain_by met) in let at = c.1 in omega (arith, at)

  pub met_told : (q : Query) (tuples : List (List ℕ)) (count : ℕ) → q ≡ query_of n
      → AreExactly (IsCertain axioms facts q) tuples → count ≡ length tuples → IsTrue (nat_lt 0 count) ↔ IsMet axioms facts n
  met_told q tuples count same is counted =
      let exact = subst (λ (p : Query). AreExactly (IsCertain axioms facts p) tuples) same is in (
        λ t. some_met tuples exact (omega (arith, ltb-true 0 count t, counted)),
        λ met. lt-ltb 0 count (omega (arith, met_some tuples exact met, counted)),
      )

  pub met_over : (q : Query) (limit : ℕ) → q ≡ query_of n → AreOver limit (IsCertain axioms facts q)
      → IsTrue true ↔ IsMet axioms facts n
  met_over q limit same over =
      let exact = subst (λ (p : Query). AreExactly (IsCertain axioms facts p) over.tuples) same over.exact in
      let longer = over.longer in
      (λ _. some_met over.tuples exact (omega (arith, longer)), λ _. refl)

-- ---- the first of some negatives

module _ (Met : Negative → Type 0) (ns : List (ℕ × Negative)) (i : ℕ) (d : ℕ × Negative) (within : i < length ns)
    (so_far : All (λ n. ¬ Met n.1) (take i ns)) where
  -- the next one is met
  pub first_here : Met (get_or ns i d).1 → IsFirstMet Met ns (get_or ns i d).0
  first_here met = record {
    before = take i ns;
    negative = (get_or ns i d).1;
    after = drop (i + 1) ns;
    is_there = sym (take-append-drop i ns) ∙ ap (λ l. take i ns ++ l) (drop_more ns i d within);
    met = met;
    first = so_far;
  }

  -- it isn't
  pub none_more : ¬ Met (get_or ns i d).1 → All (λ n. ¬ Met n.1) (take (i + 1) ns)
  none_more absent =
      subst (All (λ n. ¬ Met n.1)) (sym (take_more ns i d within))
      (All-append (λ n. ¬ Met n.1) (take i ns) (get_or ns i d ∷ []) so_far
      (All-cons (λ n. ¬ Met n.1) (get_or ns i d) [] absent (All-nil (λ n. ¬ Met n.1))))

-- the next one stands there
pub next_there : (ns : List (ℕ × Negative)) (i : ℕ) (d : ℕ × Negative) → i < length ns
    → (n : Negative) × Contains ns ((get_or ns i d).0, n)
next_there ns i d within = ((get_or ns i d).1, Contains-get_or ns i d within)

-- where owl:Nothing is no name, it has no member
pub none_named : (axioms : List Axiom) (facts : List Fact) (nothing : Option ℕ) → nothing ≡ None
    → IsTrue false ↔ HasMember axioms facts nothing
none_named axioms facts nothing is =
    subst (λ o. IsTrue false ↔ HasMember axioms facts o) (sym is) (λ f. absurd (true≢false (sym f)), λ h. absurd h)

-- what isn't told doesn't hold
pub absent_by : {P : Type 0} (r : Bool) → r ≡ false → IsTrue r ↔ P → ¬ P
absent_by r is told p = true≢false (sym (told.1 p) ∙ is)

-- ---- from negatives beside indexes to the axioms

module _ (axioms : List Axiom) where
  abbrev beside : ℕ × Negative → Option Axiom × Negative
  beside p = (slice_get axioms p.0, p.1)

  all_beside : flat_map axiom_negatives axioms ≡ map beside (negatives_by_index axioms)
  all_beside = sym (negatives-beside axioms ∙ append-nil (flat_map axiom_negatives axioms))

  -- an index beside a negative is one of an axiom
  pub index_within : (index : ℕ) (n : Negative) → Contains (negatives_by_index axioms) (index, n) → index < length axioms
  index_within index n c =
      let there : Contains (flat_map axiom_negatives axioms) (slice_get axioms index, n) =
      subst (λ l. Contains l (slice_get axioms index, n)) (sym all_beside)
      (Contains-map_of beside (negatives_by_index axioms) (index, n) c) in
      let a = Contains-flat_map axiom_negatives axioms (slice_get axioms index, n) there in
      let m = Contains-map (λ n. (Some a.0, n)) (filter_map as_negative (axiom_rows a.0)) (slice_get axioms index, n) a.2 in
      slice_get_within axioms index a.0 (sym (ap (λ p. p.0) m.2))

  module _ (facts : List Fact) (nothing : Option ℕ) where
    -- the axiom of the first negative that is met is the first broken one
    pub broken_at : (index : ℕ) (a : Axiom) → slice_get axioms index ≡ Some a
        → IsFirstMet (IsMet axioms facts) (negatives_by_index axioms) index → IsFirstBroken axioms facts nothing (Some a)
    broken_at index a at f = record {
      before = map beside f.before;
      negative = f.negative;
      after = map beside f.after ++ nothing_negative nothing;
      is_there =
          ap (λ l. l ++ nothing_negative nothing)
          (all_beside ∙ ap (map beside) f.is_there ∙ map-append beside f.before ((index, f.negative) ∷ f.after))
          ∙ append_assoc (map beside f.before) (map beside ((index, f.negative) ∷ f.after)) (nothing_negative nothing)
          ∙ ap (λ o. map beside f.before ++ (o, f.negative) ∷ (map beside f.after ++ nothing_negative nothing)) at;
      met = f.met;
      first = All-map (λ n. ¬ IsMet axioms facts n.1) beside f.before f.first;
    }

    module _ (none : All (λ n. ¬ IsMet axioms facts n.1) (negatives_by_index axioms)) where
      none_beside : All (λ n. ¬ IsMet axioms facts n.1) (map beside (negatives_by_index axioms))
      none_beside = All-map (λ n. ¬ IsMet axioms facts n.1) beside (negatives_by_index axioms) none

      -- where no negative of an axiom is met, a member of owl:Nothing is the first that breaks something
      pub broken_last : HasMember axioms facts nothing → IsFirstBroken axioms facts nothing None
      broken_last = by nothing
        where
          by : (nothing : Option ℕ) → HasMember axioms facts nothing → IsFirstBroken axioms facts nothing None
          by None met = absurd met
          by (Some n) met = record {
            before = map beside (negatives_by_index axioms);
            negative = Basics (Class n) (Class n);
            after = [];
            is_there = ap (λ l. l ++ nothing_negative (Some n)) all_beside;
            met = met;
            first = none_beside;
          }

      -- and without one nothing is broken
      pub sound : ¬ HasMember axioms facts nothing → NothingIsBroken axioms facts nothing
      sound = by nothing
        where
          by : (nothing : Option ℕ) → ¬ HasMember axioms facts nothing → NothingIsBroken axioms facts nothing
          by None absent =
              All-append (λ n. ¬ IsMet axioms facts n.1) (flat_map axiom_negatives axioms) []
              (subst (All (λ n. ¬ IsMet axioms facts n.1)) (sym all_beside) none_beside)
              (All-nil (λ n. ¬ IsMet axioms facts n.1))
          by (Some n) absent =
              All-append (λ n. ¬ IsMet axioms facts n.1) (flat_map axiom_negatives axioms) (nothing_negative (Some n))
              (subst (All (λ n. ¬ IsMet axioms facts n.1)) (sym all_beside) none_beside)
              (All-cons (λ n. ¬ IsMet axioms facts n.1) (None, Basics (Class n) (Class n)) [] absent
              (All-nil (λ n. ¬ IsMet axioms facts n.1)))

-- ---- what a search for the first tells

module _ (axioms : List Axiom) (ns : List (ℕ × Negative)) (is : ns ≡ negatives_by_index axioms) (found : Option ℕ) where
  pub found_within : (index : ℕ) → found ≡ Some index → IfSome found (λ i. (n : Negative) × Contains ns (i, n))
      → index < length axioms
  found_within index at h =
      let w = subst (λ o. IfSome o (λ i. (n : Negative) × Contains ns (i, n))) at h in
      index_within axioms index w.0 (subst (λ l. Contains l (index, w.0)) is w.1)

  module _ (facts : List Fact) (nothing : Option ℕ) (finds : FindsMet (IsMet axioms facts) ns found) where
    pub found_broken : (index : ℕ) (a copy : Axiom) → found ≡ Some index → index < length axioms → a ≡ get_or axioms index a
        → copy ≡ a → IsFirstBroken axioms facts nothing (Some copy)
    found_broken index a copy at within read same =
        let one = subst (FindsMet (IsMet axioms facts) ns) at finds in
        broken_at axioms facts nothing index copy
        (slice_get_read axioms (length axioms) index a refl within read ∙ ap Some (sym same))
        (subst (λ l. IsFirstMet (IsMet axioms facts) l index) is one)

    none_met : found ≡ None → All (λ n. ¬ IsMet axioms facts n.1) (negatives_by_index axioms)
    none_met at =
        subst (All (λ n. ¬ IsMet axioms facts n.1)) is (subst (FindsMet (IsMet axioms facts) ns) at finds)

    pub found_last : (has : Bool) → found ≡ None → has ≡ true → IsTrue has ↔ HasMember axioms facts nothing
        → IsFirstBroken axioms facts nothing None
    found_last has at is_true told = broken_last axioms facts nothing (none_met at) (told.0 is_true)

    pub found_sound : (has : Bool) → found ≡ None → has ≡ false → IsTrue has ↔ HasMember axioms facts nothing
        → NothingIsBroken axioms facts nothing
    found_sound has at is_false told = sound axioms facts nothing (none_met at) (absent_by has is_false told)

-- what is found is the defined reply, or leaves it to the certain answers
module _ (axioms : List Axiom) (facts : List Fact) (nothing : Option ℕ) (verdict : Verdict)
    (finds : Finds axioms facts nothing verdict) where
  pub broken_reply : (q : Query) (limit : ℕ) (broken : Option Axiom) → verdict ≡ Broken broken
      → IsReply axioms facts nothing q limit (inconsistent broken)
  broken_reply q limit broken is = is_inconsistent (subst (Finds axioms facts nothing) is finds)

  pub sound_reply : verdict ≡ Sound → NothingIsBroken axioms facts nothing
  sound_reply is = subst (Finds axioms facts nothing) is finds

-- where nothing is broken, the certain answers are the reply, or that there are too many
module _ (axioms : List Axiom) (facts : List Fact) (nothing : Option ℕ) (q : Query) (limit : ℕ) (r : Result Table JoinFault)
    (none : NothingIsBroken axioms facts nothing) (gives : GivesTuples (IsCertain axioms facts q) limit r) where
  pub found_told : (table : Table) → r ≡ Ok table → IsReply axioms facts nothing q limit (found table.tuples)
  found_told table is =
      let told = subst (GivesTuples (IsCertain axioms facts q) limit) is gives in
      is_found none (record { ascending = told.0.ascending; exact = told.0.exact }) told.1

  pub fault_told : (version : ℕ) (fault : JoinFault) (made : AskFault) → r ≡ Err fault → made ≡ fault_of version fault
      → RepliesTo axioms facts nothing q limit version (Err made)
  fault_told version fault made is same =
      subst (λ m. RepliesTo axioms facts nothing q limit version (Err m)) (sym same)
      (by fault (subst (GivesTuples (IsCertain axioms facts q) limit) is gives))
    where
      by : (fault : JoinFault) → GivesTuples (IsCertain axioms facts q) limit (Err fault)
          → RepliesTo axioms facts nothing q limit version (Err (fault_of version fault))
      by join.TooMany over = (
        is_too_many none (record { ascending = over.exact.ascending; exact = over.exact.exact }) over.longer,
        refl,
      )
      by join.NoMemory gone = tt
