-- A text has one value or one first fault, and never both.
use Rattle.std.proofs.Common.{◌≡◌, ◌≢◌, ℕ, ◌+◌, ◌<◌, ◌≤◌, ◌⊎◌, inl, inr, List, [], ◌∷◌, ◌++◌, length, Option, refl, sym, ap, ◌∙◌, subst, arith}
use Rattle.std.proofs.lemmas.Bool.{cases_lt}
use Rattle.dl_names.specs.NameList.{Text, max_names}
use Rattle.dl_terms.specs.declared.axiom.Fact.{Fact}
use Rattle.dl_triples.specs.declared.fault.TripleFault.{TripleFault}
use Rattle.dl_triples.specs.declared.fault.TripleFault.TheVariants as faults
use Rattle.dl_triples.specs.declared.meaning.Meaning.{Meaning}
use Rattle.dl_triples.specs.declared.meaning.Meaning.TheVariants as meanings
use Rattle.dl_triples.specs.Meaning.{meaning_of, names_of, facts_of, skips, all_named}
use Rattle.dl_triples.specs.Terms.{IsNothing, IsTriple, HasNode}
use Rattle.dl_triples.specs.Reading.{Gives, nothing, triple, GivesTriple, Overflows, HasFault, neither, blank, reserved, full, AreRead, none, line, FirstFault, here, later, IsValue, IsFirstFault}
use Rattle.dl_triples.proofs.FormLemmas.{triple_no_nothing, has_node_no_nothing, triple_no_node, one_triple}
use Rattle.dl_triples.proofs.LineCut.{one_cut}
use Rattle.dl_triples.proofs.TextLemmas.{lines_of}

-- ---- one line

module _ (one : List ℕ) (names : List Text) where
  -- what a triple does is determined by its terms
  abbrev after_of : Text → Text → Option Text → List Text
  after_of s p o = all_named names (names_of (meaning_of s p o) s p o)

  same_after : (s p : Text) (o : Option Text) (s' p' : Text) (o' : Option Text) → IsTriple one s p o → IsTriple one s' p' o' → after_of s p o ≡ after_of s' p' o'
  same_after s p o s' p' o' t t' = let same = one_triple one s p o s' p' o' t t' in λ i. after_of (same.0 i) (same.1 i) (same.2 i)

  same_meaning : (s p : Text) (o : Option Text) (s' p' : Text) (o' : Option Text) → IsTriple one s p o → IsTriple one s' p' o' → meaning_of s p o ≡ meaning_of s' p' o'
  same_meaning s p o s' p' o' t t' = let same = one_triple one s p o s' p' o' t t' in λ i. meaning_of (same.0 i) (same.1 i) (same.2 i)

  one_by_triples : {f f' : List Fact} {k k' : ℕ} {a a' : List Text} → GivesTriple one names f k a → GivesTriple one names f' k' a' → (f ≡ f') × (k ≡ k') × (a ≡ a')
  one_by_triples g g' =
      let same = one_triple one g.subject g.predicate g.object g'.subject g'.predicate g'.object g.triple g'.triple in
      let meant = same_meaning g.subject g.predicate g.object g'.subject g'.predicate g'.object g.triple g'.triple in
      let after = g.named ∙ same_after g.subject g.predicate g.object g'.subject g'.predicate g'.object g.triple g'.triple ∙ sym g'.named in
      (g.is ∙ (λ i. facts_of (meant i) (same.0 i) (same.1 i) (same.2 i) (after i)) ∙ sym g'.is, g.counted ∙ ap skips meant ∙ sym g'.counted, after)

  pub one_gives : {f f' : List Fact} {k k' : ℕ} {a a' : List Text} → Gives one names f k a → Gives one names f' k' a' → (f ≡ f') × (k ≡ k') × (a ≡ a')
  one_gives (nothing is) (nothing is') = (refl, refl, refl)
  one_gives (nothing is) (triple g) = absurd (triple_no_nothing one g.subject g.predicate g.object g.triple is)
  one_gives (triple g) (nothing is) = absurd (triple_no_nothing one g.subject g.predicate g.object g.triple is)
  one_gives (triple g) (triple g') = one_by_triples g g'

  pub gives_no_fault : {f : List Fact} {k n : ℕ} {a : List Text} {fault : TripleFault} → Gives one names f k a → HasFault one names n fault → ⊥
  gives_no_fault (nothing is) (neither no_nothing _ _) = no_nothing is
  gives_no_fault (nothing is) (blank node) = has_node_no_nothing one node is
  gives_no_fault (nothing is) (reserved {subject = s} {predicate = p} {object = o} t _) = triple_no_nothing one s p o t is
  gives_no_fault (nothing is) (full h) = triple_no_nothing one h.subject h.predicate h.object h.triple is
  gives_no_fault (triple g) (neither _ no_triple _) = no_triple g.subject g.predicate g.object g.triple
  gives_no_fault (triple g) (blank node) = triple_no_node one g.subject g.predicate g.object g.triple node
  gives_no_fault (triple g) (reserved {subject = s} {predicate = p} {object = o} t is) = g.free (same_meaning g.subject g.predicate g.object s p o g.triple t ∙ is)
  gives_no_fault (triple g) (full h) =
      let after = g.named ∙ same_after g.subject g.predicate g.object h.subject h.predicate h.object g.triple h.triple in
      g.fits (subst (Overflows names) (sym after) h.full)

  pub one_fault : {n : ℕ} {fault fault' : TripleFault} → HasFault one names n fault → HasFault one names n fault' → fault ≡ fault'
  one_fault (neither _ _ _) (neither _ _ _) = refl
  one_fault (neither _ _ no_node) (blank node) = absurd (no_node node)
  one_fault (neither _ no_triple _) (reserved {subject = s} {predicate = p} {object = o} t _) = absurd (no_triple s p o t)
  one_fault (neither _ no_triple _) (full h) = absurd (no_triple h.subject h.predicate h.object h.triple)
  one_fault (blank node) (neither _ _ no_node) = absurd (no_node node)
  one_fault (blank node) (blank node') = refl
  one_fault (blank node) (reserved {subject = s} {predicate = p} {object = o} t _) = absurd (triple_no_node one s p o t node)
  one_fault (blank node) (full h) = absurd (triple_no_node one h.subject h.predicate h.object h.triple node)
  one_fault (reserved {subject = s} {predicate = p} {object = o} t _) (neither _ no_triple _) = absurd (no_triple s p o t)
  one_fault (reserved {subject = s} {predicate = p} {object = o} t _) (blank node) = absurd (triple_no_node one s p o t node)
  one_fault (reserved _ _) (reserved _ _) = refl
  one_fault (reserved {subject = s} {predicate = p} {object = o} t is) (full h) = absurd (h.free (same_meaning h.subject h.predicate h.object s p o h.triple t ∙ is))
  one_fault (full h) (neither _ no_triple _) = absurd (no_triple h.subject h.predicate h.object h.triple)
  one_fault (full h) (blank node) = absurd (triple_no_node one h.subject h.predicate h.object h.triple node)
  one_fault (full h) (reserved {subject = s} {predicate = p} {object = o} t is) = absurd (h.free (same_meaning h.subject h.predicate h.object s p o h.triple t ∙ is))
  one_fault (full h) (full h') = refl

-- ---- all lines

pub one_reading : {lines : List (List ℕ)} {names : List Text} {f f' : List Fact} {k k' : ℕ} {a a' : List Text} → AreRead lines names f k a → AreRead lines names f' k' a' → (f ≡ f') × (k ≡ k') × (a ≡ a')
one_reading none none = (refl, refl, refl)
one_reading (line {line = one} {lines = lines} {names = names} {after = after} {facts = f} {more = more} {skipped = k} {count = count} g r) (line g' r') =
    let same = one_gives one names g g' in
    let rest = one_reading (subst (λ l. AreRead lines l more count after) same.2 r) r' in
    ((λ i. same.0 i ++ rest.0 i), (λ i. same.1 i + rest.1 i), rest.2)

pub read_no_fault : {lines : List (List ℕ)} {names : List Text} {f : List Fact} {k n : ℕ} {a : List Text} {fault : TripleFault} → AreRead lines names f k a → FirstFault lines names n fault → ⊥
read_no_fault none first = elim first [ ]
read_no_fault (line {line = one} {names = names} g r) (here h) = gives_no_fault one names g h
read_no_fault (line {line = one} {lines = lines} {names = names} {after = after} {more = more} {count = count} g r) (later g' first) =
    read_no_fault (subst (λ l. AreRead lines l more count after) (one_gives one names g g').2 r) first

pub one_first_fault : {lines : List (List ℕ)} {names : List Text} {n : ℕ} {fault fault' : TripleFault} → FirstFault lines names n fault → FirstFault lines names n fault' → fault ≡ fault'
one_first_fault (here {line = one} {names = names} h) (here h') = one_fault one names h h'
one_first_fault (here {line = one} {names = names} h) (later g first) = absurd (gives_no_fault one names g h)
one_first_fault (later {line = one} {names = names} g first) (here h) = absurd (gives_no_fault one names g h)
one_first_fault (later {line = one} {lines = lines} {names = names} {n = n} {fault = fault} g first) (later g' first') =
    one_first_fault (subst (λ l. FirstFault lines l (n + 1) fault) (one_gives one names g g').2 first) first'

-- ---- the bytes

module _ (bytes : List ℕ) (names : List Text) where
  pub one_value : (f f' : List Fact) (k k' : ℕ) (a a' : List Text) → IsValue bytes names f k a → IsValue bytes names f' k' a' → (f ≡ f') × (k ≡ k') × (a ≡ a')
  one_value f f' k k' a a' v v' = one_reading (subst (λ l. AreRead l names f k a) (one_cut v.cut v'.cut) v.read) v'.read

  pub value_no_fault : (f : List Fact) (k : ℕ) (a : List Text) (fault : TripleFault) → IsValue bytes names f k a → IsFirstFault bytes names fault → ⊥
  value_no_fault f k a fault v h = read_no_fault (subst (λ l. AreRead l names f k a) (one_cut v.cut h.cut) v.read) h.first

  pub one_first : (fault fault' : TripleFault) → IsFirstFault bytes names fault → IsFirstFault bytes names fault' → fault ≡ fault'
  one_first fault fault' h h' = one_first_fault (subst (λ l. FirstFault l names 1 fault) (one_cut h.cut h'.cut) h.first) h'.first

-- ---- there is one of them

overflows_or_not : (names after : List Text) → Overflows names after ⊎ (Overflows names after → ⊥)
overflows_or_not names after = by (cases_lt (length names) (length after)) (cases_lt max_names (length after))
  where
    by : (length names < length after) ⊎ (length after ≤ length names) → (max_names < length after) ⊎ (length after ≤ max_names) → Overflows names after ⊎ (Overflows names after → ⊥)
    by (inl grows) (inl over) = inl (grows, over)
    by (inl grows) (inr fits) = inr (λ h. omega (arith, h.1, fits))
    by (inr same) _ = inr (λ h. omega (arith, h.0, same))

reserved_or_not : (m : Meaning) → (m ≡ meanings.Reserved) ⊎ (m ≢ meanings.Reserved)
reserved_or_not meanings.Reserved = inl refl
reserved_or_not meanings.Skipped = inr (λ e. cc)
reserved_or_not meanings.NoEffect = inr (λ e. cc)
reserved_or_not meanings.Class = inr (λ e. cc)
reserved_or_not meanings.Link = inr (λ e. cc)

-- lines that have neither a reading nor a fault are none
pub read_or_fault : (lines : List (List ℕ)) (names : List Text) (n : ℕ) → ((f : List Fact) (k : ℕ) (a : List Text) → AreRead lines names f k a → ⊥)
    → ((fault : TripleFault) → FirstFault lines names n fault → ⊥) → ⊥
read_or_fault [] names n no_reading no_fault = no_reading [] 0 names none
read_or_fault (one ∷ lines) names n no_reading no_fault = by (λ names'. read_or_fault lines names' (n + 1))
  where
    by : ((names' : List Text) → ((f : List Fact) (k : ℕ) (a : List Text) → AreRead lines names' f k a → ⊥) → ((fault : TripleFault) → FirstFault lines names' (n + 1) fault → ⊥) → ⊥) → ⊥
    by more = no_fault (faults.Line n) (here (neither no_nothing no_triple no_node))
      where
        no_gift : (f : List Fact) (k : ℕ) (a : List Text) → Gives one names f k a → ⊥
        no_gift f k a g = more a (λ f' k' a' r. no_reading (f ++ f') (k + k') a' (line g r)) (λ fault first. no_fault fault (later g first))

        no_nothing : IsNothing one → ⊥
        no_nothing is = no_gift [] 0 names (nothing is)

        no_node : HasNode one → ⊥
        no_node node = no_fault (faults.Blank n) (here (blank node))

        no_triple : (s p : Text) (o : Option Text) → IsTriple one s p o → ⊥
        no_triple s p o t = cases (reserved_or_not (meaning_of s p o)) (overflows_or_not names (all_named names (names_of (meaning_of s p o) s p o)))
          where
            cases : (meaning_of s p o ≡ meanings.Reserved) ⊎ (meaning_of s p o ≢ meanings.Reserved)
                → Overflows names (all_named names (names_of (meaning_of s p o) s p o)) ⊎ (Overflows names (all_named names (names_of (meaning_of s p o) s p o)) → ⊥) → ⊥
            cases (inl is) _ = no_fault (faults.Reserved n) (here (reserved t is))
            cases (inr free) (inl over) = no_fault (faults.TooManyNames n) (here (full (record { subject = s; predicate = p; object = o; triple = t; free = free; full = over })))
            cases (inr free) (inr fits) =
                no_gift _ _ _ (triple (record { subject = s; predicate = p; object = o; triple = t; free = free; named = refl; fits = fits; is = refl; counted = refl }))

pub value_or_fault : (bytes : List ℕ) (names : List Text) → ((f : List Fact) (k : ℕ) (a : List Text) → IsValue bytes names f k a → ⊥)
    → ((fault : TripleFault) → IsFirstFault bytes names fault → ⊥) → ⊥
value_or_fault bytes names no_value no_fault =
    let cut = lines_of bytes in
    read_or_fault cut.0 names 1 (λ f k a r. no_value f k a (record { lines = cut.0; cut = cut.1; read = r }))
    (λ fault first. no_fault fault (record { lines = cut.0; cut = cut.1; first = first }))

pub memory_or_not : (fault : TripleFault) → (fault ≡ faults.NoMemory) ⊎ (fault ≢ faults.NoMemory)
memory_or_not faults.NoMemory = inl refl
memory_or_not (faults.Line n) = inr (λ e. cc)
memory_or_not (faults.Blank n) = inr (λ e. cc)
memory_or_not (faults.Reserved n) = inr (λ e. cc)
memory_or_not (faults.TooManyNames n) = inr (λ e. cc)

-- what was told as a fault, unless memory was wanting, is the first one
module _ (bytes : List ℕ) (names : List Text) (told : TripleFault) (is_first : told ≢ faults.NoMemory → IsFirstFault bytes names told) where
  pub value_no_told : (f : List Fact) (k : ℕ) (a : List Text) → IsValue bytes names f k a → told ≡ faults.NoMemory
  value_no_told f k a v = by (memory_or_not told)
    where
      by : (told ≡ faults.NoMemory) ⊎ (told ≢ faults.NoMemory) → told ≡ faults.NoMemory
      by (inl e) = e
      by (inr other) = absurd (value_no_fault bytes names f k a told v (is_first other))

  pub first_told : (fault : TripleFault) → IsFirstFault bytes names fault → (told ≡ fault) ⊎ (told ≡ faults.NoMemory)
  first_told fault h = by (memory_or_not told)
    where
      by : (told ≡ faults.NoMemory) ⊎ (told ≢ faults.NoMemory) → (told ≡ fault) ⊎ (told ≡ faults.NoMemory)
      by (inl e) = inr e
      by (inr other) = inl (one_first bytes names told fault (is_first other) h)
