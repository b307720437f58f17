-- A stream file has one value or one first fault, and never both.
use Rattle.std.proofs.Common.{◌≡◌, ◌≢◌, ℕ, ◌+◌, ◌⊎◌, inl, inr, Bool, true, false, List, [], ◌∷◌, ◌++◌, Option, Some, None, Result, Ok, Err, IfOk, IfErr, IsOk, MatchResult, refl, sym, ap, ◌∙◌, subst, arith, true≢false}
use Rattle.std.proofs.lemmas.Bool.{false≢true}
use Rattle.dl_names.specs.NameList.{Text}
use Rattle.dl_event.specs.declared.event.Edit.{Edit}
use Rattle.dl_triples.proofs.ValueLemmas as triple_lemmas
use Rattle.dl_owl.specs.Causes.{fault_of}
use Rattle.dl_owl.specs.Expected.{lone_axiom}
use Rattle.dl_owl.proofs.TokenLists as owl_lemmas
use Rattle.dl_query.proofs.ResultLemmas.{value-one, fault-one, not-both}
use Rattle.dl_stream.specs.declared.streams.Streams.{Streams}
use Rattle.dl_stream.specs.declared.streams.Command.{Command}
use Rattle.dl_stream.specs.declared.streams.Command.TheVariants.{Ask}
use Rattle.dl_stream.specs.declared.fault.Kind.{Kind}
use Rattle.dl_stream.specs.declared.fault.StreamFault.{StreamFault}
use Rattle.dl_stream.specs.declared.fault.StreamFault.TheVariants as faults
use Rattle.dl_stream.specs.Forms.{Form}
use Rattle.dl_stream.specs.Edits.{fact_edits, document_edits, GivesEdits, of_triple, of_axiom, triple_kind, axiom_kind, HasEditFault, in_lines, in_triple, in_axiom}
use Rattle.dl_stream.specs.Reading.{Place, in_stream, in_commit, Leads, to_first, to_next, to_commit, by_event, by_query, by_edit, by_end, Gives, passed_over, said, query_kind, Stops, misplaced, too_many_streams, too_many_commands, in_query, in_edit, HasFault, formless, stopped, AreRead, none, line, FirstFault, here, later, not_ended, streams_at, IsValue, IsFirstFault, at_line}

apart : (b : Bool) → b ≡ true → b ≡ false → ⊥
apart b holds fails = true≢false (sym holds ∙ fails)

-- ---- the text of an edit

module _ {add : Bool} {text : List ℕ} {names : List Text} where
  pub one_edits : {more more' : List Edit} {after after' : List Text} → GivesEdits add text names more after → GivesEdits add text names more' after'
      → (more ≡ more') × (after ≡ after')
  one_edits (of_triple {facts = f} {skipped = k} {after = a} is one v) (of_triple {facts = f'} {skipped = k'} {after = a'} is' one' v') =
      let same = triple_lemmas.one_value text names f f' k k' a a' v v' in
      (ap (fact_edits add) same.0, same.2)
  one_edits (of_triple is one v) (of_axiom other v') = absurd (apart _ is other)
  one_edits (of_axiom other v) (of_triple is one v') = absurd (apart _ is other)
  one_edits (of_axiom {document = d} {after = a} other v) (of_axiom {document = d'} {after = a'} other' v') =
      let same = owl_lemmas.one_value text lone_axiom names d d' a a' v v' in
      (ap (document_edits add) same.0, same.1)

  pub edits_no_fault : {more : List Edit} {after : List Text} {k : Kind} → GivesEdits add text names more after → HasEditFault text names k → ⊥
  edits_no_fault (of_triple is one v) (in_lines is' lines) = lines one
  edits_no_fault (of_triple {facts = f} {skipped = k} {after = a} is one v) (in_triple {fault = fault} is' one' h) = triple_lemmas.value_no_fault text names f k a fault v h
  edits_no_fault (of_triple is one v) (in_axiom other h) = apart _ is other
  edits_no_fault (of_axiom other v) (in_lines is' lines) = apart _ is' other
  edits_no_fault (of_axiom other v) (in_triple is' one' h) = apart _ is' other
  edits_no_fault (of_axiom {document = d} {after = a} other v) (in_axiom other' h) = owl_lemmas.no_fault_at_value text lone_axiom names d a h.cause h.at v h.read

pub one_edit_fault : {text : List ℕ} {names : List Text} {k k' : Kind} → HasEditFault text names k → HasEditFault text names k' → k ≡ k'
one_edit_fault (in_lines is lines) (in_lines is' lines') = refl
one_edit_fault (in_lines is lines) (in_triple is' one h) = absurd (lines one)
one_edit_fault (in_lines is lines) (in_axiom other h) = absurd (apart _ is other)
one_edit_fault (in_triple is one h) (in_lines is' lines) = absurd (lines one)
one_edit_fault {text = text} {names = names} (in_triple {fault = f} is one h) (in_triple {fault = f'} is' one' h') =
    ap triple_kind (triple_lemmas.one_first text names f f' h h')
one_edit_fault (in_triple is one h) (in_axiom other h') = absurd (apart _ is other)
one_edit_fault (in_axiom other h) (in_lines is' lines) = absurd (apart _ is' other)
one_edit_fault (in_axiom other h) (in_triple is' one' h') = absurd (apart _ is' other)
one_edit_fault {text = text} {names = names} (in_axiom other h) (in_axiom other' h') =
    let same = owl_lemmas.one_fault_read text lone_axiom names h.cause h'.cause h.at h'.at h.read h'.read in
    ap axiom_kind (h.is ∙ (λ i. fault_of (same.0 i) (same.1 i)) ∙ sym h'.is)

-- ---- what is said at a place

pub one_lead : {n : ℕ} {names after after' : List Text} {f : Form} {p q q' : Place} → Leads n names f p q after → Leads n names f p q' after' → (q ≡ q') × (after ≡ after')
one_lead to_first to_first = (refl, refl)
one_lead (to_next few) (to_next few') = (refl, refl)
one_lead (to_commit few) (to_commit few') = (refl, refl)
one_lead (by_event few) (by_event few') = (refl, refl)
one_lead {names = names} (by_query {before = b} {commands = c} {limit = limit} {text = text} {q = q} {after = a} few v) (by_query {q = q'} {after = a'} few' v') =
    let same = value-one text names q q' a a' v v' in
    (ap (λ x. in_stream b (c ++ Ask x limit ∷ [])) same.0, same.1)
one_lead (by_edit {before = b} {commands = c} {at = at} {made = made} g) (by_edit g') =
    let same = one_edits g g' in
    (ap (λ l. in_commit b c at (made ++ l)) same.0, same.1)
one_lead by_end by_end = (refl, refl)

pub lead_no_stop : {n : ℕ} {names after : List Text} {f : Form} {p q : Place} {k : Kind} → Leads n names f p q after → Stops names p f k → ⊥
lead_no_stop to_first (misplaced other) = true≢false other
lead_no_stop to_first (too_many_streams may many) = omega (arith, many)
lead_no_stop to_first (too_many_commands may is many) = true≢false (sym is)
lead_no_stop (to_next few) (misplaced other) = true≢false other
lead_no_stop (to_next few) (too_many_streams may many) = omega (arith, few, many)
lead_no_stop (to_next few) (too_many_commands may is many) = true≢false (sym is)
lead_no_stop (to_commit few) (misplaced other) = true≢false other
lead_no_stop (to_commit few) (too_many_commands may is many) = omega (arith, few, many)
lead_no_stop (by_event few) (misplaced other) = true≢false other
lead_no_stop (by_event few) (too_many_commands may is many) = omega (arith, few, many)
lead_no_stop (by_query few v) (misplaced other) = true≢false other
lead_no_stop (by_query few v) (too_many_commands may is many) = omega (arith, few, many)
lead_no_stop {names = names} (by_query {text = text} {q = q} {after = a} few v) (in_query {fault = fault} {after = a'} may few' h) =
    not-both text names q fault a a' v h
lead_no_stop (by_edit g) (misplaced other) = true≢false other
lead_no_stop (by_edit g) (too_many_commands may is many) = true≢false (sym is)
lead_no_stop (by_edit g) (in_edit may h) = edits_no_fault g h
lead_no_stop by_end (misplaced other) = true≢false other
lead_no_stop by_end (too_many_commands may is many) = true≢false (sym is)

pub one_stop : {names : List Text} {f : Form} {p : Place} {k k' : Kind} → Stops names p f k → Stops names p f k' → k ≡ k'
one_stop (misplaced other) (misplaced other') = refl
one_stop (misplaced other) (too_many_streams may many) = absurd (apart _ may other)
one_stop (misplaced other) (too_many_commands may is many) = absurd (apart _ may other)
one_stop (misplaced other) (in_query may few h) = absurd (apart _ may other)
one_stop (misplaced other) (in_edit may h) = absurd (apart _ may other)
one_stop (too_many_streams may many) (misplaced other) = absurd (apart _ may other)
one_stop (too_many_streams may many) (too_many_streams may' many') = refl
one_stop (too_many_streams may many) (too_many_commands may' is many') = absurd (true≢false (sym is))
one_stop (too_many_commands may is many) (misplaced other) = absurd (apart _ may other)
one_stop (too_many_commands may is many) (too_many_streams may' many') = absurd (true≢false (sym is))
one_stop (too_many_commands may is many) (too_many_commands may' is' many') = refl
one_stop (too_many_commands may is many) (in_query may' few h) = absurd (omega (arith, few, many))
one_stop (too_many_commands may is many) (in_edit may' h) = absurd (true≢false (sym is))
one_stop (in_query may few h) (misplaced other) = absurd (apart _ may other)
one_stop (in_query may few h) (too_many_commands may' is many) = absurd (omega (arith, few, many))
one_stop {names = names} (in_query {text = text} {fault = f} {after = a} may few h) (in_query {fault = f'} {after = a'} may' few' h') =
    ap query_kind (fault-one text names f f' a a' h h').0
one_stop (in_edit may h) (misplaced other) = absurd (apart _ may other)
one_stop (in_edit may h) (too_many_commands may' is many) = absurd (true≢false (sym is))
one_stop (in_edit may h) (in_edit may' h') = one_edit_fault h h'

-- ---- one line

some_same : {f g : Form} (r : Option Form) → r ≡ Some f → r ≡ Some g → f ≡ g
some_same {f = f} {g = g} r e e' = let same : Some f ≡ Some g = sym e ∙ e' in cc

some_none : {f : Form} (r : Option Form) → r ≡ Some f → r ≡ None → ⊥
some_none {f = f} r e e' = let same : Some f ≡ None = sym e ∙ e' in cc

pub one_gives : {one : List ℕ} {n : ℕ} {names after after' : List Text} {p q q' : Place} → Gives one n names p q after → Gives one n names p q' after' → (q ≡ q') × (after ≡ after')
one_gives (passed_over is) (passed_over is') = (refl, refl)
one_gives (passed_over is) (said other e l) = absurd (apart _ is other)
one_gives (said other e l) (passed_over is) = absurd (apart _ is other)
one_gives {n = n} {names = names} {after = after} {p = p} {q = q} (said other e l) (said other' e' l') =
    one_lead (subst (λ g. Leads n names g p q after) (some_same _ e e') l) l'

pub gives_no_fault : {one : List ℕ} {n : ℕ} {names after : List Text} {p q : Place} {k : Kind} → Gives one n names p q after → HasFault one names p k → ⊥
gives_no_fault (passed_over is) (formless other e) = apart _ is other
gives_no_fault (passed_over is) (stopped other e h) = apart _ is other
gives_no_fault (said other e l) (formless other' e') = some_none _ e e'
gives_no_fault {n = n} {names = names} {after = after} {p = p} {q = q} (said other e l) (stopped other' e' h) =
    lead_no_stop (subst (λ g. Leads n names g p q after) (some_same _ e e') l) h

pub one_fault : {one : List ℕ} {names : List Text} {p : Place} {k k' : Kind} → HasFault one names p k → HasFault one names p k' → k ≡ k'
one_fault (formless other e) (formless other' e') = refl
one_fault (formless other e) (stopped other' e' h) = absurd (some_none _ e' e)
one_fault (stopped other e h) (formless other' e') = absurd (some_none _ e e')
one_fault {names = names} {p = p} {k = k} (stopped other e h) (stopped other' e' h') =
    one_stop (subst (λ g. Stops names p g k) (some_same _ e e') h) h'

-- ---- all lines

pub one_reading : {lines : List (List ℕ)} {n : ℕ} {names after after' : List Text} {p q q' : Place} → AreRead lines n names p q after → AreRead lines n names p q' after'
    → (q ≡ q') × (after ≡ after')
one_reading none none = (refl, refl)
one_reading (line {lines = lines} {n = n} {after = after} {q = x} {r = r} g more) (line {middle = m'} g' more') =
    let same = one_gives g g' in
    one_reading (subst (λ y. AreRead lines (n + 1) m' y r after) same.0 (subst (λ l. AreRead lines (n + 1) l x r after) same.1 more)) more'

pub read_no_fault : {lines : List (List ℕ)} {n at : ℕ} {names after : List Text} {p q : Place} {k : Kind} {streams : List (List Command)}
    → AreRead lines n names p q after → streams_at q ≡ Some streams → FirstFault lines n names p at k → ⊥
read_no_fault {streams = streams} none ended not_ended = let bad : None ≡ Some streams = ended in cc
read_no_fault (line g more) ended (here h) = gives_no_fault g h
read_no_fault (line {lines = lines} {n = n} {after = after} {q = x} {r = r} g more) ended (later {middle = m'} g' first) =
    let same = one_gives g g' in
    read_no_fault (subst (λ y. AreRead lines (n + 1) m' y r after) same.0 (subst (λ l. AreRead lines (n + 1) l x r after) same.1 more)) ended first

-- a line's number and the kind of its fault
pub one_first_fault : {lines : List (List ℕ)} {n at at' : ℕ} {names : List Text} {p : Place} {k k' : Kind} → FirstFault lines n names p at k → FirstFault lines n names p at' k'
    → (at ≡ at') × (k ≡ k')
one_first_fault (here h) (here h') = (refl, one_fault h h')
one_first_fault (here h) (later g first) = absurd (gives_no_fault g h)
one_first_fault (later g first) (here h) = absurd (gives_no_fault g h)
one_first_fault (later {lines = lines} {n = n} {at = at} {q = x} {k = k} g first) (later {middle = m'} g' first') =
    let same = one_gives g g' in
    one_first_fault (subst (λ y. FirstFault lines (n + 1) m' y at k) same.0 (subst (λ l. FirstFault lines (n + 1) l x at k) same.1 first)) first'
one_first_fault not_ended not_ended = (refl, refl)

-- ---- the bytes

module _ (bytes : List ℕ) (names : List Text) where
  pub one_value : (s s' : List (List Command)) (a a' : List Text) → IsValue bytes names s a → IsValue bytes names s' a' → (s ≡ s') × (a ≡ a')
  one_value s s' a a' v v' =
      let same = one_reading v.read v'.read in
      let both : Some s ≡ Some s' = sym v.ended ∙ ap streams_at same.0 ∙ v'.ended in
      let one : s ≡ s' = cc in
      (one, same.1)

  pub value_no_fault : (s : List (List Command)) (a : List Text) (fault : StreamFault) → IsValue bytes names s a → IsFirstFault bytes names fault → ⊥
  value_no_fault s a _ v (at_line first) = read_no_fault v.read v.ended first

  pub one_first : (fault fault' : StreamFault) → IsFirstFault bytes names fault → IsFirstFault bytes names fault' → fault ≡ fault'
  one_first _ _ (at_line first) (at_line first') = let same = one_first_fault first first' in (λ i. faults.Line (same.0 i) (same.1 i))

pub memory_or_not : (fault : StreamFault) → (fault ≡ faults.NoMemory) ⊎ (fault ≢ faults.NoMemory)
memory_or_not faults.NoMemory = inl refl
memory_or_not (faults.Line n k) = inr (λ e. cc)

-- what was told as a fault, unless memory was wanting, is the first one
module _ (bytes : List ℕ) (names : List Text) (told : StreamFault) (is_first : told ≢ faults.NoMemory → IsFirstFault bytes names told) where
  pub value_no_told : (s : List (List Command)) (a : List Text) → IsValue bytes names s a → told ≡ faults.NoMemory
  value_no_told s a v = by (memory_or_not told)
    where
      by : (told ≡ faults.NoMemory) ⊎ (told ≢ faults.NoMemory) → told ≡ faults.NoMemory
      by (inl e) = e
      by (inr other) = absurd (value_no_fault bytes names s a told v (is_first other))

  pub first_told : (fault : StreamFault) → IsFirstFault bytes names fault → (told ≡ fault) ⊎ (told ≡ faults.NoMemory)
  first_told fault h = by (memory_or_not told)
    where
      by : (told ≡ faults.NoMemory) ⊎ (told ≢ faults.NoMemory) → (told ≡ fault) ⊎ (told ≡ faults.NoMemory)
      by (inl e) = inr e
      by (inr other) = inl (one_first bytes names told fault (is_first other) h)

-- what a result tells, if what it has is right
module _ (bytes : List ℕ) (names after : List Text) where
  pub all_read : (r : Result Streams StreamFault) → IfOk r (λ s. IsValue bytes names s.lists after) → IfErr r (λ fault. fault ≢ faults.NoMemory → IsFirstFault bytes names fault)
      → (lists : List (List Command)) (last : List Text) → IsValue bytes names lists last
      → MatchResult r (λ s. (s.lists ≡ lists) × (after ≡ last)) (λ fault. fault ≡ faults.NoMemory)
  all_read (Ok s) v f lists last w = one_value bytes names s.lists lists after last v w
  all_read (Err fault) v f lists last w = value_no_told bytes names fault f lists last w

  pub all_told : (r : Result Streams StreamFault) → IfOk r (λ s. IsValue bytes names s.lists after) → IfErr r (λ fault. fault ≢ faults.NoMemory → IsFirstFault bytes names fault)
      → (first : StreamFault) → IsFirstFault bytes names first → IfErr r (λ fault. (fault ≡ first) ⊎ (fault ≡ faults.NoMemory)) × (IsOk r → ⊥)
  all_told (Ok s) v f first h = (tt, λ _. value_no_fault bytes names s.lists after first v h)
  all_told (Err fault) v f first h = (first_told bytes names fault f first h, λ ok. false≢true ok)
