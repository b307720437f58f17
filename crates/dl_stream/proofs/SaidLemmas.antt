-- What comes of what a line says, as the code keeps it.
use Rattle.std.proofs.Common.{◌≡◌, ◌≢◌, ℕ, ◌+◌, ◌<◌, ◌≤◌, ◌⊎◌, inl, inr, Bool, true, false, List, [], ◌∷◌, ◌++◌, length, take, sum_by, Some, Result, Ok, Err, IfOk, IfErr, refl, sym, ap, subst, arith, length-append}
use Rattle.std.proofs.lemmas.List.Sums.{sum_by-append}
use Rattle.dl_names.specs.NameList.{Text, Extends}
use Rattle.dl_names.proofs.NameListLemmas.{Extends-same, Extends-trans}
use Rattle.dl_event.specs.declared.event.Edit.{Edit}
use Rattle.dl_terms.specs.declared.axiom.Fact.{Fact}
use Rattle.dl_query.specs.declared.fault.QueryFault.{QueryFault}
use Rattle.dl_query.specs.declared.fault.QueryFault.TheVariants as query_faults
use Rattle.dl_owl.specs.declared.fault.OwlFault.{OwlFault}
use Rattle.dl_owl.specs.declared.fault.OwlFault.TheVariants as owl_faults
use Rattle.dl_triples.specs.Reading as triples
use Rattle.dl_triples.specs.Meaning.{triple_names}
use Rattle.dl_triples.proofs.AddLemmas.{Extends-all_named}
use Rattle.dl_triples.proofs.PlaceLemmas.{read_grows}
use Rattle.dl_stream.specs.declared.streams.Command.{Command}
use Rattle.dl_stream.specs.declared.fault.Kind.{Kind}
use Rattle.dl_stream.specs.declared.fault.Kind.TheVariants as kinds
use Rattle.dl_stream.specs.declared.fault.StreamFault.{StreamFault}
use Rattle.dl_stream.specs.declared.fault.StreamFault.TheVariants.{Line, NoMemory}
use Rattle.dl_stream.specs.declared.form.Form.{Form as KeptForm}
use Rattle.dl_stream.specs.declared.form.Form.TheVariants.{Begins}
use Rattle.dl_stream.specs.declared.place.Open.{Open}
use Rattle.dl_stream.specs.declared.place.Place.{Place as KeptPlace}
use Rattle.dl_stream.specs.declared.place.Place.TheVariants.{InStream, InCommit}
use Rattle.dl_stream.specs.Forms.{Form, begins, opens, edits, form_of, is_passed}
use Rattle.dl_stream.specs.Reading.{Place, outside, in_stream, in_commit, command_count, max_commands, max_streams, fits, is_command, Leads, to_first, to_next, to_commit, by_edit, Stops, misplaced, too_many_streams, too_many_commands, HasFault, stopped}
use Rattle.dl_stream.specs.Reading as reading
use Rattle.dl_stream.specs.Parts.{said, IsCounted, ToldAt, wants_memory, is_told, LeadsTo, GivesTo, AddsEdits, Comes}

pub told_as : {n : ℕ} {P : Kind → Type 0} {fault : StreamFault} {k : Kind} → fault ≡ Line n k → P k → ToldAt n P fault
told_as {n = n} {P = P} is h = subst (ToldAt n P) (sym is) (is_told h)

pub told_weaker : {n : ℕ} {P Q : Kind → Type 0} {fault : StreamFault} → ((k : Kind) → P k → Q k) → ToldAt n P fault → ToldAt n Q fault
told_weaker weaker wants_memory = wants_memory
told_weaker weaker (is_told {k = k} h) = is_told (weaker k h)

-- the fault of a part's reader, told as one of the line
pub told_by : {F : Type 0} {n : ℕ} {P : Kind → Type 0} (fault lacks : F) (kind : Kind) (result : StreamFault) → (fault ≡ lacks) ⊎ (fault ≢ lacks)
    → (fault ≡ lacks → result ≡ NoMemory) → (fault ≢ lacks → result ≡ Line n kind) → (fault ≢ lacks → P kind) → ToldAt n P result
told_by {n = n} {P = P} fault lacks kind result (inl e) none some h = subst (ToldAt n P) (sym (none e)) wants_memory
told_by fault lacks kind result (inr other) none some h = told_as (some other) (h other)

pub owl_memory_or_not : (fault : OwlFault) → (fault ≡ owl_faults.NoMemory) ⊎ (fault ≢ owl_faults.NoMemory)
owl_memory_or_not owl_faults.NoMemory = inl refl
owl_memory_or_not (owl_faults.Syntax at) = inr (λ e. cc)
owl_memory_or_not (owl_faults.TooDeep at) = inr (λ e. cc)
owl_memory_or_not (owl_faults.PrefixUnknown at) = inr (λ e. cc)
owl_memory_or_not (owl_faults.NotQl at what) = inr (λ e. cc)
owl_memory_or_not (owl_faults.LeftOut at what) = inr (λ e. cc)
owl_memory_or_not (owl_faults.Reserved at) = inr (λ e. cc)
owl_memory_or_not (owl_faults.TooManyNames at) = inr (λ e. cc)

pub query_memory_or_not : (fault : QueryFault) → (fault ≡ query_faults.NoMemory) ⊎ (fault ≢ query_faults.NoMemory)
query_memory_or_not query_faults.NoMemory = inl refl
query_memory_or_not (query_faults.Syntax at) = inr (λ e. cc)
query_memory_or_not (query_faults.Reserved at) = inr (λ e. cc)
query_memory_or_not (query_faults.TooManyNames at) = inr (λ e. cc)
query_memory_or_not (query_faults.Unsafe place) = inr (λ e. cc)
query_memory_or_not (query_faults.TooLarge atoms existential head) = inr (λ e. cc)

-- ---- names grow over a triple

pub value_grows : {text : List ℕ} {names after : List Text} {facts : List Fact} {skipped : ℕ} → triples.IsValue text names facts skipped after → Extends names after
value_grows v = read_grows v.read

first_grows : {one : List ℕ} {names now : List Text} → triples.HoldsFirst one names now → Extends names now
first_grows {names = names} triples.none = Extends-same names
first_grows {names = names} (triples.some {subject = s} {predicate = p} {object = o} count is) = Extends-all_named names (take count (triple_names s p o))

pub part_grows : {text : List ℕ} {names now : List Text} → triples.HoldsPart text names now → Extends names now
part_grows {names = names} {now = now} h = Extends-trans names h.middle now (read_grows h.read) (first_grows h.first)

-- ---- what is said at a place

module _ (n : ℕ) (names : List Text) where
  -- it may not stand there
  pub not_there : {p : Place} {f : Form} {fault : StreamFault} → fits p f ≡ false → fault ≡ Line n kinds.Form → ToldAt n (Stops names p f) fault
  not_there other is = told_as is (misplaced other)

  pub none_comes : (p : Place) (form : KeptForm) (fault : StreamFault) (result : Result KeptPlace StreamFault) (after : List Text) → fits p (said form) ≡ false
      → fault ≡ Line n kinds.Form → result ≡ Err fault → Comes n names (said form) p after result
  none_comes p form fault result after other is e = subst (Comes n names (said form) p after) (sym e) (not_there other is)

  -- the same comes of the same
  pub same_comes : (p : Place) (f g : Form) (after later : List Text) (result other : Result KeptPlace StreamFault) → f ≡ g → after ≡ later → result ≡ other
      → Comes n names g p later other → Comes n names f p after result
  same_comes p f g after later result other form_is names_are is h =
      subst (λ x. Comes n names x p after result) (sym form_is)
      (subst (λ l. Comes n names g p l result) (sym names_are) (subst (Comes n names g p later) (sym is) h))

  -- the first stream begins
  pub first_comes : (form : KeptForm) (before : List (List Command)) (commands : List Command) (result : Result KeptPlace StreamFault) → form ≡ Begins
      → before ≡ [] → commands ≡ [] → result ≡ Ok (InStream (record { before = before; commands = commands; count = 0 })) → Comes n names (said form) outside names result
  first_comes form before commands result is none empty e =
      subst (λ f. Comes n names (said f) outside names result) (sym is)
      (subst (Comes n names begins outside names) (sym e) (record {
        leads =
            subst (λ l. Leads n names begins outside (in_stream before l) names) (sym empty)
            (subst (λ l. Leads n names begins outside (in_stream l []) names) (sym none) to_first);
        counted = record { count = omega (arith, ap (sum_by length) none, ap length empty); few = omega arith };
      }))

  module _ (s : Open) (counted : IsCounted s) where
    pub has_room : s.count < max_commands → command_count (in_stream s.before s.commands) < max_commands
    has_room few = omega (arith, counted.count, few)

    pub too_many : {f : Form} {fault : StreamFault} → max_commands ≤ s.count → fits (in_stream s.before s.commands) f ≡ true → is_command f ≡ true
        → fault ≡ Line n kinds.TooManyCommands → ToldAt n (Stops names (in_stream s.before s.commands) f) fault
    too_many many may is e = told_as e (too_many_commands may is (omega (arith, counted.count, many)))

    -- a command is added
    pub pushed : {f : Form} {p : Place} {after : List Text} (c : Command) (commands : List Command) → commands ≡ s.commands ++ c ∷ [] → s.count < max_commands
        → Leads n names f p (in_stream s.before (s.commands ++ c ∷ [])) after
        → LeadsTo n names f p (InStream (record { before = s.before; commands = commands; count = s.count + 1 })) after
    pushed {f = f} {p = p} {after = after} c commands is few leads = record {
      leads = subst (λ l. Leads n names f p (in_stream s.before l) after) (sym is) leads;
      counted = record {
        count = omega (arith, counted.count, ap length is, length-append s.commands (c ∷ []));
        few = omega arith;
      };
    }

    -- the next stream begins
    pub next_comes : (before : List (List Command)) (commands : List Command) → before ≡ s.before ++ s.commands ∷ [] → commands ≡ [] → length s.before + 1 < max_streams
        → LeadsTo n names begins (in_stream s.before s.commands) (InStream (record { before = before; commands = commands; count = s.count })) names
    next_comes before commands is empty few = record {
      leads =
          subst (λ l. Leads n names begins (in_stream s.before s.commands) (in_stream before l) names) (sym empty)
          (subst (λ l. Leads n names begins (in_stream s.before s.commands) (in_stream l []) names) (sym is) (to_next few));
      counted = record {
        count = omega (arith, counted.count, ap (sum_by length) is, sum_by-append length s.before (s.commands ∷ []), ap length empty);
        few = counted.few;
      };
    }

    -- a commit begins
    pub commit_comes : (made : List Edit) → made ≡ [] → s.count < max_commands → LeadsTo n names opens (in_stream s.before s.commands) (InCommit s n made) names
    commit_comes made empty few = record {
      leads = subst (λ l. Leads n names opens (in_stream s.before s.commands) (in_commit s.before s.commands n l) names) (sym empty) (to_commit (has_room few));
      counted = (counted, few);
    }

    -- the edits of a text are made
    pub edit_comes : (at : ℕ) (made added : List Edit) (add : Bool) (text : List ℕ) (after : List Text) → s.count < max_commands → AddsEdits add text names after made added
        → LeadsTo n names (edits add text) (in_commit s.before s.commands at made) (InCommit s at added) after
    edit_comes at made added add text after few adds = record {
      leads = subst (λ l. Leads n names (edits add text) (in_commit s.before s.commands at made) (in_commit s.before s.commands at l) after) (sym adds.is) (by_edit adds.gives);
      counted = (counted, few);
    }

  -- ---- the whole line

  module _ (one : List ℕ) (p : Place) (f : Form) (after : List Text) (goes_on : is_passed one ≡ false) (is_form : Some f ≡ form_of one) where
    pub line_gives : (result : Result KeptPlace StreamFault) → Comes n names f p after result → IfOk result (λ next. GivesTo one n names p next after)
    line_gives (Ok next) h = record { gives = reading.said goes_on (sym is_form) h.leads; counted = h.counted }
    line_gives (Err fault) h = tt

    pub line_faults : (result : Result KeptPlace StreamFault) → Comes n names f p after result → IfErr result (ToldAt n (HasFault one names p))
    line_faults (Ok next) h = tt
    line_faults (Err fault) h = told_weaker (λ k stops. stopped goes_on (sym is_form) stops) h
