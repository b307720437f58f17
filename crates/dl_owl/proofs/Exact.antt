-- Reading gives a value exactly where the plain grammar has it, at most so many parentheses are open and the names fit.
use Rattle.std.proofs.Common.{◌≡◌, ℕ, ◌+◌, ◌≤◌, suc, zero, Bool, true, false, cond, not, ◌&&◌, nat_le, inl, inr, if◌then◌else◌, List, [], ◌∷◌, length, refl, ap, ◌∙◌, subst, arith, ◌++◌}
use Rattle.std.proofs.lemmas.Bool.{leb-false, lt-leb}
use Rattle.std.proofs.lemmas.List.{length-append}
use Rattle.dl_names.specs.NameList.{Text, has_name, max_names, names_after, place_of, has_no_place}
use Rattle.dl_names.proofs.NameListLemmas.{Extends-names_after, length-Extends, names_after-old, names_after-new}
use Rattle.dl_terms.specs.declared.role.Role.{Role}
use Rattle.dl_terms.specs.declared.role.Basic.{Basic}
use Rattle.dl_terms.specs.declared.axiom.Part.{Part}
use Rattle.dl_owl.specs.declared.document.Document.{Document}
use Rattle.dl_owl.specs.Symbols.{Symbol, closing, ending, string, Placed, symbols_of}
use Rattle.dl_owl.specs.Prefixes.{Prefixes}
use Rattle.dl_owl.specs.Annotations as annotations
use Rattle.dl_owl.specs.Annotations.{ValueThen, AnnotationsThen}
use Rattle.dl_owl.specs.Expressions as expressions
use Rattle.dl_owl.specs.Expressions.{RoleThen, SubThen, SupThen, SupsThen, RolesThen, SubsThen}
use Rattle.dl_owl.specs.Axioms.{DifferentThen, AxiomThen, EntityThen}
use Rattle.dl_owl.specs.Ontologies as ontologies
use Rattle.dl_owl.specs.Ontologies.{PrefixesThen, AxiomsThen}
use Rattle.dl_owl.specs.declared.item.Item.{Item}
use Rattle.dl_owl.specs.Items.{empty_document}
use Rattle.dl_owl.specs.Causes.{too_deep, too_many_names}
use Rattle.dl_owl.specs.Expected.{Expected, prologue, prefix_name, prefix_equals, prefix_iri, title, annotations_first, items, lone_axiom, finish, done, open_then, close_then, annotations_then, iri_then, subject_then, value_then, value_end, property_then, role_then, first_role, second_role, sub_then, sup_then, thing_then, filler_then, roles_close, subs_close, sups_close, individual_then, unnamed_then, different_close, class_then, declared_class, entity_then, Move, goes, takes_name, declares, refuses}
use Rattle.dl_owl.specs.Steps.{move_of}
use Rattle.dl_owl.specs.Reading.{Met, Outcome, gives, fails, depth_after, is_too_deep, at_depth, outcome_of, last_outcome, outcome, is_shallow}
use Rattle.dl_owl.proofs.Turns.{deeper}
use Rattle.dl_owl.proofs.Meaning.{Sees, SeesThis, SupsAtLeast, TitleUpTo, no_iri, FirstMean, Means, Comes}
use Rattle.dl_owl.proofs.TextForth.{forth}
use Rattle.dl_owl.proofs.TextBack.{back}

-- ---- names

longer : (names : List Text) (text : Text) → length names ≤ length (names_after names text)
longer names text = length-Extends names (names_after names text) (Extends-names_after names text)

longer_by_one : (names : List Text) (text : Text) → has_name names text ≡ false → length (names_after names text) ≡ length names + 1
longer_by_one names text new = ap length (names_after-new names text new) ∙ length-append names (text ∷ [])

room : (names : List Text) (text : Text) → has_no_place names text ≡ false → length names ≤ max_names → length (names_after names text) ≤ max_names
room names text h fits = by (has_name names text) refl h
  where
    by : (b : Bool) → has_name names text ≡ b → (not b && nat_le max_names (length names)) ≡ false → length (names_after names text) ≤ max_names
    by true known full = omega (arith, ap length (names_after-old names text known), fits)
    by false new full = omega (arith, longer_by_one names text new, leb-false max_names (length names) full)

not_full : (names : List Text) (text : Text) (most : ℕ) → length (names_after names text) ≤ most → most ≤ max_names → has_no_place names text ≡ false
not_full names text most grown fits = by (has_name names text) refl
  where
    by : (b : Bool) → has_name names text ≡ b → has_no_place names text ≡ false
    by true known = ap (λ b. not b && nat_le max_names (length names)) known
    by false new =
        ap (λ b. not b && nat_le max_names (length names)) new
        ∙ lt-leb max_names (length names) (omega (arith, longer_by_one names text new, grown, fits))

-- ---- some token is to come

sees_some : {P : Symbol → List Symbol → Type 0} → Sees P [] → ⊥
sees_some h = let none : [] ≡ h.token ∷ h.rest = h.is in cc

sees_this : {t : Symbol} {P : List Symbol → Type 0} → SeesThis t P [] → ⊥
sees_this {t} h = let none : [] ≡ t ∷ h.rest = h.is in cc

module _ (p : Prefixes) where
  items_some : {d whole : Document} {names final : List Text} {ss : List Symbol} → AxiomsThen p d names [] whole (closing ∷ ss) final → ⊥
  items_some (ontologies.AxiomsThen.more first them) = elim first [ ]

  first_some : {document : Document} {names final : List Text} {rest : List Symbol} → AnnotationsThen p [] rest
      → AxiomsThen p empty_document names rest document (closing ∷ ending ∷ []) final → ⊥
  first_some annotations.AnnotationsThen.none them = items_some them

  value_some : {rest : List Symbol} → ValueThen p (string ∷ []) (closing ∷ rest) → ⊥
  value_some h = elim h [ ]

  role_some : {names after : List Text} {r : Role} {rest : List Symbol} → RoleThen p names [] r rest after → ⊥
  role_some h = elim h [ ]

  sub_some : {names after : List Text} {b : Basic} {rest : List Symbol} → SubThen p names [] b rest after → ⊥
  sub_some h = elim h [ ]

  sup_some : {names after : List Text} {ps : List Part} {rest : List Symbol} → SupThen p names [] ps rest after → ⊥
  sup_some h = elim h [ ]

  entity_some : {names after : List Text} {i : Item} {rest : List Symbol} → EntityThen p names [] i rest after → ⊥
  entity_some h = elim h [ ]

  axiom_some : {names after : List Text} {i : Item} {rest : List Symbol} → AxiomThen p names [] i rest after → ⊥
  axiom_some h = elim h [ ]

  next_value_some : {rest : List Symbol} → ValueThen p [] rest → ⊥
  next_value_some h = elim h [ ]

  different_some : {before : List Text} {count : ℕ} {rest : List Symbol} → DifferentThen p before [] count (closing ∷ rest) → ⊥
  different_some h = elim h [ ]

  prefixes_some : {q : Prefixes} {k : Symbol} {rest : List Symbol} → PrefixesThen p [] q (k ∷ rest) → ⊥
  prefixes_some h = elim h [ ]

  no_annotations : {rest : List Symbol} → AnnotationsThen p [] rest → rest ≡ []
  no_annotations annotations.AnnotationsThen.none = refl

  sups_some : (n : ℕ) (names : List Text) (ps : List Part) (rest : List Symbol) (after : List Text)
      → SupsAtLeast p n names [] ps (closing ∷ rest) after → ⊥
  sups_some zero names ps rest after (expressions.SupsThen.more first them) = elim first [ ]
  sups_some (suc n) names ps rest after h = sup_some h.is

  roles_some : {names : List Text} {rs : List Role} {rest : List Symbol} {after : List Text}
      → RolesThen p names [] rs (closing ∷ rest) after → ⊥
  roles_some (expressions.RolesThen.more first them) = elim first [ ]

  subs_some : {names : List Text} {bs : List Basic} {rest : List Symbol} {after : List Text}
      → SubsThen p names [] bs (closing ∷ rest) after → ⊥
  subs_some (expressions.SubsThen.more first them) = elim first [ ]

  title_some : {document : Document} {names final : List Text} (n : ℕ) {rest : List Symbol} → TitleUpTo p n [] rest
      → FirstMean document final p names rest → ⊥
  title_some n no_iri first = first_some first.1.0 first.1.1

module _ (document : Document) (final : List Text) where
  abbrev Is : Expected → Met → List Symbol → Type 0
  Is e met ss = Means document final met.prefixes e met.names ss

  -- where nothing more stands, nothing more is meant
  no_more : (e : Expected) (met : Met) → Is e met [] → last_outcome e met ≡ gives document final
  no_more prologue met h = absurd (prefixes_some met.prefixes h.declared)
  no_more prefix_name met h = absurd (sees_some h)
  no_more (prefix_equals name) met h = absurd (sees_this h)
  no_more (prefix_iri name) met h = absurd (sees_some h)
  no_more (title n) met h = absurd (title_some met.prefixes n h.1.0 h.1.1)
  no_more annotations_first met h = absurd (first_some met.prefixes h.1.0 h.1.1)
  no_more (items d) met h = absurd (items_some met.prefixes h)
  no_more lone_axiom met h = absurd (axiom_some met.prefixes h.read)
  no_more (finish d) met h = absurd (sees_this h)
  no_more (done d) met h = λ i. gives (h.1 i) (h.2 i)
  no_more (open_then e) met h = absurd (sees_this h)
  no_more (close_then e) met h = absurd (sees_this h)
  no_more (annotations_then e) met h =
      no_more e met (subst (λ l. Is e met l) (no_annotations met.prefixes h.1.0) h.1.2)
  no_more (iri_then e) met h = absurd (sees_some h)
  no_more (subject_then e) met h = absurd (sees_some h)
  no_more (value_then e) met h = absurd (next_value_some met.prefixes h.1.0)
  no_more (value_end e) met h = absurd (value_some met.prefixes h.1.0)
  no_more (property_then k) met h = absurd (sees_some h)
  no_more (role_then k) met h = absurd (role_some met.prefixes h.is)
  no_more (first_role k) met h = absurd (role_some met.prefixes h.is)
  no_more (second_role k e) met (inl h) = absurd (role_some met.prefixes h.is)
  no_more (second_role k e) met (inr h) = absurd (sees_some h)
  no_more (sub_then k) met h = absurd (sub_some met.prefixes h.is)
  no_more (sup_then k) met h = absurd (sup_some met.prefixes h.is)
  no_more (thing_then e) met h = absurd (sees_some h)
  no_more (filler_then r k) met h = absurd (sees_some h)
  no_more (roles_close n before k) met h = absurd (roles_some met.prefixes h.is.0)
  no_more (subs_close n before k) met h = absurd (subs_some met.prefixes h.is.0)
  no_more (sups_close n before k) met h = absurd (sups_some met.prefixes n met.names h.value h.rest h.after h.is)
  no_more (individual_then k) met h = absurd (sees_some h)
  no_more (unnamed_then e) met h = absurd (sees_some h)
  no_more (different_close n before e) met h = absurd (different_some met.prefixes h.1.1.0)
  no_more (class_then k) met h = absurd (sees_some h)
  no_more (declared_class k) met h = absurd (sees_some h)
  no_more (entity_then k) met h = absurd (entity_some met.prefixes h.is)

  -- ---- from reading to the plain grammar

  last_sound : (e : Expected) (met : Met) → last_outcome e met ≡ gives document final → Is e met [] × (met.names ≡ final)
  last_sound (done d) met h = let value_is : d ≡ document = cc in let names_are : met.names ≡ final = cc in ((refl, value_is, names_are), names_are)
  last_sound (annotations_then e) met h =
      let inner = last_sound e met h in (([], (annotations.AnnotationsThen.none, (λ rest is. cc), inner.0)), inner.1)
  last_sound e met h = absurd (cc)

  -- what is read from here on is meant, not too deep, and fits where the names before it do
  abbrev pub IsRead : Expected → Met → List Symbol → Type 0
  IsRead e met ss =
      Means document final met.prefixes e met.names ss × (is_shallow met.depth ss ≡ true)
      × (length met.names ≤ max_names → length final ≤ max_names)

  module _ (tokens : List Placed)
      (hyp : (e : Expected) (met : Met) → outcome e met tokens ≡ gives document final → IsRead e met (symbols_of tokens))
      (met : Met) (t : Placed) where
    abbrev onward : Expected → Met → Outcome
    onward next later = outcome next later tokens

    abbrev IsReadMove : Move → Type 0
    IsReadMove m =
        Comes document final met.prefixes m met.names (symbols_of tokens) × (is_shallow met.depth (t.symbol ∷ symbols_of tokens) ≡ true)
        × (length met.names ≤ max_names → length final ≤ max_names)

    -- at a depth that is not too deep
    not_deep : (go : Met → Outcome) → at_depth met t go ≡ gives document final
        → (is_too_deep t.symbol met.depth ≡ false) × (go (deeper met t) ≡ gives document final)
    not_deep go h = by (is_too_deep t.symbol met.depth) refl h
      where
        by : (b : Bool) → is_too_deep t.symbol met.depth ≡ b → cond b (fails too_deep t.at) (go (deeper met t)) ≡ gives document final
            → (is_too_deep t.symbol met.depth ≡ false) × (go (deeper met t) ≡ gives document final)
        by true is g = absurd (cc)
        by false is g = (is, g)

    shallow : is_too_deep t.symbol met.depth ≡ false → is_shallow (depth_after t.symbol met.depth) (symbols_of tokens) ≡ true
        → is_shallow met.depth (t.symbol ∷ symbols_of tokens) ≡ true
    shallow is h = ap (λ b. not b && is_shallow (depth_after t.symbol met.depth) (symbols_of tokens)) is ∙ h

    move-sound : (m : Move) → outcome_of met t onward m ≡ gives document final → IsReadMove m
    move-sound (goes e) h =
        let go = not_deep (λ later. outcome e later tokens) h in
        let inner = hyp e (deeper met t) go.1 in (inner.0, shallow go.0 inner.1, inner.2)
    move-sound (takes_name text k) h =
        let go =
        not_deep
        (λ later. if has_no_place met.names text then fails too_many_names t.at
        else outcome (k (place_of (names_after met.names text) text)) (record later { names = names_after met.names text }) tokens) h in
        by (has_no_place met.names text) refl go.0 go.1
      where
        by : (b : Bool) → has_no_place met.names text ≡ b → is_too_deep t.symbol met.depth ≡ false
            → cond b (fails too_many_names t.at) (outcome (k (place_of (names_after met.names text) text)) (record (deeper met t) { names = names_after met.names text }) tokens) ≡ gives document final
            → IsReadMove (takes_name text k)
        by true full is g = absurd (cc)
        by false full is g =
            let inner =
            hyp (k (place_of (names_after met.names text) text)) (record (deeper met t) { names = names_after met.names text })
            g in
            (inner.0, shallow is inner.1, λ fits. inner.2 (room met.names text full fits))
    move-sound (declares name iri e) h =
        let go = not_deep (λ later. outcome e (record later { prefixes = met.prefixes ++ (name, iri) ∷ [] }) tokens) h in
        let inner = hyp e (record (deeper met t) { prefixes = met.prefixes ++ (name, iri) ∷ [] }) go.1 in
        (inner.0, shallow go.0 inner.1, inner.2)
    move-sound (refuses cause) h = absurd (cc)

  pub sound : (tokens : List Placed) (e : Expected) (met : Met)
      → outcome e met tokens ≡ gives document final → IsRead e met (symbols_of tokens)
  sound [] e met h =
      let last = last_sound e met h in (last.0, refl, λ fits. subst (λ l. length l ≤ max_names) last.1 fits)
  sound (t ∷ tokens) e met h =
      let move = move-sound tokens (sound tokens) met t (move_of met.prefixes e t.symbol) h in
      (forth document final e met.prefixes met.names t.symbol (symbols_of tokens) move.0, move.1, move.2)

  -- ---- and back

  -- what is meant from here on is not too deep and fits
  abbrev pub IsRight : Expected → Met → List Symbol → Type 0
  IsRight e met ss =
      Means document final met.prefixes e met.names ss × (is_shallow met.depth ss ≡ true) × (length final ≤ max_names)

  grows : (ss : List Symbol) (e : Expected) (p : Prefixes) (names : List Text) → Means document final p e names ss → length names ≤ length final
  grows [] e p names h =
      let met : Met = record { prefixes = p; names = names; depth = 0 } in
      let last = last_sound e met (no_more e met h) in omega (arith, ap length last.1)
  grows (s ∷ ss) e p names h = by (move_of p e s) (back document final e p names s ss h) (grows ss)
    where
      by : (m : Move) → Comes document final p m names ss
          → ((e : Expected) (p : Prefixes) (names : List Text) → Means document final p e names ss → length names ≤ length final)
          → length names ≤ length final
      by (goes e) so hyp = hyp e p names so
      by (takes_name text k) so hyp =
          omega (arith, longer names text, hyp (k (place_of (names_after names text) text)) p (names_after names text) so)
      by (declares name iri e) so hyp = hyp e (p ++ (name, iri) ∷ []) names so
      by (refuses cause) so hyp = absurd so

  module _ (tokens : List Placed)
      (hyp : (e : Expected) (met : Met) → IsRight e met (symbols_of tokens) → outcome e met tokens ≡ gives document final)
      (met : Met) (t : Placed) (shallow_is : is_shallow met.depth (t.symbol ∷ symbols_of tokens) ≡ true) (fits : length final ≤ max_names) where
    parts : (is_too_deep t.symbol met.depth ≡ false) × (is_shallow (depth_after t.symbol met.depth) (symbols_of tokens) ≡ true)
    parts = by (is_too_deep t.symbol met.depth) refl shallow_is
      where
        by : (b : Bool) → is_too_deep t.symbol met.depth ≡ b
            → (not b && is_shallow (depth_after t.symbol met.depth) (symbols_of tokens)) ≡ true
            → (is_too_deep t.symbol met.depth ≡ false) × (is_shallow (depth_after t.symbol met.depth) (symbols_of tokens) ≡ true)
        by true is g = absurd (cc)
        by false is g = (is, g)

    at_depth-is : (go : Met → Outcome) → at_depth met t go ≡ go (deeper met t)
    at_depth-is go = ap (λ b. cond b (fails too_deep t.at) (go (deeper met t))) parts.0

    move-complete : (m : Move) → Comes document final met.prefixes m met.names (symbols_of tokens)
        → outcome_of met t (λ next later. outcome next later tokens) m ≡ gives document final
    move-complete (goes e) so = at_depth-is (λ later. outcome e later tokens) ∙ hyp e (deeper met t) (so, parts.1, fits)
    move-complete (takes_name text k) so =
        let grown = grows (symbols_of tokens) (k (place_of (names_after met.names text) text)) met.prefixes (names_after met.names text) so in
        at_depth-is
        (λ later. if has_no_place met.names text then fails too_many_names t.at
        else outcome (k (place_of (names_after met.names text) text)) (record later { names = names_after met.names text }) tokens)
        ∙ ap (λ b. cond b (fails too_many_names t.at)
        (outcome (k (place_of (names_after met.names text) text)) (record (deeper met t) { names = names_after met.names text }) tokens))
        (not_full met.names text (length final) grown fits)
        ∙ hyp (k (place_of (names_after met.names text) text)) (record (deeper met t) { names = names_after met.names text }) (so, parts.1, fits)
    move-complete (declares name iri e) so =
        at_depth-is (λ later. outcome e (record later { prefixes = met.prefixes ++ (name, iri) ∷ [] }) tokens)
        ∙ hyp e (record (deeper met t) { prefixes = met.prefixes ++ (name, iri) ∷ [] }) (so, parts.1, fits)
    move-complete (refuses cause) so = absurd so

  pub complete : (tokens : List Placed) (e : Expected) (met : Met) → IsRight e met (symbols_of tokens)
      → outcome e met tokens ≡ gives document final
  complete [] e met right = no_more e met right.0
  complete (t ∷ tokens) e met right =
      move-complete tokens (complete tokens) met t right.1 right.2 (move_of met.prefixes e t.symbol)
      (back document final e met.prefixes met.names t.symbol (symbols_of tokens) right.0)
