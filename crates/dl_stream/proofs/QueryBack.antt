-- A query that is printed by other names is of the grammar, and is this query.
use Rattle.std.proofs.Common.{◌≡◌, ℕ, ◌≤◌, true, List, [], ◌∷◌, ◌++◌, length, map, slice_get, unwrap_or, Some, refl, sym, ap, subst, ◌∙◌, append_assoc, append-nil, arith}
use Rattle.std.specs.List.{AllByRecursion, flat_map}
use Rattle.std.proofs.lemmas.List.{map-append}
use Rattle.std.proofs.lemmas.List.FromFn.{length-map-range_with_len}
use Rattle.dl_names.specs.NameList.{Text, names_after, place_of, HasNoRepeats, Extends}
use Rattle.dl_names.specs.Iris.{IsIri, is_free, may_be_class}
use Rattle.dl_names.proofs.NameListLemmas.{Extends-same, Extends-trans, Extends-names_after, length-Extends, slice_get-Extends, slice_get-place_of, has_name-names_after, has_name-slice_get, names_after-old, place_of-slice_get}
use Rattle.dl_terms.specs.declared.query.Term.{Term}
use Rattle.dl_terms.specs.declared.query.Term.TheVariants.{Var, Name}
use Rattle.dl_terms.specs.declared.query.Atom.{Atom}
use Rattle.dl_terms.specs.declared.query.Atom.TheVariants.{Is, Link}
use Rattle.dl_terms.specs.declared.query.Query.{Query}
use Rattle.dl_terms.specs.Occurring.{term_names, atom_names}
use Rattle.dl_terms.specs.Renamed.{renamed_term, renamed_atom, renamed_query}
use Rattle.dl_query.specs.Symbols.{Symbol, mark, variable, iri, no_token, next_front}
use Rattle.dl_query.specs.Grammar.{Met, met, with_variable, number_of, with_name, name_at, with_head, with_atom, IsTerm, variable_term, name_term, AtomThen, class_atom, role_atom, IsBody, last_atom, more_atoms, VariablesThen, last_variable, more_variables, HeadThen, no_variable, some_variables, IsQuery, query_of}
use Rattle.dl_query.proofs.NumberLemmas.{head-atoms}
use Rattle.dl_stream.specs.ReadBack.{text_at}
use Rattle.dl_stream.proofs.VariableBack.{variable_name, variable_names, variables_back, number_back}

-- the marks: q ( ) , :- and the end of the text
abbrev pub query_word : Symbol
query_word = (next_front (113 ∷ [])).symbol

abbrev pub opening : Symbol
opening = (next_front (40 ∷ [])).symbol

abbrev pub closing : Symbol
closing = (next_front (41 ∷ [])).symbol

abbrev pub comma : Symbol
comma = (next_front (44 ∷ [])).symbol

abbrev pub turnstile : Symbol
turnstile = (next_front (58 ∷ 45 ∷ [])).symbol

abbrev pub ending : Symbol
ending = (next_front []).symbol

-- the symbol of an IRI has the characters of one
abbrev pub IsSound : Symbol → Type 0
IsSound (iri text) = IsIri text
IsSound (mark m) = Unit {0}
IsSound (variable x) = Unit {0}
IsSound no_token = Unit {0}

-- ---- what reading on keeps

record Grows (m after : Met) : Type 0 where
  names : Extends m.names after.names
  variables : length m.variables ≤ length after.variables
  head : after.head ≡ m.head

Grows-same : (m : Met) → Grows m m
Grows-same m = record { names = Extends-same m.names; variables = omega arith; head = refl }

Grows-trans : {m one after : Met} → Grows m one → Grows one after → Grows m after
Grows-trans {m} {one} {after} first second = record {
  names = Extends-trans m.names one.names after.names first.names second.names;
  variables = omega (arith, first.variables, second.variables);
  head = second.head ∙ first.head;
}

named-grows : (m : Met) (c : Text) → Grows m (with_name m c)
named-grows m c = record { names = Extends-names_after m.names c; variables = omega arith; head = refl }

term-grows : {m after : Met} {s : Symbol} {t : Term} → IsTerm m s t after → Grows m after
term-grows {m} (variable_term {x = x}) = record {
  names = Extends-same m.names;
  variables = length-Extends m.variables _ (Extends-names_after m.variables x);
  head = refl;
}
term-grows {m} (name_term {text = text} free) = named-grows m text

then-grows : {m after : Met} {symbols rest : List Symbol} → AtomThen m symbols rest after → Grows m after
then-grows {m} (class_atom {c = c} {t = t} {one} may is_t) =
    let g = Grows-trans (named-grows m c) (term-grows is_t) in
    record { names = g.names; variables = g.variables; head = g.head }
then-grows {m} (role_atom {p = p} {one = one} {two} free is_t is_u) =
    let g = Grows-trans (Grows-trans (named-grows m p) (term-grows is_t)) (term-grows is_u) in
    record { names = g.names; variables = g.variables; head = g.head }

body-grows : {m after : Met} {symbols : List Symbol} → IsBody m symbols after → Grows m after
body-grows (last_atom a) = then-grows a
body-grows (more_atoms a others) = Grows-trans (then-grows a) (body-grows others)

variables-grow : {m after : Met} {symbols rest : List Symbol} → VariablesThen m symbols rest after → length m.variables ≤ length after.variables
variables-grow {m} (last_variable {x = x}) = length-Extends m.variables _ (Extends-names_after m.variables x)
variables-grow {m} (more_variables {x = x} others) =
    omega (arith, length-Extends m.variables _ (Extends-names_after m.variables x), variables-grow others)

-- ---- the tokens of a query that is printed

module _ (held : List Text) where
  abbrev pub IsIriAt : ℕ → Type 0
  IsIriAt n = IsIri (text_at held n)

  abbrev pub term_symbol : Term → Symbol
  term_symbol (Var v) = variable (variable_name v)
  term_symbol (Name n) = iri (text_at held n)

  abbrev pub atom_symbols : Atom → List Symbol → List Symbol
  atom_symbols (Is c t) rest = iri (text_at held c) ∷ opening ∷ term_symbol t ∷ closing ∷ rest
  atom_symbols (Link p t u) rest =
      iri (text_at held p) ∷ opening ∷ term_symbol t ∷ comma ∷ term_symbol u ∷ closing ∷ rest

  abbrev pub body_symbols : Atom → List Atom → List Symbol
  body_symbols a [] = atom_symbols a (ending ∷ [])
  body_symbols a (b ∷ atoms) = atom_symbols a (comma ∷ body_symbols b atoms)

abbrev pub more_symbols : ℕ → List ℕ → List Symbol → List Symbol
more_symbols v [] rest = variable (variable_name v) ∷ closing ∷ rest
more_symbols v (w ∷ vs) rest = variable (variable_name v) ∷ comma ∷ more_symbols w vs rest

abbrev pub head_symbols : List ℕ → List Symbol → List Symbol
head_symbols [] rest = closing ∷ rest
head_symbols (v ∷ vs) rest = more_symbols v vs rest

module _ (held : List Text) where
  abbrev pub bodies_symbols : List Atom → List Symbol
  bodies_symbols [] = []
  bodies_symbols (a ∷ atoms) = body_symbols held a atoms

  abbrev pub query_symbols : Query → List Symbol
  query_symbols q = query_word ∷ opening ∷ head_symbols q.head (turnstile ∷ bodies_symbols q.atoms)

-- ---- reading them back

module _ (held : List Text) (distinct : HasNoRepeats held) (number : ℕ → ℕ) (final : List Text) where
  -- a name stands elsewhere in the list that it is printed by
  abbrev Stands : ℕ → Type 0
  Stands n = slice_get held (number n) ≡ slice_get final n

  -- what is read of the text that is printed, where this is read of the first one
  abbrev printed : Met → Met
  printed m = met (variable_names (length m.variables)) held m.head (map (renamed_atom number) m.atoms)

  -- a name that is met, as it is printed
  record IsMet (text : Text) (n : ℕ) : Type 0 where
    is : text_at held n ≡ text
    known : names_after held (text_at held n) ≡ held
    place : place_of (names_after held (text_at held n)) (text_at held n) ≡ n

  name_met : (names : List Text) (text : Text) → Extends (names_after names text) final → Stands (place_of (names_after names text) text)
      → IsMet text (number (place_of (names_after names text) text))
  name_met names text grows stands =
      let place = place_of (names_after names text) text in
      let at : slice_get held (number place) ≡ Some text =
      stands ∙ slice_get-Extends (names_after names text) final grows place text
      (slice_get-place_of (names_after names text) text (has_name-names_after names text))
      in
      let is : text_at held (number place) ≡ text = ap (λ o. unwrap_or o []) at in
      let at' : slice_get held (number place) ≡ Some (text_at held (number place)) = at ∙ ap Some (sym is) in
      let known = names_after-old held (text_at held (number place)) (has_name-slice_get held (text_at held (number place)) (number place) at') in
      record {
        is = is;
        known = known;
        place = ap (λ l. place_of l (text_at held (number place))) known ∙ place_of-slice_get held (text_at held (number place)) distinct (number place) at';
      }

  -- a term, where the names held are met before it
  record TermBack (m : Met) (t : Term) (after : Met) : Type 0 where
    term : IsTerm (printed m) (term_symbol held (renamed_term number t)) (renamed_term number t) (printed after)
    iris : AllByRecursion (IsIriAt held) (term_names (renamed_term number t))

  term_back : {m one : Met} {s : Symbol} {t : Term} → IsTerm m s t one → Extends one.names final → length one.variables ≤ 256
      → AllByRecursion Stands (term_names t) → IsSound s → TermBack m t one
  term_back {m} (variable_term {x = x}) grows few stands sound =
      let y = variable_name (number_of m x) in
      record {
        term =
            subst (λ k. IsTerm (printed m) (variable y) (Var k) (printed (with_variable m x))) (number_back m.variables x few)
            (subst (λ l. IsTerm (printed m) (variable y) (Var (number_of (printed m) y)) (record (printed m) { variables = l }))
            (variables_back m.variables x few) variable_term);
        iris = tt;
      }
  term_back {m} (name_term {text = text} free) grows few stands sound =
      let n = number (name_at m text) in
      let back = name_met m.names text grows stands.0 in
      record {
        term =
            subst (λ k. IsTerm (printed m) (iri (text_at held n)) (Name k) (printed m)) back.place
            (subst (λ l. IsTerm (printed m) (iri (text_at held n)) (Name (name_at (printed m) (text_at held n))) (record (printed m) { names = l }))
            back.known (name_term (subst (λ t. is_free t ≡ true) (sym back.is) free)));
        iris = (subst IsIri (sym back.is) sound, tt);
      }

  parts : (P : ℕ → Type 0) (xs ys : List ℕ) → AllByRecursion P (xs ++ ys) → AllByRecursion P xs × AllByRecursion P ys
  parts P [] ys h = (tt, h)
  parts P (x ∷ xs) ys h = let rest = parts P xs ys h.1 in ((h.0, rest.0), rest.1)

  both : (P : ℕ → Type 0) (xs ys : List ℕ) → AllByRecursion P xs → AllByRecursion P ys → AllByRecursion P (xs ++ ys)
  both P [] ys h g = g
  both P (x ∷ xs) ys h g = (h.0, both P xs ys h.1 g)

  -- an atom that is added
  added : (one : Met) (a : Atom) → with_atom (printed one) (renamed_atom number a) ≡ printed (with_atom one a)
  added one a =
      ap (λ l. met (variable_names (length one.variables)) held one.head l) (sym (map-append (renamed_atom number) one.atoms (a ∷ [])))

  record AtomBack (m after : Met) (rest : List Symbol) : Type 0 where
    atom : Atom
    is : after.atoms ≡ m.atoms ++ atom ∷ []
    then : AtomThen (printed m) (atom_symbols held (renamed_atom number atom) rest) rest (printed after)
    iris : AllByRecursion (IsIriAt held) (atom_names (renamed_atom number atom))

  -- what stands of the names of an atom that is added
  abbrev StandsLast : Met → Met → Type 0
  StandsLast m after = (a : Atom) → after.atoms ≡ m.atoms ++ a ∷ [] → AllByRecursion Stands (atom_names a)

  term-atoms : {m one : Met} {s : Symbol} {t : Term} → IsTerm m s t one → one.atoms ≡ m.atoms
  term-atoms variable_term = refl
  term-atoms (name_term free) = refl

  atom_back : {m after : Met} {symbols others : List Symbol} (rest : List Symbol) → AtomThen m symbols others after → Extends after.names final
      → length after.variables ≤ 256 → StandsLast m after → AllByRecursion IsSound symbols → AtomBack m after rest
  atom_back {m} rest (class_atom {c = c} {s} {t} {one} may is_t) grows few stands sound =
      let a = Is (name_at m c) t in
      let is : one.atoms ++ a ∷ [] ≡ m.atoms ++ a ∷ [] = ap (λ l. l ++ a ∷ []) (term-atoms is_t) in
      let good = stands a is in
      let term = term_back is_t grows few good.1 sound.1.1.0 in
      let n = number (name_at m c) in
      let g = term-grows is_t in
      let back = name_met m.names c (Extends-trans (names_after m.names c) one.names final g.names grows) good.0 in
      let t' = renamed_term number t in
      record {
        atom = a;
        is = is;
        then =
            subst (λ w. AtomThen (printed m) (atom_symbols held (renamed_atom number a) rest) rest w) (added one a)
            (subst (λ k. AtomThen (printed m) (atom_symbols held (renamed_atom number a) rest) rest (with_atom (printed one) (Is k t'))) back.place
            (class_atom (subst (λ t. may_be_class t ≡ true) (sym back.is) may)
            (subst (λ l. IsTerm (record (printed m) { names = l }) (term_symbol held t') t' (printed one)) (sym back.known) term.term)));
        iris = (subst IsIri (sym back.is) sound.0, term.iris);
      }
  atom_back {m} rest (role_atom {p = p} {s} {s'} {t} {u} {one} {two} free is_t is_u) grows few stands sound =
      let a = Link (name_at m p) t u in
      let is : two.atoms ++ a ∷ [] ≡ m.atoms ++ a ∷ [] = ap (λ l. l ++ a ∷ []) (term-atoms is_u ∙ term-atoms is_t) in
      let good = stands a is in
      let goods = parts Stands (term_names t) (term_names u) good.1 in
      let h = term-grows is_u in
      let g = term-grows is_t in
      let one_grows = Extends-trans one.names two.names final h.names grows in
      let first = term_back is_t one_grows (omega (arith, few, h.variables)) goods.0 sound.1.1.0 in
      let second = term_back is_u grows few goods.1 sound.1.1.1.1.0 in
      let back = name_met m.names p (Extends-trans (names_after m.names p) one.names final g.names one_grows) good.0 in
      let t' = renamed_term number t in
      let u' = renamed_term number u in
      record {
        atom = a;
        is = is;
        then =
            subst (λ w. AtomThen (printed m) (atom_symbols held (renamed_atom number a) rest) rest w) (added two a)
            (subst (λ k. AtomThen (printed m) (atom_symbols held (renamed_atom number a) rest) rest (with_atom (printed two) (Link k t' u'))) back.place
            (role_atom (subst (λ t. is_free t ≡ true) (sym back.is) free)
            (subst (λ l. IsTerm (record (printed m) { names = l }) (term_symbol held t') t' (printed one)) (sym back.known) first.term) second.term));
        iris = (subst IsIri (sym back.is) sound.0, both (IsIriAt held) (term_names t') (term_names u') first.iris second.iris);
      }

  -- ---- the body

  record BodyBack (m after : Met) : Type 0 where
    first : Atom
    others : List Atom
    is : after.atoms ≡ m.atoms ++ first ∷ others
    body : IsBody (printed m) (body_symbols held (renamed_atom number first) (map (renamed_atom number) others)) (printed after)
    iris : AllByRecursion (λ a. AllByRecursion (IsIriAt held) (atom_names a)) (map (renamed_atom number) (first ∷ others))

  atoms_of : {m after : Met} {symbols rest : List Symbol} → AtomThen m symbols rest after → (a : Atom) × (after.atoms ≡ m.atoms ++ a ∷ [])
  atoms_of {m} (class_atom {c = c} {t = t} may is_t) = (Is (name_at m c) t, ap (λ l. l ++ Is (name_at m c) t ∷ []) (term-atoms is_t))
  atoms_of {m} (role_atom {p = p} {t = t} {u} free is_t is_u) =
      (Link (name_at m p) t u, ap (λ l. l ++ Link (name_at m p) t u ∷ []) (term-atoms is_u ∙ term-atoms is_t))

  pick : (xs : List Atom) (a : Atom) (ys : List Atom) → AllByRecursion Stands (flat_map atom_names ((xs ++ a ∷ []) ++ ys))
      → AllByRecursion Stands (atom_names a)
  pick [] a ys h = (parts Stands (atom_names a) (flat_map atom_names ys) h).0
  pick (x ∷ xs) a ys h = pick xs a ys (parts Stands (atom_names x) (flat_map atom_names ((xs ++ a ∷ []) ++ ys)) h).1

  then_sound : {m after : Met} {symbols rest : List Symbol} → AtomThen m symbols rest after → AllByRecursion IsSound symbols → AllByRecursion IsSound rest
  then_sound (class_atom may is_t) sound = sound.1.1.1.1
  then_sound (role_atom free is_t is_u) sound = sound.1.1.1.1.1.1

  body_back : {m fin : Met} {symbols : List Symbol} → IsBody m symbols fin → Extends fin.names final → length fin.variables ≤ 256
      → AllByRecursion Stands (flat_map atom_names fin.atoms) → AllByRecursion IsSound symbols → BodyBack m fin
  body_back {m} {fin} (last_atom a) grows few stands sound =
      let last =
      atom_back (ending ∷ []) a grows few
      (λ b is. pick m.atoms b [] (subst (λ l. AllByRecursion Stands (flat_map atom_names l)) (is ∙ sym (append-nil (m.atoms ++ b ∷ []))) stands)) sound
      in
      record { first = last.atom; others = []; is = last.is; body = last_atom last.then; iris = (last.iris, tt) }
  body_back {m} {fin} (more_atoms {one = one} a rest) grows few stands sound =
      let behind = body_back rest grows few stands (then_sound a sound).1 in
      let g = body-grows rest in
      let others = behind.first ∷ behind.others in
      let here =
      atom_back (comma ∷ body_symbols held (renamed_atom number behind.first) (map (renamed_atom number) behind.others)) a
      (Extends-trans one.names fin.names final g.names grows) (omega (arith, few, g.variables))
      (λ b is. pick m.atoms b others (subst (λ l. AllByRecursion Stands (flat_map atom_names l)) (behind.is ∙ ap (λ l. l ++ others) is) stands)) sound
      in
      record {
        first = here.atom;
        others = others;
        is = behind.is ∙ ap (λ l. l ++ others) here.is ∙ append_assoc m.atoms (here.atom ∷ []) others;
        body = more_atoms here.then behind.body;
        iris = (here.iris, behind.iris);
      }

  -- ---- the head

  headed : (m : Met) (x : Text) → length (names_after m.variables x) ≤ 256
      → with_head (printed m) (variable_name (number_of m x)) ≡ printed (with_head m x)
  headed m x few =
      λ i. met (variables_back m.variables x few i) held (m.head ++ number_back m.variables x few i ∷ []) (map (renamed_atom number) m.atoms)

  record VariablesBack (m after : Met) (rest : List Symbol) : Type 0 where
    first : ℕ
    others : List ℕ
    is : after.head ≡ m.head ++ first ∷ others
    then : VariablesThen (printed m) (more_symbols first others rest) rest (printed after)

  all_back : {m after : Met} {symbols behind : List Symbol} (rest : List Symbol) → VariablesThen m symbols behind after
      → length after.variables ≤ 256 → VariablesBack m after rest
  all_back {m} rest (last_variable {x = x}) few = record {
    first = number_of m x;
    others = [];
    is = refl;
    then =
        subst (λ w. VariablesThen (printed m) (more_symbols (number_of m x) [] rest) rest w) (headed m x few) last_variable;
  }
  all_back {m} {after} rest (more_variables {x = x} more) few =
      let behind = all_back rest more few in
      let others = behind.first ∷ behind.others in
      record {
        first = number_of m x;
        others = others;
        is = behind.is ∙ append_assoc m.head (number_of m x ∷ []) others;
        then =
            more_variables
            (subst (λ w. VariablesThen w (more_symbols behind.first behind.others rest) rest (printed after))
            (sym (headed m x (omega (arith, few, variables-grow more)))) behind.then);
      }

  record HeadBack (m after : Met) (rest : List Symbol) : Type 0 where
    numbers : List ℕ
    is : after.head ≡ m.head ++ numbers
    then : HeadThen (printed m) (head_symbols numbers rest) rest (printed after)

  head_back : {m after : Met} {symbols behind : List Symbol} (rest : List Symbol) → HeadThen m symbols behind after → length after.variables ≤ 256
      → HeadBack m after rest
  head_back {m} rest no_variable few = record { numbers = []; is = sym (append-nil m.head); then = no_variable }
  head_back {m} rest (some_variables all) few =
      let back = all_back rest all few in
      record { numbers = back.first ∷ back.others; is = back.is; then = some_variables back.then }

  variables_sound : {m after : Met} {symbols rest : List Symbol} → VariablesThen m symbols rest after → AllByRecursion IsSound symbols
      → AllByRecursion IsSound rest
  variables_sound last_variable sound = sound.1.1
  variables_sound (more_variables more) sound = variables_sound more sound.1.1

  head_sound : {m after : Met} {symbols rest : List Symbol} → HeadThen m symbols rest after → AllByRecursion IsSound symbols → AllByRecursion IsSound rest
  head_sound no_variable sound = sound.1
  head_sound (some_variables all) sound = variables_sound all sound

  -- ---- the query

  pub record QueryIsBack (m : Met) : Type 0 where
    pub after : Met
    pub query : IsQuery held (query_symbols held (renamed_query number (query_of m))) after
    pub is : query_of after ≡ renamed_query number (query_of m)
    pub named : after.names ≡ held
    pub iris : AllByRecursion (λ a. AllByRecursion (IsIriAt held) (atom_names a)) (map (renamed_atom number) m.atoms)
    pub some : Atom
    pub others : List Atom
    pub atoms : map (renamed_atom number) m.atoms ≡ some ∷ others

  pub query_back : (names : List Text) (symbols : List Symbol) (m : Met) → IsQuery names symbols m → Extends m.names final → length m.variables ≤ 256
      → AllByRecursion Stands (flat_map atom_names m.atoms) → AllByRecursion IsSound symbols → QueryIsBack m
  query_back names symbols m q grows few stands sound =
      let in_symbols = subst (AllByRecursion IsSound) q.is sound in
      let in_body = (head_sound q.in_head in_symbols.1.1).1 in
      let body = body_back q.in_body grows few stands in_body in
      let g = body-grows q.in_body in
      let f' = renamed_atom number body.first in
      let o' = map (renamed_atom number) body.others in
      let head = head_back (turnstile ∷ body_symbols held f' o') q.in_head (omega (arith, few, g.variables)) in
      let head_is : m.head ≡ head.numbers = g.head ∙ head.is in
      let atoms_is : m.atoms ≡ body.first ∷ body.others = body.is ∙ ap (λ l. l ++ body.first ∷ body.others) (head-atoms q.in_head) in
      record {
        after = printed m;
        query = record {
          head = head_symbols head.numbers (turnstile ∷ body_symbols held f' o');
          body = body_symbols held f' o';
          middle = printed q.middle;
          is =
              λ i. query_word ∷ opening
              ∷ head_symbols (head_is i) (turnstile ∷ bodies_symbols held (map (renamed_atom number) (atoms_is i)));
          in_head = head.then;
          in_body = body.body;
        };
        is =
            ap (λ n. record { head = m.head; atoms = map (renamed_atom number) m.atoms; vars = n })
            (length-map-range_with_len variable_name 0 (length m.variables));
        named = refl;
        iris = subst (λ l. AllByRecursion (λ a. AllByRecursion (IsIriAt held) (atom_names a)) (map (renamed_atom number) l)) (sym atoms_is) body.iris;
        some = f';
        others = o';
        atoms = ap (map (renamed_atom number)) atoms_is;
      }
