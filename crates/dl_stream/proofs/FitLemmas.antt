-- The commands of a value name places below the names, and are fit for the store.
use Rattle.std.proofs.Common.{◌≡◌, ℕ, ◌+◌, ◌<◌, ◌≤◌, Bool, true, false, cond, ◌&&◌, nat_le, List, [], ◌∷◌, ◌++◌, length, map, sum_by, All, Option, Some, None, MatchOption, Result, Ok, Err, IfOk, option_map, option_and_then, codes, get_or, refl, ap, subst, arith, length-append, lit≤}
use Rattle.std.specs.Str.{bytes_eq}
use Rattle.std.specs.Str.Parse.{digits_value}
use Rattle.std.proofs.lemmas.Bool.{and_parts}
use Rattle.std.proofs.lemmas.List.Elements.{All-nil, All-push, All-map, All-append, All-weaker}
use Rattle.std.proofs.lemmas.List.Sums.{sum_by-append}
use Rattle.dl_names.specs.NameList.{Text}
use Rattle.dl_names.proofs.NameListLemmas.{length-Extends}
use Rattle.dl_terms.specs.declared.query.Query.{Query}
use Rattle.dl_terms.specs.declared.axiom.Fact.{Fact}
use Rattle.dl_terms.specs.Occurring.{query_names}
use Rattle.dl_event.specs.declared.event.Item.{Item}
use Rattle.dl_event.specs.declared.event.Item.TheVariants as item
use Rattle.dl_event.specs.declared.event.Edit.{Edit}
use Rattle.dl_event.specs.declared.event.Event.{Event}
use Rattle.dl_event.specs.declared.event.Event.TheVariants as event
use Rattle.dl_event.specs.Auxiliaries.{ItemHasNoAuxiliary}
use Rattle.dl_triples.proofs.PlaceLemmas.{IsWithin, read_within}
use Rattle.dl_query.specs.Queries as queries
use Rattle.dl_query.proofs.GrammarLemmas.{query-grows}
use Rattle.dl_query.proofs.PlaceLemmas.{value-placed}
use Rattle.dl_stream.specs.declared.fault.StreamFault.{StreamFault}
use Rattle.dl_stream.specs.declared.streams.Streams.{Streams}
use Rattle.dl_stream.specs.declared.streams.Command.{Command}
use Rattle.dl_stream.specs.declared.streams.Command.TheVariants.{Put, Ask}
use Rattle.dl_stream.specs.Commands.{item_names, ItemBelow, EventBelow, CommandBelow, IsFit}
use Rattle.dl_stream.specs.Forms.{Form, begins, opens, edits, closes, puts, asks, max_limit, max_rows, max_looked, max_number, default_limit, number_within, is_number, both, shard_and_rows, limit_form, ask_form, sweep_form, word_form, rest_form, form_by, form_of, before_byte, behind_byte, is_digit_next}
use Rattle.dl_stream.specs.Edits.{edit, fact_edits, GivesEdits, of_triple, of_axiom}
use Rattle.dl_stream.specs.Reading.{Place, outside, in_stream, in_commit, max_streams, max_commands, Leads, to_first, to_next, to_commit, by_event, by_query, by_edit, by_end, Gives, passed_over, said, AreRead, none, line, streams_at, IsValue}
use Rattle.dl_stream.proofs.SaidLemmas.{value_grows}
use Rattle.dl_stream.proofs.OwlLemmas.{axiom_places, axioms_plain}

-- ---- what a line says keeps to its ranges

-- an event of one line: no commit, and its numbers are in range
abbrev SimpleEvent : Event → Type 0
SimpleEvent (event.Commit made) = ⊥
SimpleEvent event.Pin = Unit {0}
SimpleEvent event.Unpin = Unit {0}
SimpleEvent (event.Migrate shard n) = n ≤ max_rows
SimpleEvent (event.Sweep shard n) = n ≤ max_rows
SimpleEvent event.Reclaim = Unit {0}
SimpleEvent (event.Look rows) = rows ≤ max_looked

abbrev FormFit : Form → Type 0
FormFit begins = Unit {0}
FormFit opens = Unit {0}
FormFit (edits add text) = Unit {0}
FormFit closes = Unit {0}
FormFit (puts e) = SimpleEvent e
FormFit (asks limit text) = (1 ≤ limit) × (limit ≤ max_limit)

abbrev Fits : Option Form → Type 0
Fits r = MatchOption r (Unit {0}) FormFit

pick : (b : Bool) (x y : Option Form) → Fits x → Fits y → Fits (cond b x y)
pick true x y p q = p
pick false x y p q = q

le_of : (a b : ℕ) → nat_le a b ≡ true → a ≤ b
le_of a b e = grind arith

number_fits : (least most : ℕ) (word : List ℕ) → MatchOption (number_within least most word) (Unit {0}) (λ n. (least ≤ n) × (n ≤ most))
number_fits least most word = by (is_number word && nat_le least (digits_value 10 word) && nat_le (digits_value 10 word) most) refl
  where
    by : (r : Bool) → (is_number word && nat_le least (digits_value 10 word) && nat_le (digits_value 10 word) most) ≡ r
        → MatchOption (cond r (Some (digits_value 10 word)) None) (Unit {0}) (λ n. (least ≤ n) × (n ≤ most))
    by false e = tt
    by true e =
        let both_parts = and_parts (is_number word && nat_le least (digits_value 10 word)) (nat_le (digits_value 10 word) most) e in
        let first = and_parts (is_number word) (nat_le least (digits_value 10 word)) both_parts.0 in
        (le_of least (digits_value 10 word) first.1, le_of (digits_value 10 word) most both_parts.1)

look_fits : (o : Option ℕ) → MatchOption o (Unit {0}) (λ n. (0 ≤ n) × (n ≤ max_looked)) → Fits (option_map (λ rows. puts (event.Look rows)) o)
look_fits None h = tt
look_fits (Some n) h = h.1

both_fit : (m n : Option ℕ) → MatchOption n (Unit {0}) (λ y. (0 ≤ y) × (y ≤ max_rows)) → MatchOption (both m n) (Unit {0}) (λ p. p.1 ≤ max_rows)
both_fit None n h = tt
both_fit (Some x) None h = tt
both_fit (Some x) (Some y) h = h.1

rows_fit : (rest : List ℕ) → MatchOption (shard_and_rows rest) (Unit {0}) (λ p. p.1 ≤ max_rows)
rows_fit rest = by (behind_byte 32 rest)
  where
    by : (r : Option (List ℕ))
        → MatchOption (option_and_then (λ rows. both (number_within 0 max_number (before_byte 32 rest)) (number_within 0 max_rows rows)) r) (Unit {0}) (λ p. p.1 ≤ max_rows)
    by None = tt
    by (Some rows) = both_fit (number_within 0 max_number (before_byte 32 rest)) (number_within 0 max_rows rows) (number_fits 0 max_rows rows)

migrate_fits : (o : Option (ℕ × ℕ)) → MatchOption o (Unit {0}) (λ p. p.1 ≤ max_rows) → Fits (option_map (λ p. puts (event.Migrate p.0 p.1)) o)
migrate_fits None h = tt
migrate_fits (Some p) h = h

sweep_fits : (o : Option (ℕ × ℕ)) → MatchOption o (Unit {0}) (λ p. p.1 ≤ max_rows) → Fits (option_map (λ p. puts (event.Sweep p.0 p.1)) o)
sweep_fits None h = tt
sweep_fits (Some p) h = h

asks_fits : (text : List ℕ) (o : Option ℕ) → MatchOption o (Unit {0}) (λ n. (1 ≤ n) × (n ≤ max_limit)) → Fits (option_map (λ limit. asks limit text) o)
asks_fits text None h = tt
asks_fits text (Some n) h = h

limit_fits : (rest : List ℕ) → Fits (limit_form rest)
limit_fits rest = by (behind_byte 32 rest)
  where
    by : (r : Option (List ℕ))
        → Fits (option_and_then (λ text. option_map (λ limit. asks limit text) (number_within 1 max_limit (before_byte 32 rest))) r)
    by None = tt
    by (Some text) = asks_fits text (number_within 1 max_limit (before_byte 32 rest)) (number_fits 1 max_limit (before_byte 32 rest))

ask_fits : (rest : List ℕ) → Fits (ask_form rest)
ask_fits rest = pick (is_digit_next rest) (limit_form rest) (Some (asks default_limit rest)) (limit_fits rest) (lit≤ tt, lit≤ tt)

word_fits : (word : List ℕ) → Fits (word_form word)
word_fits word =
    pick (bytes_eq (codes "stream") word) _ _ tt
    (pick (bytes_eq (codes "commit") word) _ _ tt
    (pick (bytes_eq (codes "end") word) _ _ tt
    (pick (bytes_eq (codes "pin") word) _ _ tt
    (pick (bytes_eq (codes "unpin") word) _ _ tt (pick (bytes_eq (codes "reclaim") word) (Some (puts event.Reclaim)) None tt tt)))))

rest_fits : (word rest : List ℕ) → Fits (rest_form word rest)
rest_fits word rest =
    pick (bytes_eq (codes "+") word) _ _ tt
    (pick (bytes_eq (codes "-") word) _ _ tt
    (pick (bytes_eq (codes "ask") word) _ _ (ask_fits rest)
    (pick (bytes_eq (codes "look") word) _ _ (look_fits (number_within 0 max_looked rest) (number_fits 0 max_looked rest))
    (pick (bytes_eq (codes "migrate") word) _ _ (migrate_fits (shard_and_rows rest) (rows_fit rest))
    (pick (bytes_eq (codes "sweep") word) (sweep_form rest) None (sweep_fits (shard_and_rows rest) (rows_fit rest)) tt)))))

form_fits : (one : List ℕ) → Fits (form_of one)
form_fits one = by (behind_byte 32 one)
  where
    by : (r : Option (List ℕ)) → Fits (form_by (before_byte 32 one) r)
    by None = word_fits (before_byte 32 one)
    by (Some rest) = rest_fits (before_byte 32 one) rest

said_fits : {f : Form} (one : List ℕ) → form_of one ≡ Some f → FormFit f
said_fits one e = subst Fits e (form_fits one)

-- ---- commands that are right over so many names

abbrev Right : ℕ → Command → Type 0
Right count c = CommandBelow count c × IsFit c

abbrev RightEdit : ℕ → Edit → Type 0
RightEdit count e = ItemBelow count e.item × ItemHasNoAuxiliary e.item

item_more : (a b : ℕ) → a ≤ b → (i : Item) → ItemBelow a i → ItemBelow b i
item_more a b le i = All-weaker (λ n. n < a) (λ n. n < b) (λ n h. omega arith) (item_names i)

edit_more : (a b : ℕ) → a ≤ b → (e : Edit) → RightEdit a e → RightEdit b e
edit_more a b le e h = (item_more a b le e.item h.0, h.1)

event_more : (a b : ℕ) → a ≤ b → (e : Event) → EventBelow a e → EventBelow b e
event_more a b le (event.Commit made) h = All-weaker (λ e. ItemBelow a e.item) (λ e. ItemBelow b e.item) (λ e g. item_more a b le e.item g) made h
event_more a b le event.Pin h = tt
event_more a b le event.Unpin h = tt
event_more a b le (event.Migrate shard n) h = tt
event_more a b le (event.Sweep shard n) h = tt
event_more a b le event.Reclaim h = tt
event_more a b le (event.Look rows) h = tt

command_more : (a b : ℕ) → a ≤ b → (c : Command) → Right a c → Right b c
command_more a b le (Put e) h = (event_more a b le e h.0, h.1)
command_more a b le (Ask q limit) h = (All-weaker (λ n. n < a) (λ n. n < b) (λ n g. omega arith) (query_names q) h.0, h.1)

-- what is read so far is right
pub record RightAt (count : ℕ) (before : List (List Command)) (commands : List Command) (made : List Edit) : Type 0 where
  pub streams : All (All (Right count)) before
  pub last : All (Right count) commands
  pub edits : All (RightEdit count) made
  pub few : length before + 1 ≤ max_streams
  pub fewer : sum_by length before + length commands ≤ max_commands

abbrev RightPlace : ℕ → Place → Type 0
RightPlace count outside = Unit {0}
RightPlace count (in_stream before commands) = RightAt count before commands []
RightPlace count (in_commit before commands at made) = RightAt count before commands made × (sum_by length before + length commands < max_commands)

at_more : (a b : ℕ) → a ≤ b → {before : List (List Command)} {commands : List Command} {made : List Edit} → RightAt a before commands made → RightAt b before commands made
at_more a b le {before} {commands} {made} h = record {
  streams = All-weaker (All (Right a)) (All (Right b)) (λ l g. All-weaker (Right a) (Right b) (command_more a b le) l g) before h.streams;
  last = All-weaker (Right a) (Right b) (command_more a b le) commands h.last;
  edits = All-weaker (RightEdit a) (RightEdit b) (edit_more a b le) made h.edits;
  few = h.few;
  fewer = h.fewer;
}

-- ---- what is said leads from right to right

facts_right : (add : Bool) (count : ℕ) (facts : List Fact) → All (IsWithin count) facts → All (RightEdit count) (fact_edits add facts)
facts_right add count facts h = All-map (RightEdit count) (λ f. edit add (item.Fact f)) facts (All-weaker (IsWithin count) (λ f. RightEdit count (edit add (item.Fact f))) (λ f g. (g, tt)) facts h)

one_below : (count n : ℕ) → n < count → All (λ m. m < count) (n ∷ [])
one_below count n h = All-push (λ m. m < count) [] n (All-nil (λ m. m < count)) h

declared_right : (count : ℕ) (classes roles : List ℕ) → All (λ n. n < count) classes → All (λ n. n < count) roles → (add : Bool)
    → All (RightEdit count) (cond add (map (λ c. edit true (item.Class c)) classes ++ map (λ p. edit true (item.Property p)) roles) [])
declared_right count classes roles h g false = All-nil (RightEdit count)
declared_right count classes roles h g true =
    All-append (RightEdit count) _ _
    (All-map (RightEdit count) (λ c. edit true (item.Class c)) classes (λ k x within. (one_below count (get_or classes k x) (h k x within), tt)))
    (All-map (RightEdit count) (λ p. edit true (item.Property p)) roles (λ k x within. (one_below count (get_or roles k x) (g k x within), tt)))

edits_right : {add : Bool} {text : List ℕ} {names after : List Text} {more : List Edit} → GivesEdits add text names more after → All (RightEdit (length after)) more
edits_right {add = add} (of_triple {facts = facts} {after = a} is one v) = facts_right add (length a) facts (read_within v.read)
edits_right {add = add} (of_axiom {document = d} {after = a} is v) =
    let below = (axiom_places d v).below in
    let plain = axioms_plain d v in
    let R = RightEdit (length a) in
    All-append R _ _
    (All-map R (λ x. edit add (item.Axiom x)) d.axioms (λ k x within. (below.axioms k x within, plain k x within)))
    (All-append R _ _ (facts_right add (length a) d.facts below.facts) (declared_right (length a) d.classes d.roles below.classes below.roles add))

edits_grow : {add : Bool} {text : List ℕ} {names after : List Text} {more : List Edit} → GivesEdits add text names more after → length names ≤ length after
edits_grow {names = names} (of_triple {after = a} is one v) = length-Extends names a (value_grows v)
edits_grow {names = names} (of_axiom {document = d} {after = a} is v) = length-Extends names a (axiom_places d v).grows

query_grows : {text : List ℕ} {names after : List Text} {q : Query} → queries.IsValue text names q after → length names ≤ length after
query_grows {names = names} v = let grown = query-grows names _ v.m v.text.query in omega (arith, grown, ap length v.named)

-- a command more
pushed_right : {count : ℕ} {before : List (List Command)} {commands : List Command} {made : List Edit} (c : Command) → RightAt count before commands made → Right count c
    → sum_by length before + length commands < max_commands → RightAt count before (commands ++ c ∷ []) []
pushed_right {count} {before} {commands} c h right few = record {
  streams = h.streams;
  last = All-push (Right count) commands c h.last right;
  edits = All-nil (RightEdit count);
  few = h.few;
  fewer = omega (arith, few, length-append commands (c ∷ []));
}

event_right : (count : ℕ) (e : Event) → SimpleEvent e → Right count (Put e)
event_right count (event.Commit made) h = absurd h
event_right count event.Pin h = (tt, record { in_range = tt; no_auxiliary = tt })
event_right count event.Unpin h = (tt, record { in_range = tt; no_auxiliary = tt })
event_right count (event.Migrate shard n) h = (tt, record { in_range = h; no_auxiliary = tt })
event_right count (event.Sweep shard n) h = (tt, record { in_range = h; no_auxiliary = tt })
event_right count event.Reclaim h = (tt, record { in_range = tt; no_auxiliary = tt })
event_right count (event.Look rows) h = (tt, record { in_range = h; no_auxiliary = tt })

commit_right : (count : ℕ) (made : List Edit) → All (RightEdit count) made → Right count (Put (event.Commit made))
commit_right count made h = (
  All-weaker (RightEdit count) (λ e. ItemBelow count e.item) (λ e g. g.0) made h,
  record { in_range = tt; no_auxiliary = All-weaker (RightEdit count) (λ e. ItemHasNoAuxiliary e.item) (λ e g. g.1) made h },
)

-- names grow, and what is right stays so
lead_right : {n : ℕ} {names after : List Text} {f : Form} {p q : Place} → FormFit f → Leads n names f p q after → RightPlace (length names) p
    → (length names ≤ length after) × RightPlace (length after) q
lead_right {names = names} fit to_first h = (
  omega arith,
  record {
    streams = All-nil (All (Right (length names)));
    last = All-nil (Right (length names));
    edits = All-nil (RightEdit (length names));
    few = lit≤ tt;
    fewer = lit≤ tt;
  },
)
lead_right {names = names} fit (to_next {before = b} {commands = c} few) h = (
  omega arith,
  record {
    streams = All-push (All (Right (length names))) b c h.streams h.last;
    last = All-nil (Right (length names));
    edits = All-nil (RightEdit (length names));
    few = omega (arith, few, length-append b (c ∷ []));
    fewer = omega (arith, h.fewer, sum_by-append length b (c ∷ []));
  },
)
lead_right fit (to_commit few) h = (omega arith, (h, few))
lead_right {names = names} fit (by_event {e = e} few) h = (omega arith, pushed_right (Put e) h (event_right (length names) e fit) few)
lead_right {names = names} fit (by_query {limit = limit} {q = q} {after = a} few v) h =
    let grown = query_grows v in
    let right : Right (length a) (Ask q limit) = (value-placed q v, record { well_formed = v.well_formed; from = fit.0; to = fit.1 }) in
    (grown, pushed_right (Ask q limit) (at_more (length names) (length a) grown h) right few)
lead_right {names = names} fit (by_edit {made = made} {more = more} {after = a} g) h =
    let grown = edits_grow g in
    let was = at_more (length names) (length a) grown h.0 in (
      grown,
      (
        record {
          streams = was.streams;
          last = was.last;
          edits = All-append (RightEdit (length a)) made more was.edits (edits_right g);
          few = was.few;
          fewer = was.fewer;
        },
        h.1,
      ),
    )
lead_right {names = names} fit (by_end {made = made}) h = (omega arith, pushed_right (Put (event.Commit made)) h.0 (commit_right (length names) made h.0.edits) h.1)

gives_right : {one : List ℕ} {n : ℕ} {names after : List Text} {p q : Place} → Gives one n names p q after → RightPlace (length names) p
    → (length names ≤ length after) × RightPlace (length after) q
gives_right (passed_over is) h = (omega arith, h)
gives_right {one = one} (said other e l) h = lead_right (said_fits one e) l h

read_right : {lines : List (List ℕ)} {n : ℕ} {names after : List Text} {p q : Place} → AreRead lines n names p q after → RightPlace (length names) p → RightPlace (length after) q
read_right none h = h
read_right (line g more) h = read_right more (gives_right g h).1

-- ---- the streams of a value

some_is : {s t : List (List Command)} → Some s ≡ Some t → s ≡ t
some_is e = cc

none_some : {t : List (List Command)} → None ≡ Some t → ⊥
none_some e = cc

pub record AreRight (count : ℕ) (streams : List (List Command)) : Type 0 where
  pub all : All (All (Right count)) streams
  pub few : length streams ≤ max_streams
  pub fewer : sum_by length streams ≤ max_commands

ended_right : {count : ℕ} {streams : List (List Command)} (p : Place) → streams_at p ≡ Some streams → RightPlace count p → AreRight count streams
ended_right {count} outside e h = subst (λ l. AreRight count l) (some_is e) (record { all = All-nil (All (Right count)); few = lit≤ tt; fewer = lit≤ tt })
ended_right {count} (in_stream b c) e h = subst (λ l. AreRight count l) (some_is e) (record {
  all = All-push (All (Right count)) b c h.streams h.last;
  few = let more = h.few in omega (arith, more, length-append b (c ∷ []));
  fewer = omega (arith, h.fewer, sum_by-append length b (c ∷ []));
})
ended_right (in_commit b c at made) e h = absurd (none_some e)

pub value_right : {bytes : List ℕ} {names after : List Text} (streams : List (List Command)) → IsValue bytes names streams after → AreRight (length after) streams
value_right streams v = ended_right v.place v.ended (read_right v.read tt)

pub right_below : {count : ℕ} {streams : List (List Command)} → AreRight count streams → All (All (CommandBelow count)) streams
right_below {count} {streams} h = All-weaker (All (Right count)) (All (CommandBelow count)) (λ l g. All-weaker (Right count) (CommandBelow count) (λ c r. r.0) l g) streams h.all

pub right_fit : {count : ℕ} {streams : List (List Command)} → AreRight count streams → All (All IsFit) streams
right_fit {count} {streams} h = All-weaker (All (Right count)) (All IsFit) (λ l g. All-weaker (Right count) IsFit (λ c r. r.1) l g) streams h.all

-- what a result tells
module _ (bytes : List ℕ) (names after : List Text) where
  pub told_below : (r : Result Streams StreamFault) → IfOk r (λ s. IsValue bytes names s.lists after) → IfOk r (λ s. All (All (CommandBelow (length after))) s.lists)
  told_below (Ok s) v = right_below (value_right s.lists v)
  told_below (Err fault) v = tt

  pub told_fit : (r : Result Streams StreamFault) → IfOk r (λ s. IsValue bytes names s.lists after) → IfOk r (λ s. All (All IsFit) s.lists)
  told_fit (Ok s) v = right_fit (value_right s.lists v)
  told_fit (Err fault) v = tt

  pub told_few : (r : Result Streams StreamFault) → IfOk r (λ s. IsValue bytes names s.lists after) → IfOk r (λ s. length s.lists ≤ max_streams)
  told_few (Ok s) v = (value_right s.lists v).few
  told_few (Err fault) v = tt

  pub told_fewer : (r : Result Streams StreamFault) → IfOk r (λ s. IsValue bytes names s.lists after) → IfOk r (λ s. sum_by length s.lists ≤ max_commands)
  told_fewer (Ok s) v = (value_right s.lists v).fewer
  told_fewer (Err fault) v = tt
