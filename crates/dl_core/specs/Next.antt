-- The root of a load, and the next root and the reply of each event. `numbering` gives an epoch's classes and
-- properties in number order. Roots and events are this project's own.
use Rattle.std.specs.Prelude.{ℕ, ◌+◌, ◌≤◌, min, Bool, false, not, ◌&&◌, cond, ◌==◌, nat_le, nat_lt, List, [], ◌∷◌, ◌++◌, map, length, take}
use Rattle.std.specs.List.{filter, filter_map}
use Rattle.std.specs.declared.option.Option.{Option}
use Rattle.std.specs.declared.option.Option.TheVariants.{Some, None}
use Rattle.std.specs.Ordering.{nat_cmp, is_eq}
use Rattle.std.specs.Cmp.Lexicographic.{slice_cmp}
use Rattle.dl_terms.specs.Order.{axiom_cmp, fact_cmp}
use Rattle.dl_terms.specs.declared.axiom.Axiom.{Axiom}
use Rattle.dl_terms.specs.declared.axiom.Fact.{Fact}
use Rattle.dl_terms.specs.declared.axiom.Fact.TheVariants.{Is, Link}
use Rattle.dl_terms.specs.declared.axiom.Signature.{Signature}
use Rattle.dl_terms.specs.Below.{RoleBelow, ConceptBelow}
use Rattle.dl_terms.specs.Roles.{named}
use Rattle.dl_terms.specs.declared.role.Basic.TheVariants as basic
use Rattle.dl_numbers.specs.Rule.{IsByRule}
use Rattle.dl_row.specs.Lists.{count, ordered}
use Rattle.dl_edits.specs.Sets.{has, with_items}
use Rattle.dl_normal.specs.Weight.{total_weight}
use Rattle.dl_edits.specs.Names.{predicates}
use Rattle.dl_edits.specs.Edits.{edited_axioms, edited_facts, edited_signature}
use Rattle.dl_core.specs.History.{Load}
use Rattle.dl_row.specs.Rows.{Epoch, number_of, fact_of, visible, row_cmp, open_end}
use Rattle.dl_core.specs.Root.{Root, IsNumbered, epochs, stands_in, rows_in, pin_in, max_epochs, max_version}
use Rattle.dl_edits.specs.Signatures.{HasEachOnce}
use Rattle.dl_epoch.specs.Known.{max_weight}
use Rattle.dl_hier.specs.Predicates.{max_predicates}
use Rattle.dl_row.specs.Shards.{max_rows}
use Rattle.dl_migrate.specs.Lists.{change_first, drop_first}
use Rattle.dl_migrate.specs.Moving.{is_behind, renumbered}
use Rattle.dl_migrate.specs.Sweeping.{is_over}
use Rattle.dl_migrate.specs.Reclaiming.{is_dead}
use Rattle.dl_row.specs.declared.row.Kind.{Kind}
use Rattle.dl_row.specs.declared.row.Kind.TheVariants.{Class, Role}
use Rattle.dl_row.specs.declared.row.Row.{Row}
use Rattle.dl_event.specs.declared.pin.Pin.{Pin}
use Rattle.dl_event.specs.Auxiliaries.{EventHasNoAuxiliary}
use Rattle.dl_event.specs.declared.event.Edit.{Edit}
use Rattle.dl_event.specs.declared.event.Event.{Event}
use Rattle.dl_event.specs.declared.event.Event.TheVariants as event
use Rattle.dl_core.specs.declared.fault.LoadFault.{LoadFault}
use Rattle.dl_core.specs.declared.fault.LoadFault.TheVariants as fault
use Rattle.dl_event.specs.declared.reply.Reply.{Reply}
use Rattle.dl_event.specs.declared.reply.Reply.TheVariants as reply
use Rattle.dl_event.specs.declared.reply.Refusal.{Refusal}
use Rattle.dl_event.specs.declared.reply.Refusal.TheVariants.{TooManyAxioms, TooManyPredicates, TooManyEpochs, Full, PinOpen, NoPin, NoShard}

-- how names are numbered, under axioms: of a kind, those of a signature in number order
abbrev pub Numbering : Type 0
Numbering = Kind → List Axiom → Signature → List ℕ

-- the epoch of axioms and a signature, from a version on
abbrev pub epoch_from : Numbering → ℕ → ℕ → List Axiom → Signature → Epoch
epoch_from numbering id first axioms signature = record {
  id = id;
  first = first;
  axioms = axioms;
  signature = signature;
  classes = numbering Class axioms signature;
  roles = numbering Role axioms signature;
}

-- a numbering has the names of the signature, each once
abbrev pub IsNumbering : Numbering → Type 0
IsNumbering numbering =
    (id first : ℕ) (axioms : List Axiom) (signature : Signature) → HasEachOnce signature
    → IsNumbered (epoch_from numbering id first axioms signature)

-- a numbering goes by the rule, as that of an epoch does
pub record GoesByRule (numbering : Numbering) : Type 0 where
  pub classes : (axioms : List Axiom) (signature : Signature) → IsByRule signature.classes
      (λ c d. ConceptBelow axioms (basic.Class c) (basic.Class d)) (numbering Class axioms signature)
  pub roles : (axioms : List Axiom) (signature : Signature) → IsByRule signature.roles
      (λ p q. RoleBelow axioms (named p) (named q)) (numbering Role axioms signature)

-- the facts of the rows that are visible at a version, as a set
abbrev pub visible_facts : List Epoch → List Row → ℕ → List Fact
visible_facts es rows v = with_items fact_cmp (filter_map (fact_of es) (filter (visible v) rows)) []

-- the open row of a fact, in an epoch
abbrev pub row_for : Epoch → ℕ → Fact → Row
row_for e version (Is c x) =
    record {
      kind = Class;
      number = number_of e.classes c;
      epoch = e.id;
      s = x;
      o = x;
      first = version;
      last = open_end;
    }
row_for e version (Link p x y) =
    record {
      kind = Role;
      number = number_of e.roles p;
      epoch = e.id;
      s = x;
      o = y;
      first = version;
      last = open_end;
    }

-- ---- the load

-- version 1 and epoch 1, and one row for each fact
abbrev pub loaded : Numbering → Load → Root
loaded numbering l =
    let e = epoch_from numbering 1 1 l.axioms l.signature in
    record {
      version = 1;
      older = [];
      current = e;
      pins = [];
      shards = l.shards;
      rows = ordered row_cmp (map (row_for e 1) l.facts);
    }

-- the greatest number that a reply can have
abbrev pub max_count : ℕ
max_count = 18446744073709551615

-- why nothing is loaded: the first limit that the load passes
abbrev pub load_refused : Load → Option LoadFault
load_refused l =
    cond (nat_lt max_weight (total_weight l.axioms))
    (Some (fault.TooManyAxioms (min max_count (total_weight l.axioms))))
    (cond (nat_lt max_predicates (predicates l.axioms l.signature))
    (Some (fault.TooManyPredicates (predicates l.axioms l.signature)))
    (cond (nat_lt max_rows (length l.facts)) (Some (fault.Full (length l.facts))) None))

-- ---- a commit

-- both have the same names
abbrev pub same_signature : Signature → Signature → Bool
same_signature s t = is_eq (slice_cmp nat_cmp s.classes t.classes) && is_eq (slice_cmp nat_cmp s.roles t.roles)

-- a commit opens an epoch where it changes the set of axioms or the signature
abbrev pub opens : Root → List Edit → Bool
opens root edits =
    not (is_eq (slice_cmp axiom_cmp root.current.axioms (edited_axioms edits root.current.axioms))
    && same_signature root.current.signature (edited_signature edits root.current.signature))

-- the facts of the current version
abbrev pub root_facts : Root → List Fact
root_facts root = visible_facts (epochs root) root.rows root.version

-- a row stands for one of some facts
abbrev pub is_among : List Fact → Option Fact → Bool
is_among facts None = false
is_among facts (Some f) = has fact_cmp facts f

-- a row that ends at a version
abbrev pub ended_at : ℕ → Row → Row
ended_at version r =
    record {
      kind = r.kind;
      number = r.number;
      epoch = r.epoch;
      s = r.s;
      o = r.o;
      first = r.first;
      last = version;
    }

-- an open row of a fact that isn't there any more ends at the version
abbrev pub ended : List Epoch → List Fact → ℕ → Row → Row
ended es facts version r = cond (r.last == open_end && not (is_among facts (fact_of es r))) (ended_at version r) r

-- the facts that weren't there
abbrev pub new_facts : List Fact → List Fact → List Fact
new_facts before after = filter (λ f. not (has fact_cmp before f)) after

-- the current epoch after a commit, and those before it
abbrev pub committed_epoch : Numbering → Root → List Edit → Epoch
committed_epoch numbering root edits =
    cond (opens root edits)
    (epoch_from numbering (root.current.id + 1) (root.version + 1) (edited_axioms edits root.current.axioms)
    (edited_signature edits root.current.signature)) root.current

abbrev pub committed_older : Root → List Edit → List Epoch
committed_older root edits = cond (opens root edits) (epochs root) root.older

-- the rows after a commit: those of facts that are gone end, and each new fact has one
abbrev pub committed_rows : List Epoch → List Row → Epoch → ℕ → List Fact → List Fact → List Row
committed_rows es rows e version before after =
    ordered row_cmp (map (ended es after version) rows ++ map (row_for e version) (new_facts before after))

-- the root after a commit
abbrev pub committed : Numbering → Root → List Edit → Root
committed numbering root edits =
    let e = committed_epoch numbering root edits in
    record {
      version = root.version + 1;
      older = committed_older root edits;
      current = e;
      pins = root.pins;
      shards = root.shards;
      rows = committed_rows (epochs root) root.rows e (root.version + 1) (root_facts root)
          (edited_facts edits (root_facts root));
    }

-- why a commit is refused: the first of these that it meets
abbrev pub commit_refused : Root → List Edit → Option Refusal
commit_refused root edits =
    let axioms = edited_axioms edits root.current.axioms in
    let signature = edited_signature edits root.current.signature in
    let new = length (new_facts (root_facts root) (edited_facts edits (root_facts root))) in
    cond (nat_lt max_weight (total_weight axioms)) (Some (TooManyAxioms (min max_count (total_weight axioms))))
    (cond (nat_lt max_predicates (predicates axioms signature))
    (Some (TooManyPredicates (predicates axioms signature)))
    (cond (opens root edits && nat_le max_epochs (length (epochs root))) (Some (TooManyEpochs (length (epochs root))))
    (cond (nat_lt max_rows (length root.rows + new)) (Some (Full (length root.rows) new)) None)))

-- the same root where there is a reason to refuse, else another one
abbrev pub refused_or : Root → Option Refusal → Root × Reply → Root × Reply
refused_or root None next = next
refused_or root (Some why) next = (root, reply.Refused why)

-- ---- pins

-- the root with other pins
abbrev pub with_pins : Root → List Pin → Root
with_pins root pins = record {
  version = root.version;
  older = root.older;
  current = root.current;
  pins = pins;
  shards = root.shards;
  rows = root.rows;
}

-- a stream is pinned to the current version, unless it has a pin
abbrev pub pinned : Root → ℕ → Option ℕ → Root × Reply
pinned root stream (Some v) = (root, reply.Refused (PinOpen v))
pinned root stream None =
    (with_pins root (root.pins ++ record { stream = stream; version = root.version } ∷ []), reply.Pinned root.version)

-- the pin of a stream is taken off, where it has one
abbrev pub unpinned : Root → ℕ → Option ℕ → Root × Reply
unpinned root stream None = (root, reply.Refused NoPin)
unpinned root stream (Some v) =
    (with_pins root (filter (λ p. not (p.stream == stream)) root.pins), reply.Unpinned v)

-- ---- migrate and sweep

-- the root with other rows
abbrev pub with_rows : Root → List Row → Root
with_rows root rows = record {
  version = root.version;
  older = root.older;
  current = root.current;
  pins = root.pins;
  shards = root.shards;
  rows = rows;
}

-- a row of a shard that carries another epoch than the current one
abbrev pub is_behind_in : Root → ℕ → Row → Bool
is_behind_in root i r = stands_in root.shards i r && is_behind root.current.id r

-- the first n of these move to the current epoch
abbrev pub migrated : Root → ℕ → ℕ → Root
migrated root i n =
    with_rows root (ordered row_cmp
    (change_first n (is_behind_in root i) (renumbered (epochs root) root.current) root.rows))

-- how many rows carry another epoch than the current one
abbrev pub behind : Root → ℕ
behind root = count (is_behind root.current.id) root.rows

-- the pinned versions
abbrev pub pinned_versions : Root → List ℕ
pinned_versions root = map (λ p. p.version) root.pins

-- the least of a version and others
abbrev pub least : ℕ → List ℕ → ℕ
least v [] = v
least v (w ∷ versions) = min w (least v versions)

-- the horizon: the least of the current version and the pinned ones
abbrev pub horizon : Root → ℕ
horizon root = least root.version (pinned_versions root)

-- a row of a shard that ends by the horizon
abbrev pub is_over_in : Root → ℕ → Row → Bool
is_over_in root i r = stands_in root.shards i r && is_over (horizon root) r

-- the first n of these are dropped
abbrev pub swept : Root → ℕ → ℕ → Root
swept root i n = with_rows root (drop_first n (is_over_in root i) root.rows)

-- the same root where there is no such shard, else another one
abbrev pub in_shards : Root → ℕ → Root × Reply → Root × Reply
in_shards root i next = cond (nat_lt i root.shards) next (root, reply.Refused (NoShard i))

-- ---- reclaim

-- an epoch that no row carries and that covers no pinned version
abbrev pub is_dead_in : Root → Epoch → Bool
is_dead_in root e = is_dead (epochs root) (pinned_versions root) (rows_in root e) e

-- the root without these; the current epoch stays
abbrev pub reclaimed : Root → Root
reclaimed root = record {
  version = root.version;
  older = filter (λ e. not (is_dead_in root e)) root.older;
  current = root.current;
  pins = root.pins;
  shards = root.shards;
  rows = root.rows;
}

-- ---- look

-- what a look shows
abbrev pub looked : Root → ℕ → Reply
looked root n = reply.Looked (record {
  version = root.version;
  epoch = root.current.id;
  epochs = length (epochs root);
  kept = length root.rows;
  visible = count (visible root.version) root.rows;
  behind = behind root;
  classes = root.current.classes;
  roles = root.current.roles;
  rows = take n (filter (visible root.version) root.rows);
})

-- ---- each event

-- the next root and the reply to a stream
abbrev pub next : Numbering → Root → ℕ → Event → Root × Reply
next numbering root stream (event.Commit edits) =
    let after = committed numbering root edits in
    refused_or root (commit_refused root edits) (after, reply.Committed after.version after.current.id)
next numbering root stream event.Pin = pinned root stream (pin_in root.pins stream)
next numbering root stream event.Unpin = unpinned root stream (pin_in root.pins stream)
next numbering root stream (event.Migrate i n) =
    let after = migrated root i n in
    in_shards root i (after, reply.Migrated (min n (count (is_behind_in root i) root.rows)) (behind after))
next numbering root stream (event.Sweep i n) =
    let after = swept root i n in
    let over = is_over_in root i in
    in_shards root i (after, reply.Swept (min n (count over root.rows)) (count over after.rows))
next numbering root stream event.Reclaim =
    (reclaimed root, reply.Reclaimed (map (λ e. e.id) (filter (is_dead_in root) root.older)))
next numbering root stream (event.Look n) = (root, looked root n)

-- ---- the condition of a step

-- the version has room for one more
abbrev pub IsReady : Root → Type 0
IsReady root = root.version ≤ max_version

-- the version has room for one more, and no axiom has an auxiliary role
abbrev pub MeetsCondition : Root → Event → Type 0
MeetsCondition root e = IsReady root × EventHasNoAuxiliary e
