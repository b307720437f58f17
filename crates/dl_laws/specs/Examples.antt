-- The loads and events of the worked examples. Numbers stand for names, in the order of their bytes.
use Rattle.std.specs.Prelude.{ℕ, true, false, List, [], ◌∷◌}
use Rattle.dl_terms.specs.declared.role.Basic.TheVariants as basic
use Rattle.dl_terms.specs.declared.axiom.Part.TheVariants as part
use Rattle.dl_terms.specs.declared.axiom.Axiom.{Axiom}
use Rattle.dl_terms.specs.declared.axiom.Axiom.TheVariants.{SubClass}
use Rattle.dl_terms.specs.declared.axiom.Fact.TheVariants.{Is}
use Rattle.dl_row.specs.Rows.{open_end}
use Rattle.dl_row.specs.declared.row.Row.{Row}
use Rattle.dl_row.specs.declared.row.Kind.TheVariants as kind
use Rattle.dl_core.specs.History.{Load}
use Rattle.dl_core.specs.Root.{Root}
use Rattle.dl_core.specs.Next.{Numbering, next}
use Rattle.dl_event.specs.declared.event.Item.TheVariants as item
use Rattle.dl_event.specs.declared.event.Edit.{Edit}
use Rattle.dl_event.specs.declared.event.Event.{Event}
use Rattle.dl_event.specs.declared.event.Event.TheVariants.{Commit, Pin, Unpin, Migrate, Sweep, Reclaim, Look}
use Rattle.dl_event.specs.declared.reply.Reply.{Reply}

-- the replies to some events of stream 1
abbrev pub replies : Numbering → Root → List Event → List Reply
replies numbering root [] = []
replies numbering root (e ∷ events) =
    (next numbering root 1 e).1 ∷ replies numbering (next numbering root 1 e).0 events

-- the classes A and B, and the individual a
abbrev pub class_a : ℕ
class_a = 0

abbrev pub class_b : ℕ
class_b = 1

abbrev pub name_a : ℕ
name_a = 2

-- SubClassOf(A B)
abbrev pub a_below_b : Axiom
a_below_b = SubClass (basic.Class class_a) (part.Class class_b ∷ [])

-- SubClassOf(A B), with A(a)
abbrev pub a_is_an_a : Load
a_is_an_a =
    record {
      axioms = a_below_b ∷ [];
      signature = record { classes = class_a ∷ class_b ∷ []; roles = [] };
      facts = Is class_a name_a ∷ [];
      shards = 1;
    }

-- no axioms, and A(a)
abbrev pub only_a_fact : Load
only_a_fact =
    record {
      axioms = [];
      signature = record { classes = class_a ∷ []; roles = [] };
      facts = Is class_a name_a ∷ [];
      shards = 1;
    }

abbrev pub remove_axiom : Edit
remove_axiom = record { add = false; item = item.Axiom a_below_b }

abbrev pub add_a : Edit
add_a = record { add = true; item = item.Fact (Is class_a name_a) }

abbrev pub remove_a : Edit
remove_a = record { add = false; item = item.Fact (Is class_a name_a) }

-- a pin, a commit that removes the axiom, and the pin anew
abbrev pub pin_again : List Event
pin_again = Pin ∷ Commit (remove_axiom ∷ []) ∷ Unpin ∷ Pin ∷ []

-- a fact removed and added in one commit, and in two
abbrev pub remove_and_add : List Event
remove_and_add =
    Commit (remove_a ∷ add_a ∷ []) ∷ Look 10
    ∷ Commit (remove_a ∷ []) ∷ Commit (add_a ∷ []) ∷ Look 10 ∷ []

-- SubClassOf(B C), with a later name for C
abbrev pub b_below_c : Axiom
b_below_c = SubClass (basic.Class class_b) (part.Class 3 ∷ [])

-- an epoch that a pin keeps, and that is reclaimed without it
abbrev pub migrate_and_reclaim : List Event
migrate_and_reclaim =
    Pin ∷ Commit (record { add = true; item = item.Axiom b_below_c } ∷ []) ∷ Migrate 0 10
    ∷ Reclaim ∷ Unpin ∷ Reclaim ∷ Reclaim ∷ []

-- a row that a pin keeps, and that is swept without it
abbrev pub pin_and_sweep : List Event
pin_and_sweep = Pin ∷ Commit (remove_a ∷ []) ∷ Sweep 0 10 ∷ Unpin ∷ Sweep 0 10 ∷ []

-- shards that aren't there
abbrev pub no_such_shard : List Event
no_such_shard = Migrate 2 5 ∷ Sweep 9 1 ∷ []

-- events that are refused, and one that isn't
abbrev pub refused_events : List Event
refused_events = Unpin ∷ Pin ∷ Pin ∷ []

-- the row of A(a), from a version on
abbrev pub row_of_a : ℕ → Row
row_of_a first =
    record {
      kind = kind.Class;
      number = 1;
      epoch = 1;
      s = name_a;
      o = name_a;
      first = first;
      last = open_end;
    }

-- a root that has the row of A(a) twice
abbrev pub twice_a : Root
twice_a =
    record {
      version = 1;
      older = [];
      current =
          record {
            id = 1;
            first = 1;
            axioms = [];
            signature = only_a_fact.signature;
            classes = class_a ∷ [];
            roles = [];
          };
      pins = [];
      shards = 1;
      rows = row_of_a 1 ∷ row_of_a 1 ∷ [];
    }
