-- The generated input: an ontology, facts and one stream, made from a number and a size. It is this project's own. The
-- draws are a linear congruential generator modulo 2^64 with the constants of Knuth's MMIX (The Art of Computer
-- Programming, volume 2).
use Rattle.std.specs.Prelude.{ℕ, zero, suc, ◌+◌, ◌-◌, ◌*◌, ◌/◌, ◌%◌, ◌^◌, ◌==◌, nat_lt, true, false, List, [], ◌∷◌, ◌++◌, map, if◌then◌else◌}
use Rattle.std.specs.List.{range_with_len}
use Rattle.dl_names.specs.NameList.{Text}
use Rattle.dl_terms.specs.Roles.{named}
use Rattle.dl_terms.specs.declared.role.Basic.TheVariants as basic
use Rattle.dl_terms.specs.declared.axiom.Part.TheVariants as part
use Rattle.dl_terms.specs.declared.axiom.Axiom.{Axiom}
use Rattle.dl_terms.specs.declared.axiom.Axiom.TheVariants.{SubClass, SubRole, Domain}
use Rattle.dl_terms.specs.declared.axiom.Fact.{Fact}
use Rattle.dl_terms.specs.declared.axiom.Fact.TheVariants as fact
use Rattle.dl_terms.specs.declared.query.Term.TheVariants.{Var}
use Rattle.dl_terms.specs.declared.query.Atom.TheVariants as atom
use Rattle.dl_terms.specs.declared.query.Query.{Query}
use Rattle.dl_event.specs.declared.event.Edit.{Edit}
use Rattle.dl_event.specs.declared.event.Item.TheVariants as item
use Rattle.dl_event.specs.declared.event.Event.TheVariants.{Commit, Pin, Unpin, Migrate, Sweep, Reclaim}
use Rattle.dl_stream.specs.declared.streams.Command.{Command}
use Rattle.dl_stream.specs.declared.streams.Command.TheVariants.{Put, Ask}
use Rattle.dl_stream.specs.declared.streams.Streams.{Streams}

-- ---- draws

-- the state after a draw
unfoldable pub next_state : ℕ → ℕ
next_state x = (x * 6364136223846793005 + 1442695040888963407) % 2 ^ 64

-- what a draw that leaves this state gives below k
unfoldable pub drawn : ℕ → ℕ → ℕ
drawn k x = (x / 2 ^ 33) % k

-- ---- names

-- the last so many decimal digits of a number
unfoldable pub digits : ℕ → ℕ → Text
digits zero n = []
digits (suc width) n = digits width (n / 10) ++ (48 + n % 10) ∷ []

-- names by number, in byte order: the classes c00 to c31, an individual n with six digits for each number below the
-- size, and the roles p0 to p7
unfoldable pub name_text : ℕ → ℕ → Text
name_text size n =
    if nat_lt n 32 then 99 ∷ digits 2 n
    else if nat_lt n (32 + size) then 110 ∷ digits 6 (n - 32)
    else 112 ∷ digits 1 (n - (32 + size))

abbrev pub name_texts : ℕ → List Text
name_texts size = map (name_text size) (range_with_len 0 (40 + size))

-- the number of an individual, and that of a role; a class has its own
abbrev pub individual : ℕ → ℕ
individual k = 32 + k

-- c(i) is below c(i div 2)
abbrev pub class_below : ℕ → Axiom
class_below i = SubClass (basic.Class i) (part.Class (i / 2) ∷ [])

-- c01 is no longer below c00, and c31 is
abbrev pub generated_edits : List Edit
generated_edits =
    record { add = false; item = item.Axiom (SubClass (basic.Class 1) (part.Class 0 ∷ [])) }
    ∷ record { add = true; item = item.Axiom (SubClass (basic.Class 31) (part.Class 0 ∷ [])) } ∷ []

module _ (size : ℕ) where
  abbrev pub role : ℕ → ℕ
  role j = 32 + size + j

  -- ---- the ontology

  -- p(j) is below p(j div 2)
  abbrev pub role_below : ℕ → Axiom
  role_below j = SubRole (named (role j)) (named (role (j / 2)))

  -- each c(4j) has a p(j) that is a c(4j + 1)
  abbrev pub class_filled : ℕ → Axiom
  class_filled j = SubClass (basic.Class (4 * j)) (part.Fill (named (role j)) (4 * j + 1) ∷ [])

  -- whatever has a p0 is a c03
  abbrev pub first_domain : Axiom
  first_domain = Domain (named (role 0)) (part.Class 3 ∷ [])

  abbrev pub generated_axioms : List Axiom
  generated_axioms =
      map class_below (range_with_len 1 31) ++ map role_below (range_with_len 1 7)
      ++ map class_filled (range_with_len 0 8) ++ first_domain ∷ []

  -- ---- the facts

  -- the fact that is drawn from a state on: a class and an individual, or a role and two individuals
  unfoldable pub drawn_fact : ℕ → Fact
  drawn_fact x =
      let one = next_state x in
      let two = next_state one in
      let three = next_state two in
      if drawn 2 one == 0 then fact.Is (drawn 32 two) (individual (drawn size three))
      else fact.Link (role (drawn 8 two)) (individual (drawn size three)) (individual (drawn size (next_state three)))

  -- the state behind it
  unfoldable pub behind_fact : ℕ → ℕ
  behind_fact x =
      let three = next_state (next_state (next_state x)) in
      if drawn 2 (next_state x) == 0 then three else next_state three

  -- so many facts, in the order of the draws
  abbrev pub drawn_facts : ℕ → ℕ → List Fact
  drawn_facts x zero = []
  drawn_facts x (suc n) = drawn_fact x ∷ drawn_facts (behind_fact x) n

  -- ---- the stream

  -- q(?x) :- c00(?x), p0(?x, ?y)
  abbrev pub generated_query : Query
  generated_query = record {
    head = 0 ∷ [];
    atoms = atom.Is 0 (Var 0) ∷ atom.Link (role 0) (Var 0) (Var 1) ∷ [];
    vars = 2;
  }

  abbrev pub ask : Command
  ask = Ask generated_query 1000000

  abbrev pub migrate : ℕ → Command
  migrate shard = Put (Migrate shard size)

  abbrev pub sweep : ℕ → Command
  sweep shard = Put (Sweep shard size)

  abbrev pub generated_commands : List Command
  generated_commands =
      Put Pin ∷ ask ∷ Put (Commit generated_edits)
      ∷ migrate 0 ∷ migrate 1 ∷ migrate 2 ∷ migrate 3
      ∷ ask ∷ Put Unpin ∷ Put Pin ∷ ask ∷ Put Unpin
      ∷ sweep 0 ∷ sweep 1 ∷ sweep 2 ∷ sweep 3 ∷ Put Reclaim ∷ []

  abbrev pub generated_streams : Streams
  generated_streams = record { lists = generated_commands ∷ [] }
