-- What a commit is made of: the ontology after its edits, and the facts that come and go. This is this project's own.
use Rattle.std.specs.Prelude.{◌≡◌, ℕ, ◌+◌, ◌<◌, ◌≤◌, Bool, ◌&&◌, cond, nat_le, nat_lt, List, [], ◌∷◌, ◌++◌, map, length, slice_index_or}
use Rattle.std.specs.List.{All}
use Rattle.std.specs.declared.option.Option.{Option}
use Rattle.std.specs.declared.option.Option.TheVariants.{Some, None}
use Rattle.std.specs.List.Sorted.{IsStrictlySortedBy}
use Rattle.dl_terms.specs.Auxiliaries.{HasNoAuxiliary}
use Rattle.dl_terms.specs.Order.{axiom_cmp}
use Rattle.dl_terms.specs.declared.axiom.Fact.{Fact}
use Rattle.dl_normal.specs.Weight.{total_weight}
use Rattle.dl_row.specs.Lists.{ordered}
use Rattle.dl_row.specs.Rows.{row_cmp}
use Rattle.dl_row.specs.declared.row.Row.{Row}
use Rattle.dl_epoch.specs.Known.{IsSignature, IsAxiomIn, ArePredicatesFew, max_weight}
use Rattle.dl_epoch.specs.Frozen.{IsFrozen}
use Rattle.dl_epoch.specs.Covering.{Kept, epoch_in}
use Rattle.dl_row.specs.Shards.{max_rows}
use Rattle.dl_core.specs.Root.{Root, epochs, shard, max_epochs}
use Rattle.dl_edits.specs.Edits.{edited_axioms, edited_signature, edited_facts}
use Rattle.dl_core.specs.Next.{opens, root_facts, new_facts, ended, commit_refused}
use Rattle.dl_event.specs.Auxiliaries.{ItemHasNoAuxiliary}
use Rattle.dl_core.specs.Held.{CountsRows}
use Rattle.dl_core.specs.Changes.{AreGone}
use Rattle.dl_event.specs.declared.event.Edit.{Edit}
use Rattle.dl_event.specs.declared.reply.Refusal.{Refusal}
use Rattle.dl_event.specs.declared.reply.Refusal.TheVariants.{TooManyEpochs, Full}
use Rattle.dl_core.specs.declared.ontology.Ontology.{Ontology}

-- the ontology after some edits, and whether it is another one
pub record IsEdited (root : Root) (edits : List Edit) (e : Ontology) : Type 0 where
  pub axioms : e.axioms ≡ edited_axioms edits root.current.axioms
  pub signature : e.signature ≡ edited_signature edits root.current.signature
  pub opens : e.opens ≡ opens root edits

-- the facts that weren't there before some edits
abbrev pub added : Root → List Edit → List Fact
added root edits = new_facts (root_facts root) (edited_facts edits (root_facts root))

-- edits that are accepted lead to this ontology
pub record IsAccepted (root : Root) (e : Ontology) : Type 0 where
  pub edits : List Edit
  pub edited : IsEdited root edits e
  pub plain : All (λ x. ItemHasNoAuxiliary x.item) edits
  pub accepted : commit_refused root edits ≡ None

-- and bring and take away these facts
pub record IsCommit (root : Root) (e : Ontology) (new gone : List Fact) : Type 0 where
  pub to : IsAccepted root e
  pub new_are : new ≡ added root to.edits
  pub gone_are : AreGone root (edited_facts to.edits (root_facts root)) gone

-- shards after a commit, so many of them: the rows of facts that are gone end at a version, and new ones come
pub record AreShardsAfter (root : Root) (gone : List Fact) (new : List (List Row)) (version count : ℕ)
    (shards : List (List Row)) : Type 0 where
  pub as_many : length shards ≡ count
  pub each : (after : List Fact) → AreGone root after gone → (i : ℕ) → i < count → slice_index_or shards i []
      ≡ ordered row_cmp (map (ended (epochs root) after version) (shard root i) ++ slice_index_or new i [])

-- the entries of older epochs after a commit, and then the current one
pub record AreEntriesAfter (root : Root) (opened : Bool) (current : Kept) (entries : List Kept) : Type 0 where
  pub older : List Kept
  pub are : entries ≡ older ++ current ∷ []
  pub epochs : map epoch_in older ≡ cond opened (epochs root) root.older
  pub counts : All (CountsRows root) older
  pub frozen : All (λ k. IsFrozen k.epoch) older

-- why there is no room for one more epoch, if one opens, and for new rows: the last two causes of a refusal
abbrev pub unfit : Root → Bool → ℕ → Option Refusal
unfit root opened new =
    cond (opened && nat_le max_epochs (length (epochs root))) (Some (TooManyEpochs (length (epochs root))))
    (cond (nat_lt max_rows (length root.rows + new)) (Some (Full (length root.rows) new)) None)

-- what an epoch needs to be built
pub record IsBuildable (e : Ontology) : Type 0 where
  pub ascending : IsStrictlySortedBy axiom_cmp e.axioms
  pub plain : All HasNoAuxiliary e.axioms
  pub known : All (IsAxiomIn e.signature) e.axioms
  pub signature : IsSignature e.signature
  pub weight : total_weight e.axioms ≤ max_weight
  pub few : ArePredicatesFew e.signature e.axioms

-- the entry of a new epoch
pub record IsNewEntry (id first : ℕ) (e : Ontology) (rows : ℕ) (k : Kept) : Type 0 where
  pub id_is : k.epoch.id ≡ id
  pub axioms : k.epoch.axioms ≡ e.axioms
  pub signature : k.epoch.signature ≡ e.signature
  pub frozen : IsFrozen k.epoch
  pub first_is : k.first ≡ first
  pub rows_are : k.rows ≡ rows
