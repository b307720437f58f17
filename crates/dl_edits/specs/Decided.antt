-- What edits say of a fact, and which of them are of axioms. That is this project's own.
use Rattle.std.specs.Prelude.{◌≡◌, Bool, true, false, cond, List, [], ◌∷◌, IsTrue}
use Rattle.std.specs.List.{list_any}
use Rattle.std.specs.declared.option.Option.{Option}
use Rattle.std.specs.declared.option.Option.TheVariants.{Some}
use Rattle.dl_terms.specs.declared.axiom.Fact.{Fact}
use Rattle.dl_edits.specs.Edits.{names_fact, decided}
use Rattle.dl_event.specs.declared.event.Item.{Item}
use Rattle.dl_event.specs.declared.event.Item.TheVariants as item
use Rattle.dl_event.specs.declared.event.Edit.{Edit}

-- some edit names the fact, and the last one that does says whether it is there, whatever was before
pub record Decide (edits : List Edit) (f : Fact) (there : Bool) : Type 0 where
  pub named : IsTrue (list_any (λ e. names_fact f e.item) edits)
  pub last : (before : Bool) → decided edits f before ≡ there

-- what the last edit that names a fact says of it, after what was said before
abbrev pub said : List Edit → Fact → Option Bool → Option Bool
said [] f before = before
said (e ∷ edits) f before = said edits f (cond (names_fact f e.item) (Some e.add) before)

abbrev pub is_axiom : Item → Bool
is_axiom (item.Axiom a) = true
is_axiom (item.Fact f) = false
is_axiom (item.Class c) = false
is_axiom (item.Property p) = false
