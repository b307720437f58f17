-- Roles and basic concepts of DL-Lite_R (Calvanese, De Giacomo, Lembo, Lenzerini, Rosati: Tractable Reasoning and
-- Efficient Query Answering in Description Logics, 2007), with auxiliary roles, which are this project's own.
use Rattle.std.specs.Prelude.{ℕ, Bool, false, not}
use Rattle.dl_terms.specs.declared.role.Base.{Base}
use Rattle.dl_terms.specs.declared.role.Base.TheVariants.{Named, Auxiliary}
use Rattle.dl_terms.specs.declared.role.Role.{Role}

-- an object property as a role
abbrev pub named : ℕ → Role
named p = record { base = Named p; inverse = false }

-- the inverse of a role; that of an inverse is the role itself
abbrev pub inverse_of : Role → Role
inverse_of r = record { base = r.base; inverse = not r.inverse }

-- one new role for each pair of a role and a class; no axiom has an auxiliary role of an auxiliary role
abbrev pub auxiliary_base : Base → Bool → ℕ → Base
auxiliary_base (Named p) i c = Auxiliary p i c
auxiliary_base (Auxiliary p i c) j d = Auxiliary p i c

abbrev pub auxiliary_of : Role → ℕ → Role
auxiliary_of r c = record { base = auxiliary_base r.base r.inverse c; inverse = false }
