-- The atoms of a negative put together are its query.
use Rattle.std.proofs.Common.{◌≡◌, ℕ, ◌+◌, true, [], ◌∷◌, Result, sym, ap, ◌∙◌}
use Rattle.std.specs.Result.{IfOk}
use Rattle.std.proofs.lemmas.Result.{IfOk-weaker}
use Rattle.dl_terms.specs.Broken.{turned_atom, role_name, role_atom, basic_atom, neighbours, query_of}
use Rattle.dl_terms.specs.declared.memory.NoMemory.{NoMemory}
use Rattle.dl_terms.specs.declared.role.Role.{Role}
use Rattle.dl_terms.specs.declared.role.Basic.{Basic}
use Rattle.dl_terms.specs.declared.role.Negative.{Negative}
use Rattle.dl_terms.specs.declared.role.Negative.TheVariants.{Basics, Roles, NoLoop}
use Rattle.dl_terms.specs.declared.query.Term.{Term}
use Rattle.dl_terms.specs.declared.query.Term.TheVariants.{Var}
use Rattle.dl_terms.specs.declared.query.Atom.{Atom}
use Rattle.dl_terms.specs.declared.query.Atom.TheVariants.{Link}
use Rattle.dl_terms.specs.declared.query.Query.{Query}

pub query-basics : (r : Result Query NoMemory) (n : Negative) (b c : Basic) (first second : Atom) (k l : ℕ) → n ≡ Basics b c → first ≡ basic_atom b 1
    → k ≡ neighbours b → second ≡ basic_atom c (1 + k) → l ≡ neighbours c
    → IfOk r (λ q. q ≡ record { head = []; atoms = first ∷ second ∷ []; vars = 1 + k + l }) → IfOk r (λ q. q ≡ query_of n)
query-basics r n b c first second k l is at one to two h =
    let next : second ≡ basic_atom c (1 + neighbours b) = to ∙ ap (λ k. basic_atom c (1 + k)) one in
    IfOk-weaker r (λ q. q ≡ record { head = []; atoms = first ∷ second ∷ []; vars = 1 + k + l }) (λ q. q ≡ query_of n)
    (λ q e. e ∙ (λ i. record { head = []; atoms = at i ∷ next i ∷ []; vars = 1 + one i + two i }) ∙ ap query_of (sym is)) h

pub query-roles : (r : Result Query NoMemory) (n : Negative) (t s : Role) (first second : Atom) → n ≡ Roles t s → first ≡ role_atom t (Var 0) (Var 1)
    → second ≡ role_atom s (Var 0) (Var 1) → IfOk r (λ q. q ≡ record { head = []; atoms = first ∷ second ∷ []; vars = 2 })
    → IfOk r (λ q. q ≡ query_of n)
query-roles r n t s first second is at to h =
    IfOk-weaker r (λ q. q ≡ record { head = []; atoms = first ∷ second ∷ []; vars = 2 }) (λ q. q ≡ query_of n)
    (λ q e. e ∙ (λ i. record { head = []; atoms = at i ∷ to i ∷ []; vars = 2 }) ∙ ap query_of (sym is)) h

pub query-loop : (r : Result Query NoMemory) (n : Negative) (t : Role) (only : Atom) → n ≡ NoLoop t → only ≡ role_atom t (Var 0) (Var 0)
    → IfOk r (λ q. q ≡ record { head = []; atoms = only ∷ []; vars = 1 }) → IfOk r (λ q. q ≡ query_of n)
query-loop r n t only is at h =
    IfOk-weaker r (λ q. q ≡ record { head = []; atoms = only ∷ []; vars = 1 }) (λ q. q ≡ query_of n)
    (λ q e. e ∙ (λ i. record { head = []; atoms = at i ∷ []; vars = 1 }) ∙ ap query_of (sym is)) h

-- an inverse has its terms turned
pub inverse-atom : (r : Role) (name : ℕ) (t u : Term) → r.inverse ≡ true → name ≡ role_name r.base → Link name u t ≡ role_atom r t u
inverse-atom r name t u turned same =
    ap (λ n. Link n u t) same ∙ ap (λ i. turned_atom i (role_name r.base) t u) (sym turned)
