-- What readers stand for, and what they read.
use Rattle.std.proofs.Common.{◌≡◌, ℕ, List, Some, sym, ap, subst, ◌∙◌}
use Rattle.dl_core.specs.History.{Load, Entry, axioms_at, facts_at, signature_at}
use Rattle.dl_core.specs.Root.{Root, IsLoad, IsLive, ReadsAs, epochs, pin_in}
use Rattle.dl_core.specs.Next.{Numbering, IsNumbering}
use Rattle.dl_core.specs.Legal.{IsLegal, root_of, Reader, ReaderStandsFor, plain_reader}
use Rattle.dl_core.proofs.ReadLemmas.{pin_there}
use Rattle.dl_core.proofs.RunLemmas.{legal_stands}

-- the plain reader of a root stands for each list of entries whose root it is
pub plain_stands : (root : Root) (stream at : ℕ) (numbering : Numbering) (l : Load) (seen : List Entry) → IsNumbering numbering → IsLoad l → IsLegal numbering l seen
    → root ≡ root_of numbering l seen → ReaderStandsFor numbering l seen (plain_reader root stream at)
plain_stands root stream at numbering l seen numbers load legal is = record {
  legal = legal;
  root = is;
  pin = ap (λ (r : Root). pin_in r.pins stream) is ∙ (legal_stands numbering l seen numbers load legal).pins.are stream;
}

-- a reader with a pin reads what the pinned version has
pub reader_reads : (numbering : Numbering) (l : Load) (seen : List Entry) (reader : Reader) (v : ℕ) → IsNumbering numbering → IsLoad l
    → ReaderStandsFor numbering l seen reader → reader.pin ≡ Some v
    → ReadsAs (epochs reader.root) reader.root.rows v (axioms_at l seen v) (signature_at l seen v) (facts_at l seen v)
reader_reads numbering l seen reader v numbers load s pin =
    let now = legal_stands numbering l seen numbers load s.legal in
    let p = pin_there (root_of numbering l seen).pins reader.stream v (now.pins.are reader.stream ∙ sym s.pin ∙ pin) in
    subst (λ (r : Root). ReadsAs (epochs r) r.rows v (axioms_at l seen v) (signature_at l seen v) (facts_at l seen v)) (sym s.root)
    (now.reads v (IsLive.pinned p.0 p.1 p.2))
