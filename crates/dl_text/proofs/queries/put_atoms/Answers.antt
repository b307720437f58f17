use Rattle.std.proofs.Common.{arith, refl}
use Rattle.std.specs.List.{enumerate_from}
use Rattle.std.proofs.lemmas.List.FromFn.{length-enumerate_from}
use Rattle.dl_io.proofs.PrintLemmas.{prints_as, prints_none, prints_next, prints_next_failed, prints_whole}
use Rattle.dl_terms.specs.declared.query.Atom.TheVariants as atom
use Rattle.dl_terms.specs.declared.query.Term.TheVariants.{Var}
use Rattle.dl_text.specs.QueryText.{atom_text}
use Rattle.dl_text.proofs.LineLemmas.{item_behind, items_printed, within_numbered, item_next}
use Rattle.dl_text.proofs.queries.put_atoms.Goals as goal

pub loop-i-init : goal.loop-i-init
loop-i-init g c = prints_none _

pub returns-in_err-put_atom : goal.returns-in_err-put_atom
returns-in_err-put_atom g c =
    let atoms = c.args.atoms.now in
    let text = atom_text c.args.names.now in
    prints_as (items_printed text atoms)
    (prints_next_failed (item_behind text) (enumerate_from 0 atoms) c.loop-i.i (0, _) (within_numbered (item_behind text) 0 atoms c.loop-i.i (0, atom.Is 0 (Var 0)) c.loop-i-test.true)
    c.from_residual.ensures.0 (item_next text atoms c.loop-i.i _ _ c.separator.result.now c.loop-i-test.true c.separator.ensures refl) c.loop-i.invariant c.in_err-put_atom.ensures)

pub loop-i-preserved : goal.loop-i-preserved
loop-i-preserved g c =
    let atoms = c.args.atoms.now in
    let text = atom_text c.args.names.now in
    prints_next (item_behind text) (enumerate_from 0 atoms) c.loop-i.i (0, _) (within_numbered (item_behind text) 0 atoms c.loop-i.i (0, atom.Is 0 (Var 0)) c.loop-i-test.true)
    (item_next text atoms c.loop-i.i _ _ c.separator.result.now c.loop-i-test.true c.separator.ensures refl) c.loop-i.invariant c.in_ok-put_atom.ensures

pub returns : goal.returns
returns g c =
    let atoms = c.args.atoms.now in
    let text = atom_text c.args.names.now in
    prints_as (items_printed text atoms)
    (prints_whole (item_behind text) (enumerate_from 0 atoms) c.loop-i.i (omega (arith, length-enumerate_from 0 atoms, c.loop-i-test.false)) c.loop-i.invariant)
