use Rattle.std.proofs.Common.{rules}
use Rattle.dl_io.specs.Files.{max_bytes}
use Rattle.dl_io.proofs.Pieces.{told_front_grows, told_longer}
use Rattle.dl_io.proofs.whole.read_whole.Goals as goal

pub loop-len-preserved : goal.loop-len-preserved
loop-len-preserved g c =
    let read = c.in_ok-n.ensures in
    let before = c.loop-len.invariant in
    record {
      within = search rules;
      front = told_front_grows _ _ c.args.name.now c.loop-len.buffer.items c.read_piece.new.buffer.items c.loop-len.len c.in_ok-n.n before.unchanged before.front read.front read.copied;
      unchanged = search rules;
      count = search rules;
    }

pub returns-clause-too_long : goal.returns-clause-too_long
returns-clause-too_long g c _ =
    let before = c.loop-len.invariant in
    told_longer _ c.args.name.now c.loop-len.buffer.items c.loop-len.len max_bytes (search rules) before.front c.loop-len-test.false
