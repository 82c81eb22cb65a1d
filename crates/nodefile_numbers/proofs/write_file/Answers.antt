use Rattle.std.proofs.Common.{sym}
use Rattle.nodefile.specs.Write.{trailer_of}
use Rattle.nodefile.proofs.Answers.{file_length, file_written}
use Rattle.nodefile_numbers.proofs.write_file.Goals as goal

pub returns : goal.returns
unfolding trailer_of
returns c =
    let h = c.args.head in
    let ns = c.args.nodes.now in
    (sym (file_length h ns c.requires.nodes_here), file_written h ns c.requires.nodes_here c.args.out.now c.write_numbers.ensures c.write_numbers-2.ensures)
