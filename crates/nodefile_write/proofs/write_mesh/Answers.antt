use Rattle.std.proofs.Common.{length, ap, ◌∙◌, arith}
use Rattle.std.proofs.lemmas.List.{length-take, length-drop}
use Rattle.mesh.specs.Start.{over}
use Rattle.nodefile.specs.Write.{node_count, file_of, header_of}
use Rattle.nodefile.proofs.Answers.{nodes_part}
use Rattle.nodefile_write.proofs.write_mesh.Goals as goal

pub write_file-requires : goal.write_file-requires
unfolding header_of node_count
write_file-requires c =
    let h = c.requires in
    record {
      few = omega (arith, h.points≤);
      nodes_here = simp (length-take, length-drop) (omega (arith, h.points≥, h.points_fit));
      room≥ = h.room≥;
    }

pub returns : goal.returns
unfolding header_of node_count
returns c =
    let w = c.write_file.ensures in
    let m = c.args.mesh in
    let e = nodes_part m c.args.points.now in
    (w.0 ∙ ap (λ ns. length (file_of (header_of m) ns)) e, w.1 ∙ ap (λ ns. over (file_of (header_of m) ns) c.args.out.now) e)
