use Rattle.corrections_value.proofs.Words.{volumes₂_fit, volumes₃_fit, volumes₄_fit, volumes_added}
use Rattle.corrections_value.proofs.cell_volume.Statement.{statement}
use Rattle.corrections_value.proofs.cell_volume.Tie as tie

add-result : tie.Need-overflow_add-result
add-result c = volumes₂_fit c.args.v c.requires

add-result-2 : tie.Need-overflow_add-result-2
add-result-2 c = volumes₃_fit c.args.v c.requires

add-result-3 : tie.Need-overflow_add-result-3
add-result-3 c = volumes₄_fit c.args.v c.requires

returns : tie.Need-returns
returns c = volumes_added c.args.v c.requires

pub cell_volume_spec : {M : Type 1} → statement M
cell_volume_spec = tie.close (tie.spec add-result add-result-2 add-result-3 returns)
