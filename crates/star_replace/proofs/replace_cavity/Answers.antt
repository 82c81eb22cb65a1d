use Rattle.star.proofs.Replaced.{point_room_lem, listed_size, listed_has, star_replaced, chain_replaced}
use Rattle.star_replace.proofs.replace_cavity.Goals as goal

pub free_cells-chain-requires : goal.free_cells-chain-requires
free_cells-chain-requires c =
    let b = c.requires in
    (listed_size b, listed_has b (c.star_faces.ensures b.starring))

pub put_point-requires : goal.put_point-requires
put_point-requires c = point_room_lem c.requires

pub returns : goal.returns
returns c b =
    let f = c.free_cells-chain.ensures _ _ b.rising in
    (star_replaced b (c.star_faces.ensures b.starring) f.0 f.1 c.put_point.ensures, chain_replaced b f.2)
