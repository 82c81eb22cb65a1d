use Rattle.std.proofs.Common.{refl, sym}
use Rattle.std.proofs.lemmas.List.{length-take-le}
use Rattle.lines.proofs.Answering.{bytes_within}
use Rattle.listing.proofs.main.Goals as goal

-- the listing's bytes are of the output
pub slice_bounds-out-end : goal.slice_bounds-out-end
slice_bounds-out-end c = bytes_within c.in-Ok.ensures refl

pub slice_bounds-write_all-end : goal.slice_bounds-write_all-end
slice_bounds-write_all-end c = sym (length-take-le _ _ (bytes_within c.in-Ok.ensures refl))
