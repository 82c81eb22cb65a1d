-- What test 8 finds: a replacement that has room, or one that has none.
use Rattle.std.specs.Prelude.{Result, Ok, Err}
use Rattle.insertion.specs.declared.Replacement.{Replacement}
use Rattle.insertion.specs.Inner.{Found, found_of}

abbrev pub room_found : Result Replacement Replacement → Found
room_found (Ok r) = found_of r
room_found (Err r) = record { refusal = 8; extent = r.extent; made = r.made }
