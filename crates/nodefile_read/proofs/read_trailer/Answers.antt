use Rattle.std.proofs.Common.{◌≡◌, ◌∙◌, ap, List, ℕ, get_or, arith}
use Rattle.nodefile.specs.declared.Header.{Header}
use Rattle.nodefile.specs.Read.{trailer, header, distance}
use Rattle.nodefile.proofs.Answers.{whole_trailer}
use Rattle.nodefile_read.proofs.read_trailer.Goals as goal

header_of : List ℕ → Header
header_of l = record { x = get_or l 0 0; y = get_or l 1 0; z = get_or l 2 0; count = get_or l 3 0 }

pub returns : goal.returns
unfolding header distance header_of
returns c =
    let t : c.read_numbers.new.numbers ≡ trailer c.args.file.now = c.read_numbers.ensures ∙ whole_trailer c.args.file.now _ c.requires (omega arith) in
    (ap header_of t, ap (λ (l : List ℕ). get_or l 4 0) t)
