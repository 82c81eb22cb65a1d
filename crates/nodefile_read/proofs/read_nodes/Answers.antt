use Rattle.std.proofs.Common.{◌≡◌, ◌∙◌, ◌*◌, sym, ap, refl, length-take, arith}
use Rattle.refusal.proofs.Numbers.{handed-on, number-positive}
use Rattle.nodefile.specs.declared.Header.{Header}
use Rattle.nodefile.specs.Read.{trailer, header, distance}
use Rattle.nodefile.proofs.Answers.{accepted, read_refused, read_accepted}
use Rattle.nodefile_read.proofs.read_nodes.Goals as goal

pub returns-in_err-header : goal.returns-in_err-header
returns-in_err-header c =
    let e = c.in_err-header.ensures.refused in
    rw (handed-on _ c.from_residual.ensures.1)
    (read_refused _ _ e (λ z. absurd (omega (arith, number-positive c.in_err-header.field-0.0, z))))

pub overflow_sub-end : goal.overflow_sub-end
overflow_sub-end c = (accepted _ _ (sym c.in_ok-header.ensures.refused)).long

pub overflow_sub-start : goal.overflow_sub-start
overflow_sub-start c =
    let h = c.in_ok-header.ensures in
    let a = accepted _ _ (sym h.refused) in
    rw h.read (omega (arith, a.distance_is, a.within))

pub read_numbers-requires : goal.read_numbers-requires
read_numbers-requires c =
    let h = c.in_ok-header.ensures in
    let a = accepted _ _ (sym h.refused) in
    rw h.read (simp length-take (omega (arith, a.distance_is, a.within, a.room≥)))

pub returns : goal.returns
unfolding header distance
returns c =
    let h = c.in_ok-header.ensures in
    let a = accepted _ _ (sym h.refused) in
    let d : 12 * c.in_ok-header.header.count ≡ distance c.args.file.now = ap (λ (k : Header). 12 * k.count) h.read ∙ sym a.distance_is in
    let o = rw d at c.read_numbers.ensures in
    rw h.read (read_accepted c.args.file.now c.args.nodes.now h.refused refl {fields = trailer c.args.file.now} refl o)
