use Rattle.std.proofs.Common.{◌≡◌, ◌++◌, ℤ, pos, length, take, drop, replicate, refl, ap, sym, ◌∙◌, arith, rules}
use lib.ListN.{length-take}
use Rattle.refusal.proofs.Numbers.{handed-on}
use Rattle.corrections.specs.Calls.{corners_cleared}
use Rattle.corrections.proofs.Starting.{start_short, start_refused, corners_lent, start_accepted}
use Rattle.corrections_start.proofs.start.Goals as goal

pub returns-then-too_short : goal.returns-then-too_short
returns-then-too_short c = start_short _ _ _ _ _ _ (sym (c.too_short.ensures _ _) ∙ c.if-too_short.true) c.clear.ensures

pub returns-in_err-mesh : goal.returns-in_err-mesh
returns-in_err-mesh c =
    rw (handed-on _ c.from_residual.ensures.1)
    (start_refused _ _ _ _ _ _ (sym (c.too_short.ensures _ _) ∙ c.if-too_short.false) refl c.in_err-mesh.ensures)

pub slice_bounds-fill-end : goal.slice_bounds-fill-end
slice_bounds-fill-end c =
    let h = corners_lent _ _ _ _ _ _ (sym (c.too_short.ensures _ _) ∙ c.if-too_short.false) refl c.in_ok-mesh.ensures in
    search rules

pub slice_bounds-fill-end-2 : goal.slice_bounds-fill-end-2
slice_bounds-fill-end-2 c =
    let h = corners_lent _ _ _ _ _ _ (sym (c.too_short.ensures _ _) ∙ c.if-too_short.false) refl c.in_ok-mesh.ensures in
    search rules

pub returns : goal.returns
unfolding corners_cleared
returns c =
    let s = sym (c.too_short.ensures _ _) ∙ c.if-too_short.false in
    let h = corners_lent _ _ _ _ _ _ s refl c.in_ok-mesh.ensures in
    let front : length (take 24 c.args.corrections.now) ≡ 24 = omega (arith, length-take {A = ℤ}, h) in
    let filled : c.fill.new.self ≡ replicate 24 (pos 0) = c.fill.ensures.after (λ _ e. e) ∙ ap (λ n. replicate n (pos 0)) front in
    let L = start_accepted _ _ _ _ _ _ s refl c.in_ok-mesh.ensures in
    record { answer = L.answer; tables = L.tables; corrections = ap (λ l. l ++ drop 24 c.args.corrections.now) filled ∙ L.corrections; work = L.work }
