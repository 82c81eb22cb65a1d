use Rattle.std.proofs.Common.{ℕ, ◌+◌, ◌≡◌, ◌≤◌, Bool, true, false, ◌&&◌, leb, refl, sym, subst, rules, arith}
use Rattle.std.proofs.lemmas.Grind.{common_steps}
use Rattle.std.proofs.lemmas.Bool.{eq-eqb, ne_eqb, leb-true, le-leb}
use Rattle.mesh.specs.Inner.Faces.{place_in, faces_back}
use Rattle.mesh.proofs.Numbers.{place≤}
use Rattle.mesh_faces.proofs.faces_back.Goals as goal

-- each place found is at most 8
small : {n : ℕ} (b : _) (v : ℕ) → n ≡ place_in b v → n ≤ 8
small {n} b v e = subst (λ n. n ≤ 8) (sym e) (place≤ b v)

pub overflow_add-sum : goal.overflow_add-sum
overflow_add-sum c = omega (arith, small _ _ c.place_in-p.ensures, small _ _ c.place_in-q.ensures)

pub overflow_add-sum-2 : goal.overflow_add-sum-2
overflow_add-sum-2 c = omega (arith, small _ _ c.place_in-p.ensures, small _ _ c.place_in-q.ensures, small _ _ c.place_in-r.ensures)

outside : (s : ℕ) (b : Bool) → (3 ≤ s → s ≤ 6 → ⊥) → false ≡ (leb 3 s && (leb s 6 && b))
outside s b h = go (leb 3 s) (leb s 6) refl refl
  where
    go : (x y : Bool) → leb 3 s ≡ x → leb s 6 ≡ y → false ≡ (x && (y && b))
    go true true f g = absurd (h (leb-true 3 s f) (leb-true s 6 g))
    go true false f g = refl
    go false y f g = refl

pub returns-then-not-contains : goal.returns-then-not-contains
unfolding faces_back
returns-then-not-contains c =
    let sum : ℕ = c.place_in-p.result + c.place_in-q.result + c.place_in-r.result in
    let told = rw (c.if-not-contains.true, c.new.ensures.start, c.new.ensures.end, c.new.ensures.exhausted) at c.contains.ensures.value in
    rw (← c.place_in-p.ensures, ← c.place_in-q.ensures, ← c.place_in-r.ensures)
    (outside sum _ (λ low high. grind (arith, common_steps, told)))

pub returns-then-from-face : goal.returns-then-from-face
unfolding faces_back
returns-then-from-face c =
    let sum : ℕ = c.place_in-p.result + c.place_in-q.result + c.place_in-r.result in
    let low : 3 ≤ sum = search rules in
    let high : sum ≤ 6 = search rules in
    rw (← c.place_in-p.ensures, ← c.place_in-q.ensures, ← c.place_in-r.ensures, le-leb 3 sum low, le-leb sum 6 high, ← c.from.ensures, eq-eqb c.from.result c.args.face.cell c.if-from-face.true)
    c.odd_order.ensures

pub returns-else-from-face : goal.returns-else-from-face
unfolding faces_back
returns-else-from-face c =
    let sum : ℕ = c.place_in-p.result + c.place_in-q.result + c.place_in-r.result in
    let low : 3 ≤ sum = search rules in
    let high : sum ≤ 6 = search rules in
    rw (← c.place_in-p.ensures, ← c.place_in-q.ensures, ← c.place_in-r.ensures, le-leb 3 sum low, le-leb sum 6 high, ← c.from.ensures, ne_eqb c.from.result c.args.face.cell c.if-from-face.false)
