use Rattle.std.proofs.Common.{ℕ, List, Bool, true, ◌≡◌, ◌+◌, ◌*◌, ◌/◌, ◌%◌, ◌<◌, get_or, take, sym, ap, ap₂, ◌∙◌, subst, arith}
use Rattle.std.proofs.lemmas.List.{length-take, get_or-take}
use Rattle.geometry.specs.declared.Position.{Position}
use Rattle.mesh.specs.Tables.{Tables, tables}
use Rattle.cavity.specs.Cavity.{in_set}
use Rattle.cavity.specs.Inner.{set_of}
use Rattle.star.specs.Star.{Numbers, star_numbers}
use Rattle.star.specs.Inner.{FaceDone, Starred}
use Rattle.star.proofs.InTurn.{done_by, done_none, building, listed_few, listed_held, next_few, star_next, star_all}
use Rattle.star_cells.proofs.star_faces.Goals as goal

pub slice_bounds-c-items-end : goal.slice_bounds-c-items-end
slice_bounds-c-items-end c = omega (arith, listed_few c.requires, c.requires.listed.entries, length-take c.args.size c.args.list.now)

pub loop-c-init : goal.loop-c-init
loop-c-init c = λ b. done_none b

-- faces done, counted in another way
recounted : {N : Numbers} {t : Tables} {n v : ℕ} {p : Position} {s : List Bool} {cs ns : List ℕ} (li : List ℕ) (i j : ℕ) → i ≡ j →
    Starred N t n p v s (done_by t p s li i) cs ns → Starred N t n p v s (done_by t p s li j) cs ns
recounted {N} {t} {n} {v} {p} {s} {cs} {ns} li i j e S = subst (λ m. Starred N t n p v s (done_by t p s li m) cs ns) e S

pub loop-k-init : goal.loop-k-init
loop-k-init c = λ b. let i = c.loop-c.c-index in recounted c.args.list.now (4 * i) (4 * i + 0) (omega arith) (c.loop-c.invariant b)

-- the cell of face k of the cell at place i
listed : (list : List ℕ) (size i k cell : ℕ) → i < size → k < 4 → cell ≡ get_or (take size list) i 0 → get_or list ((4 * i + k) / 4) 0 ≡ cell
listed list size i k cell i< k< e =
    let at : (4 * i + k) / 4 ≡ i = omega arith in
    ap (λ j. get_or list j 0) at ∙ sym (e ∙ get_or-take size list i 0 i<)

pub star_face-requires : goal.star_face-requires
star_face-requires c =
    let b = c.requires in
    let i = c.loop-c.c-index in
    let k = c.loop-k.k in
    let i< : i < c.args.size = omega (arith, length-take c.args.size c.args.list.now) in (
      building b (4 * i + k) (c.loop-k.invariant b),
      subst (λ d. in_set (set_of c.args.node.used c.args.state.now) d ≡ true) (listed c.args.list.now c.args.size i k _ i< c.loop-k-test.true c.from.ensures) (listed_held b (4 * i + k) (omega arith)),
      c.loop-k-test.true,
      next_few b,
    )

pub loop-k-preserved : goal.loop-k-preserved
unfolding building
loop-k-preserved c = λ b.
    let a = c.args in
    let list = a.list.now in
    let i = c.loop-c.c-index in
    let k = c.loop-k.k in
    let t = tables a.points.now a.corners.now a.neighbours.now in
    let s = set_of a.node.used a.state.now in
    let i< : i < a.size = omega (arith, length-take a.size list) in
    let cell = sym (listed list a.size i k _ i< c.loop-k-test.true c.from.ensures) in
    let rest : k ≡ (4 * i + k) % 4 = omega arith in
    let done = subst (λ f. FaceDone (star_numbers b.ch t a.node.used a.node.position s) t a.node.used a.node.position a.node.points s f c.loop-k.corners c.loop-k.neighbours c.star_face.new.corners c.star_face.new.neighbours)
    (ap₂ (λ d j. 4 * d + j) cell rest) (c.star_face.ensures (building b (4 * i + k) (c.loop-k.invariant b))) in
    recounted c.args.list.now (4 * i + k + 1) (4 * i + (k + 1)) (omega arith) (star_next b (4 * i + k) (omega arith) done (c.loop-k.invariant b))

pub loop-c-preserved : goal.loop-c-preserved
loop-c-preserved c = λ b.
    let i = c.loop-c.c-index in
    recounted c.args.list.now (4 * i + c.loop-k.k) (4 * (i + 1)) (omega arith) (c.loop-k.invariant b)

pub returns : goal.returns
returns c b = star_all b (4 * c.loop-c.c-index) (omega (arith, length-take c.args.size c.args.list.now, listed_few b, b.listed.entries)) (c.loop-c.invariant b)
