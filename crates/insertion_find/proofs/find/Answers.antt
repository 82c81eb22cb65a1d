use Rattle.std.proofs.Common.{◌≡◌, ◌≢◌, ◌∙◌, ℕ, List, Result, Ok, Err, ap, sym, refl, subst, arith}
use Rattle.std.specs.Result.{result_or}
use Rattle.refusal.specs.declared.Refusal.{Refusal}
use Rattle.refusal.specs.declared.Refusal.TheVariants.{CellsFull}
use Rattle.refusal.specs.Refusal.{refusal_number}
use Rattle.refusal.proofs.Numbers.{number-positive, handed-on}
use Rattle.mesh.specs.declared.Mesh.{Mesh}
use Rattle.mesh.specs.Tables.{Tables}
use Rattle.cavity.specs.declared.Node.{Node}
use Rattle.cavity.specs.declared.Extent.{Extent}
use Rattle.insertion.specs.declared.Replacement.{Replacement}
use Rattle.insertion.specs.Inner.{Found, as_found, Tested}
use Rattle.insertion_tests.specs.Room.{room_found}
use Rattle.insertion.proofs.Admission.{relisted, stamp_in, stamp_out, placed_points, points_same, refused_early, admitted, answerable, node_used≤, node_cells≤, unheld_node, last_test}
use Rattle.insertion_find.proofs.find.Goals as goal

-- of a node that is refused, its number alone is said
module _ {m : Mesh} {t : Tables} {bytes : List ℕ} {d : Node} {st li fa de nu : List ℕ} {g : Found} (T : Tested m t bytes d st li fa de nu g) where
  refused : {n k : ℕ} {e : Extent} → n ≡ g.refusal → n ≢ 0 → Tested m t bytes d st li fa de nu record { refusal = n; extent = e; made = k }
  refused h z = record { refusal_is = h ∙ T.refusal_is; starable = λ e. absurd (z e); notes = λ e. absurd (z e) }

  outcome : (r : Result Replacement Replacement) (o : Result Replacement Refusal) → room_found r ≡ g → o ≡ result_or r (Err CellsFull) →
      Tested m t bytes d st li fa de nu (as_found o)
  outcome (Ok x) o h is = subst (λ o. Tested m t bytes d st li fa de nu (as_found o)) (sym is) (subst (Tested m t bytes d st li fa de nu) (sym h) T)
  outcome (Err x) o h is =
      subst (λ o. Tested m t bytes d st li fa de nu (as_found o)) (sym is)
      (refused (ap (λ f. f.refusal) h) (λ (z : ◌≡◌ {A = ℕ} 8 0). omega arith))

pub side_codes-codes-requires : goal.side_codes-codes-requires
side_codes-codes-requires c = placed_points c.requires.0

pub point_tests-requires : goal.point_tests-requires
point_tests-requires c = points_same c.requires.0 c.side_codes-codes.ensures

pub returns-in_err-point_tests : goal.returns-in_err-point_tests
returns-in_err-point_tests c =
    rw (handed-on _ c.from_residual.ensures.1)
    (refused_early c.requires.0 (c.in_err-point_tests.ensures _ _) (λ (z : refusal_number c.in_err-point_tests.field-0.0 ≡ 0). omega (arith, number-positive c.in_err-point_tests.field-0.0, z)))

pub find_cavity-extent-requires : goal.find_cavity-extent-requires
find_cavity-extent-requires c =
    let s = c.requires in
    let A = admitted s.0 (c.in_ok-point_tests.ensures _ _) refl in
    (answerable A, c.side_codes-codes.ensures, s.1.empty, stamp_in s.0 s.1.notes, s.1.codes, s.1.exposed)

pub returns-then-extent-eq0 : goal.returns-then-extent-eq0
returns-then-extent-eq0 c =
    let A = admitted c.requires.0 (c.in_ok-point_tests.ensures _ _) refl in
    refused (unheld_node A c.find_cavity-extent.ensures.0 c.if-extent-eq0.true {k = 0}) refl (λ (z : ◌≡◌ {A = ℕ} 7 0). omega arith)

pub star_room-requires : goal.star_room-requires
star_room-requires c =
    let s = c.requires in
    let H = c.find_cavity-extent.ensures.0 in
    let some = c.if-extent-eq0.false in
    (node_cells≤ s.0, node_used≤ s.0, H.codes, s.1.ranks, H.list some, H.coded some)

pub returns : goal.returns
returns c =
    let s = c.requires in
    let A = admitted s.0 (c.in_ok-point_tests.ensures _ _) refl in
    let H = c.find_cavity-extent.ensures in
    let e = c.star_room.ensures in
    outcome
    (last_test A (relisted H.0 e.1) c.if-extent-eq0.false refl e.2 e.3 (c.star_room.auto.ranks ∙ s.1.ranks) (stamp_out s.0 H.1))
    _ _ e.0 c.or.ensures
