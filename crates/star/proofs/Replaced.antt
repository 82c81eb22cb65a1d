-- A cavity starred, freed, and the point put: the tables after.
use Prim.Native.Nat.{ℕ, ◌≤◌, ◌<◌}
use mathlib.Core.Bool.{Bool}
use mathlib.Core.List.{List}
use mathlib.Core.Path.{◌≡◌, ap, ◌∙◌, subst}
use native.Mathlib.Omega.{arith}
use lib.ListN.{length, get_or}
use Rattle.geometry.specs.declared.Position.{Position}
use Rattle.mesh.specs.Tables.{Tables, tables, point_capacity, cell_capacity, none}
use Rattle.mesh.specs.Inner.{HasCell, HasPoint, with_point}
use Rattle.mesh.proofs.Room.{Room, room_of}
use Rattle.cavity.specs.Inner.{set_of}
use Rattle.star.specs.Star.{star, chain_after, highest_below}
use Rattle.star.specs.Inner.{CavityReplaced, freed_link, AllStarred, Replacing}
use Rattle.star.proofs.Star.{Fits}
use Rattle.star.proofs.Filled.{corners_filled, neighbours_filled}
use Rattle.star.proofs.NewPoint.{point_put}
use Rattle.star.proofs.InTurn.{listed_few}

module _ {t : Tables} {np n : ℕ} {p : Position} {st li : List ℕ} {size : ℕ} {fa nu sl : List ℕ} {rest : ℕ} (B : Replacing t np n p st li size fa nu sl rest) where
  abbrev s : List Bool
  s = set_of n st

  abbrev ch : List ℕ
  ch = B.starring.ch

  abbrev R : Room (point_capacity t) (cell_capacity t B.starring.mesh.w) t
  R = room_of t B.starring.mesh.w

  fits : Fits (point_capacity t) (cell_capacity t B.starring.mesh.w) np n t p s ch
  fits = let r = B.starring.ready in record { spare = r.spare; room = R; cells = r.like.cells; next = r.next; used≤ = r.room }

  pub point_room_lem : HasPoint np t.points
  point_room_lem = record { fits = omega (arith, B.starring.ready.next, R.points_fit) }

  pub listed_size : size ≤ length li
  listed_size = omega (arith, listed_few B.starring, B.starring.listed.entries)

  pub listed_has : {cs ns : List ℕ} → AllStarred B.starring cs ns → (k : ℕ) → k < size → HasCell (get_or li k 0) cs × HasCell (get_or li k 0) ns
  listed_has S k h =
      let c< = B.rising.below k h in
      let few = B.starring.mesh.mesh.cells≤ in (
        record { few = omega (arith, c<, few, R.cells≤); fits = omega (arith, c<, few, R.corners_fit, S.corners_long) },
        record { few = omega (arith, c<, few, R.cells≤); fits = omega (arith, c<, few, R.neighbours_fit, S.neighbours_long) },
      )

  pub star_replaced : {ps cs ns cs' ns' : List ℕ} → AllStarred B.starring cs ns → CavityReplaced (set_of n st) (λ c i. none) cs cs' →
      CavityReplaced (set_of n st) (freed_link (set_of n st) rest) ns ns' → ps ≡ with_point t.points np p →
      tables ps cs' ns' ≡ star B.starring.ch t n p np (set_of n st)
  unfolding star
  star_replaced {ns = ns} {ns' = ns'} S C N e =
      λ ι. tables ((e ∙ point_put t p np point_room_lem.fits) ι)
      (corners_filled B.starring.mesh.mesh B.starring.ready.like fits S C ι)
      (neighbours_filled B.starring.mesh.mesh B.starring.ready.like fits S (subst (λ x. CavityReplaced s (freed_link s x) ns ns') B.left N) ι)

  pub chain_replaced : {r : ℕ} → r ≡ highest_below (set_of n st) rest n → r ≡ chain_after B.starring.ch t n p (set_of n st)
  unfolding chain_after
  chain_replaced e = e ∙ ap (λ x. highest_below s x n) B.left
