-- The numbers of new cells, and what the new cells hold, as the code finds them.
use Prim.Native.Nat.{ℕ, ◌+◌, ◌*◌, ◌<◌}
use mathlib.Core.Bool.{Bool, true, false}
use mathlib.Core.List.{List}
use mathlib.Core.Logic.{◌≢◌, ◌⊎◌, inl, inr}
use mathlib.Core.Path.{◌≡◌, refl, sym, ap, ◌∙◌, subst}
use native.Mathlib.Omega.{arith}
use native.Mathlib.Decide.{ℕ_discrete}
use borrow.Author.Tests.{eq-eqb, ne_eqb}
use lib.ListN.{get_or, set}
use lib.Seq.{get_or-set_same, get_or-set_other}
use Rattle.arith.specs.Table.{count_below}
use Rattle.arith.proofs.Flags.{split, clash}
use Rattle.geometry.specs.declared.Position.{Position}
use Rattle.mesh.specs.Tables.{Tables, point_capacity, cell_capacity, none, corner, across, mate, IsCell, IsFace}
use Rattle.mesh.specs.declared.Cell.{Cell}
use Rattle.mesh.specs.Inner.{four_at, with_four, HasCell}
use Rattle.mesh.proofs.FaceNumbers.{face_cell, face_opposite, face_in}
use Rattle.mesh.proofs.Glued.{Glued}
use Rattle.mesh.proofs.Numbers.{four_entry}
use Rattle.cavity.specs.Cavity.{in_set, outer, coplanar, visible}
use Rattle.cavity.specs.Inner.{set_of, faces_code}
use Rattle.cavity.proofs.Tests.{visible_of}
use Rattle.star.specs.Turn.{State, in_face, out_face, turn}
use Rattle.star.specs.Star.{Numbers, made_count, made_corner, turn_face, old_across, star_across, made_across, slot, star_numbers, used_after}
use Rattle.star.specs.Inner.{bit_set, entry_at, number_at, numbers_of, name_back, HasNumber, StarInProgress, VisibleFace, NewCell, FaceStarred}
use Rattle.star.proofs.Cross.{Valid}
use Rattle.star.proofs.Turn.{turn_valid, turn_ends}
use Rattle.star.proofs.NewFaces.{visible_not_coplanar}
use Rattle.star.proofs.Star.{Fits, spare_few, slot<, rank<}
use Rattle.star.proofs.Codes.{set_at, code_bit, count_cell}
use Rattle.star.proofs.Around.{set_below, standing_room, standing_few, standing_glued, has_neighbours, turn_face_lem}

-- across the old face of a new cell, what lay there: it stays where it is
pub own_stays : (ch : List ℕ) (t : Tables) (n : ℕ) (p : Position) (s : List Bool) (f : ℕ) → visible t p s f ≡ true → old_across (star_numbers ch t n p s) t s f ≡ across t f
unfolding old_across
own_stays ch t n p s f v = go (ℕ_discrete (across t f) none)
  where
    go : Dec (across t f ≡ none) → old_across (star_numbers ch t n p s) t s f ≡ across t f
    go (yes e) = rw (eq-eqb (across t f) none e) (sym e)
    go (no d) = rw (ne_eqb (across t f) none d, (visible_of t p s f v).free)

module _ {n : ℕ} {st fa nu sl cs ns : List ℕ} (b : StarInProgress n st fa nu sl cs ns) where
  abbrev t : Tables
  t = b.standing.was

  abbrev p : Position
  p = b.p

  abbrev s : List Bool
  s = set_of n st

  abbrev N : Numbers
  N = numbers_of b

  pub fits : Fits (point_capacity b.standing.was) (cell_capacity b.standing.was b.standing.mesh.w) b.standing.np n b.standing.was b.p (set_of n st) b.ch
  fits = record { spare = b.ready.spare; room = standing_room b.standing; cells = b.ready.like.cells; next = b.ready.next; used≤ = b.ready.room }

  module _ (c k : ℕ) (held : in_set (set_of n st) c ≡ true) (k< : k < 4) where
    c< : c < n
    c< = set_below n st c held

    code_is : get_or fa c 0 ≡ faces_code t p s c
    code_is = b.ready.inspected c c< (sym (set_at n st c c<) ∙ held)

    pub bit_visible : bit_set (get_or fa c 0) k ≡ visible b.standing.was b.p (set_of n st) (4 * c + k)
    bit_visible = ap (λ x. bit_set x k) code_is ∙ code_bit t p s c k k<

    rank_is : get_or nu c 0 + count_below k (bit_set (get_or fa c 0)) ≡ count_below (4 * c + k) (visible t p s)
    rank_is = omega (arith, b.ready.ranked c held, count_cell t p s c k (omega arith) (get_or fa c 0) code_is)

    -- the number of the new cell of a visible face
    pub number_slot : visible b.standing.was b.p (set_of n st) (4 * c + k) ≡ true →
        get_or sl (get_or nu c 0 + count_below k (bit_set (get_or fa c 0))) 0 ≡ slot b.ch n (count_below (4 * c + k) (visible b.standing.was b.p (set_of n st)))
    number_slot v = ap (λ x. get_or sl x 0) rank_is ∙ b.ready.slotted (count_below (4 * c + k) (visible t p s)) (rank< fits (4 * c + k) v)

    pub number< : visible b.standing.was b.p (set_of n st) (4 * c + k) ≡ true → get_or sl (get_or nu c 0 + count_below k (bit_set (get_or fa c 0))) 0 < 4096
    number< v =
        omega (arith, number_slot v, slot< b.ready.spare (count_below (4 * c + k) (visible t p s)) (made_count t n p s) (rank< fits (4 * c + k) v), b.ready.room, (standing_room b.standing).cells≤)

    pub has_number : HasNumber fa nu sl c k
    unfolding used_after
    has_number = record {
      code = omega (arith, c<, standing_few b.standing, b.ready.codes);
      rank = omega (arith, c<, standing_few b.standing, b.ready.ranks);
      place< = k<;
      slot = λ m. omega (
        arith,
        b.ready.slots,
        rank_is,
        rank< fits (4 * c + k) (sym bit_visible ∙ m),
        spare_few b.ready.spare,
        b.ready.room,
        (standing_room b.standing).cells≤,
      );
    }

    -- across a face that ends a turn
    pub number_star : outer (across b.standing.was) (in_set (set_of n st)) (4 * c + k) ≡ true →
        number_at fa nu sl c k ≡ star_across (numbers_of b) b.standing.was b.p (4 * c + k)
    unfolding number_at star_across
    number_star o = go (b.ready.like.faces (4 * c + k) o)
      where
        go : (visible t p s (4 * c + k) ≡ true) ⊎ (coplanar t p (4 * c + k) ≡ true) → number_at fa nu sl c k ≡ star_across N t p (4 * c + k)
        go (inl v) = rw (bit_visible ∙ v, visible_not_coplanar t p s (4 * c + k) v) (number_slot v)
        go (inr d) = rw (bit_visible ∙ not_visible d, d)
          where
            not_visible : coplanar t p (4 * c + k) ≡ true → visible t p s (4 * c + k) ≡ false
            not_visible d = by (split (visible t p s (4 * c + k)))
              where
                by : (visible t p s (4 * c + k) ≡ true) ⊎ (visible t p s (4 * c + k) ≡ false) → visible t p s (4 * c + k) ≡ false
                by (inl v) = clash d (visible_not_coplanar t p s (4 * c + k) v)
                by (inr v) = v

    -- what the code's answer tells
    pub number_none : number_at fa nu sl c k ≡ none → visible b.standing.was b.p (set_of n st) (4 * c + k) ≡ false
    unfolding number_at
    number_none e = go (split (bit_set (get_or fa c 0) k))
      where
        go : (bit_set (get_or fa c 0) k ≡ true) ⊎ (bit_set (get_or fa c 0) k ≡ false) → visible t p s (4 * c + k) ≡ false
        go (inl m) = absurd (omega (arith, rw m at e, number< (sym bit_visible ∙ m)))
        go (inr m) = sym bit_visible ∙ m

    pub number_some : number_at fa nu sl c k ≢ none → VisibleFace n st fa c k
    unfolding number_at
    number_some d = record { held = held; place< = k<; marks = go (split (bit_set (get_or fa c 0) k)) }
      where
        go : (bit_set (get_or fa c 0) k ≡ true) ⊎ (bit_set (get_or fa c 0) k ≡ false) → bit_set (get_or fa c 0) k ≡ true
        go (inl m) = m
        go (inr m) = absurd (d (rw m))

    pub number_set : bit_set (get_or fa c 0) k ≡ true → number_at fa nu sl c k ≡ slot b.ch n (count_below (4 * c + k) (visible b.standing.was b.p (set_of n st)))
    unfolding number_at
    number_set m = rw m (number_slot (sym bit_visible ∙ m))

  pub facing : (c k : ℕ) → VisibleFace n st fa c k → visible b.standing.was b.p (set_of n st) (4 * c + k) ≡ true
  facing c k F = sym (bit_visible c k F.held F.place<) ∙ F.marks

  -- where a turn from a visible face ends
  pub record Reached (c k j : ℕ) (g : State) : Type 0 where
    pub held : in_set (set_of n st) g.cell ≡ true
    pub exit< : g.exit < 4
    pub is : number_at fa nu sl g.cell g.exit ≡ made_across (numbers_of b) b.standing.was n b.p (set_of n st) (4 * c + k) j

  pub reached : (c k j : ℕ) → VisibleFace n st fa c k → j < 4 → j ≢ k → (g : State) →
      g ≡ turn (corner b.standing.was) (across b.standing.was) (mate b.standing.was) (in_set (set_of n st)) n record { cell = c; entry = k; exit = j } →
      Reached c k j g
  unfolding made_across
  reached c k j F j< d g e =
      record {
        held = ap (λ (x : State). in_set s x.cell) e ∙ v.held;
        exit< = subst (λ (x : State). x.exit < 4) (sym e) v.exit<;
        is =
            number_star g.cell g.exit (ap (λ (x : State). in_set s x.cell) e ∙ v.held) (subst (λ (x : State). x.exit < 4) (sym e) v.exit<)
            (ap (λ (x : State). outer (across t) (in_set s) (out_face x)) e ∙ turn_ends G b.ready.like.cells x w start n (omega arith)) ∙
            (ap (λ (x : State). star_across N t p (out_face x)) e ∙
            (ap (star_across N t p) (sym (turn_face_lem t n s c k j F.place<)) ∙ sym other));
      }
    where
      G : Glued n (IsCell t n) (corner t) (across t) (mate t)
      G = standing_glued b.standing

      x : State
      x = record { cell = c; entry = k; exit = j }

      w : Valid (in_set s) x
      w = record { held = F.held; entry< = F.place<; exit< = j<; apart = λ q. d (sym q) }

      start : outer (across t) (in_set s) (in_face x) ≡ true
      start = (visible_of t p s (4 * c + k) (facing c k F)).outer?

      v : Valid (in_set s) (turn (corner t) (across t) (mate t) (in_set s) n x)
      v = turn_valid G b.ready.like.cells x w start n (omega arith)

      other : made_across N t n p s (4 * c + k) j ≡ star_across N t p (turn_face t n s (4 * c + k) j)
      other = rw (face_opposite c k F.place<, ne_eqb j k d)

  -- across the old face, what lay there
  pub own_across : (c k j : ℕ) → VisibleFace n st fa c k → j ≡ k → entry_at ns c j ≡ made_across (numbers_of b) b.standing.was n b.p (set_of n st) (4 * c + k) j
  unfolding made_across
  own_across c k j F e =
      ap (entry_at ns c) e ∙ (b.standing.neighbours_same c k F.held F.place< ∙ (sym (own_stays b.ch t n p s (4 * c + k) (facing c k F)) ∙ sym own))
    where
      own : made_across N t n p s (4 * c + k) j ≡ old_across N t s (4 * c + k)
      own = rw (face_opposite c k F.place<, eq-eqb j k e)

  pub new_corner : (v c k j : ℕ) → in_set (set_of n st) c ≡ true → k < 4 → j < 4 → get_or (set (four_at cs c) k v) j 0 ≡ made_corner b.standing.was v (4 * c + k) j
  unfolding made_corner four_at
  new_corner v c k j h k< j< = go (ℕ_discrete j k)
    where
      go : Dec (j ≡ k) → get_or (set (four_at cs c) k v) j 0 ≡ made_corner t v (4 * c + k) j
      go (yes e) = rw (face_opposite c k k<, eq-eqb j k e, e) (get_or-set_same (four_at cs c) k v 0 k<)
      go (no d) =
          rw (face_opposite c k k<, ne_eqb j k d, face_cell c k k<)
          (get_or-set_other (four_at cs c) k j v 0 d ∙ (four_entry cs c j j< ∙ b.standing.corners_same c j h j<))

  -- ---- a face is starred

  module _ (c k : ℕ) (F : VisibleFace n st fa c k) where
    abbrev f : ℕ
    f = 4 * c + k

    f< : IsFace t n f
    f< = face_in c k F.place< (b.ready.like.cells c F.held)

    d< : slot b.ch n (count_below f (visible t p s)) < used_after b.ch n (made_count t n p s)
    d< = slot< b.ready.spare (count_below f (visible t p s)) (made_count t n p s) (rank< fits f (facing c k F))

    module _ (d : ℕ) (e : d ≡ slot b.ch n (count_below (4 * c + k) (visible b.standing.was b.p (set_of n st)))) where
      few : d < 4096
      few = omega (arith, d<, b.ready.room, (standing_room b.standing).cells≤)

      pub slot_corners : HasCell d cs
      slot_corners = record { few = few; fits = omega (arith, d<, b.ready.room, (standing_room b.standing).corners_fit, b.standing.corners_long) }

      pub slot_neighbours : HasCell d ns
      slot_neighbours = record { few = few; fits = omega (arith, d<, b.ready.room, (standing_room b.standing).neighbours_fit, b.standing.neighbours_long) }

    module _ (v : ℕ) (cell : Cell) (W : NewCell (numbers_of b) b.standing.was n b.p v (set_of n st) (4 * c + k) cell) where
      far_is : get_or cell.neighbours k 0 ≡ across t f
      unfolding made_across
      far_is = W.neighbours_are k F.place< ∙ (rw (face_opposite c k F.place<, eq-eqb k k refl) (own_stays b.ch t n p s f (facing c k F)))

      pub far_has : get_or cell.neighbours k 0 ≢ none → HasCell (get_or cell.neighbours k 0) ns
      far_has d = rw far_is (has_neighbours b.standing (across t f) (b.standing.mesh.mesh.across< f f< (λ e. d (far_is ∙ e))))

      pub face_starred : (d : ℕ) → d ≡ slot b.ch n (count_below (4 * c + k) (visible b.standing.was b.p (set_of n st))) → {cs' ns' : List ℕ} →
          cs' ≡ with_four cs d cell.corners → ns' ≡ name_back (with_four ns d cell.neighbours) (get_or cell.neighbours k 0) c d →
          FaceStarred (numbers_of b) b.standing.was n b.p v (set_of n st) (4 * c + k) cs ns cs' ns'
      face_starred d q x y = record {
        cell = cell;
        new = W;
        corners = x ∙ ap (λ d. with_four cs d cell.corners) q;
        neighbours = y ∙ (λ ι. name_back (with_four ns (q ι) cell.neighbours) (far_is ι) (sym (face_cell c k F.place<) ι) (q ι));
      }
