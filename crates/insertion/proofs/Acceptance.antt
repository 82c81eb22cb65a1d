-- A node that no test refuses: its star, its answer, and what it leaves.
use Prim.Native.Nat.{ℕ, ◌+◌, ◌-◌, ◌≤◌, ◌<◌}
use mathlib.Core.Bool.{Bool, true, false, not, cond, ◌||◌}
use mathlib.Core.List.{List}
use mathlib.Core.Logic.{◌≢◌}
use mathlib.Core.Path.{◌≡◌, refl, sym, ap, ap₂, ◌∙◌, subst}
use native.Mathlib.Omega.{arith}
use lib.ListN.{length, drop, replicate, length-replicate}
use Rattle.arith.proofs.Tables.{tabulate_at, tabulate_cong, zeros_at}
use Rattle.arith.proofs.Counting.{count_fewer}
use Rattle.geometry.specs.declared.Position.{Position}
use Rattle.mesh.specs.declared.Mesh.{Mesh}
use Rattle.mesh.specs.Tables.{Tables, point_capacity, cell_capacity, none, point, live, tables}
use Rattle.mesh.specs.Chain.{Chained, chain_of}
use Rattle.mesh.specs.Check.{is_mesh}
use Rattle.mesh.proofs.Room.{room_of}
use Rattle.mesh.proofs.Valid.{valid_of}
use Rattle.cavity.specs.declared.Node.{Node}
use Rattle.cavity.specs.Answers.{Answers, answers_of}
use Rattle.cavity.specs.Cavity.{in_set, cavity_size}
use Rattle.cavity.specs.Inner.Star.{StarShaped}
use Rattle.cavity.specs.Inner.{inside, set_of, Listed, CavityFound}
use Rattle.cavity.specs.Inner.Growth.{Empty, Unstamped}
use Rattle.star.specs.Star.{used_after, head_of, chain_after, star}
use Rattle.star.specs.Inner.{Slotted, Supply, Replacing}
use Rattle.star.proofs.Inserting.{room_is}
use Rattle.star.proofs.Taking.{chain_small}
use Rattle.insertion.specs.Inner.{Found}
use Rattle.insertion.specs.Inserted.{Inserted}
use Rattle.insertion.specs.Inserted.{Accepted, Refused}
use Rattle.insertion.specs.Insertion.{first_cavity, last_cavity, cells_made, node_refusal, report_of, inserted_mesh, inserted_tables}
use Rattle.insertion.specs.Look.{marks_of, cavity_marks, begins_with}
use Rattle.insertion.specs.Inner.{Scratch, NodeOf, Admitted, Starable, Tested, Starred, report_with, accepted_with, state_marks, marks_allow, refusal_with, AttemptLeaves}
use Rattle.insertion.proofs.Refusals.{marked_refuses, marked_passes, unless_accepted, unless_refused}
use Rattle.insertion.proofs.Admission.{H, valid, node_mesh, cells≤, used≤, node_used≤, points≤, next_point, star_shaped, made_is, last_is, before≤, no_refusal}

-- ---- answers from refusals

attempt_refused : (asked : Bool) (marks : List ℕ) (m : Mesh) (t : Tables) (w : ℕ) (p : Position) (a : Answers) {k : ℕ} →
    refusal_with asked marks m t w p a ≡ k → k ≢ 0 → AttemptLeaves asked marks m t w p a record { refusal = k; inserted = Refused k } t
attempt_refused asked marks m t w p a e d =
    let q = unless_refused m t p a e d in
    record { refusal = sym e; answer = sym (ap (λ l. l.answer) q); tables = sym (ap (λ l. l.tables) q) }

-- ---- a node that no test refuses

module _ {m : Mesh} {t : Tables} {bytes : List ℕ} {d : Node} {st li fa nu : List ℕ} {r : Found} (S : Starable m t bytes d st li fa nu r) where
  abbrev p : Position
  p = d.position

  abbrev a : Answers
  a = answers_of d.handed bytes

  abbrev A : Admitted m t bytes d
  A = S.admitted

  abbrev N : NodeOf m t bytes d
  N = S.admitted.node

  abbrev n : ℕ
  n = m.used

  abbrev ch : List ℕ
  ch = chain_of m t

  abbrev set : List Bool
  set = set_of d.used st

  Hm : CavityFound a t p n st li fa r.extent
  Hm = H A S.found

  -- the record's chain, with the node's used length
  pub node_chained : Chained t d.used m.chain ch
  node_chained = subst (λ n. Chained t n m.chain ch) (sym N.used_are) (valid N).chained

  -- there is room for the new cells, on the chain and at the end of the table
  pub slots_fit : used_after ch d.used r.made ≤ cell_capacity t d.work
  slots_fit =
      let v = valid N in
      subst (λ n. used_after ch n r.made ≤ cell_capacity t d.work) (sym N.used_are)
      ((room_is record { mesh = v.mesh; chained = v.chained; counted = sym v.counted } r.made).0 (omega (arith, S.room, N.cells_are)))

  -- the chain's first number is one of an entry, or none
  pub chain_few : m.chain ≤ none
  chain_few = chain_small (valid N).chained (omega (arith, used≤ N))

  pub used_few : {used : ℕ} → used ≡ used_after ch d.used r.made → used ≤ 4096
  used_few e = omega (arith, e, slots_fit, (room_of t d.work).cells≤)

  -- the cavity's list, to set its states back
  pub listed : Listed st li r.extent.after
  listed = record { t = t; n = d.used; few = node_used≤ N; list = S.found.list S.some }

  -- what is lent, for the next node
  pub scratch_after : {st' de ex : List ℕ} → Empty st' li → Unstamped (m.points + 1) de → length ex ≡ 1024 → Scratch (m.points + 1) st' li fa de ex nu
  scratch_after E u h = record { empty = E; codes = S.found.codes; notes = u; exposed = h; ranks = S.ranks_long }

  -- what the numbers of the new cells are taken from
  unfoldable pub supply : Supply t.neighbours d.used m.chain r.made
  supply = record {
    t = t;
    neighbours_are = refl;
    neighbours_long = omega (arith, N.used_are, (valid N).mesh.cells≤, (room_of t d.work).neighbours_fit);
    ch = ch;
    chained = node_chained;
    room = omega (arith, slots_fit, (room_of t d.work).cells≤);
  }

  unfoldable pub to_replace : {sl : List ℕ} {rest : ℕ} → length sl ≡ 4096 → Slotted (chain_of m t) d.used r.made sl → rest ≡ head_of (drop r.made (chain_of m t)) →
      Replacing t d.points d.used d.position st li r.extent.after fa nu sl rest
  unfolding node_mesh
  to_replace {sl} long e f = record {
    starring = record {
      mesh = node_mesh N;
      ch = ch;
      ready = record {
        like = subst (λ n. StarShaped t n p (set_of n st)) (sym N.used_are) (star_shaped A S.found S.some);
        codes = S.found.codes;
        ranks = S.ranks_long;
        slots = long;
        inspected = S.found.coded S.some;
        ranked = S.ranked;
        slotted = subst (λ k. Slotted ch d.used k sl) S.counted e;
        spare = node_chained.spare;
        next = subst (λ k. k < point_capacity t) (sym N.points_are) (next_point A);
        room = omega (arith, slots_fit, ap (used_after ch d.used) S.counted);
      };
      listed = S.found.list S.some;
    };
    rising = S.rising;
    left = f ∙ ap (λ k. head_of (drop k ch)) S.counted;
  }

  -- the cavity's cells are cells
  fewer : r.extent.after ≤ m.cells
  fewer =
      let L = Hm.list S.some in
      omega (arith, L.counted, (valid N).counted, (count_fewer n (live t) (inside st) L.alive).0)

  pub accepted_asks : (m.points ≤ 1024) × (m.cells ≤ 4096) × (r.extent.before ≤ 4096) × (r.extent.after ≤ m.cells) × (r.made ≤ 16384)
  accepted_asks = (
    points≤ N,
    omega (arith, cells≤ N, used≤ N),
    omega (arith, before≤ A S.found S.some, used≤ N),
    fewer,
    omega (arith, S.room, (room_of t d.work).cells≤),
  )

  pub report_asks : (r.extent.before ≤ 4096) × (r.extent.after ≤ 4096) × (r.made ≤ 16384)
  report_asks = let h = accepted_asks in (h.2, omega (arith, h.1, h.3), h.4)

  -- a state for each entry
  pub states_long : d.used ≤ length st
  states_long = omega (arith, S.found.states, node_used≤ N)

  pub none_refused : node_refusal m t d.work p a ≡ 0
  none_refused = no_refusal A S.found S.some S.counted S.room

  after_is : r.extent.after ≡ cavity_size n (last_cavity m t p a)
  unfolding last_cavity
  after_is = Hm.after_is S.some

  star_is : r.made ≡ cells_made m t p a
  star_is = made_is A S.found S.some S.counted

  pub report_is : report_with m r ≡ report_of m t p a
  unfolding report_with report_of first_cavity
  report_is = λ i. record { point = m.points; before = Hm.before_is S.some i; after = after_is i; made = star_is i; least = Hm.least_is S.some i }

  module _ {chain used : ℕ} (ec : chain ≡ chain_after ch t d.used p set) (eu : used ≡ used_after ch d.used r.made) where
    chain_is : chain ≡ (inserted_mesh m t p a).chain
    unfolding inserted_mesh
    chain_is = ec ∙ (ap (λ n. chain_after ch t n p (set_of n st)) N.used_are ∙ ap (chain_after ch t n p) (last_is A S.found S.some))

    used_is : used ≡ (inserted_mesh m t p a).used
    unfolding inserted_mesh
    used_is = eu ∙ ap₂ (used_after ch) N.used_are star_is

    answer_is : accepted_with m r chain used ≡ Accepted (inserted_mesh m t p a) (report_of m t p a)
    unfolding accepted_with inserted_mesh
    answer_is = λ i. Accepted record { x = m.x; y = m.y; z = m.z; points = m.points + 1; cells = m.cells - after_is i + star_is i; chain = chain_is i; used = used_is i } (report_is i)

    pub starred : {g : Inserted} {t' : Tables} → g ≡ accepted_with m r chain used →
        t' ≡ star (chain_of m t) t d.used d.position d.points (set_of d.used st) → Starred m t d.position (answers_of d.handed bytes) g t'
    unfolding inserted_tables
    starred eg et = record {
      answer = eg ∙ answer_is;
      tables =
          et ∙ (ap₂ (λ k n. star ch t n p k (set_of n st)) N.points_are N.used_are ∙
          ap (star ch t n p m.points) (last_is A S.found S.some));
    }

  -- the states of the cells give the marks of a look
  pub marks_are : state_marks d.used st ≡ cavity_marks m t p a
  unfolding cavity_marks set_of
  marks_are = ap (λ n. marks_of n (inside st)) N.used_are ∙ tabulate_cong n _ _ each
    where
      each : (c : ℕ) → c < n → cond {A = ℕ} (inside st c) 1 0 ≡ cond (in_set (last_cavity m t p a) c) 1 0
      each c h = ap (λ b. cond {A = ℕ} b 1 0) (sym (tabulate_at n (inside st) c false h) ∙ ap (λ s. in_set s c) (last_is A S.found S.some))

  module _ (asked : Bool) (marks : List ℕ) {allowed : Bool} (e : allowed ≡ marks_allow asked d.used st marks) where
    -- no test is left but that of the marks
    refusal_is : refusal_with asked marks m t d.work p a ≡ cond allowed 0 14
    unfolding marks_allow
    refusal_is = go asked e
      where
        go : (asked : Bool) → allowed ≡ (not asked || begins_with (state_marks d.used st) marks) → refusal_with asked marks m t d.work p a ≡ cond allowed 0 14
        go false e = rw e none_refused
        go true e = marked_passes m t p a marks none_refused ∙ rw (e, marks_are)

    pub accepted_leaves : allowed ≡ true → {g : Inserted} {t' : Tables} → Starred m t d.position (answers_of d.handed bytes) g t' →
        AttemptLeaves asked marks m t d.work d.position (answers_of d.handed bytes) record { refusal = 0; inserted = g } t'
    accepted_leaves y G =
        let z : refusal_with asked marks m t d.work p a ≡ 0 = refusal_is ∙ rw y in
        let q = unless_accepted m t p a z in
        record { refusal = sym z; answer = G.answer ∙ sym (ap (λ l. l.answer) q); tables = G.tables ∙ sym (ap (λ l. l.tables) q) }

    pub marks_refused : allowed ≡ false →
        AttemptLeaves asked marks m t d.work d.position (answers_of d.handed bytes) record { refusal = 14; inserted = Refused 14 } t
    marks_refused y = attempt_refused asked marks m t d.work p a (refusal_is ∙ rw y) (λ z. omega arith)

-- one that a test refuses
pub refused_attempt : {m : Mesh} {t : Tables} {bytes : List ℕ} {d : Node} {st li fa de nu : List ℕ} {r : Found} {asked : Bool} {marks : List ℕ} →
    Tested m t bytes d st li fa de nu r → r.refusal ≢ 0 →
    AttemptLeaves asked marks m t d.work d.position (answers_of d.handed bytes) record { refusal = r.refusal; inserted = Refused r.refusal } t
refused_attempt {m} {t} {bytes} {d} {r = r} {asked = asked} {marks = marks} T z = attempt_refused asked marks m t d.work d.position a (go asked) z
  where
    a : Answers
    a = answers_of d.handed bytes

    go : (asked : Bool) → refusal_with asked marks m t d.work d.position a ≡ r.refusal
    go false = sym T.refusal_is
    go true = marked_refuses m t d.position a marks (sym T.refusal_is) z

-- arrays of zeros serve the first node
pub fresh : (m : Mesh) (t : Tables) (w : ℕ) → is_mesh m t w ≡ true →
    Scratch m.points (replicate 4096 0) (replicate 4096 0) (replicate 4096 0) (replicate 4096 0) (replicate 1024 0) (replicate 4096 0)
fresh m t w e = record {
  empty = record { states = length-replicate {A = ℕ} 4096 0; entries = length-replicate {A = ℕ} 4096 0; zero = zeros_at 4096 };
  codes = length-replicate {A = ℕ} 4096 0;
  notes = record { long = length-replicate {A = ℕ} 4096 0; below = λ c. omega (arith, zeros_at 4096 c, (valid_of m t w e).mesh.points≥) };
  exposed = length-replicate {A = ℕ} 1024 0;
  ranks = length-replicate {A = ℕ} 4096 0;
}
