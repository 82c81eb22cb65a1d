-- A list over a table of corrections, node by node.
use Prim.Native.Nat.{ℕ, suc, ◌+◌, ◌*◌, ◌-◌, ◌/◌, ◌≤◌, ◌<◌, min}
use mathlib.Core.Bool.{true, false}
use mathlib.Core.List.{List}
use mathlib.Core.Logic.{◌≢◌}
use mathlib.Core.Path.{◌≡◌, refl, sym, ap, ◌∙◌, subst}
use native.Mathlib.Decide.{dec_lt}
use native.Mathlib.Numerals.{add-one}
use native.Mathlib.Omega.{arith}
use borrow.Author.Tests.{lt-ltb, le-ltb}
use lib.ListN.{length}
use lib.IntN.{ℤ}
use Rattle.geometry.specs.declared.Position.{Position}
use Rattle.mesh.specs.declared.Mesh.{Mesh}
use Rattle.mesh.specs.Tables.{Tables, point_capacity}
use Rattle.mesh.specs.Check.{is_mesh}
use Rattle.mesh.proofs.Room.{room_of}
use Rattle.mesh.proofs.Valid.{valid_of}
use Rattle.cavity.specs.Answers.{Answers, sphere}
use Rattle.insertion.specs.Inner.{Attempt}
use Rattle.insertion.specs.Inserted.{Inserted}
use Rattle.insertion.specs.Inserted.{Accepted, Refused}
use Rattle.insertion.specs.Listed.{Listed}
use Rattle.insertion.specs.Listed.{Ended, Stopped}
use Rattle.insertion.specs.declared.Report.{Report}
use Rattle.insertion.specs.Insertion.{node_refusal, insert_node}
use Rattle.insertion.specs.List.{listed_node, listed_count}
use Rattle.insertion.specs.Inner.{Scratch}
use Rattle.insertion.proofs.Refusals.{accepted_unless, refused_unless}
use Rattle.insertion.proofs.Growing.{accepted_checks, one_point_more}
use Rattle.corrections.specs.Corrections.{out_of_range}
use Rattle.corrections.specs.Calls.{Left, with_range, with_node, left_unless, insert_from_with}
use Rattle.corrections.specs.Inner.{Standing, node_with, AttemptKeeps, NodesKeep, early_refusal, refused_nodes}
use Rattle.corrections.proofs.Refusals.{range_in, range_passed, left_accepted}
use Rattle.corrections.proofs.Leaving.{refused_wrong}
use Rattle.corrections.proofs.Keeping.{node_length, in_range_after}

module _ (m : Mesh) (t : Tables) (cs : List ℤ) (w : ℕ) (ns : List ℕ) (i : ℕ) where
  -- node i after the nodes before it
  abbrev pub next : Left Inserted
  next = node_with false ns m t cs w (listed_node ns i) sphere

  -- an accepted node
  pub node_in : (k : ℕ) {m' : Mesh} {r : Report} {t' : Tables} {cs' : List ℤ} → next ≡ record { answer = Accepted m' r; tables = t'; corrections = cs' } →
      insert_from_with (suc k) i m t cs w ns ≡ insert_from_with k (suc i) m' t' cs' w ns
  unfolding insert_from_with
  node_in k e = rw (e, insert_from_with) (rw e)

  -- a refused one
  pub node_out : (k : ℕ) {e : ℕ} {t' : Tables} {cs' : List ℤ} → next ≡ record { answer = Refused e; tables = t'; corrections = cs' } →
      insert_from_with (suc k) i m t cs w ns ≡ record { answer = Stopped m i e; tables = t'; corrections = cs' }
  unfolding insert_from_with
  node_out k e = rw (e, insert_from_with) (rw e)

-- ---- a node, from what the code has

module _ {marks : List ℕ} {m : Mesh} {t : Tables} {cs : List ℤ} {w : ℕ} {p : Position} {a : Answers} {g : Attempt} {t' : Tables} {cs' : List ℤ}
    (L : AttemptKeeps false marks m t cs w p a g t' cs') where
  -- the number beside the answer is the answer's
  number : {e : ℕ} → g.inserted ≡ Refused e → g.refusal ≡ e
  unfolding left_unless
  number q = L.refusal ∙ (refused_unless m t p a (sym q ∙ L.answer)).1

  -- an accepted node: no test failed, and what it leaves is the definition's
  module _ {m' : Mesh} {r : Report} (q : g.inserted ≡ Accepted m' r) where
    no_refusal : with_range m.points cs (node_refusal m t w p a) ≡ 0
    unfolding left_unless
    no_refusal = (accepted_unless m t p a (sym q ∙ L.answer)).0

    passes : g.refusal ≡ 0
    passes = L.refusal ∙ no_refusal

    node_passes : node_refusal m t w p a ≡ 0
    node_passes = (range_passed m.points cs no_refusal).1

    same : with_range m.points cs (node_refusal m t w p a) ≡ node_refusal m t w p a
    same = range_in m.points cs (range_passed m.points cs no_refusal).0

    answer_is : Accepted m' r ≡ (insert_node m t w p a).answer
    unfolding left_unless insert_node
    answer_is = sym q ∙ (L.answer ∙ rw same)

    tables_are : t' ≡ (insert_node m t w p a).tables
    unfolding left_unless insert_node
    tables_are = L.tables ∙ rw same

    corrections_are : cs' ≡ with_node m t cs p
    corrections_are = L.corrections ∙ ap (λ l. l.corrections) (left_accepted m t cs p a no_refusal)

-- ---- with n nodes in the list, of which i are in

module _ {marks : List ℕ} {m : Mesh} {t : Tables} {cs : List ℤ} {w : ℕ} (ns : List ℕ) (i : ℕ) {g : Attempt} {t' : Tables} {cs' : List ℤ}
    (L : AttemptKeeps false marks m t cs w (listed_node ns i) sphere g t' cs') (n : ℕ) (h : i < n) where
  step : n - i ≡ suc (n - (i + 1))
  step = omega (arith, h)

  goes_on : {m' : Mesh} {r : Report} → g.inserted ≡ Accepted m' r → insert_from_with (n - i) i m t cs w ns ≡ insert_from_with (n - (i + 1)) (i + 1) m' t' cs' w ns
  goes_on q =
      ap (λ k. insert_from_with k i m t cs w ns) step ∙
      (node_in m t cs w ns i (n - (i + 1)) (λ j. record { answer = (sym L.answer ∙ q) j; tables = sym L.tables j; corrections = sym L.corrections j }) ∙ rw add-one)

  stops : {e : ℕ} → g.inserted ≡ Refused e → insert_from_with (n - i) i m t cs w ns ≡ record { answer = Stopped m i e; tables = t'; corrections = cs' }
  stops q =
      ap (λ k. insert_from_with k i m t cs w ns) step ∙
      node_out m t cs w ns i (n - (i + 1)) (λ j. record { answer = (sym L.answer ∙ q) j; tables = sym L.tables j; corrections = sym L.corrections j })

-- i nodes are in, and the rest will give what the whole list gives
pub record Inserting (m₀ : Mesh) (t₀ : Tables) (cs₀ : List ℤ) (w : ℕ) (ns : List ℕ) (m : Mesh) (t : Tables) (cs : List ℤ) (i : ℕ) : Type 0 where
  pub began : 8 ≤ m₀.points
  pub mesh : is_mesh m t w ≡ true
  pub count : m.points ≡ m₀.points + i
  pub range : out_of_range m.points cs ≡ false
  pub lent : 3 * point_capacity t ≤ length cs
  pub points_long : length t.points ≡ length t₀.points
  pub corners_long : length t.corners ≡ length t₀.corners
  pub neighbours_long : length t.neighbours ≡ length t₀.neighbours
  pub corrections_long : length cs ≡ length cs₀
  pub rest : insert_from_with (listed_count ns - i) i m t cs w ns ≡ insert_from_with (listed_count ns) 0 m₀ t₀ cs₀ w ns

counted : (m : Mesh) (t : Tables) (w : ℕ) → is_mesh m t w ≡ true → (8 ≤ m.points) × ((m.points ≤ point_capacity t) × (m.points ≤ 1024))
counted m t w e =
    let M = (valid_of m t w e).mesh in
    (M.points≥, (M.points≤, omega (arith, M.points≤, (room_of t w).points≤)))

pub none_yet : (m : Mesh) (t : Tables) (cs : List ℤ) (w : ℕ) (ns : List ℕ) → is_mesh m t w ≡ true → out_of_range m.points cs ≡ false → 3 * point_capacity t ≤ length cs →
    Inserting m t cs w ns m t cs 0
none_yet m t cs w ns e r l = record {
  began = (counted m t w e).0;
  mesh = e;
  count = omega arith;
  range = r;
  lent = l;
  points_long = refl;
  corners_long = refl;
  neighbours_long = refl;
  corrections_long = refl;
  rest = let q : listed_count ns - 0 ≡ listed_count ns = omega arith in ap (λ k. insert_from_with k 0 m t cs w ns) q;
}

-- the room for points, by the table's length
capacity_is : (t t' : Tables) → length t'.points ≡ length t.points → point_capacity t' ≡ point_capacity t
unfolding point_capacity
capacity_is t t' e = ap (λ n. min (n / 3) 1024) e

module _ {m₀ : Mesh} {t₀ : Tables} {cs₀ : List ℤ} {w : ℕ} {ns : List ℕ} {m : Mesh} {t : Tables} {cs : List ℤ} {i : ℕ} (P : Inserting m₀ t₀ cs₀ w ns m t cs i) where
  -- the points of the mesh bound the place
  pub place< : i < 1024
  place< = omega (arith, P.began, P.count, (counted m t w P.mesh).1.1)

  pub standing : Standing m.points cs
  standing = record { long = omega (arith, P.lent, (counted m t w P.mesh).1.0); range = P.range }

  module _ {marks : List ℕ} {g : Attempt} {t' : Tables} {cs' : List ℤ} (L : AttemptKeeps false marks m t cs w (listed_node ns i) sphere g t' cs') where
    module _ {m' : Mesh} {r : Report} (q : g.inserted ≡ Accepted m' r) where
      more : m'.points ≡ m.points + 1
      more = one_point_more m t w (listed_node ns i) sphere (answer_is L q)

      pub one_more : i < listed_count ns → length t'.points ≡ length t.points → length t'.corners ≡ length t.corners →
          length t'.neighbours ≡ length t.neighbours → Inserting m₀ t₀ cs₀ w ns m' t' cs' (i + 1)
      one_more h a b c = record {
        began = P.began;
        mesh = accepted_checks m t w (listed_node ns i) sphere P.mesh (answer_is L q) (tables_are L q);
        count = omega (arith, more, P.count);
        range =
            subst (λ k. out_of_range k cs' ≡ false) (sym more)
            (subst (λ l. out_of_range (m.points + 1) l ≡ false) (sym (corrections_are L q))
            (in_range_after m t cs w (listed_node ns i) sphere P.mesh (node_passes L q) P.lent P.range));
        lent = omega (arith, P.lent, capacity_is t t' a, longer);
        points_long = a ∙ P.points_long;
        corners_long = b ∙ P.corners_long;
        neighbours_long = c ∙ P.neighbours_long;
        corrections_long = longer ∙ P.corrections_long;
        rest = sym (goes_on ns i L (listed_count ns) h q) ∙ P.rest;
      }
        where
          longer : length cs' ≡ length cs
          longer = ap length (corrections_are L q) ∙ node_length m t cs (listed_node ns i)

      -- what is lent serves the next node too
      pub scratch_next : {st li fa de ex nu : List ℕ} → (g.refusal ≡ 0 → Scratch (m.points + 1) st li fa de ex nu) → Scratch m'.points st li fa de ex nu
      scratch_next {st} {li} {fa} {de} {ex} {nu} left = subst (λ k. Scratch k st li fa de ex nu) (sym more) (left (passes L q))

    pub stops_here : i < listed_count ns → {e : ℕ} → g.inserted ≡ Refused e → NodesKeep m₀ t₀ cs₀ w ns (Stopped m i g.refusal) t' cs'
    stops_here h {e} q =
        let s = sym P.rest ∙ stops ns i L (listed_count ns) h q in
        record {
          answer = ap (Stopped m i) (number L q) ∙ sym (ap (λ l. l.answer) s);
          tables = sym (ap (λ l. l.tables) s);
          corrections = sym (ap (λ l. l.corrections) s);
        }

  pub ends_here : listed_count ns ≤ i → NodesKeep m₀ t₀ cs₀ w ns (Ended m i) t cs
  unfolding insert_from_with
  ends_here h =
      let e : listed_count ns - i ≡ 0 = omega (arith, h) in
      let s = sym P.rest ∙ ap (λ k. insert_from_with k i m t cs w ns) e in
      record { answer = sym (ap (λ l. l.answer) s); tables = sym (ap (λ l. l.tables) s); corrections = sym (ap (λ l. l.corrections) s) }

-- over a table out of range an empty list ends, and another stops at its first node
module _ (m : Mesh) (t : Tables) (cs : List ℤ) (w : ℕ) (ns : List ℕ) where
  wrong_stops : listed_count ns ≢ 0 → out_of_range m.points cs ≡ true → NodesKeep m t cs w ns (Stopped m 0 (early_refusal m t (listed_node ns 0))) t cs
  wrong_stops d wrong =
      let L = refused_wrong false ns m t cs w (listed_node ns 0) sphere wrong refl in
      let s = ap (λ k. insert_from_with k 0 m t cs w ns) q ∙ stops ns 0 L (listed_count ns) (omega (arith, d)) refl in
      record { answer = sym (ap (λ l. l.answer) s); tables = sym (ap (λ l. l.tables) s); corrections = sym (ap (λ l. l.corrections) s) }
    where
      q : listed_count ns ≡ listed_count ns - 0
      q = omega arith

  pub nodes_refused : out_of_range m.points cs ≡ true → {r : Listed} → r ≡ refused_nodes m t.points ns → NodesKeep m t cs w ns r t cs
  unfolding refused_nodes early_refusal insert_from_with
  nodes_refused wrong {r} e = go (dec_lt (length ns) 3)
    where
      go : Dec (length ns < 3) → NodesKeep m t cs w ns r t cs
      go (yes h) =
          let z : listed_count ns ≡ 0 = omega (arith, h) in
          record { answer = e ∙ rw (lt-ltb (length ns) 3 h, z); tables = rw z; corrections = rw z }
      go (no h) =
          let L = wrong_stops (λ z. h (omega (arith, z))) wrong in
          record { answer = (e ∙ rw (le-ltb (length ns) 3 (omega (arith, h)))) ∙ L.answer; tables = L.tables; corrections = L.corrections }

-- the node as it was read off the list
pub node_read : {marks : List ℕ} {m : Mesh} {t : Tables} {cs : List ℤ} {w : ℕ} {p q : Position} {a : Answers} {r : Attempt} {t' : Tables} {cs' : List ℤ} → p ≡ q →
    AttemptKeeps false marks m t cs w p a r t' cs' → AttemptKeeps false marks m t cs w q a r t' cs'
node_read {marks} {m} {t} {cs} {w} {a = a} {r = r} {t' = t'} {cs' = cs'} e L = subst (λ p. AttemptKeeps false marks m t cs w p a r t' cs') e L
