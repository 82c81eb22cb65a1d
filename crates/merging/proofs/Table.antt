-- The table of positions: where a search ends tells whether the position is there, and a new one goes where it ended.
use Prim.Native.Nat.{ℕ, ◌+◌, ◌*◌, ◌-◌, ◌≤◌, ◌<◌}
use mathlib.Core.Bool.{false}
use mathlib.Core.List.{List}
use mathlib.Core.Logic.{◌≢◌, ◌⊎◌, inl, inr}
use mathlib.Core.Path.{◌≡◌, sym, ap, ◌∙◌, subst}
use native.Mathlib.Omega.{arith}
use native.Mathlib.Decide.{ℕ_discrete, dec_lt}
use lib.ListN.{length, get_or, set, replicate}
use lib.Seq.{get_or-set_same, get_or-set_other}
use Rattle.arith.proofs.Flags.{clash}
use Rattle.arith.proofs.Tables.{zeros_at}
use Rattle.geometry.specs.declared.Position.{Position}
use Rattle.geometry.specs.Volume.{same_position}
use Rattle.mesh.specs.Tables.{point_in}
use Rattle.mesh.specs.Inner.{with_point}
use Rattle.mesh.proofs.Checked.{same_position_yes}
use Rattle.mesh.proofs.Points.{put_same, put_other}
use Rattle.merging.specs.Inner.{hash_of, Stored, Indexed, Names, Probed, ProbeEnds}

pub hash< : (p : Position) → hash_of p < 2048
unfolding hash_of
hash< p = omega arith

-- ---- a search

module _ {ns table : List ℕ} {p : Position} where
  pub none_probed : {r : ℕ} → r ≡ hash_of p → Probed ns table p r
  none_probed e = record { after = omega arith; run = λ j a b. absurd (omega arith) }

  pub one_probed : {r : ℕ} → Probed ns table p r → get_or table r 0 ≢ 0 → same_position (point_in ns (get_or table r 0 - 1)) p ≡ false → Probed ns table p (r + 1)
  one_probed {r} P d f = record { after = omega (arith, P.after); run = λ j a b. go j a (dec_lt j r) b }
    where
      at : (get_or table r 0 ≢ 0) × (point_in ns (get_or table r 0 - 1) ≢ p)
      at = (d, λ q. clash (same_position_yes (point_in ns (get_or table r 0 - 1)) p q) f)

      go : (j : ℕ) → hash_of p ≤ j → Dec (j < r) → j < r + 1 → (get_or table j 0 ≢ 0) × (point_in ns (get_or table j 0 - 1) ≢ p)
      go j a (yes l) b = P.run j a l
      go j a (no g) b = let q : r ≡ j = omega arith in subst (λ i. (get_or table i 0 ≢ 0) × (point_in ns (get_or table i 0 - 1) ≢ p)) q at

-- ---- what the table names

-- the empty table
pub none_indexed : (ns : List ℕ) (n : ℕ) → Indexed ns (replicate n 0) 0
none_indexed ns n =
    record { named = λ j. omega (arith, zeros_at n j); empty = λ j h. zeros_at n j; stored = λ m h. absurd (omega arith) }

module _ {ns table : List ℕ} {k : ℕ} (I : Indexed ns table k) where
  -- an occupied place has empty ones after it
  pub occupied< : (j : ℕ) → get_or table j 0 ≢ 0 → j < 2048 + k
  occupied< j d = go (dec_lt j (2048 + k))
    where
      go : Dec (j < 2048 + k) → j < 2048 + k
      go (yes l) = l
      go (no g) = absurd (d (I.empty j (omega arith)))

  module _ {p : Position} {r : ℕ} (E : ProbeEnds ns table p r) where
    -- at an empty place: p is none of the nodes
    pub ends_empty : get_or table r 0 ≡ 0 → (m : ℕ) → m < k → point_in ns m ≢ p
    ends_empty e m h q = go (dec_lt F.place r) (dec_lt r F.place)
      where
        F : Stored ns table m
        F = I.stored m h

        s : hash_of (point_in ns m) ≡ hash_of p
        s = ap hash_of q

        found : F.place < r → ⊥
        found l =
            let t = E.probed.run F.place (omega (arith, s, F.after)) l in
            let n : get_or table F.place 0 - 1 ≡ m = omega (arith, F.entry) in
            t.1 (ap (point_in ns) n ∙ q)

        go : Dec (F.place < r) → Dec (r < F.place) → ⊥
        go (yes l) b = found l
        go (no a) (yes l) = F.run r (omega (arith, s, E.probed.after)) l e
        go (no a) (no b) =
            let at : F.place ≡ r = omega arith in
            absurd (omega (arith, F.entry, ap (λ j. get_or table j 0) at))

    -- at an occupied one: p is a node
    pub ends_found : get_or table r 0 ≢ 0 → (get_or table r 0 - 1 < k) × (point_in ns (get_or table r 0 - 1) ≡ p)
    ends_found d = go E.here
      where
        go : (get_or table r 0 ≡ 0) ⊎ Names ns table p r → (get_or table r 0 - 1 < k) × (point_in ns (get_or table r 0 - 1) ≡ p)
        go (inl e) = absurd (d e)
        go (inr f) = (omega (arith, I.named r), f.1)

    pub ends≤ : r ≤ 2048 + k
    ends≤ = go (dec_lt (2048 + k) r)
      where
        go : Dec (2048 + k < r) → r ≤ 2048 + k
        go (yes l) = absurd ((E.probed.run (2048 + k) (omega (arith, hash< p)) l).0 (I.empty (2048 + k) (omega arith)))
        go (no g) = omega arith

    -- p as node k, named where the search ended
    module _ (e : get_or table r 0 ≡ 0) (fits : r < length table) (room : 3 * k + 3 ≤ length ns) where
      abbrev table' : List ℕ
      table' = set table r (k + 1)

      abbrev ns' : List ℕ
      ns' = with_point ns k p

      other : (j : ℕ) → get_or table j 0 ≢ 0 → get_or table' j 0 ≡ get_or table j 0
      other j d = get_or-set_other table r j (k + 1) 0 (λ q. d (ap (λ i. get_or table i 0) q ∙ e))

      same : get_or table' r 0 ≡ k + 1
      same = get_or-set_same table r (k + 1) 0 fits

      taken : (j : ℕ) → get_or table j 0 ≢ 0 → get_or table' j 0 ≢ 0
      taken j d z = d (sym (other j d) ∙ z)

      kept_stored : (m : ℕ) → m < k → Stored ns' table' m
      kept_stored m h =
          let F = I.stored m h in
          let q : point_in ns' m ≡ point_in ns m = put_other ns k p m (omega arith) in
          let s : hash_of (point_in ns' m) ≡ hash_of (point_in ns m) = ap hash_of q in
          record {
            place = F.place;
            entry = other F.place (λ z. absurd (omega (arith, F.entry))) ∙ F.entry;
            after = omega (arith, F.after);
            run = λ j a b. taken j (F.run j (omega arith) b);
          }

      new_stored : Stored ns' table' k
      new_stored =
          let s : hash_of (point_in ns' k) ≡ hash_of p = ap hash_of (put_same ns k p room) in
          record { place = r; entry = same; after = omega (arith, E.probed.after); run = λ j a b. taken j (E.probed.run j (omega arith) b).0 }

      pub one_indexed : Indexed (with_point ns k p) (set table r (k + 1)) (k + 1)
      one_indexed =
          record {
            named = λ j. named j (ℕ_discrete j r);
            empty = λ j h.
                get_or-set_other table r j (k + 1) 0 (λ q. absurd (omega (arith, ends≤))) ∙ I.empty j (omega arith);
            stored = λ m h. stored m (dec_lt m k) h;
          }
        where
          named : (j : ℕ) → Dec (j ≡ r) → get_or table' j 0 ≤ k + 1
          named j (yes q) = omega (arith, ap (λ i. get_or table' i 0) q, same)
          named j (no d) = omega (arith, get_or-set_other table r j (k + 1) 0 d, I.named j)

          stored : (m : ℕ) → Dec (m < k) → m < k + 1 → Stored ns' table' m
          stored m (yes l) h = kept_stored m l
          stored m (no g) h = let q : k ≡ m = omega arith in subst (Stored ns' table') q new_stored
