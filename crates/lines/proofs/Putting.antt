-- Text written piece by piece.
use Prim.Native.Nat.{ℕ, zero, suc, ◌+◌, ◌/◌, ◌%◌, ◌^◌, ◌≤◌, ◌<◌}
use mathlib.Core.Bool.{Bool, true, false, ◌||◌, cond}
use mathlib.Core.List.{List, [], ◌∷◌, ◌++◌, append_assoc}
use mathlib.Core.Path.{◌≡◌, refl, sym, ap, ◌∙◌, subst}
use native.Mathlib.Omega.{arith}
use native.Mathlib.Decide.{ℕ_discrete}
use native.Mathlib.Numerals.{add-one}
use native.Mathlib.Nat.{add-zero}
use lib.Dec.{eqb, ltb}
use lib.ListN.{length, set, take, drop, length-append, length-take, length-drop, take-append-drop}
use lib.Seq.{take_at, drop_at, drop-drop, set_split, length-take-le, take-length, paste}
use Rattle.mesh.specs.Tables.{Tables, freed}
use Rattle.lines.specs.Text.{concat_below, digit}
use Rattle.lines.specs.Listing.{cell_line, entry_text}
use Rattle.lines.specs.Inner.{put, Wrote}

module _ {s out out' : List ℕ} {at r : ℕ} (W : Wrote s out at r out') where
  pub same_room : length out' ≡ length out
  unfolding put
  same_room =
      ap length W.output ∙
      (length-append (take at out) (s ++ drop (at + length s) out) ∙
      omega (arith, W.within, length-append s (drop (at + length s) out), length-drop (at + length s) out, length-take at out))

  pub reads_as : {b : List ℕ} → s ≡ b → Wrote b out at r out'
  reads_as e = subst (λ b. Wrote b out at r out') e W

  -- one text after another
  pub then : {b out'' : List ℕ} {r' : ℕ} → Wrote b out' r r' out'' → Wrote (s ++ b) out at r' out''
  unfolding put
  then {b} {out''} {r'} U =
      record {
        within = omega (arith, U.within, W.next_is, same_room, length-append s b);
        output = U.output ∙ (λ i. first i ++ (b ++ last i)) ∙ (append_assoc (take at out) s (b ++ drop (at + length (s ++ b)) out) ∙ ap (λ l. take at out ++ l) (sym (append_assoc s b (drop (at + length (s ++ b)) out))));
        next_is = U.next_is ∙ (ap (λ n. n + length b) W.next_is ∙ omega (arith, length-append s b));
      }
    where
      rest : List ℕ
      rest = drop (at + length s) out

      front : length (take at out) ≡ at
      front = length-take-le at out (omega (arith, W.within))

      here : out' ≡ (take at out ++ s) ++ rest
      here = W.output ∙ sym (append_assoc (take at out) s rest)

      size : length (take at out ++ s) ≡ r
      size = length-append (take at out) s ∙ (ap (λ n. n + length s) front ∙ sym W.next_is)

      first : take r out' ≡ take at out ++ s
      first = ap (λ l. take r l) here ∙ take_at (take at out ++ s) rest r size

      last : drop (r + length b) out' ≡ drop (at + length (s ++ b)) out
      last =
          let e : at + length s + length b ≡ at + length (s ++ b) = omega (arith, length-append s b) in
          sym (drop-drop (length b) r out') ∙
          (ap (λ l. drop (length b) l) (ap (λ l. drop r l) here ∙ drop_at (take at out ++ s) rest r size) ∙
          (drop-drop (length b) (at + length s) out ∙ ap (λ n. drop n out) e))

  -- the next text has its room
  pub fits_then : (b : List ℕ) → at + length (s ++ b) ≤ length out → r + length b ≤ length out'
  fits_then b h = omega (arith, length-append s b, W.next_is, same_room)

pub wrote_none : (out : List ℕ) (at : ℕ) → at ≤ length out → Wrote [] out at at out
unfolding put
wrote_none out at h =
    record { within = omega arith; output = sym (ap (λ n. take at out ++ drop n out) (add-zero at) ∙ take-append-drop at out); next_is = sym (add-zero at) }

pub wrote_byte : (out : List ℕ) (at b : ℕ) → at < length out → Wrote (b ∷ []) out at (at + 1) (set out at b)
unfolding put
wrote_byte out at b h = record { within = omega arith; output = set_split out at b h ∙ ap (λ n. take at out ++ b ∷ drop n out) (sym (add-one at)); next_is = refl }

pub wrote_copy : (out s : List ℕ) (at : ℕ) {out' : List ℕ} → at + length s ≤ length out → out' ≡ paste out at s (length s) → Wrote s out at (at + length s) out'
unfolding put
wrote_copy out s at h e =
    record {
      within = h;
      output = e ∙ (ap (λ l. take at out ++ l ++ drop (at + length s) out) (take-length s) ∙ append_assoc (take at out) s (drop (at + length s) out));
      next_is = refl;
    }

-- ---- concat_below texts

module _ (f : ℕ → List ℕ) where
  pub concat_more : (i : ℕ) → concat_below (i + 1) f ≡ concat_below i f ++ f i
  unfolding concat_below
  concat_more i = ap (λ n. concat_below n f) (add-one i)

  pub concat_fits : (n i : ℕ) → i < n → length (concat_below i f ++ f i) ≤ length (concat_below n f)
  unfolding concat_below
  concat_fits zero i h = absurd (omega arith)
  concat_fits (suc n) i h = go (ℕ_discrete i n) (λ l. concat_fits n i l)
    where
      go : Dec (i ≡ n) → (i < n → length (concat_below i f ++ f i) ≤ length (concat_below n f)) → length (concat_below i f ++ f i) ≤ length (concat_below (suc n) f)
      go (yes e) r = unfold concat_below in subst (λ k. length (concat_below i f ++ f i) ≤ length (concat_below k f ++ f k)) e (omega arith)
      go (no d) r = unfold concat_below in omega (arith, r (omega arith), length-append (concat_below n f) (f n))

-- i of n texts are written
pub record Concatenating (f : ℕ → List ℕ) (n : ℕ) (out : List ℕ) (at i r : ℕ) (out' : List ℕ) : Type 0 where
  pub room : at + length (concat_below n f) ≤ length out
  pub i≤ : i ≤ n
  pub wrote : Wrote (concat_below i f) out at r out'

pub none_written : (f : ℕ → List ℕ) (n : ℕ) (out : List ℕ) (at : ℕ) → at + length (concat_below n f) ≤ length out → Concatenating f n out at 0 at out
unfolding concat_below
none_written f n out at h = record { room = h; i≤ = omega arith; wrote = wrote_none out at (omega arith) }

module _ {f : ℕ → List ℕ} {n : ℕ} {out : List ℕ} {at i r : ℕ} {out' : List ℕ} (J : Concatenating f n out at i r out') where
  one_fits : i < n → at + length (concat_below i f ++ f i) ≤ length out
  one_fits h = omega (arith, J.room, concat_fits f n i h)

  pub next_fits : i < n → r + length (f i) ≤ length out'
  next_fits h = fits_then J.wrote (f i) (one_fits h)

  pub written_long : length out' ≡ length out
  written_long = same_room J.wrote

  pub one_written : i < n → {r' : ℕ} {out'' : List ℕ} → Wrote (f i) out' r r' out'' → Concatenating f n out at (i + 1) r' out''
  one_written h {r'} {out''} W =
      record {
        room = J.room;
        i≤ = omega arith;
        wrote = subst (λ l. Wrote l out at r' out'') (sym (concat_more f i)) (then J.wrote W);
      }

  pub all_written : n ≤ i → Wrote (concat_below n f) out at r out'
  all_written h = let e : i ≡ n = omega (arith, J.i≤) in subst (λ k. Wrote (concat_below k f) out at r out') e J.wrote

-- ---- a digit, with q for 10 ^ p and b for the test

ten_above : (p : ℕ) → 0 < 10 ^ p
ten_above zero = omega arith
ten_above (suc p) = omega (arith, ten_above p)

pub power_above : {q : ℕ} (p : ℕ) → q ≡ 10 ^ p → 0 < q
power_above p e = rw e (ten_above p)

module _ (k p q : ℕ) (e : q ≡ 10 ^ p) {b : Bool} (d : b ≡ (eqb p 0 || ltb 0 (k / q))) where
  shown : b ≡ true → (48 + k / q % 10) ∷ [] ≡ digit k p
  unfolding digit
  shown h = rw (← e) (rw (sym d ∙ h))

  hidden : b ≡ false → [] ≡ digit k p
  unfolding digit
  hidden h = rw (← e) (rw (sym d ∙ h))

  module _ (out : List ℕ) (at : ℕ) where
    pub digit_hidden : b ≡ false → at + length (digit k p) ≤ length out → Wrote (digit k p) out at at out
    digit_hidden h l = subst (λ s. Wrote s out at at out) (hidden h) (wrote_none out at (omega arith))

    pub digit_fits : b ≡ true → at + length (digit k p) ≤ length out → at < length out
    digit_fits h l = omega (arith, ap length (shown h))

    pub digit_shown : b ≡ true → at + length (digit k p) ≤ length out → Wrote (digit k p) out at (at + 1) (set out at (48 + k / q % 10))
    digit_shown h l = subst (λ s. Wrote s out at (at + 1) (set out at (48 + k / q % 10))) (shown h) (wrote_byte out at (48 + k / q % 10) (digit_fits h l))

-- ---- an entry of the tables

module _ (t : Tables) (c : ℕ) (out : List ℕ) (at : ℕ) where
  pub entry_none : freed t c ≡ true → at + length (entry_text t c) ≤ length out → Wrote (entry_text t c) out at at out
  unfolding entry_text
  entry_none e h = rw e (wrote_none out at (omega (arith, h, ap (λ b. at + length (cond b [] (cell_line t c))) e)))

  pub entry_line : freed t c ≡ false → {r : ℕ} {out' : List ℕ} → Wrote (cell_line t c) out at r out' → Wrote (entry_text t c) out at r out'
  unfolding entry_text
  entry_line e W = rw e W

pub entry_room : (t : Tables) (c at room : ℕ) → freed t c ≡ false → at + length (entry_text t c) ≤ room → at + length (cell_line t c) ≤ room
unfolding entry_text
entry_room t c at room e h = omega (arith, h, ap (λ b. at + length (cond b [] (cell_line t c))) e)
