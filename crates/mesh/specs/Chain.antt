-- Document 02 §11: freed entries and their chain (a free list).
use Rattle.std.specs.Prelude.{ℕ, zero, suc, ◌+◌, ◌*◌, ◌-◌, ◌<◌, Bool, false, ◌&&◌, List, [], ◌∷◌, ◌≢◌, ◌≡◌, ltb, eqb, length, get_or}
use Rattle.arith.specs.Table.{all_below}
use Rattle.mesh.specs.declared.Mesh.{Mesh}
use Rattle.mesh.specs.Tables.{Tables, none, across, freed, live}

-- ---- as propositions

-- l is the chain from the number h: 'its first neighbour entry names the next, 65,535 at the end'
pub data Chain (t : Tables) : ℕ → List ℕ → Type 0 where
  end : Chain t none []
  link : {c : ℕ} {l : List ℕ} → c ≢ none → Chain t (across t (4 * c)) l → Chain t c (c ∷ l)

-- freed entries below n, each one time
pub record Spare (t : Tables) (n : ℕ) (ch : List ℕ) : Type 0 where
  pub below : (k : ℕ) → k < length ch → get_or ch k 0 < n
  pub dead : (k : ℕ) → k < length ch → live t (get_or ch k 0) ≡ false
  pub once : (j k : ℕ) → j < length ch → k < length ch → get_or ch j 0 ≡ get_or ch k 0 → j ≡ k

-- ch is the chain from h of tables with n entries in use: 'every freed entry on it, each one time, and nothing else'; of a freed entry's
-- neighbours the 'other three are 65,535'
pub record Chained (t : Tables) (n h : ℕ) (ch : List ℕ) : Type 0 where
  pub path : Chain t h ch
  pub spare : Spare t n ch
  pub all : (c : ℕ) → c < n → live t c ≡ false → (k : ℕ) × (k < length ch) × (get_or ch k 0 ≡ c)
  pub bare : (c i : ℕ) → c < n → live t c ≡ false → 0 < i → i < 4 → across t (4 * c + i) ≡ none

-- ---- as they compute

-- entry c is freed, and names nothing but the next on the chain
unfoldable pub freed_entry : Tables → ℕ → Bool
freed_entry t c = freed t c && all_below 3 (λ i. eqb (across t (4 * c + (i + 1))) none)

-- k entries of the chain from h
unfoldable pub chain_from : Tables → ℕ → ℕ → List ℕ
chain_from t zero h = []
chain_from t (suc k) h = h ∷ chain_from t k (across t (4 * h))

-- The chain from h has just k entries, each freed and among n in use. Where k are freed, each is on it one time (`chain_of_lem` in
-- proofs/Chains): a chain that comes back to an entry has no end.
unfoldable pub chain_ok : Tables → ℕ → ℕ → ℕ → Bool
chain_ok t n zero h = eqb h none
chain_ok t n (suc k) h = ltb h n && (freed_entry t h && chain_ok t n k (across t (4 * h)))

-- the chain of a record: as many entries as are in use and no cells
unfoldable pub chain_of : Mesh → Tables → List ℕ
chain_of m t = chain_from t (m.used - m.cells) m.chain
