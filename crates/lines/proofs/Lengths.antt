-- How long a listing is: at most ten bytes a number.
use Prim.Native.Nat.{ℕ, zero, suc, ◌+◌, ◌*◌, ◌-◌, ◌/◌, ◌^◌, ◌≤◌}
use mathlib.Core.Bool.{Bool, true, false, cond, ◌||◌}
use mathlib.Core.List.{List, [], ◌++◌}
use native.Mathlib.Omega.{arith}
use lib.Dec.{eqb, ltb}
use lib.ListN.{length, length-append}
use Rattle.mesh.specs.declared.Mesh.{Mesh}
use Rattle.mesh.specs.Tables.{Tables, none, corner, across, freed}
use Rattle.insertion.specs.Listed.{Listed}
use Rattle.insertion.specs.Listed.{Ended, Stopped, Refused}
use Rattle.lines.specs.Text.{concat_below, digit, decimal, space}
use Rattle.lines.specs.Listing.{box_line, neighbour_word, corner_words, neighbour_words, cell_line, entry_text, mesh_text, refused_line, stopped_line, list_text}
use Rattle.lines.specs.Inner.{entries_listed, longest}

either : (b : Bool) (x y : List ℕ) (k : ℕ) → length x ≤ k → length y ≤ k → length (cond b x y) ≤ k
either true x y k h l = h
either false x y k h l = l

concat_at_most : (f : ℕ → List ℕ) (k : ℕ) → ((i : ℕ) → length (f i) ≤ k) → (n : ℕ) → length (concat_below n f) ≤ n * k
unfolding concat_below
concat_at_most f k h zero = omega arith
concat_at_most f k h (suc n) = omega (arith, concat_at_most f k h n, h n, length-append (concat_below n f) (f n))

digit_at_most : (k p : ℕ) → length (digit k p) ≤ 1
unfolding digit
digit_at_most k p = either (eqb p 0 || ltb 0 (k / 10 ^ p)) _ [] 1 (omega arith) (omega arith)

pub decimal_at_most : (k : ℕ) → length (decimal k) ≤ 10
unfolding decimal
decimal_at_most k = omega (arith, concat_at_most (λ i. digit k (9 - i)) 1 (λ i. digit_at_most k (9 - i)) 10)

neighbour_at_most : (v : ℕ) → length (neighbour_word v) ≤ 11
unfolding neighbour_word
neighbour_at_most v = either (eqb v none) _ (space ++ decimal v) 11 (omega arith) (omega (arith, decimal_at_most v))

cell_at_most : (t : Tables) (c : ℕ) → length (cell_line t c) ≤ 99
unfolding cell_line corner_words neighbour_words
cell_at_most t c =
    let a = concat_at_most (λ i. space ++ decimal (corner t c i)) 11 (λ i. omega (arith, decimal_at_most (corner t c i))) 4 in
    let b = concat_at_most (λ i. neighbour_word (across t (4 * c + i))) 11 (λ i. neighbour_at_most (across t (4 * c + i))) 4 in
    simp length-append (omega (arith, decimal_at_most c))

entry_at_most : (t : Tables) (c : ℕ) → length (entry_text t c) ≤ 99
unfolding entry_text
entry_at_most t c = either (freed t c) [] (cell_line t c) 99 (omega arith) (cell_at_most t c)

box_at_most : (m : Mesh) → length (box_line m) ≤ 72
unfolding box_line
box_at_most m =
    simp length-append
    (omega (arith, decimal_at_most m.x, decimal_at_most m.y, decimal_at_most m.z, decimal_at_most m.points, decimal_at_most m.cells))

stopped_at_most : (place e : ℕ) → length (stopped_line place e) ≤ 30
unfolding stopped_line
stopped_at_most place e = simp length-append (omega (arith, decimal_at_most place, decimal_at_most e))

pub mesh_fits : (m : Mesh) (t : Tables) → m.used ≤ 4096 → length (mesh_text m t) + 30 ≤ longest
unfolding mesh_text
mesh_fits m t h = omega (arith, length-append (box_line m) (concat_below m.used (entry_text t)), box_at_most m, concat_at_most (entry_text t) 99 (entry_at_most t) m.used)

pub stopped_fits : (m : Mesh) (t : Tables) (place e : ℕ) → m.used ≤ 4096 → length (mesh_text m t ++ stopped_line place e) ≤ longest
stopped_fits m t place e h = omega (arith, length-append (mesh_text m t) (stopped_line place e), mesh_fits m t h, stopped_at_most place e)

pub refused_fits : (e : ℕ) → length (refused_line e) ≤ longest
unfolding refused_line
refused_fits e = simp length-append (omega (arith, decimal_at_most e))

pub list_fits : (r : Listed) (t : Tables) → entries_listed r ≤ 4096 → length (list_text r t) ≤ longest
unfolding list_text entries_listed
list_fits (Ended m k) t h = omega (arith, mesh_fits m t h)
list_fits (Stopped m place e) t h = stopped_fits m t place e h
list_fits (Refused e) t h = refused_fits e
