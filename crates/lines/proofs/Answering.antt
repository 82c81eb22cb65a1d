-- From what the calls answer and leave to the text that is printed.
use Prim.Native.Nat.{ℕ, ◌+◌, ◌*◌, ◌≤◌, ◌<◌}
use mathlib.Core.Bool.{Bool, true, false, cond}
use mathlib.Core.List.{List, [], ◌++◌}
use mathlib.Core.Path.{◌≡◌, refl, sym, ap, ap₂, ◌∙◌, subst}
use native.Mathlib.Omega.{arith}
use native.Mathlib.Nat.{zero-add}
use borrow.Author.Tests.{lt-ltb, le-ltb}
use lib.Dec.{ltb}
use lib.ListN.{length, take, drop, replicate, length-append, length-take, length-replicate}
use lib.Seq.{take_at, length-take-le}
use Rattle.mesh.specs.declared.Mesh.{Mesh}
use Rattle.mesh.specs.Start.{Started}
use Rattle.mesh.specs.Start.{Accepted as StartAccepted, Refused as StartRefused}
use Rattle.mesh.specs.Tables.{Tables, cell_capacity, cleared, corner, across, freed, tables}
use Rattle.mesh.specs.Start.{over, start_answer, start_tables, StartLeaves}
use Rattle.mesh.specs.Inner.{Celled}
use Rattle.insertion.specs.Listed.{Listed}
use Rattle.insertion.specs.Listed.{Ended, Stopped, Refused as ListRefused}
use Rattle.insertion.specs.List.{list_call, ListLeaves}
use Rattle.calls.specs.Calls.{record_after_list}
use Rattle.nodefile.specs.declared.Header.{Header}
use Rattle.nodefile.specs.Read.{Read}
use Rattle.nodefile.specs.Read.{Nodes, Refused as ReadRefused}
use Rattle.nodefile.specs.Write.{Written}
use Rattle.nodefile.specs.Write.{Bytes, Refused}
use Rattle.nodefile.specs.Read.{header, nodes, read_answer, ReadLeaves}
use Rattle.nodefile.proofs.Answers.{Accepted}
use Rattle.nodefile.proofs.RoundTrips.{read, nodes_read}
use Rattle.roundtrip.proofs.StartedList.{claim_after_list, claimed_mesh}
use Rattle.lines.specs.Listing.{corner_words, neighbour_words, cell_line, entry_text, mesh_text, refused_line, stopped_line, list_text, nodes_text, start_text, box_text, read_text, room, listing, listing_answer, listing_output, ListingLeaves}
use Rattle.lines.specs.Inner.{put, Wrote, FromStart, entries_listed, longest}
use Rattle.lines.proofs.Putting.{same_room, fits_then}
use Rattle.lines.proofs.Lengths.{mesh_fits, stopped_fits, refused_fits, list_fits}

-- ---- the answer of a list as text

module _ (r : Listed) {cs bs : List ℕ} (C : Celled cs (entries_listed r)) (D : Celled bs (entries_listed r)) where
  printable : (m : Mesh) {room : ℕ} → entries_listed r ≡ m.used → longest ≤ room →
      Celled cs m.used × Celled bs m.used × (length (mesh_text m (tables [] cs bs)) ≤ room)
  printable m e h = (
    subst (Celled cs) e C,
    subst (Celled bs) e D,
    omega (arith, mesh_fits m (tables [] cs bs) (omega (arith, C.cells_few, e))),
  )

  module _ {m : Mesh} {k : ℕ} (e : r ≡ Ended m k) where
    pub ended_printable : {room : ℕ} → longest ≤ room → Celled cs m.used × Celled bs m.used × (length (mesh_text m (tables [] cs bs)) ≤ room)
    unfolding entries_listed
    ended_printable h = printable m (ap entries_listed e) h

    pub ended_text : mesh_text m (tables [] cs bs) ≡ list_text r (tables [] cs bs)
    unfolding list_text
    ended_text = ap (λ r. list_text r (tables [] cs bs)) (sym e)

  module _ {m : Mesh} {place k : ℕ} (e : r ≡ Stopped m place k) where
    pub stopped_printable : {room : ℕ} → longest ≤ room → Celled cs m.used × Celled bs m.used × (length (mesh_text m (tables [] cs bs)) ≤ room)
    unfolding entries_listed
    stopped_printable h = printable m (ap entries_listed e) h

    -- the last line has its room
    pub stopped_room : {out out' : List ℕ} {next : ℕ} → longest ≤ length out → Wrote (mesh_text m (tables [] cs bs)) out 0 next out' →
        next + length (stopped_line place k) ≤ length out'
    unfolding entries_listed
    stopped_room h W =
        let q : entries_listed r ≡ m.used = ap entries_listed e in
        let l = stopped_fits m (tables [] cs bs) place k (omega (arith, C.cells_few, q)) in
        fits_then W (stopped_line place k) (omega arith)

    pub stopped_text : mesh_text m (tables [] cs bs) ++ stopped_line place k ≡ list_text r (tables [] cs bs)
    unfolding list_text
    stopped_text = ap (λ r. list_text r (tables [] cs bs)) (sym e)

pub refused_text : {r : Listed} (t : Tables) {k : ℕ} → r ≡ ListRefused k → refused_line k ≡ list_text r t
unfolding list_text
refused_text t e = ap (λ r. list_text r t) (sym e)

-- ---- a list in a started box

-- the text does not name the points
without_points : (r : Listed) (ps cs ns : List ℕ) → list_text r (tables [] cs ns) ≡ list_text r (tables ps cs ns)
unfolding list_text mesh_text entry_text cell_line corner_words neighbour_words freed corner across
without_points (Ended m k) ps cs ns = refl
without_points (Stopped m place k) ps cs ns = refl
without_points (ListRefused k) ps cs ns = refl

no_more_entries : (m : Mesh) (r : Listed) → entries_listed r ≤ (record_after_list m r).used
unfolding entries_listed record_after_list
no_more_entries m (Ended m' k) = omega arith
no_more_entries m (Stopped m' place k) = omega arith
no_more_entries m (ListRefused k) = omega arith

module _ {m : Mesh} {t : Tables} (S : FromStart m t) {ws ns : List ℕ} {r : Listed} {ps cs bs ws' : List ℕ} (L : ListLeaves m t ws ns r (tables ps cs bs) ws') where
  pub listed_entries : Celled cs (entries_listed r) × Celled bs (entries_listed r)
  unfolding cell_capacity
  listed_entries =
      let h = (claimed_mesh (claim_after_list S.start L)).mesh.cells≤ in
      let l = no_more_entries m r in
      (record { cells_few = omega arith; cells_fit = omega arith }, record { cells_few = omega arith; cells_fit = omega arith })

  pub listed_text : list_text r (tables [] cs bs) ≡ nodes_text m t (length ws) ns
  listed_text = without_points r ps cs bs ∙ ap₂ list_text L.answer L.tables

-- ---- a start

module _ {X Y Z : ℕ} {t t' : Tables} {ws ws' : List ℕ} {r : Started} (L : StartLeaves X Y Z t ws r t' ws') where
  start_text_is : (ns : List ℕ) → start_text r t' (length ws) ns ≡ box_text X Y Z t (length ws) ns
  start_text_is ns = ap₂ (λ r t. start_text r t (length ws) ns) L.answer L.tables

  module _ {m : Mesh} (e : r ≡ StartAccepted m) where
    pub from_start : FromStart m t'
    from_start = record { X = X; Y = Y; Z = Z; before = t; work = ws; work' = ws'; start = subst (λ r. StartLeaves X Y Z t ws r t' ws') e L }

    -- the list is lent the work area that the start cleared
    pub accepted_text : (ns : List ℕ) → nodes_text m t' (length ws') ns ≡ box_text X Y Z t (length ws) ns
    unfolding start_text
    accepted_text ns =
        ap (λ w. nodes_text m t' w ns) (ap length L.work ∙ length-replicate (length ws) 0) ∙
        (ap (λ r. start_text r t' (length ws) ns) (sym e) ∙ start_text_is ns)

  pub start_refused_text : (ns : List ℕ) {k : ℕ} → r ≡ StartRefused k → refused_line k ≡ box_text X Y Z t (length ws) ns
  unfolding start_text
  start_refused_text ns e = ap (λ r. start_text r t' (length ws) ns) (sym e) ∙ start_text_is ns

-- ---- a file

module _ {file out out' : List ℕ} {r : Read} (L : ReadLeaves file out r out') where
  pub read_refused_text : (t : Tables) (w : ℕ) {k : ℕ} → r ≡ ReadRefused k → refused_line k ≡ read_text (read_answer file (length out)) t w (nodes file)
  unfolding read_text
  read_refused_text t w e = ap (λ r. read_text r t w (nodes file)) (sym e ∙ L.answer)

  module _ {h : Header} (e : r ≡ Nodes h) where
    whole : Accepted file (length out) × (h ≡ header file) × (out' ≡ over (nodes file) out)
    whole = read file out (subst (λ r. ReadLeaves file out r out') e L)

    counted : length (nodes file) ≡ 3 * h.count
    counted = nodes_read file whole.0 ∙ ap (λ (k : Header). 3 * k.count) (sym whole.1)

    -- the nodes stand at the front of the reader's output
    front : take (3 * h.count) out' ≡ nodes file
    front = ap (λ l. take (3 * h.count) l) whole.2 ∙ take_at (nodes file) (drop (length (nodes file)) out) (3 * h.count) counted

    pub front_length : 3 * h.count ≡ length (take (3 * h.count) out')
    front_length = sym (ap length front ∙ counted)

    pub front_within : 3 * h.count ≤ length out'
    front_within = omega (arith, front_length, length-take (3 * h.count) out')

    pub read_text_lem : (t : Tables) (w : ℕ) →
        box_text h.x h.y h.z t w (take (3 * h.count) out') ≡ read_text (read_answer file (length out)) t w (nodes file)
    unfolding read_text
    read_text_lem t w = ap (λ ns. box_text h.x h.y h.z t w ns) front ∙ ap (λ r. read_text r t w (nodes file)) (sym e ∙ L.answer)

-- ---- the whole input

module _ (file : List ℕ) where
  pub over_limit : 65536 < length file → refused_line 9 ≡ listing file
  unfolding listing
  over_limit h = rw (lt-ltb 65536 (length file) h)

  pub within_limit : length file ≤ 65536 → {t : Tables} {a b : ℕ} → t ≡ room → a ≡ 3048 → b ≡ 12288 → read_text (read_answer file a) t b (nodes file) ≡ listing file
  unfolding listing
  within_limit h e f g = rw (le-ltb 65536 (length file) h, e, f, g)

-- ---- no listing is longer than `longest`

nodes_fit : {m : Mesh} {t : Tables} → FromStart m t → (w : ℕ) (ns : List ℕ) → length (nodes_text m t w ns) ≤ longest
nodes_fit {m} {t} S w ns =
    let ws : List ℕ = replicate w 0 in
    let r = list_call m t (length ws) ns in
    let L : ListLeaves m t ws ns r.answer r.tables (cleared ws) = record { answer = refl; tables = refl; work = refl } in
    let h = list_fits r.answer r.tables (listed_entries S L).0.cells_few in
    subst (λ w. length (nodes_text m t w ns) ≤ longest) (length-replicate w 0) h

start_fits : (X Y Z : ℕ) (t : Tables) (w : ℕ) (ns : List ℕ) → length (box_text X Y Z t w ns) ≤ longest
unfolding start_text
start_fits X Y Z t w ns = subst (λ w. length (box_text X Y Z t w ns) ≤ longest) (length-replicate w 0) (go (start_answer X Y Z t (length ws)) refl)
  where
    ws : List ℕ
    ws = replicate w 0

    t' : Tables
    t' = start_tables X Y Z t (length ws)

    go : (r : Started) → r ≡ start_answer X Y Z t (length ws) → length (start_text r t' (length ws) ns) ≤ longest
    go (StartAccepted m) e = nodes_fit record { X = X; Y = Y; Z = Z; before = t; work = ws; work' = cleared ws; start = record { answer = e; tables = refl; work = refl } } (length ws) ns
    go (StartRefused k) e = refused_fits k

pub listing_fits : (file : List ℕ) → length (listing file) ≤ longest
unfolding listing read_text
listing_fits file = go (ltb 65536 (length file)) (read_answer file 3048)
  where
    read_fits : (r : Read) → length (read_text r room 12288 (nodes file)) ≤ longest
    read_fits (Nodes h) = start_fits h.x h.y h.z room 12288 (nodes file)
    read_fits (ReadRefused k) = refused_fits k

    go : (b : Bool) (r : Read) → length (cond b (refused_line 9) (read_text r room 12288 (nodes file))) ≤ longest
    go true r = refused_fits 9
    go false r = read_fits r

-- ---- the listing, copied to the output

module _ (file : List ℕ) {text text' : List ℕ} {n : ℕ} (T : Wrote (listing file) text 0 n text') where
  pub listing_length : n ≡ length (listing file)
  listing_length = omega (arith, T.next_is)

  pub listing_within : n ≤ length text'
  listing_within = omega (arith, T.next_is, T.within, same_room T)

  pub text_length : n ≡ length (take n text')
  text_length = sym (length-take-le n text' listing_within)

  -- what was written from the front on stands there
  text_is : take n text' ≡ listing file
  unfolding put
  text_is = ap (take n) T.output ∙ take_at (listing file) (drop (0 + length (listing file)) text) n (sym listing_length)

  pub too_short : (out : List ℕ) → length out < n → ListingLeaves file out (Refused 10) out
  unfolding listing_answer listing_output
  too_short out h =
      let e = lt-ltb (length out) (length (listing file)) (omega (arith, listing_length)) in
      record { answer = rw e; output = rw e }

  pub long_enough : (out : List ℕ) → n ≤ length out → {out' : List ℕ} {r : ℕ} → Wrote (take n text') out 0 r out' → ListingLeaves file out (Bytes n) out'
  unfolding listing_answer listing_output put
  long_enough out h W =
      let e = le-ltb (length out) (length (listing file)) (omega (arith, listing_length)) in
      record { answer = rw e (ap Bytes listing_length); output = rw e (W.output ∙ (ap (λ s. s ++ drop (0 + length s) out) text_is ∙ ap (λ k. listing file ++ drop k out) (zero-add (length (listing file))))) }

-- what was written lies within the output
pub bytes_within : {file out out' : List ℕ} {r : Written} {n : ℕ} → ListingLeaves file out r out' → r ≡ Bytes n → n ≤ length out'
unfolding listing_answer listing_output
bytes_within {file} {out} {out'} {r} {n} L e = go (ltb (length out) (length (listing file))) (sym e ∙ L.answer) L.output
  where
    go : (b : Bool) → Bytes n ≡ cond b (Refused 10) (Bytes (length (listing file))) → out' ≡ cond b out (over (listing file) out) → n ≤ length out'
    go true a o = let z : ◌≡◌ {A = ℕ} 0 1 = cc in absurd (omega arith)
    go false a o =
        let q : n ≡ length (listing file) = cc in
        omega (arith, q, ap length o, length-append (listing file) (drop (length (listing file)) out))
