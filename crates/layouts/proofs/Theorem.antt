-- THE THEOREM: after every sequence from an accepted start both layouts hold the same mesh, and answer alike.
use mathlib.Core.Path.{◌≡◌, refl, sym, subst}
use Rattle.mesh.specs.declared.Mesh.{Mesh}
use Rattle.mesh.specs.Tables.{Tables}
use Rattle.calls.specs.Calls.{Build, Call, outcome, look_outcome}
use Rattle.insertion.proofs.Looking.{tables_stay}
use Rattle.layouts.specs.Packed.{packed_of, packed_outcome}
use Rattle.layouts.specs.Histories.{Partners, both_by_sphere, both_by_answers, both_by_marks, both_by_list, both_look, Histories, started as begun, called}
use Rattle.layouts.specs.Same.{SameAnswer, SameInBoth}
use Rattle.layouts.proofs.Nodes.{here, Both}
use Rattle.layouts.proofs.Bytes.{bytes_there, bytes_back}
use Rattle.layouts.proofs.Starts.{start_same}
use Rattle.layouts.proofs.Insertions.{SameBuilds, sphere_same, answers_same, marked_same}
use Rattle.layouts.proofs.Looking.{look_same, check_same, locate_same}
use Rattle.layouts.proofs.Lists.{list_same}

-- ---- a call and its partner

call_same : {m : Mesh} {t t₁ : Tables} (B : Both m t t₁) {c d : Call} → Partners (here m t) (here (packed_of m) t₁) c d →
    SameBuilds (outcome (here m t) c).after (packed_outcome (here (packed_of m) t₁) d).after
unfolding outcome packed_outcome look_outcome
call_same B (both_by_sphere w p h) = (sphere_same B w h p).after
call_same B (both_by_answers w p {bytes = bytes} {bytes₁ = bytes₁} h F) = (answers_same B w h p bytes bytes₁ F).after
call_same B (both_by_marks w p {marks = marks} {marks₁ = marks₁} h F z) = (marked_same B w h p marks marks₁ F z).after
call_same B (both_by_list w ns h) = (list_same B w h ns).after
call_same {m} {t} {t₁} B (both_look w p {marks = marks} {marks₁ = marks₁} h L) =
    rw (tables_stay m t w p marks, tables_stay (packed_of m) t₁ w p marks₁) record { counts = refl; both = B }

answer_same : {m : Mesh} {t t₁ : Tables} (B : Both m t t₁) {c d : Call} (q : Partners (here m t) (here (packed_of m) t₁) c d) → SameAnswer q
unfolding SameAnswer
answer_same B (both_by_sphere w p h) = (sphere_same B w h p).answers
answer_same B (both_by_answers w p {bytes = bytes} {bytes₁ = bytes₁} h F) = (answers_same B w h p bytes bytes₁ F).answers
answer_same B (both_by_marks w p {marks = marks} {marks₁ = marks₁} h F z) = (marked_same B w h p marks marks₁ F z).answers
answer_same B (both_by_list w ns h) = (list_same B w h ns).answers
answer_same B (both_look w p {marks = marks} {marks₁ = marks₁} h L) = look_same B w h p marks marks₁ L

-- ---- the theorem

as_packed : {a b : Build} → SameBuilds a b → b ≡ here (packed_of a.mesh) b.tables
as_packed {b = b} S i = record { mesh = S.counts i; tables = b.tables }

all_same : {a b : Build} → Histories a b → SameBuilds a b
all_same (begun X Y Z t t₁ w L ok) = start_same X Y Z t t₁ w L ok
all_same (called {a = a} {b = b} {c = c} {d = d} H q) = go (all_same H)
  where
    go : SameBuilds a b → SameBuilds (outcome a c).after (packed_outcome b d).after
    go S = subst (λ b. Partners a b c d → SameBuilds (outcome a c).after (packed_outcome b d).after) (sym (as_packed S)) (call_same S.both) q

claim : {m : Mesh} {t t₁ : Tables} → Both m t t₁ → SameInBoth (here m t) (here (packed_of m) t₁)
claim {m} {t} {t₁} B = record {
  mesh = record {
    counts = refl;
    lengths = B.lengths;
    points = B.alike.points;
    there = B.alike.there;
    back = λ d h. B.alike.back d record { below = h; lives = B.full d h };
    neighbours = B.alike.neighbours;
  };
  answers = answer_same B;
  locates = λ w p h. locate_same B w h p;
  checks = λ w h. check_same B w h;
  partner_bytes = bytes_there B.alike;
  partner_bytes_back = bytes_back B.alike;
}

pub same_in_both_layouts : {a b : Build} → Histories a b → SameInBoth a b
same_in_both_layouts {a} H = let S = all_same H in subst (SameInBoth a) (sym (as_packed S)) (claim S.both)
