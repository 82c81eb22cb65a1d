-- Document 02 §6: looking at an insertion by the sphere test, and inserting with the marks of a look.
use Rattle.std.specs.Prelude.{ℕ, Bool, true, false, ◌&&◌, cond, List, [], ◌∷◌, ltb, eqb, length}
use Rattle.arith.specs.Table.{tabulate}
use Rattle.geometry.specs.declared.Position.{Position}
use Rattle.mesh.specs.declared.Mesh.{Mesh}
use Rattle.mesh.specs.Tables.{Tables}
use Rattle.mesh.specs.Start.{over}
use Rattle.cavity.specs.Answers.{Answers, sphere}
use Rattle.cavity.specs.Cavity.{in_set}
use Rattle.insertion.specs.Inserted.{Inserted}
use Rattle.insertion.specs.Looked.{Looked}
use Rattle.insertion.specs.Looked.{Reported, Refused}
use Rattle.insertion.specs.Insertion.{Result, last_cavity, first_of, insert_refusal, report_of, insert_unless}

-- a byte for each of n entries
abbrev pub marks_of : ℕ → (ℕ → Bool) → List ℕ
marks_of n is_marked = tabulate n (λ c. cond (is_marked c) 1 0)

-- 'marks each cell of the corrected spot with byte 1, all other cells with 0'; 'marks go by entry up to the used length', and a freed entry's
-- 'mark is 0' (document 02 §11)
unfoldable pub cavity_marks : Mesh → Tables → Position → Answers → List ℕ
cavity_marks m t p a = marks_of m.used (in_set (last_cavity m t p a))

-- where the insertion's refusal is r: 'it is refused where the insertion would be', and with 10 if the marks have fewer bytes than
-- entries are in use
unfoldable pub look_refusal : ℕ → Mesh → List ℕ → ℕ
look_refusal r m marks = first_of r (cond (ltb (length marks) m.used) 10 0)

-- what a look answers, and the tables and marks that it leaves
pub record LookResult : Type 0 where
  pub answer : Looked
  pub tables : Tables
  pub marks : List ℕ

-- with the refusal r: 'A look answers the report and marks each cell .. and changes nothing else': marks beyond the used length stay as they
-- were, and all of them where it is refused
unfoldable pub look_unless : ℕ → Mesh → Tables → Position → List ℕ → LookResult
look_unless r m t p marks =
    cond (eqb r 0)
    record { answer = Reported (report_of m t p sphere); tables = t; marks = over (cavity_marks m t p sphere) marks }
    record { answer = Refused r; tables = t; marks = marks }

-- the call
unfoldable pub look_call : Mesh → Tables → ℕ → Position → List ℕ → LookResult
look_call m t w p marks = look_unless (look_refusal (insert_refusal m t w p sphere) m marks) m t p marks

-- bytes begins with all of expected; what follows is not read
unfoldable pub begins_with : List ℕ → List ℕ → Bool
begins_with [] bytes = true
begins_with (x ∷ expected) [] = false
begins_with (x ∷ expected) (b ∷ bytes) = eqb b x && begins_with expected bytes

-- where the plain insertion's refusal is r: 'goes through only if a look now would mark the same'; '14 if the marks differ or are too
-- few, after 8'
unfoldable pub marked_refusal : ℕ → Mesh → Tables → Position → Answers → List ℕ → ℕ
marked_refusal r m t p a marks = first_of r (cond (begins_with (cavity_marks m t p a) marks) 0 14)

-- 'Its result equals the plain insertion.'
unfoldable pub marked_call : Mesh → Tables → ℕ → Position → List ℕ → Result Inserted
marked_call m t w p marks = insert_unless (marked_refusal (insert_refusal m t w p sphere) m t p sphere marks) m t p sphere
