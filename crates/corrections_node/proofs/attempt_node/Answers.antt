use Rattle.std.proofs.Common.{◌≡◌, ◌≢◌, ◌≤◌, ℕ, Bool, true, List, [], length, Option, None, Some, is_some, unwrap_or, refl, ap, ◌∙◌, sym, subst, arith}
use Rattle.std.specs.Borrow.{Bor}
use Rattle.refusal.specs.Refusal.{refusal_number}
use Rattle.refusal.proofs.Numbers.{number-positive, handed-on}
use Rattle.cavity.specs.Answers.{answers_of}
use Rattle.insertion.proofs.Acceptance.{scratch_after, refused_attempt}
use Rattle.insertion_marks.specs.Given.{given}
use Rattle.corrections.proofs.Leaving.{kept}
use Rattle.corrections_node.proofs.attempt_node.Goals as goal

-- the bytes that the node is tried with
given-or : (o : Option (Bor (List ℕ))) (d : Bor (List ℕ)) → d.now ≡ [] → (unwrap_or o d).now ≡ given o
given-or None d e = e
given-or (Some b) d e = refl

-- and its answers
handed-in : (o : Option (Bor (List ℕ))) (d : Bor (List ℕ)) {flag : Bool} {bytes : Bor (List ℕ)} → flag ≡ is_some o → bytes ≡ unwrap_or o d → d.now ≡ [] →
    answers_of flag bytes.now ≡ answers_of (is_some o) (given o)
handed-in o d {bytes = bytes} f b e = ap (λ flag. answers_of flag bytes.now) f ∙ ap (λ list. answers_of (is_some o) list) (ap (λ x. x.now) b ∙ given-or o d e)

-- and that there is a byte an entry
long : (o : Option (Bor (List ℕ))) (d : Bor (List ℕ)) {flag : Bool} {bytes : Bor (List ℕ)} {n : ℕ} → flag ≡ is_some o → bytes ≡ unwrap_or o d → d.now ≡ [] →
    (is_some o ≡ true → n ≤ length (given o)) → flag ≡ true → n ≤ length bytes.now
long o d {n = n} f b e h t = subst (λ list. n ≤ length list) (sym (ap (λ x. x.now) b ∙ given-or o d e)) (h (sym f ∙ t))

pub find-requires : goal.find-requires
find-requires c =
    let s = c.requires in
    (record { mesh = s.0; points_are = refl; cells_are = refl; used_are = refl; answered = long _ _ c.is_some.ensures c.unwrap_or.ensures refl s.1 }, s.4)

pub returns-in_err-replacement : goal.returns-in_err-replacement
returns-in_err-replacement c =
    let e = c.in_err-replacement.field-0.0 in
    let d : refusal_number e ≢ 0 = λ z. (omega (arith, number-positive e, z)) in
    rw (handed-on _ c.from_residual.ensures.1, sym (handed-in _ _ c.is_some.ensures c.unwrap_or.ensures refl))
    (kept _ _ _ _ _ _ _ _ c.requires.2.range (refused_attempt c.in_err-replacement.ensures d) (λ z. absurd (d z)) (λ n. refl), λ z. absurd (d z))

pub insert_allowed-requires : goal.insert_allowed-requires
insert_allowed-requires c =
    let p = c.requires in
    (record { bytes = _; starable = c.in_ok-replacement.ensures.starable refl }, p.2, p.3, p.5)

pub returns : goal.returns
returns c =
    let T = c.in_ok-replacement.ensures in
    let p = c.requires in
    let S = T.starable refl in
    let G = c.insert_allowed.ensures in
    rw (sym (handed-in _ _ c.is_some.ensures c.unwrap_or.ensures refl))
    (G.0 _ S, λ r. scratch_after S (G.1 r) (T.notes refl) (c.find.auto.exposed ∙ p.4.exposed))
