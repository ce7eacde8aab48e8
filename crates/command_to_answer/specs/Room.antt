-- A list of numbers decoded into the first entries of some room, and a record's numbers counted from its body's start.
use Rattle.std.specs.Prelude.{ℕ, ◌+◌, ◌*◌, ◌-◌, ◌≤◌, List, ◌++◌, ◌≡◌, Result, length, take, drop}
use Rattle.std.proofs.Common.{◌∙◌, ap, subst, zero-add, take_at, drop-drop, length-take-le}
use Rattle.model.specs.Basic.{tab}
use Rattle.model.specs.World.{World}
use Rattle.model.specs.Step.{Call}
use Rattle.model.proofs.Laws.Basic.{length_tab}
use Rattle.units.specs.declared.Refusal.{Refusal}
use Rattle.units.specs.Answer.{Agrees}
use Rattle.program.specs.Bytes.{number, number_at}
use Rattle.program.proofs.Laws.Records.{tab_same}
use Rattle.records.specs.Laws.{take_rest}
use Rattle.command_to_answer.specs.Fill.{decoded}

-- ---- numbers counted from byte a of a body on
number_from : (body : List ℕ) (a j : ℕ) → number_at (drop a body) (0 + 4 * j) 4 ≡ number_at body (a + 4 * j) 4
number_from body a j =
    ap (λ (x : ℕ). number (take 4 (drop x (drop a body)))) (zero-add (4 * j)) ∙
    ap (λ (x : List ℕ). number (take 4 x)) (drop-drop (4 * j) a body)

pub decoded_from :
    {A : Type 0} (of : ℕ → A) (body : List ℕ) (a n : ℕ) →
    decoded of (take (length body - a) (drop a body)) n ≡ tab n (λ i. of (number_at body (a + 4 * i) 4))
decoded_from of body a n = rw (take_rest body a) (tab_same n _ _ (λ j h. ap of (number_from body a j)))

-- ---- values decoded from byte a on into the first n entries of some room: what these entries then hold
pub filled_from :
    {A : Type 0} (of : ℕ → A) (room : List A) {new : List A} {n : ℕ} (body : List ℕ) (a : ℕ) → n ≤ length room →
    new ≡ decoded of (take (length body - a) (drop a body)) (length (take n room)) →
    take n (new ++ drop n room) ≡ tab n (λ i. of (number_at body (a + 4 * i) 4))
filled_from of room {new} {n} body a fits is =
    let values = is ∙ ap (decoded of (take (length body - a) (drop a body))) (length-take-le n room fits) ∙ decoded_from of body a n in
    take_at new (drop n room) n (ap length values ∙ length_tab n _) ∙ values

-- ---- a call with equal lists is the same call
pub agrees_same : (w : World) (call call' : Call) (x : Result ℕ Refusal) (next : World) → call ≡ call' → Agrees w call x next → Agrees w call' x next
agrees_same w call call' x next e agrees = subst (λ (y : Call). Agrees w y x next) e agrees

-- .. and one in an equal world
pub agrees_in : {w v : World} {call : Call} {x : Result ℕ Refusal} {next : World} → w ≡ v → Agrees w call x next → Agrees v call x next
agrees_in {call = call} {x = x} {next = next} e agrees = subst (λ (u : World). Agrees u call x next) e agrees
