-- What the two sinks make of a text: one has its length, the other has written it.
use Rattle.std.proofs.Common.{◌≡◌, ℕ, ◌+◌, ◌-◌, ◌^◌, ◌<◌, ◌≤◌, min, List, [], ◌∷◌, ◌++◌, length, take, drop, set, sym, ap, ◌∙◌, ap₂, append_assoc, add-zero, zero-add, arith}
use Rattle.std.proofs.lemmas.List.{take-append-drop, length-set, take_more_set, drop-set-lt}
use Rattle.sheet.specs.Sinks.{TakesAll, CountsOne, WritesOne, Puts, Measures}
use Rattle.sheet.specs.declared.sink.Measure.{Measure}
use Rattle.sheet.specs.declared.sink.Pen.{Pen}

counted : (s t : Measure) (xs : List ℕ) → TakesAll (λ s _ t. CountsOne s t) s xs t → (t.length ≤ s.length + length xs) × (t.length < 2 ^ 64 - 1 → t.length ≡ s.length + length xs)
counted s t [] h = let e : t.length ≡ s.length = ap (λ (m : Measure). m.length) h in (omega arith, λ _. omega arith)
counted s t (x ∷ xs) h =
    let u = h.0 in
    let e : u.length ≡ min (s.length + 1) (2 ^ 64 - 1) = h.1.0 in
    let r = counted u t xs h.1.1 in
    (omega arith, λ k. let f = r.1 k in omega arith)

pub measures : (t : Measure) (xs : List ℕ) → Puts (λ s _ t. CountsOne s t) (record { length = 0 }) xs t → Measures t.length xs
measures t xs h = let r = counted (record { length = 0 }) t xs h.all in record { no_more = omega arith; counted = λ k. let f = r.1 k in omega arith }

-- one byte at the pen, and then the others behind it
one_more : (b : List ℕ) (at x : ℕ) (xs : List ℕ) → at < length b
    → take (at + 1) (set b at x) ++ (xs ++ drop ((at + 1) + length xs) (set b at x)) ≡ take at b ++ ((x ∷ xs) ++ drop (at + length (x ∷ xs)) b)
one_more b at x xs h =
    let n : (at + 1) + length xs ≡ at + length (x ∷ xs) = omega arith in
    ap₂ (λ p q. p ++ (xs ++ q)) (take_more_set b at x h) (drop-set-lt ((at + 1) + length xs) b at x (omega arith) ∙ ap (λ m. drop m b) n)
    ∙ append_assoc (take at b) (x ∷ []) (xs ++ drop (at + length (x ∷ xs)) b)

wrote : (s t : Pen) (xs : List ℕ) → TakesAll WritesOne s xs t → s.at + length xs ≤ length s.bytes.now
    → (t.bytes.ghost_name ≡ s.bytes.ghost_name) × (t.bytes.now ≡ take s.at s.bytes.now ++ (xs ++ drop (s.at + length xs) s.bytes.now))
wrote s t [] h k =
    (ap (λ (p : Pen). p.bytes.ghost_name) h, ap (λ (p : Pen). p.bytes.now) h ∙ sym (take-append-drop s.at s.bytes.now) ∙ ap (λ n. take s.at s.bytes.now ++ drop n s.bytes.now) (sym (add-zero s.at)))
wrote s t (x ∷ xs) h k =
    let u = h.0 in
    let w = h.1.0 in
    let b = s.bytes.now in
    let here : s.at < length b = omega arith in
    let moved = w.moved here in
    let bytes = w.wrote here in
    let long : length u.bytes.now ≡ length b = ap length bytes ∙ length-set b s.at x in
    let r = wrote u t xs h.1.1 (omega arith) in
    (r.0 ∙ w.same, r.1 ∙ ap₂ (λ a c. take a c ++ (xs ++ drop (a + length xs) c)) moved bytes ∙ one_more b s.at x xs here)

pub penned : (s t : Pen) (xs : List ℕ) → Puts WritesOne s xs t → s.at ≡ 0 → length xs ≤ length s.bytes.now
    → (t.bytes.ghost_name ≡ s.bytes.ghost_name) × (t.bytes.now ≡ xs ++ drop (length xs) s.bytes.now)
penned s t xs h e k =
    let r = wrote s t xs h.all (omega arith) in
    (r.0, r.1 ∙ ap (λ a. take a s.bytes.now ++ (xs ++ drop (a + length xs) s.bytes.now)) e ∙ ap (λ n. xs ++ drop n s.bytes.now) (zero-add (length xs)))
