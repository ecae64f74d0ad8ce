-- The longest front of a list of points that a contest takes.
use Rattle.std.proofs.Common.{◌≡◌, ℕ, zero, suc, ◌+◌, ◌<◌, ◌≤◌, true, false, List, [], ◌∷◌, length, get_or, take, is_err, Some, None, Option, Result, sym, refl, ap, ◌∙◌, subst, ap₂, arith}
use Rattle.std.proofs.lemmas.List.{take_more}
use Rattle.contest.specs.Contests.{Play, Contest, run, Taken, played, Takes, Longest, given, answered}
use Rattle.contest.specs.declared.side.Side.{Side}
use Rattle.contest.specs.declared.side.Side.TheVariants.{A}
use Rattle.contest.specs.declared.fault.ContestFault.{ContestFault}
use Rattle.contest.proofs.Points.{taken}
use Rattle.contest.proofs.Runs.{not_both, run_append, taken_push}

-- where there is a winner, no longer front is taken
stopped : {S : Type 0} (p : Play S) (s : S) (ps : List Side) (i n : ℕ) (w : Side) → p.winner (run p s (take i ps)) ≡ Some w → n ≤ length ps → Taken p s (take n ps) → n ≤ i
stopped p s ps i zero w e h t = omega arith
stopped p s [] i (suc n) w e h t = absurd (omega arith)
stopped p s (x ∷ ps) zero (suc n) w e h t = absurd (not_both (p.winner s) w t.0 e)
stopped p s (x ∷ ps) (suc i) (suc n) w e h t = let k = stopped p (p.after s x) ps i n w e (omega arith) t.1 in omega arith

-- a point is refused where there is a winner, and nowhere else
not_won : (w : Option Side) (r : Result Unit ContestFault) → r ≡ answered w → false ≡ is_err r → w ≡ None
not_won None r e k = refl
not_won (Some w) r e k = cc

has_won : (w : Option Side) (r : Result Unit ContestFault) → r ≡ answered w → true ≡ is_err r → (x : Side) × (w ≡ Some x)
has_won None r e k = absurd (cc)
has_won (Some w) r e k = (w, refl)

refused : {S : Type 0} (c : Contest S) (s : S) (x w : Side) → c.play.winner s ≡ Some w → given c s x ≡ s
refused c s x w e = rw e refl

module _ {S : Type 0} (c : Contest S) (s : S) (ps : List Side) (i : ℕ) (here : i < length ps) where
  -- one more point is taken
  pub one_on : (d : Contest S) (t u : S) (r : Result Unit ContestFault) → d ≡ c → t ≡ run c.play s (take i ps) → Taken c.play s (take i ps)
      → r ≡ answered (d.play.winner t) → false ≡ is_err r → u ≡ given d t (get_or ps i A)
      → (u ≡ run c.play s (take (i + 1) ps)) × Taken c.play s (take (i + 1) ps)
  one_on d t u r e et h er ok eu =
      let x = get_or ps i A in
      let none = not_won (d.play.winner t) r er ok in
      let more = take_more ps i A here in (
        eu ∙ taken (d.play.winner t) t (d.play.after t x) none ∙ ap₂ (λ k v. k.play.after v x) e et
            ∙ sym (run_append c.play s (take i ps) (x ∷ [])) ∙ ap (run c.play s) (sym more),
        subst (Taken c.play s) (sym more) (taken_push c.play s (take i ps) x h (ap₂ (λ k v. k.play.winner v) (sym e) (sym et) ∙ none)),
      )

  -- or it is refused, and this front is the longest
  pub refused_here : (o : Side) (d : Contest S) (t u : S) (r : Result Unit ContestFault) → d ≡ c → s ≡ c.opening o → t ≡ run c.play s (take i ps) → Taken c.play s (take i ps)
      → r ≡ answered (d.play.winner t) → true ≡ is_err r → u ≡ given d t (get_or ps i A)
      → Longest c o ps i × (u ≡ played c o (take i ps))
  refused_here o d t u r e es et h er err eu =
      let won = has_won (d.play.winner t) r er err in
      let now = et ∙ ap (λ (v : S). run c.play v (take i ps)) es in
      let here_won = ap₂ (λ k v. k.play.winner v) (sym e) (sym now) ∙ won.1 in (
        record {
          within = omega arith;
          taken = subst (λ (v : S). Taken c.play v (take i ps)) es h;
          longest = λ n k q. stopped c.play (c.opening o) ps i n won.0 here_won k q;
        },
        eu ∙ refused d t (get_or ps i A) won.0 won.1 ∙ now,
      )

-- or all of them are taken
pub all_taken : {S : Type 0} (c : Contest S) (o : Side) (s t : S) (ps : List Side) (i r : ℕ) → r ≡ length ps → i ≡ r → s ≡ c.opening o → t ≡ run c.play s (take i ps) → Taken c.play s (take i ps)
    → Longest c o ps r × (t ≡ played c o (take r ps))
all_taken {S} c o s t ps i r er ei es et h = (
  record {
    within = omega arith;
    taken = subst (λ (n : ℕ). Takes c o (take n ps)) ei (subst (λ (v : S). Taken c.play v (take i ps)) es h);
    longest = λ n k q. omega arith;
  },
  et ∙ ap₂ (λ v n. run c.play v (take n ps)) es ei,
)
