use Rattle.std.proofs.Common.{◌≡◌, ℕ, ◌+◌, List, [], ◌∷◌, ◌++◌, sym, refl, ap, ◌∙◌, append_assoc, add-one}
use Rattle.contest.specs.Contests.{Play}
use Rattle.contest.specs.Piles.{contest_of}
use Rattle.sheet.specs.Text.{spaced, open_field, open_fields}
use Rattle.sheet.proofs.Sinking.{then, put_as}
use Rattle.sheet.proofs.text.put_open_levels.Goals as goal

spaced_append : (fs gs : List (List ℕ)) → spaced (fs ++ gs) ≡ spaced fs ++ spaced gs
spaced_append [] gs = refl
spaced_append (f ∷ fs) gs = ap (λ xs. 32 ∷ (f ++ xs)) (spaced_append fs gs) ∙ ap (λ xs. 32 ∷ xs) (sym (append_assoc f (spaced fs) (spaced gs)))

one_deeper : {S : Type 0} (p : Play S) (s : S) (d : ℕ) → spaced (open_fields p s d) ++ spaced (open_field (p.level s d)) ≡ spaced (open_fields p s (d + 1))
one_deeper p s d = sym (spaced_append (open_fields p s d) (open_field (p.level s d))) ∙ ap (λ n. spaced (open_fields p s n)) (sym (add-one d))

pub loop-depth-preserved : goal.loop-depth-preserved
loop-depth-preserved g c =
    let p = (contest_of (g.C.Contest.pile c.args.pile.now)).play in
    let s = g.C.Contest.standing c.args.pile.now in
    put_as (one_deeper p s c.loop-depth.depth)
    (then c.loop-depth.invariant (put_as (ap (λ l. spaced (open_field l)) c.level.ensures) c.put_open_level.ensures))
