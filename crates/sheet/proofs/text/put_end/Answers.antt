use Rattle.std.proofs.Common.{◌≡◌, ℕ, List, [], ◌∷◌, ◌++◌, refl, ap, ◌∙◌, append_assoc}
use Rattle.contest.specs.Piles.{contest_of}
use Rattle.sheet.specs.Text.{side, spaced, rest_of_line, open_fields, last_line}
use Rattle.sheet.proofs.Sinking.{then, put_as, put_from}
use Rattle.sheet.proofs.text.put_end.Goals as goal
use Rattle.sheet.proofs.text.put_end.Goals.{in-Some, in-None}

-- the rest of a line is its fields, each behind a space, and the end
line_ends : (fs : List (List ℕ)) → spaced fs ++ (10 ∷ []) ≡ rest_of_line fs
line_ends [] = refl
line_ends (f ∷ fs) = ap (λ xs. 32 ∷ xs) (append_assoc f (spaced fs) (10 ∷ []) ∙ ap (λ xs. f ++ xs) (line_ends fs))

pub returns : goal.returns
returns g c =
    let p = (contest_of (g.C.Contest.pile c.args.pile.now)).play in
    let s = g.C.Contest.standing c.args.pile.now in
    elim c.match-winner.branch [
      | in-Some w ↦
          put_as (ap (last_line p s) w.in-Some.ensures) (then w.put_text.ensures (then w.put_side.ensures (put_from w.sink-is c.put.ensures)))
      | in-None w ↦
          put_as (ap (last_line p s) w.in-None.ensures)
          (then w.put_text-in-None.ensures
          (then (put_as (ap side w.server.ensures) w.put_side-in-None.ensures)
          (put_as (line_ends (open_fields p s 16)) (then w.put_open_levels.ensures (put_from w.sink-is c.put.ensures)))))
    ]
