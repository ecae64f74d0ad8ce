-- Blanks behind a line.
use Rattle.std.proofs.Common.{◌≡◌, ℕ, ◌+◌, ◌-◌, ◌<◌, ◌≤◌, true, false, cond, List, [], ◌∷◌, ◌++◌, length, get_or, take, refl, sym, ap, ◌∙◌, arith}
use Rattle.std.proofs.lemmas.List.{take_more, take_all}
use Rattle.chair.specs.Commands.{is_blank, joined_to, unpadded}

-- a blank at the end is left out, and any other byte ends the line
pub end_blank : (bs : List ℕ) (b : ℕ) → is_blank b ≡ true → unpadded (bs ++ (b ∷ [])) ≡ unpadded bs
end_blank [] b e = ap (λ t. cond t [] (b ∷ [])) e
end_blank (c ∷ cs) b e = ap (joined_to c) (end_blank cs b e)

before : (c b : ℕ) (cs : List ℕ) → joined_to c (cs ++ (b ∷ [])) ≡ c ∷ (cs ++ (b ∷ []))
before c b [] = refl
before c b (d ∷ ds) = refl

pub end_dark : (bs : List ℕ) (b : ℕ) → is_blank b ≡ false → unpadded (bs ++ (b ∷ [])) ≡ bs ++ (b ∷ [])
end_dark [] b e = ap (λ t. cond t [] (b ∷ [])) e
end_dark (c ∷ cs) b e = ap (joined_to c) (end_dark cs b e) ∙ before c b cs

-- a line by the bytes before its last one, and that one
module _ (xs : List ℕ) (some : 1 ≤ length xs) where
  last : xs ≡ take (length xs - 1) xs ++ (get_or xs (length xs - 1) 0 ∷ [])
  last =
      let n = length xs - 1 in
      let e : length xs ≡ n + 1 = omega arith in
      let l : n < length xs = omega arith in
      sym (take_all (length xs) xs (omega arith)) ∙ ap (λ m. take m xs) e ∙ take_more xs n 0 l

  pub end_more : is_blank (get_or xs (length xs - 1) 0) ≡ true → unpadded xs ≡ unpadded (take (length xs - 1) xs)
  end_more e = ap unpadded last ∙ end_blank (take (length xs - 1) xs) (get_or xs (length xs - 1) 0) e

  pub end_found : is_blank (get_or xs (length xs - 1) 0) ≡ false → unpadded xs ≡ xs
  end_found e = ap unpadded last ∙ end_dark (take (length xs - 1) xs) (get_or xs (length xs - 1) 0) e ∙ sym last
