-- Bytes that are put one after the other.
use Rattle.std.proofs.Common.{◌≡◌, ℕ, List, [], ◌∷◌, ◌++◌, refl, subst}
use Rattle.sheet.specs.Sinks.{TakesAll, Puts}

-- no byte
pub none : {X : Type 0} {takes : X → ℕ → X → Type 0} {s : X} → Puts takes s [] s
none = record { all = refl }

-- some bytes, and then more
all_then : {X : Type 0} (takes : X → ℕ → X → Type 0) (s t u : X) (xs ys : List ℕ) → TakesAll takes s xs t → TakesAll takes t ys u → TakesAll takes s (xs ++ ys) u
all_then takes s t u [] ys h k = subst (λ v. TakesAll takes v ys u) h k
all_then takes s t u (x ∷ xs) ys h k = (h.0, (h.1.0, all_then takes h.0 t u xs ys h.1.1 k))

pub then : {X : Type 0} {takes : X → ℕ → X → Type 0} {s t u : X} {xs ys : List ℕ} → Puts takes s xs t → Puts takes t ys u → Puts takes s (xs ++ ys) u
then {takes} {s} {t} {u} {xs} {ys} h k = record { all = all_then takes s t u xs ys h.all k.all }

-- bytes that are equal
pub put_as : {X : Type 0} {takes : X → ℕ → X → Type 0} {s t : X} {xs ys : List ℕ} → xs ≡ ys → Puts takes s xs t → Puts takes s ys t
put_as {takes} {s} {t} e h = subst (λ xs. Puts takes s xs t) e h

-- a sink that is equal
pub put_from : {X : Type 0} {takes : X → ℕ → X → Type 0} {s r t : X} {xs : List ℕ} → s ≡ r → Puts takes s xs t → Puts takes r xs t
put_from {takes} {t} {xs} e h = subst (λ s. Puts takes s xs t) e h
