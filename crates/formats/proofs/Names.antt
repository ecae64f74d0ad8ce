-- The first of the formats that has a name is the format of that name.
use Rattle.std.proofs.Common.{◌≡◌, ◌∙◌, ℕ, Bool, true, false, cond, nat_eq, List, [], ◌∷◌, Option, Some, None, refl, subst, sym}
use Rattle.std.proofs.lemmas.Option.{same_Some, none-some}
use Rattle.std.specs.Cmp.Lexicographic.{pointwise, same_text}
use Rattle.std.specs.List.{find}
use Rattle.std.specs.Option.{ok_or}
use Rattle.formats.specs.Formats.{name_of, formats, ReadsFormat}
use Rattle.formats.specs.declared.format.Format.{Format}
use Rattle.formats.specs.declared.format.Format.TheVariants.{Game, Tennis3, Tennis5, TennisMt, Badminton, Volleyball, Table5, SideOut}
use Rattle.formats.specs.declared.format.NoFormat.{NoFormat}

abbrev has_name : List ℕ → Format → Bool
has_name name f = pointwise nat_eq (name_of f) name

-- no earlier format has the name of a later one
first : (f : Format) → find (has_name (name_of f)) formats ≡ Some f
first Game = refl
first Tennis3 = refl
first Tennis5 = refl
first TennisMt = refl
first Badminton = refl
first Volleyball = refl
first Table5 = refl
first SideOut = refl

-- what is found passes the test
found_at : {X : Type 0} (p : X → Bool) (y x : X) (later : Option X) (b : Bool) → p y ≡ b → (later ≡ Some x → true ≡ p x) → cond b (Some y) later ≡ Some x → true ≡ p x
found_at p y x later true e rest h = subst (λ z. true ≡ p z) (same_Some y x h) (sym e)
found_at p y x later false e rest h = rest h

found : {X : Type 0} (p : X → Bool) (xs : List X) (x : X) → find p xs ≡ Some x → true ≡ p x
found p [] x h = absurd (none-some x h)
found p (y ∷ ys) x h = found_at p y x (find p ys) (p y) refl (found p ys x) h

finds : (name : List ℕ) (f : Format) → name_of f ≡ name → find (has_name name) formats ≡ Some f
finds name f h = subst (λ n. find (has_name n) formats ≡ Some f) h (first f)

pub reads_name : (name : List ℕ) (o : Option Format) (none : NoFormat) → o ≡ find (has_name name) formats → ReadsFormat name_of name (ok_or o none)
reads_name name None none e f = ((λ h. cc), (λ h. absurd (none-some f (e ∙ finds name f h))))
reads_name name (Some g) none e f =
    ((λ h. same_text (name_of f) name (found (has_name name) formats f cc)), (λ h. let same : Some g ≡ Some f = e ∙ finds name f h in cc))
