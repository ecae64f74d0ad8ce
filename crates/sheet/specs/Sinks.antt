-- What text is put into: one sink counts the bytes, the other writes them.
use Rattle.std.specs.Prelude.{◌≡◌, ℕ, ◌+◌, ◌-◌, ◌^◌, ◌<◌, ◌≤◌, min, List, [], ◌∷◌, length, slice_set}
use Rattle.sheet.specs.declared.sink.Measure.{Measure}
use Rattle.sheet.specs.declared.sink.Pen.{Pen}

-- the bytes are taken in turn, and bring the sink s to t
abbrev pub TakesAll : {X : Type 0} → (X → ℕ → X → Type 0) → X → List ℕ → X → Type 0
TakesAll takes s [] t = t ≡ s
TakesAll {X} takes s (x ∷ xs) t = (u : X) × (takes s x u × TakesAll takes u xs t)

pub record Puts {X : Type 0} (takes : X → ℕ → X → Type 0) (s : X) (xs : List ℕ) (t : X) : Type 0 where
  pub all : TakesAll takes s xs t

-- one byte more, as far as they can be counted
abbrev pub CountsOne : Measure → Measure → Type 0
CountsOne s t = t.length ≡ min (s.length + 1) (2 ^ 64 - 1)

-- where it fits, the byte stands at the pen, which is now behind it
pub record WritesOne (s : Pen) (byte : ℕ) (t : Pen) : Type 0 where
  pub same : t.bytes.ghost_name ≡ s.bytes.ghost_name
  pub moved : s.at < length s.bytes.now → t.at ≡ s.at + 1
  pub wrote : s.at < length s.bytes.now → t.bytes.now ≡ slice_set s.bytes.now s.at byte

-- n is the length of the text, or, if it is the highest that can be counted, at most that
pub record Measures (n : ℕ) (text : List ℕ) : Type 0 where
  pub no_more : n ≤ length text
  pub counted : n < 2 ^ 64 - 1 → n ≡ length text
